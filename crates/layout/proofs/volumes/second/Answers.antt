use Rattle.layout.proofs.Rewriting.{laid_as_second, known_as_second, current_second}
use Rattle.layout.proofs.volumes.second.Goals as goal

pub returns-clause-laid : goal.returns-clause-laid
returns-clause-laid c = laid_as_second

pub returns-clause-known : goal.returns-clause-known
returns-clause-known c = known_as_second

pub returns-clause-current : goal.returns-clause-current
returns-clause-current c = current_second

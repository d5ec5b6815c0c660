use Rattle.journal.proofs.Ends.{every_stop, every_mount}
use Rattle.journal.proofs.laws.every_end.Goals as goal

pub returns-clause-stop : goal.returns-clause-stop
returns-clause-stop c = every_stop

pub returns-clause-mount : goal.returns-clause-mount
returns-clause-mount c = every_mount

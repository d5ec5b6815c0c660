use Rattle.layout.proofs.LargeLaws.{large_fresh, large_region}
use Rattle.layout.proofs.LargeParts.{large_first}
use Rattle.layout.proofs.volumes.large.Goals as goal

pub returns-clause-first : goal.returns-clause-first
returns-clause-first c = large_first

pub returns-clause-region : goal.returns-clause-region
returns-clause-region c = large_region

pub returns-clause-fresh : goal.returns-clause-fresh
returns-clause-fresh c = large_fresh

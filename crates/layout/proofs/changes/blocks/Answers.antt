use Rattle.layout.proofs.StepLaws.{each_own, others_hold, each_change}
use Rattle.layout.proofs.changes.blocks.Goals as goal

pub returns-clause-own : goal.returns-clause-own
returns-clause-own c = each_own

pub returns-clause-others : goal.returns-clause-others
returns-clause-others c = others_hold

pub returns-clause-times : goal.returns-clause-times
returns-clause-times c = each_change

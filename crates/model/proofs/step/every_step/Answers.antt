use Rattle.model_tree.proofs.Rights.LimitLaws.{modes_keep_limits, inheritance_keeps_limits}
use Rattle.model.proofs.Operations.StepProofs.{every_step}
use Rattle.model.proofs.step.every_step.Goals as goal

pub returns : goal.returns
returns c = every_step modes_keep_limits inheritance_keeps_limits

use Rattle.model_tree.proofs.Rights.LimitLaws.{modes_keep_limits, inheritance_keeps_limits}
use Rattle.model.proofs.Sessions.OpensSteps.{every_step_keeps}
use Rattle.model.proofs.step.every_step_keeps_opens.Goals as goal

pub returns : goal.returns
returns c = every_step_keeps modes_keep_limits inheritance_keeps_limits

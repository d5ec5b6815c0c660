use Rattle.model_tree.proofs.Rights.LimitLaws.{inheritance_keeps_limits}
use Rattle.model_tree.proofs.acl_laws.inheritance_keeps_limits.Goals as goal

pub returns : goal.returns
returns c = inheritance_keeps_limits

use Rattle.model_tree.proofs.Rights.LimitLaws.{creation_keeps_limits}
use Rattle.model_tree.proofs.acl_laws.creation_keeps_limits.Goals as goal

pub returns : goal.returns
returns c = creation_keeps_limits

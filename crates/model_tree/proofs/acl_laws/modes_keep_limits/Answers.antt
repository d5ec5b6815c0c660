use Rattle.model_tree.proofs.Rights.LimitLaws.{modes_keep_limits}
use Rattle.model_tree.proofs.acl_laws.modes_keep_limits.Goals as goal

pub returns : goal.returns
returns c = modes_keep_limits

use Rattle.model_tree.proofs.Rights.LimitLaws.{set_lists_are_within_limits}
use Rattle.model_tree.proofs.acl_laws.set_lists_are_within_limits.Goals as goal

pub returns : goal.returns
returns c = set_lists_are_within_limits

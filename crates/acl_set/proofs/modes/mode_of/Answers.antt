use Rattle.std.proofs.Common.{rules}
use Rattle.model_tree.specs.Rights.Mode.{mode_of}
use Rattle.acl_set.proofs.modes.mode_of.Goals as goal

pub returns-clause-value : goal.returns-clause-value
unfolding mode_of
returns-clause-value c = search rules

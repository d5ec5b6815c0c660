use Rattle.std.proofs.Common.{arith}
use Rattle.std.proofs.lemmas.Grind.{common_steps}
use Rattle.model_tree.specs.Rights.Inherit.{inherited}
use Rattle.acl_set.proofs.inheritance.inherit.Goals as goal

pub returns-clause-list : goal.returns-clause-list
unfolding inherited
returns-clause-list c = grind (arith, common_steps)

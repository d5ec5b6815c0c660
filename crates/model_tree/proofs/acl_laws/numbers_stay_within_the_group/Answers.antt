use Rattle.model_tree.proofs.Rights.NumberLaws.{numbers_stay_within_the_group}
use Rattle.model_tree.proofs.acl_laws.numbers_stay_within_the_group.Goals as goal

pub returns : goal.returns
returns c = numbers_stay_within_the_group

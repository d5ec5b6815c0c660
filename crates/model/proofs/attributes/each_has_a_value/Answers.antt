use Rattle.std.proofs.Common.{refl}
use Rattle.model.specs.Attributes.Attribute.{attributes_of}
use Rattle.model.proofs.attributes.each_has_a_value.Goals as goal

pub returns : goal.returns
unfolding attributes_of
returns c = record { each = λ limits number node. refl; bitmap = refl }

use Rattle.std.proofs.Common.{map, ◌≡◌, drop}
use Rattle.xdr.proofs.Loops.{with_prefix}
use Rattle.model.specs.Attributes.AttributeValue.{values_at}
use Rattle.wire_attributes.specs.Views.{value_view}
use Rattle.wire_attributes.proofs.values.each_value.Given as goal

abbrev pub invariant-loop-attribute : goal.invariant-loop-attribute
invariant-loop-attribute l =
    with_prefix (map value_view l.values.items) (values_at (drop l.attribute-index l.attributes) l.at)
    ≡ values_at l.attributes l.fn.at

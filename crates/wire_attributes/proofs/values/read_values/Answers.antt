use Rattle.std.proofs.Common.{◌≡◌, map, length, rules}
use Rattle.wire_attributes.specs.Views.{value_view}
use Rattle.model.proofs.Wire.AttributeExact.{are_values}
use Rattle.wire_attributes.proofs.values.read_values.Goals as goal

pub returns-clause-values : goal.returns-clause-values
returns-clause-values c =
    let none : length c.in_ok-values.rest ≡ 0 = search rules in
    let fits = rw c.new.ensures at c.each_value.ensures.bytes in
    let read = rw c.new.ensures at c.in_ok-values.ensures.reads in
    are_values c.args.attributes.now c.args.bytes.now (map value_view c.in_ok-values.values.items) c.in_ok-values.rest fits read none

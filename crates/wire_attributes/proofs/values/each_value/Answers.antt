use Rattle.std.proofs.Common.{map, ◌≡◌, ◌++◌, ◌∷◌, [], inl, inr}
use Rattle.std.proofs.lemmas.Result.{err_from_is_err_and}
use Rattle.std.proofs.lemmas.List.{map_push}
use Rattle.model.specs.Attributes.AttributeValue.{values_at}
use Rattle.wire_attributes.specs.Views.{value_view}
use Rattle.wire_attributes.proofs.Loops.{value_on, value_stops, values_done}
use Rattle.wire_attributes.proofs.values.each_value.Goals as goal

pub returns-in_err-value-clause-reads : goal.returns-in_err-value-clause-reads
returns-in_err-value-clause-reads c =
    let p = err_from_is_err_and c.from_residual.result c.from_residual.ensures.1 in
    elim (c.in_err-value.ensures.0) [
      | inl memory ↦ rw (p.1, p.2) (inl memory)
      | inr refused ↦ rw (p.1, p.2) (inr
          (value_stops (map value_view c.loop-attribute.values.items) c.args.attributes.now c.loop-attribute.attribute-index c.loop-attribute.at c.in_err-value.field-0.0
          (values_at c.args.attributes.now c.args.at) c.loop-attribute-test.true refused c.loop-attribute.invariant))
    ]

pub loop-attribute-preserved : goal.loop-attribute-preserved
loop-attribute-preserved c =
    let one = value_view c.in_ok-value.value in
    let e : map value_view c.push.new.self.items ≡ map value_view c.loop-attribute.values.items ++ one ∷ [] =
    rw c.in_ok-push.ensures.items (map_push value_view c.loop-attribute.values.items c.in_ok-value.value) in
    rw e
    (value_on (map value_view c.loop-attribute.values.items) c.args.attributes.now c.loop-attribute.attribute-index c.loop-attribute.at one c.read.new.r
    (values_at c.args.attributes.now c.args.at) c.loop-attribute-test.true c.in_ok-value.ensures c.loop-attribute.invariant)

pub returns-clause-reads : goal.returns-clause-reads
returns-clause-reads c =
    values_done (map value_view c.loop-attribute.values.items) c.args.attributes.now c.loop-attribute.attribute-index c.loop-attribute.at
    (values_at c.args.attributes.now c.args.at) c.loop-attribute-test.false c.loop-attribute.invariant

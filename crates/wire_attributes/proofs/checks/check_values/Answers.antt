use Rattle.std.proofs.Common.{◌≡◌, ◌<◌, length, Some, rules}
use Rattle.std.specs.Prelude.{map}
use Rattle.std.specs.List.{flat_map}
use Rattle.model.specs.Attributes.Attribute.{value_refusals}
use Rattle.model_tree.specs.Refusals.Refusal.{first_refusal}
use Rattle.wire_attributes.specs.Views.{value_view}
use Rattle.wire_attributes.proofs.EachTest.{refuses_here, passes_here}
use Rattle.wire_attributes.proofs.checks.check_values.Goals as goal

pub returns-in_err-check_value : goal.returns-in_err-check_value
returns-in_err-check_value c =
    let tests = value_refusals c.args.limits.now c.args.kind in
    let within : c.loop-value.value-index < length c.args.values.now = c.loop-value-test.true in
    let first : first_refusal (flat_map tests (map value_view c.args.values.now)) ≡ Some c.in_err-check_value.field-0.0 =
    refuses_here value_view tests c.args.values.now c.loop-value.value-index c.value-item.result c.in_err-check_value.field-0.0 within
    c.value-item.is c.loop-value.invariant c.in_err-check_value.ensures in
    search rules

pub loop-value-preserved : goal.loop-value-preserved
loop-value-preserved c =
    passes_here value_view (value_refusals c.args.limits.now c.args.kind) c.args.values.now c.loop-value.value-index c.value-item.result
    c.loop-value-test.true c.value-item.is c.loop-value.invariant (c.in_ok-check_value.ensures)

use Rattle.std.proofs.Common.{◌≡◌, drop, map}
use Rattle.std.specs.List.{flat_map}
use Rattle.model.specs.Attributes.Attribute.{value_refusals}
use Rattle.model_tree.specs.Refusals.Refusal.{first_refusal}
use Rattle.wire_attributes.specs.Views.{value_view}
use Rattle.wire_attributes.proofs.checks.check_values.Given as goal

abbrev pub invariant-loop-value : goal.invariant-loop-value
invariant-loop-value l =
    first_refusal (flat_map (value_refusals l.limits l.kind) (map value_view l.values))
    ≡ first_refusal (flat_map (value_refusals l.limits l.kind) (map value_view (drop l.value-index l.values)))

use Rattle.std.proofs.Common.{◌≡◌, drop, map}
use Rattle.std.specs.List.{flat_map}
use Rattle.model.specs.Attributes.Attribute.{entry_refusals}
use Rattle.model_tree.specs.Refusals.Refusal.{first_refusal}
use Rattle.wire_attributes.specs.Views.{entry_view}
use Rattle.wire_attributes.proofs.checks.check_entries.Given as goal

abbrev pub invariant-loop-entry : goal.invariant-loop-entry
invariant-loop-entry l =
    first_refusal (flat_map (entry_refusals l.kind) (map entry_view l.entries))
    ≡ first_refusal (flat_map (entry_refusals l.kind) (map entry_view (drop l.entry-index l.entries)))

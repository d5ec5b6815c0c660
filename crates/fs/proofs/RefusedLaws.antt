-- Tests that are part of others.
use Rattle.std.specs.Prelude.{◌≡◌, Some}
use Rattle.model_tree.specs.declared.status.Status.{Status}
use Rattle.model_tree.specs.Refusals.Refusal.{Refusals, first_refusal}
use Rattle.model.specs.declared.not_done.NotDone.{NotDone}
use Rattle.model.specs.declared.not_done.NotDone.TheVariants as refusal
use Rattle.wire_attributes.specs.Given.{IsRefusedBy}

-- what refuses by some tests refuses by others
pub carried : (some others : Refusals) → ((reason : Status) → first_refusal some ≡ Some reason → first_refusal others ≡ Some reason)
    → (refused : NotDone) → IsRefusedBy some refused → IsRefusedBy others refused
carried some others by (refusal.Status reason) refused = by reason refused
carried some others by refusal.Memory refused = tt

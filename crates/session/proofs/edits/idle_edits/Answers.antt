use Rattle.std.proofs.Common.{arith, length, sym, ap, ◌∙◌}
use Rattle.std.proofs.lemmas.List.{length-map, length-replicate}
use Rattle.model_tree.specs.Seats.SeatEdits.{Stays, edit_view}
use Rattle.session.proofs.Writes.{none_if_stay}
use Rattle.session.proofs.edits.idle_edits.Goals as goal

pub invariant_of-result : goal.invariant_of-result
invariant_of-result c =
    let edits = c.loop-place.list.items in
    let long = sym (length-map edits edit_view) ∙ ap length c.loop-place.invariant ∙ length-replicate c.loop-place._place Stays in
    let none = none_if_stay c.loop-place._place edits c.loop-place.invariant in
    record { few = omega (arith, long, c.requires, c.loop-place-test.false, c.loop-place.auto._place-end); one = omega (arith, none) }

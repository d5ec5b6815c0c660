use Rattle.std.proofs.Common.{◌+◌, ◌*◌, ℕ, Some, refl}
use Rattle.model_tree.specs.Seats.SeatViews.{held_view}
use Rattle.seats.specs.Encoding.{part_of, slot_text}
use Rattle.volume.proofs.SeatRows.{pushed_none, pushed_more}
use Rattle.volume.proofs.seat_places.push_slot.Goals as goal

pub loop-part-init : goal.loop-part-init
loop-part-init c = pushed_none c.args.updates.now.items (c.first_of.result + 1 + 4 * c.args.slot) (λ k. part_of k (slot_text (Some (held_view c.args.held.now))))

pub loop-part-preserved : goal.loop-part-preserved
loop-part-preserved c =
    let first : ℕ = c.first_of.result + 1 + 4 * c.args.slot in
    pushed_more c.args.updates.now.items c.loop-part.updates.items c.push.new.self.items first c.loop-part.part (λ k. part_of k (slot_text (Some (held_view c.args.held.now))))
    (first + c.loop-part.part) c.slot_sector.result c.loop-part.invariant c.in_ok-push.ensures.items refl c.slot_sector.ensures

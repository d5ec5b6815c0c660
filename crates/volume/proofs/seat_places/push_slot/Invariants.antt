use Rattle.std.proofs.Common.{◌≡◌, ◌++◌, Some}
use Rattle.model_tree.specs.Seats.SeatViews.{held_view}
use Rattle.seats.specs.Encoding.{part_of, slot_text}
use Rattle.volume.specs.SeatUpdates.{row}
use Rattle.volume.proofs.seat_places.push_slot.Given as goal

abbrev pub invariant-loop-part : goal.invariant-loop-part
invariant-loop-part l = l.updates.items ≡ l.fn.updates.items ++ row l.first l.part (λ k. part_of k (slot_text (Some (held_view l.held))))

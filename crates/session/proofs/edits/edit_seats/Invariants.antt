use Rattle.std.proofs.Common.{◌≡◌, map}
use Rattle.model_tree.specs.Seats.SeatEdits.{edited_all, edit_view}
use Rattle.model_tree.specs.Seats.SeatViews.{seats_view}
use Rattle.session.proofs.edits.edit_seats.Given as goal

abbrev pub invariant-loop-place : goal.invariant-loop-place
invariant-loop-place l = seats_view l.seats ≡ edited_all (map (λ p. edit_view p.1) l.yielded) (seats_view l.initial.seats)

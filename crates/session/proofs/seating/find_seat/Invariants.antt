use Rattle.std.proofs.Common.{◌≡◌, drop, map}
use Rattle.model_tree.specs.Seats.Seats.{seat_of}
use Rattle.model_tree.specs.Seats.SeatViews.{place_view, seats_view}
use Rattle.session.proofs.seating.find_seat.Given as goal

abbrev pub invariant-loop-place : goal.invariant-loop-place
invariant-loop-place l = seat_of l.id (seats_view l.seats) ≡ seat_of l.id (map place_view (drop l.place-index l.seats.places.items))

use Rattle.std.proofs.Common.{◌≡◌, drop, map}
use Rattle.model_tree.specs.Seats.Seats.{has_seat}
use Rattle.model_tree.specs.Seats.SeatViews.{place_view}
use Rattle.volume_load.proofs.seating.is_seated.Given as goal

abbrev pub invariant-loop-place : goal.invariant-loop-place
invariant-loop-place l = has_seat l.id (map place_view l.places) ≡ has_seat l.id (drop l.place-index (map place_view l.places))

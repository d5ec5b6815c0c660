use Rattle.std.proofs.Common.{take, map}
use Rattle.model_tree.specs.Seats.SeatViews.{place_view}
use Rattle.volume_load.specs.Seating.{AreMade}
use Rattle.volume_load.proofs.seating.are_made.Given as goal

abbrev pub invariant-loop-place : goal.invariant-loop-place
invariant-loop-place l = AreMade l.run (map place_view (take l.place-index l.places))

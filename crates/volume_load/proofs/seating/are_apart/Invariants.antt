use Rattle.std.proofs.Common.{drop, map}
use Rattle.model_tree.specs.Seats.Seats.{SeatsApart}
use Rattle.model_tree.specs.Seats.SeatViews.{place_view}
use Rattle.volume_load.proofs.seating.are_apart.Given as goal

abbrev pub invariant-loop-i : goal.invariant-loop-i
invariant-loop-i l = SeatsApart (drop l.i (map place_view l.places)) → SeatsApart (map place_view l.places)

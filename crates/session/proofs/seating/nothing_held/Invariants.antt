use Rattle.std.proofs.Common.{◌≡◌, map, replicate, None}
use Rattle.std.specs.Option.{option_map}
use Rattle.model_tree.specs.Seats.SeatViews.{held_view}
use Rattle.session.proofs.seating.nothing_held.Given as goal

abbrev pub invariant-loop-slot : goal.invariant-loop-slot
invariant-loop-slot l = map (option_map held_view) l.held.items ≡ replicate l._slot None

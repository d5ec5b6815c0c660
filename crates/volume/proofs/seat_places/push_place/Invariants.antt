use Rattle.std.proofs.Common.{◌≡◌, ◌++◌}
use Rattle.std.specs.Option.{option_map}
use Rattle.model_tree.specs.Seats.SeatViews.{seat_view}
use Rattle.seats.specs.Encoding.{seat_sector}
use Rattle.volume.specs.SeatUpdates.{row}
use Rattle.volume.proofs.seat_places.push_place.Given as goal

abbrev pub invariant-loop-k : goal.invariant-loop-k
invariant-loop-k l = l.updates.items ≡ l.fn.updates.items ++ row l.first l.k (λ k. seat_sector k (option_map (λ s. seat_view s.now) l.seat))

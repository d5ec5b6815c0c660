use Rattle.std.proofs.Common.{◌≡◌, ℕ, ◌<◌}
use Rattle.std.specs.Prelude.{IsTrue}
use Rattle.model_tree.specs.Seats.SeatViews.{place_view}
use Rattle.seats.specs.Encoding.{is_determined, sector_of, seat_sector}
use Rattle.seats.proofs.reading.are_sectors_of.Given as goal

abbrev pub invariant-loop-k : goal.invariant-loop-k
invariant-loop-k l = (j : ℕ) → j < l.k → IsTrue (is_determined l.whole j (place_view l.place)) → sector_of l.sectors j ≡ seat_sector j (place_view l.place)

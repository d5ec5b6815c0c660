use Rattle.std.proofs.Common.{◌≡◌, ◌<◌, ℕ, None, get_or, map}
use Rattle.model_tree.specs.Seats.SeatViews.{place_view}
use Rattle.volume_load.proofs.seating.is_free.Given as goal

abbrev pub invariant-loop-place : goal.invariant-loop-place
invariant-loop-place l = (k : ℕ) → k < l.place-index → get_or (map place_view l.place-items) k None ≡ None

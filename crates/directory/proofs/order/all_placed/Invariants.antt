use Rattle.std.proofs.Common.{◌≡◌, ◌<◌, ℕ, length, get_or}
use Rattle.directory.specs.declared.order.PlacedEntry.{PlacedEntry}
use Rattle.directory.specs.Order.{at_place, placed_in}
use Rattle.directory.proofs.order.all_placed.Given as goal

abbrev pub invariant-loop-place : goal.invariant-loop-place
invariant-loop-place l = record {
  many : length l.all.items ≡ l.place;
  each : (i : ℕ) (d : PlacedEntry) → i < l.place → placed_in (get_or l.all.items i d) ≡ at_place l.records i;
}

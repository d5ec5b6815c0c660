use Rattle.std.proofs.Common.{◌≡◌, ◌<◌, ◌≤◌, ◌-◌, true, false, length, slice_index_or}
use Rattle.chunks.proofs.search.position.Given as goal

abbrev pub invariant-loop-low : goal.invariant-loop-low
invariant-loop-low g l = record {
  ordered : l.low ≤ l.high;
  within : l.high ≤ length l.entries;
  before : (d : _) → 0 < l.low → g.S.Test.passes l.test (slice_index_or l.entries (l.low - 1) d) ≡ false;
  here : (d : _) → l.high < length l.entries → g.S.Test.passes l.test (slice_index_or l.entries l.high d) ≡ true;
}

abbrev pub decreases-loop-low : goal.decreases-loop-low
decreases-loop-low g l = l.high - l.low

use Rattle.std.proofs.Common.{◌≡◌, ◌<◌, ◌≤◌, ◌-◌, true, false, length, slice_index_or}
use Rattle.chunks.specs.Search.{last_or}
use Rattle.chunks.proofs.search.chunk_position.Given as goal

abbrev pub invariant-loop-low : goal.invariant-loop-low
invariant-loop-low g l = record {
  ordered : l.low ≤ l.high;
  within : l.high ≤ length l.chunks;
  before : (d : _) (e : _) → 0 < l.low → g.S.Test.passes l.test (last_or (slice_index_or l.chunks (l.low - 1) e).value.items d) ≡ false;
  here : (d : _) (e : _) → l.high < length l.chunks → g.S.Test.passes l.test (last_or (slice_index_or l.chunks l.high e).value.items d) ≡ true;
}

abbrev pub decreases-loop-low : goal.decreases-loop-low
decreases-loop-low g l = l.high - l.low

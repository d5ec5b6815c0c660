use Rattle.std.proofs.Common.{◌≢◌, ◌<◌, ◌+◌, ℕ}
use Rattle.node_table.specs.Index.{key_at}
use Rattle.node_table.proofs.index.are_different.Given as goal

abbrev pub invariant-loop-i : goal.invariant-loop-i
invariant-loop-i l = (k : ℕ) → k + 1 < l.i → key_at l.index k ≢ key_at l.index (k + 1)

use Rattle.std.proofs.Common.{◌≢◌, ◌≤◌, ◌<◌, ℕ, length, get_or}
use Rattle.node_table.proofs.table.entry_of_free.Given as goal

-- the place does not occur from index i on
abbrev pub invariant-loop-i : goal.invariant-loop-i
invariant-loop-i l = record { within : l.i ≤ length l.free; off : (k : ℕ) → l.i ≤ k → k < length l.free → get_or l.free k 0 ≢ l.place }

abbrev pub decreases-loop-i : goal.decreases-loop-i
decreases-loop-i l = l.i

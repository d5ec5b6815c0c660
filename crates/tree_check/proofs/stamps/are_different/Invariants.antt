use Rattle.std.proofs.Common.{◌≢◌, ◌<◌, ◌+◌, ℕ, get_or}
use Rattle.tree_check.proofs.stamps.are_different.Given as goal

abbrev pub invariant-loop-i : goal.invariant-loop-i
invariant-loop-i l = (k : ℕ) → k + 1 < l.i → get_or l.stamps k 0 ≢ get_or l.stamps (k + 1) 0

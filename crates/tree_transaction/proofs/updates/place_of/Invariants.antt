use Rattle.std.proofs.Common.{◌≢◌, ◌<◌, ℕ}
use Rattle.tree_transaction.specs.Updates.{target_of}
use Rattle.tree_transaction.proofs.updates.place_of.Given as goal

abbrev pub invariant-loop-i : goal.invariant-loop-i
invariant-loop-i l = (k : ℕ) → k < l.i → target_of l.updates k ≢ l.target

use Rattle.std.proofs.Common.{◌≡◌, take}
use Rattle.tree_transaction.specs.Updates.{encoded}
use Rattle.tree_transaction.proofs.updates.encode_all.Given as goal

abbrev pub invariant-loop-place : goal.invariant-loop-place
invariant-loop-place l = l.list.items ≡ encoded l.fn.list.items (take l.place l.pending)

use Rattle.std.proofs.Common.{◌≡◌, take}
use Rattle.tree_check.specs.Stamps.{entry_stamps}
use Rattle.tree_check.proofs.stamps.stamps_of.Given as goal

abbrev pub invariant-loop-place : goal.invariant-loop-place
invariant-loop-place l = l.stamps.items ≡ entry_stamps (take l.place l.table)

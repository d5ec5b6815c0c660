use Rattle.std.proofs.Common.{◌≡◌, ◌++◌, take}
use Rattle.tree_check.specs.Stamps.{stamps_of}
use Rattle.tree_check.proofs.stamps.push_stamps.Given as goal

abbrev pub invariant-loop-place : goal.invariant-loop-place
invariant-loop-place l = l.stamps.items ≡ l.initial.stamps.items ++ stamps_of (take l.place l.names)

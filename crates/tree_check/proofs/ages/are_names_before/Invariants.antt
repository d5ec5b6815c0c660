use Rattle.std.proofs.Common.{take, ◌+◌}
use Rattle.tree_check.specs.Ages.{AreNamesBefore}
use Rattle.tree_check.proofs.ages.are_names_before.Given as goal

abbrev pub invariant-loop-place : goal.invariant-loop-place
invariant-loop-place l = AreNamesBefore (l.last + 1) (take l.place l.names)

use Rattle.std.proofs.Common.{take}
use Rattle.tree_check.specs.Nodes.{AreNamesAllowed}
use Rattle.tree_check.proofs.nodes.are_names_allowed.Given as goal

abbrev pub invariant-loop-place : goal.invariant-loop-place
invariant-loop-place l = AreNamesAllowed l.limits (take l.place l.names)

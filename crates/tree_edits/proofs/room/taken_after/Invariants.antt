use Rattle.std.proofs.Common.{◌≡◌, ◌≤◌, ◌+◌, ◌*◌, ◌^◌, length}
use Rattle.tree_edits.specs.Outlines.{tree_without_data}
use Rattle.tree_edits.proofs.PrefixLaws.{behind_prefix}
use Rattle.tree_edits.proofs.room.taken_after.Given as goal
use Rattle.model_tree.specs.Trees.Charge.{charge}
use Rattle.model_tree.specs.Trees.Keyed.{total}

abbrev pub invariant-loop-i : goal.invariant-loop-i
invariant-loop-i l = record {
  charge : l.charge ≡ total charge (behind_prefix (tree_without_data l.table) l.edits l.i);
  nodes : l.nodes ≡ length (behind_prefix (tree_without_data l.table) l.edits l.i);
  small : l.charge ≤ 2 ^ 64 + l.i * 2 ^ 63;
  few : l.nodes ≤ 2 ^ 64 + l.i;
}

use Rattle.std.proofs.Common.{◌≡◌, ◌+◌, ◌^◌}
use Rattle.tree_edits.specs.Outlines.{tree_without_data}
use Rattle.tree_edits.specs.Sizes.{size_at, IsBelow}
use Rattle.tree_edits.proofs.PrefixLaws.{behind_prefix}
use Rattle.tree_edits.proofs.room.size_after.Given as goal

abbrev pub invariant-loop-edit : goal.invariant-loop-edit
invariant-loop-edit l = record {
  size : l.size ≡ size_at (behind_prefix (tree_without_data l.table) l.edits l.edit-index) l.number;
  small : IsBelow (2 ^ 65 + l.edit-index) l.size;
}

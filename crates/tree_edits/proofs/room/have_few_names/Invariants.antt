use Rattle.std.proofs.Common.{◌≤◌, ◌<◌, ℕ, length, get_or}
use Rattle.tree_edits.specs.declared.edit.Edit.{Edit}
use Rattle.tree_edits.specs.Edits.{edits_of}
use Rattle.tree_edits.specs.Outlines.{tree_without_data}
use Rattle.tree_edits.specs.Sizes.{edited_number}
use Rattle.tree_edits.proofs.room.have_few_names.Given as goal
use Rattle.model_tree.specs.Trees.Edit.{edited}
use Rattle.model_tree.specs.Trees.Tree.{names_at}

abbrev pub invariant-loop-edit : goal.invariant-loop-edit
invariant-loop-edit l = (place : ℕ) (edit : Edit) → place < l.edit-index
    → length (names_at (edited (edits_of l.edits) (tree_without_data l.table)) (edited_number (get_or l.edits place edit))) ≤ l.most

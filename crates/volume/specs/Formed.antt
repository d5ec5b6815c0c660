-- What is known of a volume's tree on any device.
use Rattle.std.specs.Prelude.{◌≡◌, ℕ}
use Rattle.tree_edits.specs.Outlines.{without_data}
use Rattle.model_tree.specs.declared.limits.Limits.{Limits}
use Rattle.model_tree.specs.Trees.Tree.{Tree}
use Rattle.model_tree.specs.Trees.WellFormed.{IsWellFormed, IsBefore}

-- Nothing is known there of the bytes of its files: with zeros for them it is well formed, and all
-- its stamps are from before this one
pub record IsFormed (limits : Limits) (before_stamp : ℕ) (tree : Tree) : Type 0 where
  pub well_formed : ∥ IsWellFormed limits (without_data tree) ∥₁
  pub before : IsBefore before_stamp (without_data tree)

-- what a call leaves shows a tree: all of it except the bytes of files on any device, and the whole
-- tree if the device keeps its word
pub record ShowsTree (keeps_word : Type 0) (tree shown : Tree) : Type 0 where
  pub outline : without_data shown ≡ without_data tree
  pub tree_is : keeps_word → shown ≡ tree

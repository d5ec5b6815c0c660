-- The result of edits of a volume, as one transaction.
use Rattle.std.specs.Prelude.{◌≡◌, ◌≤◌, ◌<◌, ◌+◌, ◌^◌, ℕ, Bool, List, Option, length, take}
use Rattle.disk.specs.Moments.{Image, applied}
use Rattle.node_table.specs.Overlays.{overlaid}
use Rattle.tree_transaction.specs.declared.transaction.PreparedTransaction.{PreparedTransaction}
use Rattle.tree_transaction.specs.Updates.{AreTreeUpdates}
use Rattle.tree_transaction.specs.Whole.{bitmap_sectors}
use Rattle.tree_edits.specs.declared.edit.Edit.{Edit}
use Rattle.tree_edits.specs.Doing.{AreMade, FitsOn, made_by, updates_of_all}
use Rattle.tree_edits.specs.Edits.{edits_of}
use Rattle.tree_edits.specs.Outlines.{without_data, tree_without_data}
use Rattle.tree_edits.specs.Parts.{PartsAreBytes}
use Rattle.layout.specs.CachedNodes.{CachedNode, tree_of}
use Rattle.layout.specs.Known.{AreCached}
use Rattle.layout.specs.Marks.{mark_by}
use Rattle.layout.specs.declared.versions.Marking.{Marking}
use Rattle.layout.specs.declared.versions.Marking.TheVariants.{InSectors}
use Rattle.layout.specs.Stands.{Version, HasRegion, HaveCurrentForms, IsLaid}
use Rattle.inode.specs.declared.node.Form.TheVariants.{Two}
use Rattle.model_tree.specs.Trees.Edit.{edited}
use Rattle.model_tree.specs.Trees.Tree.{Tree}

-- where the data region of these places ends, behind the node table
abbrev pub end_by : List (Option CachedNode) → (places : List Bool) → ℕ
end_by table places = 148 + length table + length places

-- the cached nodes of a whole volume, and the places of its data region, of which those are used
-- that the cached nodes name; a bitmap, if there is one, has room for them
pub record IsWholeVolume (marking : Marking) (size : ℕ) (table : List (Option CachedNode))
    (places : List Bool) : Type 0 where
  pub cached_nodes : AreCached (length table) (mark_by (148 + length table) places) table
  pub forms : HaveCurrentForms table
  pub within : end_by table places ≤ size
  pub small : size < 2 ^ 32
  pub few : marking ≡ InSectors → length places ≤ 65536

-- its version: each node has form two, used sectors are marked so, and the data region is these
-- places
pub record IsVersionOf (marking : Marking) (size : ℕ) (table : List (Option CachedNode))
    (places : List Bool) (version : Version) : Type 0 where
  pub forms : (place : ℕ) → version.form place ≡ Two
  pub marks : version.marking ≡ marking
  pub end_is : version.data_end size ≡ end_by table places
  pub region : HasRegion version size (length table)

-- the tree after each prefix of the edits has room
abbrev pub PrefixesHaveRoom : (sectors places : ℕ) → Tree → List Edit → Type 0
PrefixesHaveRoom sectors places tree edits = (count : ℕ) → count ≤ length edits
    → FitsOn sectors places (edited (take count (edits_of edits)) tree)

-- what the cached nodes of a table are after an outcome
abbrev pub cached_nodes_after : List (Option CachedNode) → PreparedTransaction
    → List (Option CachedNode)
cached_nodes_after table outcome = overlaid table outcome.changes

-- the sectors hold the outcome's cached nodes and marks, and represent the tree with the edits; the
-- version stays, with its seats
pub record LaysEditedTree (version : Version) (base : Image) (size : ℕ)
    (table : List (Option CachedNode))
    (edits : List Edit) (outcome : PreparedTransaction) : Type 0 where
  pub laid : IsLaid version size (length table) (applied outcome.updates.items base)
      (cached_nodes_after table outcome)
  pub tree_is : tree_of (applied outcome.updates.items base) (cached_nodes_after table outcome)
      ≡ edited (edits_of edits) (tree_of base table)

-- The result of edits, for a volume of `size` sectors
pub record ComesTo (word : Type 0) (marking : Marking) (base : Image) (size : ℕ)
    (table : List (Option CachedNode)) (places : List Bool) (edits : List Edit)
    (outcome : PreparedTransaction) : Type 0 where
  -- of its places those are used that its cached nodes name, and it has as many as before
  pub cached_nodes : AreCached (length table) (mark_by (148 + length table) outcome.places)
      (cached_nodes_after table outcome)
  pub as_many : length outcome.places ≡ length places
  -- on any device the outline is that of the tree with the edits
  pub outline : tree_without_data (cached_nodes_after table outcome)
      ≡ without_data (edited (edits_of edits) (tree_without_data table))
  -- each cached node keeps its form, and only the edits' numbers are new
  pub forms : HaveCurrentForms (cached_nodes_after table outcome)
  pub made : AreMade table (cached_nodes_after table outcome) (made_by edits)
  -- the updates are those of a transaction, and few
  pub targets : AreTreeUpdates (end_by table places) outcome.updates.items
  pub count : length outcome.updates.items ≤ updates_of_all edits + bitmap_sectors marking
  -- what the edits put are bytes
  pub bytes : PartsAreBytes edits
  -- if the sectors keep their word and held the volume, they hold one after the updates
  pub lays : word → (version : Version) → IsVersionOf marking size table places version
      → IsLaid version size (length table) base table
      → LaysEditedTree version base size table edits outcome

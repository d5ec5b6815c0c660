-- What a transaction is, and the effects of calls on it.
use Rattle.std.specs.Prelude.{◌≡◌, ◌≢◌, ◌≤◌, ◌<◌, ◌+◌, ◌^◌}
use Rattle.std.specs.Prelude.{ℕ, Bool, List, Option, Some, None, length, set, slice_index_or}
use Rattle.disk.specs.declared.update.Update.{Update}
use Rattle.disk.specs.Moments.{Image, applied}
use Rattle.inode.specs.Encoding.{inode_sector}
use Rattle.model_tree.specs.Trees.Charge.{charge_of_blocks}
use Rattle.model_tree.specs.Trees.Edit.{Edit, done}
use Rattle.model_tree.specs.Trees.Tree.{Tree}
use Rattle.layout.specs.CachedNodes.{CachedNode}
use Rattle.layout.specs.CachedNodes as layout
use Rattle.layout.specs.Known.{AreCached}
use Rattle.layout.specs.Laid.{AreLaid, AreRunSectors}
use Rattle.layout.specs.Marks.{times, mark_by}
use Rattle.node_table.specs.Tables.{charge_of, charge_of_all}
use Rattle.tree_transaction.specs.declared.transaction.Transaction.{Transaction}
use Rattle.tree_transaction.specs.Laying.{fields_with, Follow, IsRerun, LaysCached}
use Rattle.tree_transaction.specs.Updates.{AreBetween}

abbrev pub cached_nodes_of : Transaction → List (Option CachedNode)
cached_nodes_of transaction = transaction.cached_nodes.cached_nodes

-- the end of its data region, which is the volume's size
abbrev pub end_of : Transaction → ℕ
end_of transaction = 148 + transaction.nodes + length transaction.places

-- what the sectors hold, and the tree that they represent, over what is below the transaction

abbrev pub image_of : Image → Transaction → Image
image_of base transaction = applied transaction.updates base

abbrev pub changed_tree : Image → Transaction → Tree
changed_tree base transaction = layout.tree_of (image_of base transaction)
    (cached_nodes_of transaction)

-- What is known of a transaction whatever its sectors hold: its cached nodes with its places, and
-- that its updates are of the node table and the data region
pub record IsKnown (transaction : Transaction) : Type 0 where
  pub cached_nodes : AreCached transaction.nodes
      (mark_by (148 + transaction.nodes) transaction.places)
      (cached_nodes_of transaction)
  pub small : end_of transaction < 2 ^ 32
  pub targets : AreBetween 148 (end_of transaction) transaction.updates

-- and it remains so, with the same number of places of both kinds
pub record StaysKnown (old new : Transaction) : Type 0 where
  pub known : IsKnown new
  pub nodes : new.nodes ≡ old.nodes
  pub places : length new.places ≡ length old.places

-- Its cached nodes are laid by its updates and its places, over a volume of `size` sectors
pub record IsTransaction (base : Image) (size : ℕ) (transaction : Transaction) : Type 0 where
  pub laid : AreLaid transaction.nodes (image_of base transaction)
      (mark_by (148 + transaction.nodes) transaction.places) (cached_nodes_of transaction)
  pub within : end_of transaction ≤ size
  pub small : size < 2 ^ 32

-- over this base a transaction remains one, and its tree is the previous one with this edit; and
-- the same over any base

abbrev pub MakesOver : (base : Image) (size : ℕ) → (old new : Transaction) → Edit → Type 0
MakesOver base size old new edit = IsTransaction base size old
    → IsTransaction base size new × (changed_tree base new ≡ done edit (changed_tree base old))

abbrev pub MakesEdit : (old new : Transaction) → Edit → Type 0
MakesEdit old new edit = (base : Image) (size : ℕ) → MakesOver base size old new edit

-- an edit of the node at a place, by its number

abbrev pub EditsOver : (base : Image) (size : ℕ) → (old new : Transaction) → (place : ℕ)
    → (ℕ → Edit)
    → Type 0
EditsOver base size old new place edit = (cached : CachedNode)
    → slice_index_or (cached_nodes_of old) place None ≡ Some cached
    → MakesOver base size old new (edit cached.fields.number)

abbrev pub Edits : (old new : Transaction) → (place : ℕ) → (ℕ → Edit) → Type 0
Edits old new place edit = (cached : CachedNode)
    → slice_index_or (cached_nodes_of old) place None ≡ Some cached
    → MakesEdit old new (edit cached.fields.number)

-- Only the cached node at a place has changed: it is this one, apart from its runs
pub record HasNow (old new : Transaction) (place : ℕ) (cached : CachedNode) : Type 0 where
  pub is : CachedNode
  pub cached_nodes : cached_nodes_of new ≡ set (cached_nodes_of old) place (Some is)
  pub form : is.form ≡ cached.form
  pub fields : is.fields ≡ fields_with cached.fields is.fields.runs is.fields.run_sectors
  pub names : is.names ≡ cached.names

abbrev pub NodeBecomes : (old new : Transaction) → (place : ℕ) → (CachedNode → CachedNode) → Type 0
NodeBecomes old new place change = (cached : CachedNode)
    → slice_index_or (cached_nodes_of old) place None ≡ Some cached
    → HasNow old new place (change cached)

-- a cached node that was taken out is back at its place, with its runs rewritten
pub record IsBack (nodes place : ℕ) (places : List Bool) (updates : List Update)
    (cached_nodes : List (Option CachedNode)) (new : Transaction)
    (cached : CachedNode) : Type 0 where
  pub is : CachedNode
  pub put : cached_nodes_of new ≡ set cached_nodes place (Some is)
  pub same : new.nodes ≡ nodes
  pub laid : LaysCached nodes place places new.places updates new.updates cached is

-- A cached node that was taken out is back at its place, over these places and updates, with runs
-- of its blocks. Its run sectors hold them if those of the cached node that was put back held its
-- own.
pub record StandsAgain (old new : Transaction) (place : ℕ) (cached : CachedNode)
    (places : List Bool) (updates : List Update) : Type 0 where
  pub is : CachedNode
  pub put : cached_nodes_of new ≡ set (cached_nodes_of old) place (Some is)
  pub same : new.nodes ≡ old.nodes
  pub rerun : IsRerun cached is
  pub follow : Follow (148 + old.nodes) places new.places cached.fields.run_sectors
      is.fields.run_sectors
  pub len : length new.places ≡ length places
  pub node : (image : Image)
      → applied new.updates image (148 + place) ≡ inode_sector is.form is.fields
  pub run_sectors : (image : Image)
      → AreRunSectors (applied updates image) cached.fields.run_sectors cached.runs
      → AreRunSectors (applied new.updates image) is.fields.run_sectors is.runs
  pub others : (image : Image) (n : ℕ) → n ≢ 148 + place → times n is.fields.run_sectors ≡ 0
      → applied new.updates image n ≡ applied updates image n

-- if the node at a place had `blocks` blocks, all nodes together would be charged for more sectors
-- than the data region has
abbrev pub IsOvercharged : Transaction → (place : ℕ) → (blocks : CachedNode → ℕ) → Type 0
IsOvercharged transaction place blocks = (cached : CachedNode)
    → slice_index_or (cached_nodes_of transaction) place None ≡ Some cached
    → length transaction.places + charge_of cached
    < charge_of_all (cached_nodes_of transaction) + charge_of_blocks (blocks cached)

-- Names that are put into a directory and removed from it.
use Rattle.std.specs.Prelude.{◌≡◌, ◌≤◌, ◌<◌, ◌+◌}
use Rattle.std.specs.Prelude.{ℕ, List, Option, Some, None, length, slice_index_or}
use Rattle.disk.specs.Moments.{Image}
use Rattle.directory.specs.declared.names.TheConstants.Names.{MAX_NAMES}
use Rattle.directory.specs.Records.{Record, place_of, with_record, without_place}
use Rattle.model_tree.specs.declared.node.NodeKind.TheVariants as kind
use Rattle.model_tree.specs.Trees.Charge.{blocks_of}
use Rattle.model_tree.specs.Trees.Edit.{DropName}
use Rattle.model_tree.specs.Trees.Keyed.{at}
use Rattle.model_tree.specs.Trees.Tree.{entry_of}
use Rattle.layout.specs.CachedNodes.{CachedNode}
use Rattle.tree_transaction.specs.declared.transaction.Transaction.{Transaction}
use Rattle.tree_transaction.specs.Transactions.{cached_nodes_of, MakesEdit}

-- a directory of fewer than MAX_NAMES names is at a place, and has neither the name nor the stamp
pub record CanName (cached_nodes : List (Option CachedNode)) (place : ℕ) (name : List ℕ)
    (stamp : ℕ) : Type 0 where
  pub cached : CachedNode
  pub there : slice_index_or cached_nodes place None ≡ Some cached
  pub directory : cached.fields.kind ≡ kind.Directory
  pub few : length cached.names < MAX_NAMES
  pub some : 0 < length name
  pub short : length name ≤ 255
  pub new_name : (place_of name cached.names ≡ length cached.names)
      × (entry_of name cached.names ≡ None)
  pub above : 0 < stamp
  pub new_stamp : at stamp cached.names ≡ None

-- a directory that has the name is at a place
pub record HasNameAt (cached_nodes : List (Option CachedNode)) (place : ℕ)
    (name : List ℕ) : Type 0 where
  pub cached : CachedNode
  pub there : slice_index_or cached_nodes place None ≡ Some cached
  pub directory : cached.fields.kind ≡ kind.Directory
  pub within : place_of name cached.names < length cached.names

-- the directory with these names, with one more, and with one less

abbrev pub renamed : CachedNode → List Record → CachedNode
renamed cached_node names = record cached_node {
  fields = record cached_node.fields { size = length names };
  names = names;
}

abbrev pub with_name : Record → CachedNode → CachedNode
with_name entry cached_node = renamed cached_node (with_record cached_node.names entry)

abbrev pub without_name : List ℕ → CachedNode → CachedNode
without_name name cached_node = renamed cached_node
    (without_place cached_node.names (place_of name cached_node.names))

-- over any base a transaction remains one, and its tree is the previous one without the name: it is
-- removed from the directory at a place, with the stamp that it has there
abbrev pub DropsNamed : (old new : Transaction) → (place : ℕ) → (name : List ℕ) → Type 0
DropsNamed old new place name = (cached_node : CachedNode) (entry : Record)
    → slice_index_or (cached_nodes_of old) place None ≡ Some cached_node
    → entry_of name cached_node.names ≡ Some entry
    → MakesEdit old new (DropName cached_node.fields.number entry.0)

-- how many blocks the directory needs with one more name
abbrev pub blocks_named : CachedNode → ℕ
blocks_named cached_node = blocks_of kind.Directory (length cached_node.names + 1)

-- a block that has a sector holds this content, and no other sector has changed
pub record Rewrites (old new : Image) (block : Option ℕ) (content : List ℕ) : Type 0 where
  pub here : (sector : ℕ) → block ≡ Some sector → new sector ≡ content
  pub others : (n : ℕ) → (block ≡ Some n → ⊥) → new n ≡ old n

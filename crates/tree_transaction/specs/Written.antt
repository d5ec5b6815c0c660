-- Files whose blocks are written before their nodes are.
use Rattle.std.specs.Prelude.{◌≡◌, ◌+◌, ℕ, Bool, List, Some, None, length, set, slice_index_or}
use Rattle.disk.specs.Moments.{Image, applied}
use Rattle.layout.specs.CachedNodes.{CachedNode}
use Rattle.layout.specs.Known.{IsCached}
use Rattle.layout.specs.Marks.{times}
use Rattle.tree_transaction.specs.declared.transaction.Transaction.{Transaction}
use Rattle.tree_transaction.specs.Blocks.{GetSectors, ChangeBlocks, FillHoles, WritesBytes}
use Rattle.tree_transaction.specs.Grown.{grown}
use Rattle.tree_transaction.specs.Transactions.{cached_nodes_of}

-- A file's cached node was taken out, and extended to an end; some of its holes have got sectors
pub record IsWritten (old new : Transaction) (place end : ℕ) (cached : CachedNode) (filled : Bool)
    : Type 0 where
  pub was : CachedNode
  pub there : slice_index_or (cached_nodes_of old) place None ≡ Some was
  pub cached_is : cached ≡ record (grown was end) { blocks = cached.blocks }
  pub gets : GetSectors (148 + old.nodes) old.places new.places (grown was end).blocks cached.blocks
  pub count : length cached.blocks ≡ length (grown was end).blocks
  pub others : ChangeBlocks old.updates new.updates cached.blocks
  pub fills : FillHoles filled (grown was end).blocks cached.blocks
  pub cached_nodes : cached_nodes_of new ≡ set (cached_nodes_of old) place None
  pub nodes : new.nodes ≡ old.nodes

-- and its blocks hold these bytes in place of what they held
abbrev pub HasBytes : (base : Image) (old new : Transaction) (place offset : ℕ)
    → (bytes : List ℕ) → CachedNode
    → Type 0
HasBytes base old new place offset bytes cached = (was : CachedNode)
    → slice_index_or (cached_nodes_of old) place None ≡ Some was
    → WritesBytes (applied old.updates base) (applied new.updates base)
    (grown was (offset + length bytes)).blocks cached.blocks offset bytes

-- a cached node has the runs of its blocks, and none of their sectors is that of its place
pub record HasItsRuns (place : ℕ) (cached : CachedNode) : Type 0 where
  pub is_cached : IsCached cached
  pub apart : times (148 + place) cached.fields.run_sectors ≡ 0

-- What a migration writes.
use Rattle.std.specs.Prelude.{◌≡◌, ◌+◌, ◌-◌, ◌*◌, ◌/◌, ◌++◌, ℕ, List, [], ◌∷◌, Option, Some, None, min, map, flat_map, length, slice_index_or}
use Rattle.std.specs.List.{range_with_len}
use Rattle.disk.specs.Calls.{zero_sector}
use Rattle.disk.specs.declared.update.Update.{Update}
use Rattle.inode.specs.declared.node.Form.TheVariants.{Two}
use Rattle.inode.specs.Fields.{IsInode}
use Rattle.inode.specs.Encoding.{inode_sector}
use Rattle.layout.specs.CachedNodes.{CachedNode, node_sector}
use Rattle.layout.specs.Stands.{mark_sector}

-- each node can be encoded in form two
abbrev pub FitSecond : List (Option CachedNode) → Type 0
FitSecond cached_nodes = (place : ℕ) (cached : CachedNode) → slice_index_or cached_nodes place None
    ≡ Some cached
    → IsInode Two cached.fields

-- a node in form two; nothing is written if the place is free
abbrev pub moved_node : (place : ℕ) → Option CachedNode → List Update
moved_node place None = []
moved_node place (Some cached) =
    record { target = node_sector place; content = inode_sector Two cached.fields } ∷ []

abbrev pub mark_update : (moved : ℕ) → Update
mark_update moved = record { target = 147; content = mark_sector moved }

-- One transaction: the nodes of `count` places, and the mark with their end
abbrev pub step : List (Option CachedNode) → (from count : ℕ) → List Update
step cached_nodes from count =
    flat_map (λ place. moved_node place (slice_index_or cached_nodes place None))
    (range_with_len from count)
    ++ mark_update (from + count) ∷ []

-- Transaction i: 47 places, or those that are left
abbrev pub step_at : List (Option CachedNode) → (moved i : ℕ) → List Update
step_at cached_nodes moved i =
    step cached_nodes (moved + 47 * i) (min 47 (length cached_nodes - (moved + 47 * i)))

-- how many transactions move this many places, 47 each
abbrev pub transactions_for : (places : ℕ) → ℕ
transactions_for places = (places + 46) / 47

-- All of them, if the first `moved` places are already done
abbrev pub plan : List (Option CachedNode) → (moved : ℕ) → List (List Update)
plan cached_nodes moved =
    map (step_at cached_nodes moved)
    (range_with_len 0 (transactions_for (length cached_nodes - moved)))

-- The last transaction: the mark is removed
abbrev pub clearing_updates : List Update
clearing_updates = record { target = 147; content = zero_sector } ∷ []

-- A tree of extents over the index sectors of a volume: `index` has the 512 entries of each.
use Rattle.std.specs.Prelude.{◌≡◌, ◌-◌, ◌^◌, ◌==◌, ◌&&◌, ◌++◌, ℕ, zero, suc, Bool, List, [], ◌∷◌, Option, Some, None, nat_lt, if◌then◌else◌, length, map, take, replicate, slice_index_or, is_some, IsTrue}
use Rattle.std.specs.List.{flat_map, range_with_len}
use Rattle.extent_tree.specs.declared.entry.Entry.{Entry}
use Rattle.extent_tree.specs.Depth.{depth_of}
use Rattle.extent_tree.specs.Entries.{IsEntry, EachWithin}

-- whether an entry is the number of an index sector
abbrev pub is_index : Entry → Bool
is_index entry = nat_lt 0 entry.sector && (entry.length == 0)

-- whether an entry is a hole
abbrev pub is_hole : Entry → Bool
is_hole entry = (entry.sector == 0) && (entry.length == 0)

-- a span of consecutive sectors, and then holes
unfoldable pub run_of : (span : ℕ) → Entry → List (Option ℕ)
run_of span entry =
    map (λ n. Some n) (range_with_len entry.sector entry.length)
    ++ replicate (span - entry.length) None

-- the sectors of the 512 ^ e blocks that an entry at depth e spans; a hole has none
abbrev pub blocks_of : (index : ℕ → List Entry) → (e : ℕ) → Entry → List (Option ℕ)
blocks_of index zero entry = run_of 1 entry
blocks_of index (suc e) entry =
    if is_index entry then flat_map (blocks_of index e) (index entry.sector)
    else run_of (512 ^ suc e) entry

-- and of consecutive entries at depth e
abbrev pub blocks_in : (index : ℕ → List Entry) → (e : ℕ) → List Entry → List (Option ℕ)
blocks_in index e entries = flat_map (blocks_of index e) entries

-- the index sectors of an entry at depth e, each before those below it
abbrev pub indexes_of : (index : ℕ → List Entry) → (e : ℕ) → Entry → List ℕ
indexes_of index zero entry = []
indexes_of index (suc e) entry =
    if is_index entry then entry.sector ∷ flat_map (indexes_of index e) (index entry.sector)
    else []

abbrev pub indexes_in : (index : ℕ → List Entry) → (e : ℕ) → List Entry → List ℕ
indexes_in index e entries = flat_map (indexes_of index e) entries

-- some block is no hole
abbrev pub HasBlock : List (Option ℕ) → Type 0
HasBlock blocks = (k : ℕ) × IsTrue (is_some (slice_index_or blocks k None))

-- an index sector has 512 entries, of each of which P holds, and a block that is no hole
pub record IsIndexSector (P : ℕ → Entry → Type 0) (span count : ℕ) (entries : List Entry)
    (blocks : List (Option ℕ)) : Type 0 where
  pub len : length entries ≡ 512
  pub each : EachWithin P span count entries
  pub some : HasBlock blocks

-- an entry at depth e, of whose span the file has `count` blocks, and all that is below it
abbrev pub IsTree : (index : ℕ → List Entry) → (e count : ℕ) → Entry → Type 0
IsTree index zero count entry = IsEntry 0 count entry
IsTree index (suc e) count entry =
    IsEntry (suc e) count entry
    × (IsTrue (is_index entry) → IsIndexSector (IsTree index e) (512 ^ e) count
    (index entry.sector) (blocks_in index e (index entry.sector)))

-- consecutive ones, from whose first block on the file has `count` blocks
abbrev pub AreTrees : (index : ℕ → List Entry) → (e count : ℕ) → List Entry → Type 0
AreTrees index e count entries = EachWithin (IsTree index e) (512 ^ e) count entries

-- however many blocks the file has
abbrev pub AreSomeTrees : (index : ℕ → List Entry) → (e : ℕ) → List Entry → Type 0
AreSomeTrees index e entries = (count : ℕ) × AreTrees index e count entries

-- `root` has the 256 entries in the inode of a file of b blocks
pub record IsRoot (index : ℕ → List Entry) (b : ℕ) (root : List Entry) : Type 0 where
  pub len : length root ≡ 256
  pub each : AreTrees index (depth_of b) b root

-- the sectors of the file's blocks
abbrev pub file_blocks : (index : ℕ → List Entry) → (b : ℕ) → List Entry → List (Option ℕ)
file_blocks index b root = take b (blocks_in index (depth_of b) root)

-- the file's index sectors
abbrev pub file_indexes : (index : ℕ → List Entry) → (b : ℕ) → List Entry → List ℕ
file_indexes index b root = indexes_in index (depth_of b) root

-- the list with holes at its end, so that it has at least `len` places
abbrev pub with_holes : List (Option ℕ) → (len : ℕ) → List (Option ℕ)
with_holes blocks len = blocks ++ replicate (len - length blocks) None

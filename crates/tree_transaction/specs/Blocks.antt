-- Bytes that are written over a file's blocks.
use Rattle.std.specs.Prelude.{◌≡◌, ◌≢◌, ◌≤◌, ◌<◌, ◌+◌, ◌-◌, ◌/◌, ◌%◌, ◌^◌, ◌⊎◌}
use Rattle.std.specs.Prelude.{ℕ, Bool, true, false, List, Option, Some, None, max, length, count_by}
use Rattle.std.specs.Prelude.{is_some, slice_get, slice_set, slice_index_or}
use Rattle.disk.specs.Moments.{Image, put, applied}
use Rattle.disk.specs.declared.update.Update.{Update}
use Rattle.freemap.specs.Kept.{free_places}
use Rattle.layout.specs.CachedNodes.{content_at, byte_at}
use Rattle.layout.specs.Files.{over, below}
use Rattle.layout.specs.Marks.{times_set, mark_by}

-- one sector gets this content
abbrev pub IsSectorPut : (old new : Image) (sector : ℕ) → List ℕ → Type 0
IsSectorPut old new sector content = new ≡ put old (record { target = sector; content = content })

-- a free sector is allocated
pub record TakesSector (first : ℕ) (was is : List Bool) (sector : ℕ) : Type 0 where
  pub behind : first ≤ sector
  pub free : slice_get was (sector - first) ≡ Some false
  pub taken : is ≡ slice_set was (sector - first) true

-- the sectors of these blocks are marked
abbrev pub HaveMarks : (first : ℕ) → List Bool → List (Option ℕ) → Type 0
HaveMarks first places blocks = (n : ℕ) → times_set n blocks ≤ mark_by first places n

-- the places of a data region, and blocks of a node whose sectors are marked there
pub record HaveRegion (first : ℕ) (places : List Bool) (blocks : List (Option ℕ)) : Type 0 where
  pub room : first + length places < 2 ^ 32
  pub marked : HaveMarks first places blocks
  pub few : length blocks ≤ 4096

-- how many blocks are not holes
abbrev pub set_blocks : List (Option ℕ) → ℕ
set_blocks blocks = count_by is_some blocks

-- the marks follow the blocks
abbrev pub FollowBlocks : (first : ℕ) → (was is : List Bool)
    → (was_blocks is_blocks : List (Option ℕ)) → Type 0
FollowBlocks first was is was_blocks is_blocks = (n : ℕ)
    → mark_by first is n + times_set n was_blocks ≡ mark_by first was n + times_set n is_blocks

-- Blocks get sectors: the marks follow, and so does the number of free places. No block loses its
-- sector.
pub record GetSectors (first : ℕ) (was is : List Bool)
    (was_blocks is_blocks : List (Option ℕ)) : Type 0 where
  pub marks : FollowBlocks first was is was_blocks is_blocks
  pub len : length is ≡ length was
  pub free : free_places is + set_blocks is_blocks ≡ free_places was + set_blocks was_blocks
  pub more : (n : ℕ) → times_set n was_blocks ≤ times_set n is_blocks

-- whether blocks got sectors: each is unchanged, or more of them are set
abbrev pub FillHoles : (filled : Bool) → (was is : List (Option ℕ)) → Type 0
FillHoles false was is = is ≡ was
FillHoles true was is = set_blocks was < set_blocks is

-- a block has a sector: it had it before, or it was a hole and one was allocated for it
pub record GetsSector (first : ℕ) (was is : List Bool) (was_blocks is_blocks : List (Option ℕ))
    (block sector : ℕ) : Type 0 where
  pub is_set : slice_index_or is_blocks block None ≡ Some sector
  pub same : (i : ℕ) → i ≢ block
      → slice_index_or is_blocks i None ≡ slice_index_or was_blocks i None
  pub gets : GetSectors first was is was_blocks is_blocks
  pub count : length is_blocks ≡ length was_blocks

-- a hole needs a sector, and none is free
pub record FindsNone (places : List Bool) (blocks : List (Option ℕ)) (block : ℕ) : Type 0 where
  pub hole : slice_index_or blocks block None ≡ None
  pub full : free_places places ≡ 0

-- One block, which may be a new one after the last, holds this content, and every other one what it
-- held. Only sectors of these blocks have changed.
pub record WritesOne (old new : Image) (was is : List (Option ℕ)) (block : ℕ)
    (content : List ℕ) : Type 0 where
  pub here : content_at new (slice_index_or is block None) ≡ content
  pub kept : (i : ℕ) → i ≢ block → i < length is
      → (i < length was)
      × (content_at new (slice_index_or is i None) ≡ content_at old (slice_index_or was i None))
  pub others : (n : ℕ) → times_set n is ≡ 0 → new n ≡ old n
  pub count : length is ≡ max (length was) (block + 1)

-- the sectors of these blocks are in the volume
abbrev pub BlocksWithin : (size : ℕ) → List (Option ℕ) → Type 0
BlocksWithin size blocks = (block sector : ℕ)
    → slice_index_or blocks block None ≡ Some sector → sector < size

-- The block of byte `size` has zeros from there on; no other block has changed
pub record ClearsTail (old new : Image) (blocks : List (Option ℕ)) (size : ℕ) : Type 0 where
  pub kept : (i : ℕ) → (i ≢ size / 4096) ⊎ (size % 4096 ≡ 0)
      → content_at new (slice_index_or blocks i None)
      ≡ content_at old (slice_index_or blocks i None)
  pub tail : (j : ℕ) → j < 4096 → 0 < size % 4096
      → slice_index_or (content_at new (slice_index_or blocks (size / 4096) None)) j 0
      ≡ below (λ k. slice_index_or (content_at old (slice_index_or blocks (size / 4096) None)) k 0)
      (size % 4096) j

-- the blocks hold these bytes from an offset on, in place of what they held there
abbrev pub WritesBytes : (old new : Image) (was is : List (Option ℕ)) (offset : ℕ)
    → (bytes : List ℕ) → Type 0
WritesBytes old new was is offset bytes = (k : ℕ)
    → byte_at new is k ≡ over (byte_at old was) offset bytes k

-- whatever is under the updates, only sectors of these blocks have changed
abbrev pub ChangeBlocks : (old new : List Update) → List (Option ℕ) → Type 0
ChangeBlocks old new blocks = (image : Image) (n : ℕ)
    → times_set n blocks ≡ 0 → applied new image n ≡ applied old image n

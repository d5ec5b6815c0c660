-- A file's bytes, and the effects of changes of its blocks on them.
use Rattle.std.specs.Prelude.{◌≡◌, ◌≢◌, ◌≤◌, ◌<◌, ◌+◌, ◌-◌, ◌*◌, ◌++◌, ℕ, List, Option, Some, None, max, length, take, set, nat_lt, slice_index_or, if◌then◌else◌}
use Rattle.disk.specs.Moments.{Image}
use Rattle.disk.specs.Calls.{zero_sector}
use Rattle.model_tree.specs.Trees.Edit.{overwritten, resized}
use Rattle.extents.specs.Runs.{with_holes}
use Rattle.sector.specs.Placed.{placed}
use Rattle.layout.specs.CachedNodes.{content_at, byte_at, bytes_in}

-- Bytes by their places

-- with a part written from a place on
unfoldable pub over : (ℕ → ℕ) → (offset : ℕ) → List ℕ → ℕ → ℕ
over byte offset part k =
    if nat_lt k offset then byte k else slice_index_or part (k - offset) (byte k)

-- what is below a size, and zeros after it
unfoldable pub below : (ℕ → ℕ) → (size : ℕ) → ℕ → ℕ
below byte size k = if nat_lt k size then byte k else 0

abbrev pub AreZeroFrom : (ℕ → ℕ) → (size : ℕ) → Type 0
AreZeroFrom byte size = (k : ℕ) → size ≤ k → byte k ≡ 0

-- Changes of blocks

-- every block except one holds what it held
abbrev pub HoldOthers : (old new : Image) → List (Option ℕ) → (block : ℕ) → Type 0
HoldOthers old new blocks block = (i : ℕ) → i ≢ block
    → content_at new (slice_index_or blocks i None) ≡ content_at old (slice_index_or blocks i None)

-- a hole becomes a block of zeros
pub record FillsHole (old new : Image) (blocks : List (Option ℕ)) (block sector : ℕ) : Type 0 where
  pub within : block < length blocks
  pub hole : slice_index_or blocks block None ≡ None
  pub zeros : new sector ≡ zero_sector
  pub others : HoldOthers old new blocks block

-- a part is written from a place of a block on
pub record WritesBlock (old new : Image) (blocks : List (Option ℕ)) (block sector from : ℕ)
    (part : List ℕ) : Type 0 where
  pub is_set : slice_index_or blocks block None ≡ Some sector
  pub whole : length (old sector) ≡ 4096
  pub within : from + length part ≤ 4096
  pub written : new sector ≡ placed (old sector) from part
  pub others : HoldOthers old new blocks block

-- the blocks from `count` on are gone, and the last one that stays has zeros from byte `size` on
pub record CutsBlocks (old new : Image) (blocks : List (Option ℕ)) (count size : ℕ) : Type 0 where
  pub up : size ≤ 4096 * count
  pub down : 4096 * count < size + 4096
  pub prefix : (i : ℕ) → i + 1 < count
      → content_at new (slice_index_or blocks i None)
      ≡ content_at old (slice_index_or blocks i None)
  pub last : (i j : ℕ) → i + 1 ≡ count → j < 4096
      → slice_index_or (content_at new (slice_index_or blocks i None)) j 0
      ≡ below (λ k. slice_index_or (content_at old (slice_index_or blocks i None)) k 0)
      (size - 4096 * i) j

-- Their effects on the bytes by their places

abbrev pub Filling : Type 0
Filling =
    (old new : Image) (blocks : List (Option ℕ)) (block sector : ℕ)
    → FillsHole old new blocks block sector
    → (k : ℕ) → byte_at new (set blocks block (Some sector)) k ≡ byte_at old blocks k

abbrev pub Writing : Type 0
Writing = (old new : Image) (blocks : List (Option ℕ)) (block sector from : ℕ) (part : List ℕ)
    → WritesBlock old new blocks block sector from part
    → (k : ℕ) → byte_at new blocks k ≡ over (byte_at old blocks) (4096 * block + from) part k

abbrev pub WritingOn : Type 0
WritingOn = (byte : ℕ → ℕ) (offset : ℕ) (prefix part : List ℕ) (k : ℕ)
    → over (over byte offset prefix) (offset + length prefix) part k
    ≡ over byte offset (prefix ++ part) k

abbrev pub Cutting : Type 0
Cutting =
    (old new : Image) (blocks : List (Option ℕ)) (count size : ℕ)
    → CutsBlocks old new blocks count size
    → (k : ℕ) → byte_at new (take count blocks) k ≡ below (byte_at old blocks) size k

abbrev pub Growing : Type 0
Growing = (image : Image) (blocks : List (Option ℕ)) (count : ℕ) (k : ℕ)
    → byte_at image (with_holes blocks count) k ≡ byte_at image blocks k

-- Their effects on the list of bytes

-- the bytes are these, and zeros past them
pub record HoldBytes (image : Image) (blocks : List (Option ℕ)) (bytes : List ℕ) : Type 0 where
  pub bytes_are : bytes_in image blocks (length bytes) ≡ bytes
  pub tail : AreZeroFrom (byte_at image blocks) (length bytes)

abbrev pub FilledBytes : Type 0
FilledBytes =
    (old new : Image) (was is : List (Option ℕ)) (bytes : List ℕ) → HoldBytes old was bytes
    → ((k : ℕ) → byte_at new is k ≡ byte_at old was k) → HoldBytes new is bytes

abbrev pub WrittenBytes : Type 0
WrittenBytes =
    (old new : Image) (was is : List (Option ℕ)) (bytes : List ℕ) (offset : ℕ) (part : List ℕ)
    → HoldBytes old was bytes
    → ((k : ℕ) → byte_at new is k ≡ over (byte_at old was) offset part k)
    → HoldBytes new is (overwritten bytes offset part)

-- shorter, or longer
abbrev pub ResizedBytes : Type 0
ResizedBytes =
    (old new : Image) (was is : List (Option ℕ)) (bytes : List ℕ) (size : ℕ)
    → HoldBytes old was bytes
    → ((k : ℕ) → byte_at new is k ≡ below (byte_at old was) size k)
    → HoldBytes new is (resized bytes size)

abbrev pub GrownBytes : Type 0
GrownBytes =
    (old new : Image) (was is : List (Option ℕ)) (bytes : List ℕ) (size : ℕ)
    → HoldBytes old was bytes
    → length bytes ≤ size → ((k : ℕ) → byte_at new is k ≡ byte_at old was k)
    → HoldBytes new is (resized bytes size)

-- two consecutive parts are one part, and a write over bytes that have grown no further than the
-- end of the write is just that write
pub record WritesByParts (bytes : List ℕ) (offset : ℕ) : Type 0 where
  pub on : (prefix part : List ℕ)
      → overwritten (overwritten bytes offset prefix) (offset + length prefix) part
      ≡ overwritten bytes offset (prefix ++ part)
  pub grown : (part : List ℕ) (size : ℕ) → length bytes ≤ size
      → size ≤ max (length bytes) (offset + length part)
      → overwritten (resized bytes size) offset part ≡ overwritten bytes offset part

abbrev pub EachWrite : Type 0
EachWrite = (bytes : List ℕ) (offset : ℕ) → WritesByParts bytes offset

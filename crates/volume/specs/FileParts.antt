-- Bytes that are appended part by part.
use Rattle.std.specs.Prelude.{◌≡◌, ◌<◌, ◌+◌, ◌++◌, ℕ, List, Option, length, take, slice_index}
use Rattle.disk.specs.Moments.{Image}
use Rattle.layout.specs.CachedNodes.{byte_at}

-- the new bytes begin with the old ones
abbrev pub IsBytesPrefix : (old new : List ℕ) → Type 0
IsBytesPrefix old new = take (length old) new ≡ old

-- `count` bytes follow the old ones. If the device keeps its word, which is `word` here, they are
-- the bytes of these blocks from `offset` on.
pub record Appends (word : Type 0) (image : Image) (blocks : List (Option ℕ)) (offset count : ℕ)
    (old new : List ℕ) : Type 0 where
  pub part : List ℕ
  pub is : new ≡ old ++ part
  pub many : length part ≡ count
  pub bytes : word → (k : ℕ) → k < count → slice_index part k ≡ byte_at image blocks (offset + k)

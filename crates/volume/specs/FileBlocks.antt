-- Blocks that can be read, and bytes that are read from them.
use Rattle.std.specs.Prelude.{◌≡◌, ◌<◌, ◌+◌, ℕ, List, Option, Some, None, length, take}
use Rattle.std.specs.Prelude.{slice_index_or}

-- each block that has a sector has one below `size`
abbrev pub FileWithin : (size : ℕ) → List (Option ℕ) → Type 0
FileWithin size blocks = (block sector : ℕ)
    → slice_index_or blocks block None ≡ Some sector → sector < size

-- the old bytes, and `count` more after them
pub record GetsMore (old new : List ℕ) (count : ℕ) : Type 0 where
  pub prefix : take (length old) new ≡ old
  pub count_is : length new ≡ length old + count

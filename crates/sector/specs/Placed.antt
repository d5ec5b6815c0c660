-- Fields of a sector: bytes written at an offset, and numbers read there.
use Rattle.std.specs.Prelude.{◌≡◌, ◌<◌, ◌+◌, ◌^◌, ℕ, List, ◌++◌, length, take, drop}
use Rattle.std.specs.Int.{bytes_high_first}

-- the sector with these bytes at offset `at`
abbrev pub placed : List ℕ → ℕ → List ℕ → List ℕ
placed sector at bytes = take at sector ++ bytes ++ drop (at + length bytes) sector

-- The bytes are stored at offset `at`, and nothing else changed. So everything before their end is
-- what was before `at`, followed by the bytes: a sector that is written from its first byte on is
-- its parts end to end.
pub record Places (old new : List ℕ) (at : ℕ) (bytes : List ℕ) : Type 0 where
  pub whole : new ≡ placed old at bytes
  pub prefix : take (at + length bytes) new ≡ take at old ++ bytes
  pub len : length new ≡ 4096

-- if the `width` bytes at offset `at` encode a number, the highest byte first, it is `number`
abbrev pub IsNumberAt : ℕ → List ℕ → ℕ → ℕ → Type 0
IsNumberAt width sector at number =
    (other : ℕ) (rest : List ℕ) → other < 256 ^ width
    → drop at sector ≡ bytes_high_first width other ++ rest → number ≡ other

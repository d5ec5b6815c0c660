-- The records of a directory in blocks of 15, which copies share.
use Rattle.std.specs.Prelude.{◌≡◌, ◌<◌, ◌≤◌, ◌-◌, ◌++◌, ℕ, List, [], ◌∷◌, length, min}
use Rattle.directory.specs.Records.{Record}

abbrev pub joined : List (List Record) → List Record
joined [] = []
joined (block ∷ rest) = block ++ joined rest

-- all but the last are full, and `count` ends in the last
abbrev pub AreFilled : (count : ℕ) → List (List Record) → Type 0
AreFilled count [] = count ≡ 0
AreFilled count (block ∷ rest) =
    (0 < count) × (min count 15 ≤ length block) × (length block ≤ 15)
    × AreFilled (count - 15) rest

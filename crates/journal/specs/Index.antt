-- An index of a list of sectors: entries of a sector and its last place, found by binary search.
use Rattle.std.specs.Prelude.{◌≡◌, ◌≢◌, ◌≤◌, ◌<◌, ℕ, false, List, length, slice_index_or}
use Rattle.journal.specs.Transactions.{has, IsLastPlace}

-- the sector of entry i
abbrev pub sector_at : List (ℕ × ℕ) → ℕ → ℕ
sector_at entries i = let entry = slice_index_or entries i (0, 0) in entry.0

-- its place
abbrev pub place_at : List (ℕ × ℕ) → ℕ → ℕ
place_at entries i = let entry = slice_index_or entries i (0, 0) in entry.1

-- the sectors rise, so none has two entries
abbrev pub IsRising : List (ℕ × ℕ) → Type 0
IsRising entries =
    (i j : ℕ) → i < j → j < length entries → sector_at entries i < sector_at entries j

-- entry i is that of the sector
pub record IsEntryOf (entries : List (ℕ × ℕ)) (n i : ℕ) : Type 0 where
  pub within : i < length entries
  pub is : sector_at entries i ≡ n

-- the sector's entry would go in front of entry i
pub record IsGapFor (entries : List (ℕ × ℕ)) (n i : ℕ) : Type 0 where
  pub within : i ≤ length entries
  pub below : (j : ℕ) → j < i → sector_at entries j < n
  pub above : (j : ℕ) → i ≤ j → j < length entries → n < sector_at entries j

-- each sector of the list has one entry, with its last place
pub record IsIndexOf (entries : List (ℕ × ℕ)) (sectors : List ℕ) : Type 0 where
  pub few : length entries ≤ length sectors
  pub rising : IsRising entries
  pub last : (i : ℕ) → i < length entries
      → IsLastPlace sectors (sector_at entries i) (place_at entries i)
  pub all : (n : ℕ) → ((i : ℕ) → i < length entries → sector_at entries i ≢ n)
      → has sectors n ≡ false

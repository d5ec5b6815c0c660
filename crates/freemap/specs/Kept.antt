-- What a `Bitmap` keeps: the bytes of its sectors, how many of their bits are places, and where to
-- look for a free one; and the same of a `SharedBitmap`, a page for each sector.
use Rattle.std.specs.Prelude.{◌≡◌, ◌≢◌, ◌<◌, ◌≤◌, ◌+◌, ◌-◌, ◌*◌, ◌/◌, ◌^◌, ℕ, Bool, not, List, [], length, slice_index, slice_index_or, count_by, min, max, All}
use Rattle.std.specs.List.{concat}
use Rattle.freemap.specs.Places.{bit_of}

-- how many places are free
abbrev pub free_places : List Bool → ℕ
free_places places = count_by not places

-- how many sectors a set of this many places takes, 32,768 in each: two at least
abbrev pub parts : (count : ℕ) → ℕ
parts count = max 2 ((count + 32767) / 32768)

-- no bit is set from this one on
abbrev pub IsClearFrom : List ℕ → ℕ → Type 0
IsClearFrom bytes first = (i : ℕ) → first ≤ i → bit_of bytes i ≡ 0

-- each bit below this one is set
abbrev pub IsSetBelow : List ℕ → ℕ → Type 0
IsSetBelow bytes end = (i : ℕ) → i < end → bit_of bytes i ≡ 1

-- two sectors have the same bits
abbrev pub HaveSameBits : List ℕ → List ℕ → Type 0
HaveSameBits a b = (i : ℕ) → i < 32768 → bit_of a i ≡ bit_of b i

-- the bit at a place becomes this one, and no other one changes
pub record BitBecomes (old new : List ℕ) (place bit : ℕ) : Type 0 where
  pub here : bit_of new place ≡ bit
  pub others : (i : ℕ) → i ≢ place → bit_of new i ≡ bit_of old i

-- the bits are the sectors', none is set past the last place, and no place below `lowest` is free
pub record IsBitmap (bytes : List ℕ) (count lowest : ℕ) : Type 0 where
  pub len : length bytes ≡ 4096 * parts count
  pub fits : count < 2 ^ 32
  pub past : IsClearFrom bytes count
  pub lowest_in : lowest ≤ count
  pub below : IsSetBelow bytes lowest

-- the first clear bit below `end`: `end` if each is set
pub record IsFirstClear (bytes : List ℕ) (end place : ℕ) : Type 0 where
  pub within : place ≤ end
  pub below : IsSetBelow bytes place
  pub clear : place < end → bit_of bytes place ≡ 0

-- a page is a sector, and has the place of its first clear bit
pub record IsPage (bytes : List ℕ) (first : ℕ) : Type 0 where
  pub len : length bytes ≡ 4096
  pub first_clear : IsFirstClear bytes 32768 first

-- every page is a sector
abbrev pub AreSectors : List (List ℕ) → Type 0
AreSectors pages = All (λ page. length page ≡ 4096) pages

-- a group is 128 pages at most, and has the place of their first clear bit
pub record IsGroup (pages : List (List ℕ)) (first : ℕ) : Type 0 where
  pub few : length pages ≤ 128
  pub sectors : AreSectors pages
  pub first_clear : IsFirstClear (concat pages) (32768 * length pages) first

-- every group has 128 pages, except the last one, which has the rest
pub record AreGroups (groups : List (List ℕ)) : Type 0 where
  pub many : length groups ≡ (length (concat groups) + 524287) / 524288
  pub each : (k : ℕ)
      → length (slice_index_or groups k []) ≡ min 524288 (length (concat groups) - 524288 * k)

-- a sector is the 4,096 bytes from `first` on
pub record IsSectorAt (sector all : List ℕ) (first : ℕ) : Type 0 where
  pub len : length sector ≡ 4096
  pub bytes : (k : ℕ) → k < 4096 → slice_index sector k ≡ slice_index all (first + k)

-- the groups, end to end, are a bitmap
pub record IsShared (groups : List (List ℕ)) (count lowest : ℕ) : Type 0 where
  pub full : AreGroups groups
  pub kept : IsBitmap (concat groups) count lowest

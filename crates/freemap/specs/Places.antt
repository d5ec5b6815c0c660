-- A set of places as the two bitmap sectors of a volume encode it: bit i of the two is byte i / 8,
-- the most significant bit first, and is 1 if place i is used.
use Rattle.std.specs.Prelude.{◌≡◌, ◌<◌, ◌≤◌, ◌+◌, ◌-◌, ◌/◌, ◌%◌, ◌^◌, ◌↔◌, ℕ, zero, suc, Bool, true, false, List, length, map, slice_index, slice_index_or, nat_lt, if◌then◌else◌}
use Rattle.std.specs.List.{range_with_len}

-- bit i of a list of bytes
abbrev pub bit_of : List ℕ → ℕ → ℕ
bit_of bytes i = slice_index bytes (i / 8) / 2 ^ (7 - i % 8) % 2

-- a used place as a bit
abbrev pub bit_from : Bool → ℕ
bit_from true = 1
bit_from false = 0

-- a bit as a place
abbrev pub is_one : ℕ → Bool
is_one zero = false
is_one (suc _) = true

-- the first `count` places that bytes encode
unfoldable pub places_in : List ℕ → (count : ℕ) → List Bool
places_in bytes count = map (λ i. is_one (bit_of bytes i)) (range_with_len 0 count)

-- the bit of place i, which is 0 past the last place
abbrev pub mark_of : List Bool → ℕ → ℕ
mark_of places i = bit_from (slice_index_or places i false)

-- the bit of a place in the two sectors
abbrev pub bit_in : List ℕ → List ℕ → ℕ → ℕ
bit_in low high i = if nat_lt i 32768 then bit_of low i else bit_of high (i - 32768)

-- the sector encodes the 32,768 places from `first` on
pub record ShowsPlaces (sector : List ℕ) (places : List Bool) (first : ℕ) : Type 0 where
  pub len : length sector ≡ 4096
  pub bits : (i : ℕ) → i < 32768 → bit_of sector i ≡ mark_of places (first + i)

-- the same sectors encode the places of both from `first` on
abbrev pub HaveSamePart : (a b : List Bool) → (first : ℕ) → Type 0
HaveSamePart a b first = (sector : List ℕ) → ShowsPlaces sector a first ↔ ShowsPlaces sector b first

-- two sectors encode a set of `count` places, and nothing past them
pub record Show (low high : List ℕ) (count : ℕ) (places : List Bool) : Type 0 where
  pub count_is : length places ≡ count
  pub low_shows : ShowsPlaces low places 0
  pub high_shows : ShowsPlaces high places 32768

abbrev pub IsBytes : List ℕ → Type 0
IsBytes bytes = (i : ℕ) → slice_index bytes i < 256

-- two sectors encode at most one set
abbrev pub OneSet : Type 0
OneSet =
    (low high : List ℕ) (count : ℕ) (a b : List Bool) → count ≤ 65536 → Show low high count a
    → Show low high count b → a ≡ b

-- a set has one encoding in a sector
abbrev pub OneEncoding : Type 0
OneEncoding =
    (places : List Bool) (first : ℕ) (a b : List ℕ) → IsBytes a → IsBytes b
    → ShowsPlaces a places first
    → ShowsPlaces b places first → a ≡ b

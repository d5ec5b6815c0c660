-- Orders of the records of a directory, by what they are searched for: lists of their places.
use Rattle.std.specs.Prelude.{◌≡◌, ◌≢◌, ◌<◌, ◌≤◌, ◌↔◌, ◌⊎◌, ℕ, Bool, List, [], ◌∷◌, not, length, slice_index_or}
use Rattle.std.specs.List.{AllByRecursion, Contains}
use Rattle.std.specs.declared.cmp.Ordering.{Ordering}
use Rattle.std.specs.declared.cmp.Ordering.TheVariants.{Less}
use Rattle.std.specs.Ordering.{nat_cmp, ordering_then, is_lt}
use Rattle.std.specs.Cmp.Lexicographic.{slice_cmp}
use Rattle.directory.specs.declared.order.By.{By}
use Rattle.directory.specs.declared.order.By.TheVariants as by
use Rattle.directory.specs.declared.order.Sought.{Sought}
use Rattle.directory.specs.declared.order.PlacedEntry.{PlacedEntry}
use Rattle.directory.specs.Records.{Record, stamp_of, name_of, record_of, record_from, IsDirectory}

-- by stamp, or by the bytes of the name
abbrev pub compare : By → Record → Record → Ordering
compare by.Stamp one other = nat_cmp (stamp_of one) (stamp_of other)
compare by.Name one other = slice_cmp nat_cmp (name_of one) (name_of other)

-- a record and its place: of records that compare the same, the one of the lower place is first
abbrev pub Placed : Type 0
Placed = Record × ℕ

abbrev pub compare_placed : By → Placed → Placed → Ordering
compare_placed by one other = ordering_then (compare by one.0 other.0) (nat_cmp one.1 other.1)

abbrev pub IsBefore : By → Placed → Placed → Type 0
IsBefore by one other = compare_placed by one other ≡ Less

abbrev pub at_place : List Record → ℕ → Placed
at_place records place = (slice_index_or records place (record_from 0 [] 0), place)

abbrev pub placed_of : Sought → Placed
placed_of sought = (record_from sought.stamp sought.name.now 0, sought.place)

-- whether the record at a place is what is sought, or after it
abbrev pub is_reached : By → List Record → Sought → (place : ℕ) → Bool
is_reached by records sought place =
    not (is_lt (compare_placed by (at_place records place) (placed_of sought)))

-- an entry with its place
abbrev pub placed_in : PlacedEntry → Placed
placed_in one = (record_of one.entry.now, one.place)

-- each record with its place, in the order of the places
pub record ArePlaced (all : List PlacedEntry) (records : List Record) : Type 0 where
  pub many : length all ≡ length records
  pub each : (i : ℕ) (d : PlacedEntry) → i < length all
      → placed_in (slice_index_or all i d) ≡ at_place records i

-- each is before those after it
abbrev pub AreRising : By → List Record → List ℕ → Type 0
AreRising by records [] = Unit {0}
AreRising by records (place ∷ rest) =
    AllByRecursion (λ other. IsBefore by (at_place records place) (at_place records other)) rest
    × AreRising by records rest

-- the places of the records, and no others
pub record IsOrder (by : By) (order : List ℕ) (records : List Record) : Type 0 where
  pub rising : AreRising by records order
  pub all : (place : ℕ) → Contains order place ↔ (place < length records)

-- the position of what is sought, or the one that it would have
pub record IsPosition (by : By) (records : List Record) (order : List ℕ) (sought : Placed) (at : ℕ)
    : Type 0 where
  pub within : at ≤ length order
  pub before : (k : ℕ) → k < at → IsBefore by (at_place records (slice_index_or order k 0)) sought
  pub behind : (k : ℕ) → at ≤ k → k < length order
      → IsBefore by (at_place records (slice_index_or order k 0)) sought → ⊥

-- How an insert, and taking one out, changes an order.
pub record IsInserted (by : By) (records : List Record) (old new : List ℕ) (place : ℕ) : Type 0
  where
    pub rising : AreRising by records new
    pub all : (other : ℕ) → Contains new other ↔ ((other ≡ place) ⊎ Contains old other)

pub record IsTakenOut (by : By) (records : List Record) (old new : List ℕ) (place : ℕ) : Type 0
  where
    pub rising : AreRising by records new
    pub all : (other : ℕ) → Contains new other ↔ ((other ≢ place) × Contains old other)

-- what is kept of a directory: its records, and their orders
pub record AreKept (records : List Record) (by_stamp by_name : List ℕ) : Type 0 where
  pub directory : IsDirectory records
  pub stamps : IsOrder by.Stamp by_stamp records
  pub names : IsOrder by.Name by_name records

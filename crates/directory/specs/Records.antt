-- A directory's names in the order of their records: each with its entry stamp, which is the name's
-- cookie (RFC 8881, section 18.23.3), and the number of its node. As a map from names the order
-- does not matter, and no two records have one name.
use Rattle.std.specs.Prelude.{◌≢◌, ◌<◌, ◌≤◌, ◌+◌, ◌^◌, ℕ, Bool, List, [], ◌∷◌, bytes_eq, length, if◌then◌else◌, slice_index_or}
use Rattle.std.specs.Rc.{rc_slice_items}
use Rattle.std.specs.List.{swap_remove, AllByRecursion}
use Rattle.model_tree.specs.Trees.Tree.{DirEntry}
use Rattle.directory.specs.declared.entry.Entry.{Entry}

abbrev pub Record : Type 0
Record = ℕ × DirEntry

abbrev pub record_from : (stamp : ℕ) → (name : List ℕ) → (number : ℕ) → Record
record_from stamp name number = (stamp, record { name = name; number = number })

abbrev pub record_of : Entry → Record
record_of entry = record_from entry.stamp (rc_slice_items entry.name) entry.number

abbrev pub is_named : List ℕ → Record → Bool
is_named name entry = bytes_eq name entry.1.name

-- the place of a name: after the last record if none has it
abbrev pub place_of : List ℕ → List Record → ℕ
place_of name [] = 0
place_of name (entry ∷ rest) = if is_named name entry then 0 else place_of name rest + 1

-- the records with this one, in the place of the one of its name, or after the last
abbrev pub with_record : List Record → Record → List Record
with_record [] new = new ∷ []
with_record (entry ∷ rest) new =
    if is_named new.1.name entry then new ∷ rest else entry ∷ with_record rest new

-- no two records have one name, or one stamp

abbrev pub ApartBy : {K : Type 0} → (key_of : Record → K) → List Record → Type 0
ApartBy key_of names =
    (i j : ℕ) (d : Record) → i < j → j < length names
    → key_of (slice_index_or names i d) ≢ key_of (slice_index_or names j d)

abbrev pub name_of : Record → List ℕ
name_of entry = entry.1.name

abbrev pub stamp_of : Record → ℕ
stamp_of entry = entry.0

abbrev pub NamesApart : List Record → Type 0
NamesApart names = ApartBy name_of names

-- stamps are above 0 and apart
pub record NamesStamped (names : List Record) : Type 0 where
  pub above : AllByRecursion (λ entry. 0 < entry.0) names
  pub apart : ApartBy stamp_of names

-- the records without the one at a place, into which the last one moves
abbrev pub without_place : List Record → ℕ → List Record
without_place names place = swap_remove names place (record_from 0 [] 0)

-- a record that can be encoded: a name of 1 to 255 bytes
pub record IsRecord (entry : Record) : Type 0 where
  pub stamp : entry.0 < 2 ^ 64
  pub number : entry.1.number < 2 ^ 64
  pub some : 0 < length entry.1.name
  pub few : length entry.1.name ≤ 255

-- what a directory keeps: at most 1,024 names, each of 1 to 255 bytes, no two the same
pub record IsDirectory (names : List Record) : Type 0 where
  pub few : length names ≤ 1024
  pub each : AllByRecursion IsRecord names
  pub apart : NamesApart names

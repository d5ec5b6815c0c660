-- What a tree is once a block has another sector.
use Rattle.std.specs.Prelude.{◌≡◌, ◌≢◌, ◌<◌, ◌≤◌, ◌+◌, ◌*◌, ◌-◌, ◌^◌, ◌==◌, ℕ, false, List, [], ◌∷◌, Option, Some, None, length, min, nat_lt, if◌then◌else◌, slice_set, slice_index_or}
use Rattle.std.specs.List.{AllByRecursion}
use Rattle.extent_tree.specs.declared.entry.Entry.{Entry}
use Rattle.extent_tree.specs.Charge.{most_indexes}
use Rattle.extent_tree.specs.Held.{hole}
use Rattle.extent_tree.specs.Tree.{blocks_of, blocks_in, indexes_of, indexes_in, is_index, IsTree, AreTrees}

-- how often a number is in a list
abbrev pub times : (n : ℕ) → List ℕ → ℕ
times n [] = 0
times n (x ∷ xs) = (if n == x then 1 else 0) + times n xs

-- no number is in a list twice
abbrev pub AreDistinct : List ℕ → Type 0
AreDistinct xs = (n : ℕ) → times n xs ≤ 1

-- `spare` are numbers of sectors, none of them twice, and none of them among `indexes`
pub record AreFresh (spare indexes : List ℕ) : Type 0 where
  pub used : AllByRecursion (λ s. 0 < s) spare
  pub once : AreDistinct spare
  pub apart : (s : ℕ) → 0 < times s spare → times s indexes ≡ 0

-- and no number is among `indexes` twice
pub record AreSpare (spare indexes : List ℕ) : Type 0 where
  pub used : AllByRecursion (λ s. 0 < s) spare
  pub once : (s : ℕ) → times s indexes + times s spare ≤ 1

-- other index sectors than these keep their entries
abbrev pub AreKept : (index other : ℕ → List Entry) → List ℕ → Type 0
AreKept index other sectors = (s : ℕ) → times s sectors ≡ 0 → other s ≡ index s

-- a sector, if there is one
abbrev pub listed : Option ℕ → List ℕ
listed None = []
listed (Some s) = s ∷ []

-- a hole, or an extent at depth e
pub record IsRun (e : ℕ) (entry : Entry) : Type 0 where
  pub whole : is_index entry ≡ false
  pub used : 0 < entry.length → 0 < entry.sector
  pub span : entry.length ≤ 512 ^ e
  pub fits : entry.sector + entry.length ≤ 2 ^ 32

-- `new` is an extent with this sector at this place, and with those of `entry` at others
pub record IsRunSet (entry : Entry) (place sector : ℕ) (new : Entry) : Type 0 where
  pub used : 0 < new.sector
  pub fits : new.sector + new.length ≤ 2 ^ 32
  pub some : place < new.length
  pub here : new.sector + place ≡ sector
  pub least : entry.length ≤ new.length
  pub others : (k : ℕ) → k ≢ place → k < new.length → k < entry.length
  pub same : (k : ℕ) → k ≢ place → k < entry.length → new.sector ≡ entry.sector

-- the entry for `span` blocks of those of an entry, from block `first` on
abbrev pub part_of : (entry : Entry) → (first span : ℕ) → Entry
part_of entry first span =
    if nat_lt first entry.length
    then record { sector = entry.sector + first; length = min (entry.length - first) span }
    else hole

-- 512 entries at depth e with the blocks of an entry above them
pub record AreParts (e : ℕ) (entry : Entry) (parts : List Entry) : Type 0 where
  pub len : length parts ≡ 512
  pub each : (i : ℕ) (d : Entry) → i < 512
      → slice_index_or parts i d ≡ part_of entry (512 ^ e * i) (512 ^ e)

-- `new` is an entry at depth e, over the index sectors of `other`, with this sector at this place,
-- and with those of `entry` at others; it has the index sectors of `entry`, and those taken
pub record IsBlockSet (index other : ℕ → List Entry) (e place sector : ℕ) (entry new : Entry)
    (taken : List ℕ) : Type 0 where
  pub tree : (n : ℕ) → place < n → IsTree index e n entry → IsTree other e n new
  pub blocks : (n : ℕ) → IsTree index e n entry
      → blocks_of other e new ≡ slice_set (blocks_of index e entry) place (Some sector)
  pub indexes : (s : ℕ)
      → times s (indexes_of other e new) ≡ times s (indexes_of index e entry) + times s taken

-- and consecutive entries
pub record AreBlocksSet (index other : ℕ → List Entry) (e place sector : ℕ)
    (entries new : List Entry) (taken : List ℕ) : Type 0 where
  pub len : length new ≡ length entries
  pub trees : (n : ℕ) → place < n → AreTrees index e n entries → AreTrees other e n new
  pub blocks : (n : ℕ) → AreTrees index e n entries
      → blocks_in other e new ≡ slice_set (blocks_in index e entries) place (Some sector)
  pub indexes : (s : ℕ)
      → times s (indexes_in other e new) ≡ times s (indexes_in index e entries) + times s taken

-- k spare sectors, with the index sectors below these entries, are fewer than there may be for a
-- file with the block at this place
pub record AreTooFew (index : ℕ → List Entry) (e place k : ℕ) (entries : List Entry) : Type 0 where
  pub depth : k < e
  pub most : (n : ℕ) → place < n → AreTrees index e n entries
      → k + length (indexes_in index e entries) < most_indexes e n

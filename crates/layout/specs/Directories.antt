-- A directory's names in their blocks, 15 each in the order of the records, and the effect of a
-- change on them.
use Rattle.std.specs.Prelude.{◌≡◌, ◌≢◌, ◌<◌, ◌-◌, ◌/◌, ◌++◌, ℕ, List, [], ◌∷◌, Option, None, length, slice_index_or}
use Rattle.disk.specs.Moments.{Image}
use Rattle.directory.specs.Records.{Record, with_record, without_place, place_of, name_of, NamesStamped}
use Rattle.directory.specs.Encoding.{directory_sector}
use Rattle.layout.specs.CachedNodes.{content_at}
use Rattle.layout.specs.Laid.{names_of_block, AreEncoded}

-- the names of every block except these are the same
abbrev pub ChangesBlocks : (old new : List Record) → (one other : ℕ) → Type 0
ChangesBlocks old new one other =
    (i : ℕ) → i ≢ one → i ≢ other → names_of_block i new ≡ names_of_block i old

-- the block of a record
abbrev pub block_of : (place : ℕ) → ℕ
block_of place = place / 15

-- the block that a name is put into: its own, or the one after the last record
abbrev pub block_put : List Record → Record → ℕ
block_put names new = block_of (place_of (name_of new) names)

abbrev pub PutsInOne : Type 0
PutsInOne = (names : List Record) (new : Record)
    → ChangesBlocks names (with_record names new) (block_put names new) (block_put names new)

-- a name that is removed changes its block, and that of the last record, which moves
abbrev pub RemovesInTwo : Type 0
RemovesInTwo = (names : List Record) (place : ℕ) → place < length names
    → ChangesBlocks names (without_place names place) (block_of place) (block_of (length names - 1))

-- the blocks except these hold what they held, and these hold their names; there may be one block
-- more or one less
pub record RewritesBlocks (old new : Image) (was is : List (Option ℕ)) (names : List Record)
    (one other : ℕ) : Type 0 where
  pub kept : (i : ℕ) → i ≢ one → i ≢ other → i < length is
      → (i < length was) × (content_at new (slice_index_or is i None)
      ≡ content_at old (slice_index_or was i None))
  pub one_is : one < length is
      → content_at new (slice_index_or is one None) ≡ directory_sector (names_of_block one names)
  pub other_is : other < length is
      → content_at new (slice_index_or is other None)
      ≡ directory_sector (names_of_block other names)

abbrev pub Rewriting : Type 0
Rewriting =
    (old new : Image) (was is : List (Option ℕ)) (before after : List Record) (one other : ℕ)
    → AreEncoded old was before → ChangesBlocks before after one other
    → RewritesBlocks old new was is after one other
    → AreEncoded new is after

-- no block of a directory is a hole
abbrev pub NoHoles : Type 0
NoHoles =
    (image : Image) (blocks : List (Option ℕ)) (names : List Record) → AreEncoded image blocks names
    → (i : ℕ) → i < length blocks → slice_index_or blocks i None ≢ None

-- stamps remain distinct

abbrev pub StaysStamped : Type 0
StaysStamped = (names : List Record) (place : ℕ) → place < length names → NamesStamped names
    → NamesStamped (without_place names place)

abbrev pub PutsStamped : Type 0
PutsStamped = (names : List Record) (new : Record) → NamesStamped names → 0 < new.0
    → ((i : ℕ) (d : Record) → i < length names → (slice_index_or names i d).0 ≢ new.0)
    → NamesStamped (names ++ new ∷ [])

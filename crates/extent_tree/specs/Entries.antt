-- What an entry is at a depth e, if its span has `count` blocks of the file: a hole, the number of
-- an index sector, or consecutive sectors.
use Rattle.std.specs.Prelude.{◌≡◌, ◌<◌, ◌≤◌, ◌+◌, ◌-◌, ◌^◌, ◌⊎◌, ℕ, List, [], ◌∷◌, min}
use Rattle.extent_tree.specs.declared.entry.Entry.{Entry}

-- the whole span is a hole
pub record IsHole (entry : Entry) : Type 0 where
  pub sector : entry.sector ≡ 0
  pub length : entry.length ≡ 0

-- `sector` is the index sector of the span
pub record IsIndex (e count : ℕ) (entry : Entry) : Type 0 where
  pub above : 0 < e
  pub sector : 0 < entry.sector
  pub fits : entry.sector < 2 ^ 32
  pub length : entry.length ≡ 0
  pub some : 0 < count

-- the first `length` blocks of the span are the sectors from `sector` on, the others holes
pub record IsExtent (e count : ℕ) (entry : Entry) : Type 0 where
  pub sector : 0 < entry.sector
  pub fits : entry.sector + entry.length ≤ 2 ^ 32
  pub some : 0 < entry.length
  pub span : entry.length ≤ 512 ^ e
  pub within : entry.length ≤ count

abbrev pub IsEntry : (e count : ℕ) → Entry → Type 0
IsEntry e count entry = IsHole entry ⊎ (IsIndex e count entry ⊎ IsExtent e count entry)

-- P holds of each entry, and of how many of the next `count` blocks its span of `span` blocks has
abbrev pub EachWithin : (P : ℕ → Entry → Type 0) → (span count : ℕ) → List Entry → Type 0
EachWithin P span count [] = Unit {0}
EachWithin P span count (entry ∷ entries) =
    P (min count span) entry × EachWithin P span (count - span) entries

-- consecutive entries at depth e, from whose first block on the file has `count` blocks
abbrev pub AreEntries : (e count : ℕ) → List Entry → Type 0
AreEntries e count entries = EachWithin (IsEntry e) (512 ^ e) count entries

-- A map from numbers to values, as the list of its entries by rising key: equal maps are the same
-- list, so that equality of maps is plain equality. The tree is one (by node number), and so is a
-- directory (by entry stamp).
use Rattle.std.specs.Prelude.{ℕ, Bool, true, false, List, [], ◌∷◌, Option, Some, None, ◌≡◌, ◌≢◌, ◌+◌, ◌<◌, ◌==◌, nat_lt, is_some}

abbrev pub Keyed : Type 0 → Type 0
Keyed A = List (ℕ × A)

-- The value at a key: that of the first entry that has it

abbrev pub here_or : {A : Type 0} → Bool → A → Option A → Option A
here_or true value others = Some value
here_or false value others = others

abbrev pub at : {A : Type 0} → ℕ → Keyed A → Option A
at key [] = None
at key (entry ∷ rest) = here_or (key == entry.0) entry.1 (at key rest)

abbrev pub is_key : {A : Type 0} → ℕ → Keyed A → Bool
is_key key entries = is_some (at key entries)

-- The map with this value at the key, in place of any that was there

abbrev pub before_or_behind : {A : Type 0} → Bool → (ℕ × A) → (ℕ × A) → Keyed A → Keyed A → Keyed A
before_or_behind true new entry rest others = new ∷ entry ∷ rest
before_or_behind false new entry rest others = entry ∷ others

abbrev pub in_place_of : {A : Type 0} → Bool → (ℕ × A) → Keyed A → Keyed A → Keyed A
in_place_of true new rest others = new ∷ rest
in_place_of false new rest others = others

abbrev pub with : {A : Type 0} → Keyed A → ℕ → A → Keyed A
with [] key value = (key, value) ∷ []
with (entry ∷ rest) key value = in_place_of (key == entry.0) (key, value) rest
    (before_or_behind (nat_lt key entry.0) (key, value) entry rest (with rest key value))

-- The map without the key

abbrev pub kept_or_not : {A : Type 0} → Bool → (ℕ × A) → Keyed A → Keyed A
kept_or_not true entry others = others
kept_or_not false entry others = entry ∷ others

abbrev pub without : {A : Type 0} → Keyed A → ℕ → Keyed A
without [] key = []
without (entry ∷ rest) key = kept_or_not (key == entry.0) entry (without rest key)

-- the keys rise, and all of them are above this one
abbrev pub IsAbove : {A : Type 0} → ℕ → Keyed A → Type 0
IsAbove key [] = Unit {0}
IsAbove key (entry ∷ rest) = (key < entry.0) × IsAbove entry.0 rest

-- the sum of what the values are worth
abbrev pub total : {A : Type 0} → (A → ℕ) → Keyed A → ℕ
total worth [] = 0
total worth (entry ∷ rest) = worth entry.1 + total worth rest

-- what the value at a key is worth, or 0 if there is none
abbrev pub worth_at : {A : Type 0} → (A → ℕ) → Option A → ℕ
worth_at worth None = 0
worth_at worth (Some value) = worth value

-- Its laws

-- two maps that hold the same at each key are the same list
abbrev pub OnlyMap : Type 0 → Type 0
OnlyMap A =
    (key : ℕ) (a b : Keyed A) → IsAbove key a → IsAbove key b
    → ((other : ℕ) → at other a ≡ at other b) → a ≡ b

-- what is read after a change
pub record ReadsBack (A : Type 0) : Type 0 where
  pub at-with_same : (entries : Keyed A) (key : ℕ) (value : A)
      → at key (with entries key value) ≡ Some value
  pub at-with_other : (entries : Keyed A) (key other : ℕ) (value : A) → other ≢ key
      → at other (with entries key value) ≡ at other entries
  pub at-without_same : (entries : Keyed A) (key : ℕ) → at key (without entries key) ≡ None
  pub at-without_other : (entries : Keyed A) (key other : ℕ) → other ≢ key
      → at other (without entries key) ≡ at other entries

-- a change keeps the order; it adds the new value's worth to the sum, and subtracts the old one's
pub record KeepsOrder (A : Type 0) : Type 0 where
  pub IsAbove-with : (entries : Keyed A) (key least : ℕ) (value : A) → IsAbove least entries
      → least < key
      → IsAbove least (with entries key value)
  pub IsAbove-without : (entries : Keyed A) (key least : ℕ) → IsAbove least entries
      → IsAbove least (without entries key)
  pub total-with : (worth : A → ℕ) (entries : Keyed A) (key least : ℕ) (value : A)
      → IsAbove least entries
      → total worth (with entries key value) + worth_at worth (at key entries)
      ≡ total worth entries + worth value
  pub total-without : (worth : A → ℕ) (entries : Keyed A) (key least : ℕ) → IsAbove least entries
      → total worth (without entries key) + worth_at worth (at key entries) ≡ total worth entries

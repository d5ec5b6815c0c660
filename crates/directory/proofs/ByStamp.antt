-- The map of records by stamp, and what it has after a cookie.
use Rattle.std.proofs.Common.{ℕ, List, [], ◌∷◌, ◌≡◌, ◌≢◌, ◌<◌, ◌≤◌, ◌∙◌, Some, None, inl, inr, refl, sym, ap, arith, ne_eqb, eq-eqb}
use Rattle.std.proofs.lemmas.Bool.{cases_order, cases_eq, cases_lt, lt-ltb, le-ltb}
use Rattle.model_tree.specs.Trees.Keyed.{Keyed, at, with, IsAbove}
use Rattle.model_tree.specs.Trees.Tree.{DirEntry}
use Rattle.model_tree.proofs.Trees.KeyedLaws.{at-below, at-first, at-rest, at-with_same, at-with_other, IsAbove-with, some≢none}
use Rattle.directory.specs.Records.{Record}
use Rattle.directory.specs.Listing.{by_stamp, after}
use Rattle.directory.specs.Least.{IsLeast}

-- the map has what the first record of the stamp has
pub at-by_stamp : (key : ℕ) (records : List Record) → at key (by_stamp records) ≡ at key records
at-by_stamp key [] = refl
at-by_stamp key (entry ∷ rest) = elim (cases_eq key entry.0) [
  | inl same ↦
      ap (λ k. at k (with (by_stamp rest) entry.0 entry.1)) same
      ∙ (at-with_same (by_stamp rest) entry.0 entry.1 ∙ sym (at-first entry.0 key entry.1 rest same))
  | inr apart ↦
      at-with_other (by_stamp rest) entry.0 key entry.1 apart ∙ (at-by_stamp key rest ∙ sym (at-rest entry.0 key entry.1 rest apart))
]

module _ {A : Type 0} where
  -- keys rise
  abbrev pub IsRising : Keyed A → Type 0
  IsRising [] = Unit {0}
  IsRising (entry ∷ rest) = IsAbove entry.0 rest

  pub rising_above : (entries : Keyed A) (least : ℕ) → IsAbove least entries → IsRising entries
  rising_above [] least above = tt
  rising_above (entry ∷ rest) least above = above.1

  rising_with : (entries : Keyed A) (key : ℕ) (value : A) → IsRising entries → IsRising (with entries key value)
  rising_with [] key value rising = tt
  rising_with (entry ∷ rest) key value rising = elim (cases_order key entry.0) [
    | inl same ↦ rw (eq-eqb key entry.0 same) (rw same rising)
    | inr apart ↦ elim apart [
      | inl low ↦
          let other : key ≢ entry.0 = omega arith in
          rw (ne_eqb key entry.0 other, lt-ltb key entry.0 low) (low, rising)
      | inr high ↦
          let other : key ≢ entry.0 = omega arith in
          let above : entry.0 ≤ key = omega arith in
          rw (ne_eqb key entry.0 other, le-ltb key entry.0 above) (IsAbove-with rest key entry.0 value rising high)
    ]
  ]

pub rising_by_stamp : (records : List Record) → IsRising (by_stamp records)
rising_by_stamp [] = tt
rising_by_stamp (entry ∷ rest) = rising_with (by_stamp rest) entry.0 entry.1 (rising_by_stamp rest)

-- What comes after a cookie

pub keeps : (cookie : ℕ) (entry : Record) (rest : Keyed DirEntry) → cookie < entry.0 → after cookie (entry ∷ rest) ≡ entry ∷ after cookie rest
keeps cookie entry rest above = rw (lt-ltb cookie entry.0 above) refl

pub drops : (cookie : ℕ) (entry : Record) (rest : Keyed DirEntry) → entry.0 ≤ cookie → after cookie (entry ∷ rest) ≡ after cookie rest
drops cookie entry rest below = rw (le-ltb cookie entry.0 below) refl

pub after_all : (cookie least : ℕ) (entries : Keyed DirEntry) → cookie ≤ least → IsAbove least entries → after cookie entries ≡ entries
after_all cookie least [] low above = refl
after_all cookie least (entry ∷ rest) low above =
    keeps cookie entry rest (omega arith) ∙ ap (λ l. entry ∷ l) (after_all cookie entry.0 rest (omega arith) above.1)

pub after_none : (cookie : ℕ) (entries : Keyed DirEntry) → ((key : ℕ) → cookie < key → at key entries ≡ None) → after cookie entries ≡ []
after_none cookie [] none = refl
after_none cookie (entry ∷ rest) none = elim (cases_lt cookie entry.0) [
  | inl above ↦ absurd (some≢none entry.1 (sym (at-first entry.0 entry.0 entry.1 rest refl) ∙ none entry.0 above))
  | inr below ↦ drops cookie entry rest below ∙ after_none cookie rest (λ key above. sym (at-rest entry.0 key entry.1 rest (omega arith)) ∙ none key above)
]

not_above : (a b : ℕ) → (a < b → ⊥) → b ≤ a
not_above a b never = elim (cases_lt a b) [ inl above ↦ absurd (never above) | inr below ↦ below ]

value_is : (value other : DirEntry) → Some value ≡ Some other → value ≡ other
value_is value other same = cc

-- the entry of the least key above the cookie is the first
pub after_first : (cookie key : ℕ) (value : DirEntry) (entries : Keyed DirEntry) → IsRising entries → cookie < key → at key entries ≡ Some value
    → ((other : ℕ) → cookie < other → other < key → at other entries ≡ None) → after cookie entries ≡ (key, value) ∷ after key entries
after_first cookie key value [] rising above is none = absurd (some≢none value (sym is))
after_first cookie key value (entry ∷ rest) rising above is none = elim (cases_order key entry.0) [
  | inl same ↦
      let its : value ≡ entry.1 = value_is value entry.1 (sym is ∙ at-first entry.0 key entry.1 rest same) in
      let here : (key, value) ≡ entry = ap (λ k. (k, value)) same ∙ ap (λ v. (entry.0, v)) its in
      keeps cookie entry rest (omega arith)
      ∙ (ap (λ l. entry ∷ l) (after_all cookie entry.0 rest (omega arith) rising)
      ∙ (ap (λ e. e ∷ rest) (sym here)
      ∙ ap (λ l. (key, value) ∷ l) (sym (drops key entry rest (omega arith) ∙ after_all key entry.0 rest (omega arith) rising))))
  | inr apart ↦ elim apart [
    | inl low ↦ absurd (some≢none value (sym is ∙ at-below (entry ∷ rest) key key (low, rising) (omega arith)))
    | inr high ↦
        let apart_from : key ≢ entry.0 = omega arith in
        let below : entry.0 ≤ cookie = not_above cookie entry.0 (λ between. some≢none entry.1 (sym (at-first entry.0 entry.0 entry.1 rest refl) ∙ none entry.0 between high)) in
        drops cookie entry rest below
        ∙ (after_first cookie key value rest (rising_above rest entry.0 rising) above (sym (at-rest entry.0 key entry.1 rest apart_from) ∙ is)
        (λ other low up. sym (at-rest entry.0 other entry.1 rest (omega arith)) ∙ none other low up)
        ∙ ap (λ l. (key, value) ∷ l) (sym (drops key entry rest (omega arith))))
  ]
]

-- The record of the least stamp above the cookie

-- is the first after it
pub first_behind : (cookie : ℕ) (records : List Record) (least : Record) → IsLeast cookie records (Some least)
    → after cookie (by_stamp records) ≡ least ∷ after least.0 (by_stamp records)
first_behind cookie records least is =
    after_first cookie least.0 least.1 (by_stamp records) (rising_by_stamp records) is.0 (at-by_stamp least.0 records ∙ is.1)
    (λ key above below. at-by_stamp key records ∙ is.2 key above below)

pub none_behind : (cookie : ℕ) (records : List Record) → IsLeast cookie records None → after cookie (by_stamp records) ≡ []
none_behind cookie records is = after_none cookie (by_stamp records) (λ key above. at-by_stamp key records ∙ is key above)

-- Maps whose keys rise, and whose first key may be 0.
use Rattle.std.proofs.Common.{◌≡◌, ◌≢◌, ◌≤◌, ◌+◌, ℕ, [], ◌∷◌, None, length, refl, sym, ap, arith, inl, inr, eq-eqb, ne_eqb, lt-ltb, le-ltb, subst}
use Rattle.std.proofs.lemmas.Bool.{cases_order, cases_eq}
use Rattle.model_tree.specs.Trees.Keyed.{Keyed, at, with, without, total, worth_at, IsAbove}
use Rattle.model_tree.proofs.Trees.KeyedLaws.{at-below, IsAbove-with, IsAbove-without, total-with, total-without}
use Rattle.model_tree.proofs.Trees.KeyedParts.{total-ones}

abbrev pub Rises : {A : Type 0} → Keyed A → Type 0
Rises [] = Unit {0}
Rises (entry ∷ rest) = IsAbove entry.0 rest

pub rises_above : {A : Type 0} (entries : Keyed A) (least : ℕ) → IsAbove least entries → Rises entries
rises_above [] least above = tt
rises_above (entry ∷ rest) least above = above.1

-- A change keeps the order, adds the value's worth and takes away that of the former value

pub rises_with : {A : Type 0} (entries : Keyed A) (key : ℕ) (value : A) → Rises entries → Rises (with entries key value)
rises_with [] key value rises = tt
rises_with (entry ∷ rest) key value rises = elim (cases_order key entry.0) [
  | inl one ↦ rw (eq-eqb key entry.0 one) (subst (λ (k : ℕ). IsAbove k rest) (sym one) rises)
  | inr apart ↦ elim apart [
    | inl low ↦ let off : key ≢ entry.0 = omega arith in rw (ne_eqb key entry.0 off, lt-ltb key entry.0 low) (low, rises)
    | inr behind ↦
        let off : key ≢ entry.0 = omega arith in
        let high : entry.0 ≤ key = omega arith in
        rw (ne_eqb key entry.0 off, le-ltb key entry.0 high) (IsAbove-with rest key entry.0 value rises behind)
  ]
]

pub rises_without : {A : Type 0} (entries : Keyed A) (key : ℕ) → Rises entries → Rises (without entries key)
rises_without [] key rises = tt
rises_without (entry ∷ rest) key rises = elim (cases_eq key entry.0) [
  | inl one ↦ rw (eq-eqb key entry.0 one) (rises_above (without rest key) entry.0 (IsAbove-without rest key entry.0 rises))
  | inr off ↦ rw (ne_eqb key entry.0 off) (IsAbove-without rest key entry.0 rises)
]

pub total_with : {A : Type 0} (worth : A → ℕ) (entries : Keyed A) (key : ℕ) (value : A) → Rises entries
    → total worth (with entries key value) + worth_at worth (at key entries) ≡ total worth entries + worth value
total_with worth [] key value rises = omega arith
total_with worth (entry ∷ rest) key value rises = elim (cases_order key entry.0) [
  | inl one ↦ rw (eq-eqb key entry.0 one) (omega arith)
  | inr apart ↦ elim apart [
    | inl low ↦ total-with worth (entry ∷ rest) key key value (low, rises)
    | inr behind ↦
        let off : key ≢ entry.0 = omega arith in
        let high : entry.0 ≤ key = omega arith in
        rw (ne_eqb key entry.0 off, le-ltb key entry.0 high) (omega (arith, total-with worth rest key entry.0 value rises))
  ]
]

pub total_without : {A : Type 0} (worth : A → ℕ) (entries : Keyed A) (key : ℕ) → Rises entries
    → total worth (without entries key) + worth_at worth (at key entries) ≡ total worth entries
total_without worth [] key rises = refl
total_without worth (entry ∷ rest) key rises = elim (cases_eq key entry.0) [
  | inl one ↦
      let none = ap (worth_at worth) (at-below rest entry.0 key rises (omega arith)) in
      rw (eq-eqb key entry.0 one) (omega (arith, none, total-without worth rest key entry.0 rises))
  | inr off ↦ rw (ne_eqb key entry.0 off) (omega (arith, total-without worth rest key entry.0 rises))
]

-- a key that was not there adds one entry
pub length_with : {A : Type 0} (entries : Keyed A) (key : ℕ) (value : A) → Rises entries → at key entries ≡ None → length (with entries key value) ≡ length entries + 1
length_with {A = A} entries key value rises none =
    let one : A → ℕ = λ v. 1 in
    omega (arith, total_with one entries key value rises, ap (worth_at one) none, total-ones (with entries key value), total-ones entries)

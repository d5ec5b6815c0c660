-- Two changes of a map, one after the other.
use Rattle.std.proofs.Common.{ℕ, ◌≡◌, ◌≢◌, ◌<◌, inl, inr, sym, ap, ◌∙◌}
use Rattle.std.specs.Prelude.{None}
use Rattle.std.proofs.lemmas.Bool.{cases_eq}
use Rattle.model_tree.specs.Trees.Keyed.{Keyed, at, with, without, IsAbove}
use Rattle.model_tree.specs.Trees.KeyedChanges.{ChangesMeet}
use Rattle.model_tree.proofs.Trees.KeyedLaws.{at-with_same, at-with_other, at-without_same, at-without_other, IsAbove-with, IsAbove-without, only_map, with-with_same, with-with_other}

module _ {A : Type 0} where
  at-without_with : (entries : Keyed A) (key other : ℕ) (value : A) → key ≢ other → (k : ℕ)
      → at k (without (with entries key value) other) ≡ at k (with (without entries other) key value)
  at-without_with entries key other value apart k = elim (cases_eq k other) [
    | inl one ↦
        let gone : (e : Keyed A) → at k (without e other) ≡ None
        = λ e. ap (λ (i : ℕ). at i (without e other)) one ∙ at-without_same e other in
        gone (with entries key value) ∙ sym (at-with_other (without entries other) key k value (λ e. apart (sym e ∙ one)) ∙ gone entries)
    | inr off ↦ at-without_other (with entries key value) other k off ∙ elim (cases_eq k key) [
      | inl two ↦ ap (λ (i : ℕ). at i (with entries key value)) two ∙ at-with_same entries key value
          ∙ sym (ap (λ (i : ℕ). at i (with (without entries other) key value)) two ∙ at-with_same (without entries other) key value)
      | inr far ↦ at-with_other entries key k value far
          ∙ sym (at-with_other (without entries other) key k value far ∙ at-without_other entries other k off)
    ]
  ]

  pub without-with_other : (entries : Keyed A) (key other : ℕ) (value : A) → IsAbove 0 entries → 0 < key → key ≢ other
      → without (with entries key value) other ≡ with (without entries other) key value
  without-with_other entries key other value above some apart =
      only_map 0 (without (with entries key value) other) (with (without entries other) key value)
      (IsAbove-without (with entries key value) other 0 (IsAbove-with entries key 0 value above some))
      (IsAbove-with (without entries other) key 0 value (IsAbove-without entries other 0 above) some)
      (at-without_with entries key other value apart)

  at-without_fresh : (entries : Keyed A) (key : ℕ) (value : A) → at key entries ≡ None → (k : ℕ)
      → at k (without (with entries key value) key) ≡ at k entries
  at-without_fresh entries key value none k = elim (cases_eq k key) [
    | inl one ↦ ap (λ (i : ℕ). at i (without (with entries key value) key)) one ∙ at-without_same (with entries key value) key
        ∙ sym none ∙ ap (λ (i : ℕ). at i entries) (sym one)
    | inr off ↦ at-without_other (with entries key value) key k off ∙ at-with_other entries key k value off
  ]

  pub without-with_fresh : (entries : Keyed A) (key : ℕ) (value : A) → IsAbove 0 entries → 0 < key → at key entries ≡ None
      → without (with entries key value) key ≡ entries
  without-with_fresh entries key value above some none =
      only_map 0 (without (with entries key value) key) entries
      (IsAbove-without (with entries key value) key 0 (IsAbove-with entries key 0 value above some)) above
      (at-without_fresh entries key value none)

pub changes_meet : (A : Type 0) → ChangesMeet A
changes_meet A = record {
  with-with_same = with-with_same;
  with-with_other = with-with_other;
  without-with_other = without-with_other;
  without-with_fresh = without-with_fresh;
}

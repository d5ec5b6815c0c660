-- A walk up, step by step.
use Rattle.std.proofs.Common.{◌≡◌, ◌≢◌, ◌<◌, ◌+◌, ◌-◌, ℕ, suc, Bool, true, false, refl, sym, ap, ◌∙◌, arith, eqb, eq-eqb, ne_eqb}
use Rattle.std.specs.List.{list_any}
use Rattle.model_tree.specs.Trees.Ancestors.{ancestors_in, parent_of}
use Rattle.model_tree.specs.Trees.Tree.{Tree, root}

-- whether one of the `steps` nodes upwards from a number is this one
abbrev pub is_met : (steps : ℕ) → Tree → (upper number : ℕ) → Bool
is_met steps tree upper number = list_any (λ of. eqb of upper) (ancestors_in steps tree number)

step-left : (count step : ℕ) → step < count → count - step ≡ suc (count - (step + 1))
step-left count step low = omega arith

met-one : (steps : ℕ) (tree : Tree) (upper number : ℕ) → number ≡ upper → is_met (suc steps) tree upper number ≡ true
met-one steps tree upper number same = rw (eq-eqb number upper same) refl

met-root : (steps : ℕ) (tree : Tree) (upper number : ℕ) → number ≢ upper → number ≡ root → is_met (suc steps) tree upper number ≡ false
met-root steps tree upper number off is = rw (ne_eqb number upper off, eq-eqb number root is) refl

met-more : (steps : ℕ) (tree : Tree) (upper number : ℕ) → number ≢ upper → number ≢ root → is_met (suc steps) tree upper number ≡ is_met steps tree upper (parent_of tree number)
met-more steps tree upper number off other = rw (ne_eqb number upper off, ne_eqb number root other) refl

module _ (count step : ℕ) (low : step < count) (tree : Tree) (upper number : ℕ) where
  left : is_met (count - step) tree upper number ≡ is_met (suc (count - (step + 1))) tree upper number
  left = ap (λ n. is_met n tree upper number) (step-left count step low)

  pub here : number ≡ upper → is_met (count - step) tree upper number ≡ true
  here same = left ∙ met-one (count - (step + 1)) tree upper number same

  pub at-root : number ≢ upper → number ≡ root → is_met (count - step) tree upper number ≡ false
  at-root off is = left ∙ met-root (count - (step + 1)) tree upper number off is

  pub further : (next : ℕ) → number ≢ upper → number ≢ root → next ≡ parent_of tree number → is_met (count - step) tree upper number ≡ is_met (count - (step + 1)) tree upper next
  further next off other is = left ∙ met-more (count - (step + 1)) tree upper number off other ∙ ap (is_met (count - (step + 1)) tree upper) (sym is)

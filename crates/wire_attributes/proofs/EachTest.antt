-- The tests of each of a list, one after the other, as a loop makes them.
use Rattle.std.proofs.Common.{◌≡◌, ℕ, ◌+◌, ◌<◌, List, ◌∷◌, length, drop, get_or, map, sym, ap, ◌∙◌}
use Rattle.std.specs.Prelude.{Option, Some, None}
use Rattle.std.specs.List.{flat_map}
use Rattle.std.proofs.lemmas.List.{drop_more}
use Rattle.std.proofs.lemmas.List.Concat.{flat_map-cons}
use Rattle.model_tree.specs.declared.status.Status.{Status}
use Rattle.model_tree.specs.Refusals.Refusal.{Refusals, first_refusal}
use Rattle.model.proofs.Operations.RefusalLaws.{first-append, or_else}

module _ {X V : Type 0} (view : X → V) (tests : V → Refusals) where
  -- the first refusal of all
  abbrev pub first_of : List X → Option Status
  first_of list = first_refusal (flat_map tests (map view list))

  one_more : (x : X) (list : List X) → first_of (x ∷ list) ≡ or_else (first_refusal (tests (view x))) (first_of list)
  one_more x list =
      ap first_refusal (flat_map-cons tests (view x) (map view list)) ∙ first-append (tests (view x)) (flat_map tests (map view list))

  at_place : (list : List X) (i : ℕ) (x : X) → i < length list → x ≡ get_or list i x
      → first_of (drop i list) ≡ or_else (first_refusal (tests (view x))) (first_of (drop (i + 1) list))
  at_place list i x within is =
      ap first_of (drop_more list i x within)
      ∙ (ap (λ (y : X). first_of (y ∷ drop (i + 1) list)) (sym is)
      ∙ one_more x (drop (i + 1) list))

  pub refuses_here : (list : List X) (i : ℕ) (x : X) (reason : Status) → i < length list → x ≡ get_or list i x
      → first_of list ≡ first_of (drop i list) → first_refusal (tests (view x)) ≡ Some reason → first_of list ≡ Some reason
  refuses_here list i x reason within is so_far here =
      so_far ∙ (at_place list i x within is ∙ ap (λ (o : Option Status). or_else o (first_of (drop (i + 1) list))) here)

  pub passes_here : (list : List X) (i : ℕ) (x : X) → i < length list → x ≡ get_or list i x
      → first_of list ≡ first_of (drop i list) → first_refusal (tests (view x)) ≡ None → first_of list ≡ first_of (drop (i + 1) list)
  passes_here list i x within is so_far here =
      so_far ∙ (at_place list i x within is ∙ ap (λ (o : Option Status). or_else o (first_of (drop (i + 1) list))) here)

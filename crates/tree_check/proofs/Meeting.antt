-- A place that is met.
use Rattle.std.proofs.Common.{◌≡◌, ◌<◌, ◌-◌, ◌++◌, ℕ, Bool, true, false, List, [], ◌∷◌, Option, Some, length, set, replicate, zero, suc, get_or, refl, sym, ap, subst, ◌∙◌, arith, inl, inr, eqb, eq-eqb, ne_eqb}
use Rattle.std.proofs.lemmas.Bool.{cases_eq, cases_lt}
use Rattle.std.proofs.lemmas.List.{length-append, length-set, get_or-set_same, get_or-set_other, get_or_append_left, get_or-append_right, map_push, get_or-map, length-map, length-replicate, get_or_default}
use Rattle.node_table.specs.Tables.{node_number_at}
use Rattle.node_table.proofs.TableLaws.{within-numbered}
use Rattle.layout.specs.CachedNodes.{CachedNode}
use Rattle.layout.specs.Marks.{once_if, times}
use Rattle.layout.proofs.NumberLaws.{place-of, times-append, times-at}
use Rattle.model_tree.specs.Trees.Tree.{root}
use Rattle.tree_check.specs.Trees.{IsReached, Root}
use Rattle.tree_check.specs.Walks.{number_or, number_in, numbers_at, IsWalk, Meets}

module _ (cached_nodes : List (Option CachedNode)) (seen : List Bool) (order : List ℕ) (walk : IsWalk cached_nodes seen order) (number place : ℕ)
    (there : node_number_at cached_nodes place ≡ Some number) where
  is_number : number_in cached_nodes place ≡ number
  is_number = ap number_or there

  once-new : get_or seen place false ≡ false → (q : ℕ) → times q (order ++ place ∷ []) ≡ once_if (get_or (set seen place true) q false)
  once-new unseen q = elim (cases_eq q place) [
    | inl same ↦
        let inside : place < length seen = omega (arith, within-numbered cached_nodes place number there, walk.marks) in
        let now : get_or (set seen place true) q false ≡ true = ap (λ n. get_or (set seen place true) n false) same ∙ get_or-set_same seen place true false inside in
        let before : times q order ≡ 0 = ap (λ n. times n order) same ∙ walk.once place ∙ ap once_if unseen in
        let here : once_if (eqb q place) ≡ 1 = rw (eq-eqb q place same) refl in
        rw now (omega (arith, times-append q order (place ∷ []), before, here))
    | inr off ↦
        let now : get_or (set seen place true) q false ≡ get_or seen q false = get_or-set_other seen place q true false off in
        let here : once_if (eqb q place) ≡ 0 = rw (ne_eqb q place off) refl in
        rw now (omega (arith, times-append q order (place ∷ []), walk.once q, here))
  ]

  -- what holds of all places that were met and of this one holds of all now
  each : (P : ℕ → Type 0) → ((i : ℕ) → i < length order → P (get_or order i 0)) → P place → (i : ℕ) → i < length (order ++ place ∷ [])
      → P (get_or (order ++ place ∷ []) i 0)
  each P all one i h = elim (cases_lt i (length order)) [
    | inl before ↦ subst P (sym (get_or_append_left order (place ∷ []) 0 i before)) (all i before)
    | inr past ↦
        let last : i - length order ≡ 0 = omega (arith, length-append order (place ∷ [])) in
        subst P (sym (get_or-append_right order (place ∷ []) (length order) i 0 refl past ∙ ap (λ n. get_or (place ∷ []) n 0) last)) one
  ]

  begun : get_or seen place false ≡ false → IsReached cached_nodes number → Meets cached_nodes (set seen place true) order (order ++ place ∷ []) (number ∷ [])
  begun unseen reached = record {
    walk = record {
      marks = length-set seen place true ∙ walk.marks;
      once = once-new unseen;
      there = each (λ p. node_number_at cached_nodes p ≡ Some (number_in cached_nodes p)) walk.there (there ∙ ap Some (sym is_number));
      reached = each (λ p. IsReached cached_nodes (number_in cached_nodes p)) walk.reached (subst (IsReached cached_nodes) (sym is_number) reached);
    };
    more = place ∷ [];
    prefix = refl;
    met = map_push (number_in cached_nodes) order place ∙ ap (λ n. numbers_at cached_nodes order ++ n ∷ []) is_number;
  }

  pub meets : get_or seen place false ≡ false → IsReached cached_nodes number → (marks : List Bool) (new : List ℕ) → marks ≡ set seen place true → new ≡ order ++ place ∷ []
      → Meets cached_nodes marks order new (number ∷ [])
  meets unseen reached marks new marked is =
      subst (λ m. Meets cached_nodes m order new (number ∷ [])) (sym marked)
      (subst (λ ps. Meets cached_nodes (set seen place true) order ps (number ∷ [])) (sym is) (begun unseen reached))

  -- the mark that is read
  pub mark_is : (mark : Bool) → mark ≡ get_or seen place mark → get_or seen place false ≡ mark
  mark_is mark is =
      let inside : place < length seen = omega (arith, within-numbered cached_nodes place number there, walk.marks) in
      get_or_default seen place false mark inside ∙ sym is

  pub met_before : get_or seen place false ≡ true → 0 < times number (numbers_at cached_nodes order)
  met_before marked =
      let has : times place order ≡ 1 = walk.once place ∙ ap once_if marked in
      let found = place-of place order (omega arith) in
      let inside : found.0 < length (numbers_at cached_nodes order) = rw length-map found.1.0 in
      let is : get_or (numbers_at cached_nodes order) found.0 0 ≡ number = get_or-map (number_in cached_nodes) order found.0 0 0 found.1.0 ∙ ap (number_in cached_nodes) found.1.1 ∙ is_number in
      subst (λ n. 0 < times n (numbers_at cached_nodes order)) is (times-at (numbers_at cached_nodes order) found.0 0 inside)

-- the walk begins
replicate-none : (n i : ℕ) → get_or (replicate n false) i false ≡ false
replicate-none zero i = refl
replicate-none (suc n) zero = refl
replicate-none (suc n) (suc i) = replicate-none n i

pub starts : (cached_nodes : List (Option CachedNode)) (seen marks : List Bool) (none order : List ℕ) (place : ℕ) → seen ≡ replicate (length cached_nodes) false → marks ≡ set seen place true
    → none ≡ [] → order ≡ none ++ place ∷ [] → node_number_at cached_nodes place ≡ Some root → Meets cached_nodes marks [] order (root ∷ [])
starts cached_nodes seen marks none order place unseen marked empty first there =
    let walk : IsWalk cached_nodes seen [] = record {
      marks = ap length unseen ∙ length-replicate (length cached_nodes) false;
      once = λ q. sym (ap once_if (ap (λ marks. get_or marks q false) unseen ∙ replicate-none (length cached_nodes) q));
      there = λ i h. absurd (omega arith);
      reached = λ i h. absurd (omega arith);
    } in
    meets cached_nodes seen [] walk root place there (ap (λ marks. get_or marks place false) unseen ∙ replicate-none (length cached_nodes) place) Root marks order marked
    (first ∙ ap (λ ps. ps ++ place ∷ []) empty)

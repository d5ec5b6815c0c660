-- The names of one directory, one by one.
use Rattle.std.proofs.Common.{◌≡◌, ◌≤◌, ◌<◌, ◌++◌, ◌+◌, ℕ, zero, suc, Bool, List, [], ◌∷◌, Option, Some, None, length, map, take, get_or, refl, sym, ap, subst, ◌∙◌, arith}
use Rattle.std.proofs.lemmas.List.{get_or-map, length-map, append_assoc, append-nil, length-append}
use Rattle.node_table.specs.Tables.{node_number_at}
use Rattle.directory.specs.Records.{Record}
use Rattle.layout.specs.CachedNodes.{CachedNode}
use Rattle.layout.specs.SumLaws.{numbers_of}
use Rattle.model_tree.specs.Trees.Tree.{root}
use Rattle.tree_check.specs.Trees.{led_at, led_by, IsReached, Named}
use Rattle.tree_check.specs.Walks.{numbers_at, led_from, IsMissing, IsStuck, Meets}
use Rattle.tree_check.proofs.Sums.{take-one}

module _ (cached_nodes : List (Option CachedNode)) (place : ℕ) (cached : CachedNode) (names : List Record) (there : get_or cached_nodes place None ≡ Some cached) (same : names ≡ cached.names) where
  led-is : led_at cached_nodes place ≡ numbers_of names
  led-is = ap led_by there ∙ ap numbers_of (sym same)

  led-length : length (led_at cached_nodes place) ≡ length names
  led-length = ap length led-is ∙ length-map names (λ (r : Record). r.1.number)

  module _ (i : ℕ) (one : Record) (inside : i < length names) (is : (d : Record) → get_or names i d ≡ one) where
    number-is : get_or (led_at cached_nodes place) i 0 ≡ one.1.number
    number-is =
        ap (λ l. get_or l i 0) led-is
        ∙ (get_or-map (λ (r : Record). r.1.number) names i one 0 inside ∙ ap (λ (r : Record). r.1.number) (is one))

    within-led : i < length (led_at cached_nodes place)
    within-led = rw led-length inside

    pub led-reached : (number : ℕ) → node_number_at cached_nodes place ≡ Some number → IsReached cached_nodes number → IsReached cached_nodes one.1.number
    led-reached number at reached = subst (IsReached cached_nodes) number-is (Named place number i at reached within-led)

    module _ (seen : List Bool) (start now : List ℕ) (before : Meets cached_nodes seen start now (take i (led_at cached_nodes place))) where
      pub next : (marks : List Bool) (new : List ℕ) → Meets cached_nodes marks now new (one.1.number ∷ []) → Meets cached_nodes marks start new (take (i + 1) (led_at cached_nodes place))
      next marks new met_one =
          let more : take (i + 1) (led_at cached_nodes place) ≡ take i (led_at cached_nodes place) ++ one.1.number ∷ [] =
          (let e : i + 1 ≡ suc i = omega arith in ap (λ n. take n (led_at cached_nodes place)) e)
          ∙ (take-one (led_at cached_nodes place) i 0 within-led ∙ ap (λ n. take i (led_at cached_nodes place) ++ n ∷ []) number-is) in
          record {
            walk = met_one.walk;
            more = before.more ++ met_one.more;
            prefix = met_one.prefix ∙ (ap (λ l. l ++ met_one.more) before.prefix ∙ append_assoc start before.more met_one.more);
            met = met_one.met
                ∙ (ap (λ l. l ++ one.1.number ∷ []) before.met
                ∙ (append_assoc (numbers_at cached_nodes start) (take i (led_at cached_nodes place)) (one.1.number ∷ [])
                ∙ ap (λ l. numbers_at cached_nodes start ++ l) (sym more)));
          }

      pub is-stuck : IsMissing cached_nodes (numbers_at cached_nodes now) one.1.number → IsStuck cached_nodes start place
      is-stuck missing = record {
        i = i;
        within = within-led;
        missing = subst (λ n. IsMissing cached_nodes (numbers_at cached_nodes start ++ take i (led_at cached_nodes place)) n) (sym number-is)
            (subst (λ met. IsMissing cached_nodes met one.1.number) before.met missing);
      }

-- One directory more

take-prefix : (xs ys : List ℕ) (i : ℕ) → i ≤ length xs → take i (xs ++ ys) ≡ take i xs
take-prefix xs ys zero h = refl
take-prefix [] ys (suc i) h = absurd (omega arith)
take-prefix (x ∷ xs) ys (suc i) h = ap (λ rest. x ∷ rest) (take-prefix xs ys i (omega arith))

led-push : (cached_nodes : List (Option CachedNode)) (ps : List ℕ) (p : ℕ) → led_from cached_nodes (ps ++ p ∷ []) ≡ led_from cached_nodes ps ++ led_at cached_nodes p
led-push cached_nodes [] p = append-nil (led_at cached_nodes p)
led-push cached_nodes (q ∷ ps) p = ap (λ l. led_at cached_nodes q ++ l) (led-push cached_nodes ps p) ∙ sym (append_assoc (led_at cached_nodes q) (led_from cached_nodes ps) (led_at cached_nodes p))

module _ (cached_nodes : List (Option CachedNode)) (order : List ℕ) (i : ℕ) (inside : i < length order) (met : numbers_at cached_nodes order ≡ root ∷ led_from cached_nodes (take i order)) where
  pub one-more : (seen : List Bool) (new : List ℕ) → Meets cached_nodes seen order new (led_at cached_nodes (get_or order i 0))
      → (i + 1 ≤ length new) × (numbers_at cached_nodes new ≡ root ∷ led_from cached_nodes (take (i + 1) new))
  one-more seen new visited =
      let longer : length order ≤ length new = rw visited.prefix (omega (arith, length-append order visited.more)) in
      let prefix : take (i + 1) new ≡ take i order ++ get_or order i 0 ∷ [] =
      ap (take (i + 1)) visited.prefix
      ∙ (take-prefix order visited.more (i + 1) (omega arith)
      ∙ ((let e : i + 1 ≡ suc i = omega arith in ap (λ n. take n order) e) ∙ take-one order i 0 inside)) in (
        omega arith,
        visited.met
            ∙ (ap (λ l. l ++ led_at cached_nodes (get_or order i 0)) met
            ∙ ap (λ l. root ∷ l) (sym (ap (led_from cached_nodes) prefix ∙ led-push cached_nodes (take i order) (get_or order i 0)))),
      )

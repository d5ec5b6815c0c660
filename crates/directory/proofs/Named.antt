-- What a search for a name finds.
use Rattle.std.proofs.Common.{ℕ, List, [], ◌∷◌, ◌≡◌, ◌<◌, ◌≤◌, ◌∙◌, inl, inr, length, get_or, set, Equal, nat_cmp, refl, sym, ap, subst, arith}
use Rattle.std.specs.Cmp.Lexicographic.{slice_cmp}
use Rattle.std.proofs.lemmas.Bool.{cases_eq, cases_lt}
use Rattle.std.proofs.lemmas.Cmp.{tied_itself, nat_list_cmp_total}
use Rattle.std.proofs.lemmas.List.{get_or_default, length-set}
use Rattle.directory.specs.declared.order.By.TheVariants as by
use Rattle.directory.specs.Records.{Record, record_from, name_of}
use Rattle.directory.specs.Order.{compare_placed, at_place, IsBefore, IsOrder, IsPosition}
use Rattle.directory.proofs.Kept.{set_name}
use Rattle.directory.proofs.Rising.{before_cases, less_before, less≢equal, then_equal, tied_same, rising_at, rising_same}

abbrev nothing : Record
nothing = record_from 0 [] 0

bytes_same : (xs ys : List ℕ) → slice_cmp nat_cmp xs ys ≡ Equal → xs ≡ ys
bytes_same [] [] is = refl
bytes_same [] (y ∷ ys) is = absurd cc
bytes_same (x ∷ xs) [] is = absurd cc
bytes_same (x ∷ xs) (y ∷ ys) is =
    let both = then_equal (nat_cmp x y) (slice_cmp nat_cmp xs ys) is in
    ap (λ (n : ℕ). n ∷ xs) (tied_same x y both.0) ∙ ap (λ (l : List ℕ). y ∷ l) (bytes_same xs ys both.1)

bytes_tied : (xs ys : List ℕ) → xs ≡ ys → slice_cmp nat_cmp xs ys ≡ Equal
bytes_tied xs ys same = ap (slice_cmp nat_cmp xs) (sym same) ∙ tied_itself nat_list_cmp_total xs

module _ (order : List ℕ) (xs : List Record) (name : List ℕ) (kept : IsOrder by.Name order xs) (at : ℕ) (point : IsPosition by.Name xs order (record_from 0 name 0, 0) at) where
  -- if one has the name, the first that has it is found
  pub first_found : (j : ℕ) (d : Record) → j < length xs → (get_or xs j d).1.name ≡ name
      → (at < length order) × (get_or order at 0 ≤ j) × ((get_or xs (get_or order at 0) nothing).1.name ≡ name)
  first_found j d inside named =
      let has = (kept.all j).1 inside in
      let here : (get_or xs j nothing).1.name ≡ name = ap (λ (r : Record). r.1.name) (get_or_default xs j nothing d inside) ∙ named in
      let k_is : get_or order has.0 0 ≡ j = get_or_default order has.0 0 j has.1 ∙ has.2 in
      let tied = bytes_tied (get_or xs j nothing).1.name name here in
      elim (cases_lt has.0 at) [
        | inl low ↦
            let before = subst (λ x. IsBefore by.Name (at_place xs x) (record_from 0 name 0, 0)) k_is (point.before has.0 low) in
            elim (before_cases by.Name (at_place xs j) (record_from 0 name 0, 0) before) [
              | inl less ↦ absurd (less≢equal (slice_cmp nat_cmp (get_or xs j nothing).1.name name) less tied)
              | inr both ↦ absurd (let none : j < 0 = both.1 in omega arith)
            ]
        | inr far ↦
            let within : at < length order = omega (arith, far, has.1) in
            elim (cases_eq at has.0) [
              | inl same ↦
                  let p_is : get_or order at 0 ≡ j = ap (λ i. get_or order i 0) same ∙ k_is in
                  (within, omega (arith, p_is), ap (λ i. (get_or xs i nothing).1.name) p_is ∙ here)
              | inr off ↦
                  let p = get_or order at 0 in
                  let up = subst (λ x. IsBefore by.Name (at_place xs p) (at_place xs x)) k_is (rising_at by.Name xs order at has.0 0 kept.rising (omega (arith, far, off)) has.1) in
                  elim (before_cases by.Name (at_place xs p) (at_place xs j) up) [
                    | inl less ↦
                        let low = ap (slice_cmp nat_cmp (get_or xs p nothing).1.name) (sym here) ∙ less in
                        absurd (point.behind at (omega arith) within (less_before by.Name (at_place xs p) (record_from 0 name 0, 0) low))
                    | inr both ↦
                        let lower : p < j = both.1 in
                        (within, omega arith, bytes_same (get_or xs p nothing).1.name (get_or xs j nothing).1.name both.0 ∙ here)
                  ]
            ]
      ]

-- a record of the same name
pub renewed : (order : List ℕ) (xs : List Record) (place : ℕ) (new : Record) → IsOrder by.Name order xs → place < length xs → ((d : Record) → (get_or xs place d).1.name ≡ new.1.name)
    → IsOrder by.Name order (set xs place new)
renewed order xs place new kept within named = record {
  rising = rising_same by.Name xs (set xs place new) order
      (λ a b has has_b.
      let one : name_of (get_or (set xs place new) a nothing) ≡ name_of (get_or xs a nothing) = set_name xs place new within named a nothing ((kept.all a).0 has) in
      let other : name_of (get_or (set xs place new) b nothing) ≡ name_of (get_or xs b nothing) = set_name xs place new within named b nothing ((kept.all b).0 has_b) in
      ap (λ (n : List ℕ). compare_placed by.Name (record_from 0 n 0, a) (at_place (set xs place new) b)) one
      ∙ ap (λ (n : List ℕ). compare_placed by.Name (at_place xs a) (record_from 0 n 0, b)) other)
      kept.rising;
  all = λ other. (
    λ has. let low = (kept.all other).0 has in omega (arith, low, length-set xs place new),
    λ low. (kept.all other).1 (omega (arith, low, length-set xs place new)),
  );
}

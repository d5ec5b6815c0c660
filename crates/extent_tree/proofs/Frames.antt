-- Trees over index sectors of which others change.
use Rattle.std.proofs.Common.{◌≡◌, ◌-◌, ◌^◌, ◌⊎◌, ℕ, zero, suc, Bool, true, false, List, [], ◌∷◌, ◌++◌, min, refl, sym, ap, ◌∙◌, subst, inl, inr}
use Rattle.std.specs.List.{flat_map, AllByRecursion}
use Rattle.extent_tree.specs.declared.entry.Entry.{Entry}
use Rattle.extent_tree.specs.Entries.{EachWithin}
use Rattle.extent_tree.specs.Tree.{is_index, blocks_of, blocks_in, indexes_of, indexes_in, IsTree, AreTrees, IsIndexSector, HasBlock}

pub decided : (b : Bool) → (b ≡ true) ⊎ (b ≡ false)
decided true = inl refl
decided false = inr refl

all_left : {X : Type 0} → (P : X → Type 0) (xs ys : List X) → AllByRecursion P (xs ++ ys) → AllByRecursion P xs
all_left P [] ys h = tt
all_left P (x ∷ xs) ys h = (h.0, all_left P xs ys h.1)

all_right : {X : Type 0} → (P : X → Type 0) (xs ys : List X) → AllByRecursion P (xs ++ ys) → AllByRecursion P ys
all_right P [] ys h = h
all_right P (x ∷ xs) ys h = all_right P xs ys h.1

pub blocks-index : (index : ℕ → List Entry) (e : ℕ) (entry : Entry) → is_index entry ≡ true → blocks_of index (suc e) entry ≡ blocks_in index e (index entry.sector)
blocks-index index e entry test = rw test refl

blocks-no_index : (index other : ℕ → List Entry) (e : ℕ) (entry : Entry) → is_index entry ≡ false → blocks_of other (suc e) entry ≡ blocks_of index (suc e) entry
blocks-no_index index other e entry test = rw test refl

pub indexes-index : (index : ℕ → List Entry) (e : ℕ) (entry : Entry) → is_index entry ≡ true → indexes_of index (suc e) entry ≡ entry.sector ∷ indexes_in index e (index entry.sector)
indexes-index index e entry test = rw test refl

indexes-no_index : (index other : ℕ → List Entry) (e : ℕ) (entry : Entry) → is_index entry ≡ false → indexes_of other (suc e) entry ≡ indexes_of index (suc e) entry
indexes-no_index index other e entry test = rw test refl

module _ (index other : ℕ → List Entry) where
  -- these index sectors stay the same
  abbrev pub AreSameAt : List ℕ → Type 0
  AreSameAt sectors = AllByRecursion (λ (s : ℕ). other s ≡ index s) sectors

  same_parts : {X : Type 0} → (f g : Entry → List X) (sectors : Entry → List ℕ) → ((x : Entry) → AreSameAt (sectors x) → f x ≡ g x) → (xs : List Entry) → AreSameAt (flat_map sectors xs) → flat_map f xs ≡ flat_map g xs
  same_parts f g sectors one [] h = refl
  same_parts f g sectors one (x ∷ xs) h =
      let here : f x ≡ g x = one x (all_left (λ (s : ℕ). other s ≡ index s) (sectors x) (flat_map sectors xs) h) in
      let rest : flat_map f xs ≡ flat_map g xs = same_parts f g sectors one xs (all_right (λ (s : ℕ). other s ≡ index s) (sectors x) (flat_map sectors xs) h) in
      rw (here, rest) refl

  same_each : (P Q : ℕ → Entry → Type 0) (sectors : Entry → List ℕ) → ((n : ℕ) (x : Entry) → P n x → AreSameAt (sectors x) → Q n x) → (span count : ℕ) (xs : List Entry) → EachWithin P span count xs → AreSameAt (flat_map sectors xs) → EachWithin Q span count xs
  same_each P Q sectors one span count [] h same = tt
  same_each P Q sectors one span count (x ∷ xs) h same = (
    one (min count span) x h.0 (all_left (λ (s : ℕ). other s ≡ index s) (sectors x) (flat_map sectors xs) same),
    same_each P Q sectors one span (count - span) xs h.1 (all_right (λ (s : ℕ). other s ≡ index s) (sectors x) (flat_map sectors xs) same),
  )

  below_same : (e : ℕ) (entry : Entry) → is_index entry ≡ true → AreSameAt (indexes_of index (suc e) entry) → (other entry.sector ≡ index entry.sector) × AreSameAt (indexes_in index e (index entry.sector))
  below_same e entry test same = subst AreSameAt (indexes-index index e entry test) same

  pub same_blocks : (e : ℕ) (entry : Entry) → AreSameAt (indexes_of index e entry) → blocks_of other e entry ≡ blocks_of index e entry
  same_blocks zero entry same = refl
  same_blocks (suc e) entry same =
      elim (decided (is_index entry)) [
        | inl test ↦
            let below = below_same e entry test same in
            blocks-index other e entry test ∙ ap (blocks_in other e) below.0 ∙ same_parts (blocks_of other e) (blocks_of index e) (indexes_of index e) (same_blocks e) (index entry.sector) below.1
            ∙ sym (blocks-index index e entry test)
        | inr test ↦ blocks-no_index index other e entry test
      ]

  pub same_blocks_in : (e : ℕ) (xs : List Entry) → AreSameAt (indexes_in index e xs) → blocks_in other e xs ≡ blocks_in index e xs
  same_blocks_in e xs same = same_parts (blocks_of other e) (blocks_of index e) (indexes_of index e) (same_blocks e) xs same

  pub same_indexes : (e : ℕ) (entry : Entry) → AreSameAt (indexes_of index e entry) → indexes_of other e entry ≡ indexes_of index e entry
  same_indexes zero entry same = refl
  same_indexes (suc e) entry same =
      elim (decided (is_index entry)) [
        | inl test ↦
            let below = below_same e entry test same in
            indexes-index other e entry test
            ∙ ap (λ (xs : List ℕ). entry.sector ∷ xs) (ap (indexes_in other e) below.0 ∙ same_parts (indexes_of other e) (indexes_of index e) (indexes_of index e) (same_indexes e) (index entry.sector) below.1)
            ∙ sym (indexes-index index e entry test)
        | inr test ↦ indexes-no_index index other e entry test
      ]

  pub same_indexes_in : (e : ℕ) (xs : List Entry) → AreSameAt (indexes_in index e xs) → indexes_in other e xs ≡ indexes_in index e xs
  same_indexes_in e xs same = same_parts (indexes_of other e) (indexes_of index e) (indexes_of index e) (same_indexes e) xs same

  pub same_tree : (e n : ℕ) (entry : Entry) → IsTree index e n entry → AreSameAt (indexes_of index e entry) → IsTree other e n entry
  same_tree zero n entry h same = h
  same_tree (suc e) n entry h same = (
    h.0,
    λ test.
        let below = below_same e entry test same in
        let old = h.1 test in
        let made : IsIndexSector (IsTree other e) (512 ^ e) n (index entry.sector) (blocks_in other e (index entry.sector)) = record {
          len = old.len;
          each = same_each (IsTree index e) (IsTree other e) (indexes_of index e) (same_tree e) (512 ^ e) n (index entry.sector) old.each below.1;
          some = subst HasBlock (sym (same_parts (blocks_of other e) (blocks_of index e) (indexes_of index e) (same_blocks e) (index entry.sector) below.1)) old.some;
        } in
        subst (λ (xs : List Entry). IsIndexSector (IsTree other e) (512 ^ e) n xs (blocks_in other e xs)) (sym below.0) made,
  )

  pub same_trees : (e n : ℕ) (xs : List Entry) → AreTrees index e n xs → AreSameAt (indexes_in index e xs) → AreTrees other e n xs
  same_trees e n xs h same = same_each (IsTree index e) (IsTree other e) (indexes_of index e) (same_tree e) (512 ^ e) n xs h same

-- Trees that are checked one after the other.
use Rattle.std.proofs.Common.{◌≡◌, ◌<◌, ◌≤◌, ◌+◌, ◌-◌, ◌^◌, ℕ, zero, suc, Bool, true, false, List, ◌∷◌, None, is_some, length, get_or, drop, replicate, min, refl, sym, ap, ◌∙◌, subst, arith, inl, inr}
use Rattle.std.specs.List.{list_all}
use Rattle.std.proofs.lemmas.Bool.{false≢true}
use Rattle.std.proofs.lemmas.List.{drop_more, drop_all}
use Rattle.extent_tree.specs.declared.entry.Entry.{Entry}
use Rattle.extent_tree.specs.Depth.{depth_of}
use Rattle.extent_tree.specs.Entries.{IsEntry}
use Rattle.extent_tree.specs.Held.{hole}
use Rattle.extent_tree.specs.Tree.{is_hole, is_index, blocks_in, IsTree, AreTrees, IsRoot, HasBlock}
use Rattle.extent_tree.proofs.Frames.{decided}
use Rattle.extent_tree.proofs.Growing.{some_in, holes_none, holes_are}
use Rattle.extent_tree.proofs.Shapes.{is_entry, above_of}

-- ---- one tree

pub tree_plain : (index : ℕ → List Entry) (e n : ℕ) (entry : Entry) → IsEntry e n entry → is_index entry ≡ false → IsTree index e n entry
tree_plain index zero n entry h off = h
tree_plain index (suc e) n entry h off = (h, λ test. absurd (false≢true (sym off ∙ test)))

-- what an index sector has
pub record AreOfIndex (index : ℕ → List Entry) (d n : ℕ) (below : List Entry) : Type 0 where
  pub len : length below ≡ 512
  pub some : list_all is_hole below ≡ false
  pub each : AreTrees index d n below

some_holes : (index : ℕ → List Entry) (e : ℕ) (xs : List Entry) → HasBlock (blocks_in index e xs) → list_all is_hole xs ≡ false
some_holes index e xs has =
    elim (decided (list_all is_hole xs)) [
      | inl all ↦
          let same : xs ≡ replicate (length xs) hole = holes_are xs all in
          let none : get_or (blocks_in index e xs) has.0 None ≡ None = ap (λ (ys : List Entry). get_or (blocks_in index e ys) has.0 None) same ∙ holes_none index e (length xs) has.0 in
          absurd (false≢true (sym (ap is_some none) ∙ has.1))
      | inr some ↦ some
    ]

tree_suc : (index : ℕ → List Entry) (e n : ℕ) (entry : Entry) → IsEntry (suc e) n entry → AreOfIndex index e n (index entry.sector) → IsTree index (suc e) n entry
tree_suc index e n entry h of = (h, λ _. record { len = of.len; each = of.each; some = some_in index e (512 ^ e) n (index entry.sector) of.each of.some })

pub tree_index : (index : ℕ → List Entry) (e d n : ℕ) (entry : Entry) (below : List Entry) → IsEntry e n entry → is_index entry ≡ true → d ≡ e - 1 → below ≡ index entry.sector → AreOfIndex index d n below → IsTree index e n entry
tree_index index zero d n entry below h test is found of = absurd (omega (arith, above_of zero n entry h test))
tree_index index (suc e) d n entry below h test is found of =
    let same : d ≡ e = omega arith in
    tree_suc index e n entry h (subst (AreOfIndex index e n) found (subst (λ (x : ℕ). AreOfIndex index x n below) same of))

of_suc : (index : ℕ → List Entry) (e n : ℕ) (entry : Entry) → IsTree index (suc e) n entry → is_index entry ≡ true → AreOfIndex index e n (index entry.sector)
of_suc index e n entry h test =
    let below = h.1 test in
    record { len = below.len; some = some_holes index e (index entry.sector) below.some; each = below.each }

pub index_of : (index : ℕ → List Entry) (e d n : ℕ) (entry : Entry) (below : List Entry) → IsTree index e n entry → is_index entry ≡ true → d ≡ e - 1 → below ≡ index entry.sector → AreOfIndex index d n below
index_of index zero d n entry below h test is found = absurd (omega (arith, above_of zero n entry h test))
index_of index (suc e) d n entry below h test is found =
    let same : e ≡ d = omega arith in
    subst (AreOfIndex index d n) (sym found) (subst (λ (x : ℕ). AreOfIndex index x n (index entry.sector)) same (of_suc index e n entry h test))

-- ---- one after the other

-- the entries before the i-th are trees, if `left` of the `count` blocks are left there
pub record ArePassedTo (index : ℕ → List Entry) (e count left i : ℕ) (entries : List Entry) : Type 0 where
  pub forward : AreTrees index e left (drop i entries) → AreTrees index e count entries
  pub back : AreTrees index e count entries → AreTrees index e left (drop i entries)

pub ArePassedTo-none : (index : ℕ → List Entry) (e count : ℕ) (entries : List Entry) → ArePassedTo index e count count 0 entries
ArePassedTo-none index e count entries = record { forward = λ h. h; back = λ h. h }

module _ (index : ℕ → List Entry) (e count left i : ℕ) (entries : List Entry) (far : ArePassedTo index e count left i entries) (lt : i < length entries) (d : Entry) where
  rest_is : drop i entries ≡ get_or entries i d ∷ drop (i + 1) entries
  rest_is = drop_more entries i d lt

  pub ArePassedTo-more : (less : ℕ) → IsTree index e (min left (512 ^ e)) (get_or entries i d) → less ≡ left - 512 ^ e → ArePassedTo index e count less (i + 1) entries
  ArePassedTo-more less one rest = record {
    forward = λ all. far.forward (subst (AreTrees index e left) (sym rest_is) (one, subst (λ (n : ℕ). AreTrees index e n (drop (i + 1) entries)) rest all));
    back = λ all. subst (λ (n : ℕ). AreTrees index e n (drop (i + 1) entries)) (sym rest) (subst (AreTrees index e left) rest_is (far.back all)).1;
  }

  pub tree_of : AreTrees index e count entries → IsTree index e (min left (512 ^ e)) (get_or entries i d)
  tree_of all = (subst (AreTrees index e left) rest_is (far.back all)).0

pub all_passed : (index : ℕ → List Entry) (e count left i : ℕ) (entries : List Entry) → ArePassedTo index e count left i entries → length entries ≤ i → AreTrees index e count entries
all_passed index e count left i entries far le = far.forward (subst (AreTrees index e left) (sym (drop_all i entries le)) tt)

-- the step of a check, with `here` blocks in the span of the i-th entry
module _ (index : ℕ → List Entry) (e count left i : ℕ) (entries : List Entry) (far : ArePassedTo index e count left i entries) (lt : i < length entries) (d : Entry) (here : ℕ) (here_is : here ≡ min left (512 ^ e)) where
  pub refuse_entry : (IsEntry e here (get_or entries i d) → ⊥) → AreTrees index e count entries → ⊥
  refuse_entry refused all =
      refused (subst (λ (n : ℕ). IsEntry e n (get_or entries i d)) (sym here_is) (is_entry index e (min left (512 ^ e)) (get_or entries i d) (tree_of index e count left i entries far lt d all)))

  pub refuse_index : (below : List Entry) → is_index (get_or entries i d) ≡ true → below ≡ index (get_or entries i d).sector → (AreOfIndex index (e - 1) here below → ⊥) → AreTrees index e count entries → ⊥
  refuse_index below test found refused all =
      refused (subst (λ (n : ℕ). AreOfIndex index (e - 1) n below) (sym here_is) (index_of index e (e - 1) (min left (512 ^ e)) (get_or entries i d) below (tree_of index e count left i entries far lt d all) test refl found))

  pub pass : (less span : ℕ) → IsTree index e here (get_or entries i d) → less ≡ left - span → span ≡ 512 ^ e → ArePassedTo index e count less (i + 1) entries
  pass less span one rest wide =
      ArePassedTo-more index e count left i entries far lt d less (subst (λ (n : ℕ). IsTree index e n (get_or entries i d)) here_is one) (rest ∙ ap (λ (n : ℕ). left - n) wide)

pub root_from : (index : ℕ → List Entry) (b d : ℕ) (root : List Entry) (answer : Bool) → d ≡ depth_of b → length root ≡ 256 → (answer ≡ true → AreTrees index d b root) × (AreTrees index d b root → answer ≡ true)
    → (answer ≡ true → IsRoot index b root) × (IsRoot index b root → answer ≡ true)
root_from index b d root answer same len iff = (
  λ good. record { len = len; each = subst (λ (x : ℕ). AreTrees index x b root) same (iff.0 good) },
  λ is. iff.1 (subst (λ (x : ℕ). AreTrees index x b root) (sym same) is.each),
)

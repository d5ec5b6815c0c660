-- What the volume holds of a tree.
use Rattle.std.proofs.Common.{◌≡◌, ◌≢◌, ◌<◌, ◌≤◌, ◌+◌, ◌^◌, ℕ, true, false, eqb, List, [], ◌∷◌, ◌++◌, length, map, take, Result, Ok, Err, IfOk, refl, sym, ap, ◌∙◌, subst, arith, eq-eqb, inl, inr}
use Rattle.std.proofs.lemmas.Bool.{cases_eq, cases_lt, ne_eqb}
use Rattle.extent_tree.specs.declared.entry.Entry.{Entry}
use Rattle.extent_tree.specs.declared.setting.Touched.{Touched}
use Rattle.extent_tree.specs.Depth.{depth_of}
use Rattle.extent_tree.specs.Held.{Blocks, blocks_by, content_in, held_entries, AreHeld}
use Rattle.extent_tree.specs.Setting.{times, listed, AreKept, AreBlocksSet}
use Rattle.extent_tree.specs.Tree.{IsRoot, file_indexes}
use Rattle.extent_tree.proofs.Changes.{same_held, CanSet, can_indexes, can_spare}
use Rattle.extent_tree.proofs.Counts.{times-append, times-first, times-other, same_where}
use Rattle.extent_tree.proofs.Frames.{AreSameAt, same_trees}
use Rattle.extent_tree.proofs.Shapes.{count_is}

content_first : (s x : ℕ) (xs : List ℕ) (node : List Entry) (nodes : List (List Entry)) → s ≡ x → content_in (x ∷ xs) (node ∷ nodes) s ≡ node
content_first s x xs node nodes is = let test : eqb s x ≡ true = eq-eqb s x is in rw test refl

content_other : (s x : ℕ) (xs : List ℕ) (node : List Entry) (nodes : List (List Entry)) → s ≢ x → content_in (x ∷ xs) (node ∷ nodes) s ≡ content_in xs nodes s
content_other s x xs node nodes apart = let test : eqb s x ≡ false = ne_eqb s x apart in rw test refl

pub content_is : (index : ℕ → List Entry) (xs : List ℕ) (s : ℕ) → 0 < times s xs → content_in xs (map index xs) s ≡ index s
content_is index [] s some = absurd (omega arith)
content_is index (x ∷ xs) s some =
    elim (cases_eq s x) [
      | inl is ↦ content_first s x xs (index x) (map index xs) is ∙ ap index (sym is)
      | inr apart ↦ content_other s x xs (index x) (map index xs) apart ∙ content_is index xs s (omega (arith, times-other s x xs apart))
    ]

pub content_none : (index : ℕ → List Entry) (xs : List ℕ) (s : ℕ) → times s xs ≡ 0 → content_in xs (map index xs) s ≡ []
content_none index [] s none = refl
content_none index (x ∷ xs) s none =
    elim (cases_eq s x) [
      | inl is ↦ let test : eqb s x ≡ true = eq-eqb s x is in let some : times s (x ∷ xs) ≡ 1 + times s xs = rw test refl in absurd (omega arith)
      | inr apart ↦ content_other s x xs (index x) (map index xs) apart ∙ content_none index xs s (omega (arith, times-other s x xs apart))
    ]

-- index sectors apart from some keep their entries
pub kept_contents : (index other : ℕ → List Entry) (xs ys changed : List ℕ) → ((s : ℕ) → times s changed ≡ 0 → times s ys ≡ times s xs) → ((s : ℕ) → times s changed ≡ 0 → 0 < times s xs → other s ≡ index s) → AreKept (content_in xs (map index xs)) (content_in ys (map other ys)) changed
kept_contents index other xs ys changed count same s none =
    elim (cases_lt 0 (times s xs)) [
      | inl some ↦ content_is other ys s (omega (arith, count s none)) ∙ same s none some ∙ sym (content_is index xs s some)
      | inr nowhere ↦ content_none other ys s (omega (arith, count s none)) ∙ sym (content_none index xs s (omega arith))
    ]

module _ (index : ℕ → List Entry) (b : ℕ) (root : List Entry) (seen : Blocks) (is : IsRoot index b root) (small : b ≤ 2 ^ 28) (view_is : blocks_by index b root ≡ seen) where
  pub held_is : (s : ℕ) → 0 < times s seen.indexes → held_entries seen s ≡ index s
  held_is s some =
      let listed : 0 < times s (file_indexes index b root) = omega (arith, ap (λ (x : Blocks). times s x.indexes) view_is) in
      ap (λ (x : Blocks). held_entries x s) (sym view_is) ∙ content_is index (file_indexes index b root) s listed

  held_same : AreSameAt index (held_entries seen) (file_indexes index b root)
  held_same =
      same_where index (held_entries seen) (file_indexes index b root)
      (λ s some. held_is s (omega (arith, ap (λ (x : Blocks). times s x.indexes) view_is)))

  pub are_held : AreHeld seen
  are_held =
      let count : b ≡ length seen.sectors = count_is index b root seen is small view_is in
      let root_is : root ≡ seen.root = ap (λ (x : Blocks). x.root) view_is in
      let found : IsRoot (held_entries seen) b root = record { len = is.len; each = same_trees index (held_entries seen) (depth_of b) b root is.each held_same } in
      record {
        root = subst (λ (n : ℕ). IsRoot (held_entries seen) n seen.root) count (subst (IsRoot (held_entries seen) b) root_is found);
        same =
            ap (λ (n : ℕ). blocks_by (held_entries seen) n seen.root) (sym count) ∙ ap (blocks_by (held_entries seen) b) (sym root_is)
            ∙ same_held index (held_entries seen) b root held_same ∙ view_is;
      }

-- ---- a block gets a sector

module _ (index : ℕ → List Entry) (b : ℕ) (root : List Entry) (seen : Blocks) (spare : List ℕ) (h : CanSet index b root seen spare) where
  can_kept : (other : ℕ → List Entry) (d place sector : ℕ) (t : Touched) (new : List Entry) → d ≡ depth_of b → place < length seen.sectors → AreBlocksSet index other d place sector root new (take t.taken spare) → AreKept index other (listed t.changed ++ spare)
      → AreKept (held_entries seen) (held_entries (blocks_by other b new)) (listed t.changed ++ take t.taken spare)
  can_kept other d place sector t new is lt made kept =
      let old : List ℕ = file_indexes index b root in
      let all : AreKept (content_in old (map index old)) (held_entries (blocks_by other b new)) (listed t.changed ++ take t.taken spare) =
      kept_contents index other old (file_indexes other b new) (listed t.changed ++ take t.taken spare)
      (λ s none. omega (arith, can_indexes index b root seen spare h other d place sector t.taken new is lt made s, ap (λ (x : Blocks). times s x.indexes) h.view_is, times-append s (listed t.changed) (take t.taken spare)))
      (λ s none some. kept s (omega (arith, times-append s (listed t.changed) (take t.taken spare), times-append s (listed t.changed) spare, (can_spare index b root seen spare h).once s))) in
      subst (λ (x : Blocks). AreKept (held_entries x) (held_entries (blocks_by other b new)) (listed t.changed ++ take t.taken spare)) h.view_is all

  pub any_kept : {E : Type 0} → (r : Result Touched E) (other : ℕ → List Entry) (d place sector : ℕ) (new : List Entry) → d ≡ depth_of b → place < length seen.sectors → IfOk r (λ t. AreBlocksSet index other d place sector root new (take t.taken spare)) → IfOk r (λ t. AreKept index other (listed t.changed ++ spare))
      → IfOk r (λ t. AreKept (held_entries seen) (held_entries (blocks_by other b new)) (listed t.changed ++ take t.taken spare))
  any_kept (Ok t) other d place sector new is lt made kept = can_kept other d place sector t new is lt made kept
  any_kept (Err e) other d place sector new is lt made kept = tt

-- ---- holes at the end

pub stays_kept : (index : ℕ → List Entry) (b c : ℕ) (root : List Entry) (seen : Blocks) → blocks_by index b root ≡ seen → file_indexes index c root ≡ seen.indexes → AreKept (held_entries seen) (held_entries (blocks_by index c root)) []
stays_kept index b c root seen view_is same =
    let old : List ℕ = file_indexes index b root in
    let all : AreKept (content_in old (map index old)) (held_entries (blocks_by index c root)) [] =
    kept_contents index index old (file_indexes index c root) [] (λ s none. ap (times s) same ∙ sym (ap (λ (x : Blocks). times s x.indexes) view_is)) (λ s none some. refl) in
    subst (λ (x : Blocks). AreKept (held_entries x) (held_entries (blocks_by index c root)) []) view_is all

pub deepens_kept : (index other : ℕ → List Entry) (b c sector : ℕ) (root new : List Entry) (seen : Blocks) → blocks_by index b root ≡ seen → file_indexes other c new ≡ sector ∷ seen.indexes → ((s : ℕ) → s ≢ sector → other s ≡ index s)
    → AreKept (held_entries seen) (held_entries (blocks_by other c new)) (sector ∷ [])
deepens_kept index other b c sector root new seen view_is more same =
    let old : List ℕ = file_indexes index b root in
    let all : AreKept (content_in old (map index old)) (held_entries (blocks_by other c new)) (sector ∷ []) =
    kept_contents index other old (file_indexes other c new) (sector ∷ [])
    (λ s none. omega (arith, ap (times s) more, ap (λ (x : Blocks). times s x.indexes) view_is))
    (λ s none some. same s (λ is. absurd (omega (arith, times-first s [], ap (λ (n : ℕ). times s (n ∷ [])) is)))) in
    subst (λ (x : Blocks). AreKept (held_entries x) (held_entries (blocks_by other c new)) (sector ∷ [])) view_is all

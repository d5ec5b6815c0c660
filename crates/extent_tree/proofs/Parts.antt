-- An extent, or a hole, as 512 entries below it.
use Rattle.std.proofs.Common.{◌≡◌, ◌<◌, ◌≤◌, ◌+◌, ◌-◌, ◌*◌, ◌/◌, ◌%◌, ◌^◌, ℕ, zero, suc, true, false, ltb, List, [], ◌∷◌, ◌++◌, Option, Some, None, length, get_or, min, refl, sym, ap, ap₂, ◌∙◌, subst, arith, inl, inr}
use Rattle.std.proofs.Math.Nat.{pow-suc, div-add-mod}
use Rattle.std.proofs.lemmas.Bool.{cases_lt, lt-ltb, le-ltb}
use Rattle.std.proofs.lemmas.Nat.{mod_below}
use Rattle.std.proofs.lemmas.List.{ext_get_or, get_or_append_left, get_or-append-add, length_push}
use Rattle.extent_tree.specs.declared.entry.Entry.{Entry}
use Rattle.extent_tree.specs.Entries.{EachWithin, IsEntry}
use Rattle.extent_tree.specs.Held.{hole}
use Rattle.extent_tree.specs.Tree.{is_index, run_of, blocks_in, indexes_of, indexes_in, IsTree, AreTrees, AreSomeTrees}
use Rattle.extent_tree.specs.Setting.{part_of, AreParts, IsRun}
use Rattle.extent_tree.proofs.Charges.{span_pos}
use Rattle.extent_tree.proofs.Growing.{hole_tree, not_index}
use Rattle.extent_tree.proofs.Shapes.{run_at, length-run, length-blocks_in, at_entry, blocks-run, place_in}
use Rattle.extent_tree.proofs.Trees.{tree_plain}

-- ---- made one after the other

pub record ArePartsTo (e : ℕ) (entry : Entry) (i : ℕ) (parts : List Entry) : Type 0 where
  pub len : length parts ≡ i
  pub each : (k : ℕ) (d : Entry) → k < i → get_or parts k d ≡ part_of entry (512 ^ e * k) (512 ^ e)

pub ArePartsTo-none : (e : ℕ) (entry : Entry) → ArePartsTo e entry 0 []
ArePartsTo-none e entry = record { len = refl; each = λ k d lt. absurd (omega arith) }

pub ArePartsTo-more : (e : ℕ) (entry : Entry) (i : ℕ) (parts : List Entry) (x : Entry) → ArePartsTo e entry i parts → x ≡ part_of entry (512 ^ e * i) (512 ^ e) → ArePartsTo e entry (i + 1) (parts ++ x ∷ [])
ArePartsTo-more e entry i parts x far is = record {
  len = omega (arith, length_push parts x, far.len);
  each =
      λ k d lt.
      elim (cases_lt k i) [
        | inl less ↦ let within : k < length parts = omega (arith, far.len) in get_or_append_left parts (x ∷ []) d k within ∙ far.each k d less
        | inr le ↦
            let here : k ≡ length parts + 0 = omega (arith, far.len) in
            let place : i ≡ k = omega arith in
            ap (λ (n : ℕ). get_or (parts ++ x ∷ []) n d) here ∙ get_or-append-add parts (x ∷ []) 0 d ∙ is ∙ ap (λ (n : ℕ). part_of entry (512 ^ e * n) (512 ^ e)) place
      ];
}

pub ArePartsTo-all : (e : ℕ) (entry : Entry) (i : ℕ) (parts : List Entry) → ArePartsTo e entry i parts → 512 ≡ i → AreParts e entry parts
ArePartsTo-all e entry i parts far all = record { len = omega (arith, far.len); each = λ k d lt. far.each k d (omega arith) }

-- ---- one part

part_here : (entry : Entry) (first w : ℕ) → first < entry.length → part_of entry first w ≡ record { sector = entry.sector + first; length = min (entry.length - first) w }
part_here entry first w lt = let test : ltb first entry.length ≡ true = lt-ltb first entry.length lt in rw test refl

part_past : (entry : Entry) (first w : ℕ) → entry.length ≤ first → part_of entry first w ≡ hole
part_past entry first w le = let test : ltb first entry.length ≡ false = le-ltb first entry.length le in rw test refl

pub part_whole : (entry : Entry) (first w : ℕ) → 0 < w → is_index (part_of entry first w) ≡ false
part_whole entry first w pos =
    elim (cases_lt first entry.length) [
      | inl lt ↦
          let made : Entry = record { sector = entry.sector + first; length = min (entry.length - first) w } in
          ap is_index (part_here entry first w lt) ∙ not_index made (omega arith)
      | inr le ↦ ap is_index (part_past entry first w le)
    ]

pub part_run : (d first : ℕ) (entry : Entry) → IsRun (suc d) entry → IsRun d (part_of entry first (512 ^ d))
part_run d first entry run =
    elim (cases_lt first entry.length) [
      | inl lt ↦
          let pos : 0 < 512 ^ d = span_pos d in
          let made : Entry = record { sector = entry.sector + first; length = min (entry.length - first) (512 ^ d) } in
          let used : 0 < entry.sector = run.used (omega arith) in
          let is : IsRun d made = record { whole = not_index made (omega arith); used = λ _. omega arith; span = omega arith; fits = omega (arith, run.fits) } in
          subst (IsRun d) (sym (part_here entry first (512 ^ d) lt)) is
      | inr le ↦
          let none : IsRun d hole = record { whole = refl; used = λ h. absurd (omega arith); span = omega arith; fits = omega arith } in
          subst (IsRun d) (sym (part_past entry first (512 ^ d) le)) none
    ]

-- where an entry has no index sector it is a hole or an extent
part_tree : (index : ℕ → List Entry) (e n first : ℕ) (entry : Entry) → IsRun (suc e) entry → entry.length ≤ n → IsTree index e (min (n - first) (512 ^ e)) (part_of entry first (512 ^ e))
part_tree index e n first entry run le =
    elim (cases_lt first entry.length) [
      | inl lt ↦
          let pos : 0 < 512 ^ e = span_pos e in
          let made : Entry = record { sector = entry.sector + first; length = min (entry.length - first) (512 ^ e) } in
          let used : 0 < entry.sector = run.used (omega arith) in
          let is : IsEntry e (min (n - first) (512 ^ e)) made = inr (inr (record { sector = omega arith; fits = omega (arith, run.fits); some = omega arith; span = omega arith; within = omega arith })) in
          subst (IsTree index e (min (n - first) (512 ^ e))) (sym (part_here entry first (512 ^ e) lt)) (tree_plain index e (min (n - first) (512 ^ e)) made is (not_index made (omega arith)))
      | inr past ↦ subst (IsTree index e (min (n - first) (512 ^ e))) (sym (part_past entry first (512 ^ e) past)) (hole_tree index e (min (n - first) (512 ^ e)))
    ]

some_at : (a b : ℕ) → a ≡ b → (let x : Option ℕ = Some a in let y : Option ℕ = Some b in x ≡ y)
some_at a b e = ap (λ (n : ℕ). Some n) e

pub run_yes : (w k : ℕ) (entry : Entry) → k < entry.length → get_or (run_of w entry) k None ≡ Some (entry.sector + k)
run_yes w k entry lt = let test : ltb k entry.length ≡ true = lt-ltb k entry.length lt in run_at w k entry ∙ rw test refl

pub run_no : (w k : ℕ) (entry : Entry) → entry.length ≤ k → get_or (run_of w entry) k None ≡ None
run_no w k entry le = let test : ltb k entry.length ≡ false = le-ltb k entry.length le in run_at w k entry ∙ rw test refl

part_at : (entry : Entry) (first w whole j : ℕ) → j < w → get_or (run_of w (part_of entry first w)) j None ≡ get_or (run_of whole entry) (first + j) None
part_at entry first w whole j lt =
    elim (cases_lt first entry.length) [
      | inl less ↦
          let made : Entry = record { sector = entry.sector + first; length = min (entry.length - first) w } in
          ap (λ (x : Entry). get_or (run_of w x) j None) (part_here entry first w less)
          ∙ elim (cases_lt (first + j) entry.length) [
            | inl here ↦ run_yes w j made (omega arith) ∙ some_at (entry.sector + first + j) (entry.sector + (first + j)) (omega arith) ∙ sym (run_yes whole (first + j) entry here)
            | inr past ↦ run_no w j made (omega arith) ∙ sym (run_no whole (first + j) entry past)
          ]
      | inr past ↦ ap (λ (x : Entry). get_or (run_of w x) j None) (part_past entry first w past) ∙ run_no w j hole (omega arith) ∙ sym (run_no whole (first + j) entry (omega arith))
    ]

-- ---- all

each_from : (P : ℕ → Entry → Type 0) (w n : ℕ) (xs : List Entry) (d : Entry) → ((i : ℕ) → i < length xs → P (min (n - w * i) w) (get_or xs i d)) → EachWithin P w n xs
each_from P w n [] d h = tt
each_from P w n (x ∷ xs) d h =
    let first : min (n - w * 0) w ≡ min n w = omega arith in (
      subst (λ (m : ℕ). P m x) first (h 0 (omega arith)),
      each_from P w (n - w) xs d
          (λ i lt. let rest : min (n - w * suc i) w ≡ min (n - w - w * i) w = omega arith in subst (λ (m : ℕ). P m (get_or xs i d)) rest (h (suc i) (omega arith))),
    )

none_in : (index : ℕ → List Entry) (e : ℕ) (entry : Entry) → is_index entry ≡ false → indexes_of index e entry ≡ []
none_in index zero entry test = refl
none_in index (suc e) entry test = rw test refl

pub no_indexes_of : (index : ℕ → List Entry) (e : ℕ) (entry : Entry) → is_index entry ≡ false → indexes_of index e entry ≡ []
no_indexes_of index e entry test = none_in index e entry test

no_indexes_in : (index : ℕ → List Entry) (e : ℕ) (xs : List Entry) (d : Entry) → ((i : ℕ) → i < length xs → is_index (get_or xs i d) ≡ false) → indexes_in index e xs ≡ []
no_indexes_in index e [] d h = refl
no_indexes_in index e (x ∷ xs) d h = ap₂ (λ (a b : List ℕ). a ++ b) (none_in index e x (h 0 (omega arith))) (no_indexes_in index e xs d (λ i lt. h (suc i) (omega arith)))

module _ (index : ℕ → List Entry) (e : ℕ) (entry : Entry) (parts : List Entry) (run : IsRun (suc e) entry) (are : AreParts e entry parts) where
  pub part_is : (i : ℕ) (d : Entry) → i < 512 → is_index (get_or parts i d) ≡ false
  part_is i d lt = ap is_index (are.each i d lt) ∙ part_whole entry (512 ^ e * i) (512 ^ e) (span_pos e)

  pub parts_indexes : indexes_in index e parts ≡ []
  parts_indexes = no_indexes_in index e parts hole (λ i lt. part_is i hole (omega (arith, are.len)))

  pub parts_trees : (n : ℕ) → entry.length ≤ n → AreTrees index e n parts
  parts_trees n le =
      each_from (IsTree index e) (512 ^ e) n parts hole
      (λ i lt. let within : i < 512 = omega (arith, are.len) in
      subst (IsTree index e (min (n - 512 ^ e * i) (512 ^ e))) (sym (are.each i hole within)) (part_tree index e n (512 ^ e * i) entry run le))

  parts_long : length (blocks_in index e parts) ≡ 512 ^ suc e
  parts_long =
      length-blocks_in index e entry.length parts (parts_trees entry.length (omega arith)) ∙ ap (λ (n : ℕ). 512 ^ e * n) are.len ∙ sym (pow-suc 512 e)

  pub parts_blocks : blocks_in index e parts ≡ run_of (512 ^ suc e) entry
  parts_blocks =
      let whole : length (run_of (512 ^ suc e) entry) ≡ 512 ^ suc e = length-run (512 ^ suc e) entry run.span in
      ext_get_or None (blocks_in index e parts) (run_of (512 ^ suc e) entry) (parts_long ∙ sym whole)
      (λ k lt.
      let pos : 0 < 512 ^ e = span_pos e in
      let many : length (blocks_in index e parts) ≡ 512 ^ e * length parts = length-blocks_in index e entry.length parts (parts_trees entry.length (omega arith)) in
      let within : k < 512 ^ e * length parts = omega arith in
      let trees : AreSomeTrees index e parts = (entry.length, parts_trees entry.length (omega arith)) in
      let place : k / 512 ^ e < length parts = place_in index e k (512 ^ e) parts trees refl within in
      let rest : k % 512 ^ e < 512 ^ e = mod_below k (512 ^ e) pos in
      let sum : 512 ^ e * (k / 512 ^ e) + k % 512 ^ e ≡ k = div-add-mod k (512 ^ e) in
      let plain : is_index (get_or parts (k / 512 ^ e) hole) ≡ false = part_is (k / 512 ^ e) hole (omega (arith, are.len)) in
      at_entry index e k (512 ^ e) parts trees refl within hole
      ∙ ap (λ (xs : List (Option ℕ)). get_or xs (k % 512 ^ e) None) (blocks-run index e (get_or parts (k / 512 ^ e) hole) plain)
      ∙ ap (λ (x : Entry). get_or (run_of (512 ^ e) x) (k % 512 ^ e) None) (are.each (k / 512 ^ e) hole (omega (arith, are.len)))
      ∙ part_at entry (512 ^ e * (k / 512 ^ e)) (512 ^ e) (512 ^ suc e) (k % 512 ^ e) rest
      ∙ ap (λ (n : ℕ). get_or (run_of (512 ^ suc e) entry) n None) sum)

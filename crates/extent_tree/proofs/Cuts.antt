-- The last blocks are cut off.
use Rattle.std.proofs.Common.{◌≡◌, ◌≢◌, ◌<◌, ◌≤◌, ◌+◌, ◌-◌, ◌*◌, ◌/◌, ◌%◌, ◌^◌, ◌⊎◌, ℕ, zero, suc, true, false, ltb, List, [], ◌∷◌, ◌++◌, Option, None, length, get_or, map, take, drop, replicate, min, refl, sym, ap, ap₂, ◌∙◌, subst, arith, append_assoc, inl, inr}
use Rattle.std.specs.List.{list_all}
use Rattle.std.proofs.Math.Nat.{pow-suc, div-add-mod}
use Rattle.std.proofs.lemmas.Bool.{cases_lt, lt-ltb, false≢true}
use Rattle.std.proofs.lemmas.Nat.{div_below, mod_below}
use Rattle.std.proofs.lemmas.List.Concat.{flat_map-append}
use Rattle.std.proofs.lemmas.List.{ext_get_or, get_or-take, append-nil, take_all, length-drop, take_more, take-append-drop, length-take-le, get_or_append_left, get_or-append_right, get_or_default, length-replicate}
use Rattle.extent_tree.specs.declared.entry.Entry.{Entry}
use Rattle.extent_tree.specs.Entries.{EachWithin, IsEntry}
use Rattle.extent_tree.specs.Depth.{depth_of}
use Rattle.extent_tree.specs.Held.{hole, Blocks, blocks_by, content_in, held_entries}
use Rattle.extent_tree.specs.Tree.{is_hole, is_index, run_of, blocks_of, blocks_in, indexes_of, indexes_in, IsTree, AreTrees, AreSomeTrees, IsIndexSector, IsRoot, file_blocks, file_indexes}
use Rattle.extent_tree.specs.Setting.{times, AreDistinct, AreKept, AreParts, IsRun}
use Rattle.extent_tree.specs.Cutting.{shortened, IsCut, AreCut, AreLower, IsGivenBack, IsRewritten}
use Rattle.extent_tree.proofs.Changes.{run_entry}
use Rattle.extent_tree.proofs.Charges.{span_pos}
use Rattle.extent_tree.proofs.Contents.{kept_contents}
use Rattle.extent_tree.proofs.Counts.{times-append, times-first, times-part, same_where}
use Rattle.extent_tree.proofs.Depths.{least}
use Rattle.extent_tree.proofs.Frames.{blocks-index, indexes-index, AreSameAt, same_blocks, same_blocks_in, same_indexes, same_indexes_in, same_tree, same_trees}
use Rattle.extent_tree.proofs.Growing.{index_test, not_index, entry_count, hole_tree, holes_in, holes_indexes, holes_none, holes_are, some_in}
use Rattle.extent_tree.proofs.Parts.{no_indexes_of, parts_blocks, parts_indexes, parts_trees, run_yes, run_no}
use Rattle.extent_tree.proofs.Shapes.{is_entry, length-blocks_of, length-blocks_in, blocks-run, above_of, index_above, IsSomeTree, AreBelow, below, count_is, length-file_blocks}
use Rattle.extent_tree.proofs.Trees.{tree_plain}

-- ---- an extent

short_none : (entry : Entry) (keep : ℕ) → keep ≡ 0 → shortened entry keep ≡ hole
short_none entry keep is = rw is refl

short_some : (entry : Entry) (keep : ℕ) → 0 < keep → shortened entry keep ≡ record { sector = entry.sector; length = min entry.length keep }
short_some entry keep some = let test : ltb 0 keep ≡ true = lt-ltb 0 keep some in rw test refl

-- shortened, it is whole too, and a tree of fewer blocks
record IsShort (e keep : ℕ) (entry new : Entry) : Type 0 where
  whole : is_index new ≡ false
  is : (n : ℕ) → keep ≤ n → IsEntry e n entry → IsEntry e keep new
  same : (k : ℕ) → k < keep → get_or (run_of (512 ^ e) new) k None ≡ get_or (run_of (512 ^ e) entry) k None

short_is : (e keep : ℕ) (entry : Entry) → is_index entry ≡ false → IsShort e keep entry (shortened entry keep)
short_is e keep entry test =
    elim (cases_lt 0 keep) [
      | inr none ↦
          let made : IsShort e keep entry hole = record {
            whole = refl;
            is = λ n le h. inl (record { sector = refl; length = refl });
            same = λ k lt. absurd (omega arith);
          } in
          subst (IsShort e keep entry) (sym (short_none entry keep (omega arith))) made
      | inl some ↦
          elim (cases_lt 0 entry.length) [
            | inl long ↦
                let new : Entry = record { sector = entry.sector; length = min entry.length keep } in
                let made : IsShort e keep entry new = record {
                  whole = not_index new (omega arith);
                  is =
                      λ n le h.
                      elim h [
                        | inl is ↦ absurd (omega (arith, is.length))
                        | inr rest ↦
                            elim rest [
                              | inl is ↦ absurd (omega (arith, is.length))
                              | inr is ↦ inr (inr (record { sector = is.sector; fits = omega (arith, is.fits); some = omega arith; span = omega (arith, is.span); within = omega arith }))
                            ]
                      ];
                  same =
                      λ k lt.
                      elim (cases_lt k entry.length) [
                        | inl less ↦ run_yes (512 ^ e) k new (omega arith) ∙ sym (run_yes (512 ^ e) k entry less)
                        | inr past ↦ run_no (512 ^ e) k new (omega arith) ∙ sym (run_no (512 ^ e) k entry past)
                      ];
                } in
                subst (IsShort e keep entry) (sym (short_some entry keep some)) made
            | inr none ↦
                let new : Entry = record { sector = entry.sector; length = min entry.length keep } in
                let zero_new : new.length ≡ entry.length = omega arith in
                let here : new ≡ entry = ap (λ (n : ℕ). let made : Entry = record { sector = entry.sector; length = n } in made) zero_new in
                let made : IsShort e keep entry entry = record {
                  whole = test;
                  is =
                      λ n le h.
                      elim h [
                        | inl is ↦ inl is
                        | inr rest ↦
                            elim rest [
                              | inl is ↦ absurd (false≢true (sym test ∙ index_test entry is.sector is.length))
                              | inr is ↦ absurd (omega (arith, is.some))
                            ]
                      ];
                  same = λ k lt. refl;
                } in
                subst (IsShort e keep entry) (sym (short_some entry keep some ∙ here)) made
          ]
    ]

pub cut_run : (index other : ℕ → List Entry) (e keep : ℕ) (entry : Entry) (freed : List ℕ) → is_index entry ≡ false → IsCut index other e keep entry (shortened entry keep) freed freed
cut_run index other e keep entry freed test =
    let short : IsShort e keep entry (shortened entry keep) = short_is e keep entry test in
    record {
      tree = λ n le h. tree_plain other e keep (shortened entry keep) (short.is n le (is_entry index e n entry h)) short.whole;
      blocks =
          λ n le h k lt.
          ap (λ (xs : List (Option ℕ)). get_or xs k None) (blocks-run other e (shortened entry keep) short.whole) ∙ short.same k lt
          ∙ ap (λ (xs : List (Option ℕ)). get_or xs k None) (sym (blocks-run index e entry test));
      indexes =
          λ s.
          let new : times s (indexes_of other e (shortened entry keep)) ≡ 0 = ap (times s) (no_indexes_of other e (shortened entry keep) short.whole) in
          let old : times s (indexes_of index e entry) ≡ 0 = ap (times s) (no_indexes_of index e entry test) in
          omega arith;
      grows = λ s. omega arith;
    }

-- ---- one entry of many

module _ (index other : ℕ → List Entry) (e rest : ℕ) (new d : Entry) (mid after : List ℕ) (lt : rest < 512 ^ e) where
  abbrev pub CutKeeps : List Entry → ℕ → Type 0
  CutKeeps xs at = (s : ℕ) → times s (indexes_of index e (get_or xs at d)) < times s (indexes_in index e xs) → other s ≡ index s

  abbrev pub TailBack : List Entry → ℕ → List ℕ → Type 0
  TailBack xs at before = (s : ℕ) → times s mid ≡ times s before + times s (indexes_in index e (drop (at + 1) xs))

  pub cut_at : (xs : List Entry) (at m : ℕ) (before : List ℕ) → at < length xs → length xs ≡ at + (m + 1) → IsCut index other e rest (get_or xs at d) new mid after → CutKeeps xs at → TailBack xs at before
      → AreCut index other e (512 ^ e * at + rest) xs (take at xs ++ new ∷ replicate m hole) before after
  cut_at [] at m before within long made keeps back = absurd (omega arith)
  cut_at (x ∷ xs) zero m before within long made keeps back =
      let same : AreSameAt index other (indexes_in index e xs) = same_where index other (indexes_in index e xs) (λ s some. keeps s (omega (arith, times-append s (indexes_of index e x) (indexes_in index e xs)))) in
      let many : length xs ≡ m = omega arith in
      let here : 512 ^ e * 0 + rest ≡ rest = omega arith in
      let result : AreCut index other e rest (x ∷ xs) (new ∷ replicate m hole) before after = record {
        len = omega (arith, length-replicate {A = Entry} m hole);
        trees =
            λ n le h.
            let first : min rest (512 ^ e) ≡ rest = omega arith in (
              subst (λ (k : ℕ). IsTree other e k new) (sym first) (made.tree (min n (512 ^ e)) (omega arith) h.0),
              holes_in other e (512 ^ e) (rest - 512 ^ e) m,
            );
        blocks =
            λ n le h k less.
            let old_len : length (blocks_of index e x) ≡ 512 ^ e = length-blocks_of index e (min n (512 ^ e)) x h.0 in
            let new_len : length (blocks_of other e new) ≡ 512 ^ e = length-blocks_of other e rest new (made.tree (min n (512 ^ e)) (omega arith) h.0) in
            get_or_append_left (blocks_of other e new) (blocks_in other e (replicate m hole)) None k (omega arith) ∙ made.blocks (min n (512 ^ e)) (omega arith) h.0 k less
            ∙ sym (get_or_append_left (blocks_of index e x) (blocks_in index e xs) None k (omega arith));
        indexes =
            λ s.
            let none : times s (indexes_in other e (replicate m hole)) ≡ 0 = ap (times s) (holes_indexes other e m) in
            omega (arith, times-append s (indexes_of other e new) (indexes_in other e (replicate m hole)), times-append s (indexes_of index e x) (indexes_in index e xs), made.indexes s, back s);
        grows = λ s. omega (arith, made.grows s, back s);
      } in
      subst (λ (k : ℕ). AreCut index other e k (x ∷ xs) (new ∷ replicate m hole) before after) (sym here) result
  cut_at (x ∷ xs) (suc at) m before within long made keeps back =
      let less : at < length xs = omega arith in
      let back' : TailBack xs at before = λ s. let one : suc at + 1 ≡ suc (at + 1) = omega arith in back s ∙ ap (λ (k : ℕ). times s before + times s (indexes_in index e (drop k (x ∷ xs)))) one in
      let rest_cut : AreCut index other e (512 ^ e * at + rest) xs (take at xs ++ new ∷ replicate m hole) before after =
      cut_at xs at m before less (omega arith) made (λ s more. keeps s (omega (arith, times-append s (indexes_of index e x) (indexes_in index e xs)))) back' in
      let same : AreSameAt index other (indexes_of index e x) =
      same_where index other (indexes_of index e x)
      (λ s some. keeps s (omega (arith, times-append s (indexes_of index e x) (indexes_in index e xs), times-part (indexes_of index e) s xs at d less))) in
      record {
        len = omega (arith, rest_cut.len);
        trees =
            λ n le h.
            let whole : min n (512 ^ e) ≡ min (512 ^ e * suc at + rest) (512 ^ e) = omega arith in
            let left : 512 ^ e * at + rest ≡ 512 ^ e * suc at + rest - 512 ^ e = omega arith in (
              subst (λ (k : ℕ). IsTree other e k x) whole (same_tree index other e (min n (512 ^ e)) x h.0 same),
              subst (λ (k : ℕ). AreTrees other e k (take at xs ++ new ∷ replicate m hole)) left (rest_cut.trees (n - 512 ^ e) (omega arith) h.1),
            );
        blocks =
            λ n le h k small.
            let old_len : length (blocks_of index e x) ≡ 512 ^ e = length-blocks_of index e (min n (512 ^ e)) x h.0 in
            let new_len : length (blocks_of other e x) ≡ 512 ^ e = ap (λ (xs : List (Option ℕ)). length xs) (same_blocks index other e x same) ∙ old_len in
            elim (cases_lt k (512 ^ e)) [
              | inl first ↦
                  get_or_append_left (blocks_of other e x) (blocks_in other e (take at xs ++ new ∷ replicate m hole)) None k (omega arith)
                  ∙ ap (λ (xs : List (Option ℕ)). get_or xs k None) (same_blocks index other e x same) ∙ sym (get_or_append_left (blocks_of index e x) (blocks_in index e xs) None k (omega arith))
              | inr past ↦
                  get_or-append_right (blocks_of other e x) (blocks_in other e (take at xs ++ new ∷ replicate m hole)) (512 ^ e) k None new_len past
                  ∙ rest_cut.blocks (n - 512 ^ e) (omega arith) h.1 (k - 512 ^ e) (omega arith)
                  ∙ sym (get_or-append_right (blocks_of index e x) (blocks_in index e xs) (512 ^ e) k None old_len past)
            ];
        indexes =
            λ s.
            let first : times s (indexes_of other e x) ≡ times s (indexes_of index e x) = ap (times s) (same_indexes index other e x same) in
            omega (arith, times-append s (indexes_of other e x) (indexes_in other e (take at xs ++ new ∷ replicate m hole)), times-append s (indexes_of index e x) (indexes_in index e xs), rest_cut.indexes s);
        grows = rest_cut.grows;
      }

-- ---- the entry above

hole_test : (entry : Entry) → entry.sector ≡ 0 → entry.length ≡ 0 → is_hole entry ≡ true
hole_test entry first second = rw (first, second) refl

empty_hole : (e n : ℕ) (entry : Entry) → n ≡ 0 → IsEntry e n entry → is_hole entry ≡ true
empty_hole e n entry none (inl is) = hole_test entry is.sector is.length
empty_hole e n entry none (inr (inl is)) = absurd (omega (arith, is.some))
empty_hole e n entry none (inr (inr is)) = absurd (omega (arith, is.some, is.within))

none_left : (index : ℕ → List Entry) (e w n : ℕ) (xs : List Entry) → n ≡ 0 → EachWithin (IsTree index e) w n xs → list_all is_hole xs ≡ true
none_left index e w n [] none h = refl
none_left index e w n (x ∷ xs) none h =
    let here : is_hole x ≡ true = empty_hole e (min n w) x (omega arith) (is_entry index e (min n w) x h.0) in
    rw here (none_left index e w (n - w) xs (omega arith) h.1)

-- an index sector is one for fewer blocks, if there is one
fewer_index : (e n keep : ℕ) (entry : Entry) → IsEntry e n entry → is_index entry ≡ true → 0 < keep → IsEntry e keep entry
fewer_index e n keep entry (inl is) test some = let x : false ≡ true = rw is.sector at test in absurd (false≢true x)
fewer_index e n keep entry (inr (inl is)) test some = inr (inl (record { above = is.above; sector = is.sector; fits = is.fits; length = is.length; some = some }))
fewer_index e n keep entry (inr (inr is)) test some = absurd (false≢true (sym (not_index entry is.some) ∙ test))

module _ (index mid other : ℕ → List Entry) (e keep : ℕ) (x new : Entry) (below : List Entry) (before freed after : List ℕ) (test : is_index x ≡ true) (once : AreDistinct (x.sector ∷ indexes_in index e (index x.sector))) (made : AreCut index mid e keep (index x.sector) below before freed) where
  own_none : times x.sector (indexes_in index e (index x.sector)) ≡ 0
  own_none = omega (arith, once x.sector, times-first x.sector (indexes_in index e (index x.sector)))

  pub cut_given : IsGivenBack mid other x new below freed after → IsCut index other (suc e) keep x new before after
  cut_given h =
      let all : below ≡ replicate (length below) hole = holes_are below h.none in
      let back : (s : ℕ) → times s after ≡ times s freed + times s (x.sector ∷ []) = λ s. ap (times s) h.back ∙ times-append s freed (x.sector ∷ []) in
      let none : (s : ℕ) → times s (indexes_in mid e below) ≡ 0 = λ s. ap (times s) (ap (indexes_in mid e) all ∙ holes_indexes mid e (length below)) in
      let result : IsCut index other (suc e) keep x hole before after = record {
        tree = λ n le h. hole_tree other (suc e) keep;
        blocks =
            λ n le tree k lt.
            let empty : get_or (blocks_in mid e below) k None ≡ None = ap (λ (xs : List Entry). get_or (blocks_in mid e xs) k None) all ∙ holes_none mid e (length below) k in
            run_no (512 ^ suc e) k hole (omega arith) ∙ sym empty ∙ made.blocks n le (tree.1 test).each k lt
            ∙ ap (λ (xs : List (Option ℕ)). get_or xs k None) (sym (blocks-index index e x test));
        indexes =
            λ s.
            let old : times s (indexes_of index (suc e) x) ≡ times s (x.sector ∷ indexes_in index e (index x.sector)) = ap (times s) (indexes-index index e x test) in
            omega (arith, made.indexes s, back s, none s);
        grows = λ s. omega (arith, made.grows s, back s);
      } in
      subst (λ (y : Entry). IsCut index other (suc e) keep x y before after) (sym h.new_is) result

  pub cut_rewritten : IsRewritten mid other x new below freed after → IsCut index other (suc e) keep x new before after
  cut_rewritten h =
      let apart : (s : ℕ) → 0 < times s (indexes_in mid e below) → s ≢ x.sector =
      λ s some is. let none : times s (indexes_in index e (index x.sector)) ≡ 0 = ap (λ (n : ℕ). times n (indexes_in index e (index x.sector))) is ∙ own_none in absurd (omega (arith, made.indexes s, made.grows s)) in
      let same : AreSameAt mid other (indexes_in mid e below) = same_where mid other (indexes_in mid e below) (λ s some. h.same s (apart s some)) in
      let result : IsCut index other (suc e) keep x x before after = record {
        tree =
            λ n le tree.
            let sector = tree.1 test in
            let few : 0 < keep =
            elim (cases_lt 0 keep) [
              | inl some ↦ some
              | inr none ↦
                  let all : list_all is_hole below ≡ true = none_left mid e (512 ^ e) keep below (omega arith) (made.trees n le sector.each) in
                  absurd (false≢true (sym h.some ∙ all))
            ] in
            let trees : AreTrees other e keep below = same_trees mid other e keep below (made.trees n le sector.each) same in
            let index_sector : IsIndexSector (IsTree other e) (512 ^ e) keep below (blocks_in other e below) = record { len = made.len ∙ sector.len; each = trees; some = some_in other e (512 ^ e) keep below trees h.some } in (
              fewer_index (suc e) n keep x tree.0 test few,
              λ yes_index. subst (λ (xs : List Entry). IsIndexSector (IsTree other e) (512 ^ e) keep xs (blocks_in other e xs)) (sym h.there) index_sector,
            );
        blocks =
            λ n le tree k lt.
            ap (λ (xs : List (Option ℕ)). get_or xs k None) (blocks-index other e x test ∙ ap (blocks_in other e) h.there ∙ same_blocks_in mid other e below same)
            ∙ made.blocks n le (tree.1 test).each k lt ∙ ap (λ (xs : List (Option ℕ)). get_or xs k None) (sym (blocks-index index e x test));
        indexes =
            λ s.
            let old : times s (indexes_of index (suc e) x) ≡ times s (x.sector ∷ indexes_in index e (index x.sector)) = ap (times s) (indexes-index index e x test) in
            let now : times s (indexes_of other (suc e) x) ≡ times s (x.sector ∷ indexes_in mid e below) =
            ap (times s) (indexes-index other e x test ∙ ap (λ (xs : List ℕ). x.sector ∷ xs) (ap (indexes_in other e) h.there ∙ same_indexes_in mid other e below same)) in
            let back : times s after ≡ times s freed = ap (times s) h.back in
            omega (arith, made.indexes s);
        grows = λ s. let back : times s after ≡ times s freed = ap (times s) h.back in omega (arith, made.grows s);
      } in
      subst (λ (y : Entry). IsCut index other (suc e) keep x y before after) (sym h.new_is) result

-- ---- what code does

whole_at : (w n keep : ℕ) (P : ℕ → Entry → Type 0) (xs : List Entry) → keep ≡ w * length xs → keep ≤ n → EachWithin P w n xs → EachWithin P w keep xs
whole_at w n keep P [] is le h = tt
whole_at w n keep P (x ∷ xs) is le h =
    let here : min n w ≡ min keep w = omega arith in
    let rest : keep - w ≡ w * length xs = omega arith in
    (subst (λ (k : ℕ). P k x) here h.0, whole_at w (n - w) (keep - w) P xs rest (omega arith) h.1)

drop_each : (P : ℕ → Entry → Type 0) (w n k : ℕ) (xs : List Entry) → EachWithin P w n xs → (m : ℕ) × EachWithin P w m (drop k xs)
drop_each P w n zero xs h = (n, h)
drop_each P w n (suc k) [] h = (n, tt)
drop_each P w n (suc k) (x ∷ xs) h = drop_each P w (n - w) k xs h.1

pub at_count : (P : ℕ → Entry → Type 0) (w n : ℕ) (xs : List Entry) (i : ℕ) (d : Entry) → EachWithin P w n xs → i < length xs → P (min (n - w * i) w) (get_or xs i d)
at_count P w n [] i d h lt = absurd (omega arith)
at_count P w n (x ∷ xs) zero d h lt = let here : min n w ≡ min (n - w * 0) w = omega arith in subst (λ (k : ℕ). P k x) here h.0
at_count P w n (x ∷ xs) (suc i) d h lt =
    let here : min (n - w - w * i) w ≡ min (n - w * suc i) w = omega arith in
    subst (λ (k : ℕ). P k (get_or xs i d)) here (at_count P w (n - w) xs i d h.1 (omega arith))

pub record IsCutting (index : ℕ → List Entry) (e keep w : ℕ) (xs : List Entry) : Type 0 where
  pub trees : (n : ℕ) × ((keep ≤ n) × AreTrees index e n xs)
  pub once : AreDistinct (indexes_in index e xs)
  pub long : keep ≤ 512 ^ e * length xs
  pub span : w ≡ 512 ^ e

module _ (index : ℕ → List Entry) (e keep w : ℕ) (xs : List Entry) (h : IsCutting index e keep w xs) where
  pub cut_parts : 512 ^ e * (keep / w) + keep % w ≡ keep
  cut_parts = ap (λ (n : ℕ). n * (keep / w) + keep % w) (sym h.span) ∙ div-add-mod keep w

  pub cut_low : keep % w < 512 ^ e
  cut_low = let pos : 0 < w = omega (arith, span_pos e, h.span) in omega (arith, mod_below keep w pos, h.span)

  pub cut_place : keep / w ≤ length xs
  cut_place =
      let pos : 0 < w = omega (arith, span_pos e, h.span) in
      let same : 512 ^ e * length xs ≡ w * length xs = ap (λ (n : ℕ). n * length xs) (sym h.span) in
      let turned : (length xs + 1) * w ≡ w * length xs + w = omega arith in
      let below : keep / w < length xs + 1 = div_below keep w (length xs + 1) pos (omega (arith, h.long)) in
      omega arith

  pub cut_all : (before : List ℕ) → keep / w ≡ length xs → AreCut index index e keep xs xs before before
  cut_all before whole =
      let same : 512 ^ e * (keep / w) ≡ 512 ^ e * length xs = ap (λ (n : ℕ). 512 ^ e * n) whole in
      let is : keep ≡ 512 ^ e * length xs = omega (arith, cut_parts, h.long) in
      record {
        len = refl;
        trees = λ n le trees. whole_at (512 ^ e) n keep (IsTree index e) xs is le trees;
        blocks = λ n le trees k lt. refl;
        indexes = λ s. refl;
        grows = λ s. omega arith;
      }

  pub cut_tail : AreSomeTrees index e (drop (keep / w + 1) xs)
  cut_tail = drop_each (IsTree index e) (512 ^ e) h.trees.0 (keep / w + 1) xs h.trees.1.1

  module _ (at_lt : keep / w < length xs) (y : Entry) (y_is : y ≡ get_or xs (keep / w) y) (before mid : List ℕ) (back : mid ≡ before ++ indexes_in index e (drop (keep / w + 1) xs)) where
    tail_back : (s : ℕ) → times s mid ≡ times s before + times s (indexes_in index e (drop (keep / w + 1) xs))
    tail_back s = ap (times s) back ∙ times-append s before (indexes_in index e (drop (keep / w + 1) xs))

    y_few : (s : ℕ) → times s (indexes_of index e y) ≤ times s (indexes_in index e xs)
    y_few s = subst (λ (x : Entry). times s (indexes_of index e x) ≤ times s (indexes_in index e xs)) (sym y_is) (times-part (indexes_of index e) s xs (keep / w) y at_lt)

    pub cut_made : (other : ℕ → List Entry) (new : Entry) (after : List ℕ) → IsCut index other e (keep % w) y new mid after → ((s : ℕ) → times s (indexes_of index e y) ≡ 0 → other s ≡ index s)
        → AreCut index other e keep xs (take (keep / w) xs ++ new ∷ replicate (length xs - keep / w - 1) hole) before after
    cut_made other new after made keeps =
        let made' = subst (λ (x : Entry). IsCut index other e (keep % w) x new mid after) y_is made in
        let keeps' : (s : ℕ) → times s (indexes_of index e (get_or xs (keep / w) y)) < times s (indexes_in index e xs) → other s ≡ index s =
        λ s more.
        let same : times s (indexes_of index e y) ≡ times s (indexes_of index e (get_or xs (keep / w) y)) = ap (λ (x : Entry). times s (indexes_of index e x)) y_is in
        keeps s (omega (arith, h.once s)) in
        subst (λ (k : ℕ). AreCut index other e k xs (take (keep / w) xs ++ new ∷ replicate (length xs - keep / w - 1) hole) before after) cut_parts
        (cut_at index other e (keep % w) new y mid after cut_low xs (keep / w) (length xs - keep / w - 1) before at_lt (omega arith) made' keeps' tail_back)

    pub cut_plain : is_index y ≡ false → AreCut index index e keep xs (take (keep / w) xs ++ shortened y (keep % w) ∷ replicate (length xs - keep / w - 1) hole) before mid
    cut_plain test = cut_made index (shortened y (keep % w)) mid (cut_run index index e (keep % w) y mid test) (λ s none. refl)

    module _ (d : ℕ) (test : is_index y ≡ true) (is : d ≡ e - 1) where
      y_tree : IsTree index e (min (h.trees.0 - 512 ^ e * (keep / w)) (512 ^ e)) y
      y_tree = subst (IsTree index e (min (h.trees.0 - 512 ^ e * (keep / w)) (512 ^ e))) (sym y_is) (at_count (IsTree index e) (512 ^ e) h.trees.0 xs (keep / w) y h.trees.1.1 at_lt)

      pub deep_cut_above : 0 < e
      deep_cut_above = above_of e (min (h.trees.0 - 512 ^ e * (keep / w)) (512 ^ e)) y (is_entry index e (min (h.trees.0 - 512 ^ e * (keep / w)) (512 ^ e)) y y_tree) test

      up_one : e ≡ suc d
      up_one = omega (arith, deep_cut_above)

      y_indexes : indexes_of index e y ≡ y.sector ∷ indexes_in index d (index y.sector)
      y_indexes = subst (λ (n : ℕ). indexes_of index n y ≡ y.sector ∷ indexes_in index d (index y.sector)) (sym up_one) (indexes-index index d y test)

      y_once : AreDistinct (y.sector ∷ indexes_in index d (index y.sector))
      y_once s = omega (arith, h.once s, y_few s, ap (times s) y_indexes)

      pub deep_once : AreDistinct (indexes_in index d (index y.sector))
      deep_once s = omega (arith, y_once s)

      y_count : keep % w ≤ min (h.trees.0 - 512 ^ e * (keep / w)) (512 ^ e)
      y_count = omega (arith, cut_parts, cut_low, h.trees.1.0)

      y_sector : IsIndexSector (IsTree index d) (512 ^ d) (min (h.trees.0 - 512 ^ e * (keep / w)) (512 ^ e)) (index y.sector) (blocks_in index d (index y.sector))
      y_sector = let tree = subst (λ (n : ℕ). IsTree index n (min (h.trees.0 - 512 ^ e * (keep / w)) (512 ^ e)) y) up_one y_tree in tree.1 test

      pub deep_cut_trees : (n : ℕ) × ((keep % w ≤ n) × AreTrees index d n (index y.sector))
      deep_cut_trees = (min (h.trees.0 - 512 ^ e * (keep / w)) (512 ^ e), (y_count, y_sector.each))

      pub deep_cut_long : keep % w ≤ 512 ^ d * length (index y.sector)
      deep_cut_long =
          let wide : 512 ^ e ≡ 512 ^ d * 512 = ap (λ (n : ℕ). 512 ^ n) up_one ∙ pow-suc 512 d in
          let many : 512 ^ d * length (index y.sector) ≡ 512 ^ d * 512 = ap (λ (n : ℕ). 512 ^ d * n) y_sector.len in
          omega (arith, cut_low)

      module _ (mid_index other : ℕ → List Entry) (copy below : List Entry) (new : Entry) (freed after : List ℕ) (copied : copy ≡ index y.sector) (made : AreCut index mid_index d (keep % w) copy below mid freed) (kept : AreKept index mid_index (indexes_in index d copy))
          (ends : IsGivenBack mid_index other y new below freed after ⊎ IsRewritten mid_index other y new below freed after) where
        deep_made : AreCut index mid_index d (keep % w) (index y.sector) below mid freed
        deep_made = subst (λ (zs : List Entry). AreCut index mid_index d (keep % w) zs below mid freed) copied made

        deep_one : IsCut index other e (keep % w) y new mid after
        deep_one =
            let one : IsCut index other (suc d) (keep % w) y new mid after =
            elim ends [
              | inl given ↦ cut_given index mid_index other d (keep % w) y new below mid freed after test y_once deep_made given
              | inr again ↦ cut_rewritten index mid_index other d (keep % w) y new below mid freed after test y_once deep_made again
            ] in
            subst (λ (n : ℕ). IsCut index other n (keep % w) y new mid after) (sym up_one) one

        deep_keeps : (s : ℕ) → times s (indexes_of index e y) ≡ 0 → other s ≡ index s
        deep_keeps s none =
            let listed : times s (y.sector ∷ indexes_in index d (index y.sector)) ≡ 0 = ap (times s) (sym y_indexes) ∙ none in
            let below_none : times s (indexes_in index d copy) ≡ 0 = ap (λ (zs : List Entry). times s (indexes_in index d zs)) copied ∙ omega arith in
            let apart : s ≢ y.sector = λ q. absurd (omega (arith, times-first s (indexes_in index d (index y.sector)), ap (λ (n : ℕ). times s (n ∷ indexes_in index d (index y.sector))) q)) in
            elim ends [
              | inl given ↦ given.same s ∙ kept s below_none
              | inr again ↦ again.same s apart ∙ kept s below_none
            ]

        pub cut_deep : AreCut index other e keep xs (take (keep / w) xs ++ new ∷ replicate (length xs - keep / w - 1) hole) before after
        cut_deep = cut_made other new after deep_one deep_keeps

        pub cut_deep_kept : AreKept index other (indexes_in index e xs)
        cut_deep_kept s none = deep_keeps s (omega (arith, y_few s))

-- ---- giving back

back_more : (index : ℕ → List Entry) (e i : ℕ) (xs : List Entry) (y : Entry) → i < length xs → y ≡ get_or xs i y → indexes_in index e (take (i + 1) xs) ≡ indexes_in index e (take i xs) ++ indexes_of index e y
back_more index e i xs y lt is =
    ap (indexes_in index e) (take_more xs i y lt ∙ ap (λ (x : Entry). take i xs ++ x ∷ []) (sym is)) ∙ flat_map-append (indexes_of index e) (take i xs) (y ∷ [])
    ∙ ap (λ (zs : List ℕ). indexes_in index e (take i xs) ++ zs) (append-nil (indexes_of index e y))

pub back_none : (index : ℕ → List Entry) (e i : ℕ) (xs : List Entry) (first freed : List ℕ) (y : Entry) → freed ≡ first ++ indexes_in index e (take i xs) → i < length xs → y ≡ get_or xs i y → is_index y ≡ false → freed ≡ first ++ indexes_in index e (take (i + 1) xs)
back_none index e i xs first freed y far lt is test =
    let more : indexes_in index e (take (i + 1) xs) ≡ indexes_in index e (take i xs) ++ indexes_of index e y = back_more index e i xs y lt is in
    far ∙ ap (λ (zs : List ℕ). first ++ zs) (sym (more ∙ ap (λ (zs : List ℕ). indexes_in index e (take i xs) ++ zs) (no_indexes_of index e y test) ∙ append-nil (indexes_in index e (take i xs))))

pub back_index : (index : ℕ → List Entry) (e d i : ℕ) (xs : List Entry) (first far pushed freed : List ℕ) (y : Entry) (found : List Entry) → far ≡ first ++ indexes_in index e (take i xs) → i < length xs → y ≡ get_or xs i y → is_index y ≡ true → 0 < e → d ≡ e - 1 → found ≡ index y.sector
    → pushed ≡ far ++ y.sector ∷ [] → freed ≡ pushed ++ indexes_in index d found → freed ≡ first ++ indexes_in index e (take (i + 1) xs)
back_index index e d i xs first far pushed freed y found far_is lt is test above low found_is push back =
    let up : e ≡ suc d = omega arith in
    let here : indexes_of index e y ≡ y.sector ∷ indexes_in index d found =
    subst (λ (n : ℕ). indexes_of index n y ≡ y.sector ∷ indexes_in index d found) (sym up) (indexes-index index d y test ∙ ap (λ (zs : List Entry). y.sector ∷ indexes_in index d zs) (sym found_is)) in
    let tail : List ℕ = indexes_in index d found in
    back ∙ ap (λ (zs : List ℕ). zs ++ tail) (push ∙ ap (λ (zs : List ℕ). zs ++ y.sector ∷ []) far_is) ∙ append_assoc (first ++ indexes_in index e (take i xs)) (y.sector ∷ []) tail
    ∙ append_assoc first (indexes_in index e (take i xs)) (y.sector ∷ tail) ∙ ap (λ (zs : List ℕ). first ++ (indexes_in index e (take i xs) ++ zs)) (sym here)
    ∙ ap (λ (zs : List ℕ). first ++ zs) (sym (back_more index e i xs y lt is))

-- ---- a lower depth

take_each : (P : ℕ → Entry → Type 0) (w n k : ℕ) (xs : List Entry) → EachWithin P w n xs → EachWithin P w n (take k xs)
take_each P w n zero xs h = tt
take_each P w n (suc k) [] h = tt
take_each P w n (suc k) (x ∷ xs) h = (h.0, take_each P w (n - w) k xs h.1)

drop_count : (P : ℕ → Entry → Type 0) (w n k : ℕ) (xs : List Entry) → EachWithin P w n xs → EachWithin P w (n - w * k) (drop k xs)
drop_count P w n zero xs h = let here : n ≡ n - w * 0 = omega arith in subst (λ (m : ℕ). EachWithin P w m xs) here h
drop_count P w n (suc k) [] h = tt
drop_count P w n (suc k) (x ∷ xs) h =
    let here : n - w - w * k ≡ n - w * suc k = omega arith in
    subst (λ (m : ℕ). EachWithin P w m (drop k xs)) here (drop_count P w (n - w) k xs h.1)

-- entries without a block have no index sector
none_indexes : (index : ℕ → List Entry) (e n : ℕ) (xs : List Entry) → n ≡ 0 → AreTrees index e n xs → (s : ℕ) → times s (indexes_in index e xs) ≡ 0
none_indexes index e n xs none h s =
    let all : xs ≡ replicate (length xs) hole = holes_are xs (none_left index e (512 ^ e) n xs none h) in
    ap (times s) (ap (indexes_in index e) all ∙ holes_indexes index e (length xs))

-- what is below the first entry
pub record IsFirst (index : ℕ → List Entry) (e : ℕ) (x : Entry) (below : List Entry) (before after : List ℕ) : Type 0 where
  pub len : length below ≡ 512
  pub trees : (n : ℕ) → IsTree index (suc e) n x → AreTrees index e n below
  pub blocks : (n : ℕ) → IsTree index (suc e) n x → blocks_in index e below ≡ blocks_of index (suc e) x
  pub indexes : (n : ℕ) → IsTree index (suc e) n x → (s : ℕ) → times s (indexes_in index e below) + times s after ≡ times s (indexes_of index (suc e) x) + times s before

module _ (index : ℕ → List Entry) (e : ℕ) (x : Entry) (xs below : List Entry) (before after : List ℕ) (h : IsFirst index e x below before after) where
  wide_span : 512 ^ suc e ≡ 512 ^ e * 512
  wide_span = pow-suc 512 e

  front_len : length (take 256 below) ≡ 256
  front_len = length-take-le 256 below (omega (arith, h.len))

  below_parts : take 256 below ++ drop 256 below ≡ below
  below_parts = take-append-drop 256 below

  module _ (n : ℕ) (le : n ≤ 256 * 512 ^ e) (trees : AreTrees index (suc e) n (x ∷ xs)) where
    lower_first : IsTree index (suc e) n x
    lower_first = let all : min n (512 ^ suc e) ≡ n = omega (arith, wide_span) in subst (λ (k : ℕ). IsTree index (suc e) k x) all trees.0

    lower_trees : AreTrees index e n (take 256 below)
    lower_trees = take_each (IsTree index e) (512 ^ e) n 256 below (h.trees n lower_first)

    front_long : length (blocks_in index e (take 256 below)) ≡ 512 ^ e * 256
    front_long = length-blocks_in index e n (take 256 below) lower_trees ∙ ap (λ (k : ℕ). 512 ^ e * k) front_len

    lower_blocks : (k : ℕ) → k < n → get_or (blocks_in index e (take 256 below)) k None ≡ get_or (blocks_in index (suc e) (x ∷ xs)) k None
    lower_blocks k lt =
        let long : length (blocks_of index (suc e) x) ≡ 512 ^ suc e = length-blocks_of index (suc e) n x lower_first in
        let all : blocks_in index e (take 256 below) ++ blocks_in index e (drop 256 below) ≡ blocks_of index (suc e) x = sym (flat_map-append (blocks_of index e) (take 256 below) (drop 256 below)) ∙ ap (blocks_in index e) below_parts ∙ h.blocks n lower_first in
        sym (get_or_append_left (blocks_in index e (take 256 below)) (blocks_in index e (drop 256 below)) None k (omega (arith, front_long)))
        ∙ ap (λ (zs : List (Option ℕ)). get_or zs k None) all ∙ sym (get_or_append_left (blocks_of index (suc e) x) (blocks_in index (suc e) xs) None k (omega (arith, wide_span)))

    lower_indexes : (s : ℕ) → times s (indexes_in index e (take 256 below)) + times s after ≡ times s (indexes_in index (suc e) (x ∷ xs)) + times s before
    lower_indexes s =
        let others : times s (indexes_in index (suc e) xs) ≡ 0 = none_indexes index (suc e) (n - 512 ^ suc e) xs (omega (arith, wide_span)) trees.1 s in
        let back : times s (indexes_in index e (drop 256 below)) ≡ 0 = none_indexes index e (n - 512 ^ e * 256) (drop 256 below) (omega arith) (drop_count (IsTree index e) (512 ^ e) n 256 below (h.trees n lower_first)) s in
        let all : times s (indexes_in index e (take 256 below) ++ indexes_in index e (drop 256 below)) ≡ times s (indexes_in index e below) =
        ap (times s) (sym (flat_map-append (indexes_of index e) (take 256 below) (drop 256 below)) ∙ ap (indexes_in index e) below_parts) in
        omega (arith, h.indexes n lower_first s, times-append s (indexes_in index e (take 256 below)) (indexes_in index e (drop 256 below)), times-append s (indexes_of index (suc e) x) (indexes_in index (suc e) xs))

  pub lower_from : AreLower index (suc e) e (x ∷ xs) (take 256 below) before after
  lower_from = record { len = front_len; trees = lower_trees; blocks = lower_blocks; indexes = lower_indexes }

first_index : (index : ℕ → List Entry) (e n : ℕ) (x : Entry) (below : List Entry) (before after : List ℕ) → IsTree index (suc e) n x → is_index x ≡ true → below ≡ index x.sector → after ≡ before ++ x.sector ∷ [] → IsFirst index e x below before after
first_index index e n x below before after tree test is back = record {
  len = ap (λ (zs : List Entry). length zs) is ∙ (tree.1 test).len;
  trees = λ m h. subst (AreTrees index e m) (sym is) (h.1 test).each;
  blocks = λ m h. ap (blocks_in index e) is ∙ sym (blocks-index index e x test);
  indexes =
      λ m h s.
      let old : times s (indexes_of index (suc e) x) ≡ times s (x.sector ∷ indexes_in index e (index x.sector)) = ap (times s) (indexes-index index e x test) in
      let now : times s (indexes_in index e below) ≡ times s (indexes_in index e (index x.sector)) = ap (λ (zs : List Entry). times s (indexes_in index e zs)) is in
      omega (arith, ap (times s) back, times-append s before (x.sector ∷ []));
}

first_run : (index : ℕ → List Entry) (e : ℕ) (x : Entry) (below : List Entry) (freed : List ℕ) → IsRun (suc e) x → AreParts e x below → IsFirst index e x below freed freed
first_run index e x below freed run are = record {
  len = are.len;
  trees = λ m h. parts_trees index e x below run are m (entry_count (suc e) m x (is_entry index (suc e) m x h));
  blocks = λ m h. parts_blocks index e x below run are ∙ sym (blocks-run index (suc e) x run.whole);
  indexes =
      λ m h s.
      let none : times s (indexes_in index e below) ≡ 0 = ap (times s) (parts_indexes index e x below run are) in
      let old : times s (indexes_of index (suc e) x) ≡ 0 = ap (times s) (no_indexes_of index (suc e) x run.whole) in
      omega arith;
}

first_of : (xs : List Entry) (y : Entry) → 0 < length xs → y ≡ get_or xs 0 y → xs ≡ y ∷ drop 1 xs
first_of [] y some is = absurd (omega arith)
first_of (x ∷ xs) y some is = ap (λ (z : Entry). z ∷ xs) (sym is)

-- as code finds the first entry
module _ (index : ℕ → List Entry) (d n : ℕ) (root below : List Entry) (y : Entry) (before after : List ℕ) (above : 0 < d) (le : n ≤ 256 * 512 ^ (d - 1)) (trees : AreTrees index d n root) (len : length root ≡ 256) (y_is : y ≡ get_or root 0 y) where
  one_low : d ≡ suc (d - 1)
  one_low = omega arith

  root_parts : root ≡ y ∷ drop 1 root
  root_parts = first_of root y (omega arith) y_is

  low_trees : AreTrees index (suc (d - 1)) n (y ∷ drop 1 root)
  low_trees = subst (λ (k : ℕ). AreTrees index k n (y ∷ drop 1 root)) one_low (subst (AreTrees index d n) root_parts trees)

  low_back : AreLower index (suc (d - 1)) (d - 1) (y ∷ drop 1 root) (take 256 below) before after → AreLower index d (d - 1) root (take 256 below) before after
  low_back h = subst (λ (k : ℕ). AreLower index k (d - 1) root (take 256 below) before after) (sym one_low) (subst (λ (zs : List Entry). AreLower index (suc (d - 1)) (d - 1) zs (take 256 below) before after) (sym root_parts) h)

  pub lower_run : is_index y ≡ false → IsRun d y
  lower_run test =
      let run : IsRun (suc (d - 1)) y = run_entry (suc (d - 1)) (min n (512 ^ suc (d - 1))) y low_trees.0.0 test in
      subst (λ (k : ℕ). IsRun k y) (sym one_low) run

  pub lower_index : is_index y ≡ true → below ≡ index y.sector → after ≡ before ++ y.sector ∷ [] → AreLower index d (d - 1) root (take 256 below) before after
  lower_index test is back = low_back (lower_from index (d - 1) y (drop 1 root) below before after (first_index index (d - 1) (min n (512 ^ suc (d - 1))) y below before after low_trees.0 test is back))

  pub lower_parts : is_index y ≡ false → AreParts (d - 1) y below → after ≡ before → AreLower index d (d - 1) root (take 256 below) before after
  lower_parts test are same =
      let run : IsRun (suc (d - 1)) y = run_entry (suc (d - 1)) (min n (512 ^ suc (d - 1))) y low_trees.0.0 test in
      let first : IsFirst index (d - 1) y below before before = first_run index (d - 1) y below before run are in
      low_back (lower_from index (d - 1) y (drop 1 root) below before after (subst (IsFirst index (d - 1) y below before) (sym same) first))

pub lower_none : (index : ℕ → List Entry) (d e : ℕ) (root : List Entry) (freed : List ℕ) → d ≡ e → length root ≡ 256 → AreLower index d e root root freed freed
lower_none index d e root freed is len = subst (λ (k : ℕ). AreLower index d k root root freed freed) is (record { len = len; trees = λ n le h. h; blocks = λ n le h k lt. refl; indexes = λ n le h s. refl })

span_mono : (a b : ℕ) → a ≤ b → 512 ^ a ≤ 512 ^ b
span_mono a zero le = let zero_a : a ≡ 0 = omega arith in omega (arith, ap (λ (n : ℕ). 512 ^ n) zero_a)
span_mono a (suc b) le =
    elim (cases_lt a (suc b)) [
      | inl less ↦ omega (arith, span_mono a b (omega arith), pow-suc 512 b)
      | inr all ↦ let same : a ≡ suc b = omega arith in omega (arith, ap (λ (n : ℕ). 512 ^ n) same)
    ]

pub lower_room : (n a b : ℕ) → n ≤ 256 * 512 ^ a → a ≤ b → n ≤ 256 * 512 ^ b
lower_room n a b le up = omega (arith, span_mono a b up)

pub lower_more : (index : ℕ → List Entry) (c d e : ℕ) (root below new : List Entry) (before mid after : List ℕ) → e ≤ d → AreLower index c d root below before mid → AreLower index d e below new mid after → AreLower index c e root new before after
lower_more index c d e root below new before mid after le first second = record {
  len = second.len;
  trees = λ n few h. second.trees n few (first.trees n (lower_room n e d few le) h);
  blocks = λ n few h k lt. second.blocks n few (first.trees n (lower_room n e d few le) h) k lt ∙ first.blocks n (lower_room n e d few le) h k lt;
  indexes = λ n few h s. omega (arith, second.indexes n few (first.trees n (lower_room n e d few le) h) s, first.indexes n (lower_room n e d few le) h s);
}

-- ---- as code finds them

pub tail_slice : (index : ℕ → List Entry) (e k : ℕ) (xs found : List Entry) (before mid : List ℕ) → found ≡ xs → mid ≡ before ++ indexes_in index e (take (length found - k) (drop k found)) → mid ≡ before ++ indexes_in index e (drop k xs)
tail_slice index e k xs found before mid is back =
    let all : take (length found - k) (drop k found) ≡ drop k found = take_all (length found - k) (drop k found) (omega (arith, length-drop k found)) in
    back ∙ ap (λ (zs : List Entry). before ++ indexes_in index e zs) (all ∙ ap (drop k) is)

pub tail_trees : (index : ℕ → List Entry) (e k : ℕ) (xs found : List Entry) → found ≡ xs → AreSomeTrees index e (drop k xs) → AreSomeTrees index e (take (length found - k) (drop k found))
tail_trees index e k xs found is h =
    let all : take (length found - k) (drop k found) ≡ drop k found = take_all (length found - k) (drop k found) (omega (arith, length-drop k found)) in
    subst (AreSomeTrees index e) (sym (all ∙ ap (drop k) is)) h

module _ (index : ℕ → List Entry) (e i : ℕ) (xs : List Entry) (trees : AreSomeTrees index e xs) (lt : i < length xs) where
  pub one_here : get_or xs i hole ≡ get_or xs i (get_or xs i hole)
  one_here = get_or_default xs i hole (get_or xs i hole) lt

  some_at : IsSomeTree index e (get_or xs i hole)
  some_at = (min (trees.0 - 512 ^ e * i) (512 ^ e), at_count (IsTree index e) (512 ^ e) trees.0 xs i hole trees.1 lt)

  pub some_above : is_index (get_or xs i hole) ≡ true → 0 < e
  some_above test = index_above index e (get_or xs i hole) some_at test

  pub some_below : (found : List Entry) → is_index (get_or xs i hole) ≡ true → found ≡ index (get_or xs i hole).sector → AreSomeTrees index (e - 1) found
  some_below found test is = let b : AreBelow index e (e - 1) (get_or xs i hole) = below index e (e - 1) (get_or xs i hole) some_at test refl in subst (AreSomeTrees index (e - 1)) (sym is) b.trees

-- what a call below requires, of a copy
pub moved_requires : (index : ℕ → List Entry) (d keep : ℕ) (copy xs : List Entry) → copy ≡ xs → (n : ℕ) × ((keep ≤ n) × AreTrees index d n xs) → AreDistinct (indexes_in index d xs) → keep ≤ 512 ^ d * length xs
    → ((n : ℕ) × ((keep ≤ n) × AreTrees index d n copy)) × AreDistinct (indexes_in index d copy) × (keep ≤ 512 ^ d * length copy)
moved_requires index d keep copy xs is trees once long = (
  (trees.0, (trees.1.0, subst (AreTrees index d trees.0) (sym is) trees.1.1)),
  λ s. omega (arith, once s, ap (λ (zs : List Entry). times s (indexes_in index d zs)) is),
  subst (λ (zs : List Entry). keep ≤ 512 ^ d * length zs) (sym is) long,
)

pub forget_more : (index mid other : ℕ → List Entry) (xs : List ℕ) (i d : ℕ) → AreKept index mid (take i xs) → i < length xs → ((s : ℕ) → s ≢ get_or xs i d → other s ≡ mid s) → AreKept index other (take (i + 1) xs)
forget_more index mid other xs i d far lt same s none =
    let all : times s (take (i + 1) xs) ≡ times s (take i xs) + times s (get_or xs i d ∷ []) = ap (times s) (take_more xs i d lt) ∙ times-append s (take i xs) (get_or xs i d ∷ []) in
    let apart : s ≢ get_or xs i d = λ is. absurd (omega (arith, times-first s [], ap (λ (n : ℕ). times s (n ∷ [])) is)) in
    same s apart ∙ far s (omega arith)

-- ---- the file

pub record IsHeld (index : ℕ → List Entry) (b c : ℕ) (root : List Entry) (seen : Blocks) : Type 0 where
  pub is : IsRoot index b root
  pub small : b ≤ 2 ^ 28
  pub once : AreDistinct (file_indexes index b root)
  pub view_is : blocks_by index b root ≡ seen
  pub le : c ≤ length seen.sectors

module _ (index : ℕ → List Entry) (b c : ℕ) (root : List Entry) (seen : Blocks) (h : IsHeld index b c root seen) where
  pub held_le : c ≤ b
  held_le = omega (arith, h.le, count_is index b root seen h.is h.small h.view_is)

  pub held_spans : c ≤ 256 * 512 ^ depth_of c
  held_spans = (least c (omega (arith, held_le, h.small))).spans

  pub held_depth : (d e : ℕ) → d ≡ depth_of b → e ≡ depth_of c → e ≤ d
  held_depth d e low up =
      let few : depth_of c ≤ depth_of b = (least c (omega (arith, held_le, h.small))).least (depth_of b) (omega (arith, held_le, (least b h.small).spans)) in
      omega arith

  pub held_trees : (d : ℕ) → d ≡ depth_of b → (n : ℕ) × ((c ≤ n) × AreTrees index d n root)
  held_trees d is = (b, (held_le, subst (λ (k : ℕ). AreTrees index k b root) (sym is) h.is.each))

  pub held_once : (d : ℕ) → d ≡ depth_of b → AreDistinct (indexes_in index d root)
  held_once d is = subst (λ (k : ℕ). AreDistinct (indexes_in index k root)) (sym is) h.once

  pub held_long : (d : ℕ) → d ≡ depth_of b → c ≤ 512 ^ d * length root
  held_long d is =
      let many : 512 ^ d * length root ≡ 512 ^ depth_of b * 256 = ap₂ (λ (k n : ℕ). 512 ^ k * n) is h.is.len in
      omega (arith, held_le, (least b h.small).spans)

  module _ (mid : ℕ → List Entry) (d : ℕ) (made : List Entry) (f1 : List ℕ) (is : d ≡ depth_of b) (cut : AreCut index mid d c root made [] f1) where
    made_trees : AreTrees mid d c made
    made_trees = cut.trees b held_le (subst (λ (k : ℕ). AreTrees index k b root) (sym is) h.is.each)

    pub made_root : (e : ℕ) → e ≡ depth_of c → (n : ℕ) × ((n ≤ 256 * 512 ^ e) × AreTrees mid d n made)
    made_root e low = (c, (subst (λ (k : ℕ). c ≤ 256 * 512 ^ k) (sym low) held_spans, made_trees))

    pub made_len : length made ≡ 256
    made_len = cut.len ∙ h.is.len

    module _ (other : ℕ → List Entry) (e : ℕ) (new : List Entry) (f2 : List ℕ) (low : e ≡ depth_of c) (lower : AreLower mid d e made new f1 f2) (kept : AreKept mid other f2) where
      room : c ≤ 256 * 512 ^ e
      room = subst (λ (k : ℕ). c ≤ 256 * 512 ^ k) (sym low) held_spans

      new_trees : AreTrees mid e c new
      new_trees = lower.trees c room made_trees

      new_count : (s : ℕ) → times s (indexes_in mid e new) + times s f2 ≡ times s (file_indexes index b root)
      new_count s =
          let old : times s (indexes_in index d root) ≡ times s (file_indexes index b root) = ap (λ (k : ℕ). times s (indexes_in index k root)) is in
          omega (arith, lower.indexes c room made_trees s, cut.indexes s)

      new_same : AreSameAt mid other (indexes_in mid e new)
      new_same = same_where mid other (indexes_in mid e new) (λ s some. kept s (omega (arith, new_count s, h.once s)))

      new_root : IsRoot other c new
      new_root = record { len = lower.len; each = subst (λ (k : ℕ). AreTrees other k c new) low (same_trees mid other e c new new_trees new_same) }

      new_indexes : (s : ℕ) → times s (file_indexes other c new) ≡ times s (indexes_in mid e new)
      new_indexes s = ap (λ (k : ℕ). times s (indexes_in other k new)) (sym low) ∙ ap (times s) (same_indexes_in mid other e new new_same)

      pub cut_invariant : IsRoot other c new × (c ≤ 2 ^ 28) × AreDistinct (file_indexes other c new)
      cut_invariant = (new_root, omega (arith, held_le, h.small), λ s. omega (arith, new_indexes s, new_count s, h.once s))

      pub cut_indexes : (s : ℕ) → times s (file_indexes other c new) + times s f2 ≡ times s seen.indexes
      cut_indexes s = omega (arith, new_indexes s, new_count s, ap (λ (x : Blocks). times s x.indexes) h.view_is)

      pub cut_kept : (changed : List ℕ) → AreKept index mid changed → AreKept (held_entries seen) (held_entries (blocks_by other c new)) (changed ++ f2)
      cut_kept changed first =
          let old : List ℕ = file_indexes index b root in
          let all : AreKept (content_in old (map index old)) (held_entries (blocks_by other c new)) (changed ++ f2) =
          kept_contents index other old (file_indexes other c new) (changed ++ f2) (λ s none. omega (arith, new_indexes s, new_count s, times-append s changed f2)) (λ s none some. kept s (omega (arith, times-append s changed f2)) ∙ first s (omega (arith, times-append s changed f2))) in
          subst (λ (x : Blocks). AreKept (held_entries x) (held_entries (blocks_by other c new)) (changed ++ f2)) h.view_is all

      new_blocks : (k : ℕ) → k < c → get_or (blocks_in other (depth_of c) new) k None ≡ get_or (blocks_in index (depth_of b) root) k None
      new_blocks k lt =
          let trees : AreTrees index d b root = subst (λ (j : ℕ). AreTrees index j b root) (sym is) h.is.each in
          ap (λ (j : ℕ). get_or (blocks_in other j new) k None) (sym low) ∙ ap (λ (zs : List (Option ℕ)). get_or zs k None) (same_blocks_in mid other e new new_same)
          ∙ lower.blocks c room made_trees k lt ∙ cut.blocks b held_le trees k lt ∙ ap (λ (j : ℕ). get_or (blocks_in index j root) k None) is

      pub cut_sectors : file_blocks other c new ≡ take c seen.sectors
      cut_sectors =
          let long : length (file_blocks other c new) ≡ c = length-file_blocks other c new new_root (omega (arith, held_le, h.small)) in
          let short : length (take c seen.sectors) ≡ c = length-take-le c seen.sectors h.le in
          ext_get_or None (file_blocks other c new) (take c seen.sectors) (long ∙ sym short)
          (λ k less.
          let lt : k < c = omega arith in
          let within : k < b = omega (arith, held_le) in
          get_or-take c (blocks_in other (depth_of c) new) k None lt ∙ new_blocks k lt ∙ sym (get_or-take b (blocks_in index (depth_of b) root) k None within)
          ∙ ap (λ (x : Blocks). get_or x.sectors k None) h.view_is ∙ sym (get_or-take c seen.sectors k None lt))

-- one change after another
pub kept_twice : (index mid other : ℕ → List Entry) (first second : List ℕ) → AreKept index mid first → AreKept mid other second → ((s : ℕ) → times s first ≤ times s second) → AreKept index other second
kept_twice index mid other first second before after grows s none = after s none ∙ before s (omega (arith, grows s))

pub kept_push : (index other : ℕ → List Entry) (sector : ℕ) (first second : List ℕ) → second ≡ first ++ sector ∷ [] → ((s : ℕ) → s ≢ sector → other s ≡ index s) → AreKept index other second
kept_push index other sector first second is same s none =
    let all : times s second ≡ times s first + times s (sector ∷ []) = ap (times s) is ∙ times-append s first (sector ∷ []) in
    same s (λ e. absurd (omega (arith, times-first s [], ap (λ (n : ℕ). times s (n ∷ [])) e)))

pub push_grows : (sector : ℕ) (first second : List ℕ) → second ≡ first ++ sector ∷ [] → (s : ℕ) → times s first ≤ times s second
push_grows sector first second is s = omega (arith, ap (times s) is, times-append s first (sector ∷ []))

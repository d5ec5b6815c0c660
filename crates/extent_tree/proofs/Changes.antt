-- A block gets a sector.
use Rattle.std.proofs.Common.{◌≡◌, ◌≢◌, ◌<◌, ◌≤◌, ◌+◌, ◌-◌, ◌*◌, ◌/◌, ◌%◌, ◌^◌, ℕ, zero, suc, true, false, List, [], ◌∷◌, ◌++◌, Option, Some, None, Result, Ok, Err, IfOk, OnOk, OnErr, is_some, length, get_or, map, set, take, replicate, min, refl, sym, ap, ap₂, ◌∙◌, subst, arith, inl, inr}
use Rattle.std.proofs.Math.Nat.{pow-suc, div-add-mod}
use Rattle.std.proofs.Math.Seq.{take-set-lt}
use Rattle.std.proofs.lemmas.Bool.{cases_eq, cases_lt, false≢true}
use Rattle.std.proofs.lemmas.Nat.{mod_below}
use Rattle.std.proofs.lemmas.List.{ext_get_or, get_or_default, length-set, get_or-set_same, get_or-set_other, set-get_or, set-append_left, set-append_right}
use Rattle.extent_tree.specs.declared.entry.Entry.{Entry}
use Rattle.extent_tree.specs.declared.setting.Touched.{Touched}
use Rattle.extent_tree.specs.Entries.{IsEntry}
use Rattle.extent_tree.specs.Depth.{depth_of}
use Rattle.extent_tree.specs.Held.{hole, Blocks, blocks_by}
use Rattle.extent_tree.specs.Tree.{is_index, run_of, blocks_of, blocks_in, indexes_of, indexes_in, AreTrees, AreSomeTrees, HasBlock, IsRoot, file_blocks, file_indexes}
use Rattle.extent_tree.specs.Setting.{times, AreDistinct, AreFresh, AreSpare, AreKept, AreParts, IsRun, IsRunSet, IsBlockSet, AreBlocksSet}
use Rattle.extent_tree.proofs.Charges.{span_pos}
use Rattle.extent_tree.proofs.Depths.{span_small}
use Rattle.extent_tree.proofs.Counts.{times-append, times-first, times-other, times-take, times-part, same_where, apart_by}
use Rattle.extent_tree.proofs.Frames.{blocks-index, indexes-index, AreSameAt, same_blocks, same_blocks_in, same_indexes, same_indexes_in, same_tree, same_trees}
use Rattle.extent_tree.proofs.Growing.{index_test, not_index, entry_count}
use Rattle.extent_tree.proofs.Parts.{part_run, part_is, parts_indexes, parts_trees, parts_blocks, no_indexes_of, run_yes, run_no}
use Rattle.extent_tree.proofs.Shapes.{is_entry, length-run, length-blocks_of, length-blocks_in, blocks-run, place_in, place_below, tree_here, index_above, IsSomeTree, AreBelow, below, no_indexes, count_is, root_trees, root_within}
use Rattle.extent_tree.proofs.Trees.{tree_plain}

-- ---- an extent

-- it is no longer than some bound that its place is below
no_longer : (most place sector : ℕ) (entry new : Entry) → IsRunSet entry place sector new → place < most → entry.length ≤ most → new.length ≤ most
no_longer most place sector entry new made lt le =
    elim (cases_lt most new.length) [
      | inl more ↦ let in_old : most < entry.length = made.others most (omega arith) more in absurd (omega arith)
      | inr less ↦ less
    ]

set_run : (e place sector : ℕ) (entry new : Entry) → IsRun e entry → IsRunSet entry place sector new → place < 512 ^ e → run_of (512 ^ e) new ≡ set (run_of (512 ^ e) entry) place (Some sector)
set_run e place sector entry new run made lt =
    let long : new.length ≤ 512 ^ e = no_longer (512 ^ e) place sector entry new made lt run.span in
    let new_len : length (run_of (512 ^ e) new) ≡ 512 ^ e = length-run (512 ^ e) new long in
    let old_len : length (run_of (512 ^ e) entry) ≡ 512 ^ e = length-run (512 ^ e) entry run.span in
    ext_get_or None (run_of (512 ^ e) new) (set (run_of (512 ^ e) entry) place (Some sector)) (new_len ∙ sym (length-set (run_of (512 ^ e) entry) place (Some sector) ∙ old_len))
    (λ k within.
    elim (cases_eq k place) [
      | inl here ↦
          let found : Option ℕ = Some sector in
          let inside : place < length (run_of (512 ^ e) entry) = omega arith in
          ap (λ (n : ℕ). get_or (run_of (512 ^ e) new) n None) here ∙ run_yes (512 ^ e) place new made.some ∙ ap (λ (n : ℕ). Some n) made.here
          ∙ sym (ap (λ (n : ℕ). get_or (set (run_of (512 ^ e) entry) place (Some sector)) n None) here ∙ get_or-set_same (run_of (512 ^ e) entry) place found None inside)
      | inr apart ↦
          elim (cases_lt k entry.length) [
            | inl less ↦
                let first : new.sector ≡ entry.sector = made.same k apart less in
                run_yes (512 ^ e) k new (omega (arith, made.least)) ∙ ap (λ (n : ℕ). Some (n + k)) first ∙ sym (run_yes (512 ^ e) k entry less)
                ∙ sym (get_or-set_other (run_of (512 ^ e) entry) place k (Some sector) None apart)
            | inr past ↦
                let none : new.length ≤ k =
                elim (cases_lt k new.length) [ inl more ↦ let old : k < entry.length = made.others k apart more in absurd (omega arith) | inr le ↦ le ] in
                run_no (512 ^ e) k new none ∙ sym (run_no (512 ^ e) k entry past) ∙ sym (get_or-set_other (run_of (512 ^ e) entry) place k (Some sector) None apart)
          ]
    ])

module _ (index other : ℕ → List Entry) (e place sector : ℕ) (entry new : Entry) (run : IsRun e entry) (made : IsRunSet entry place sector new) (lt : place < 512 ^ e) where
  new_whole : is_index new ≡ false
  new_whole = not_index new (omega (arith, made.some))

  pub in_run : IsBlockSet index other e place sector entry new []
  in_run = record {
    tree =
        λ n below h.
        let count : entry.length ≤ n = entry_count e n entry (is_entry index e n entry h) in
        let is : IsEntry e n new = inr (inr (record {
          sector = made.used;
          fits = made.fits;
          some = omega (arith, made.some);
          span = no_longer (512 ^ e) place sector entry new made lt run.span;
          within = no_longer n place sector entry new made below count;
        })) in
        tree_plain other e n new is new_whole;
    blocks =
        λ n h.
        blocks-run other e new new_whole ∙ set_run e place sector entry new run made lt
        ∙ ap (λ (xs : List (Option ℕ)). set xs place (Some sector)) (sym (blocks-run index e entry run.whole));
    indexes =
        λ s.
        let none : times s (indexes_of other e new) ≡ 0 = ap (times s) (no_indexes_of other e new new_whole) in
        let old : times s (indexes_of index e entry) ≡ 0 = ap (times s) (no_indexes_of index e entry run.whole) in
        omega arith;
  }

-- ---- the entry among others

-- index sectors change that an entry does not have
pub set_apart : (index mid other : ℕ → List Entry) (e j sector : ℕ) (entry new : Entry) (taken : List ℕ) → IsBlockSet index mid e j sector entry new taken → AreSameAt mid other (indexes_of mid e new) → IsBlockSet index other e j sector entry new taken
set_apart index mid other e j sector entry new taken made same = record {
  tree = λ n below h. same_tree mid other e n new (made.tree n below h) same;
  blocks = λ n h. same_blocks mid other e new same ∙ made.blocks n h;
  indexes = λ s. ap (times s) (same_indexes mid other e new same) ∙ made.indexes s;
}

module _ (index other : ℕ → List Entry) (e j sector : ℕ) (new : Entry) (taken : List ℕ) (d : Entry) (lt : j < 512 ^ e) where
  -- the index sectors of other entries than this one keep theirs
  abbrev pub KeepsOthers : List Entry → ℕ → Type 0
  KeepsOthers xs i = (s : ℕ) → times s (indexes_of index e (get_or xs i d)) < times s (indexes_in index e xs) → other s ≡ index s

  pub in_entries : (xs : List Entry) (i : ℕ) → i < length xs → IsBlockSet index other e j sector (get_or xs i d) new taken → KeepsOthers xs i → AreBlocksSet index other e (512 ^ e * i + j) sector xs (set xs i new) taken
  in_entries [] i within made keeps = absurd (omega arith)
  in_entries (x ∷ xs) zero within made keeps =
      let same : AreSameAt index other (indexes_in index e xs) = same_where index other (indexes_in index e xs) (λ s some. keeps s (omega (arith, times-append s (indexes_of index e x) (indexes_in index e xs)))) in
      let here : j ≡ 512 ^ e * 0 + j = omega arith in
      record {
        len = refl;
        trees = λ n below h. (made.tree (min n (512 ^ e)) (omega arith) h.0, same_trees index other e (n - 512 ^ e) xs h.1 same);
        blocks =
            λ n h.
            let long : length (blocks_of index e x) ≡ 512 ^ e = length-blocks_of index e (min n (512 ^ e)) x h.0 in
            ap₂ (λ (a b : List (Option ℕ)). a ++ b) (made.blocks (min n (512 ^ e)) h.0) (same_blocks_in index other e xs same)
            ∙ sym (set-append_left (blocks_of index e x) (blocks_in index e xs) j (Some sector) (omega arith))
            ∙ ap (λ (k : ℕ). set (blocks_of index e x ++ blocks_in index e xs) k (Some sector)) here;
        indexes =
            λ s.
            let first : times s (indexes_of other e new) ≡ times s (indexes_of index e x) + times s taken = made.indexes s in
            let rest : times s (indexes_in other e xs) ≡ times s (indexes_in index e xs) = ap (times s) (same_indexes_in index other e xs same) in
            omega (arith, times-append s (indexes_of other e new) (indexes_in other e xs), times-append s (indexes_of index e x) (indexes_in index e xs));
      }
  in_entries (x ∷ xs) (suc i) within made keeps =
      let less : i < length xs = omega arith in
      let rest : AreBlocksSet index other e (512 ^ e * i + j) sector xs (set xs i new) taken =
      in_entries xs i less made (λ s more. keeps s (omega (arith, times-append s (indexes_of index e x) (indexes_in index e xs)))) in
      let same : AreSameAt index other (indexes_of index e x) =
      same_where index other (indexes_of index e x)
      (λ s some. keeps s (omega (arith, times-append s (indexes_of index e x) (indexes_in index e xs), times-part (indexes_of index e) s xs i d less))) in
      record {
        len = omega (arith, rest.len);
        trees = λ n below h. (same_tree index other e (min n (512 ^ e)) x h.0 same, rest.trees (n - 512 ^ e) (omega arith) h.1);
        blocks =
            λ n h.
            let long : length (blocks_of index e x) ≡ 512 ^ e = length-blocks_of index e (min n (512 ^ e)) x h.0 in
            let there : 512 ^ e * suc i + j - 512 ^ e ≡ 512 ^ e * i + j = omega arith in
            ap₂ (λ (a b : List (Option ℕ)). a ++ b) (same_blocks index other e x same) (rest.blocks (n - 512 ^ e) h.1)
            ∙ sym (set-append_right (blocks_of index e x) (blocks_in index e xs) (512 ^ e) (512 ^ e * suc i + j) (Some sector) long (omega arith)
            ∙ ap (λ (k : ℕ). blocks_of index e x ++ set (blocks_in index e xs) k (Some sector)) there);
        indexes =
            λ s.
            let first : times s (indexes_of other e x) ≡ times s (indexes_of index e x) = ap (times s) (same_indexes index other e x same) in
            omega (arith, times-append s (indexes_of other e x) (indexes_in other e (set xs i new)), times-append s (indexes_of index e x) (indexes_in index e xs), rest.indexes s);
      }

-- ---- the entry above

has_set : (xs : List (Option ℕ)) (k sector : ℕ) → k < length xs → HasBlock (set xs k (Some sector))
has_set xs k sector lt = let found : Option ℕ = Some sector in (k, ap is_some (get_or-set_same xs k found None lt))

has_here : (index other : ℕ → List Entry) (e n k sector : ℕ) (xs new : List Entry) (taken : List ℕ) → AreBlocksSet index other e k sector xs new taken → AreTrees index e n xs → k < 512 ^ e * length xs → HasBlock (blocks_in other e new)
has_here index other e n k sector xs new taken made h lt =
    let long : length (blocks_in index e xs) ≡ 512 ^ e * length xs = length-blocks_in index e n xs h in
    subst HasBlock (sym (made.blocks n h)) (has_set (blocks_in index e xs) k sector (omega arith))

whole_span : (e k : ℕ) (xs : List Entry) → length xs ≡ 512 → k < 512 ^ suc e → k < 512 ^ e * length xs
whole_span e k xs len lt =
    let wide : 512 ^ suc e ≡ 512 ^ e * 512 = pow-suc 512 e in
    let many : 512 ^ e * length xs ≡ 512 ^ e * 512 = ap (λ (n : ℕ). 512 ^ e * n) len in
    omega arith

-- that of an index sector stays
pub in_index : (index other : ℕ → List Entry) (e k sector : ℕ) (x : Entry) (taken : List ℕ) → is_index x ≡ true → k < 512 ^ suc e → AreBlocksSet index other e k sector (index x.sector) (other x.sector) taken → IsBlockSet index other (suc e) k sector x x taken
in_index index other e k sector x taken test lt made = record {
  tree =
      λ n below h. (
        h.0,
        λ yes_index. record {
          len = made.len ∙ (h.1 test).len;
          each = made.trees n below (h.1 test).each;
          some = has_here index other e n k sector (index x.sector) (other x.sector) taken made (h.1 test).each (whole_span e k (index x.sector) (h.1 test).len lt);
        },
      );
  blocks =
      λ n h.
      blocks-index other e x test ∙ made.blocks n (h.1 test).each ∙ ap (λ (xs : List (Option ℕ)). set xs k (Some sector)) (sym (blocks-index index e x test));
  indexes =
      λ s.
      let new : times s (indexes_of other (suc e) x) ≡ times s (x.sector ∷ indexes_in other e (other x.sector)) = ap (times s) (indexes-index other e x test) in
      let old : times s (indexes_of index (suc e) x) ≡ times s (x.sector ∷ indexes_in index e (index x.sector)) = ap (times s) (indexes-index index e x test) in
      omega (arith, made.indexes s);
}

-- one without becomes that of a new one
pub in_fresh : (index other : ℕ → List Entry) (e k sector own : ℕ) (x : Entry) (parts : List Entry) (taken : List ℕ) → IsRun (suc e) x → AreParts e x parts → 0 < own → own < 2 ^ 32 → k < 512 ^ suc e → AreBlocksSet index other e k sector parts (other own) taken
    → IsBlockSet index other (suc e) k sector x (record { sector = own; length = 0 }) (own ∷ taken)
in_fresh index other e k sector own x parts taken run are used fits lt made =
    let new : Entry = record { sector = own; length = 0 } in
    let test : is_index new ≡ true = index_test new used refl in
    record {
      tree =
          λ n below h.
          let count : x.length ≤ n = entry_count (suc e) n x (is_entry index (suc e) n x h) in
          let old = parts_trees index e x parts run are n count in
          let few : 0 < n = omega arith in (
            inr (inl (record { above = omega arith; sector = used; fits = fits; length = refl; some = few })),
            λ yes_index. record {
              len = made.len ∙ are.len;
              each = made.trees n below old;
              some = has_here index other e n k sector parts (other own) taken made old (whole_span e k parts are.len lt);
            },
          );
      blocks =
          λ n h.
          let count : x.length ≤ n = entry_count (suc e) n x (is_entry index (suc e) n x h) in
          blocks-index other e new test ∙ made.blocks n (parts_trees index e x parts run are n count)
          ∙ ap (λ (xs : List (Option ℕ)). set xs k (Some sector)) (parts_blocks index e x parts run are ∙ sym (blocks-run index (suc e) x run.whole));
      indexes =
          λ s.
          let all : times s (indexes_of other (suc e) new) ≡ times s (own ∷ indexes_in other e (other own)) = ap (times s) (indexes-index other e new test) in
          let none : times s (indexes_of index (suc e) x) ≡ 0 = ap (times s) (no_indexes_of index (suc e) x run.whole) in
          let parts_none : times s (indexes_in index e parts) ≡ 0 = ap (times s) (parts_indexes index e x parts run are) in
          omega (arith, made.indexes s);
    }

-- ---- an entry that is split

-- the spare sector `own` gets the parts of an entry, one of which got the block
pub record IsSplit (index mid other : ℕ → List Entry) (e d place w sector own taken : ℕ) (x new : Entry) (parts : List Entry) (spare others : List ℕ) : Type 0 where
  pub run : IsRun e x
  pub low : e ≡ suc d
  pub within : place < 512 ^ e
  pub span : w ≡ 512 ^ d
  pub are : AreParts d x parts
  pub inner : IsBlockSet index mid d (place % w) sector (get_or parts (place / w) hole) new (take taken others)
  pub kept : AreKept index mid others
  pub spare_is : spare ≡ own ∷ others
  pub are_spare : AreSpare spare []
  pub fits : own < 2 ^ 32
  pub there : other own ≡ set parts (place / w) new
  pub same : (s : ℕ) → s ≢ own → other s ≡ mid s

module _ (index mid other : ℕ → List Entry) (e d place w sector own taken : ℕ) (x new : Entry) (parts : List Entry) (spare others : List ℕ) (h : IsSplit index mid other e d place w sector own taken x new parts spare others) where
  split_run : IsRun (suc d) x
  split_run = subst (λ (n : ℕ). IsRun n x) h.low h.run

  split_within : place < 512 ^ suc d
  split_within = subst (λ (n : ℕ). place < 512 ^ n) h.low h.within

  split_spare : AreSpare (own ∷ others) []
  split_spare = subst (λ (xs : List ℕ). AreSpare xs []) h.spare_is h.are_spare

  own_once : times own others ≡ 0
  own_once = omega (arith, split_spare.once own, times-first own others)

  split_at : place / w < 512
  split_at =
      let trees : AreSomeTrees index d parts = (x.length, parts_trees index d x parts split_run h.are x.length (omega arith)) in
      let at : place / w < length parts = place_in index d place w parts trees h.span (whole_span d place parts h.are.len split_within) in
      omega (arith, h.are.len)

  part_none : (s : ℕ) → times s (indexes_of index d (get_or parts (place / w) hole)) ≡ 0
  part_none s = ap (times s) (no_indexes_of index d (get_or parts (place / w) hole) (part_is index d x parts split_run h.are (place / w) hole split_at))

  apart_from_own : AreSameAt mid other (indexes_of mid d new)
  apart_from_own =
      same_where mid other (indexes_of mid d new)
      (λ s some. let here : 0 < times s others = omega (arith, h.inner.indexes s, part_none s, times-take s taken others) in
      h.same s (apart_by s own others here own_once))

  parts_set : AreBlocksSet index other d (512 ^ d * (place / w) + place % w) sector parts (set parts (place / w) new) (take taken others)
  parts_set =
      let pos : 0 < w = omega (arith, span_pos d, h.span) in
      let low : place % w < 512 ^ d = omega (arith, mod_below place w pos, h.span) in
      let none : (s : ℕ) → times s (indexes_in index d parts) ≡ 0 = λ s. ap (times s) (parts_indexes index d x parts split_run h.are) in
      in_entries index other d (place % w) sector new (take taken others) hole low parts (place / w) (omega (arith, split_at, h.are.len))
      (set_apart index mid other d (place % w) sector (get_or parts (place / w) hole) new (take taken others) h.inner apart_from_own)
      (λ s more. absurd (omega (arith, none s)))

  own_set : AreBlocksSet index other d place sector parts (other own) (take taken others)
  own_set =
      let sum : 512 ^ d * (place / w) + place % w ≡ place = ap (λ (n : ℕ). n * (place / w) + place % w) (sym h.span) ∙ div-add-mod place w in
      let moved : AreBlocksSet index other d place sector parts (set parts (place / w) new) (take taken others) =
      subst (λ (k : ℕ). AreBlocksSet index other d k sector parts (set parts (place / w) new) (take taken others)) sum parts_set in
      subst (λ (xs : List Entry). AreBlocksSet index other d place sector parts xs (take taken others)) (sym h.there) moved

  pub split_set : IsBlockSet index other e place sector x (record { sector = own; length = 0 }) (take (taken + 1) spare)
  split_set =
      let more : taken + 1 ≡ suc taken = omega arith in
      let all : own ∷ take taken others ≡ take (taken + 1) spare = sym (ap (take (taken + 1)) h.spare_is ∙ ap (λ (n : ℕ). take n (own ∷ others)) more) in
      let entry : Entry = record { sector = own; length = 0 } in
      let made : IsBlockSet index other (suc d) place sector x entry (own ∷ take taken others) = in_fresh index other d place sector own x parts (take taken others) split_run h.are split_spare.used.0 h.fits split_within own_set in
      let here : IsBlockSet index other e place sector x entry (own ∷ take taken others) = subst (λ (n : ℕ). IsBlockSet index other n place sector x entry (own ∷ take taken others)) (sym h.low) made in
      subst (IsBlockSet index other e place sector x entry) all here

  pub split_kept : AreKept index other spare
  split_kept s none =
      let listed : times s (own ∷ others) ≡ 0 = ap (times s) (sym h.spare_is) ∙ none in
      let apart : s ≢ own = λ is. absurd (omega (arith, times-first s others, ap (λ (n : ℕ). times s (n ∷ others)) is)) in
      h.same s apart ∙ h.kept s (omega (arith, times-other s own others apart))

pub none_spare : (own : ℕ) (spare others : List ℕ) → spare ≡ own ∷ others → AreSpare spare [] → AreSpare others []
none_spare own spare others is h =
    let all : AreSpare (own ∷ others) [] = subst (λ (xs : List ℕ). AreSpare xs []) is h in
    record { used = all.used.1; once = λ s. omega (arith, all.once s) }

pub run_most : (e : ℕ) (entry : Entry) → e ≤ 3 → IsRun e entry → IsRun 3 entry
run_most e entry h run = record { whole = run.whole; used = run.used; span = omega (arith, run.span, span_small e h); fits = run.fits }

-- an extent of one block can have another sector
pub split_above : (e place : ℕ) (entry : Entry) → IsRun e entry → place < 512 ^ e → (place ≡ 0 → 1 < entry.length) → 0 < e
split_above zero place entry run lt more = absurd (omega (arith, more (omega arith), run.span))
split_above (suc e) place entry run lt more = omega arith

module _ (e d place w : ℕ) (x : Entry) (parts : List Entry) (run : IsRun e x) (above : 0 < e) (low : d ≡ e - 1) (lt : place < 512 ^ e) (span : w ≡ 512 ^ d) (are : AreParts d x parts) where
  up_one : e ≡ suc d
  up_one = omega arith

  pub part_within : place / w < 512
  part_within =
      let run' : IsRun (suc d) x = subst (λ (n : ℕ). IsRun n x) up_one run in
      let within : place < 512 ^ suc d = subst (λ (n : ℕ). place < 512 ^ n) up_one lt in
      let index : ℕ → List Entry = λ s. [] in
      let trees : AreSomeTrees index d parts = (x.length, parts_trees index d x parts run' are x.length (omega arith)) in
      let at : place / w < length parts = place_in index d place w parts trees span (whole_span d place parts are.len within) in
      omega (arith, are.len)

  pub part_low : place % w < 512 ^ d
  part_low = let pos : 0 < w = omega (arith, span_pos d) in omega (arith, mod_below place w pos)

  pub part_runs : (y : Entry) → y ≡ get_or parts (place / w) y → IsRun d y
  part_runs y is =
      let run' : IsRun (suc d) x = subst (λ (n : ℕ). IsRun n x) up_one run in
      subst (IsRun d) (sym (is ∙ are.each (place / w) y part_within)) (part_run d (512 ^ d * (place / w)) x run')

-- the i-th entry, whatever is past the last
pub at_default : (index mid : ℕ → List Entry) (d j sector : ℕ) (xs : List Entry) (i : ℕ) (new : Entry) (taken : List ℕ) (y : Entry) → i < length xs → y ≡ get_or xs i y → IsBlockSet index mid d j sector y new taken → IsBlockSet index mid d j sector (get_or xs i hole) new taken
at_default index mid d j sector xs i new taken y lt is h = subst (λ (x : Entry). IsBlockSet index mid d j sector x new taken) (is ∙ get_or_default xs i y hole lt) h

-- ---- below an index sector

pub run_entry : (e n : ℕ) (x : Entry) → IsEntry e n x → is_index x ≡ false → IsRun e x
run_entry e n x (inl is) test = record { whole = test; used = λ some. absurd (omega (arith, is.length)); span = omega (arith, is.length); fits = omega (arith, is.sector, is.length) }
run_entry e n x (inr (inl is)) test = absurd (false≢true (sym test ∙ index_test x is.sector is.length))
run_entry e n x (inr (inr is)) test = record { whole = test; used = λ some. is.sector; span = is.span; fits = is.fits }

pub spare_alone : (spare indexes : List ℕ) → AreSpare spare indexes → AreSpare spare []
spare_alone spare indexes h = record { used = h.used; once = λ s. omega (arith, h.once s) }

-- the entries of `own` have the block
pub record IsBelow (index : ℕ → List Entry) (e place w own : ℕ) (spare : List ℕ) (y : Entry) : Type 0 where
  pub trees : AreSomeTrees index e (index own)
  pub within : place < 512 ^ e * length (index own)
  pub span : w ≡ 512 ^ e
  pub are_spare : AreSpare spare (own ∷ indexes_in index e (index own))
  pub entry : y ≡ get_or (index own) (place / w) y

-- as code finds it
pub is_below : (index : ℕ → List Entry) (e place w own : ℕ) (spare : List ℕ) (found : List Entry) → found ≡ index own → AreSomeTrees index e (index own) → place < 512 ^ e * length (index own) → w ≡ 512 ^ e → AreSpare spare (own ∷ indexes_in index e (index own))
    → IsBelow index e place w own spare (get_or found (place / w) hole)
is_below index e place w own spare found is trees within span are_spare = record {
  trees = trees;
  within = within;
  span = span;
  are_spare = are_spare;
  entry =
      ap (λ (xs : List Entry). get_or xs (place / w) hole) is
      ∙ get_or_default (index own) (place / w) hole (get_or found (place / w) hole) (place_in index e place w (index own) trees span within);
}

module _ (index : ℕ → List Entry) (e place w own : ℕ) (spare : List ℕ) (y : Entry) (h : IsBelow index e place w own spare y) where
  pub below_at : place / w < length (index own)
  below_at = place_in index e place w (index own) h.trees h.span h.within

  pub below_low : place % w < 512 ^ e
  below_low = place_below index e place w (index own) h.trees h.span h.within

  below_tree : IsSomeTree index e y
  below_tree = subst (IsSomeTree index e) (sym h.entry) (tree_here index e place w (index own) h.trees h.span h.within y)

  pub below_run : is_index y ≡ false → IsRun e y
  below_run test = run_entry e below_tree.0 y (is_entry index e below_tree.0 y below_tree.1) test

  below_sum : 512 ^ e * (place / w) + place % w ≡ place
  below_sum = ap (λ (n : ℕ). n * (place / w) + place % w) (sym h.span) ∙ div-add-mod place w

  own_alone : times own (indexes_in index e (index own)) ≡ 0
  own_alone = omega (arith, h.are_spare.once own, times-first own (indexes_in index e (index own)))

  spare_apart : (s : ℕ) → 0 < times s spare → s ≢ own
  spare_apart s some is =
      let same : times s (own ∷ indexes_in index e (index own)) ≡ times own (own ∷ indexes_in index e (index own)) = ap (λ (n : ℕ). times n (own ∷ indexes_in index e (index own))) is in
      absurd (omega (arith, h.are_spare.once s, times-first own (indexes_in index e (index own))))

  part_few : (s : ℕ) → times s (indexes_of index e y) ≤ times s (indexes_in index e (index own))
  part_few s = subst (λ (x : Entry). times s (indexes_of index e x) ≤ times s (indexes_in index e (index own))) (sym h.entry) (times-part (indexes_of index e) s (index own) (place / w) y below_at)

  -- a change of the entry
  below_set : (other : ℕ → List Entry) (sector : ℕ) (new : Entry) (taken : List ℕ) → IsBlockSet index other e (place % w) sector y new taken → ((s : ℕ) → times s (indexes_of index e y) < times s (indexes_in index e (index own)) → other s ≡ index s)
      → AreBlocksSet index other e place sector (index own) (set (index own) (place / w) new) taken
  below_set other sector new taken made keeps =
      let made' = subst (λ (x : Entry). IsBlockSet index other e (place % w) sector x new taken) h.entry made in
      let keeps' = subst (λ (x : Entry). (s : ℕ) → times s (indexes_of index e x) < times s (indexes_in index e (index own)) → other s ≡ index s) h.entry keeps in
      subst (λ (k : ℕ). AreBlocksSet index other e k sector (index own) (set (index own) (place / w) new) taken) below_sum
      (in_entries index other e (place % w) sector new taken y below_low (index own) (place / w) below_at made' keeps')

  module _ (mid other : ℕ → List Entry) (sector taken : ℕ) (new : Entry) (test : is_index y ≡ false) (made : IsBlockSet index mid e (place % w) sector y new (take taken spare)) (kept : AreKept index mid spare) (there : other own ≡ set (mid own) (place / w) new)
      (same : (s : ℕ) → s ≢ own → other s ≡ mid s) where
    whole_none : (s : ℕ) → times s (indexes_of index e y) ≡ 0
    whole_none s = ap (times s) (no_indexes_of index e y test)

    mid_own : mid own ≡ index own
    mid_own = kept own (omega (arith, h.are_spare.once own, times-first own (indexes_in index e (index own))))

    plain_apart : AreSameAt mid other (indexes_of mid e new)
    plain_apart = same_where mid other (indexes_of mid e new) (λ s some. same s (spare_apart s (omega (arith, made.indexes s, whole_none s, times-take s taken spare))))

    plain_keeps : (s : ℕ) → times s (indexes_of index e y) < times s (indexes_in index e (index own)) → other s ≡ index s
    plain_keeps s more =
        let some : 0 < times s (indexes_in index e (index own)) = omega arith in
        let apart : s ≢ own = apart_by s own (indexes_in index e (index own)) some own_alone in
        same s apart ∙ kept s (omega (arith, h.are_spare.once s, times-other s own (indexes_in index e (index own)) apart))

    pub plain_set : AreBlocksSet index other e place sector (index own) (other own) (take taken spare)
    plain_set =
        let moved : set (index own) (place / w) new ≡ other own = ap (λ (xs : List Entry). set xs (place / w) new) (sym mid_own) ∙ sym there in
        subst (λ (xs : List Entry). AreBlocksSet index other e place sector (index own) xs (take taken spare)) moved
        (below_set other sector new (take taken spare) (set_apart index mid other e (place % w) sector y new (take taken spare) made plain_apart) plain_keeps)

    pub plain_kept : AreKept index other (own ∷ spare)
    plain_kept s none =
        let apart : s ≢ own = λ is. absurd (omega (arith, times-first own spare, ap (λ (n : ℕ). times n (own ∷ spare)) is)) in
        same s apart ∙ kept s (omega (arith, times-other s own spare apart))

pub own_listed : (own : ℕ) (xs : List ℕ) → 0 < times own (own ∷ xs)
own_listed own xs = omega (arith, times-first own xs)

-- an entry that has an index sector
module _ (index : ℕ → List Entry) (e d place w own : ℕ) (spare : List ℕ) (y : Entry) (h : IsBelow index e place w own spare y) (test : is_index y ≡ true) (is : d ≡ e - 1) where
  pub deep_above : 0 < e
  deep_above = index_above index e y (below_tree index e place w own spare y h) test

  deep_low : e ≡ suc d
  deep_low = omega (arith, deep_above)

  deep_indexes : indexes_of index e y ≡ y.sector ∷ indexes_in index d (index y.sector)
  deep_indexes = subst (λ (n : ℕ). indexes_of index n y ≡ y.sector ∷ indexes_in index d (index y.sector)) (sym deep_low) (indexes-index index d y test)

  deep_below : AreBelow index e d y
  deep_below = below index e d y (below_tree index e place w own spare y h) test is

  pub deep_trees : AreSomeTrees index d (index y.sector)
  deep_trees = deep_below.trees

  pub deep_within : place % w < 512 ^ d * length (index y.sector)
  deep_within = omega (arith, deep_below.span, below_low index e place w own spare y h)

  deep_few : (s : ℕ) → times s (y.sector ∷ indexes_in index d (index y.sector)) ≤ times s (indexes_in index e (index own))
  deep_few s = subst (λ (xs : List ℕ). times s xs ≤ times s (indexes_in index e (index own))) deep_indexes (part_few index e place w own spare y h s)

  pub deep_spare : AreSpare spare (y.sector ∷ indexes_in index d (index y.sector))
  deep_spare = record { used = h.are_spare.used; once = λ s. omega (arith, h.are_spare.once s, deep_few s) }

  module _ (other : ℕ → List Entry) (sector changed : ℕ) (taken : List ℕ) (made : AreBlocksSet index other d (place % w) sector (index y.sector) (other y.sector) taken) (kept : AreKept index other (changed ∷ spare))
      (some : 0 < times changed (y.sector ∷ indexes_in index d (index y.sector))) where
    deep_entry : IsBlockSet index other e (place % w) sector y y taken
    deep_entry =
        let low : place % w < 512 ^ suc d = subst (λ (n : ℕ). place % w < 512 ^ n) deep_low (below_low index e place w own spare y h) in
        subst (λ (n : ℕ). IsBlockSet index other n (place % w) sector y y taken) (sym deep_low) (in_index index other d (place % w) sector y taken test low made)

    pub deep_changed : 0 < times changed (own ∷ indexes_in index e (index own))
    deep_changed = omega (arith, some, deep_few changed)

    deep_keeps : (s : ℕ) → times s (indexes_of index e y) < times s (indexes_in index e (index own)) → other s ≡ index s
    deep_keeps s more =
        let same : times s (indexes_of index e y) ≡ times s (y.sector ∷ indexes_in index d (index y.sector)) = ap (times s) deep_indexes in
        let none : times s (y.sector ∷ indexes_in index d (index y.sector)) ≡ 0 = omega (arith, h.are_spare.once s) in
        let apart : s ≢ changed = λ e. apart_by changed s (y.sector ∷ indexes_in index d (index y.sector)) some none (sym e) in
        kept s (omega (arith, times-other s changed spare apart, h.are_spare.once s))

    deep_own : other own ≡ index own
    deep_own =
        let none : times own (y.sector ∷ indexes_in index d (index y.sector)) ≡ 0 = omega (arith, deep_few own, own_alone index e place w own spare y h) in
        let apart : own ≢ changed = λ e. apart_by changed own (y.sector ∷ indexes_in index d (index y.sector)) some none (sym e) in
        kept own (omega (arith, times-other own changed spare apart, h.are_spare.once own, times-first own (indexes_in index e (index own))))

    pub deep_set : AreBlocksSet index other e place sector (index own) (other own) taken
    deep_set =
        let back : set (index own) (place / w) y ≡ index own = ap (set (index own) (place / w)) h.entry ∙ set-get_or (index own) (place / w) y in
        subst (λ (xs : List Entry). AreBlocksSet index other e place sector (index own) xs taken) (back ∙ sym deep_own)
        (below_set index e place w own spare y h other sector y taken deep_entry deep_keeps)

    pub deep_kept : AreKept index other (changed ∷ spare) × (0 < times changed (own ∷ indexes_in index e (index own)))
    deep_kept = (kept, deep_changed)

-- what a call below returned
module _ (index other : ℕ → List Entry) (e d place w own sector : ℕ) (spare : List ℕ) (y : Entry) (h : IsBelow index e place w own spare y) (test : is_index y ≡ true) (is : d ≡ e - 1) where
  abbrev pub BelowOk : ℕ × ℕ → Type 0
  BelowOk done = AreBlocksSet index other d (place % w) sector (index y.sector) (other y.sector) (take done.1 spare)

  abbrev pub BelowKept : ℕ × ℕ → Type 0
  BelowKept done = AreKept index other (done.0 ∷ spare) × (0 < times done.0 (y.sector ∷ indexes_in index d (index y.sector)))

  pub below_ok : {E : Type 0} → (r : Result (ℕ × ℕ) E) → IfOk r BelowOk → IfOk r BelowKept → IfOk r (λ done. AreBlocksSet index other e place sector (index own) (other own) (take done.1 spare))
  below_ok (Ok done) made kept = deep_set index e d place w own spare y h test is other sector done.0 (take done.1 spare) made kept.0 kept.1
  below_ok (Err f) made kept = tt

  pub below_kept : {E : Type 0} → (r : Result (ℕ × ℕ) E) → IfOk r BelowOk → IfOk r BelowKept → IfOk r (λ done. AreKept index other (done.0 ∷ spare) × (0 < times done.0 (own ∷ indexes_in index e (index own))))
  below_kept (Ok done) made kept = deep_kept index e d place w own spare y h test is other sector done.0 (take done.1 spare) made kept.0 kept.1
  below_kept (Err f) made kept = tt

-- ---- below an inode

-- an entry of the inode has the block
pub record IsInRoot (index : ℕ → List Entry) (e place w : ℕ) (root : List Entry) (spare : List ℕ) (y : Entry) : Type 0 where
  pub trees : AreSomeTrees index e root
  pub within : place < 512 ^ e * length root
  pub span : w ≡ 512 ^ e
  pub are_spare : AreSpare spare (indexes_in index e root)
  pub entry : y ≡ get_or root (place / w) y

pub is_in_root : (index : ℕ → List Entry) (e place w : ℕ) (root : List Entry) (spare : List ℕ) (found : List Entry) → found ≡ root → AreSomeTrees index e root → place < 512 ^ e * length root → w ≡ 512 ^ e → AreSpare spare (indexes_in index e root)
    → IsInRoot index e place w root spare (get_or found (place / w) hole)
is_in_root index e place w root spare found is trees within span are_spare = record {
  trees = trees;
  within = within;
  span = span;
  are_spare = are_spare;
  entry =
      ap (λ (xs : List Entry). get_or xs (place / w) hole) is ∙ get_or_default root (place / w) hole (get_or found (place / w) hole) (place_in index e place w root trees span within);
}

module _ (index : ℕ → List Entry) (e place w : ℕ) (root : List Entry) (spare : List ℕ) (y : Entry) (h : IsInRoot index e place w root spare y) where
  pub root_at : place / w < length root
  root_at = place_in index e place w root h.trees h.span h.within

  pub root_low : place % w < 512 ^ e
  root_low = place_below index e place w root h.trees h.span h.within

  root_tree : IsSomeTree index e y
  root_tree = subst (IsSomeTree index e) (sym h.entry) (tree_here index e place w root h.trees h.span h.within y)

  pub root_run : is_index y ≡ false → IsRun e y
  root_run test = run_entry e root_tree.0 y (is_entry index e root_tree.0 y root_tree.1) test

  root_few : (s : ℕ) → times s (indexes_of index e y) ≤ times s (indexes_in index e root)
  root_few s = subst (λ (x : Entry). times s (indexes_of index e x) ≤ times s (indexes_in index e root)) (sym h.entry) (times-part (indexes_of index e) s root (place / w) y root_at)

  root_set : (other : ℕ → List Entry) (sector : ℕ) (new : Entry) (taken : List ℕ) → IsBlockSet index other e (place % w) sector y new taken → ((s : ℕ) → times s (indexes_of index e y) < times s (indexes_in index e root) → other s ≡ index s)
      → AreBlocksSet index other e place sector root (set root (place / w) new) taken
  root_set other sector new taken made keeps =
      let made' = subst (λ (x : Entry). IsBlockSet index other e (place % w) sector x new taken) h.entry made in
      let keeps' = subst (λ (x : Entry). (s : ℕ) → times s (indexes_of index e x) < times s (indexes_in index e root) → other s ≡ index s) h.entry keeps in
      let sum : 512 ^ e * (place / w) + place % w ≡ place = ap (λ (n : ℕ). n * (place / w) + place % w) (sym h.span) ∙ div-add-mod place w in
      subst (λ (k : ℕ). AreBlocksSet index other e k sector root (set root (place / w) new) taken) sum
      (in_entries index other e (place % w) sector new taken y root_low root (place / w) root_at made' keeps')

  pub root_plain : (other : ℕ → List Entry) (sector taken : ℕ) (new : Entry) → IsBlockSet index other e (place % w) sector y new (take taken spare) → AreKept index other spare → AreBlocksSet index other e place sector root (set root (place / w) new) (take taken spare)
  root_plain other sector taken new made kept = root_set other sector new (take taken spare) made (λ s more. kept s (omega (arith, h.are_spare.once s)))

module _ (index : ℕ → List Entry) (e d place w : ℕ) (root : List Entry) (spare : List ℕ) (y : Entry) (h : IsInRoot index e place w root spare y) (test : is_index y ≡ true) (is : d ≡ e - 1) where
  pub root_above : 0 < e
  root_above = index_above index e y (root_tree index e place w root spare y h) test

  up_low : e ≡ suc d
  up_low = omega (arith, root_above)

  up_indexes : indexes_of index e y ≡ y.sector ∷ indexes_in index d (index y.sector)
  up_indexes = subst (λ (n : ℕ). indexes_of index n y ≡ y.sector ∷ indexes_in index d (index y.sector)) (sym up_low) (indexes-index index d y test)

  up_below : AreBelow index e d y
  up_below = below index e d y (root_tree index e place w root spare y h) test is

  pub up_trees : AreSomeTrees index d (index y.sector)
  up_trees = up_below.trees

  pub up_within : place % w < 512 ^ d * length (index y.sector)
  up_within = omega (arith, up_below.span, root_low index e place w root spare y h)

  up_few : (s : ℕ) → times s (y.sector ∷ indexes_in index d (index y.sector)) ≤ times s (indexes_in index e root)
  up_few s = subst (λ (xs : List ℕ). times s xs ≤ times s (indexes_in index e root)) up_indexes (root_few index e place w root spare y h s)

  pub up_spare : AreSpare spare (y.sector ∷ indexes_in index d (index y.sector))
  up_spare = record { used = h.are_spare.used; once = λ s. omega (arith, h.are_spare.once s, up_few s) }

  pub up_set : (other : ℕ → List Entry) (sector changed : ℕ) (taken : List ℕ) → AreBlocksSet index other d (place % w) sector (index y.sector) (other y.sector) taken → AreKept index other (changed ∷ spare) → 0 < times changed (y.sector ∷ indexes_in index d (index y.sector))
      → AreBlocksSet index other e place sector root root taken
  up_set other sector changed taken made kept some =
      let low : place % w < 512 ^ suc d = subst (λ (n : ℕ). place % w < 512 ^ n) up_low (root_low index e place w root spare y h) in
      let entry : IsBlockSet index other e (place % w) sector y y taken = subst (λ (n : ℕ). IsBlockSet index other n (place % w) sector y y taken) (sym up_low) (in_index index other d (place % w) sector y taken test low made) in
      let back : set root (place / w) y ≡ root = ap (set root (place / w)) h.entry ∙ set-get_or root (place / w) y in
      subst (λ (xs : List Entry). AreBlocksSet index other e place sector root xs taken) back
      (root_set index e place w root spare y h other sector y taken entry
      (λ s more.
      let same : times s (indexes_of index e y) ≡ times s (y.sector ∷ indexes_in index d (index y.sector)) = ap (times s) up_indexes in
      let none : times s (y.sector ∷ indexes_in index d (index y.sector)) ≡ 0 = omega (arith, h.are_spare.once s) in
      let apart : s ≢ changed = λ q. apart_by changed s (y.sector ∷ indexes_in index d (index y.sector)) some none (sym q) in
      kept s (omega (arith, times-other s changed spare apart, h.are_spare.once s))))

-- ---- the file

module _ (index other : ℕ → List Entry) (b place sector : ℕ) (root new : List Entry) (taken : List ℕ) (is : IsRoot index b root) (made : AreBlocksSet index other (depth_of b) place sector root new taken) (lt : place < b) where
  pub set_is_root : IsRoot other b new
  set_is_root = record { len = made.len ∙ is.len; each = made.trees b lt is.each }

  pub set_sectors : file_blocks other b new ≡ set (file_blocks index b root) place (Some sector)
  set_sectors = ap (take b) (made.blocks b is.each) ∙ take-set-lt b (blocks_in index (depth_of b) root) place (Some sector) lt

  pub set_distinct : (spare : List ℕ) (n : ℕ) → taken ≡ take n spare → AreSpare spare (file_indexes index b root) → AreDistinct (file_indexes other b new)
  set_distinct spare n are h s = omega (arith, made.indexes s, h.once s, times-take s n spare, ap (times s) are)

map_same : (index other : ℕ → List Entry) (xs : List ℕ) → AreSameAt index other xs → map other xs ≡ map index xs
map_same index other [] same = refl
map_same index other (x ∷ xs) same = ap₂ (λ (y : List Entry) (ys : List (List Entry)). y ∷ ys) same.0 (map_same index other xs same.1)

pub same_held : (index other : ℕ → List Entry) (b : ℕ) (root : List Entry) → AreSameAt index other (file_indexes index b root) → blocks_by other b root ≡ blocks_by index b root
same_held index other b root same =
    let made : List (Option ℕ) → List ℕ → List (List Entry) → Blocks = λ sectors indexes nodes. record { sectors = sectors; indexes = indexes; root = root; nodes = nodes } in
    let indexes : file_indexes other b root ≡ file_indexes index b root = same_indexes_in index other (depth_of b) root same in
    let nodes : map other (file_indexes index b root) ≡ map index (file_indexes index b root) = map_same index other (file_indexes index b root) same in
    let sectors : file_blocks other b root ≡ file_blocks index b root = ap (take b) (same_blocks_in index other (depth_of b) root same) in
    rw (sectors, indexes, nodes) refl

module _ (index other : ℕ → List Entry) (b : ℕ) (root : List Entry) (spare : List ℕ) (kept : AreKept index other spare) (h : AreSpare spare (file_indexes index b root)) where
  kept_same : AreSameAt index other (file_indexes index b root)
  kept_same = same_where index other (file_indexes index b root) (λ s some. kept s (omega (arith, h.once s)))

  pub kept_root : IsRoot index b root → IsRoot other b root
  kept_root is = record { len = is.len; each = same_trees index other (depth_of b) b root is.each kept_same }

  pub kept_blocks : blocks_by other b root ≡ blocks_by index b root
  kept_blocks = same_held index other b root kept_same

pub spare_from : (spare indexes : List ℕ) → AreFresh spare indexes → AreDistinct indexes → AreSpare spare indexes
spare_from spare indexes fresh once = record {
  used = fresh.used;
  once = λ s. elim (cases_lt 0 (times s spare)) [ inl some ↦ omega (arith, fresh.apart s some, fresh.once s) | inr none ↦ omega (arith, once s) ];
}

pub none_distinct : (index : ℕ → List Entry) (root : List Entry) → root ≡ replicate 256 hole → AreDistinct (file_indexes index 0 root)
none_distinct index root is s = omega (arith, ap (times s) (ap (file_indexes index 0) is ∙ no_indexes 256 index))

-- ---- what callers see

pub record CanSet (index : ℕ → List Entry) (b : ℕ) (root : List Entry) (seen : Blocks) (spare : List ℕ) : Type 0 where
  pub is : IsRoot index b root
  pub small : b ≤ 2 ^ 28
  pub once : AreDistinct (file_indexes index b root)
  pub view_is : blocks_by index b root ≡ seen
  pub fresh : AreFresh spare seen.indexes

module _ (index : ℕ → List Entry) (b : ℕ) (root : List Entry) (seen : Blocks) (spare : List ℕ) (h : CanSet index b root seen spare) where
  indexes_is : file_indexes index b root ≡ seen.indexes
  indexes_is = ap (λ (x : Blocks). x.indexes) h.view_is

  pub can_spare : AreSpare spare (file_indexes index b root)
  can_spare = spare_from spare (file_indexes index b root) (subst (AreFresh spare) (sym indexes_is) h.fresh) h.once

  pub can_count : b ≡ length seen.sectors
  can_count = count_is index b root seen h.is h.small h.view_is

  pub can_trees : (d : ℕ) → d ≡ depth_of b → AreSomeTrees index d root
  can_trees d is = root_trees index b d root root refl h.is is

  pub can_within : (d k : ℕ) → d ≡ depth_of b → k < length seen.sectors → k < 512 ^ d * length root
  can_within d k is lt = root_within index b k d root h.is h.small is (omega (arith, can_count))

  pub can_spare_at : (d : ℕ) → d ≡ depth_of b → AreSpare spare (indexes_in index d root)
  can_spare_at d is = subst (λ (n : ℕ). AreSpare spare (indexes_in index n root)) (sym is) can_spare

  pub can_few : (d : ℕ) → d ≡ depth_of b → length spare < d → length spare < depth_of (length seen.sectors)
  can_few d is lt = let same : depth_of b ≡ depth_of (length seen.sectors) = ap depth_of can_count in omega arith

  module _ (other : ℕ → List Entry) (d place sector n : ℕ) (new : List Entry) (is : d ≡ depth_of b) (lt : place < length seen.sectors) (made : AreBlocksSet index other d place sector root new (take n spare)) where
    at_depth_of : AreBlocksSet index other (depth_of b) place sector root new (take n spare)
    at_depth_of = subst (λ (m : ℕ). AreBlocksSet index other m place sector root new (take n spare)) is made

    set_lt : place < b
    set_lt = omega (arith, can_count)

    pub can_invariant : IsRoot other b new × (b ≤ 2 ^ 28) × AreDistinct (file_indexes other b new)
    can_invariant = (
      set_is_root index other b place sector root new (take n spare) h.is at_depth_of set_lt,
      h.small,
      set_distinct index other b place sector root new (take n spare) h.is at_depth_of set_lt spare n refl can_spare,
    )

    pub can_sectors : file_blocks other b new ≡ set seen.sectors place (Some sector)
    can_sectors = set_sectors index other b place sector root new (take n spare) h.is at_depth_of set_lt ∙ ap (λ (x : Blocks). set x.sectors place (Some sector)) h.view_is

    pub can_indexes : (s : ℕ) → times s (file_indexes other b new) ≡ times s seen.indexes + times s (take n spare)
    can_indexes s = omega (arith, at_depth_of.indexes s, ap (times s) indexes_is)

  module _ (other : ℕ → List Entry) (new : List Entry) (kept : AreKept index other spare) (same : new ≡ root) where
    pub fail_invariant : IsRoot other b new × (b ≤ 2 ^ 28) × AreDistinct (file_indexes other b new)
    fail_invariant = (
      subst (IsRoot other b) (sym same) (kept_root index other b root spare kept can_spare h.is),
      h.small,
      λ s. omega (arith, h.once s, ap (λ (x : Blocks). times s x.indexes) (ap (blocks_by other b) same ∙ kept_blocks index other b root spare kept can_spare)),
    )

    pub fail_blocks : blocks_by other b new ≡ seen
    fail_blocks = ap (blocks_by other b) same ∙ kept_blocks index other b root spare kept can_spare ∙ h.view_is

  -- whether it is done or not
  module _ {E : Type 0} (r : Result Touched E) (other : ℕ → List Entry) (d place sector : ℕ) (new : List Entry) (is : d ≡ depth_of b) (lt : place < length seen.sectors) (made : IfOk r (λ t. AreBlocksSet index other d place sector root new (take t.taken spare))) (fail : OnErr r (AreKept index other spare × (new ≡ root))) where
    pub any_invariant : IsRoot other b new × (b ≤ 2 ^ 28) × AreDistinct (file_indexes other b new)
    any_invariant =
        elim r as (λ q. IfOk q (λ t. AreBlocksSet index other d place sector root new (take t.taken spare)) → OnErr q (AreKept index other spare × (new ≡ root)) → IsRoot other b new × (b ≤ 2 ^ 28) × AreDistinct (file_indexes other b new)) [
          | Ok t ↦ λ m f. can_invariant other d place sector t.taken new is lt m
          | Err e ↦ λ m f. fail_invariant other new f.0 f.1
        ] made fail

    pub any_sectors : OnOk r (file_blocks other b new ≡ set seen.sectors place (Some sector))
    any_sectors =
        elim r as (λ q. IfOk q (λ t. AreBlocksSet index other d place sector root new (take t.taken spare)) → OnOk q (file_blocks other b new ≡ set seen.sectors place (Some sector))) [
          | Ok t ↦ λ m. can_sectors other d place sector t.taken new is lt m
          | Err e ↦ λ m. tt
        ] made

    pub any_indexes : IfOk r (λ t. (s : ℕ) → times s (file_indexes other b new) ≡ times s seen.indexes + times s (take t.taken spare))
    any_indexes =
        elim r as (λ q. IfOk q (λ t. AreBlocksSet index other d place sector root new (take t.taken spare)) → IfOk q (λ t. (s : ℕ) → times s (file_indexes other b new) ≡ times s seen.indexes + times s (take t.taken spare))) [
          | Ok t ↦ λ m. can_indexes other d place sector t.taken new is lt m
          | Err e ↦ λ m. tt
        ] made

    pub any_err : OnErr r (blocks_by other b new ≡ seen)
    any_err =
        elim r as (λ q. OnErr q (AreKept index other spare × (new ≡ root)) → OnErr q (blocks_by other b new ≡ seen)) [ Ok t ↦ λ f. tt | Err e ↦ λ f. fail_blocks other new f.0 f.1 ]
        fail

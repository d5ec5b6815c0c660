-- A file that is truncated, as one edit.
use Rattle.std.proofs.Common.{◌≡◌, ◌≤◌, ◌<◌, ◌+◌, ◌-◌, ◌*◌, ◌/◌, ◌%◌, ◌^◌, ℕ, Bool, List, [], Option, Some, None, length, get_or, take, replicate, inl, inr, refl, sym, ap, ◌∙◌, arith, subst}
use Rattle.std.proofs.lemmas.Bool.{cases_eq, cases_lt}
use Rattle.std.proofs.lemmas.List.{length-take, get_or-take, length-replicate}
use Rattle.disk.specs.Moments.{Image, applied}
use Rattle.disk.specs.declared.update.Update.{Update}
use Rattle.inode.specs.Fields.{Fields}
use Rattle.sector.specs.Placed.{placed}
use Rattle.model_tree.specs.declared.node.NodeKind.{NodeKind}
use Rattle.model_tree.specs.declared.node.NodeKind.TheVariants as kind
use Rattle.model_tree.specs.Trees.Charge.{blocks_of}
use Rattle.model_tree.specs.Trees.Edit.{SetSize, done}
use Rattle.layout.specs.CachedNodes.{CachedNode, content_at}
use Rattle.layout.specs.Files.{over, below, CutsBlocks}
use Rattle.layout.specs.Known.{IsCached}
use Rattle.layout.specs.Marks.{times, times_set, mark_by}
use Rattle.layout.proofs.FileLaws.{below-prefix, below-past, over-prefix, over-part, placed-at, zeros-at}
use Rattle.layout.proofs.Frame.{content-kept}
use Rattle.layout.proofs.MarkProofs.{each_mark}
use Rattle.layout.proofs.NodeEditLaws.{cut_file}
use Rattle.layout.proofs.StepLaws.{each_own, others_hold}
use Rattle.tree_transaction.specs.Blocks.{IsSectorPut, HaveMarks, BlocksWithin, ClearsTail, ChangeBlocks}
use Rattle.tree_transaction.specs.declared.transaction.Transaction.{Transaction}
use Rattle.tree_transaction.specs.Transactions.{cached_nodes_of, end_of, image_of, changed_tree, IsKnown, StaysKnown, MakesOver, HasNow, StandsAgain}
use Rattle.tree_transaction.specs.Grown.{sized}
use Rattle.tree_transaction.specs.Laying.{CanBeLaid, HasEnough, IsRerun}
use Rattle.tree_transaction.proofs.BackLaws.{IsMoved, stays, has_now, kept, makes, steps, are_files, file_content, shows_sized}
use Rattle.tree_transaction.proofs.BlockLaws.{here, elsewhere, sector-within}
use Rattle.tree_transaction.proofs.KnownLaws.{in_table, cached_at, named_once, file_blocks, file_unnamed, fields_fit}
use Rattle.tree_transaction.proofs.RunLaws.{enough}

-- ---- the last block that stays

pub clears_hole : (image : Image) (blocks : List (Option ℕ)) (size : ℕ) → get_or blocks (size / 4096) None ≡ None → ClearsTail image image blocks size
clears_hole image blocks size hole = record {
  kept = λ i either. refl;
  tail = λ j h some.
      let nothing : (k : ℕ) → get_or (content_at image (get_or blocks (size / 4096) None)) k 0 ≡ 0 = λ k. ap (λ (b : Option ℕ). get_or (content_at image b) k 0) hole in
      elim (cases_lt j (size % 4096)) [
        | inl low ↦ sym (below-prefix (λ k. get_or (content_at image (get_or blocks (size / 4096) None)) k 0) (size % 4096) j low)
        | inr high ↦ nothing j ∙ sym (below-past (λ k. get_or (content_at image (get_or blocks (size / 4096) None)) k 0) (size % 4096) j high)
      ];
}

pub clears_set : (old new : Image) (blocks : List (Option ℕ)) (size sector : ℕ) → ((n : ℕ) → times_set n blocks ≤ 1) → get_or blocks (size / 4096) None ≡ Some sector → length (old sector) ≡ 4096
    → IsSectorPut old new sector (placed (old sector) (size % 4096) (replicate (4096 - size % 4096) 0)) → 0 < size % 4096 → ClearsTail old new blocks size
clears_set old new blocks size sector once is_set whole is some =
    let from = size % 4096 in
    let zeros : List ℕ = replicate (4096 - from) 0 in
    let long : length zeros ≡ 4096 - from = length-replicate {A = ℕ} (4096 - from) 0 in
    let away = elsewhere old new sector (placed (old sector) from zeros) is in
    let own = each_own blocks sector in
    let alone = own.once (once sector) (size / 4096) is_set in
    let byte : ℕ → ℕ = λ k. get_or (old sector) k 0 in
    let was : (k : ℕ) → get_or (content_at old (get_or blocks (size / 4096) None)) k 0 ≡ byte k = λ k. ap (λ (b : Option ℕ). get_or (content_at old b) k 0) is_set in
    record {
      kept = λ i either. elim either [
        | inl off ↦ others_hold old new blocks (size / 4096) sector (λ n o named. away n o) alone i off
        | inr none ↦ absurd (omega arith)
      ];
      tail = λ j h positive.
          let now : get_or (content_at new (get_or blocks (size / 4096) None)) j 0 ≡ over byte from zeros j =
          ap (λ (b : Option ℕ). get_or (content_at new b) j 0) is_set ∙ ap (λ (s : List ℕ). get_or s j 0) (here old new sector (placed (old sector) from zeros) is) ∙ placed-at (old sector) from zeros j (omega arith) in
          now ∙ elim (cases_lt j from) [
            | inl low ↦ over-prefix byte from zeros j low ∙ sym (was j) ∙ sym (below-prefix (λ k. get_or (content_at old (get_or blocks (size / 4096) None)) k 0) from j low)
            | inr high ↦ over-part byte from zeros j high (omega arith) ∙ zeros-at (4096 - from) (j - from) ∙ sym (below-past (λ k. get_or (content_at old (get_or blocks (size / 4096) None)) k 0) from j high)
          ];
    }

-- ---- the file

abbrev pub cut_cached : CachedNode → (size : ℕ) → CachedNode
cut_cached cached size = record cached { fields = record cached.fields { size = size }; blocks = take (blocks_of kind.File size) cached.blocks }

module _ (old : Transaction) (place size : ℕ) (was : CachedNode) (known : IsKnown old) (there : get_or (cached_nodes_of old) place None ≡ Some was) where
  abbrev first : ℕ
  first = 148 + old.nodes

  is_cached : IsCached was
  is_cached = cached_at old.nodes (mark_by first old.places) (cached_nodes_of old) place was known.cached_nodes there

  once : (n : ℕ) → times n was.fields.run_sectors + times_set n was.blocks ≤ mark_by first old.places n
  once = named_once old.nodes (mark_by first old.places) (cached_nodes_of old) place was known.cached_nodes there

  pub blocks_marked : HaveMarks first old.places was.blocks
  blocks_marked n = omega (arith, once n)

  pub sectors_here : (volume : ℕ) → end_of old ≤ volume → BlocksWithin volume was.blocks × ((n : ℕ) → times_set n was.blocks ≤ 1)
  sectors_here volume room = (
    (λ block sector at. sector-within first volume old.places was.blocks block sector room blocks_marked at),
    (λ n. let each = each_mark first old.places 0 in omega (arith, once n, each.once n)),
  )

  module _ (mid_places : List Bool) (marks : (n : ℕ) → mark_by first mid_places n + times_set n was.blocks ≡ mark_by first old.places n + times_set n (take (blocks_of kind.File size) was.blocks)) (len : length mid_places ≡ length old.places) (few : size < 2 ^ 64) where
    pub can_be_cut : CanBeLaid old.nodes place mid_places (cut_cached was size)
    can_be_cut = record {
      room = omega (arith, known.small, len);
      within = in_table old.nodes (mark_by first old.places) (cached_nodes_of old) place was known.cached_nodes there;
      fits = fields_fit was.form was.fields size is_cached.fits few;
      marked = λ n. omega (arith, marks n, once n);
    }

    pub cut_enough : HasEnough (cut_cached was size)
    cut_enough = enough was (cut_cached was size) (blocks_of kind.File size) is_cached refl refl

    module _ (file : was.fields.kind ≡ kind.File) (shorter : size ≤ was.fields.size) (new : Transaction) (mid_updates : List Update) (changes : ChangeBlocks old.updates mid_updates was.blocks)
        (back : StandsAgain old new place (cut_cached was size) mid_places mid_updates) where
      abbrev count : ℕ
      count = blocks_of kind.File size

      moved : IsMoved old was (cut_cached was size) mid_places mid_updates
      moved = record {
        number = refl;
        run_sectors = refl;
        runs = refl;
        count = omega (arith, length-take count was.blocks, file_blocks was is_cached file) ∙ sym (ap (λ (k : NodeKind). blocks_of k size) file);
        marks = marks;
        len = len;
        others = λ image n none again. changes image n none;
      }

      unnamed : was.names ≡ []
      unnamed = file_unnamed was is_cached file

      pub cut_stays : StaysKnown old new
      cut_stays = stays old new place was (cut_cached was size) mid_places mid_updates known there moved back (file_content old new place was (cut_cached was size) mid_places mid_updates known there moved back file unnamed)

      pub cut_now : HasNow old new place (sized was size)
      cut_now = has_now old new place was (cut_cached was size) mid_places mid_updates known there moved back (sized was size) refl refl refl

      module _ (base : Image) (clears : ClearsTail (image_of base old) (applied mid_updates base) was.blocks size) where
        abbrev is : CachedNode
        is = back.is

        rerun : IsRerun (cut_cached was size) is
        rerun = back.rerun

        keeps : (n : ℕ) → 0 < times_set n is.blocks → image_of base new n ≡ applied mid_updates base n
        keeps = kept old new place was (cut_cached was size) mid_places mid_updates known there moved back base

        still : (i : ℕ) → i < count → content_at (image_of base new) (get_or was.blocks i None) ≡ content_at (applied mid_updates base) (get_or was.blocks i None)
        still i h =
            let at : get_or is.blocks i None ≡ get_or was.blocks i None = ap (λ (b : List (Option ℕ)). get_or b i None) rerun.blocks ∙ get_or-take count was.blocks i None h in
            ap (content_at (image_of base new)) (sym at) ∙ content-kept (applied mid_updates base) (image_of base new) is.blocks keeps (get_or is.blocks i None) i refl ∙ ap (content_at (applied mid_updates base)) at

        cuts : CutsBlocks (image_of base old) (image_of base new) was.blocks count size
        cuts = record {
          up = omega arith;
          down = omega arith;
          prefix = λ i h. still i (omega arith) ∙ clears.kept i (elim (cases_eq (size % 4096) 0) [ inl none ↦ inr none | inr some ↦ inl (omega arith) ]);
          last = λ i j e h. ap (λ (s : List ℕ). get_or s j 0) (still i (omega arith)) ∙ elim (cases_eq (size % 4096) 0) [
            | inl none ↦ ap (λ (s : List ℕ). get_or s j 0) (clears.kept i (inr none)) ∙ sym (below-prefix (λ k. get_or (content_at (image_of base old) (get_or was.blocks i None)) k 0) (size - 4096 * i) j (omega arith))
            | inr some ↦
                let at : i ≡ size / 4096 = omega arith in
                let rest : size % 4096 ≡ size - 4096 * i = omega arith in
                ap (λ (k : ℕ). get_or (content_at (applied mid_updates base) (get_or was.blocks k None)) j 0) at ∙ clears.tail j h (omega arith)
                ∙ ap (λ (k : ℕ). below (λ l. get_or (content_at (image_of base old) (get_or was.blocks k None)) l 0) (size % 4096) j) (sym at)
                ∙ ap (λ (s : ℕ). below (λ l. get_or (content_at (image_of base old) (get_or was.blocks i None)) l 0) s j) rest
          ];
        }

        size_is : is.fields.size ≡ size
        size_is = ap (λ (f : Fields). f.size) rerun.fields

        pub cut_made : (volume : ℕ) → MakesOver base volume old new (SetSize was.fields.number size)
        cut_made volume transaction =
            let gives = cut_file old.nodes (image_of base old) (image_of base new) (mark_by first old.places) (mark_by first new.places) (cached_nodes_of old) place was is count
            (steps old new place was (cut_cached was size) mid_places mid_updates known there moved back base transaction.laid)
            (record {
              files = are_files old new place was (cut_cached was size) mid_places mid_updates known there moved back file file unnamed (shows_sized was.fields size);
              blocks = rerun.blocks;
              cuts = subst (CutsBlocks (image_of base old) (image_of base new) was.blocks count) (sym size_is) cuts;
            }) in
            makes old new place was (cut_cached was size) mid_places mid_updates known there moved back base volume (SetSize was.fields.number size) transaction
            (record { laid = gives.laid; tree_is = gives.tree_is ∙ ap (λ (s : ℕ). done (SetSize was.fields.number s) (changed_tree base old)) size_is })

-- Bytes that are written over a file, as one edit.
use Rattle.std.proofs.Common.{◌≡◌, ◌≤◌, ◌<◌, ◌+◌, ℕ, Bool, List, [], Option, Some, None, length, get_or, set, max, refl, sym, ap, ◌∙◌, arith, subst}
use Rattle.disk.specs.Moments.{Image, applied}
use Rattle.disk.specs.declared.update.Update.{Update}
use Rattle.freemap.specs.Kept.{free_places}
use Rattle.inode.specs.Fields.{Fields}
use Rattle.inode.specs.Encoding.{inode_sector}
use Rattle.model_tree.specs.declared.node.NodeKind.{NodeKind}
use Rattle.model_tree.specs.declared.node.NodeKind.TheVariants as kind
use Rattle.model_tree.specs.Trees.Charge.{blocks_of, charge_of_blocks}
use Rattle.model_tree.specs.Trees.Edit.{PutBytes}
use Rattle.layout.specs.CachedNodes.{CachedNode, byte_at}
use Rattle.layout.specs.Known.{IsCached}
use Rattle.layout.specs.Marks.{times, times_set, mark_by}
use Rattle.layout.proofs.MarkProofs.{mark-prefix}
use Rattle.layout.proofs.FileLaws.{over-same, growing}
use Rattle.layout.proofs.Frame.{byte_at-kept}
use Rattle.layout.proofs.NodeEditLaws.{write_file}
use Rattle.layout.proofs.StepLaws.{each_change}
use Rattle.node_table.specs.Tables.{charge_of, charge_of_all}
use Rattle.tree_transaction.specs.Blocks.{IsSectorPut, HaveRegion, GetSectors, ChangeBlocks, WritesBytes}
use Rattle.tree_transaction.specs.Blocks.{set_blocks}
use Rattle.tree_transaction.specs.declared.transaction.Transaction.{Transaction}
use Rattle.tree_transaction.specs.Transactions.{cached_nodes_of, image_of, IsKnown, StaysKnown, MakesOver, StandsAgain}
use Rattle.tree_transaction.specs.Transactions.{HasNow}
use Rattle.tree_transaction.specs.Grown.{grown, reaching, blocks_to, CanWrite}
use Rattle.tree_transaction.specs.Laying.{CanBeLaid, sectors_for}
use Rattle.tree_transaction.proofs.BackLaws.{charged, IsMoved, put_again, stays, has_now, kept, makes, steps, are_files, file_content, shows_sized}
use Rattle.tree_transaction.proofs.BlockLaws.{length-holes}
use Rattle.tree_transaction.proofs.CountLaws.{few_numbers, set_holes, set_most}
use Rattle.tree_transaction.proofs.GrowLaws.{grown_known}
use Rattle.tree_transaction.proofs.KnownLaws.{same_cached, in_table, cached_at, named_once, file_blocks, file_unnamed, fields_fit}

module _ (old : Transaction) (place end : ℕ) (was : CachedNode) (known : IsKnown old) (there : get_or (cached_nodes_of old) place None ≡ Some was) (can : CanWrite (cached_nodes_of old) place end) where
  abbrev first : ℕ
  first = 148 + old.nodes

  same : can.cached ≡ was
  same = same_cached (cached_nodes_of old) place can.cached was can.there there

  file : was.fields.kind ≡ kind.File
  file = ap (λ (one : CachedNode). one.fields.kind) (sym same) ∙ can.file

  few : was.fields.size ≤ 16777216
  few = let e = ap (λ (one : CachedNode). one.fields.size) same in omega (arith, e, can.few)

  is_cached : IsCached was
  is_cached = cached_at old.nodes (mark_by first old.places) (cached_nodes_of old) place was known.cached_nodes there

  once : (n : ℕ) → times n was.fields.run_sectors + times_set n was.blocks ≤ mark_by first old.places n
  once = named_once old.nodes (mark_by first old.places) (cached_nodes_of old) place was known.cached_nodes there

  grown_named : (n : ℕ) → times_set n (grown was end).blocks ≡ times_set n was.blocks
  grown_named n = let change = each_change n was.blocks in change.grown (blocks_to end was)

  pub grown_count : length (grown was end).blocks ≡ blocks_to end was
  grown_count = omega (arith, length-holes was.blocks (blocks_to end was), file_blocks was is_cached file)

  pub grown_region : HaveRegion first old.places (grown was end).blocks
  grown_region = record {
    room = known.small;
    marked = λ n. omega (arith, grown_named n, once n);
    few = omega (arith, grown_count, few, can.low);
  }

  -- no sector was free for a hole
  pub charged_first : free_places old.places + set_blocks (grown was end).blocks < length (grown was end).blocks → length old.places + charge_of was < charge_of_all (cached_nodes_of old) + charge_of_blocks (blocks_to end was)
  charged_first full =
      let all = charged old place was known there old.places was.blocks (λ n. refl) in
      omega (arith, all, set_holes was.blocks (blocks_to end was), few_numbers was is_cached, grown_count, length-holes was.blocks (blocks_to end was))

  module _ (blocks : List (Option ℕ)) (mid_places : List Bool) (gets : GetSectors first old.places mid_places (grown was end).blocks blocks) (count : length blocks ≡ length (grown was end).blocks) where
    abbrev mid_cached : CachedNode
    mid_cached = record (grown was end) { blocks = blocks }

    marks : (n : ℕ) → mark_by first mid_places n + times_set n was.blocks ≡ mark_by first old.places n + times_set n blocks
    marks n = omega (arith, gets.marks n, grown_named n)

    pub mid_known : blocks ≡ (grown was end).blocks → IsCached mid_cached
    mid_known alike = subst (λ (b : List (Option ℕ)). IsCached (record (grown was end) { blocks = b })) (sym alike) (grown_known was end is_cached file (omega (arith, few, can.low)))

    pub can_be_laid : CanBeLaid old.nodes place mid_places mid_cached
    can_be_laid = record {
      room = omega (arith, known.small, gets.len);
      within = in_table old.nodes (mark_by first old.places) (cached_nodes_of old) place was known.cached_nodes there;
      fits = fields_fit was.form was.fields (max was.fields.size end) is_cached.fits (omega (arith, few, can.low));
      marked = λ n. omega (arith, marks n, once n, gets.more n, grown_named n);
    }

    -- no block got a sector: its runs are those that it had
    pub put_stands : blocks ≡ (grown was end).blocks → (new : Transaction) (mid_updates : List Update) → cached_nodes_of new ≡ set (set (cached_nodes_of old) place None) place (Some mid_cached) → new.nodes ≡ old.nodes → new.places ≡ mid_places
        → ((image : Image) → IsSectorPut (applied mid_updates image) (applied new.updates image) (148 + place) (inode_sector was.form mid_cached.fields)) → StandsAgain old new place mid_cached mid_places mid_updates
    put_stands alike new mid_updates = put_again old new place mid_cached mid_places mid_updates (mid_known alike)
        (omega (arith, in_table old.nodes (mark_by first old.places) (cached_nodes_of old) place was known.cached_nodes there, once (148 + place), mark-prefix first old.places (148 + place)))

    -- no sector was free for its runs
    pub charged_last : free_places mid_places + length was.fields.run_sectors < sectors_for (set_blocks blocks) → length old.places + charge_of was < charge_of_all (cached_nodes_of old) + charge_of_blocks (blocks_to end was)
    charged_last full =
        let all = charged old place was known there mid_places blocks marks in
        omega (arith, all, gets.len, set_most blocks, count, grown_count)

    module _ (new : Transaction) (mid_updates : List Update) (changes : ChangeBlocks old.updates mid_updates blocks) (back : StandsAgain old new place mid_cached mid_places mid_updates) where
      moved : IsMoved old was mid_cached mid_places mid_updates
      moved = record {
        number = refl;
        run_sectors = refl;
        runs = refl;
        count = count ∙ grown_count ∙ sym (ap (λ (k : NodeKind). blocks_of k (max was.fields.size end)) file);
        marks = marks;
        len = gets.len;
        others = λ image n none again. changes image n again;
      }

      unnamed : was.names ≡ []
      unnamed = file_unnamed was is_cached file

      pub write_stays : StaysKnown old new
      write_stays = stays old new place was mid_cached mid_places mid_updates known there moved back (file_content old new place was mid_cached mid_places mid_updates known there moved back file unnamed)

      pub write_now : HasNow old new place (reaching end was)
      write_now = has_now old new place was mid_cached mid_places mid_updates known there moved back (reaching end was) refl refl refl

      pub write_made : (base : Image) (size offset : ℕ) (bytes : List ℕ) → end ≡ offset + length bytes → WritesBytes (image_of base old) (applied mid_updates base) (grown was end).blocks blocks offset bytes
          → MakesOver base size old new (PutBytes was.fields.number offset bytes)
      write_made base size offset bytes end_is writes transaction =
          let is : CachedNode = back.is in
          let rerun = back.rerun in
          let keeps = kept old new place was mid_cached mid_places mid_updates known there moved back base in
          makes old new place was mid_cached mid_places mid_updates known there moved back base size (PutBytes was.fields.number offset bytes) transaction
          (write_file old.nodes (image_of base old) (image_of base new) (mark_by first old.places) (mark_by first new.places) (cached_nodes_of old) place was is offset bytes
          (steps old new place was mid_cached mid_places mid_updates known there moved back base transaction.laid)
          (record {
            files = are_files old new place was mid_cached mid_places mid_updates known there moved back file file unnamed (shows_sized was.fields (max was.fields.size end));
            size = ap (λ (f : Fields). f.size) rerun.fields ∙ ap (max was.fields.size) end_is;
            written = λ k. byte_at-kept (applied mid_updates base) (image_of base new) is.blocks keeps k ∙ ap (λ (b : List (Option ℕ)). byte_at (applied mid_updates base) b k) rerun.blocks ∙ writes k
                ∙ over-same (byte_at (image_of base old) (grown was end).blocks) (byte_at (image_of base old) was.blocks) offset bytes k (growing (image_of base old) was.blocks (blocks_to end was) k);
          }))

-- A file that grows by holes, as one edit: its runs stay those of its blocks.
use Rattle.std.proofs.Common.{◌≡◌, ◌≤◌, ◌+◌, ℕ, [], Some, None, length, get_or, set, max, refl, sym, ap, ◌∙◌, arith}
use Rattle.disk.specs.Moments.{Image, applied}
use Rattle.inode.specs.Encoding.{inode_sector}
use Rattle.extents.proofs.RunLemmas.{AreRising-widen}
use Rattle.model_tree.specs.declared.node.NodeKind.{NodeKind}
use Rattle.model_tree.specs.declared.node.NodeKind.TheVariants as kind
use Rattle.model_tree.specs.Trees.Charge.{blocks_of}
use Rattle.model_tree.specs.Trees.Edit.{SetSize, done}
use Rattle.layout.specs.CachedNodes.{CachedNode}
use Rattle.layout.specs.Known.{IsCached}
use Rattle.layout.specs.Marks.{times_set, mark_by}
use Rattle.layout.proofs.FileLaws.{holes-at}
use Rattle.layout.proofs.NodeEditLaws.{grow_file}
use Rattle.layout.proofs.StepLaws.{each_change}
use Rattle.tree_transaction.specs.Blocks.{IsSectorPut}
use Rattle.tree_transaction.specs.declared.transaction.Transaction.{Transaction}
use Rattle.tree_transaction.specs.Transactions.{cached_nodes_of, image_of, changed_tree, IsKnown, StaysKnown}
use Rattle.tree_transaction.specs.Transactions.{MakesOver, HasNow}
use Rattle.tree_transaction.specs.Grown.{grown, sized, blocks_to}
use Rattle.tree_transaction.proofs.BackLaws.{shows_sized}
use Rattle.tree_transaction.proofs.BlockLaws.{length-holes}
use Rattle.tree_transaction.proofs.KnownLaws.{cached_at, file_blocks, file_unnamed, content_of_file}
use Rattle.tree_transaction.proofs.KnownLaws.{made}
use Rattle.tree_transaction.proofs.NodeLaws.{alone_stays, alone_kept, alone_steps}

module _ (was : CachedNode) (size : ℕ) (known : IsCached was) (file : was.fields.kind ≡ kind.File) (few : max was.fields.size size ≤ 16777216) where
  pub grown_known : IsCached (grown was size)
  grown_known =
      let fits = known.fits in
      let runs = known.runs in
      record {
        fits = record {
          number = fits.number;
          owner = fits.owner;
          group = fits.group;
          change = fits.change;
          time_modify = fits.time_modify;
          size = omega arith;
          runs = fits.runs;
          run_sectors = fits.run_sectors;
          each_run_sector = fits.each_run_sector;
          acl = fits.acl;
          each_ace = fits.each_ace;
        };
        number = known.number;
        each_run = known.each_run;
        run_count = known.run_count;
        runs = record {
          rising = AreRising-widen 0 (length was.blocks) (length (grown was size).blocks) was.runs (omega (arith, length-holes was.blocks (blocks_to size was))) runs.rising;
          same = λ block. holes-at was.blocks (blocks_to size was) block ∙ runs.same block;
        };
        blocks = omega (arith, length-holes was.blocks (blocks_to size was), file_blocks was known file) ∙ sym (ap (λ (k : NodeKind). blocks_of k (max was.fields.size size)) file);
        content = content_of_file (grown was size) file (file_unnamed was known file);
      }

module _ (old : Transaction) (place size : ℕ) (was : CachedNode) (known : IsKnown old) (there : get_or (cached_nodes_of old) place None ≡ Some was) (file : was.fields.kind ≡ kind.File) (longer : was.fields.size ≤ size) (few : size ≤ 16777216) where
  was_known : IsCached was
  was_known = cached_at old.nodes (mark_by (148 + old.nodes) old.places) (cached_nodes_of old) place was known.cached_nodes there

  abbrev is : CachedNode
  is = grown was size

  unnamed : was.names ≡ []
  unnamed = file_unnamed was was_known file

  is_known : IsCached is
  is_known = grown_known was size was_known file (omega arith)

  same_named : (n : ℕ) → times_set n is.blocks ≡ times_set n was.blocks
  same_named n = let change = each_change n was.blocks in change.grown (blocks_to size was)

  module _ (new : Transaction) (same : new.nodes ≡ old.nodes) (places : new.places ≡ old.places) (cached_nodes : cached_nodes_of new ≡ set (cached_nodes_of old) place (Some is))
      (put : (image : Image) → IsSectorPut (applied old.updates image) (applied new.updates image) (148 + place) (inode_sector is.form is.fields)) where
    pub grow_stays : StaysKnown old new
    grow_stays = alone_stays old new place was is known there refl refl refl same_named is_known same places cached_nodes put

    size_is : max was.fields.size size ≡ size
    size_is = omega arith

    pub grow_now : HasNow old new place (sized was size)
    grow_now = record { is = is; cached_nodes = cached_nodes; form = refl; fields = ap (λ (s : ℕ). record was.fields { size = s }) size_is; names = refl }

    pub grow_made : (base : Image) (volume : ℕ) → MakesOver base volume old new (SetSize was.fields.number size)
    grow_made base volume transaction =
        let gives = grow_file old.nodes (image_of base old) (image_of base new) (mark_by (148 + old.nodes) old.places) (mark_by (148 + old.nodes) new.places) (cached_nodes_of old) place was is (blocks_to size was)
        (alone_steps old new place was is known there refl refl refl same_named is_known same places cached_nodes put base transaction.laid)
        (record {
          files = record { was_file = file; is_file = file; unnamed = unnamed; shows = shows_sized was.fields (max was.fields.size size) };
          blocks = refl;
          longer = omega arith;
          kept = alone_kept old new place was is known there refl refl refl same_named is_known same places cached_nodes put base;
        }) in
        made base volume old new place (Some is) (SetSize was.fields.number size) transaction same (ap length places) cached_nodes gives.laid
        (gives.tree_is ∙ ap (λ (s : ℕ). done (SetSize was.fields.number s) (changed_tree base old)) size_is)

-- A file whose blocks are written: it can be laid, and is put back.
use Rattle.std.proofs.Common.{◌≡◌, ◌≤◌, ◌<◌, ◌+◌, ◌∙◌, ℕ, Bool, false, List, [], Option, Some, None, length, set, sym, ap, subst, arith}
use Rattle.std.proofs.lemmas.List.{length-set}
use Rattle.disk.specs.Moments.{Image, applied}
use Rattle.freemap.specs.Kept.{free_places}
use Rattle.model_tree.specs.Trees.Edit.{PutBytes}
use Rattle.layout.specs.CachedNodes.{CachedNode}
use Rattle.layout.specs.Known.{IsCached}
use Rattle.layout.specs.Marks.{times, times_set, mark_by}
use Rattle.layout.proofs.MarkProofs.{mark-prefix}
use Rattle.tree_transaction.specs.Blocks.{WritesBytes, set_blocks}
use Rattle.tree_transaction.specs.declared.transaction.Transaction.{Transaction}
use Rattle.tree_transaction.specs.Transactions.{cached_nodes_of, IsKnown, StaysKnown, EditsOver, NodeBecomes, StandsAgain, IsOvercharged}
use Rattle.tree_transaction.specs.Grown.{grown, reaching, blocks_to, CanWrite}
use Rattle.tree_transaction.specs.Laying.{CanBeLaid, sectors_for, Follow}
use Rattle.tree_transaction.specs.Written.{HasItsRuns, IsWritten}
use Rattle.tree_transaction.proofs.BlockLaws.{none_filled}
use Rattle.tree_transaction.proofs.KnownLaws.{put-back, in_table, named_once, edits_over, turns, overcharged}
use Rattle.tree_transaction.proofs.WriteLaws.{grown_region, can_be_laid, mid_known, charged_last, write_stays, write_now, write_made}

module _ (old mid : Transaction) (place end : ℕ) (cached : CachedNode) (filled : Bool) (known : IsKnown old) (can : CanWrite (cached_nodes_of old) place end) (w : IsWritten old mid place end cached filled) where
  abbrev written : CachedNode
  written = record (grown w.was end) { blocks = cached.blocks }

  within_table : place < old.nodes
  within_table = in_table old.nodes (mark_by (148 + old.nodes) old.places) (cached_nodes_of old) place w.was known.cached_nodes w.there

  once : (n : ℕ) → times n w.was.fields.run_sectors + times_set n w.was.blocks ≤ mark_by (148 + old.nodes) old.places n
  once = named_once old.nodes (mark_by (148 + old.nodes) old.places) (cached_nodes_of old) place w.was known.cached_nodes w.there

  pub within_now : place < length (cached_nodes_of mid)
  within_now = let known_cached_nodes = known.cached_nodes in omega (arith, within_table, known_cached_nodes.count, ap (λ (l : List (Option CachedNode)). length l) w.cached_nodes, length-set (cached_nodes_of old) place None)

  can_be : CanBeLaid mid.nodes place mid.places written
  can_be = subst (λ (n : ℕ). CanBeLaid n place mid.places written) (sym w.nodes) (can_be_laid old place end w.was known w.there can cached.blocks mid.places w.gets w.count)

  pub can_now : CanBeLaid mid.nodes place mid.places cached
  can_now = subst (CanBeLaid mid.nodes place mid.places) (sym w.cached_is) can_be

  pub few_now : length cached.blocks ≤ 4096
  few_now = let region = grown_region old place end w.was known w.there can in omega (arith, region.few, w.count)

  pub full_now : free_places mid.places + length cached.fields.run_sectors < sectors_for (set_blocks cached.blocks) → IsOvercharged old place (blocks_to end)
  full_now full = overcharged old place w.was (blocks_to end) w.there (charged_last old place end w.was known w.there can cached.blocks mid.places w.gets w.count
      (subst (λ (one : CachedNode). free_places mid.places + length one.fields.run_sectors < sectors_for (set_blocks one.blocks)) w.cached_is full))

  -- no hole got a sector

  is_cached : filled ≡ false → IsCached cached
  is_cached none = subst IsCached (sym w.cached_is) (mid_known old place end w.was known w.there can cached.blocks mid.places w.gets w.count (none_filled filled (grown w.was end).blocks cached.blocks none w.fills))

  apart : times (148 + place) cached.fields.run_sectors ≡ 0
  apart = omega (arith, within_table, once (148 + place), mark-prefix (148 + old.nodes) old.places (148 + place), ap (λ (one : CachedNode). times (148 + place) one.fields.run_sectors) w.cached_is)

  pub runs_now : filled ≡ false → HasItsRuns place cached
  runs_now none = record { is_cached = is_cached none; apart = apart }

  -- the cached node is back at its place

  module _ (new : Transaction) (stands : StandsAgain mid new place cached mid.places mid.updates) where
    again : StandsAgain old new place written mid.places mid.updates
    again = subst (λ (one : CachedNode). StandsAgain old new place one mid.places mid.updates) w.cached_is (record {
      is = stands.is;
      put = stands.put ∙ ap (λ (l : List (Option CachedNode)). set l place (Some stands.is)) w.cached_nodes ∙ put-back (cached_nodes_of old) place stands.is;
      same = stands.same ∙ w.nodes;
      rerun = stands.rerun;
      follow = subst (λ (n : ℕ). Follow (148 + n) mid.places new.places cached.fields.run_sectors stands.is.fields.run_sectors) w.nodes stands.follow;
      len = stands.len;
      node = stands.node;
      run_sectors = stands.run_sectors;
      others = stands.others;
    })

    pub known_now : StaysKnown old new
    known_now = write_stays old place end w.was known w.there can cached.blocks mid.places w.gets w.count new mid.updates w.others again

    pub cached_nodes_now : NodeBecomes old new place (reaching end)
    cached_nodes_now = turns old new place w.was w.there (reaching end) (write_now old place end w.was known w.there can cached.blocks mid.places w.gets w.count new mid.updates w.others again)

    pub tree_now : (base : Image) (size offset : ℕ) (bytes : List ℕ) → end ≡ offset + length bytes → WritesBytes (applied old.updates base) (applied mid.updates base) (grown w.was end).blocks cached.blocks offset bytes
        → EditsOver base size old new place (λ number. PutBytes number offset bytes)
    tree_now base size offset bytes end_is writes = edits_over old new place w.was w.there base size (λ number. PutBytes number offset bytes)
        (write_made old place end w.was known w.there can cached.blocks mid.places w.gets w.count new mid.updates w.others again base size offset bytes end_is writes)

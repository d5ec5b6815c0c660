-- A cached node whose sectors are kept is still held, and is the same node.
use Rattle.std.proofs.Common.{◌≡◌, ◌<◌, ◌/◌, ◌%◌, ℕ, zero, suc, List, [], ◌∷◌, Option, Some, None, get_or, map, refl, ap, ◌∙◌, arith}
use Rattle.std.specs.List.{range_with_len}
use Rattle.std.proofs.lemmas.Option.{same_Some, none-some}
use Rattle.disk.specs.Moments.{Image}
use Rattle.model_tree.specs.declared.node.NodeKind.{NodeKind}
use Rattle.model_tree.specs.declared.node.NodeKind.TheVariants as kind
use Rattle.model_tree.specs.Trees.Tree.{File}
use Rattle.extents.specs.declared.run.Run.{Run}
use Rattle.layout.specs.CachedNodeLaws.{AreKept, Frame}
use Rattle.layout.specs.CachedNodes.{CachedNode, node_sector, content_at, byte_at, bytes_in, content_of, node_with, node_of}
use Rattle.layout.specs.Laid.{AreRunSectors, HoldsContent, HoldsCached}
use Rattle.layout.specs.Marks.{times, times_set, namings_of}
use Rattle.layout.proofs.NumberLaws.{once-here, times-at}

pub times_set-at : (blocks : List (Option ℕ)) (i n : ℕ) → get_or blocks i None ≡ Some n → 0 < times_set n blocks
times_set-at [] i n is = absurd (none-some n is)
times_set-at (None ∷ blocks) zero n is = absurd (none-some n is)
times_set-at (None ∷ blocks) (suc i) n is = times_set-at blocks i n is
times_set-at (Some s ∷ blocks) zero n is = let e : s ≡ n = same_Some s n is in rw e (omega (arith, once-here n))
times_set-at (Some s ∷ blocks) (suc i) n is = omega (arith, times_set-at blocks i n is)

pub run_sectors-kept : (old new : Image) (sectors : List ℕ) (runs : List Run) → ((n : ℕ) → 0 < times n sectors → new n ≡ old n) → AreRunSectors old sectors runs → AreRunSectors new sectors runs
run_sectors-kept old new sectors runs same are i h = same (get_or sectors i 0) (times-at sectors i 0 h) ∙ are i h

pub content-kept : (old new : Image) (blocks : List (Option ℕ)) → ((n : ℕ) → 0 < times_set n blocks → new n ≡ old n) → (block : Option ℕ) (i : ℕ) → get_or blocks i None ≡ block → content_at new block ≡ content_at old block
content-kept old new blocks same None i is = refl
content-kept old new blocks same (Some n) i is = same n (times_set-at blocks i n is)

module _ (old new : Image) (blocks : List (Option ℕ)) (same : (n : ℕ) → 0 < times_set n blocks → new n ≡ old n) where
  pub byte_at-kept : (k : ℕ) → byte_at new blocks k ≡ byte_at old blocks k
  unfolding byte_at
  byte_at-kept k = ap (λ (bytes : List ℕ). get_or bytes (k % 4096) 0) (content-kept old new blocks same (get_or blocks (k / 4096) None) (k / 4096) refl)

  pub bytes-kept : (size : ℕ) → bytes_in new blocks size ≡ bytes_in old blocks size
  unfolding bytes_in
  bytes-kept size = ap (λ (f : ℕ → ℕ). map f (range_with_len 0 size)) (λ i k. byte_at-kept k i)

module _ (old new : Image) (cached : CachedNode) (same : AreKept old new (Some cached)) where
  pub of_runs : (n : ℕ) → 0 < times n cached.fields.run_sectors → new n ≡ old n
  unfolding namings_of
  of_runs n h = same n (omega arith)

  of_blocks : (n : ℕ) → 0 < times_set n cached.blocks → new n ≡ old n
  unfolding namings_of
  of_blocks n h = same n (omega arith)

  pub content-held : (kind : NodeKind) → HoldsContent old kind cached → HoldsContent new kind cached
  content-held kind.File holds = record { unnamed = holds.unnamed; tail = λ k h. byte_at-kept old new cached.blocks of_blocks k ∙ holds.tail k h }
  content-held kind.Directory holds = record { count = holds.count; names = holds.names; stamped = holds.stamped; encoded = λ i h. content-kept old new cached.blocks of_blocks (get_or cached.blocks i None) i refl ∙ holds.encoded i h }

  content_of-kept : (kind : NodeKind) → content_of new kind cached ≡ content_of old kind cached
  content_of-kept kind.File = ap File (bytes-kept old new cached.blocks of_blocks cached.fields.size)
  content_of-kept kind.Directory = refl

  pub node-kept : node_of new cached ≡ node_of old cached
  unfolding node_of
  node-kept = ap (node_with cached.fields) (content_of-kept cached.fields.kind)

  pub held-still : (place : ℕ) → new (node_sector place) ≡ old (node_sector place) → HoldsCached old place cached → HoldsCached new place cached
  held-still place sector holds = record {
    node = record {
      fits = holds.node.fits;
      number = holds.node.number;
      sector = sector ∙ holds.node.sector;
      each_run = holds.node.each_run;
      run_count = holds.node.run_count;
      run_sectors = run_sectors-kept old new cached.fields.run_sectors cached.runs of_runs holds.node.run_sectors;
      runs = holds.node.runs;
      blocks = holds.node.blocks;
    };
    content = content-held cached.fields.kind holds.content;
  }

pub frame : Frame
frame old new place cached node same = record { held = held-still old new cached same place node; node = node-kept old new cached same }

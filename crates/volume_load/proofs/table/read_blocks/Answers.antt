use Rattle.std.proofs.Common.{◌≡◌, ◌∙◌, ℕ, List, Option, sym, ap, subst, arith}
use Rattle.std.specs.Prelude.{Err}
use Rattle.extents.specs.declared.run.Run.{Run}
use Rattle.extents.specs.Runs.{AreRunsOf}
use Rattle.inode.specs.Fields.{fields_of}
use Rattle.layout.specs.Marks.{times}
use Rattle.volume_load.specs.declared.fault.ScanFault.{ScanFault}
use Rattle.volume_load.specs.CachedNodes.{uses, FindsBlocks}
use Rattle.volume_load.specs.Marking.{AreMarked, CanMark}
use Rattle.volume_load.specs.Runs.{SectorsWithin}
use Rattle.volume_load.proofs.CachedNodeLaws.{sectors_within, blocks_within, one_runs, can_blocks, same_find, same_blocks}
use Rattle.volume_load.proofs.SectorLaws.{same_fault}
use Rattle.volume_load.proofs.table.read_blocks.Goals as goal

pub read_runs-requires-clause-within : goal.read_runs-requires-clause-within
read_runs-requires-clause-within g c =
    let size = g.S.Sectors.size (g.S.Sectors.kept c.args.sectors.now) in
    let marked = subst (λ (l : List ℕ). AreMarked c.args.first c.args.places.now c.mark_sectors.new.places (λ n. times n l)) c.deref.ensures.value (c.mark_sectors.ensures.marked c.if-not-mark_sectors.false) in
    subst (λ (l : List ℕ). SectorsWithin size l) (sym c.deref-2.ensures.value) (sectors_within c.args.first c.args.places.now c.mark_sectors.new.places c.args.inode.now.run_sectors.items size marked c.requires.within)

pub returns-in_err-blocks-clause-damaged : goal.returns-in_err-blocks-clause-damaged
returns-in_err-blocks-clause-damaged g c = λ word is runs blocks found can.
    let image = g.S.Sectors.image (g.S.Sectors.kept c.args.sectors.now) in
    let inode = c.args.inode.now in
    let read = same_find g.S.Sectors.keeps_word image c.deref-2.result.now inode.run_sectors.items c.from.result inode.runs c.in_ok-runs.runs.items c.deref-2.ensures.value c.from.ensures c.in_ok-runs.ensures.found in
    let same : runs ≡ c.in_ok-runs.runs.items = one_runs g.S.Sectors.keeps_word image inode.run_sectors.items inode.runs runs c.in_ok-runs.runs.items word found.in_sectors read c.requires.enough in
    c.in_err-blocks.ensures.damaged (ap (λ (e : ScanFault). Err e) (same_fault c.from_residual-in_err-blocks.result c.in_err-blocks.field-0.0 c.from_residual-in_err-blocks.ensures.1 is)) blocks
    (subst (λ (l : List Run). AreRunsOf l blocks) (same ∙ sym c.deref-3.ensures.value) found.laid) found.count found.few

pub returns-then-not-mark_blocks-clause-damaged : goal.returns-then-not-mark_blocks-clause-damaged
returns-then-not-mark_blocks-clause-damaged g c = λ word is runs blocks found can.
    let image = g.S.Sectors.image (g.S.Sectors.kept c.args.sectors.now) in
    let inode = c.args.inode.now in
    let marked = subst (λ (l : List ℕ). AreMarked c.args.first c.args.places.now c.mark_sectors.new.places (λ n. times n l)) c.deref.ensures.value (c.mark_sectors.ensures.marked c.if-not-mark_sectors.false) in
    let read = same_find g.S.Sectors.keeps_word image c.deref-2.result.now inode.run_sectors.items c.from.result inode.runs c.in_ok-runs.runs.items c.deref-2.ensures.value c.from.ensures c.in_ok-runs.ensures.found in
    let mine : FindsBlocks g.S.Sectors.keeps_word image (fields_of inode) c.in_ok-runs.runs.items c.in_ok-blocks.blocks = record { in_sectors = read; laid = subst (λ (l : List Run). AreRunsOf l c.in_ok-blocks.blocks) c.deref-3.ensures.value c.in_ok-blocks.ensures.runs; count = c.in_ok-blocks.ensures.count; few = c.in_ok-blocks.ensures.few } in
    let same : blocks ≡ c.in_ok-blocks.blocks = same_blocks g.S.Sectors.keeps_word image (fields_of inode) runs c.in_ok-runs.runs.items blocks c.in_ok-blocks.blocks word c.requires.enough found mine in
    c.mark_blocks.ensures.refused c.if-not-mark_blocks.true
    (can_blocks c.args.first c.args.places.now c.mark_sectors.new.places (fields_of inode) c.in_ok-blocks.blocks marked (subst (λ (l : List (Option ℕ)). CanMark c.args.first c.args.places.now (uses (fields_of inode) l)) same can))

pub returns-clause-within : goal.returns-clause-within
returns-clause-within g c =
    let size = g.S.Sectors.size (g.S.Sectors.kept c.args.sectors.now) in
    let marked = c.mark_sectors.ensures.marked c.if-not-mark_sectors.false in
    blocks_within c.args.first c.mark_sectors.new.places c.mark_blocks.new.places c.in_ok-blocks.blocks size (c.mark_blocks.ensures.marked c.if-not-mark_blocks.false) (omega (arith, marked.len, c.requires.within))

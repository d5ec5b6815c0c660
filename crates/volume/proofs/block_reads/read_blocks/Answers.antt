use Rattle.std.proofs.Common.{◌+◌, ◌*◌, ◌/◌, ◌%◌, ℕ, List, subst, ◌∙◌, arith}
use Rattle.volume.specs.FileParts.{Appends}
use Rattle.volume.proofs.PartLaws.{part_on}
use Rattle.volume.proofs.block_reads.read_blocks.Goals as goal

pub loop-done-preserved : goal.loop-done-preserved
loop-done-preserved g c =
    let inv = c.loop-done.invariant in
    let word = g.S.Sectors.keeps_word in
    let image = g.S.Sectors.image (g.S.Sectors.kept c.args.base.now) in
    let at = 4096 * ((c.args.offset + c.loop-done.done) / 4096) + (c.args.offset + c.loop-done.done) % 4096 in
    let old : List ℕ = c.args.out.now.items in
    let mid : List ℕ = c.loop-done.out.items in
    let new : List ℕ = c.read_block.new.out.items in
    let step : Appends word image c.args.blocks.now at c.min-more.result mid new =
    subst (λ k. Appends word (g.S.Sectors.image k) c.args.blocks.now at c.min-more.result mid new) inv.kept c.in_ok-read_block.ensures.bytes in
    record {
      within = omega (arith, c.loop-done-test.true);
      bytes = part_on word image c.args.blocks.now c.args.offset c.loop-done.done at c.min-more.result old mid new (omega arith) inv.bytes step;
      kept = c.read_block.ensures.kept ∙ inv.kept;
      health = (let reads = c.in_ok-read_block.ensures.health in reads.stays (λ faulted. cc)) ∙ inv.health;
    }

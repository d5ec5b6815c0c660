use Rattle.std.proofs.Common.{◌+◌, ℕ, List, sym, ◌∙◌, arith}
use Rattle.volume.proofs.PartLaws.{set_part, hole_part, filled}
use Rattle.volume.proofs.block_reads.read_block.Goals as goal

pub returns-in_ok-append_part-in-Some-clause-bytes : goal.returns-in_ok-append_part-in-Some-clause-bytes
returns-in_ok-append_part-in-Some-clause-bytes g c =
    let image = g.S.Sectors.image (g.S.Sectors.kept c.args.base.now) in
    set_part g.S.Sectors.keeps_word image c.args.blocks.now c.args.block c.in-Some.sector c.args.from c.args.count c.in_ok-content-in-Some.content c.args.out.now.items
    c.append_part.new.out.items (sym c.sector_of.ensures ∙ c.in-Some.is) c.in_ok-content-in-Some.ensures.content c.append_part.ensures.whole c.requires.room c.in_ok-append_part-in-Some.ensures.part

pub returns-in_ok-resize-in-None-clause-bytes : goal.returns-in_ok-resize-in-None-clause-bytes
returns-in_ok-resize-in-None-clause-bytes g c =
    let image = g.S.Sectors.image (g.S.Sectors.kept c.args.base.now) in
    let old : List ℕ = c.args.out.now.items in
    let long = c.args.out.now.ok.0 in
    let len = c.len.ensures in
    hole_part g.S.Sectors.keeps_word image c.args.blocks.now c.args.block c.args.from c.args.count old c.resize.new.self.items (sym c.sector_of.ensures ∙ c.in-None.is) c.requires.room
    (filled old c.resize.new.self.items (c.len.result + c.args.count) c.args.out.now.len c.args.count (omega arith) (omega arith) c.in_ok-resize-in-None.ensures.items)

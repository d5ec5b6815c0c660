use Rattle.std.proofs.Common.{sym, subst}
use Rattle.layout.specs.CachedNodes.{CachedNode}
use Rattle.volume.specs.FileBlocks.{FileWithin}
use Rattle.volume.proofs.PartLaws.{read_whole, read_more, on_ok}
use Rattle.volume.proofs.block_reads.read_bytes.Goals as goal

pub read_blocks-read-requires-clause-within : goal.read_blocks-read-requires-clause-within
read_blocks-read-requires-clause-within g c =
    subst (λ (cached_node : CachedNode). FileWithin (g.S.Sectors.size (g.S.Sectors.kept c.args.base.now)) cached_node.blocks) (sym c.cached.view_is) c.requires.within

pub returns-else-is_err-clause-bytes : goal.returns-else-is_err-clause-bytes
returns-else-is_err-clause-bytes g c w =
    let word = g.S.Sectors.keeps_word in
    let image = g.S.Sectors.image (g.S.Sectors.kept c.args.base.now) in
    on_ok c.read_blocks-read.result c.read_blocks-read.ensures.bytes (λ appends.
    read_whole word image _ c.args.cached.now c.args.offset c.args.len c.count_from-count.result c.args.out.now.items c.reserve.new.self.items c.read_blocks-read.new.out.items
    c.cached.view_is c.reserve.ensures.items c.count_from-count.ensures appends w)

pub returns-else-is_err-clause-count : goal.returns-else-is_err-clause-count
returns-else-is_err-clause-count g c =
    let word = g.S.Sectors.keeps_word in
    let image = g.S.Sectors.image (g.S.Sectors.kept c.args.base.now) in
    on_ok c.read_blocks-read.result c.read_blocks-read.ensures.bytes (λ appends.
    read_more word image _ c.args.cached.now c.args.offset c.args.len c.count_from-count.result c.args.out.now.items c.reserve.new.self.items c.read_blocks-read.new.out.items
    c.cached.view_is c.reserve.ensures.items c.count_from-count.ensures appends)

use Rattle.std.proofs.Common.{◌+◌, ◌*◌, refl}
use Rattle.extent_tree.proofs.Bytes.{AreCopied-more}
use Rattle.extent_tree.proofs.encoding.entries_at.Goals as goal

pub loop-i-preserved : goal.loop-i-preserved
loop-i-preserved c =
    rw c.in_ok-push.ensures.items
    (AreCopied-more c.args.sector.now c.args.at (c.args.at + 8 * c.loop-i.i) c.loop-i.i c.loop-i.entries.items c.entry_at.result c.loop-i.invariant c.entry_at.ensures.bytes c.entry_at.ensures.encodable refl)

use Rattle.std.proofs.Common.{◌+◌, ◌*◌, refl, arith}
use Rattle.std.proofs.lemmas.List.{get_or_default}
use Rattle.extent_tree.proofs.Bytes.{Places-more}
use Rattle.extent_tree.proofs.encoding.put_entries.Goals as goal

pub loop-i-preserved : goal.loop-i-preserved
loop-i-preserved c =
    Places-more c.args.sector.now c.loop-i.sector c.put_entry.new.sector c.args.at (c.args.at + 8 * c.loop-i.i) c.loop-i.i c.args.entries.now _ c.loop-i.invariant (omega arith)
    (get_or_default c.args.entries.now c.loop-i.i _ _ c.loop-i-test.true) refl c.put_entry.ensures (omega arith)

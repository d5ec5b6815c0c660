use Rattle.std.proofs.Common.{◌+◌, ◌*◌, refl}
use Rattle.sector.specs.Written.{AreRead-more}
use Rattle.extent_tree.specs.Encoding.{entry_bytes, IsEncodable}
use Rattle.extent_tree.proofs.Bytes.{wide}
use Rattle.large_inode.proofs.reading.extents_in.Goals as goal

pub loop-i-preserved : goal.loop-i-preserved
loop-i-preserved c =
    rw c.in_ok-push.ensures.items
    (AreRead-more entry_bytes IsEncodable 8 wide 1280 256 c.args.sector.now c.loop-i.entries.items c.loop-i.i c.loop-i.invariant c.extent_at.result (1280 + 8 * c.loop-i.i) c.extent_at.ensures.fits c.loop-i-test.true refl c.extent_at.ensures.only)

use Rattle.std.proofs.Common.{rules}
use Rattle.extents.proofs.Making.{IsRunAt-more}
use Rattle.extents.proofs.list.run_length.Goals as goal

pub loop-length-preserved : goal.loop-length-preserved
loop-length-preserved c =
    IsRunAt-more c.args.sectors.now c.args.start c.args.first c.loop-length.length c.loop-length.invariant c.loop-length-test.true (c.if-follows.ensures.value.0 (search rules)) (c.if-follows.ensures.fits (search rules))

use Rattle.std.proofs.Common.{arith}
use Rattle.extents.proofs.Laying.{IsLaidTo-more}
use Rattle.extents.proofs.list.put_run.Goals as goal

pub loop-i-preserved : goal.loop-i-preserved
loop-i-preserved c =
    let old = c.args.sectors.now in
    rw (c.in_ok-push.ensures.items, c.from-in-loop-i.ensures) (IsLaidTo-more old.items c.args.run c.loop-i.i c.loop-i.sectors.items c.loop-i.invariant (omega (arith, old.ok.0, c.requires.behind)))

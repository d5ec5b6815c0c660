use Rattle.std.proofs.Common.{◌-◌, ◌*◌, take, drop, refl, arith}
use Rattle.extents.specs.Sector.{run_sector}
use Rattle.tree_transaction.proofs.LayLaws.{lays-next}
use Rattle.tree_transaction.proofs.laying.lay_runs.Goals as goal

pub loop-i-preserved : goal.loop-i-preserved
loop-i-preserved c = record {
  lays = λ image. lays-next _ _ _ c.args.numbers.now c.args.runs.now c.loop-i.i c.min-to.result (run_sector (take (c.min-to.result - 500 * c.loop-i.i) (drop (500 * c.loop-i.i) c.args.runs.now))) c.requires.once c.loop-i-test.true
      (c.loop-i.invariant.lays image) c.min-to.ensures refl (c.in_ok-put_runs.ensures.image image);
  count = omega (arith, c.in_ok-put_runs.ensures.count);
}

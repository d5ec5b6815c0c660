use Rattle.std.proofs.Common.{sym, arith}
use Rattle.extents.proofs.Making.{AreRunsSoFar-hole, AreRunsSoFar-run, AreRunsOf-all, each_is_run}
use Rattle.extents.proofs.list.runs_of.Goals as goal

pub loop-block-preserved-in-None : goal.loop-block-preserved-in-None
loop-block-preserved-in-None c = AreRunsSoFar-hole c.args.sectors.now c.loop-block.block c.loop-block.runs.items c.loop-block.invariant c.loop-block-test.true (sym c.in-None.ensures)

pub loop-block-preserved : goal.loop-block-preserved
loop-block-preserved c =
    rw c.in_ok-push-in-Some.ensures.items (AreRunsSoFar-run c.args.sectors.now c.loop-block.runs.items (record { block = c.loop-block.block; length = c.run_length-length.result; sector = c.in-Some.sector }) c.loop-block.invariant c.run_length-length.ensures.run c.run_length-length.ensures.whole)

pub returns-clause-runs : goal.returns-clause-runs
returns-clause-runs c = AreRunsOf-all c.args.sectors.now c.loop-block.block c.loop-block.runs.items c.loop-block.invariant c.loop-block-test.false

pub returns-clause-each : goal.returns-clause-each
returns-clause-each c = each_is_run 0 c.loop-block.block c.loop-block.runs.items (omega (arith, c.loop-block.invariant.within)) c.loop-block.invariant.rising

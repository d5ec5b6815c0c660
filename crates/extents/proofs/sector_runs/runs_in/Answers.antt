use Rattle.std.proofs.Common.{◌+◌, ◌*◌, refl, arith, rules}
use Rattle.extents.specs.Sector.{IsRun}
use Rattle.extents.proofs.SectorLemmas.{AreReadTo-more, only_until}
use Rattle.extents.proofs.sector_runs.runs_in.Goals as goal

pub returns-then-run-eq0-clause-only : goal.returns-then-run-eq0-clause-only
returns-then-run-eq0-clause-only c =
    only_until c.args.sector.now c.loop-i.i (96 + 8 * c.loop-i.i) c.loop-i.runs.items c.run_at-run.result c.loop-i.invariant (record { run_is = c.run_at-run.ensures.run; none_is = c.run_at-run.ensures.none }) refl c.if-run-eq0.true

pub loop-i-preserved : goal.loop-i-preserved
loop-i-preserved c =
    let run = c.run_at-run.result in
    let is : IsRun run = record { block = search rules; length = search rules; sector = search rules; some = omega arith } in
    rw c.in_ok-push.ensures.items (AreReadTo-more c.args.sector.now c.loop-i.i (96 + 8 * c.loop-i.i) c.loop-i.runs.items run c.loop-i.invariant (record { run_is = c.run_at-run.ensures.run; none_is = c.run_at-run.ensures.none }) refl is c.loop-i-test.true)

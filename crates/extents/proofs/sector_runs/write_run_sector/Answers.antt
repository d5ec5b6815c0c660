use Rattle.std.proofs.Common.{◌≡◌, arith, refl, subst, length}
use Rattle.extents.proofs.SectorLemmas.{IsWritten, run_sector-written}
use Rattle.extents.proofs.sector_runs.write_run_sector.Goals as goal

pub returns : goal.returns
returns c =
    let runs = c.args.runs.now in
    let end : c.loop-i.i ≡ length runs = omega arith in
    let last = subst (IsWritten c.loop-i.sector runs) end c.loop-i.invariant in
    run_sector-written c.loop-i.sector c.put_zeros-2.new.sector runs _ _ last (omega arith) refl refl c.put_zeros-2.ensures.prefix c.put_zeros-2.array_long

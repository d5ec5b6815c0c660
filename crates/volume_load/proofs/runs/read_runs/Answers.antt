use Rattle.std.proofs.Common.{◌≡◌, ◌<◌, ◌+◌, ◌-◌, ◌*◌, ◌∙◌, List, length, min, get_or, sym, ap, subst, arith}
use Rattle.std.specs.Prelude.{Err}
use Rattle.extents.specs.declared.run.Run.{Run}
use Rattle.volume_load.specs.declared.fault.ScanFault.{ScanFault}
use Rattle.volume_load.specs.Runs.{FindsPart}
use Rattle.layout.specs.Laid.{runs_of_sector}
use Rattle.volume_load.proofs.RunLaws.{AreReadTo, read_more, part_of}
use Rattle.volume_load.proofs.SectorLaws.{same_fault}
use Rattle.volume_load.proofs.runs.read_runs.Goals as goal

pub returns-in_err-part-clause-damaged : goal.returns-in_err-part-clause-damaged
returns-in_err-part-clause-damaged g c = λ word is runs found.
    let inv = c.loop-number.invariant in
    let i = c.loop-number.number-index in
    let numbers = c.args.numbers.now in
    let image = g.S.Sectors.image (g.S.Sectors.kept c.args.sectors.now) in
    let part = part_of g.S.Sectors.keeps_word image numbers c.args.count i c.min.result runs found c.loop-number-test.true (omega (arith, c.min.ensures, c.len.ensures, c.loop-number.runs.ok.0, inv.far.long, c.requires.enough, c.loop-number-test.true)) in
    c.in_err-part.ensures.damaged word (ap (λ (e : ScanFault). Err e) (same_fault c.from_residual.result c.in_err-part.field-0.0 c.from_residual.ensures.1 is)) (runs_of_sector i runs)
    (subst (λ kept. FindsPart g.S.Sectors.keeps_word (g.S.Sectors.image kept (get_or numbers i 0)) c.min.result (runs_of_sector i runs)) (sym inv.kept) part)

pub loop-number-preserved : goal.loop-number-preserved
loop-number-preserved g c =
    let inv = c.loop-number.invariant in
    let i = c.loop-number.number-index in
    let numbers = c.args.numbers.now in
    let image = g.S.Sectors.image (g.S.Sectors.kept c.args.sectors.now) in
    let found = subst (λ kept. FindsPart g.S.Sectors.keeps_word (g.S.Sectors.image kept (get_or numbers i 0)) c.min.result c.in_ok-part.part.items) inv.kept c.in_ok-part.ensures.found in
    let within : 500 * i < c.args.count = omega (arith, c.requires.enough, c.loop-number-test.true) in
    let wide : c.min.result ≡ min (c.args.count - length c.loop-number.runs.items) 500 = omega (arith, c.min.ensures, c.len.ensures, c.loop-number.runs.ok.0) in
    record {
      far = subst (λ (runs : List Run). AreReadTo g.S.Sectors.keeps_word image numbers c.args.count (i + 1) runs) (sym c.in_ok-append.ensures.items)
          (read_more g.S.Sectors.keeps_word image numbers c.args.count i c.loop-number.runs.items c.in_ok-part.part.items inv.far within c.min.result wide found);
      kept = c.read_part.ensures.kept ∙ inv.kept;
      health = c.in_ok-part.ensures.health.stays (λ e. cc) ∙ inv.health;
    }

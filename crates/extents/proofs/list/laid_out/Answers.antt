use Rattle.std.proofs.Common.{◌≡◌, get_or, length, vec_len, subst, sym, ◌∙◌, rules, arith}
use Rattle.std.proofs.lemmas.List.{get_or_default}
use Rattle.extents.specs.declared.run.Run.{Run}
use Rattle.extents.specs.Runs.{AreRunsOf}
use Rattle.extents.proofs.Holes.{resized}
use Rattle.extents.proofs.Laying.{IsNext, AreLaid, AreLaid-more, AreRunsOf-laid}
use Rattle.extents.proofs.list.laid_out.Goals as goal

no_run : Run
no_run = record { block = 0; length = 0; sector = 0 }

pub loop-run-preserved : goal.loop-run-preserved
unfolding no_run
loop-run-preserved c =
    let runs = c.args.runs.now in
    let i = c.loop-run.run-index in
    let run = get_or runs i no_run in
    let blocks = c.loop-run.sectors.items in
    let len : c.len.result ≡ length blocks = omega (arith, c.len.ensures, c.loop-run.sectors.ok.0) in
    AreLaid-more c.args.count runs i c.loop-run.sectors.items c.loop-run.invariant run c.loop-run-test.true (get_or_default runs i no_run run c.loop-run-test.true) c.put_run.new.sectors.items (subst (λ n. IsNext n c.args.count run) len (c.if-not-fits.ensures.0 (search rules)))
    (omega (arith, c.in_ok-put_run.ensures.len, c.put_run.new.sectors.ok.0)) c.in_ok-put_run.ensures.blocks

pub returns-clause-runs : goal.returns-clause-runs
returns-clause-runs c =
    let runs = c.args.runs.now in
    let end : c.loop-run.run-index ≡ length runs = omega arith in
    let blocks = c.loop-run.sectors.items in
    let len : vec_len c.loop-run.sectors ≡ length blocks = omega (arith, c.loop-run.sectors.ok.0) in
    let laid = subst (λ i. AreLaid c.args.count runs i blocks) end c.loop-run.invariant in
    subst (AreRunsOf runs) (sym (c.in_ok-resize.ensures.items ∙ rw len (resized blocks c.args.count laid.within))) (AreRunsOf-laid c.args.count runs blocks laid)

use Rattle.std.proofs.Common.{◌∙◌, sym, arith}
use Rattle.volume_load.proofs.RunLaws.{same_count, fills}
use Rattle.volume_load.proofs.runs.runs_in.Goals as goal

pub returns-then-len-count-clause-damaged : goal.returns-then-len-count-clause-damaged
returns-then-len-count-clause-damaged c = λ is runs found.
    let fill = fills c.args.content.now c.args.count runs found c.requires.some c.requires.few in
    let same = same_count runs c.in_ok-runs.runs.items fill c.in_ok-runs.ensures.fill (sym (found.encoded tt) ∙ c.in_ok-runs.ensures.found) in
    c.if-len-count.true (omega (arith, found.count_is, c.len.ensures, c.in_ok-runs.runs.ok.0))

use Rattle.std.proofs.Common.{length, arith, sym, ◌∙◌}
use Rattle.std.proofs.lemmas.Bool.{eqb-false}
use Rattle.journal.proofs.GateBytes.{gate_open}
use Rattle.journal.proofs.gate.encode.Goals as goal

pub returns-then-not-is_empty : goal.returns-then-not-is_empty
returns-then-not-is_empty c =
    let some = eqb-false (length c.args.targets.now) 0 (sym c.is_empty.ensures ∙ c.if-not-is_empty.true) in
    gate_open c.args.targets.now c.write_words.new.sector c.closed-sector.result (omega (arith, some)) c.closed-sector.ensures c.write_words.ensures

use Rattle.std.proofs.Common.{◌+◌, ◌≤◌, ◌++◌, length, arith, ap, ◌∙◌}
use Rattle.std.proofs.lemmas.List.{length-append}
use Rattle.model.specs.Wire.WireAnswers.{exchange_id_answer}
use Rattle.wire.specs.AnswerViews.{exchange_id_view as answer_view}
use Rattle.compound.proofs.Identity.{identity_short}
use Rattle.compound.proofs.clients.encode.Goals as goal

pub unreachable-requires : goal.unreachable-requires
unreachable-requires c =
    let short = identity_short (answer_view c.args.answer.now) c.requires.names.0 c.requires.names.1 in
    let full = c.in-Err.ensures.full in
    omega (arith, short, full, c.requires.memory.1, ap length c.requires.memory.0)

pub returns-clause-short : goal.returns-clause-short
returns-clause-short c =
    let text = exchange_id_answer.encoding (answer_view c.args.answer.now) in
    let short = identity_short (answer_view c.args.answer.now) c.requires.names.0 c.requires.names.1 in
    let written = ap length (c.into_vec.ensures.bytes ∙ c.in-Ok.ensures.ok) in
    omega (arith, short, written, length-append c.args.memory.bytes text, ap length c.requires.memory.0)

use Rattle.std.proofs.Common.{◌≡◌}
use Rattle.model.specs.Wire.WireAnswers.{encoded_answer}
use Rattle.wire.specs.OutcomeView.{answer_view}
use Rattle.wire.proofs.Writes.{writes}
use Rattle.wire.proofs.outcome.write_done.Goals as goal

pub returns-in_err-write_u32 : goal.returns-in_err-write_u32
returns-in_err-write_u32 c =
    let same : (encoded_answer (answer_view c.args.answer.now)).number ≡ c.number.result = cc in
    rw same (search writes)

pub returns-in_err-write_u32-2 : goal.returns-in_err-write_u32-2
returns-in_err-write_u32-2 c =
    let same : (encoded_answer (answer_view c.args.answer.now)).number ≡ c.number.result = cc in
    rw same (search writes)

pub returns : goal.returns
returns c =
    let same : (encoded_answer (answer_view c.args.answer.now)).number ≡ c.number.result = cc in
    rw same (search writes)

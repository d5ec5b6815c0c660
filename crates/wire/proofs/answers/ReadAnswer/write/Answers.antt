use Rattle.wire.proofs.Writes.{writes}
use Rattle.wire.proofs.answers.ReadAnswer.write.Goals as goal

pub returns-in_err-write_bool : goal.returns-in_err-write_bool
returns-in_err-write_bool c = search writes

pub returns : goal.returns
returns c = search writes

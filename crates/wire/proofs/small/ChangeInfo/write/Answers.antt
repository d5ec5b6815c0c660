use Rattle.wire.proofs.Writes.{writes}
use Rattle.wire.proofs.small.ChangeInfo.write.Goals as goal

pub returns-in_err-write_bool : goal.returns-in_err-write_bool
returns-in_err-write_bool c = search writes

pub returns-in_err-write_u64 : goal.returns-in_err-write_u64
returns-in_err-write_u64 c = search writes

pub returns : goal.returns
returns c = search writes

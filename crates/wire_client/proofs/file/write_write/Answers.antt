use Rattle.wire.proofs.Writes.{writes}
use Rattle.wire_client.proofs.file.write_write.Goals as goal

pub returns-in_err-write : goal.returns-in_err-write
returns-in_err-write c = search writes

pub returns-in_err-write_u64 : goal.returns-in_err-write_u64
returns-in_err-write_u64 c = search writes

pub returns-in_err-write-2 : goal.returns-in_err-write-2
returns-in_err-write-2 c = search writes

pub returns : goal.returns
returns c = search writes

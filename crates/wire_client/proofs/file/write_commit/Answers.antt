use Rattle.wire.proofs.Writes.{writes}
use Rattle.wire_client.proofs.file.write_commit.Goals as goal

pub returns-in_err-write_u64 : goal.returns-in_err-write_u64
returns-in_err-write_u64 c = search writes

pub returns : goal.returns
returns c = search writes

use Rattle.wire.proofs.Writes.{writes}
use Rattle.wire_client.proofs.small.write_implementation.Goals as goal

pub returns-in_err-write_opaque : goal.returns-in_err-write_opaque
returns-in_err-write_opaque c = search writes

pub returns-in_err-write_opaque-2 : goal.returns-in_err-write_opaque-2
returns-in_err-write_opaque-2 c = search writes

pub returns-in_err-write_u64 : goal.returns-in_err-write_u64
returns-in_err-write_u64 c = search writes

pub returns : goal.returns
returns c = search writes

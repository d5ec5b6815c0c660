use Rattle.wire.proofs.Writes.{writes}
use Rattle.wire_client.proofs.small.write_credential.Goals as goal

pub returns-in_err-write_u32 : goal.returns-in_err-write_u32
returns-in_err-write_u32 c = search writes

pub returns-in_err-write_opaque : goal.returns-in_err-write_opaque
returns-in_err-write_opaque c = search writes

pub returns : goal.returns
returns c = search writes

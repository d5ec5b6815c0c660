use Rattle.wire.proofs.Writes.{writes}
use Rattle.wire_client.proofs.session.write_exchange_id.Goals as goal

pub returns-in_err-write_fixed : goal.returns-in_err-write_fixed
returns-in_err-write_fixed c = search writes

pub returns-in_err-write_opaque : goal.returns-in_err-write_opaque
returns-in_err-write_opaque c = search writes

pub returns-in_err-write_u32 : goal.returns-in_err-write_u32
returns-in_err-write_u32 c = search writes

pub returns : goal.returns
returns c = search writes

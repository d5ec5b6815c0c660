use Rattle.wire.proofs.Writes.{writes}
use Rattle.wire_client.proofs.session.write_exchange_id_rest.Goals as goal

pub returns-in_err-write_u32 : goal.returns-in_err-write_u32
returns-in_err-write_u32 c = search writes

pub returns : goal.returns
returns c = search writes

use Rattle.wire.proofs.Writes.{writes}
use Rattle.wire_client.proofs.Securities.{securities_text}
use Rattle.wire_client.proofs.session.write_securities.Goals as goal

pub returns-in_err-write_u32 : goal.returns-in_err-write_u32
returns-in_err-write_u32 c = rw (securities_text c.args.list.now) (search writes)

pub returns : goal.returns
returns c = rw (securities_text c.args.list.now) (search writes)

use Rattle.xdr.proofs.Writing.{wrote_on}
use Rattle.client.proofs.call.write_call.Goals as goal

pub returns : goal.returns
returns c = wrote_on c.in_ok-write_u32.ensures.wrote (wrote_on c.in_ok-write_u32-2.ensures.wrote (wrote_on c.in_ok-write_u32-3.ensures.wrote c.write_procedure.ensures))

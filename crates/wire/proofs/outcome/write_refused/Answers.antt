use Rattle.wire.proofs.Writes.{writes}
use Rattle.wire.proofs.outcome.write_refused.Goals as goal

pub returns-in_err-write_u32 : goal.returns-in_err-write_u32
returns-in_err-write_u32 c = search writes

pub returns-in_err-write_u32-2 : goal.returns-in_err-write_u32-2
returns-in_err-write_u32-2 c = rw (← c.code.ensures) (search writes)

pub returns : goal.returns
returns c = rw (← c.code.ensures) (search writes)

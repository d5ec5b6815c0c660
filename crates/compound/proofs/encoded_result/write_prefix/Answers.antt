use Rattle.xdr.proofs.Writing.{wrote_on, wrote_exit}
use Rattle.compound.proofs.encoded_result.write_prefix.Goals as goal

pub returns-in_err-write_u32 : goal.returns-in_err-write_u32
returns-in_err-write_u32 c =
    rw (← c.number.ensures) (wrote_exit _ c.from_residual.ensures.1 c.in_err-write_u32.ensures.wrote)

pub returns : goal.returns
returns c =
    rw (← c.number.ensures) (wrote_on c.in_ok-write_u32.ensures.wrote c.write_u32-2.ensures.wrote)

use Rattle.std.proofs.Common.{arith}
use Rattle.std.proofs.lemmas.List.{length-append}
use Rattle.xdr.proofs.Sizes.{padded_length}
use Rattle.xdr.proofs.Numbers.{length-number_32, length-number_64}
use Rattle.wire.proofs.fits.tell_open.Goals as goal

pub returns-clause-bound : goal.returns-clause-bound
returns-clause-bound c = simp (length-append, length-number_32, length-number_64, padded_length) (omega (arith, c.tell_state.ensures.1, c.tell_bitmap.ensures.bound))

use Rattle.std.proofs.Common.{arith}
use Rattle.std.proofs.lemmas.List.{length-append}
use Rattle.xdr.proofs.Numbers.{length-number_32, length-number_64}
use Rattle.wire.proofs.fits.tell_create.Goals as goal

pub returns-clause-bound : goal.returns-clause-bound
returns-clause-bound c = simp (length-append, length-number_32, length-number_64) (omega (arith, c.tell_bitmap.ensures.bound))

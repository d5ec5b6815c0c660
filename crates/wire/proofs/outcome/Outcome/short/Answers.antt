use Rattle.std.proofs.Common.{arith}
use Rattle.std.proofs.lemmas.List.{length-append}
use Rattle.xdr.proofs.Numbers.{length-number_32}
use Rattle.wire.proofs.outcome.Outcome.short.Goals as goal

pub returns-clause-bound : goal.returns-clause-bound
returns-clause-bound c = simp (length-append, length-number_32) (omega (arith, c.tell_fits.ensures.bound))

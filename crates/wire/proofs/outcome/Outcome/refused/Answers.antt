use Rattle.std.proofs.Common.{arith}
use Rattle.std.proofs.lemmas.List.{length-append}
use Rattle.xdr.proofs.Numbers.{length-number_32}
use Rattle.wire.specs.Numbers.{number_of}
use Rattle.wire.proofs.Sizes.{refusal_short}
use Rattle.wire.proofs.outcome.Outcome.refused.Goals as goal

pub returns-clause-bound : goal.returns-clause-bound
returns-clause-bound c = simp (length-append, length-number_32) (omega (arith, refusal_short (number_of c.args.operation)))

use Rattle.std.proofs.Common.{arith, rules}
use Rattle.compound.proofs.CloseLaws.{closed_length}
use Rattle.compound.proofs.closing.closed.Goals as goal

pub returns : goal.returns
returns c = record {
  is = search rules;
  fits = search rules;
  small = rw c.short.ensures.is (omega (arith, closed_length));
}

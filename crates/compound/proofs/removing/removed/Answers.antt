use Rattle.std.proofs.Common.{arith, rules}
use Rattle.model.specs.Server.World.{outcome_text}
use Rattle.compound.proofs.removing.removed.Goals as goal

pub returns : goal.returns
unfolding outcome_text
returns c = record {
  is = search rules;
  fits = search rules;
  small = rw c.short.ensures.is (omega (arith, c.short.ensures.bound));
}

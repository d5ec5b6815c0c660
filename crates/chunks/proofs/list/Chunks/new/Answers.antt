use Rattle.std.proofs.Common.{refl, arith}
use Rattle.chunks.proofs.list.Chunks.new.Goals as goal

pub invariant_of-result : goal.invariant_of-result
invariant_of-result g c = rw (c.new.ensures.items, c.new-2.ensures.items) record { each = tt; few = omega arith; ending = refl }

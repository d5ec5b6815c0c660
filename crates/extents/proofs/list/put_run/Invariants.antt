use Rattle.extents.proofs.Laying.{IsLaidTo}
use Rattle.extents.proofs.list.put_run.Given as goal

abbrev pub invariant-loop-i : goal.invariant-loop-i
invariant-loop-i l = IsLaidTo l.fn.sectors.items l.run l.i l.sectors.items

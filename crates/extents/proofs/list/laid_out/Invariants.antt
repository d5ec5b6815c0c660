use Rattle.extents.proofs.Laying.{AreLaid}
use Rattle.extents.proofs.list.laid_out.Given as goal

abbrev pub invariant-loop-run : goal.invariant-loop-run
invariant-loop-run l = AreLaid l.count l.runs l.run-index l.sectors.items

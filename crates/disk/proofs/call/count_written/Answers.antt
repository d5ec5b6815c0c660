use Rattle.std.proofs.Common.{arith}
use Rattle.disk.proofs.CallLemmas.{length-written_some, length-written_none}
use Rattle.disk.proofs.call.count_written.Goals as goal
use Rattle.disk.proofs.call.count_written.Goals.{in-Some, in-None}

pub loop-call-preserved : goal.loop-call-preserved
loop-call-preserved c = elim c.match-content_for.branch [
  | in-Some w ↦ record { few = omega arith; counted = omega (arith, length-written_some _ _ _ _ _ c.loop-call-test.true w.in-Some.ensures) }
  | in-None w ↦ record { few = omega arith; counted = omega (arith, length-written_none _ _ _ _ c.loop-call-test.true w.in-None.ensures) }
]

use Rattle.std.proofs.Common.{◌<◌, length, arith}
use Rattle.disk.proofs.CallLemmas.{replayed_write, replayed_sync}
use Rattle.disk.proofs.call.replay.Goals as goal
use Rattle.disk.proofs.call.replay.Goals.{in-Write, in-Sync}

pub loop-call-preserved : goal.loop-call-preserved
loop-call-preserved c = elim c.match-call.branch [
  | in-Write w ↦ λ n below. (let inside : n < length c.loop-call.rows = omega arith in
      rw w.rows-is (replayed_write _ _ _ _ _ _ _ n c.loop-call-test.true w.in-Write.is (c.loop-call.invariant n below) (w.put_row.ensures n inside)))
  | in-Sync w ↦ λ n below. rw w.rows-is (replayed_sync _ _ _ _ _ n c.loop-call-test.true w.in-Sync.is (c.loop-call.invariant n below))
]

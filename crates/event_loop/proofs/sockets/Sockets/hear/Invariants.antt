use Rattle.std.proofs.Common.{None}
use Rattle.event_loop.specs.Runs.{KeepsPeers}
use Rattle.event_loop.proofs.sockets.Sockets.hear.Given as goal

abbrev pub invariant-loop-event : goal.invariant-loop-event
invariant-loop-event g l =
    (goal.iterator-loop-event g).can_next l.event-iterator ×
    (goal.iterator-loop-event g).is_finite l.event-iterator ×
    KeepsPeers g.D.Device.keeps_word None l.fn.peers l.peers

use Rattle.event_loop.proofs.Sweeps.{keeps_none, keeps_then}
use Rattle.event_loop.proofs.sockets.Sockets.hear.Goals as goal

pub returns-in_err-wait : goal.returns-in_err-wait
returns-in_err-wait g c = keeps_none c.args.peers.now

pub loop-event-init : goal.loop-event-init
loop-event-init g c = (tt, tt, keeps_none c.args.peers.now)

pub loop-event-preserved-then-token-lt-MAX_CONNECTIONS : goal.loop-event-preserved-then-token-lt-MAX_CONNECTIONS
loop-event-preserved-then-token-lt-MAX_CONNECTIONS g c = (tt, tt, keeps_then c.loop-event.invariant.2 c.wake_peer.ensures)

pub loop-event-preserved : goal.loop-event-preserved
loop-event-preserved g c = (tt, tt, c.loop-event.invariant.2)

pub returns : goal.returns
returns g c = c.loop-event.invariant.2

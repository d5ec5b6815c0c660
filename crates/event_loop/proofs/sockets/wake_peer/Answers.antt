use Rattle.event_loop.proofs.Sweeps.{keeps_woken}
use Rattle.event_loop.proofs.sockets.wake_peer.Goals as goal

pub returns : goal.returns
returns g c = keeps_woken c.args.peers.now c.wake.new.self _ _ _ c.wake.ensures.serves c.wake.ensures.wakes

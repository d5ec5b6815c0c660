use Rattle.event_loop.proofs.Runs.{has_none}
use Rattle.event_loop.proofs.hub.peers_of.Goals as goal

pub returns : goal.returns
returns g c = has_none _ c.args.server _ c.in_ok-server.was c.in_ok-new.ensures.0 c.in_ok-new.ensures.1

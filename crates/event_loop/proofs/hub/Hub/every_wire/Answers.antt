use Rattle.event_loop.proofs.Runs.{every_loop}
use Rattle.event_loop.proofs.hub.Hub.every_wire.Goals as goal

pub returns : goal.returns
returns g c = every_loop c.args.self.now.peers

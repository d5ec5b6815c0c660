use Rattle.event_loop.proofs.Sweeps.{keeps_none, keeps_same}
use Rattle.event_loop.proofs.hub.Hub.rest.Goals as goal

pub returns-then-self : goal.returns-then-self
returns-then-self g c = keeps_none c.args.self.now.peers

pub returns-in_err-checkpoint : goal.returns-in_err-checkpoint
returns-in_err-checkpoint g c = keeps_same c.args.self.now.peers c.checkpoint.new.self c.checkpoint.ensures.serves c.checkpoint.ensures.leaves

pub returns : goal.returns
returns g c = keeps_same c.args.self.now.peers c.checkpoint.new.self c.checkpoint.ensures.serves c.checkpoint.ensures.leaves

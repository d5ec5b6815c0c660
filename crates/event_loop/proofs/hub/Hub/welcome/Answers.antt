use Rattle.event_loop.proofs.Sweeps.{keeps_none, meets}
use Rattle.event_loop.proofs.hub.Hub.welcome.Goals as goal

pub returns-in_default : goal.returns-in_default
returns-in_default g c = meets (keeps_none c.args.self.now.peers)

pub returns-then-not-are_full : goal.returns-then-not-are_full
returns-then-not-are_full g c = c.admit.ensures

pub returns-in-Some-make_way : goal.returns-in-Some-make_way
returns-in-Some-make_way g c = c.make_way.ensures

pub returns-in-None : goal.returns-in-None
returns-in-None g c = c.make_way.ensures

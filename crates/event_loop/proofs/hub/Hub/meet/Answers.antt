use Rattle.event_loop.proofs.Sweeps.{keeps_none, meets}
use Rattle.event_loop.proofs.hub.Hub.meet.Goals as goal

pub returns-in_err-received : goal.returns-in_err-received
returns-in_err-received g c = meets (keeps_none c.args.self.now.peers)

pub returns-in_err-welcomed : goal.returns-in_err-welcomed
returns-in_err-welcomed g c = c.welcome.ensures

pub returns : goal.returns
returns g c = c.welcome.ensures

use Rattle.event_loop.proofs.Sweeps.{keeps_dismissed, keeps_none, meets}
use Rattle.event_loop.proofs.sockets.Sockets.make_way.Goals as goal

pub returns-in_err-way : goal.returns-in_err-way
returns-in_err-way g c = meets (keeps_none c.args.peers.now)

pub returns : goal.returns
returns g c = (_, keeps_dismissed c.args.peers.now c.dismiss.new.self _ c.dismiss.ensures.serves c.dismiss.ensures.dismisses)

use Rattle.event_loop.proofs.AnyCalls.{goes_none}
use Rattle.event_loop.proofs.seating.ask.Goals as goal

pub returns-in_default : goal.returns-in_default
returns-in_default g c = goes_none c.args.server.now

pub returns-in_err-feed : goal.returns-in_err-feed
returns-in_err-feed g c = c.feed.ensures

pub returns : goal.returns
returns g c = c.feed.ensures

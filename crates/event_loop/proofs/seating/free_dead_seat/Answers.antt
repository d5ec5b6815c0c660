use Rattle.event_loop.proofs.AnyCalls.{goes_none}
use Rattle.event_loop.proofs.seating.free_dead_seat.Goals as goal

pub returns-in-Some : goal.returns-in-Some
returns-in-Some g c = c.destroy.ensures

pub returns-in-None : goal.returns-in-None
returns-in-None g c = goes_none c.args.server.now

use Rattle.event_loop.proofs.AnyCalls.{goes_none}
use Rattle.event_loop.proofs.hub.begin_next_run.Goals as goal

pub returns-in_err-now : goal.returns-in_err-now
returns-in_err-now g c = goes_none c.args.server.now

pub returns-in_err-free_dead_seats : goal.returns-in_err-free_dead_seats
returns-in_err-free_dead_seats g c = c.free_dead_seats.ensures

pub returns : goal.returns
returns g c = c.free_dead_seats.ensures

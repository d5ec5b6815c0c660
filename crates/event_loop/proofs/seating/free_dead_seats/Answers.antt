use Rattle.event_loop.proofs.AnyCalls.{goes_none, goes_then}
use Rattle.event_loop.proofs.seating.free_dead_seats.Goals as goal

pub returns-in_err-moment : goal.returns-in_err-moment
returns-in_err-moment g c = goes_none c.args.server.now

pub returns-in_err-conn : goal.returns-in_err-conn
returns-in_err-conn g c = c.connect.ensures

pub loop-number-init : goal.loop-number-init
loop-number-init g c = c.connect.ensures

pub loop-number-preserved : goal.loop-number-preserved
loop-number-preserved g c = goes_then c.loop-number.invariant c.free_dead_seat.ensures

pub returns-in_err-status : goal.returns-in_err-status
returns-in_err-status g c = goes_then c.loop-number.invariant c.free_dead_seat.ensures

pub returns : goal.returns
returns g c = goes_then c.loop-number.invariant c.hangup.ensures

use Rattle.event_loop.specs.Runs.{GoesAny}
use Rattle.event_loop.proofs.seating.free_dead_seats.Given as goal

abbrev pub invariant-loop-number : goal.invariant-loop-number
invariant-loop-number g l = GoesAny g.D.Device.keeps_word l.fn.server l.server

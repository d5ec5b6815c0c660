use Rattle.event_loop.specs.Runs.{GoesAny}
use Rattle.event_loop.proofs.seating.run.Given as goal

abbrev pub invariant-loop : goal.invariant-loop
invariant-loop g l = GoesAny g.D.Device.keeps_word l.fn.server l.server

use Rattle.event_loop.proofs.Runs.{runs_then}
use Rattle.event_loop.proofs.Turns.{had_turns_then}
use Rattle.event_loop.proofs.hub.Hub.step_on.Goals as goal

pub loop-init : goal.loop-init
loop-init g c = (c.step_all.ensures.calls, c.in_ok-pace.ensures.fair)

pub loop-preserved : goal.loop-preserved
loop-preserved g c =
    (runs_then c.loop.invariant.0 c.step_all-in-loop.ensures.calls, had_turns_then c.loop.invariant.1 c.step_all-in-loop.ensures.calls)

pub returns-in_err-pace-clause-calls : goal.returns-in_err-pace-clause-calls
returns-in_err-pace-clause-calls g c = c.step_all.ensures.calls

pub returns-in_err-pace-2-clause-calls : goal.returns-in_err-pace-2-clause-calls
returns-in_err-pace-2-clause-calls g c = runs_then c.loop.invariant.0 c.step_all-in-loop.ensures.calls

pub returns-then-ne-clause-calls : goal.returns-then-ne-clause-calls
returns-then-ne-clause-calls g c = c.loop.invariant.0

pub returns-then-ne-clause-fair : goal.returns-then-ne-clause-fair
returns-then-ne-clause-fair g c = c.loop.invariant.1

pub returns-clause-calls : goal.returns-clause-calls
returns-clause-calls g c = c.loop.invariant.0

pub returns-clause-fair : goal.returns-clause-fair
returns-clause-fair g c = c.loop.invariant.1

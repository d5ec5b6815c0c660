use Rattle.event_loop.proofs.Sweeps.{round_of, round_then}
use Rattle.event_loop.proofs.Runs.{runs_then}
use Rattle.event_loop.proofs.hub.Hub.round.Goals as goal

pub returns-in_err-met-clause-calls : goal.returns-in_err-met-clause-calls
returns-in_err-met-clause-calls g c = c.meet.ensures.1.calls

pub returns-in_err-stepped-clause-calls : goal.returns-in_err-stepped-clause-calls
returns-in_err-stepped-clause-calls g c = runs_then c.meet.ensures.1.calls c.step_on.ensures.calls

pub returns-in_err-flush-clause-calls : goal.returns-in_err-flush-clause-calls
returns-in_err-flush-clause-calls g c = runs_then (runs_then c.meet.ensures.1.calls c.step_on.ensures.calls) c.flush.ensures

pub returns-then-not-branch-clause-calls : goal.returns-then-not-branch-clause-calls
returns-then-not-branch-clause-calls g c = runs_then (runs_then c.meet.ensures.1.calls c.step_on.ensures.calls) c.flush.ensures

pub returns-then-not-branch-clause-fair : goal.returns-then-not-branch-clause-fair
returns-then-not-branch-clause-fair g c = round_then (round_of c.meet.ensures c.in_ok-stepped.ensures.fair) c.flush.ensures

pub returns-in_err-sent-clause-calls : goal.returns-in_err-sent-clause-calls
returns-in_err-sent-clause-calls g c = runs_then (runs_then (runs_then c.meet.ensures.1.calls c.step_on.ensures.calls) c.flush.ensures) c.step_all.ensures.calls

pub returns-clause-calls : goal.returns-clause-calls
returns-clause-calls g c = runs_then (runs_then (runs_then c.meet.ensures.1.calls c.step_on.ensures.calls) c.flush.ensures) c.step_all.ensures.calls

pub returns-clause-fair : goal.returns-clause-fair
returns-clause-fair g c = round_then (round_then (round_of c.meet.ensures c.in_ok-stepped.ensures.fair) c.flush.ensures) c.step_all.ensures.calls

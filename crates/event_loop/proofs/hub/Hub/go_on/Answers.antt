use Rattle.event_loop.proofs.Sweeps.{keeps_then, round_since}
use Rattle.event_loop.proofs.Runs.{runs_then}
use Rattle.event_loop.proofs.hub.Hub.go_on.Goals as goal

pub returns-in_err-has_heard-clause-calls : goal.returns-in_err-has_heard-clause-calls
returns-in_err-has_heard-clause-calls g c = c.hear.ensures.calls

pub returns-in_err-rest-clause-calls : goal.returns-in_err-rest-clause-calls
returns-in_err-rest-clause-calls g c = runs_then c.hear.ensures.calls c.rest.ensures.calls

pub returns-in_err-now-clause-calls : goal.returns-in_err-now-clause-calls
returns-in_err-now-clause-calls g c = runs_then c.hear.ensures.calls c.rest.ensures.calls

pub returns-in_err-pace-clause-calls : goal.returns-in_err-pace-clause-calls
returns-in_err-pace-clause-calls g c = runs_then (runs_then c.hear.ensures.calls c.rest.ensures.calls) c.round.ensures.calls

pub returns-clause-calls : goal.returns-clause-calls
returns-clause-calls g c = runs_then (runs_then c.hear.ensures.calls c.rest.ensures.calls) c.round.ensures.calls

pub returns-clause-fair : goal.returns-clause-fair
returns-clause-fair g c = round_since (keeps_then c.hear.ensures c.rest.ensures) c.in_ok-pace.ensures.fair

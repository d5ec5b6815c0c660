use Rattle.event_loop.proofs.Runs.{runs_none, runs_then}
use Rattle.event_loop.proofs.hub.Hub.run.Goals as goal

pub loop-init : goal.loop-init
loop-init g c = runs_none c.args.self.now.peers

pub loop-preserved : goal.loop-preserved
loop-preserved g c = runs_then c.loop.invariant c.go_on.ensures.calls

pub returns-then-are_done : goal.returns-then-are_done
returns-then-are_done g c = c.loop.invariant

pub returns-in_err-now : goal.returns-in_err-now
returns-in_err-now g c = c.loop.invariant

pub returns-then-is_forgotten : goal.returns-then-is_forgotten
returns-then-is_forgotten g c = c.loop.invariant

pub returns-in_err-go_on : goal.returns-in_err-go_on
returns-in_err-go_on g c = runs_then c.loop.invariant c.go_on.ensures.calls

pub returns : goal.returns
returns g c = c.loop.invariant

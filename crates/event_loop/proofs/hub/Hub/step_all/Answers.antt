use Rattle.std.proofs.Common.{◌≡◌, arith}
use Rattle.event_loop.proofs.Runs.{runs_none, runs_then}
use Rattle.event_loop.proofs.Turns.{had_turns, stepped_none, stepped_on}
use Rattle.event_loop.proofs.hub.Hub.step_all.Goals as goal

pub loop-key-init : goal.loop-key-init
loop-key-init g c = (runs_none c.args.self.now.peers, stepped_none c.args.self.now.peers)

pub loop-key-preserved : goal.loop-key-preserved
loop-key-preserved g c = (
  runs_then c.loop-key.invariant.0 c.step.ensures.calls,
  stepped_on c.args.self.now.peers c.loop-key.self.peers c.step.new.self.peers c.loop-key.key _ c.loop-key.invariant.1 c.in_ok-step.ensures.fair,
)

pub returns-in_err-step-clause-calls : goal.returns-in_err-step-clause-calls
returns-in_err-step-clause-calls g c = runs_then c.loop-key.invariant.0 c.step.ensures.calls

pub returns-clause-calls : goal.returns-clause-calls
returns-clause-calls g c = c.loop-key.invariant.0

pub returns-clause-fair : goal.returns-clause-fair
returns-clause-fair g c =
    let all : c.loop-key.key ≡ 16 = omega arith in had_turns c.args.self.now.peers c.loop-key.self.peers c.loop-key.key c.loop-key.invariant.1 all

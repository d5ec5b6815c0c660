use Rattle.event_loop.specs.Runs.{HadTurns, RunsOn}
use Rattle.event_loop.proofs.hub.Hub.step_on.Given as goal

abbrev pub invariant-loop : goal.invariant-loop
invariant-loop g l =
    RunsOn g.D.Device.keeps_word l.fn.self.peers l.self.peers
    × HadTurns g.D.Device.keeps_word l.fn.self.peers l.self.peers

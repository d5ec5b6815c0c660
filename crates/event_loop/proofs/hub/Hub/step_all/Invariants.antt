use Rattle.event_loop.specs.Runs.{RunsOn}
use Rattle.event_loop.proofs.Turns.{HaveStepped}
use Rattle.event_loop.proofs.hub.Hub.step_all.Given as goal

abbrev pub invariant-loop-key : goal.invariant-loop-key
invariant-loop-key g l =
    RunsOn g.D.Device.keeps_word l.fn.self.peers l.self.peers
    × HaveStepped g.D.Device.keeps_word l.fn.self.peers l.self.peers l.key

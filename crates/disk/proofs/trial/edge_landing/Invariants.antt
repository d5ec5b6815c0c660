use Rattle.std.proofs.Common.{◌≡◌, ◌++◌, drop}
use Rattle.disk.specs.Trial.{edge_landing_of}
use Rattle.disk.proofs.trial.edge_landing.Given as goal

abbrev pub invariant-loop-place : goal.invariant-loop-place
invariant-loop-place l = l.landing.items ++ edge_landing_of l.edge l.place (drop l.place l.unsynced) ≡ edge_landing_of l.edge 0 l.unsynced

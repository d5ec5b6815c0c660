use Rattle.std.proofs.Common.{◌≡◌, ◌∷◌}
use Rattle.disk.specs.declared.trial.Edge.TheVariants.{Nothing, Everything}
use Rattle.disk.specs.Trial.{lists_of, edge_landing_of, edges_below}
use Rattle.disk.proofs.trial.edge_landings.Given as goal

abbrev pub invariant-loop-place : goal.invariant-loop-place
invariant-loop-place l = lists_of l.landings.items ≡ edge_landing_of Nothing 0 l.unsynced ∷ edge_landing_of Everything 0 l.unsynced ∷ edges_below l.unsynced l.place

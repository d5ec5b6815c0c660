-- Whatever happens, and whenever the server crashes: each tree that may be left is one that a later
-- run may begin with.
use Rattle.std.specs.Prelude.{ℕ, ◌+◌, ◌<◌, ◌≤◌}
use Rattle.model_tree.specs.Seats.Seats.{Seats}
use Rattle.model_tree.specs.Trees.Fresh.{fresh_tree}
use Rattle.model_tree.specs.declared.limits.Limits.{Limits}
use Rattle.model_tree.specs.Trees.Stamp.{next_stamp}
use Rattle.model_tree.specs.Trees.Tree.{Tree}
use Rattle.model_tree.specs.Trees.WellFormed.{IsWellFormed, IsBefore}
use Rattle.model.specs.Server.World.{ServerLimits}
use Rattle.model.specs.Server.Runs.{Event, Serving, RunHistory, IsRun, MayLeave, mounted}

-- a run may begin with a tree that is well formed and has no stamp of that run
pub record IsStart (limits : Limits) (run : ℕ) (tree : Tree) : Type 0 where
  pub well_formed : IsWellFormed limits tree
  pub before : IsBefore (next_stamp run 0) tree

-- If the limits leave room for a node, and for a mode's five entries: the first run may begin with
-- the tree of a fresh volume, and each later one with what a run before it may leave at any moment
pub record EveryTreeIsSound (limits : ServerLimits) : Type 0 where
  pub first : (run : ℕ) → 0 < run → 1 ≤ limits.volume.nodes
      → limits.volume.aces_set + 5 ≤ limits.volume.aces
      → IsStart limits.volume run fresh_tree
  pub later : (run : ℕ) (start : Tree) (seats : Seats) (serving : Serving) (history : RunHistory)
      → limits.volume.aces_set + 5 ≤ limits.volume.aces → IsStart limits.volume run start
      → IsRun (mounted limits run start seats) serving history → (event : Event) (tree : Tree)
      → MayLeave serving event tree
      → (next : ℕ) → run < next → IsStart limits.volume next tree

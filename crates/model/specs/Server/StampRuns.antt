-- Over every run: each change gives the next stamp of its own run to all that it makes or alters,
-- whether a crash takes it away or not (RFC 8881, section 5.8.1.4).
use Rattle.std.specs.Prelude.{ℕ, ◌≡◌, ◌≢◌, ◌≤◌, ◌+◌, List, Some, slice_get}
use Rattle.model_tree.specs.Trees.Changes.{IsStamped}
use Rattle.model.specs.Server.Runs.{Event, Serving, RunHistory, IsRun, mounted, executed, done_with, before, stamp_in}
use Rattle.model.specs.Server.SoundRuns.{IsStart}
use Rattle.model_tree.specs.Seats.Seats.{Seats}
use Rattle.model_tree.specs.Trees.Tree.{Tree}
use Rattle.model.specs.Server.World.{ServerLimits, Entry}

-- an operation is of this run, and if it changes the tree, all that it leaves is the old tree's or
-- has this stamp
pub record GivesStamp (run : ℕ) (entry : Entry) : Type 0 where
  pub own : entry.state.context.run ≡ run
  pub given : before entry ≢ entry.after
      → IsStamped (stamp_in run entry) (before entry) entry.after

abbrev pub AreGiven : (run : ℕ) → List Entry → Type 0
AreGiven run done = (i : ℕ) (entry : Entry) → slice_get done i ≡ Some entry → GivesStamp run entry

-- the operation that is under way included
abbrev pub EveryStampIsGiven : Type 0
EveryStampIsGiven =
    (limits : ServerLimits) (run : ℕ) (start : Tree) (seats : Seats) (serving : Serving)
    (history : RunHistory) → limits.volume.aces_set + 5 ≤ limits.volume.aces
    → IsStart limits.volume run start
    → IsRun (mounted limits run start seats) serving history → (event : Event)
    → AreGiven run (done_with history (executed serving event))

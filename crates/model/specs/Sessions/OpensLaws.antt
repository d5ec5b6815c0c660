-- The opens of a run, as every operation on the tree keeps them: RFC 8881, sections 8.2 (stateids)
-- and 18.16 (OPEN).
use Rattle.std.specs.Prelude.{ℕ, ◌+◌, ◌≡◌, ◌≤◌, Some, IsTrue, IsFalse, length}
use Rattle.model_tree.specs.Seats.Seats.{Seats}
use Rattle.model_tree.specs.Trees.Keyed.{at, is_key, IsAbove}
use Rattle.model_tree.specs.declared.limits.Limits.{Limits}
use Rattle.model.specs.Sessions.Opens.{Opens, Open}
use Rattle.model.specs.Operations.Operation.{Argument}
use Rattle.model.specs.Operations.Step.{State, does}
use Rattle.model.specs.Server.Runs.{Serving, RunHistory, IsRun, mounted}
use Rattle.model.specs.Server.SoundRuns.{IsStart}
use Rattle.model.specs.Operations.StepLaws.{IsSound}
use Rattle.model_tree.specs.Trees.Tree.{Tree, is_directory_at}
use Rattle.model.specs.Server.World.{ServerLimits}

pub record AreOpens (limits : Limits) (tree : Tree) (opens : Opens) : Type 0 where
  -- serials are above 0, and none occurs twice
  pub rising : IsAbove 0 opens.known
  -- each was given in this run
  pub given : (serial : ℕ) (known : Open) → at serial opens.known ≡ Some known
      → serial ≤ opens.given
  -- each names a file of the tree: a removal ends those of its file
  pub nodes : (serial : ℕ) (known : Open) → at serial opens.known ≡ Some known
      → IsTrue (is_key known.number tree)
  pub files : (serial : ℕ) (known : Open) → at serial opens.known ≡ Some known
      → IsFalse (is_directory_at tree known.number)
  -- and there are not more than the limit
  pub few : length opens.known ≤ limits.opens

-- An operation keeps them, and the count of the serials that were given does not fall
pub record KeepsOpens (limits : Limits) (old new : State) : Type 0 where
  pub opens : AreOpens limits new.tree new.opens
  pub counts : old.opens.given ≤ new.opens.given

abbrev pub EveryStepKeepsOpens : Type 0
EveryStepKeepsOpens =
    (limits : Limits) (state : State) (now : ℕ) (operation : Argument) → IsSound limits state
    → AreOpens limits state.tree state.opens
    → KeepsOpens limits state (does limits state now operation).state

-- and so they are at each moment of every run of the server
abbrev pub EveryRunKeepsOpens : Type 0
EveryRunKeepsOpens =
    (limits : ServerLimits) (run : ℕ) (start : Tree) (seats : Seats) (serving : Serving)
    (history : RunHistory)
    → limits.volume.aces_set + 5 ≤ limits.volume.aces → IsStart limits.volume run start
    → IsRun (mounted limits run start seats) serving history
    → AreOpens limits.volume serving.world.tree serving.world.opens

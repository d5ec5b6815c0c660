-- What holds of every operation, whatever the tree and whoever asks.
use Rattle.std.specs.Prelude.{ℕ, ◌≡◌, ◌≢◌, ◌+◌, ◌^◌, ◌<◌, ◌≤◌, IsTrue, IsFalse}
use Rattle.model_tree.specs.declared.status.Status.{Status}
use Rattle.model.specs.Operations.Answer.{Answer, Outcome}
use Rattle.model_tree.specs.Trees.Changes.{IsStamped}
use Rattle.model_tree.specs.Trees.Fresh.{fresh_tree}
use Rattle.model_tree.specs.declared.limits.Limits.{Limits}
use Rattle.model.specs.Operations.Operation.{Argument}
use Rattle.model.specs.Operations.Step.{State, Stepped, alters, stamp_of, does, permitted}
use Rattle.model_tree.specs.Trees.WellFormed.{IsWellFormed, IsBefore}

-- the tree is well formed, all its stamps are from before the next one, each change had one, and
-- the limits leave a mode its five entries
pub record IsSound (limits : Limits) (state : State) : Type 0 where
  pub well_formed : IsWellFormed limits state.tree
  pub before : IsBefore (stamp_of state) state.tree
  pub counted : state.changes < 2 ^ 32
  pub room_for_mode : limits.aces_set + 5 ≤ limits.aces

-- what an operation in this state may come to
pub record IsLawful (limits : Limits) (state : State) (operation : Argument)
    (stepped : Stepped) : Type 0 where
  -- whatever is answered was permitted, and so was whatever changed the tree
  pub answer_is_permitted : (answer : Answer) → stepped.outcome ≡ Outcome.Done answer
      → IsTrue (permitted state.tree state.context operation)
  pub change_is_permitted : stepped.state.tree ≢ state.tree
      → IsTrue (permitted state.tree state.context operation)
  -- a refusal changes nothing, the context neither
  pub refusal_changes_nothing : (number : ℕ) (reason : Status)
      → stepped.outcome ≡ Outcome.Refused number reason
      → stepped.state ≡ state
  -- an operation that is no change leaves the tree, and the count of changes
  pub only_changes_alter : IsFalse (alters state operation)
      → (stepped.state.tree ≡ state.tree) × (stepped.state.changes ≡ state.changes)
  -- a change that is answered alters the tree, and is counted
  pub changes_alter : (answer : Answer) → IsSound limits state → IsTrue (alters state operation)
      → stepped.outcome ≡ Outcome.Done answer
      → (stepped.state.tree ≢ state.tree) × (stepped.state.changes ≡ state.changes + 1)
  -- and what it makes or alters has its stamp
  pub stamps : (answer : Answer) → IsSound limits state → IsTrue (alters state operation)
      → stepped.outcome ≡ Outcome.Done answer
      → IsStamped (stamp_of state) state.tree stepped.state.tree
  -- it is the same caller's COMPOUND, in the same run
  pub keeps_caller : (stepped.state.context.cred ≡ state.context.cred)
      × (stepped.state.context.client ≡ state.context.client)
      × (stepped.state.context.run ≡ state.context.run)
  -- a well-formed tree stays one
  pub keeps_soundness : IsSound limits state → IsSound limits stepped.state

abbrev pub EveryStepIsLawful : Type 0
EveryStepIsLawful = (limits : Limits) (state : State) (now : ℕ) (operation : Argument)
    → IsLawful limits state operation (does limits state now operation)

-- The first run is sound on a fresh volume, and each later one on the tree of any sound state of a
-- run before it
pub record RunsBeginSound : Type 0 where
  pub first : (limits : Limits) (state : State) → 1 ≤ limits.nodes
      → limits.aces_set + 5 ≤ limits.aces
      → state.tree ≡ fresh_tree → state.changes ≡ 0 → 0 < state.context.run → IsSound limits state
  pub later : (limits : Limits) (old new : State) → IsSound limits old
      → new.tree ≡ old.tree → new.changes ≡ 0 → old.context.run < new.context.run
      → IsSound limits new

-- What the operations of a COMPOUND see of a file system.
use Rattle.std.specs.Prelude.{◌≡◌, ℕ, true, List, Result, Ok, Err}
use Rattle.std.specs.Result.{result_err}
use Rattle.fs.specs.FileSystem.{FileSystem}
use Rattle.model.specs.Operations.Answer.{Answer}
use Rattle.fs.specs.Operations.{current_refusal, does_on}
use Rattle.fs.specs.Renaming.{info_of}
use Rattle.fs.specs.declared.fault.FsFault.{FsFault}
use Rattle.fs.specs.declared.fault.FsFault.TheVariants as fault
use Rattle.fs.specs.declared.renaming.Change.{Change}
use Rattle.model.specs.Operations.Context.{Context, has_current, current_number, has_saved, saved_number}
use Rattle.model.specs.Operations.Operation.{Argument, ChangeInfo, RenameArguments}
use Rattle.model.specs.Operations.Step.{State, refused}
use Rattle.model.specs.Server.World.{InProgress}
use Rattle.model_tree.specs.declared.status.Status.{Status}
use Rattle.model_tree.specs.declared.status.Status.TheVariants as status
use Rattle.wire.specs.Short.{IsRefusal}
use Rattle.wire.specs.declared.outcome.Outcome.TheVariants as outcomes
use Rattle.compound.specs.declared.fault.Fault.{Fault}
use Rattle.compound.specs.declared.fault.Fault.TheVariants as faults
use Rattle.compound.specs.declared.executed.Effect.TheVariants as effect
use Rattle.compound.specs.declared.executed.Executed.{Executed}
use Rattle.compound.specs.declared.executed.Executed.TheVariants as execution

-- faults of a file system that is up, of calls that change nothing
abbrev pub IsStatus : FsFault → Type 0
IsStatus (fault.Status reason) = Unit {0}
IsStatus _ = ⊥

-- a state of the request on this file system
pub record IsHere (fs : FileSystem) (request : InProgress) (state : State) : Type 0 where
  pub tree_is : state.tree ≡ fs.volume.tree
  pub changes_is : state.changes ≡ fs.changes
  pub context_is : state.context ≡ request.context

-- the result is that of the tests of the current filehandle
abbrev pub TestsHandle : FileSystem → InProgress → Result (Unit {0}) Status → Type 0
TestsHandle fs request result =
    (state : State) → IsHere fs request state → current_refusal state ≡ result_err result

-- the numbers of the saved node and of the current one
pub record AreBoth (context : Context) (numbers : ℕ × ℕ) : Type 0 where
  pub has_saved : has_saved context ≡ true
  pub saved_is : saved_number context ≡ numbers.0
  pub has_current : has_current context ≡ true
  pub current_is : current_number context ≡ numbers.1

-- the first two tests of RENAME, of the current filehandle, and that of a saved one refuse it
abbrev pub RefusesRename : FileSystem → InProgress → Status → Type 0
RefusesRename fs request reason =
    (state : State) (now : ℕ) (arguments : RenameArguments) → IsHere fs request state
    → does_on fs state now (Argument.Rename arguments)
    ≡ refused state (Argument.Rename arguments) reason

-- Changes

-- faults of a file system that is up, of calls that may change it
abbrev pub IsUp : FsFault → Type 0
IsUp (fault.Status reason) = IsRefusal reason
IsUp fault.Down = ⊥
IsUp _ = Unit {0}

-- an operation's refusal
abbrev pub refusal : (operation : ℕ) → Status → Executed
refusal operation reason = execution.Gives (outcomes.Refused operation reason) effect.Stays

-- what an operation comes to that its file system did not do
abbrev pub fault_result : (operation : ℕ) → FsFault → Result Executed Fault
fault_result operation (fault.Status reason) = Ok (refusal operation reason)
fault_result operation fault.NoRoom = Ok (refusal operation status.RepTooBig)
fault_result operation fault.Memory = Err faults.Memory
fault_result operation fault.Device = Err faults.Device
fault_result operation fault.Down = Err faults.Device

-- change values before and after
abbrev pub change_answer : (before after : ℕ) → ChangeInfo
change_answer before after = record { is_atomic = true; before = before; after = after }

-- what REMOVE returns, of its directory
abbrev pub removed_answer : (before after : ℕ) → Answer
removed_answer before after = Answer.Remove (change_answer before after)

-- if the change values do not matter
abbrev pub no_change : Change
no_change = record { before = 0; after = 0 }

-- what RENAME returns, of the directory that had the node and of the one that has it
abbrev pub renamed_answer : (source target : Change) → Answer
renamed_answer source target =
    Answer.Rename (record { source = info_of source; target = info_of target })

-- what a CREATE that made a directory returns: its parent's change value before and after
abbrev pub made_answer : (before after : ℕ) → (was_set : List ℕ) → Answer
made_answer before after was_set =
    Answer.Create
    (record {
      change = record { is_atomic = true; before = before; after = after };
      was_set = was_set;
    })

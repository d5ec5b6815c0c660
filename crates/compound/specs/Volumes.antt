-- What the operations of a COMPOUND do to the file system below it, by the definition.
use Rattle.std.specs.Prelude.{ℕ, Bool, false, List, Option, Some, None, Result, Ok, Err, ◌≡◌, ◌≢◌, ◌⊎◌}
use Rattle.fs.specs.FileSystem.{FileSystem}
use Rattle.layout.specs.Stands.{Kept}
use Rattle.model.specs.Operations.Operation.{Argument}
use Rattle.model.specs.Server.Runs.{is_durable}
use Rattle.model_tree.specs.Seats.Seats.{Seats}
use Rattle.model.specs.Server.World as turns
use Rattle.model.specs.Server.World.{World, InProgress, HasRun, Entry, Turned, executed_entry}
use Rattle.volume.specs.Changes.{Given, Ending, Done, Nothing, Broken}
use Rattle.compound.specs.Operates.{run_in_room, tree_by, world_by}
use Rattle.compound.specs.Runs.{with_rest}
use Rattle.compound.specs.States.{SharedState, HasState}
use Rattle.compound.specs.declared.fault.Fault.{Fault}
use Rattle.compound.specs.declared.fault.Fault.TheVariants as fault
use Rattle.compound.specs.declared.step.StepError.{StepError}
use Rattle.volume.specs.VolumeState.{VolumeState, with_tree}

-- How a call ends

abbrev pub fault_ending : Fault → Ending
fault_ending fault.Memory = Nothing
fault_ending fault.Device = Broken

abbrev pub ending : {T : Type 0} → Result T Fault → Ending
ending (Ok done) = Done
ending (Err reason) = fault_ending reason

abbrev pub failed_step_ending : {T : Type 0} → Result T StepError → Ending
failed_step_ending (Ok done) = Done
failed_step_ending (Err failed) = fault_ending failed.fault

-- What it does

-- whether what was executed has to last
abbrev pub lasts : Option Entry → Bool
lasts None = false
lasts (Some entry) = is_durable entry

-- whether what is kept has to last: all of it if the seats change, and otherwise if `durable` says
-- so
abbrev pub HasToLast : VolumeState → (durable : Bool) → Given
HasToLast held durable after lasting = (lasting ≡ durable) ⊎ (after.seats ≢ held.seats)

-- of an operation that ran
abbrev pub entry_by : World → InProgress → Argument → HasRun → Option Entry
entry_by world request operation (turns.Gives outcome after left) =
    Some (executed_entry world request operation outcome after)
entry_by world request operation (turns.Replays reply session slot) = None

-- what a volume is to keep of a world
abbrev pub kept_of_world : World → Kept
kept_of_world world = record { tree = world.tree; seats = world.table.seats }

-- In some world that has this, whatever follows the operation, it leaves this tree, with the seats
-- as they were, and has to last or not: of an operation on the tree.
pub record OperationGives (state : SharedState) (request : InProgress) (now : ℕ)
    (operation : Argument) (after : Kept) (lasting : Bool) : Type 0 where
  pub world : World
  pub rest : List ℕ
  pub has : HasState world state
  pub kept : after ≡ with_tree state.files.volume
      (tree_by world (run_in_room world (with_rest request rest) now operation))
  pub lasting_is : lasting ≡ lasts (entry_by world (with_rest request rest) operation
      (run_in_room world (with_rest request rest) now operation))

-- the same of any operation, which leaves the seats of the world's table
pub record RunGives (state : SharedState) (request : InProgress) (now : ℕ) (operation : Argument)
    (after : Kept) (lasting : Bool) : Type 0 where
  pub world : World
  pub rest : List ℕ
  pub has : HasState world state
  pub kept : after
      ≡ kept_of_world (world_by world (run_in_room world (with_rest request rest) now operation))
  pub lasting_is : HasToLast state.files.volume (lasts (entry_by world (with_rest request rest)
      operation (run_in_room world (with_rest request rest) now operation))) after lasting

-- in some such world, on some connection, this turn does
pub record TurnGives (state : SharedState) (turn : World → (number : ℕ) → Turned) (after : Kept)
    (lasting : Bool) : Type 0 where
  pub world : World
  pub number : ℕ
  pub has : HasState world state
  pub kept : after ≡ kept_of_world (turn world number).world
  pub lasting_is :
      HasToLast state.files.volume (lasts (turn world number).executed) after lasting

-- the tree stays, and the seats are these; if that is a change it has to last, with all that there
-- was before it
abbrev pub IsSeated : VolumeState → Seats → Given
IsSeated held seats after lasting =
    (after ≡ record { tree = held.tree; seats = seats }) × HasToLast held false after lasting

-- the tree is as it was, and no change was counted
pub record HasSameTree (old new : FileSystem) : Type 0 where
  pub tree : new.volume.tree ≡ old.volume.tree
  pub changes : new.changes ≡ old.changes

-- READ, as a call on a file system.
use Rattle.std.specs.Prelude.{◌≡◌, ℕ, Bool, true, List, Result, Ok, Err, take, drop, min}
use Rattle.model.specs.Operations.Answer.{Answer}
use Rattle.model_tree.specs.Trees.Tree.{bytes_at}
use Rattle.model.specs.Operations.Operation.{Argument, StateId}
use Rattle.model.specs.Server.Runs.{is_done}
use Rattle.model.specs.Operations.Step.{State, answered, refused}
use Rattle.fs.specs.declared.fault.FsFault.{FsFault}
use Rattle.fs.specs.declared.fault.FsFault.TheVariants as fault
use Rattle.fs.specs.FileSystem.{FileSystem}
use Rattle.fs.specs.Operations.{does_on}
use Rattle.volume.specs.Changes.{Ending, Nothing, Broken}

abbrev pub read_operation : StateId → (offset count : ℕ) → Argument
read_operation stateid offset count =
    Argument.Read (record { state = stateid; offset = offset; count = count })

-- the bytes that it returns
abbrev pub part_at : FileSystem → (number offset count : ℕ) → List ℕ
part_at fs number offset count = take (min count fs.volume.limits.transfer_bytes)
    (drop offset (bytes_at fs.volume.tree number))

-- a call that was not done: refused as the definition refuses it, or failed although nothing
-- refuses it
abbrev pub IsNotRead : FileSystem → State → (now : ℕ) → Argument → FsFault → Type 0
IsNotRead fs state now operation (fault.Status reason) =
    does_on fs state now operation ≡ refused state operation reason
IsNotRead fs state now operation fault.NoRoom = ⊥
IsNotRead fs state now operation fault.Memory =
    is_done (does_on fs state now operation).outcome ≡ true
IsNotRead fs state now operation fault.Device =
    is_done (does_on fs state now operation).outcome ≡ true
IsNotRead fs state now operation fault.Down = fs.volume.is_down ≡ true

-- it returns these bytes, and whether the file's end was reached
abbrev pub ReadsFile : FileSystem → State → (now : ℕ) → Argument → (given : List ℕ)
    → Result Bool FsFault → Type 0
ReadsFile fs state now operation given (Ok is_end) = does_on fs state now operation
    ≡ answered state (Answer.Read (record { is_end = is_end; data_bytes = given }))
ReadsFile fs state now operation given (Err reason) = IsNotRead fs state now operation reason

-- it leaves all as it was, even if it succeeds
abbrev pub reading_ending : {T : Type 0} → Result T FsFault → Ending
reading_ending (Ok done) = Nothing
reading_ending (Err (fault.Status reason)) = Nothing
reading_ending (Err fault.NoRoom) = Nothing
reading_ending (Err fault.Memory) = Nothing
reading_ending (Err fault.Device) = Broken
reading_ending (Err fault.Down) = Nothing

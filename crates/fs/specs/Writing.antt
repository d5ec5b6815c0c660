-- WRITE and COMMIT, as calls on a file system.
use Rattle.std.specs.Prelude.{◌≡◌, ◌+◌, ℕ, Bool, true, List, Result, Ok, Err, ◌==◌, not, take}
use Rattle.tree_edits.specs.declared.edit.Edit.{Edit}
use Rattle.layout.specs.Stands.{Kept}
use Rattle.model_tree.specs.declared.acl.Cred.{Cred}
use Rattle.model_tree.specs.declared.status.Status.{Status}
use Rattle.model.specs.Operations.Answer.{Answer}
use Rattle.model.specs.Operations.Files.{committed_as, write_verifier}
use Rattle.model.specs.Operations.Operation.{Argument, WriteArguments, CommitArguments}
use Rattle.model.specs.Server.Runs.{is_done, is_durable}
use Rattle.model.specs.Operations.Step.{State, Stepped, answered, refused}
use Rattle.model.specs.Sessions.StateIds.{write_access}
use Rattle.model_tree.specs.Trees.Tree.{Tree}
use Rattle.fs.specs.declared.fault.FsFault.{FsFault}
use Rattle.fs.specs.declared.fault.FsFault.TheVariants as fault
use Rattle.fs.specs.declared.writing.Writing.{Writing}
use Rattle.fs.specs.FileSystem.{FileSystem}
use Rattle.fs.specs.Files.{IsVerdict}
use Rattle.fs.specs.Operations.{IsOn, IsNotDone, does_on}
use Rattle.volume.specs.Changes.{Given}
use Rattle.volume.specs.Edits.{edited_by}
use Rattle.volume.specs.VolumeState.{VolumeState, with_tree}

-- WRITE

-- the arguments that a call is made for, and the verdict on their stateid
pub record IsWriting (state : State) (verdict : Result (Unit {0}) Status) (asked : Writing)
    (arguments : WriteArguments) : Type 0 where
  pub verdict_is : IsVerdict state write_access arguments.state verdict
  pub offset_is : arguments.offset ≡ asked.offset
  pub bytes_are : arguments.data_bytes ≡ asked.bytes.now
  pub stable_is : (arguments.stable == 0) ≡ not asked.is_stable

-- the bytes that one WRITE takes
abbrev pub bytes_taken : FileSystem → Writing → List ℕ
bytes_taken fs asked = take fs.volume.limits.transfer_bytes asked.bytes.now

-- `count` bytes were written; the tree and the count of changes after it
abbrev pub after_write : Tree → (changes : ℕ) → State → WriteArguments → (count : ℕ) → Stepped
after_write tree changes state arguments count = answered
    (record state { tree = tree; changes = changes })
    (Answer.Write (record {
      count = count;
      committed = committed_as arguments.stable;
      verifier = write_verifier state;
    }))

-- if the device keeps its word, it is done as the definition does it
abbrev pub Writes : (keeps_word : Type 0) → (old new : FileSystem) → State → (now : ℕ)
    → WriteArguments → Result ℕ FsFault → Type 0
Writes keeps_word old new state now arguments (Ok count) = keeps_word
    → does_on old state now (Argument.Write arguments)
    ≡ after_write new.volume.tree new.changes state arguments count
Writes keeps_word old new state now arguments (Err reason) =
    IsNotDone old state now (Argument.Write arguments) reason

-- by the definition it has the effect of these edits
abbrev pub WritesBy : FileSystem → State → (now : ℕ) → WriteArguments → (count : ℕ) → List Edit
    → Type 0
WritesBy fs state now arguments count edits = does_on fs state now (Argument.Write arguments)
    ≡ after_write (edited_by fs.volume edits) (fs.changes + 1) state arguments count

-- whether what an operation does has to last, by the definition
abbrev pub is_lasting : FileSystem → State → (now : ℕ) → Argument → Bool
is_lasting fs state now operation = is_durable (record {
  state = state;
  operation = operation;
  outcome = (does_on fs state now operation).outcome;
  after = (does_on fs state now operation).state.tree;
})

-- what a WRITE of this caller to the file of this number leaves by the definition, and whether that
-- has to last: what is not to be stable may be lost until the next flush
pub record WritesTree (fs : FileSystem) (cred : Cred) (number now : ℕ)
    (verdict : Result (Unit {0}) Status) (asked : Writing) (after : Kept) (lasts : Bool)
    : Type 0 where
  pub state : State
  pub arguments : WriteArguments
  pub on : IsOn fs cred number state
  pub writing : IsWriting state verdict asked arguments
  pub kept : after
      ≡ with_tree fs.volume (does_on fs state now (Argument.Write arguments)).state.tree
  pub lasting_is : lasts ≡ is_lasting fs state now (Argument.Write arguments)

-- the tree after edits, which has to last only if they are to be stable
abbrev pub IsWrittenTree : VolumeState → List Edit → (is_stable : Bool) → Given
IsWrittenTree held edits is_stable after lasts =
    (after ≡ with_tree held (edited_by held edits)) × (lasts ≡ true → is_stable ≡ true)

-- COMMIT

abbrev pub Commits : (keeps_word : Type 0) → (old new : FileSystem) → State → (now : ℕ)
    → CommitArguments → Result (Unit {0}) FsFault → Type 0
Commits keeps_word old new state now arguments (Ok done) = keeps_word
    → does_on old state now (Argument.Commit arguments)
    ≡ answered (record state { tree = new.volume.tree; changes = new.changes })
    (Answer.Commit (write_verifier state))
Commits keeps_word old new state now arguments (Err (fault.Status reason)) =
    does_on old state now (Argument.Commit arguments)
    ≡ refused state (Argument.Commit arguments) reason
Commits keeps_word old new state now arguments (Err fault.NoRoom) =
    is_done (does_on old state now (Argument.Commit arguments)).outcome ≡ true
Commits keeps_word old new state now arguments (Err fault.Memory) = ⊥
Commits keeps_word old new state now arguments (Err fault.Device) =
    is_done (does_on old state now (Argument.Commit arguments)).outcome ≡ true
Commits keeps_word old new state now arguments (Err fault.Down) = old.volume.is_down ≡ true

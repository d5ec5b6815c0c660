-- What a call on a file system says of an operation.
use Rattle.std.specs.Prelude.{ℕ, Bool, true, List, Option, Some, None, Result, Ok, Err, ◌≡◌, ◌+◌}
use Rattle.tree_edits.specs.declared.edit.Edit.{Edit}
use Rattle.layout.specs.Stands.{Kept}
use Rattle.model_tree.specs.declared.acl.Cred.{Cred}
use Rattle.model_tree.specs.declared.status.Status.{Status}
use Rattle.model.specs.Operations.Answer.{Answer}
use Rattle.model.specs.Attributes.Attribute.{trimmed}
use Rattle.model.specs.Operations.Context.{at_node}
use Rattle.model.specs.Operations.Operation.{Argument, Attributes, NewDirectory}
use Rattle.model_tree.specs.Refusals.Refusal.{first_refusal}
use Rattle.model.specs.Server.Runs.{is_done}
use Rattle.model.specs.Operations.Step.{State, Stepped, current_refusals, answered, refused, does}
use Rattle.model_tree.specs.Trees.Tree.{Tree}
use Rattle.fs.specs.OnTree.{IsState, looked_up, put_handle, got_handle}
use Rattle.fs.specs.declared.fault.FsFault.{FsFault}
use Rattle.fs.specs.declared.fault.FsFault.TheVariants as fault
use Rattle.fs.specs.declared.created.Created.{Created}
use Rattle.fs.specs.FileSystem.{FileSystem}
use Rattle.volume.specs.Edits.{edited_by}
use Rattle.volume.specs.VolumeState.{with_tree}

-- a COMPOUND's state on this file system, by this caller, with the node of this number as the
-- current one
pub record IsOn (fs : FileSystem) (cred : Cred) (number : ℕ) (state : State) : Type 0 where
  pub is_state : IsState fs.volume.tree cred number state
  pub run : state.context.run ≡ fs.volume.run
  pub changes : state.changes ≡ fs.changes

-- what an operation does by the definition, on this volume
abbrev pub does_on : FileSystem → State → (now : ℕ) → Argument → Stepped
does_on fs state now operation = does fs.volume.limits state now operation

-- a call that changes nothing is refused as the definition refuses it, or because the device failed
abbrev pub IsRefused : FileSystem → State → (now : ℕ) → Argument → FsFault → Type 0
IsRefused fs state now operation (fault.Status reason) =
    does_on fs state now operation ≡ refused state operation reason
IsRefused fs state now operation fault.NoRoom = ⊥
IsRefused fs state now operation fault.Memory = ⊥
IsRefused fs state now operation fault.Device = ⊥
IsRefused fs state now operation fault.Down = fs.volume.is_down ≡ true

-- LOOKUP

abbrev pub LooksUp : FileSystem → State → (now : ℕ) → (name : List ℕ) → Result ℕ FsFault → Type 0
LooksUp fs state now name (Ok number) =
    does_on fs state now (Argument.Lookup name) ≡ looked_up state name (Ok number)
LooksUp fs state now name (Err reason) = IsRefused fs state now (Argument.Lookup name) reason

-- PUTFH and GETFH

abbrev pub PutsHandle : FileSystem → State → (now : ℕ) → (handle : List ℕ) → Result ℕ FsFault
    → Type 0
PutsHandle fs state now handle (Ok number) =
    does_on fs state now (Argument.PutFh handle) ≡ put_handle state handle (Ok number)
PutsHandle fs state now handle (Err reason) = IsRefused fs state now (Argument.PutFh handle) reason

abbrev pub GetsHandle : FileSystem → State → (now : ℕ) → Result (List ℕ) FsFault → Type 0
GetsHandle fs state now (Ok handle) =
    does_on fs state now Argument.GetFh ≡ got_handle state (Ok handle)
GetsHandle fs state now (Err reason) = IsRefused fs state now Argument.GetFh reason

-- The tests of the current filehandle, which come before all others

abbrev pub current_refusal : State → Option Status
current_refusal state = first_refusal (current_refusals state)

abbrev pub TestsCurrent : FileSystem → State → Result (Unit {0}) FsFault → Type 0
TestsCurrent fs state (Ok done) = current_refusal state ≡ None
TestsCurrent fs state (Err (fault.Status reason)) = current_refusal state ≡ Some reason
TestsCurrent fs state (Err fault.NoRoom) = ⊥
TestsCurrent fs state (Err fault.Memory) = ⊥
TestsCurrent fs state (Err fault.Device) = ⊥
TestsCurrent fs state (Err fault.Down) = fs.volume.is_down ≡ true

-- Changes

-- what an operation of this caller, with the node of this number as the current one, leaves by the
-- definition; it has to last
pub record MakesTree (fs : FileSystem) (cred : Cred) (number now : ℕ) (operation : Argument)
    (after : Kept) (lasts : Bool) : Type 0 where
  pub state : State
  pub on : IsOn fs cred number state
  pub kept : after ≡ with_tree fs.volume (does_on fs state now operation).state.tree

-- a call that was not done: refused as the definition refuses it, done by the definition but
-- without room in its reply, not known to be done, or refused because the file system is down
abbrev pub IsNotDone : FileSystem → State → (now : ℕ) → Argument → FsFault → Type 0
IsNotDone fs state now operation (fault.Status reason) =
    does_on fs state now operation ≡ refused state operation reason
IsNotDone fs state now operation fault.NoRoom =
    is_done (does_on fs state now operation).outcome ≡ true
IsNotDone fs state now operation fault.Memory = Unit {0}
IsNotDone fs state now operation fault.Device = Unit {0}
IsNotDone fs state now operation fault.Down = fs.volume.is_down ≡ true

-- CREATE of a directory

abbrev pub new_directory : (name : List ℕ) → Attributes → Argument
new_directory name given = Argument.Create (NewDirectory name given)

-- the tree and the count of changes after it, and the new directory is the current one
abbrev pub created : Tree → (changes : ℕ) → State → Attributes → Created → Stepped
created tree changes state given made = answered
    (record {
      tree = tree;
      changes = changes;
      opens = state.opens;
      context = at_node state.context made.number;
    })
    (Answer.Create (record {
      change = record { is_atomic = true; before = made.before; after = made.number };
      was_set = trimmed given.bitmap;
    }))

-- by the definition it has the effect of these edits
abbrev pub MakesDirBy : FileSystem → State → (now : ℕ) → (name : List ℕ) → Attributes → List Edit
    → Created → Type 0
MakesDirBy fs state now name given edits made = does_on fs state now (new_directory name given)
    ≡ created (edited_by fs.volume edits) (fs.changes + 1) state given made

-- if the device keeps its word, it is made as the definition makes it
abbrev pub MakesDir : (keeps_word : Type 0) → (old new : FileSystem) → State → (now : ℕ)
    → (name : List ℕ) → Attributes → Result Created FsFault → Type 0
MakesDir keeps_word old new state now name given (Ok made) = keeps_word
    → does_on old state now (new_directory name given)
    ≡ created new.volume.tree new.changes state given made
MakesDir keeps_word old new state now name given (Err reason) =
    IsNotDone old state now (new_directory name given) reason

-- RENAME.
use Rattle.std.specs.Prelude.{ℕ, Bool, true, false, List, Option, Some, None, Result, Ok, Err}
use Rattle.std.specs.Prelude.{MatchOption, ◌+◌, ◌==◌, ◌&&◌, ◌≡◌, bytes_eq, option_map, IsTrue, if◌then◌else◌}
use Rattle.tree_edits.specs.declared.edit.Edit.{Edit}
use Rattle.layout.specs.Stands.{Kept}
use Rattle.model_tree.specs.declared.acl.Cred.{Cred}
use Rattle.model.specs.Operations.Answer.{Answer}
use Rattle.model.specs.Operations.Context.{has_saved, is_same_name}
use Rattle.model.specs.Operations.Operation.{Argument, ChangeInfo, RenameArguments}
use Rattle.model.specs.Sessions.Opens.{Opens}
use Rattle.model.specs.Operations.State.{State, Stepped, saved, answered}
use Rattle.model.specs.Sessions.StateIds.{without_number}
use Rattle.model_tree.specs.Trees.Tree.{Tree, DirEntry, entry_of, names_at}
use Rattle.fs.specs.declared.fault.FsFault.{FsFault}
use Rattle.fs.specs.declared.renaming.Change.{Change}
use Rattle.fs.specs.declared.renaming.Planned.{Planned}
use Rattle.fs.specs.declared.renaming.Renamed.{Renamed}
use Rattle.fs.specs.declared.renaming.Renaming.{Renaming}
use Rattle.fs.specs.FileSystem.{FileSystem}
use Rattle.fs.specs.Operations.{IsOn, does_on, IsNotDone}
use Rattle.volume.specs.Edits.{edited_by}
use Rattle.volume.specs.VolumeState.{with_tree}

-- a COMPOUND's state with one directory as the saved filehandle, and another or the same as the
-- current one
pub record IsOnBoth (fs : FileSystem) (cred : Cred) (from to : ℕ) (state : State) : Type 0 where
  pub on : IsOn fs cred to state
  pub has_saved : IsTrue (has_saved state.context)
  pub saved_is : saved state ≡ from

abbrev pub arguments_of : Renaming → RenameArguments
arguments_of asked = record { old_name = asked.old_name.now; new_name = asked.new_name.now }

-- whether a name is renamed to itself
abbrev pub is_itself : (from to : ℕ) → RenameArguments → Bool
is_itself from to arguments = from == to && bytes_eq arguments.old_name arguments.new_name

-- the number of the node that has a name, if there is one
abbrev pub number_under : Tree → (directory : ℕ) → (name : List ℕ) → Option ℕ
number_under tree directory name =
    option_map (λ (entry : ℕ × DirEntry). entry.1.number) (entry_of name (names_at tree directory))

-- the number of the node that a rename removes
abbrev pub replaced_in : Tree → (from to : ℕ) → RenameArguments → Option ℕ
replaced_in tree from to arguments =
    if is_itself from to arguments then None else number_under tree to arguments.new_name

-- What it leaves

abbrev pub info_of : Change → ChangeInfo
info_of change = record { is_atomic = true; before = change.before; after = change.after }

-- the opens of the node that is gone are gone too; if there is none, the number is 0, which has no
-- opens
abbrev pub without_replaced : Option ℕ → Opens → Opens
without_replaced None opens = without_number 0 opens
without_replaced (Some number) opens = without_number number opens

-- a name that is renamed to itself leaves all opens
abbrev pub opens_after : Bool → Option ℕ → Opens → Opens
opens_after true replaced opens = opens
opens_after false replaced opens = without_replaced replaced opens

-- the tree and the count of changes after it
abbrev pub renamed : Tree → (changes : ℕ) → State → RenameArguments → Renamed → Stepped
renamed tree changes state arguments made = answered
    (record {
      tree = tree;
      changes = changes;
      opens = opens_after (is_same_name state.context arguments) made.replaced state.opens;
      context = state.context;
    })
    (Answer.Rename (record { source = info_of made.source; target = info_of made.target }))

-- if the device keeps its word, it is renamed as the definition renames it
abbrev pub Renames : (keeps_word : Type 0) → (old new : FileSystem) → State → (now : ℕ)
    → RenameArguments → Result Renamed FsFault → Type 0
Renames keeps_word old new state now arguments (Ok made) = keeps_word
    → does_on old state now (Argument.Rename arguments)
    ≡ renamed new.volume.tree new.changes state arguments made
Renames keeps_word old new state now arguments (Err reason) =
    IsNotDone old state now (Argument.Rename arguments) reason

-- what a rename leaves by the definition. Renaming a name to itself is no change: nothing of it has
-- to last.
pub record RenamesTree (fs : FileSystem) (cred : Cred) (from to now : ℕ)
    (arguments : RenameArguments) (after : Kept) (lasts : Bool) : Type 0 where
  pub state : State
  pub on : IsOnBoth fs cred from to state
  pub kept : after
      ≡ with_tree fs.volume (does_on fs state now (Argument.Rename arguments)).state.tree
  pub quiet : is_same_name state.context arguments ≡ true → lasts ≡ false

-- Before it is kept

-- a name that is renamed to itself leaves the tree and the count
abbrev pub StaysNamed : FileSystem → State → (now : ℕ) → RenameArguments → Renamed → Type 0
StaysNamed fs state now arguments made = does_on fs state now (Argument.Rename arguments)
    ≡ renamed fs.volume.tree fs.changes state arguments made

-- a rename to another name has the effect of these edits
abbrev pub IsMoved : FileSystem → State → (now : ℕ) → RenameArguments → List Edit → Renamed → Type 0
IsMoved fs state now arguments edits made = does_on fs state now (Argument.Rename arguments)
    ≡ renamed (edited_by fs.volume edits) (fs.changes + 1) state arguments made

-- a rename that passed its tests has the effect of its edits, or none if it has no edits
abbrev pub RenamesAsPlanned : FileSystem → State → (now : ℕ) → RenameArguments → Planned → Type 0
RenamesAsPlanned fs state now arguments planned = MatchOption planned.edits
    (StaysNamed fs state now arguments planned.renamed)
    (λ edits. IsMoved fs state now arguments edits.items planned.renamed)

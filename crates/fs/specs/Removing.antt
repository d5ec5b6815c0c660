-- REMOVE.
use Rattle.std.specs.Prelude.{ℕ, Bool, true, List, [], ◌∷◌, ◌++◌, ◌+◌, Result, Ok, Err, not, ◌≡◌}
use Rattle.std.specs.List.{list_any}
use Rattle.tree_edits.specs.declared.edit.Edit.{Edit}
use Rattle.model_tree.specs.declared.acl.Cred.{Cred}
use Rattle.model_tree.specs.declared.limits.Limits.{Limits}
use Rattle.model_tree.specs.declared.status.Status.TheVariants as status
use Rattle.model.specs.Operations.Answer.{Answer}
use Rattle.model_tree.specs.Trees.Tree.{is_named, number_named, Tree, is_directory_at}
use Rattle.model_tree.specs.Trees.Keyed.{is_key}
use Rattle.model_tree.specs.Refusals.Name.{name_refusals}
use Rattle.model.specs.Operations.Need.{is_granted}
use Rattle.model.specs.Operations.Operation.{Argument}
use Rattle.model_tree.specs.Refusals.Refusal.{Refusals}
use Rattle.model.specs.Operations.Rename.{has_names, removable}
use Rattle.model.specs.Operations.State.{State, Stepped, answered}
use Rattle.model.specs.Sessions.StateIds.{without_number}
use Rattle.fs.specs.declared.fault.FsFault.{FsFault}
use Rattle.fs.specs.declared.removing.Removed.{Removed}
use Rattle.fs.specs.FileSystem.{FileSystem}
use Rattle.fs.specs.Operations.{does_on, IsNotDone}
use Rattle.volume.specs.Edits.{edited_by}

-- the tree and the count of changes after it, and the node that is gone has no opens
abbrev pub removed : Tree → (changes : ℕ) → State → Removed → Stepped
removed tree changes state made = answered
    (record {
      tree = tree;
      changes = changes;
      opens = without_number made.number state.opens;
      context = state.context;
    })
    (Answer.Remove (record { is_atomic = true; before = made.before; after = made.after }))

-- by the definition it has the effect of these edits
abbrev pub RemovesBy : FileSystem → State → (now : ℕ) → (name : List ℕ) → List Edit → Removed
    → Type 0
RemovesBy fs state now name edits made = does_on fs state now (Argument.Remove name)
    ≡ removed (edited_by fs.volume edits) (fs.changes + 1) state made

-- if the device keeps its word, it is removed as the definition removes it
abbrev pub Removes : (keeps_word : Type 0) → (old new : FileSystem) → State → (now : ℕ)
    → (name : List ℕ) → Result Removed FsFault → Type 0
Removes keeps_word old new state now name (Ok made) = keeps_word
    → does_on old state now (Argument.Remove name)
    ≡ removed new.volume.tree new.changes state made
Removes keeps_word old new state now name (Err reason) =
    IsNotDone old state now (Argument.Remove name) reason

-- Its tests

-- whether this caller may remove a name from a directory: it may delete the node that the name
-- leads to, or any child of the directory
abbrev pub may_remove : Tree → Cred → (directory : ℕ) → (name : List ℕ) → Bool
may_remove tree cred directory name =
    list_any (is_granted tree cred) (removable tree directory name)

-- those after that of a current filehandle, and before those of room and of stamps
abbrev pub removal_refusals : Limits → Tree → Cred → (directory : ℕ) → (name : List ℕ) → Refusals
removal_refusals limits tree cred directory name =
    (not (is_key directory tree), status.Stale)
    ∷ (not (is_directory_at tree directory), status.NotDir)
    ∷ (name_refusals limits name
    ++ ((not (is_named tree directory name), status.NoEnt)
    ∷ (not (may_remove tree cred directory name), status.Access)
    ∷ (has_names tree (number_named tree directory name), status.NotEmpty)
    ∷ []))

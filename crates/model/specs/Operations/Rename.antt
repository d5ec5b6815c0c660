-- REMOVE and RENAME: RFC 8881, sections 18.25 and 18.26. The order of their tests is this server's
-- profile.
use Rattle.std.specs.Prelude.{ℕ, Bool, true, false, [], ◌∷◌, ◌++◌, List, ◌&&◌, ◌||◌, not, nat_lt, length, if◌then◌else◌}
use Rattle.model_tree.specs.declared.status.Status.TheVariants as status
use Rattle.model_tree.specs.Trees.Ancestors.{is_below}
use Rattle.model.specs.Operations.Answer.{Answer}
use Rattle.model_tree.specs.Trees.Changes.{removed_edits, renamed_edits}
use Rattle.model.specs.Operations.Context.{Context, current_number, saved_number, has_saved, is_same_name}
use Rattle.model.specs.Operations.Definition.{Definition, on_current}
use Rattle.model.specs.Operations.Directory.{change_of}
use Rattle.model_tree.specs.Trees.Tree.{number_named, is_named, Tree, names_at, is_directory_at}
use Rattle.model_tree.specs.Trees.Keyed.{at, is_key}
use Rattle.model_tree.specs.declared.limits.Limits.{Limits}
use Rattle.model_tree.specs.Refusals.Name.{name_refusals}
use Rattle.model.specs.Operations.Operation.{RenameArguments}
use Rattle.model_tree.specs.Refusals.Refusal.{Refusals}
use Rattle.model.specs.Operations.State.{State, Stepped, current, saved, stamp_of, current_refusals, named_refusals, is_name_there, answered, changed, change_to, without_opens}
use Rattle.model_tree.specs.Rights.Acl.{append_data, write_data, delete, delete_child}
use Rattle.model.specs.Operations.Need.{Right}

-- Tests before the caller's rights

abbrev pub remove_refusals : Limits → State → (name : List ℕ) → Refusals
remove_refusals limits state name =
    named_refusals limits state name ++ ((not (is_name_there state name), status.NoEnt) ∷ [])

abbrev pub rename_refusals : Limits → State → RenameArguments → Refusals
rename_refusals limits state arguments =
    ((not (has_saved state.context), status.NoFileHandle)
    ∷ (not (is_key (saved state) state.tree), status.Stale)
    ∷ (not (is_directory_at state.tree (saved state)), status.NotDir)
    ∷ (not (is_directory_at state.tree (current state)), status.NotDir) ∷ [])
    ++ (name_refusals limits arguments.old_name
    ++ (name_refusals limits arguments.new_name
    ++ ((not (is_named state.tree (saved state) arguments.old_name), status.NoEnt) ∷ [])))

-- Rights

-- a name is removable: the node may be deleted, or a child of the directory
abbrev pub removable : Tree → (directory : ℕ) → (name : List ℕ) → List Right
removable tree directory name =
    record { number = number_named tree directory name; mask = delete }
    ∷ record { number = directory; mask = delete_child } ∷ []

abbrev pub rename_rights : Tree → (from to : ℕ) → RenameArguments → List (List Right)
rename_rights tree from to arguments =
    removable tree from arguments.old_name
    ∷ ((if is_named tree to arguments.new_name
    then removable tree to arguments.new_name ∷ []
    else [])
    ++ ((record {
      number = to;
      mask =
          if is_directory_at tree (number_named tree from arguments.old_name)
          then append_data
          else write_data;
    } ∷ []) ∷ []))

-- no rights if a name is renamed to itself
abbrev pub renaming_rights : Tree → Context → RenameArguments → List (List Right)
renaming_rights tree context arguments =
    if is_same_name context arguments
    then []
    else rename_rights tree (saved_number context) (current_number context) arguments

-- Tests after them

abbrev pub is_other : (a b : Bool) → Bool
is_other a b = if a then not b else b

-- whether a node has names
abbrev pub has_names : Tree → (number : ℕ) → Bool
has_names tree number = nat_lt 0 (length (names_at tree number))

abbrev pub moved_number : State → RenameArguments → ℕ
moved_number state arguments = number_named state.tree (saved state) arguments.old_name

abbrev pub target_number : State → RenameArguments → ℕ
target_number state arguments = number_named state.tree (current state) arguments.new_name

-- a directory is moved to or below itself; what has the new name is of the other kind, or has names
abbrev pub late_at_rename : State → RenameArguments → Refusals
late_at_rename state arguments = (
  is_directory_at state.tree (moved_number state arguments)
      && is_below state.tree (moved_number state arguments) (current state),
  status.Inval,
)
    ∷ (
      is_name_there state arguments.new_name
          && (is_other (is_directory_at state.tree (moved_number state arguments))
          (is_directory_at state.tree (target_number state arguments))
          || has_names state.tree (target_number state arguments)),
      status.Exist,
    )
    ∷ []

-- What they do

abbrev pub remove : State → (now : ℕ) → (name : List ℕ) → Stepped
remove state now name =
    answered
    (without_opens
    (changed state (removed_edits state.tree (current state) name (stamp_of state) now))
    (number_named state.tree (current state) name))
    (Answer.Remove (change_to state (current state) (stamp_of state)))

-- a name that is renamed to itself remains, with its stamp
abbrev pub rename : Bool → State → (now : ℕ) → RenameArguments → Stepped
rename true state now arguments = answered state (Answer.Rename (record {
  source = change_to state (saved state) (change_of (at (saved state) state.tree));
  target = change_to state (current state) (change_of (at (current state) state.tree));
}))
rename false state now arguments =
    answered
    (without_opens
    (changed state (renamed_edits state.tree (saved state) (current state) arguments.old_name
    arguments.new_name (stamp_of state) now))
    (target_number state arguments))
    (Answer.Rename (record {
      source = change_to state (saved state) (stamp_of state);
      target = change_to state (current state) (stamp_of state);
    }))

-- REMOVE (section 18.25)
abbrev pub REMOVE : (name : List ℕ) → Definition
REMOVE name = record (on_current
    (λ tree context. removable tree (current_number context) name ∷ [])
    (λ limits state now. remove state now name)) {
      early = λ limits state. current_refusals state ++ remove_refusals limits state name;
      late = λ limits state.
          (has_names state.tree (number_named state.tree (current state) name), status.NotEmpty) ∷ [];
      alters = λ state. true;
    }

-- RENAME (section 18.26)
abbrev pub RENAME : RenameArguments → Definition
RENAME arguments = record (on_current (λ tree context. renaming_rights tree context arguments)
    (λ limits state now. rename (is_same_name state.context arguments) state now arguments)) {
      early = λ limits state. current_refusals state ++ rename_refusals limits state arguments;
      late = λ limits state.
          if is_same_name state.context arguments then [] else late_at_rename state arguments;
      alters = λ state. not (is_same_name state.context arguments);
    }

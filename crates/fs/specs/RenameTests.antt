-- RENAME's tests, and what it moves.
use Rattle.std.specs.Prelude.{ℕ, Bool, true, false, List, [], ◌∷◌, ◌++◌, Option, Some, None}
use Rattle.std.specs.Prelude.{not, ◌&&◌, ◌||◌, ◌≡◌}
use Rattle.std.specs.List.{list_any, list_all}
use Rattle.directory.specs.Records.{record_from}
use Rattle.layout.specs.CachedNodes.{CachedNode}
use Rattle.layout.specs.Known.{IsCached}
use Rattle.model_tree.specs.declared.acl.Cred.{Cred}
use Rattle.model_tree.specs.declared.limits.Limits.{Limits}
use Rattle.model_tree.specs.declared.status.Status.TheVariants as status
use Rattle.model_tree.specs.Rights.Acl.{granted, delete, delete_child}
use Rattle.model_tree.specs.Trees.Ancestors.{is_below}
use Rattle.model_tree.specs.Trees.Tree.{is_named, number_named, Tree, DirEntry, entry_of, is_directory_at, names_at}
use Rattle.model_tree.specs.Trees.Keyed.{at, is_key}
use Rattle.model_tree.specs.Refusals.Name.{name_refusals}
use Rattle.model.specs.Operations.Need.{is_granted, granted_on}
use Rattle.model.specs.Operations.Operation.{RenameArguments}
use Rattle.model_tree.specs.Refusals.Refusal.{Refusals}
use Rattle.model.specs.Operations.Rename.{is_other, has_names, rename_rights}
use Rattle.fs.specs.Forms.{Place}
use Rattle.volume.specs.Nodes.{IsNodeOf}
use Rattle.fs.specs.declared.renaming.Moving.{Moving}
use Rattle.fs.specs.declared.renaming.Renaming.{Renaming}

-- Those before the caller's rights, after that of a current filehandle

-- of both directories
abbrev pub directory_refusals : Tree → (from to : ℕ) → Refusals
directory_refusals tree from to =
    (not (is_key to tree), status.Stale)
    ∷ (not (is_key from tree), status.Stale)
    ∷ (not (is_directory_at tree from), status.NotDir)
    ∷ (not (is_directory_at tree to), status.NotDir)
    ∷ []

-- and of both names
abbrev pub moving_refusals : Limits → Tree → (from to : ℕ) → RenameArguments → Refusals
moving_refusals limits tree from to arguments =
    (not (is_key to tree), status.Stale)
    ∷ (not (is_key from tree), status.Stale)
    ∷ (not (is_directory_at tree from), status.NotDir)
    ∷ (not (is_directory_at tree to), status.NotDir)
    ∷ (name_refusals limits arguments.old_name
    ++ (name_refusals limits arguments.new_name
    ++ ((not (is_named tree from arguments.old_name), status.NoEnt) ∷ [])))

-- Rights and what comes after them, for a name that is not renamed to itself

abbrev pub may_rename : Tree → Cred → (from to : ℕ) → RenameArguments → Bool
may_rename tree cred from to arguments =
    list_all (list_any (is_granted tree cred)) (rename_rights tree from to arguments)

abbrev pub moved_in : Tree → (from : ℕ) → RenameArguments → ℕ
moved_in tree from arguments = number_named tree from arguments.old_name

abbrev pub target_in : Tree → (to : ℕ) → RenameArguments → ℕ
target_in tree to arguments = number_named tree to arguments.new_name

abbrev pub placing_refusals : Tree → Cred → (from to : ℕ) → RenameArguments → Refusals
placing_refusals tree cred from to arguments =
    (not (may_rename tree cred from to arguments), status.Access)
    ∷ (
      is_directory_at tree (moved_in tree from arguments)
          && is_below tree (moved_in tree from arguments) to,
      status.Inval,
    )
    ∷ (
      is_named tree to arguments.new_name
          && (is_other (is_directory_at tree (moved_in tree from arguments))
          (is_directory_at tree (target_in tree to arguments))
          || has_names tree (target_in tree to arguments)),
      status.Exist,
    )
    ∷ []

-- What was found

-- both directories, and the entry of the old name
pub record FindsMoving (tree : Tree) (asked : Renaming) (moving : Moving) : Type 0 where
  pub from : IsNodeOf tree asked.from moving.from.now
  pub to : IsNodeOf tree asked.to moving.to.now
  pub from_fits : IsCached moving.from.now
  pub to_fits : IsCached moving.to.now
  pub entry : entry_of asked.old_name.now (names_at tree asked.from)
      ≡ Some (record_from moving.stamp asked.old_name.now moving.number)

-- the entry of the new name, if there is one
abbrev pub record_under : (name : List ℕ) → Option (ℕ × ℕ) → Option (ℕ × DirEntry)
record_under name None = None
record_under name (Some found) = Some (record_from found.0 name found.1)

abbrev pub IsTarget : Tree → Renaming → Option (ℕ × ℕ) → Type 0
IsTarget tree asked target = entry_of asked.new_name.now (names_at tree asked.to)
    ≡ record_under asked.new_name.now target

-- whether what is there is in the way of what moves
abbrev pub is_in_the_way : Tree → (moves_directory : Bool) → Option (ℕ × ℕ) → Bool
is_in_the_way tree moves_directory None = false
is_in_the_way tree moves_directory (Some found) =
    is_other moves_directory (is_directory_at tree found.1) || has_names tree found.1

-- whether a caller may remove it
abbrev pub may_replace : Tree → Cred → (directory : CachedNode) → Option (ℕ × ℕ) → Bool
may_replace tree cred directory None = true
may_replace tree cred directory (Some found) = granted_on (at found.1 tree) cred delete
    || granted directory.fields.acl directory.fields.owner directory.fields.group cred delete_child

-- The old place of the name, and the new one

abbrev pub old_place : Renaming → (stamp : ℕ) → Place
old_place asked stamp = record { directory = asked.from; stamp = stamp; name = asked.old_name }

abbrev pub new_place : Renaming → (stamp : ℕ) → Place
new_place asked stamp = record { directory = asked.to; stamp = stamp; name = asked.new_name }

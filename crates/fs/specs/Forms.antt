-- The changes that operations make to a volume's tree, and the edits that each consists of.
use Rattle.std.specs.Prelude.{◌≤◌, ℕ, zero, suc, List, [], ◌∷◌, ◌++◌, Option, Some, None, length}
use denote.Ref.{Bor}
use Rattle.tree_transaction.specs.declared.nodes.Metadata.{Metadata}
use Rattle.tree_edits.specs.declared.edit.Edit.{Edit}
use Rattle.tree_edits.specs.declared.edit.Edit.TheVariants as edit
use Rattle.model_tree.specs.declared.node.NodeKind.{NodeKind}
use Rattle.volume.specs.Edits.{IsAboveAll}
use Rattle.volume.specs.VolumeState.{VolumeState}

-- where a name is: its directory, and the stamp and the name of its entry
pub record Place : Type 0 where
  pub directory : ℕ
  pub stamp : ℕ
  pub name : Bor (List ℕ)

-- The changes that there are, and what each consists of
pub data Change : Type 0 where
  -- a node, and for a file its size if it has one; its name, whose entry has its number as the
  -- stamp; and its directory's metadata
  Making : (number : ℕ) → NodeKind → (size : ℕ) → Metadata
      → (directory : ℕ) → (name : Bor (List ℕ)) → (directory_metadata : Metadata) → Change
  -- a name and the node of this number are gone, and the directory has this metadata
  Removing : Place → (number : ℕ) → (directory_metadata : Metadata) → Change
  -- what has the new name is gone, if something has it (its entry's stamp and number); the old name
  -- of the node is gone, the new one is there; and both directories' metadata
  Moving : (number : ℕ) → (old new : Place) → (target : Option (ℕ × ℕ))
      → (old_metadata new_metadata : Metadata) → Change
  -- bytes of a file from `offset` on, and its metadata
  Writing : (file offset : ℕ) → (bytes : Bor (List ℕ)) → Metadata → Change
  -- the size of a file, if one is set, and the node's metadata
  Setting : (number : ℕ) → (size : Option ℕ) → Metadata → Change

-- Their edits

-- a new file has the size 0
abbrev pub sizing : (number size : ℕ) → List Edit
sizing number zero = []
sizing number (suc size) = edit.SetSize number (suc size) ∷ []

abbrev pub resizing : (number : ℕ) → Option ℕ → List Edit
resizing number None = []
resizing number (Some size) = edit.SetSize number size ∷ []

abbrev pub replacing : (directory : ℕ) → (name : Bor (List ℕ)) → Option (ℕ × ℕ) → List Edit
replacing directory name None = []
replacing directory name (Some target) =
    edit.DropName directory target.0 name ∷ edit.DropNode target.1 ∷ []

abbrev pub moving : (number : ℕ) → (old new : Place) → (old_metadata new_metadata : Metadata)
    → List Edit
moving number old new old_metadata new_metadata =
    edit.DropName old.directory old.stamp old.name
    ∷ edit.PutName new.directory new.stamp new.name number
    ∷ edit.Show old.directory old_metadata
    ∷ edit.Show new.directory new_metadata
    ∷ []

-- in their order
abbrev pub edits_by : Change → List Edit
edits_by (Making number of size metadata directory name directory_metadata) =
    edit.PutNode number of metadata
    ∷ (sizing number size
    ++ (edit.PutName directory number name number ∷ edit.Show directory directory_metadata ∷ []))
edits_by (Removing place number directory_metadata) =
    edit.DropName place.directory place.stamp place.name
    ∷ edit.DropNode number
    ∷ edit.Show place.directory directory_metadata
    ∷ []
edits_by (Moving number old new target old_metadata new_metadata) =
    replacing new.directory new.name target ++ moving number old new old_metadata new_metadata
edits_by (Writing file offset bytes metadata) =
    edit.PutBytes file offset bytes ∷ edit.Show file metadata ∷ []
edits_by (Setting number size metadata) = resizing number size ++ (edit.Show number metadata ∷ [])

-- What a form requires besides its edits: a new node has a number above all others, and few bytes
-- are written
abbrev pub IsAllowed : VolumeState → Change → Type 0
IsAllowed held (Making number of size metadata directory name directory_metadata) =
    IsAboveAll held number
IsAllowed held (Removing place number directory_metadata) = Unit {0}
IsAllowed held (Moving number old new target old_metadata new_metadata) = Unit {0}
IsAllowed held (Writing file offset bytes metadata) = length bytes.now ≤ 8192
IsAllowed held (Setting number size metadata) = Unit {0}

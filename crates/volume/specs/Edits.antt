-- A change of a volume's tree, which is a list of edits.
use Rattle.std.specs.Prelude.{◌≡◌, ◌≤◌, ◌<◌, ◌+◌, ◌⊎◌, ℕ, false, List, [], ◌∷◌}
use Rattle.std.specs.Prelude.{Option, Some, None, IsTrue, length, take}
use Rattle.std.specs.List.{IsAmong}
use Rattle.tree_edits.specs.declared.edit.Edit.{Edit}
use Rattle.tree_edits.specs.declared.edit.Edit.TheVariants as edit
use Rattle.tree_edits.specs.Doing.{made_by, updates_of_all}
use Rattle.tree_edits.specs.Edits.{AreDoable, edits_of}
use Rattle.model_tree.specs.Trees.Charge.{fits}
use Rattle.model_tree.specs.Trees.Edit.{edited}
use Rattle.model_tree.specs.Trees.Keyed.{at, is_key}
use Rattle.model_tree.specs.Trees.Stamp.{stamp}
use Rattle.model_tree.specs.Trees.Tree.{Tree, names_at}
use Rattle.volume.specs.Changes.{Given}
use Rattle.volume.specs.Formed.{IsFormed}
use Rattle.volume.specs.VolumeState.{VolumeState, with_tree}

-- the tree after edits
abbrev pub edited_by : VolumeState → List Edit → Tree
edited_by held edits = edited (edits_of edits) held.tree

-- the tree after the first `count` of them
abbrev pub prefix_of : VolumeState → List Edit → (count : ℕ) → Tree
prefix_of held edits count = edited (take count (edits_of edits)) held.tree

-- the node numbers of the names that edits put
abbrev pub named_by : List Edit → List ℕ
named_by [] = []
named_by (edit.PutNode number kind shown ∷ edits) = named_by edits
named_by (edit.DropNode number ∷ edits) = named_by edits
named_by (edit.Show number shown ∷ edits) = named_by edits
named_by (edit.PutName directory stamp name number ∷ edits) = number ∷ named_by edits
named_by (edit.DropName directory stamp name ∷ edits) = named_by edits
named_by (edit.PutBytes file offset bytes ∷ edits) = named_by edits
named_by (edit.SetSize file size ∷ edits) = named_by edits

-- the number and the directory of the name that an edit puts, and of the first that edits put

abbrev pub put_of : Edit → Option (ℕ × ℕ)
put_of (edit.PutNode number kind shown) = None
put_of (edit.DropNode number) = None
put_of (edit.Show number shown) = None
put_of (edit.PutName directory stamp name number) = Some (number, directory)
put_of (edit.DropName directory stamp name) = None
put_of (edit.PutBytes file offset bytes) = None
put_of (edit.SetSize file size) = None

abbrev pub first_put : Option (ℕ × ℕ) → Option (ℕ × ℕ) → Option (ℕ × ℕ)
first_put None others = others
first_put (Some put) others = Some put

abbrev pub put_by : List Edit → Option (ℕ × ℕ)
put_by [] = None
put_by (edit ∷ edits) = first_put (put_of edit) (put_by edits)

-- each name that edits put is in its directory of this tree
abbrev pub HasPut : Tree → List Edit → Type 0
HasPut tree [] = Unit {0}
HasPut tree (edit.PutNode number kind shown ∷ edits) = HasPut tree edits
HasPut tree (edit.DropNode number ∷ edits) = HasPut tree edits
HasPut tree (edit.Show number shown ∷ edits) = HasPut tree edits
HasPut tree (edit.PutName directory stamp name number ∷ edits) =
    (at stamp (names_at tree directory) ≡ Some (record { name = name.now; number = number }))
    × HasPut tree edits
HasPut tree (edit.DropName directory stamp name ∷ edits) = HasPut tree edits
HasPut tree (edit.PutBytes file offset bytes ∷ edits) = HasPut tree edits
HasPut tree (edit.SetSize file size ∷ edits) = HasPut tree edits

-- a number above those of all nodes
abbrev pub IsAboveAll : VolumeState → (number : ℕ) → Type 0
IsAboveAll held number = (other : ℕ) → IsTrue (is_key other held.tree) → other < number

-- What a change requires of its edits: there are few, each can be done in the tree that those
-- before it give, and the tree after all of them is well formed if it fits
pub record IsChange (held : VolumeState) (edits : List Edit) : Type 0 where
  -- any eight are few, of which one puts 8,192 bytes or sets a size
  pub few : updates_of_all edits ≤ 46
  pub doable : AreDoable held.tree edits
  -- at most one name is put; a node that is made has it, and a number above all others
  pub named : length (named_by edits) ≤ 1
  pub made : (made_by edits ≡ []) ⊎ (made_by edits ≡ named_by edits)
  pub fresh : (number : ℕ) → IsAmong (made_by edits) number → IsAboveAll held number
  -- a name that is put is there after all of them: none drops it again
  pub put : HasPut (edited_by held edits) edits
  -- what fits after the last of them fits after each
  pub prefixes : (count : ℕ) → IsTrue (fits held.limits (edited_by held edits))
      → IsTrue (fits held.limits (prefix_of held edits count))
  pub formed : IsTrue (fits held.limits (edited_by held edits))
      → IsFormed held.limits (stamp (held.run + 1) 0) (edited_by held edits)

-- the tree after the edits; a crash may lose it until the next flush
abbrev pub IsEdited : VolumeState → List Edit → Given
IsEdited held edits after lasts =
    (after ≡ with_tree held (edited_by held edits)) × (lasts ≡ false)

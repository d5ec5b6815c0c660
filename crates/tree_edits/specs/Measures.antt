-- Edits whose room can be measured. This requires less than performing them: a new node may have
-- the number 0, and a new name the stamp 0, which no node and no name of a volume has.
use Rattle.std.specs.Prelude.{◌≡◌, ℕ, List, [], ◌∷◌, None, IsTrue, IsFalse}
use Rattle.tree_edits.specs.declared.edit.Edit.{Edit}
use Rattle.tree_edits.specs.declared.edit.Edit.TheVariants as declared
use Rattle.tree_edits.specs.Edits.{IsName, edit_of}
use Rattle.tree_edits.specs.Outlines.{without_data}
use Rattle.model_tree.specs.Trees.Edit.{done}
use Rattle.model_tree.specs.Trees.Keyed.{at}
use Rattle.model_tree.specs.Trees.Tree.{Tree, names_at, is_directory_at}

-- a directory that has no name with this stamp
pub record LacksStamp (tree : Tree) (directory stamp : ℕ) : Type 0 where
  pub there : IsTrue (is_directory_at tree directory)
  pub new_stamp : at stamp (names_at tree directory) ≡ None

-- what an edit requires of the tree before it
abbrev pub CanMeasure : Tree → Edit → Type 0
CanMeasure tree (declared.PutNode number kind metadata) = Unit {0}
CanMeasure tree (declared.DropNode number) = Unit {0}
CanMeasure tree (declared.Show number metadata) = Unit {0}
CanMeasure tree (declared.PutName directory stamp name number) = LacksStamp tree directory stamp
CanMeasure tree (declared.DropName directory stamp name) = IsName tree directory stamp name.now
CanMeasure tree (declared.PutBytes file offset bytes) = IsFalse (is_directory_at tree file)
CanMeasure tree (declared.SetSize file size) = Unit {0}

-- each of them, in the tree after those before it
abbrev pub AreMeasurable : Tree → List Edit → Type 0
AreMeasurable tree [] = Unit {0}
AreMeasurable tree (edit ∷ edits) =
    CanMeasure tree edit × AreMeasurable (done (edit_of edit) tree) edits

-- what can be measured in a tree can be measured in any other with the same outline
abbrev pub MeasurableAlike : Type 0
MeasurableAlike = (tree other : Tree) (edits : List Edit)
    → without_data other ≡ without_data tree
    → AreMeasurable tree edits → AreMeasurable other edits

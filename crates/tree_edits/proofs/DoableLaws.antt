-- What can be done to a tree, or measured in it, can be in any other with the same outline.
use Rattle.std.proofs.Common.{◌≡◌, ℕ, false, List, [], ◌∷◌, Option, Some, None, refl, sym, ap, ◌∙◌, arith, subst}
use Rattle.std.specs.Prelude.{is_some, IsTrue, IsFalse}
use Rattle.tree_edits.specs.declared.edit.Edit.{Edit}
use Rattle.tree_edits.specs.declared.edit.Edit.TheVariants as declared
use Rattle.tree_edits.specs.Edits.{edit_of, size_of, CanDo, AreDoable, DoableAlike, FewAlike}
use Rattle.tree_edits.specs.Measures.{CanMeasure, AreMeasurable, MeasurableAlike}
use Rattle.tree_edits.specs.Outlines.{without_data}
use Rattle.tree_edits.proofs.BlankLaws.{key-without_data, directory-without_data, names-without_data, size-without_data, few-without_data, done-without_data}
use Rattle.model_tree.specs.Trees.Charge.{few_names}
use Rattle.model_tree.specs.Trees.Edit.{done}
use Rattle.model_tree.specs.Trees.Keyed.{at, is_key}
use Rattle.model_tree.specs.Trees.Tree.{Tree, Node, names_at, is_directory_at, entry_of}
use Rattle.directory.specs.declared.names.TheConstants.Names.{MAX_NAMES}

module _ (tree other : Tree) (alike : without_data other ≡ without_data tree) where
  key_alike : (number : ℕ) → is_key number other ≡ is_key number tree
  key_alike number = sym (key-without_data other number) ∙ ap (is_key number) alike ∙ key-without_data tree number

  directory_alike : (number : ℕ) → is_directory_at other number ≡ is_directory_at tree number
  directory_alike number = sym (directory-without_data other number) ∙ ap (λ (t : Tree). is_directory_at t number) alike ∙ directory-without_data tree number

  names_alike : (number : ℕ) → names_at other number ≡ names_at tree number
  names_alike number = sym (names-without_data other number) ∙ ap (λ (t : Tree). names_at t number) alike ∙ names-without_data tree number

  size_alike : (number : ℕ) → size_of (at number other) ≡ size_of (at number tree)
  size_alike number = sym (size-without_data other number) ∙ ap (λ (t : Tree). size_of (at number t)) alike ∙ size-without_data tree number

  none : (there : Option Node) → is_some there ≡ false → there ≡ None
  none None e = refl
  none (Some node) e = absurd cc

  fresh_alike : (number : ℕ) → at number tree ≡ None → at number other ≡ None
  fresh_alike number fresh = none (at number other) (key_alike number ∙ ap is_some fresh)

  can_alike : (edit : Edit) → CanDo tree edit → CanDo other edit
  can_alike (declared.PutNode number kind metadata) can = record { some = can.some; fresh = fresh_alike number can.fresh; entries = can.entries }
  can_alike (declared.DropNode number) can = subst IsTrue (sym (key_alike number)) can
  can_alike (declared.Show number metadata) can = record { there = subst IsTrue (sym (key_alike number)) can.there; entries = can.entries }
  can_alike (declared.PutName directory stamp name number) can =
      let names = sym (names_alike directory) in
      record {
        there = subst IsTrue (sym (directory_alike directory)) can.there;
        new_name = ap (entry_of name.now) (sym names) ∙ can.new_name;
        new_stamp = ap (at stamp) (sym names) ∙ can.new_stamp;
        some = can.some;
        short = can.short;
        above = can.above;
      }
  can_alike (declared.DropName directory stamp name) can = record {
    there = subst IsTrue (sym (directory_alike directory)) can.there;
    number = can.number;
    named = ap (entry_of name.now) (names_alike directory) ∙ can.named;
  }
  can_alike (declared.PutBytes file offset bytes) can = record {
    there = subst IsTrue (sym (key_alike file)) can.there;
    is_file = subst IsFalse (sym (directory_alike file)) can.is_file;
    small = omega (arith, size_alike file, can.small);
    low = can.low;
  }
  can_alike (declared.SetSize file size) can = record {
    there = subst IsTrue (sym (key_alike file)) can.there;
    is_file = subst IsFalse (sym (directory_alike file)) can.is_file;
    small = omega (arith, size_alike file, can.small);
    low = can.low;
  }

  measured_alike : (edit : Edit) → CanMeasure tree edit → CanMeasure other edit
  measured_alike (declared.PutNode number kind metadata) can = tt
  measured_alike (declared.DropNode number) can = tt
  measured_alike (declared.Show number metadata) can = tt
  measured_alike (declared.PutName directory stamp name number) can = record {
    there = subst IsTrue (sym (directory_alike directory)) can.there;
    new_stamp = ap (at stamp) (names_alike directory) ∙ can.new_stamp;
  }
  measured_alike (declared.DropName directory stamp name) can = can_alike (declared.DropName directory stamp name) can
  measured_alike (declared.PutBytes file offset bytes) can = subst IsFalse (sym (directory_alike file)) can
  measured_alike (declared.SetSize file size) can = tt

  next_alike : (edit : Edit) → without_data (done (edit_of edit) other) ≡ without_data (done (edit_of edit) tree)
  next_alike edit = sym (done-without_data (edit_of edit) other) ∙ ap (λ (t : Tree). without_data (done (edit_of edit) t)) alike ∙ done-without_data (edit_of edit) tree

pub doable_alike : DoableAlike
doable_alike tree other [] alike can = tt
doable_alike tree other (edit ∷ edits) alike can =
    (can_alike tree other alike edit can.0, doable_alike (done (edit_of edit) tree) (done (edit_of edit) other) edits (next_alike tree other alike edit) can.1)

pub measurable_alike : MeasurableAlike
measurable_alike tree other [] alike can = tt
measurable_alike tree other (edit ∷ edits) alike can =
    (measured_alike tree other alike edit can.0, measurable_alike (done (edit_of edit) tree) (done (edit_of edit) other) edits (next_alike tree other alike edit) can.1)

-- Edits that can be done can be measured

measured : (tree : Tree) (edit : Edit) → CanDo tree edit → CanMeasure tree edit
measured tree (declared.PutNode number kind metadata) can = tt
measured tree (declared.DropNode number) can = tt
measured tree (declared.Show number metadata) can = tt
measured tree (declared.PutName directory stamp name number) can = record { there = can.there; new_stamp = can.new_stamp }
measured tree (declared.DropName directory stamp name) can = can
measured tree (declared.PutBytes file offset bytes) can = can.is_file
measured tree (declared.SetSize file size) can = tt

pub measurable : (tree : Tree) (edits : List Edit) → AreDoable tree edits → AreMeasurable tree edits
measurable tree [] can = tt
measurable tree (edit ∷ edits) can = (measured tree edit can.0, measurable (done (edit_of edit) tree) edits can.1)

pub few_alike : FewAlike
few_alike tree other [] alike few = tt
few_alike tree other (edit ∷ edits) alike few =
    let next = next_alike tree other alike edit in (
      subst IsTrue (sym (few-without_data MAX_NAMES (done (edit_of edit) tree)) ∙ ap (few_names MAX_NAMES) (sym next) ∙ few-without_data MAX_NAMES (done (edit_of edit) other)) few.0,
      few_alike (done (edit_of edit) tree) (done (edit_of edit) other) edits next few.1,
    )

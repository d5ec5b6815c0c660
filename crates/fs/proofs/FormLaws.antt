-- What each form of a change makes sure of, of whichever tree its edits can be done in: they are few, one name is put at most and is there after them, and what fits before the first and after the last fits after each.
use Rattle.std.proofs.Common.{◌≡◌, ◌≤◌, ◌⊎◌, ◌+◌, ℕ, zero, suc, true, List, [], ◌∷◌, Option, Some, None, length, take, refl, sym, ap, ◌∙◌, arith, inl, inr, subst}
use Rattle.std.proofs.Math.Logic.{∥∥₁_elim}
use Rattle.std.proofs.Props.{props}
use Rattle.std.proofs.lemmas.Bool.{cases_eq}
use Rattle.std.specs.Prelude.{IsTrue}
use Rattle.std.specs.List.{IsAmong}
use Rattle.tree_transaction.specs.Nodes.{metadata_of}
use Rattle.tree_edits.specs.declared.edit.Edit.{Edit}
use Rattle.tree_edits.specs.declared.edit.Edit.TheVariants as edit
use Rattle.tree_edits.specs.Doing.{made_by, updates_of_all}
use Rattle.tree_edits.specs.Edits.{AreDoable, edit_of, edits_of, fresh_node}
use Rattle.tree_edits.proofs.FitLaws.{fits-without_data}
use Rattle.model_tree.specs.declared.limits.Limits.{Limits}
use Rattle.model_tree.specs.declared.node.NodeKind.{NodeKind}
use Rattle.model_tree.specs.declared.node.NodeKind.TheVariants as kind
use Rattle.model_tree.specs.Trees.Charge.{charge, fits}
use Rattle.model_tree.specs.Trees.Edit.{Show, PutNode, PutName, DropName, DropNode, PutBytes, SetSize, done, edited, altered_at, showing, name_put, with_content, overwritten, resized}
use Rattle.model_tree.specs.Trees.Edit as model
use Rattle.model_tree.specs.Trees.Keyed.{at, with, IsAbove}
use Rattle.model_tree.specs.Trees.Stamp.{stamp}
use Rattle.model_tree.specs.Trees.Tree.{Tree, Node, DirEntry, File, bytes_of, names_of, names_of_node, names_at, is_directory_at}
use Rattle.model_tree.proofs.Trees.EditLaws.{directory_at}
use Rattle.model_tree.proofs.Trees.KeyedLaws.{at-with_same, at-with_other, IsAbove-with}
use Rattle.volume.specs.Edits.{HasPut, IsAboveAll, IsChange, edited_by, named_by}
use Rattle.volume.specs.Formed.{IsFormed}
use Rattle.volume.specs.VolumeState.{VolumeState}
use Rattle.volume.proofs.EditLaws.{one_number}
use Rattle.fs.specs.Forms.{Change, Place, Making, Removing, Moving, Writing, Setting, IsAllowed, edits_by, moving}
use Rattle.fs.proofs.RoomLaws.{above_altered, above_flat, above_name_dropped, above_node_dropped, above_metadata, drop_name_room, drop_node_room, put_name_room_back, set_size_room_back, show_room}

-- Its edits are few, and put at most one name

few_updates : (held : VolumeState) (change : Change) → IsAllowed held change → updates_of_all (edits_by change) ≤ 46
few_updates held (Making number of zero metadata directory name directory_metadata) above = omega arith
few_updates held (Making number of (suc size) metadata directory name directory_metadata) above = omega arith
few_updates held (Removing place number directory_metadata) any = omega arith
few_updates held (Moving number old new None old_metadata new_metadata) any = omega arith
few_updates held (Moving number old new (Some target) old_metadata new_metadata) any = omega arith
few_updates held (Writing file offset bytes metadata) less = omega (arith, less)
few_updates held (Setting number None metadata) any = omega arith
few_updates held (Setting number (Some size) metadata) any = omega arith

names_one : (change : Change) → length (named_by (edits_by change)) ≤ 1
names_one (Making number of zero metadata directory name directory_metadata) = omega arith
names_one (Making number of (suc size) metadata directory name directory_metadata) = omega arith
names_one (Removing place number directory_metadata) = omega arith
names_one (Moving number old new None old_metadata new_metadata) = omega arith
names_one (Moving number old new (Some target) old_metadata new_metadata) = omega arith
names_one (Writing file offset bytes metadata) = omega arith
names_one (Setting number None metadata) = omega arith
names_one (Setting number (Some size) metadata) = omega arith

-- a node that is made has it
made_named : (change : Change) → (made_by (edits_by change) ≡ []) ⊎ (made_by (edits_by change) ≡ named_by (edits_by change))
made_named (Making number of zero metadata directory name directory_metadata) = inr refl
made_named (Making number of (suc size) metadata directory name directory_metadata) = inr refl
made_named (Removing place number directory_metadata) = inl refl
made_named (Moving number old new None old_metadata new_metadata) = inl refl
made_named (Moving number old new (Some target) old_metadata new_metadata) = inl refl
made_named (Writing file offset bytes metadata) = inl refl
made_named (Setting number None metadata) = inl refl
made_named (Setting number (Some size) metadata) = inl refl

-- and a number above all others

alone : (held : VolumeState) (number other : ℕ) → IsAboveAll held number → IsAmong (number ∷ []) other → IsAboveAll held other
alone held number other above among = subst (IsAboveAll held) (one_number (number ∷ []) (omega arith) number other (0, (omega arith, refl)) among) above

none : (other : ℕ) → IsAmong [] other → ⊥
none other among = omega (arith, among.1.0)

made_fresh : (held : VolumeState) (change : Change) → IsAllowed held change → (number : ℕ) → IsAmong (made_by (edits_by change)) number → IsAboveAll held number
made_fresh held (Making number of zero metadata directory name directory_metadata) fresh other among = alone held number other fresh among
made_fresh held (Making number of (suc size) metadata directory name directory_metadata) fresh other among = alone held number other fresh among
made_fresh held (Removing place number directory_metadata) fresh other among = absurd (none other among)
made_fresh held (Moving number old new None old_metadata new_metadata) fresh other among = absurd (none other among)
made_fresh held (Moving number old new (Some target) old_metadata new_metadata) fresh other among = absurd (none other among)
made_fresh held (Writing file offset bytes metadata) fresh other among = absurd (none other among)
made_fresh held (Setting number None metadata) fresh other among = absurd (none other among)
made_fresh held (Setting number (Some size) metadata) fresh other among = absurd (none other among)

-- The name is there after them: what follows shows something else

names-metadata : (tree : Tree) (number : ℕ) (metadata : model.Metadata) (other : ℕ) → names_at (done (Show number metadata) tree) other ≡ names_at tree other
names-metadata tree number metadata other = by_node (at number tree) refl
  where
    by_node : (o : Option Node) → at number tree ≡ o → names_at (altered_at (showing metadata) tree number o) other ≡ names_at tree other
    by_node None is = refl
    by_node (Some node) is = elim (cases_eq other number) [
      | inl same ↦ ap (names_at (with tree number (showing metadata node))) same ∙ ap names_of_node (at-with_same tree number (showing metadata node))
          ∙ sym (ap names_of_node is) ∙ ap (names_at tree) (sym same)
      | inr apart ↦ ap names_of_node (at-with_other tree number other (showing metadata node) apart)
    ]

names-put : (tree : Tree) (number stamp : ℕ) (entry : DirEntry) → is_directory_at tree number ≡ true → at stamp (names_at (done (PutName number stamp entry) tree) number) ≡ Some entry
names-put tree number stamp entry is =
    let found = directory_at (at number tree) is in
    ap (λ (o : Option Node). at stamp (names_at (altered_at (name_put stamp entry) tree number o) number)) found.1
    ∙ ap (λ (o : Option Node). at stamp (names_of_node o)) (at-with_same tree number (name_put stamp entry found.0))
    ∙ at-with_same (names_of found.0.content) stamp entry

metadata_behind : (tree : Tree) (directory stamp : ℕ) (entry : DirEntry) (metadata : model.Metadata) → is_directory_at tree directory ≡ true
    → at stamp (names_at (done (Show directory metadata) (done (PutName directory stamp entry) tree)) directory) ≡ Some entry
metadata_behind tree directory stamp entry metadata there = ap (at stamp) (names-metadata (done (PutName directory stamp entry) tree) directory metadata directory) ∙ names-put tree directory stamp entry there

both_behind : (tree : Tree) (from to stamp : ℕ) (entry : DirEntry) (one other : model.Metadata) → is_directory_at tree to ≡ true
    → at stamp (names_at (done (Show to other) (done (Show from one) (done (PutName to stamp entry) tree))) to) ≡ Some entry
both_behind tree from to stamp entry one other there =
    let put = done (PutName to stamp entry) tree in
    ap (at stamp) (names-metadata (done (Show from one) put) to other to ∙ names-metadata put from one to) ∙ names-put tree to stamp entry there

name_there : (tree : Tree) (change : Change) → AreDoable tree (edits_by change) → HasPut (edited (edits_of (edits_by change)) tree) (edits_by change)
name_there tree (Making number of zero metadata directory name directory_metadata) can =
    (metadata_behind (done (edit_of (edit.PutNode number of metadata)) tree) directory number (record { name = name.now; number = number }) (metadata_of directory_metadata) can.1.0.there, tt)
name_there tree (Making number of (suc size) metadata directory name directory_metadata) can =
    (metadata_behind (done (SetSize number (suc size)) (done (edit_of (edit.PutNode number of metadata)) tree)) directory number (record { name = name.now; number = number }) (metadata_of directory_metadata) can.1.1.0.there, tt)
name_there tree (Removing place number directory_metadata) can = tt
name_there tree (Moving number old new None old_metadata new_metadata) can =
    (both_behind (done (DropName old.directory old.stamp) tree) old.directory new.directory new.stamp (record { name = new.name.now; number = number }) (metadata_of old_metadata) (metadata_of new_metadata) can.1.0.there, tt)
name_there tree (Moving number old new (Some target) old_metadata new_metadata) can = (
  both_behind (done (DropName old.directory old.stamp) (done (DropNode target.1) (done (DropName new.directory target.0) tree))) old.directory new.directory new.stamp
      (record { name = new.name.now; number = number }) (metadata_of old_metadata) (metadata_of new_metadata) can.1.1.1.0.there,
  tt,
)
name_there tree (Writing file offset bytes metadata) can = tt
name_there tree (Setting number None metadata) can = tt
name_there tree (Setting number (Some size) metadata) can = tt

-- What fits before the first and after the last fits after each: what lowers the charge comes first, then one edit of any kind, and then what raises it

-- if there is room after each of these edits, there was before it
abbrev AreRaising : Limits → Tree → List model.Edit → Type 0
AreRaising limits tree [] = Unit {0}
AreRaising limits tree (one ∷ rest) = (IsTrue (fits limits (done one tree)) → IsTrue (fits limits tree)) × AreRaising limits (done one tree) rest

fits_before : (limits : Limits) (tree : Tree) (edits : List model.Edit) → AreRaising limits tree edits → IsTrue (fits limits (edited edits tree)) → IsTrue (fits limits tree)
fits_before limits tree [] raising all = all
fits_before limits tree (one ∷ rest) raising all = raising.0 (fits_before limits (done one tree) rest raising.1 all)

fits_within : (limits : Limits) (tree : Tree) (edits : List model.Edit) → AreRaising limits tree edits → IsTrue (fits limits (edited edits tree))
    → (count : ℕ) → IsTrue (fits limits (edited (take count edits) tree))
fits_within limits tree [] raising all zero = all
fits_within limits tree [] raising all (suc count) = all
fits_within limits tree (one ∷ rest) raising all zero = fits_before limits tree (one ∷ rest) raising all
fits_within limits tree (one ∷ rest) raising all (suc count) = fits_within limits (done one tree) rest raising.1 all count

fits_behind : (limits : Limits) (tree : Tree) (one : model.Edit) (rest : List model.Edit) → IsTrue (fits limits tree) → ((count : ℕ) → IsTrue (fits limits (edited (take count rest) (done one tree))))
    → (count : ℕ) → IsTrue (fits limits (edited (take count (one ∷ rest)) tree))
fits_behind limits tree one rest fit each zero = fit
fits_behind limits tree one rest fit each (suc count) = each count

module _ (limits : Limits) where
  shows : (tree : Tree) (number : ℕ) (metadata : model.Metadata) → IsAbove 0 tree → IsTrue (fits limits (done (Show number metadata) tree)) → IsTrue (fits limits tree)
  shows tree number metadata above all = sym (show_room limits tree number metadata above) ∙ all

  -- a new node takes nothing before its size is set
  no_charge : (of : NodeKind) (metadata : model.Metadata) → charge (fresh_node of metadata) ≡ 0
  no_charge kind.File metadata = refl
  no_charge kind.Directory metadata = refl

  no_names : (of : NodeKind) (metadata : model.Metadata) → length (names_of (fresh_node of metadata).content) ≡ 0
  no_names kind.File metadata = refl
  no_names kind.Directory metadata = refl

  naming_raises : (tree : Tree) (directory stamp : ℕ) (entry : DirEntry) (metadata : model.Metadata) → IsAbove 0 tree → is_directory_at tree directory ≡ true
      → AreRaising limits tree (PutName directory stamp entry ∷ Show directory metadata ∷ [])
  naming_raises tree directory stamp entry metadata above there = (
    put_name_room_back tree directory stamp entry above there limits,
    (shows (done (PutName directory stamp entry) tree) directory metadata (above_altered (name_put stamp entry) tree directory above), tt),
  )

  moved_prefixes : (tree : Tree) → IsAbove 0 tree → IsTrue (fits limits tree) → (number : ℕ) (old new : Place) (one other : model.Metadata)
      → (let edits = DropName old.directory old.stamp ∷ PutName new.directory new.stamp (record { name = new.name.now; number = number }) ∷ Show old.directory one ∷ Show new.directory other ∷ [] in
      IsTrue (fits limits (edited edits tree)) → (count : ℕ) → IsTrue (fits limits (edited (take count edits) tree)))
  moved_prefixes tree above fit number old new one other all count =
      let put = PutName new.directory new.stamp (record { name = new.name.now; number = number }) in
      let first = done (DropName old.directory old.stamp) tree in
      let second = done put first in
      let third = done (Show old.directory one) second in
      let first_above = above_name_dropped tree old.directory old.stamp above in
      let second_above = above_altered (name_put new.stamp (record { name = new.name.now; number = number })) first new.directory first_above in
      fits_behind limits tree (DropName old.directory old.stamp) (put ∷ Show old.directory one ∷ Show new.directory other ∷ []) fit
      (fits_behind limits first put (Show old.directory one ∷ Show new.directory other ∷ []) (drop_name_room tree old.directory old.stamp above limits fit)
      (fits_within limits second (Show old.directory one ∷ Show new.directory other ∷ [])
      (shows second old.directory one second_above, (shows third new.directory other (above_metadata second old.directory one second_above), tt)) all))
      count

  each_fits : (tree : Tree) → IsAbove 0 tree → IsTrue (fits limits tree) → (change : Change) → AreDoable tree (edits_by change) → IsTrue (fits limits (edited (edits_of (edits_by change)) tree))
      → (count : ℕ) → IsTrue (fits limits (edited (take count (edits_of (edits_by change))) tree))
  each_fits tree above fit (Making number of zero metadata directory name directory_metadata) can all count =
      let put = fresh_node of (metadata_of metadata) in
      let entry : DirEntry = record { name = name.now; number = number } in
      fits_behind limits tree (PutNode number put) (PutName directory number entry ∷ Show directory (metadata_of directory_metadata) ∷ []) fit
      (fits_within limits (with tree number put) (PutName directory number entry ∷ Show directory (metadata_of directory_metadata) ∷ [])
      (naming_raises (with tree number put) directory number entry (metadata_of directory_metadata) (IsAbove-with tree number 0 put above can.0.some) can.1.0.there) all)
      count
  each_fits tree above fit (Making number of (suc size) metadata directory name directory_metadata) can all count =
      let put = fresh_node of (metadata_of metadata) in
      let entry : DirEntry = record { name = name.now; number = number } in
      let sized : Node → Node = λ node. with_content node (File (resized (bytes_of node.content) (suc size))) in
      let first = with tree number put in
      let first_above = IsAbove-with tree number 0 put above can.0.some in
      fits_behind limits tree (PutNode number put) (SetSize number (suc size) ∷ PutName directory number entry ∷ Show directory (metadata_of directory_metadata) ∷ []) fit
      (fits_within limits first (SetSize number (suc size) ∷ PutName directory number entry ∷ Show directory (metadata_of directory_metadata) ∷ []) (
        set_size_room_back first number (suc size) put first_above (at-with_same tree number put) (no_charge of (metadata_of metadata)) (no_names of (metadata_of metadata)) limits,
        naming_raises (done (SetSize number (suc size)) first) directory number entry (metadata_of directory_metadata) (above_altered sized first number first_above) can.1.1.0.there,
      ) all)
      count
  each_fits tree above fit (Removing place number directory_metadata) can all count =
      let first = done (DropName place.directory place.stamp) tree in
      let second = done (DropNode number) first in
      let first_above = above_name_dropped tree place.directory place.stamp above in
      fits_behind limits tree (DropName place.directory place.stamp) (DropNode number ∷ Show place.directory (metadata_of directory_metadata) ∷ []) fit
      (fits_behind limits first (DropNode number) (Show place.directory (metadata_of directory_metadata) ∷ []) (drop_name_room tree place.directory place.stamp above limits fit)
      (fits_within limits second (Show place.directory (metadata_of directory_metadata) ∷ []) (shows second place.directory (metadata_of directory_metadata) (above_node_dropped first number first_above), tt) all))
      count
  each_fits tree above fit (Moving number old new None old_metadata new_metadata) can all count =
      moved_prefixes tree above fit number old new (metadata_of old_metadata) (metadata_of new_metadata) all count
  each_fits tree above fit (Moving number old new (Some target) old_metadata new_metadata) can all count =
      let behind = edits_of (moving number old new old_metadata new_metadata) in
      let first = done (DropName new.directory target.0) tree in
      let first_above = above_name_dropped tree new.directory target.0 above in
      let first_fits = drop_name_room tree new.directory target.0 above limits fit in
      fits_behind limits tree (DropName new.directory target.0) (DropNode target.1 ∷ behind) fit
      (fits_behind limits first (DropNode target.1) behind first_fits
      (moved_prefixes (done (DropNode target.1) first) (above_node_dropped first target.1 first_above) (drop_node_room first target.1 first_above limits first_fits)
      number old new (metadata_of old_metadata) (metadata_of new_metadata) all))
      count
  each_fits tree above fit (Writing file offset bytes metadata) can all count =
      let put : Node → Node = λ node. with_content node (File (overwritten (bytes_of node.content) offset bytes.now)) in
      let first = done (PutBytes file offset bytes.now) tree in
      fits_behind limits tree (PutBytes file offset bytes.now) (Show file (metadata_of metadata) ∷ []) fit
      (fits_within limits first (Show file (metadata_of metadata) ∷ []) (shows first file (metadata_of metadata) (above_altered put tree file above), tt) all)
      count
  each_fits tree above fit (Setting number None metadata) can all count =
      fits_within limits tree (Show number (metadata_of metadata) ∷ []) (shows tree number (metadata_of metadata) above, tt) all count
  each_fits tree above fit (Setting number (Some size) metadata) can all count =
      let sized : Node → Node = λ node. with_content node (File (resized (bytes_of node.content) size)) in
      let first = done (SetSize number size) tree in
      fits_behind limits tree (SetSize number size) (Show number (metadata_of metadata) ∷ []) fit
      (fits_within limits first (Show number (metadata_of metadata) ∷ []) (shows first number (metadata_of metadata) (above_altered sized tree number above), tt) all)
      count

-- So a volume takes a change of one of them

pub form_is_change : (held : VolumeState) (before : ℕ) → IsFormed held.limits before held.tree → (change : Change) → IsAllowed held change → AreDoable held.tree (edits_by change)
    → (IsTrue (fits held.limits (edited_by held (edits_by change))) → IsFormed held.limits (stamp (held.run + 1) 0) (edited_by held (edits_by change)))
    → IsChange held (edits_by change)
form_is_change held before formed change allowed doable stands = record {
  few = few_updates held change allowed;
  doable = doable;
  named = names_one change;
  made = made_named change;
  fresh = made_fresh held change allowed;
  put = name_there held.tree change doable;
  prefixes = λ count all. ∥∥₁_elim formed.well_formed (Prim.hlevel props) (λ well.
      each_fits held.limits held.tree (above_flat 0 held.tree well.numbered) (sym (fits-without_data held.limits held.tree) ∙ well.fitting) change doable all count);
  formed = stands;
}

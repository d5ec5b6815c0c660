-- The edits of a rename can be done one after the other, and there is room for them if there is for
-- those with the stamp 0.
use Rattle.std.proofs.Common.{◌≡◌, ◌≤◌, ◌<◌, ◌^◌, ◌++◌, ℕ, true, false, List, [], ◌∷◌, Option, Some, None, length, refl, sym, ap, ◌∙◌, arith, inl, inr, subst, ◌⊎◌}
use denote.Ref.{Bor}
use Rattle.std.proofs.Math.Logic.{∥∥₁_elim}
use Rattle.std.proofs.Props.{props}
use Rattle.directory.specs.Records.{record_from}
use Rattle.tree_transaction.specs.declared.nodes.Metadata.{Metadata}
use Rattle.tree_transaction.specs.Nodes.{metadata_of}
use Rattle.tree_edits.specs.declared.edit.Edit.{Edit}
use Rattle.tree_edits.specs.declared.edit.Edit.TheVariants as edit
use Rattle.tree_edits.specs.Sizes.{resized_by}
use Rattle.tree_edits.proofs.SizeLaws.{IsRising}
use Rattle.tree_edits.specs.Edits.{AreEntries, AreDoable, edits_of}
use Rattle.tree_edits.specs.Measures.{AreMeasurable}
use Rattle.tree_edits.specs.Outlines.{without_data}
use Rattle.tree_edits.proofs.BlankLaws.{without_data-twice, directory-without_data}
use Rattle.tree_edits.proofs.BlankLaws.{names-without_data}
use Rattle.tree_edits.proofs.DoableLaws.{doable_alike, measurable, measurable_alike}
use Rattle.tree_edits.proofs.RoomAlike.{AlikeEdits, same_room}
use Rattle.model_tree.specs.declared.acl.Cred.{Cred}
use Rattle.model_tree.specs.declared.limits.Limits.{Limits}
use Rattle.model_tree.specs.Trees.Charge.{fits}
use Rattle.model_tree.specs.Trees.Edit.{DropName, PutName, Show, done, edited, name_dropped, name_put, showing}
use Rattle.model_tree.specs.Trees.Edit as model
use Rattle.model_tree.specs.Trees.Keyed.{at, is_key, IsAbove}
use Rattle.volume.specs.VolumeState.{IsLimited}
use Rattle.model_tree.specs.Refusals.Refusal.{first_refusal}
use Rattle.model_tree.specs.Trees.Stamp.{next_stamp}
use Rattle.model_tree.specs.Trees.Tree.{Tree, DirEntry, entry_of, names_at, is_directory_at}
use Rattle.model_tree.specs.Trees.WellFormed.{IsWellFormed}
use Rattle.model_tree.proofs.Trees.KeyedLaws.{IsAbove-without}
use Rattle.fs.specs.declared.renaming.Renaming.{Renaming}
use Rattle.fs.specs.FileSystem.{FileSystem}
use Rattle.fs.specs.Ready.{MayStand}
use Rattle.fs.specs.Renaming.{arguments_of, is_itself}
use Rattle.fs.specs.RenameTests.{moving_refusals, placing_refusals, IsTarget}
use Rattle.fs.proofs.FlatLaws.{key-altered}
use Rattle.fs.proofs.PlacedLaws.{CanMove, can_move, moved_doable, moving_edits, target_there, zero_open}
use Rattle.fs.proofs.MakingPlans.{name_some, name_short}
use Rattle.fs.proofs.RenamedLaws as laws
use Rattle.fs.specs.Forms.{replacing}
use Rattle.fs.proofs.RoomLaws.{above_altered, show_room}

module _ (fs : FileSystem) (formed : MayStand fs.volume fs.changes) (counted : fs.changes < 2 ^ 32) (limited : IsLimited fs.volume)
    (cred : Cred) (now : ℕ) (asked : Renaming) (old_stamp number : ℕ) (target : Option (ℕ × ℕ))
    (found : entry_of asked.old_name.now (names_at fs.volume.tree asked.from) ≡ Some (record_from old_stamp asked.old_name.now number)) (under : IsTarget fs.volume.tree asked target)
    (passed : first_refusal (moving_refusals fs.volume.limits fs.volume.tree asked.from asked.to (arguments_of asked)) ≡ None)
    (placed : first_refusal (placing_refusals fs.volume.tree cred asked.from asked.to (arguments_of asked)) ≡ None)
    (other : is_itself asked.from asked.to (arguments_of asked) ≡ false)
    (from_metadata to_metadata : Metadata) (from_entries : AreEntries (metadata_of from_metadata).acl) (to_entries : AreEntries (metadata_of to_metadata).acl) where
  abbrev own : ℕ
  own = next_stamp fs.volume.run fs.changes

  abbrev flat : Tree
  flat = without_data fs.volume.tree

  pub places : laws.HasPlaces fs.volume.limits fs.volume.tree asked
  places = laws.places fs formed counted limited cred now asked old_stamp number target found under passed placed other

  can_by : IsWellFormed fs.volume.limits flat → CanMove (laws.cleared asked.to target flat) asked old_stamp number own
  can_by well = can_move fs.volume.limits (laws.cleared asked.to target flat) own number old_stamp asked
      (laws.free fs formed counted limited cred now asked old_stamp number target found under passed placed other well)

  pub can_move_there : CanMove (laws.cleared asked.to target flat) asked old_stamp number own
  can_move_there = record {
    from_directory = ∥∥₁_elim formed.well_formed (Prim.hlevel props) (λ well. (can_by well).from_directory);
    entry = ∥∥₁_elim formed.well_formed (Prim.hlevel props) (λ well. (can_by well).entry);
    to_key = ∥∥₁_elim formed.well_formed (Prim.hlevel props) (λ well. (can_by well).to_key);
    to_directory = ∥∥₁_elim formed.well_formed (Prim.hlevel props) (λ well. (can_by well).to_directory);
    new_name = ∥∥₁_elim formed.well_formed (Prim.hlevel props) (λ well. (can_by well).new_name);
    new_stamp = ∥∥₁_elim formed.well_formed (Prim.hlevel props) (λ well. (can_by well).new_stamp);
  }

  pub name_is_some : 0 < length asked.new_name.now
  name_is_some = name_some fs.volume.limits asked.new_name.now places.allowed

  pub name_is_short : length asked.new_name.now ≤ 255
  name_is_short = (let short = name_short fs.volume.limits asked.new_name.now places.allowed in omega (arith, short, ap (λ (l : Limits). l.name_bytes) limited.limits))

  pub name_high : 0 < own
  name_high = omega arith

  moved : AreDoable (laws.cleared asked.to target flat) (moving_edits asked old_stamp number own from_metadata to_metadata)
  moved = moved_doable (laws.cleared asked.to target flat) own number old_stamp asked from_metadata to_metadata can_move_there name_high name_is_some name_is_short from_entries to_entries

  to_flat : is_directory_at flat asked.to ≡ true
  to_flat = directory-without_data fs.volume.tree asked.to ∙ places.to_directory

  target_key : (one : ℕ × ℕ) → IsTarget fs.volume.tree asked (Some one) → is_key one.1 (done (DropName asked.to one.0) flat) ≡ true
  target_key one there = ∥∥₁_elim formed.well_formed (Prim.hlevel props) (λ well.
      key-altered (name_dropped one.0) flat asked.to one.1 ∙ target_there_by well)
    where
      target_there_by : IsWellFormed fs.volume.limits flat → is_key one.1 flat ≡ true
      target_there_by well = target_there fs.volume.limits flat well own formed.before asked.from asked.to asked.old_name.now asked.new_name.now (record_from old_stamp asked.old_name.now number)
          (directory-without_data fs.volume.tree asked.from ∙ places.from_directory) to_flat (ap (entry_of asked.old_name.now) (names-without_data fs.volume.tree asked.from) ∙ found)
          (record_from one.0 asked.new_name.now one.1) (ap (entry_of asked.new_name.now) (names-without_data fs.volume.tree asked.to) ∙ there)
          (names-without_data fs.volume.tree one.1 ∙ laws.empty_by fs.volume.tree cred asked one there placed)
          (laws.differs fs formed counted limited cred now asked old_stamp number target found under passed placed other)

  doable_by : (o : Option (ℕ × ℕ)) → IsTarget fs.volume.tree asked o → AreDoable (laws.cleared asked.to o flat) (moving_edits asked old_stamp number own from_metadata to_metadata)
      → AreDoable flat (replacing asked.to asked.new_name o ++ moving_edits asked old_stamp number own from_metadata to_metadata)
  doable_by None there rest = rest
  doable_by (Some one) there rest = (
    record { there = to_flat; number = one.1; named = ap (entry_of asked.new_name.now) (names-without_data fs.volume.tree asked.to) ∙ there },
    (target_key one there, rest),
  )

  abbrev pub list_at : (stamp : ℕ) → List Edit
  list_at stamp = replacing asked.to asked.new_name target ++ moving_edits asked old_stamp number stamp from_metadata to_metadata

  flat_doable : AreDoable flat (list_at own)
  flat_doable = doable_by target under moved

  pub doable_own : AreDoable fs.volume.tree (list_at own)
  doable_own = doable_alike flat fs.volume.tree (list_at own) (sym (without_data-twice fs.volume.tree)) flat_doable

  -- Room can be computed for the next stamp, and for 0

  zero_by : IsWellFormed fs.volume.limits flat → at 0 (names_at (done (DropName asked.from old_stamp) (laws.cleared asked.to target flat)) asked.to) ≡ None
  zero_by well = zero_open fs.volume.limits (laws.cleared asked.to target flat) own asked.from asked.to asked.old_name.now asked.new_name.now old_stamp
      (record { name = asked.old_name.now; number = number }) (laws.free fs formed counted limited cred now asked old_stamp number target found under passed placed other well)

  measured_by : (o : Option (ℕ × ℕ)) → AreMeasurable flat (replacing asked.to asked.new_name o ++ moving_edits asked old_stamp number own from_metadata to_metadata)
      → at 0 (names_at (done (DropName asked.from old_stamp) (laws.cleared asked.to o flat)) asked.to) ≡ None
      → AreMeasurable flat (replacing asked.to asked.new_name o ++ moving_edits asked old_stamp number 0 from_metadata to_metadata)
  measured_by None can none = (can.0, (record { there = can.1.0.there; new_stamp = none }, (tt, (tt, tt))))
  measured_by (Some one) can none = (can.0, (can.1.0, (can.1.1.0, (record { there = can.1.1.1.0.there; new_stamp = none }, (tt, (tt, tt))))))

  measured_alike : (stamp : ℕ) → AreMeasurable flat (list_at stamp) → AreMeasurable fs.volume.tree (list_at stamp)
  measured_alike stamp can = measurable_alike flat fs.volume.tree (list_at stamp) (sym (without_data-twice fs.volume.tree)) can

  measured_zero : AreMeasurable fs.volume.tree (list_at 0)
  measured_zero = measured_alike 0 (measured_by target (measurable flat (list_at own) flat_doable) (∥∥₁_elim formed.well_formed (Prim.hlevel props) (λ well. zero_by well)))

  pub measured_own : AreMeasurable fs.volume.tree (list_at own)
  measured_own = measured_alike own (measurable flat (list_at own) flat_doable)

  pub measured_at : (stamp : ℕ) → (stamp ≡ own) ⊎ (stamp ≡ 0) → AreMeasurable fs.volume.tree (list_at stamp)
  measured_at stamp (inl same) = subst (λ (s : ℕ). AreMeasurable fs.volume.tree (list_at s)) (sym same) measured_own
  measured_at stamp (inr none) = subst (λ (s : ℕ). AreMeasurable fs.volume.tree (list_at s)) (sym none) measured_zero

-- The same room is left under any two stamps

put_alike : (to stamp other number : ℕ) (name : Bor (List ℕ)) (size : _) → resized_by (edit.PutName to stamp name number) size ≡ resized_by (edit.PutName to other name number) size
put_alike to stamp other number name None = refl
put_alike to stamp other number name (Some size) = refl

alike_by : (to : ℕ) (name : Bor (List ℕ)) (target : Option (ℕ × ℕ)) (rest others : List Edit) → AlikeEdits rest others → AlikeEdits (replacing to name target ++ rest) (replacing to name target ++ others)
alike_by to name None rest others alike = alike
alike_by to name (Some one) rest others alike =
    (record { number = refl; resized = λ size. refl }, (record { number = refl; resized = λ size. refl }, alike))

pub moved_room : (limits : Limits) (tree : Tree) (asked : Renaming) (old_stamp number stamp other : ℕ) (target : Option (ℕ × ℕ)) (from_metadata to_metadata from_other to_other : Metadata) → IsRising tree
    → AreMeasurable tree (replacing asked.to asked.new_name target ++ moving_edits asked old_stamp number stamp from_metadata to_metadata)
    → AreMeasurable tree (replacing asked.to asked.new_name target ++ moving_edits asked old_stamp number other from_other to_other)
    → fits limits (edited (edits_of (replacing asked.to asked.new_name target ++ moving_edits asked old_stamp number stamp from_metadata to_metadata)) tree)
    ≡ fits limits (edited (edits_of (replacing asked.to asked.new_name target ++ moving_edits asked old_stamp number other from_other to_other)) tree)
moved_room limits tree asked old_stamp number stamp other target from_metadata to_metadata from_other to_other rising can could =
    same_room limits tree (replacing asked.to asked.new_name target ++ moving_edits asked old_stamp number stamp from_metadata to_metadata)
    (replacing asked.to asked.new_name target ++ moving_edits asked old_stamp number other from_other to_other)
    (alike_by asked.to asked.new_name target (moving_edits asked old_stamp number stamp from_metadata to_metadata) (moving_edits asked old_stamp number other from_other to_other) (
      record { number = refl; resized = λ size. refl },
      (
        record { number = refl; resized = put_alike asked.to stamp other number asked.new_name },
        (record { number = refl; resized = λ size. refl }, (record { number = refl; resized = λ size. refl }, tt)),
      ),
    ))
    can could rising

-- and what both directories show does not matter either

shows_room : (limits : Limits) (tree : Tree) (from to : ℕ) (one two three four : model.Metadata) → IsAbove 0 tree
    → fits limits (done (Show to two) (done (Show from one) tree)) ≡ fits limits (done (Show to four) (done (Show from three) tree))
shows_room limits tree from to one two three four above =
    show_room limits (done (Show from one) tree) to two (above_altered (showing one) tree from above) ∙ show_room limits tree from one above
    ∙ sym (show_room limits (done (Show from three) tree) to four (above_altered (showing three) tree from above) ∙ show_room limits tree from three above)

above_cleared : (tree : Tree) (to : ℕ) (target : Option (ℕ × ℕ)) → IsAbove 0 tree → IsAbove 0 (laws.cleared to target tree)
above_cleared tree to None above = above
above_cleared tree to (Some one) above = IsAbove-without (done (DropName to one.0) tree) one.1 0 (above_altered (name_dropped one.0) tree to above)

pub metadata_room : (limits : Limits) (tree : Tree) (asked : Renaming) (old_stamp stamp : ℕ) (put : DirEntry) (target : Option (ℕ × ℕ)) (one two three four : model.Metadata) → IsAbove 0 tree
    → fits limits (edited (laws.dropping asked.to target ++ (DropName asked.from old_stamp ∷ PutName asked.to stamp put ∷ Show asked.from one ∷ Show asked.to two ∷ [])) tree)
    ≡ fits limits (edited (laws.dropping asked.to target ++ (DropName asked.from old_stamp ∷ PutName asked.to stamp put ∷ Show asked.from three ∷ Show asked.to four ∷ [])) tree)
metadata_room limits tree asked old_stamp stamp put target one two three four above =
    let cleared = laws.cleared asked.to target tree in
    let first = done (DropName asked.from old_stamp) cleared in
    let rises = above_altered (name_put stamp put) first asked.to (above_altered (name_dropped old_stamp) cleared asked.from (above_cleared tree asked.to target above)) in
    ap (fits limits) (laws.cleared_is asked.to target (DropName asked.from old_stamp ∷ PutName asked.to stamp put ∷ Show asked.from one ∷ Show asked.to two ∷ []) tree)
    ∙ shows_room limits (done (PutName asked.to stamp put) first) asked.from asked.to one two three four rises
    ∙ sym (ap (fits limits) (laws.cleared_is asked.to target (DropName asked.from old_stamp ∷ PutName asked.to stamp put ∷ Show asked.from three ∷ Show asked.to four ∷ []) tree))

-- The edits of a rename, as they are in memory: a change that may be kept if it fits, and that does
-- what the definition says.
use Rattle.std.proofs.Common.{◌≡◌, ◌<◌, ◌+◌, ◌^◌, ℕ, true, false, List, [], ◌∷◌, ◌++◌, Option, Some, None, refl, sym, ap, ap₂, ◌∙◌, subst, inl, inr, ◌⊎◌, true≢false}
use denote.Ref.{Bor}
use Rattle.std.proofs.Math.Logic.{∥∥₁_elim}
use Rattle.std.proofs.Props.{props}
use Rattle.std.proofs.lemmas.Bool.{lt-ltb, ltb-true}
use Rattle.std.specs.Prelude.{IsTrue, option_map, unwrap_or, MatchOption}
use Rattle.directory.specs.Listing.{by_stamp}
use Rattle.directory.specs.Records.{Record, NamesStamped, record_from}
use Rattle.tree_transaction.specs.declared.nodes.Metadata.{Metadata}
use Rattle.tree_transaction.specs.Nodes.{metadata_of}
use Rattle.tree_edits.specs.declared.edit.Edit.{Edit}
use Rattle.tree_edits.specs.Edits.{AreEntries, AreDoable, edits_of}
use Rattle.tree_edits.specs.Measures.{AreMeasurable}
use Rattle.model_tree.specs.declared.acl.Cred.{Cred}
use Rattle.layout.specs.CachedNodes.{CachedNode}
use Rattle.layout.specs.Known.{IsCached}
use Rattle.model_tree.specs.declared.status.Status.{Status}
use Rattle.model_tree.specs.Trees.Changes.{touched}
use Rattle.model_tree.specs.Trees.Charge.{fits}
use Rattle.model_tree.specs.Trees.Edit.{DropName, PutName, Show, edited}
use Rattle.model_tree.specs.Trees.Edit as model
use Rattle.model_tree.specs.Trees.Keyed.{at}
use Rattle.volume.specs.VolumeState.{IsLimited}
use Rattle.model_tree.specs.Refusals.Refusal.{first_refusal}
use Rattle.model.specs.Operations.Operation.{Argument}
use Rattle.model_tree.specs.Trees.Stamp.{next_stamp, is_stamp_left}
use Rattle.model.specs.Operations.Step.{State, does, refused}
use Rattle.model_tree.specs.Trees.Tree.{Tree, DirEntry, entry_of, names_at, is_directory_at}
use Rattle.fs.specs.declared.renaming.Moving.{Moving}
use Rattle.fs.specs.declared.renaming.Renaming.{Renaming}
use Rattle.fs.specs.FileSystem.{FileSystem}
use Rattle.fs.specs.Making.{AsRoomy, room_tests}
use Rattle.fs.specs.Planned.{IsPlanned, metadata_by}
use Rattle.fs.specs.Ready.{MayStand}
use Rattle.fs.specs.Renaming.{IsOnBoth, arguments_of, is_itself, renamed}
use Rattle.fs.specs.RenameTests.{FindsMoving, moving_refusals, placing_refusals, record_under, IsTarget, new_place, old_place}
use Rattle.fs.proofs.CachedNodeViews.{entry_at, encoded_kind}
use Rattle.fs.proofs.KeptLaws.{planned_by}
use Rattle.fs.proofs.PlacedLaws.{moving_edits}
use Rattle.fs.proofs.RenameDoable.{doable_own, measured_at, measured_own, moved_room, metadata_room}
use Rattle.fs.proofs.RemovalPlans.{metadata_touched, change_metadata, entries_metadata}
use Rattle.fs.proofs.RenamedLaws as laws
use Rattle.fs.proofs.RoomTests.{HasRoom, above_all, rising_by, told_by}
use Rattle.volume.specs.Edits.{edited_by}
use Rattle.volume.specs.Formed.{IsFormed}
use Rattle.fs.specs.Forms.{replacing}
use Rattle.fs.specs.Forms as form
use Rattle.volume.specs.Nodes.{IsNodeOf}

edits_are_of : (to : ℕ) (name : Bor (List ℕ)) (target : Option (ℕ × ℕ)) (rest : List Edit) → edits_of (replacing to name target ++ rest) ≡ laws.dropping to target ++ edits_of rest
edits_are_of to name None rest = refl
edits_are_of to name (Some found) rest = refl

module _ (fs : FileSystem) (formed : MayStand fs.volume fs.changes) (counted : fs.changes < 2 ^ 32) (limited : IsLimited fs.volume)
    (cred : Cred) (now : ℕ) (asked : Renaming) (old_stamp number : ℕ) (target : Option (ℕ × ℕ))
    (found : entry_of asked.old_name.now (names_at fs.volume.tree asked.from) ≡ Some (record_from old_stamp asked.old_name.now number)) (under : IsTarget fs.volume.tree asked target)
    (passed : first_refusal (moving_refusals fs.volume.limits fs.volume.tree asked.from asked.to (arguments_of asked)) ≡ None)
    (placed : first_refusal (placing_refusals fs.volume.tree cred asked.from asked.to (arguments_of asked)) ≡ None)
    (other : is_itself asked.from asked.to (arguments_of asked) ≡ false)
    (from_metadata to_metadata : Metadata) (from_is : metadata_of from_metadata ≡ touched (at asked.from fs.volume.tree) (next_stamp fs.volume.run fs.changes) now)
    (to_is : metadata_of to_metadata ≡ touched (at asked.to fs.volume.tree) (next_stamp fs.volume.run fs.changes) now)
    (from_entries : AreEntries (metadata_of from_metadata).acl) (to_entries : AreEntries (metadata_of to_metadata).acl) where
  abbrev own : ℕ
  own = next_stamp fs.volume.run fs.changes

  abbrev pub list : List Edit
  list = replacing asked.to asked.new_name target ++ moving_edits asked old_stamp number own from_metadata to_metadata

  abbrev put : DirEntry
  put = record { name = asked.new_name.now; number = number }

  abbrev wanted : List model.Edit
  wanted = laws.wanted fs formed counted limited cred now asked old_stamp number target found under passed placed other

  abbrev pub after : Tree
  after = laws.after fs formed counted limited cred now asked old_stamp number target found under passed placed other

  wanted_is : edits_of list ≡ wanted
  wanted_is = edits_are_of asked.to asked.new_name target (moving_edits asked old_stamp number own from_metadata to_metadata)
      ∙ ap₂ (λ (a b : model.Metadata). laws.dropping asked.to target ++ (DropName asked.from old_stamp ∷ PutName asked.to own put ∷ Show asked.from a ∷ Show asked.to b ∷ [])) from_is to_is

  pub after_is : edited_by fs.volume list ≡ after
  after_is = ap (λ (l : List model.Edit). edited l fs.volume.tree) wanted_is

  doable : AreDoable fs.volume.tree list
  doable = doable_own fs formed counted limited cred now asked old_stamp number target found under passed placed other from_metadata to_metadata from_entries to_entries

  module _ (fit_after : IsTrue (fits fs.volume.limits after)) (left : fs.changes + 1 < 2 ^ 32) where
    pub planned : IsPlanned fs list
    planned = planned_by fs formed counted limited (form.Moving number (old_place asked old_stamp) (new_place asked own) target from_metadata to_metadata) tt doable
        (ap (fits fs.volume.limits) after_is ∙ fit_after) left
        (subst (IsFormed fs.volume.limits (next_stamp fs.volume.run (fs.changes + 1))) (sym after_is)
        (laws.formed_after fs formed counted limited cred now asked old_stamp number target found under passed placed other fit_after (lt-ltb (fs.changes + 1) (2 ^ 32) left)))

-- The stamp of its edits: the next one, or 0 if none is left

pub stamp_of : (fs : FileSystem) (next : Option ℕ)
    → MatchOption next (is_stamp_left fs.changes ≡ false) (λ stamp. (stamp ≡ next_stamp fs.volume.run fs.changes) × (fs.changes + 1 < 2 ^ 32))
    → (unwrap_or next 0 ≡ next_stamp fs.volume.run fs.changes) ⊎ (unwrap_or next 0 ≡ 0)
stamp_of fs None none = inr refl
stamp_of fs (Some stamp) is = inl is.0

pub own_stamp : (fs : FileSystem) (next : Option ℕ)
    → MatchOption next (is_stamp_left fs.changes ≡ false) (λ stamp. (stamp ≡ next_stamp fs.volume.run fs.changes) × (fs.changes + 1 < 2 ^ 32))
    → fs.changes + 1 < 2 ^ 32 → unwrap_or next 0 ≡ next_stamp fs.volume.run fs.changes
own_stamp fs None none left = absurd (true≢false (sym (lt-ltb (fs.changes + 1) (2 ^ 32) left) ∙ none))
own_stamp fs (Some stamp) is left = is.0

-- By what memory has of both directories

record_mapped : (name : List ℕ) (o : Option (ℕ × ℕ)) → option_map (λ (found : ℕ × ℕ). record_from found.0 name found.1) o ≡ record_under name o
record_mapped name None = refl
record_mapped name (Some found) = refl

-- what a search of the target directory returns is the target
pub target_told : (tree : Tree) (asked : Renaming) (cached : CachedNode) (node : IsNodeOf tree asked.to cached) → IsCached cached → is_directory_at tree asked.to ≡ true
    → (names : List Record) → names ≡ cached.names → (target : Option (ℕ × ℕ))
    → (NamesStamped names → option_map (λ (found : ℕ × ℕ). record_from found.0 asked.new_name.now found.1) target ≡ entry_of asked.new_name.now (by_stamp names)) → IsTarget tree asked target
target_told tree asked cached node fit directory names same target told =
    entry_at tree asked.to cached node fit (encoded_kind tree asked.to cached node directory) asked.new_name.now names same (record_under asked.new_name.now target)
    (λ stamped. sym (record_mapped asked.new_name.now target) ∙ told stamped)

module _ (fs : FileSystem) (formed : MayStand fs.volume fs.changes) (counted : fs.changes < 2 ^ 32) (limited : IsLimited fs.volume)
    (cred : Cred) (now : ℕ) (asked : Renaming) (moving : Moving) (target : Option (ℕ × ℕ)) (moved : FindsMoving fs.volume.tree asked moving)
    (passed : first_refusal (moving_refusals fs.volume.limits fs.volume.tree asked.from asked.to (arguments_of asked)) ≡ None)
    (placed : first_refusal (placing_refusals fs.volume.tree cred asked.from asked.to (arguments_of asked)) ≡ None)
    (other : is_itself asked.from asked.to (arguments_of asked) ≡ false) (names : List Record) (names_are : names ≡ moving.to.now.names)
    (told : NamesStamped names → option_map (λ (found : ℕ × ℕ). record_from found.0 asked.new_name.now found.1) target ≡ entry_of asked.new_name.now (by_stamp names))
    (stamp : ℕ) (from_metadata to_metadata : Metadata) (from_told : metadata_of from_metadata ≡ metadata_by moving.from.now.fields stamp now)
    (to_told : metadata_of to_metadata ≡ metadata_by moving.to.now.fields stamp now) (edits : List Edit)
    (edits_told : edits ≡ replacing asked.to asked.new_name target ++ moving_edits asked moving.stamp moving.number stamp from_metadata to_metadata) where
  abbrev stamp_now : ℕ
  stamp_now = next_stamp fs.volume.run fs.changes

  pub is_target : IsTarget fs.volume.tree asked target
  is_target = target_told fs.volume.tree asked moving.to.now moved.to moved.to_fits (laws.places_by fs.volume.limits fs.volume.tree asked passed).to_directory names names_are target told

  from_list : AreEntries (metadata_of from_metadata).acl
  from_list = entries_metadata fs formed limited asked.from moving.from.now moved.from moved.from_fits from_metadata stamp now from_told

  to_list : AreEntries (metadata_of to_metadata).acl
  to_list = entries_metadata fs formed limited asked.to moving.to.now moved.to moved.to_fits to_metadata stamp now to_told

  abbrev pub tree_after : Tree
  tree_after = laws.after fs formed counted limited cred now asked moving.stamp moving.number target moved.entry is_target passed placed other

  -- Which stamp it has does not matter to the room

  module _ (stamp_in : (stamp ≡ next_stamp fs.volume.run fs.changes) ⊎ (stamp ≡ 0)) where
    list_measured : AreMeasurable fs.volume.tree (replacing asked.to asked.new_name target ++ moving_edits asked moving.stamp moving.number stamp from_metadata to_metadata)
    list_measured = measured_at fs formed counted limited cred now asked moving.stamp moving.number target moved.entry is_target passed placed other from_metadata to_metadata from_list to_list stamp stamp_in

    pub measured_edits : AreMeasurable fs.volume.tree edits
    measured_edits = subst (AreMeasurable fs.volume.tree) (sym edits_told) list_measured

    pub room_asked : AsRoomy fs tree_after (edited_by fs.volume edits)
    room_asked = sym (∥∥₁_elim formed.well_formed (Prim.hlevel props) (λ well.
        let put : DirEntry = record { name = asked.new_name.now; number = moving.number } in
        ap (λ (l : List Edit). fits fs.volume.limits (edited_by fs.volume l)) edits_told
        ∙ moved_room fs.volume.limits fs.volume.tree asked moving.stamp moving.number stamp stamp_now target from_metadata to_metadata from_metadata to_metadata
        (rising_by fs.volume.limits fs.volume.tree well) list_measured
        (measured_own fs formed counted limited cred now asked moving.stamp moving.number target moved.entry is_target passed placed other from_metadata to_metadata from_list to_list)
        ∙ ap (λ (l : List model.Edit). fits fs.volume.limits (edited l fs.volume.tree))
        (edits_are_of asked.to asked.new_name target (moving_edits asked moving.stamp moving.number stamp_now from_metadata to_metadata))
        ∙ metadata_room fs.volume.limits fs.volume.tree asked moving.stamp stamp_now put target (metadata_of from_metadata) (metadata_of to_metadata)
        (touched (at asked.from fs.volume.tree) stamp_now now) (touched (at asked.to fs.volume.tree) stamp_now now) (above_all fs.volume.limits fs.volume.tree well)))

  pub late : (reason : Status) → first_refusal (room_tests fs tree_after) ≡ Some reason → (state : State) → IsOnBoth fs cred asked.from asked.to state
      → does fs.volume.limits state now (Argument.Rename (arguments_of asked)) ≡ refused state (Argument.Rename (arguments_of asked)) reason
  late reason first state on = told_by fs (λ (it : Status). does fs.volume.limits state now (Argument.Rename (arguments_of asked)) ≡ refused state (Argument.Rename (arguments_of asked)) it) tree_after
      (laws.full fs formed counted limited cred now asked moving.stamp moving.number target moved.entry is_target passed placed other state on)
      (λ fit none. laws.used_up fs formed counted limited cred now asked moving.stamp moving.number target moved.entry is_target passed placed other state on fit none) reason first

  module _ (stamp_is : stamp ≡ next_stamp fs.volume.run fs.changes) where
    from_then : metadata_of from_metadata ≡ touched (at asked.from fs.volume.tree) stamp_now now
    from_then = from_told ∙ ap (λ (s : ℕ). metadata_by moving.from.now.fields s now) stamp_is ∙ metadata_touched fs.volume.tree asked.from moving.from.now moved.from stamp_now now

    to_then : metadata_of to_metadata ≡ touched (at asked.to fs.volume.tree) stamp_now now
    to_then = to_told ∙ ap (λ (s : ℕ). metadata_by moving.to.now.fields s now) stamp_is ∙ metadata_touched fs.volume.tree asked.to moving.to.now moved.to stamp_now now

    edits_are : edits ≡ replacing asked.to asked.new_name target ++ moving_edits asked moving.stamp moving.number stamp_now from_metadata to_metadata
    edits_are = edits_told ∙ ap (λ (s : ℕ). replacing asked.to asked.new_name target ++ moving_edits asked moving.stamp moving.number s from_metadata to_metadata) stamp_is

    module _ (room : HasRoom fs tree_after) where
      pub planned_where : IsPlanned fs edits
      planned_where = subst (IsPlanned fs) (sym edits_are)
          (planned fs formed counted limited cred now asked moving.stamp moving.number target moved.entry is_target passed placed other from_metadata to_metadata from_then to_then from_list to_list
          room.fit (ltb-true (fs.changes + 1) (2 ^ 32) room.left))

    edits_after : edited_by fs.volume edits ≡ laws.after fs formed counted limited cred now asked moving.stamp moving.number target moved.entry is_target passed placed other
    edits_after = ap (edited_by fs.volume) edits_are
        ∙ after_is fs formed counted limited cred now asked moving.stamp moving.number target moved.entry is_target passed placed other from_metadata to_metadata from_then to_then from_list to_list

    module _ (room : HasRoom fs tree_after) where
      module _ (state : State) (on : IsOnBoth fs cred asked.from asked.to state) where
        pub goes_on : (from_before to_before : ℕ) → from_before ≡ moving.from.now.fields.change → to_before ≡ moving.to.now.fields.change
            → (replaced : Option ℕ) → replaced ≡ option_map (λ (f : ℕ × ℕ). f.1) target
            → does fs.volume.limits state now (Argument.Rename (arguments_of asked))
            ≡ renamed (edited_by fs.volume edits) (fs.changes + 1) state (arguments_of asked)
            (record { source = record { before = from_before; after = stamp }; target = record { before = to_before; after = stamp }; replaced = replaced })
        goes_on from_before to_before from_is to_is replaced replaced_is =
            let out = λ (t : Tree) (s : ℕ) (gone : Option ℕ). renamed t (fs.changes + 1) state (arguments_of asked)
            (record { source = record { before = from_before; after = s }; target = record { before = to_before; after = s }; replaced = gone }) in
            laws.goes_on fs formed counted limited cred now asked moving.stamp moving.number target moved.entry is_target passed placed other state on room.fit room.left
            from_before to_before (change_metadata fs.volume.tree asked.from moving.from.now moved.from ∙ sym from_is) (change_metadata fs.volume.tree asked.to moving.to.now moved.to ∙ sym to_is)
            ∙ ap (λ (t : Tree). out t stamp_now (option_map (λ (f : ℕ × ℕ). f.1) target)) (sym edits_after)
            ∙ ap₂ (out (edited_by fs.volume edits)) (sym stamp_is) (sym replaced_is)

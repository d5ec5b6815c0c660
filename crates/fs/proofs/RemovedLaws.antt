-- REMOVE of a name that passed its tests: its edits can be done, and the tree after them always has
-- room and is one that the run may have.
use Rattle.std.proofs.Common.{◌≡◌, ◌≢◌, ◌<◌, ◌+◌, ◌^◌, ℕ, Bool, true, false, not, List, [], ◌∷◌, ◌++◌, Option, Some, None, length, refl, sym, ap, ◌∙◌, is_some, true≢false, arith}
use Rattle.std.proofs.Math.Logic.{∥∥₁_elim}
use Rattle.std.proofs.Props.{props}
use Rattle.std.proofs.lemmas.Bool.{not-false, lt-ltb}
use Rattle.std.specs.Prelude.{IsTrue, nat_lt}
use Rattle.tree_edits.specs.Outlines.{without_data}
use Rattle.tree_edits.proofs.BlankLaws.{without_data-twice, key-without_data, directory-without_data, names-without_data, edits_blanked}
use Rattle.model_tree.specs.declared.acl.Cred.{Cred}
use Rattle.model_tree.specs.declared.limits.Limits.{Limits}
use Rattle.model_tree.specs.declared.status.Status.{Status}
use Rattle.model_tree.specs.declared.status.Status.TheVariants as status
use Rattle.model.specs.Operations.Answer.{Answer}
use Rattle.model_tree.specs.Trees.Changes.{touched, removal, removed_edits}
use Rattle.model_tree.specs.Trees.Charge.{fits}
use Rattle.model.specs.Operations.Directory.{change_of}
use Rattle.model_tree.specs.Trees.Tree.{is_named, number_named, number_of_entry, Tree, Node, DirEntry, is_directory_node, is_directory_at, names_at, entry_of}
use Rattle.model_tree.specs.Trees.Edit.{Edit, Metadata, DropName, DropNode, Show, done, edited, name_dropped}
use Rattle.model_tree.specs.Trees.Keyed.{Keyed, at, is_key}
use Rattle.volume.specs.VolumeState.{IsLimited}
use Rattle.model_tree.specs.Refusals.Name.{name_refusals}
use Rattle.model.specs.Operations.Operation.{Argument}
use Rattle.model.specs.Sessions.Opens.{no_opens}
use Rattle.model_tree.specs.Refusals.Refusal.{Refusals, first_refusal}
use Rattle.model.specs.Operations.Rename.{has_names, remove}
use Rattle.model_tree.specs.Trees.Stamp.{next_stamp, is_stamp_left}
use Rattle.model.specs.Sessions.StateIds.{without_number}
use Rattle.model.specs.Operations.Step.{State, Stepped, does, answered, refused, current, stamp_of}
use Rattle.model_tree.specs.Trees.WellFormed.{IsWellFormed}
use Rattle.model_tree.proofs.Trees.ChangeLaws.{entry_found, names_in, led_to}
use Rattle.model_tree.proofs.Trees.EditLaws.{forest_of}
use Rattle.model.proofs.Operations.RefusalLaws.{none_earlier, none_in_both}
use Rattle.model_tree.proofs.Facts.OptionLaws.{some≢none}
use Rattle.volume.specs.Formed.{IsFormed}
use Rattle.volume.proofs.EditLaws.{fits_alike}
use Rattle.fs.proofs.RoomLaws.{above_name_dropped, drop_name_room, above_node_dropped, drop_node_room, show_room}
use Rattle.fs.specs.FileSystem.{FileSystem}
use Rattle.fs.specs.Operations.{IsOn}
use Rattle.fs.specs.Ready.{MayStand}
use Rattle.fs.specs.Removing.{may_remove, removal_refusals, removed}
use Rattle.fs.proofs.FlatLaws.{touched-without_data, removable-without_data, flat_metadata, flat_name_dropped, flat_node_dropped, key-altered, key-dropped}
use Rattle.fs.proofs.KeptLaws.{formed_by}
use Rattle.fs.proofs.RemoveTests as tests

pub no_names : {A : Type 0} (names : Keyed A) → nat_lt 0 (length names) ≡ false → names ≡ []
no_names [] told = refl
no_names (entry ∷ rest) told = absurd (true≢false (sym (lt-ltb 0 (length (entry ∷ rest)) (omega arith)) ∙ told))

-- The tests that a removal passed

pub record IsRemovable (tree : Tree) (number : ℕ) (entry : ℕ × DirEntry) : Type 0 where
  pub directory : is_directory_at tree number ≡ true
  pub empty : names_at tree entry.1.number ≡ []

pub removable_by : (limits : Limits) (tree : Tree) (cred : Cred) (number : ℕ) (name : List ℕ) (entry : ℕ × DirEntry) → entry_of name (names_at tree number) ≡ Some entry
    → first_refusal (removal_refusals limits tree cred number name) ≡ None → IsRemovable tree number entry
removable_by limits tree cred number name entry found passed =
    let stale = none_earlier _ status.Stale _ passed in
    let place = none_earlier _ status.NotDir _ stale.1 in
    let parts = none_in_both (name_refusals limits name) _ place.1 in
    let named = none_earlier _ status.NoEnt _ parts.1 in
    let rights = none_earlier _ status.Access _ named.1 in
    let names = none_earlier _ status.NotEmpty None rights.1 in
    record {
      directory = not-false _ place.0;
      empty = no_names (names_at tree entry.1.number) (sym (ap (λ (o : Option (ℕ × DirEntry)). has_names tree (number_of_entry o)) found) ∙ names.0);
    }

-- a test that refuses it in each state
pub early_refusal : (fs : FileSystem) (cred : Cred) (now number : ℕ) (name : List ℕ) (state : State) → IsOn fs cred number state → (reason : Status)
    → first_refusal (removal_refusals fs.volume.limits fs.volume.tree cred number name) ≡ Some reason
    → does fs.volume.limits state now (Argument.Remove name) ≡ refused state (Argument.Remove name) reason
early_refusal fs cred now number name state in_it reason early =
    let limits = fs.volume.limits in
    tests.refused_early limits state now name in_it.is_state.has_current reason
    (ap (λ (t : Tree). first_refusal (removal_refusals limits t state.context.cred (current state) name)) in_it.is_state.tree_is
    ∙ ap (λ (c : Cred). first_refusal (removal_refusals limits fs.volume.tree c (current state) name)) in_it.is_state.cred_is
    ∙ ap (λ (n : ℕ). first_refusal (removal_refusals limits fs.volume.tree cred n name)) in_it.is_state.current_is
    ∙ early)

module _ (fs : FileSystem) (formed : MayStand fs.volume fs.changes) (counted : fs.changes < 2 ^ 32) (limited : IsLimited fs.volume)
    (cred : Cred) (now number : ℕ) (name : List ℕ) (entry : ℕ × DirEntry) (found : entry_of name (names_at fs.volume.tree number) ≡ Some entry)
    (passed : first_refusal (removal_refusals fs.volume.limits fs.volume.tree cred number name) ≡ None) where
  abbrev limits : Limits
  limits = fs.volume.limits

  abbrev tree : Tree
  tree = fs.volume.tree

  abbrev flat : Tree
  flat = without_data tree

  abbrev own : ℕ
  own = next_stamp fs.volume.run fs.changes

  abbrev pub wanted : List Edit
  wanted = DropName number entry.0 ∷ DropNode entry.1.number ∷ Show number (touched (at number tree) own now) ∷ []

  abbrev pub after : Tree
  after = edited wanted tree

  pub is : IsRemovable tree number entry
  is = removable_by limits tree cred number name entry found passed

  -- Its edits can be done

  pub apart : number ≢ entry.1.number
  apart = λ same. some≢none entry (sym found ∙ ap (λ (n : ℕ). entry_of name (names_at tree n)) same ∙ ap (entry_of name) is.empty)

  leads : IsWellFormed limits flat → IsTrue (is_key entry.1.number tree)
  leads well =
      let forest = forest_of limits flat well in
      let stands = entry_found name (names_at flat number) 0 (names_in limits flat forest number).rising entry (ap (entry_of name) (names-without_data tree number) ∙ found) in
      let node = led_to limits flat forest number entry.0 entry.1 stands.0 in
      sym (key-without_data tree entry.1.number) ∙ ap is_some node.1

  pub node_there : IsTrue (is_key entry.1.number (done (DropName number entry.0) tree))
  node_there = ∥∥₁_elim formed.well_formed (Prim.hlevel props) (λ well. key-altered (name_dropped entry.0) tree number entry.1.number ∙ leads well)

  directory_key : (o : Bool) → is_directory_at tree number ≡ true → is_key number tree ≡ o → o ≡ true
  directory_key true directory key = refl
  directory_key false directory key = absurd (none_is (at number tree) directory key)
    where
      none_is : (o : Option Node) → is_directory_node o ≡ true → is_some o ≡ false → ⊥
      none_is None directory key = true≢false (sym directory)
      none_is (Some node) directory key = true≢false key

  pub directory_there : IsTrue (is_key number (done (DropNode entry.1.number) (done (DropName number entry.0) tree)))
  directory_there = key-dropped (done (DropName number entry.0) tree) entry.1.number number apart
      ∙ key-altered (name_dropped entry.0) tree number number ∙ directory_key (is_key number tree) is.directory refl

  -- The tree after them has room

  module _ (well : IsWellFormed limits flat) where
    first_room : IsTrue (fits limits (done (DropName number entry.0) flat))
    first_room = drop_name_room flat number entry.0 well.numbered limits well.fitting

    second_room : IsTrue (fits limits (done (DropNode entry.1.number) (done (DropName number entry.0) flat)))
    second_room = drop_node_room (done (DropName number entry.0) flat) entry.1.number (above_name_dropped flat number entry.0 well.numbered) limits first_room

    last_room : IsTrue (fits limits (edited wanted flat))
    last_room = show_room limits (done (DropNode entry.1.number) (done (DropName number entry.0) flat)) number (touched (at number tree) own now)
        (above_node_dropped (done (DropName number entry.0) flat) entry.1.number (above_name_dropped flat number entry.0 well.numbered)) ∙ second_room

  pub fit : IsTrue (fits limits after)
  fit = ∥∥₁_elim formed.well_formed (Prim.hlevel props) (λ well.
      sym (fits_alike limits after (edited wanted flat) (edits_blanked wanted tree)) ∙ last_room well)

  -- A COMPOUND on the tree with zeros

  abbrev on : State
  on = record {
    tree = flat;
    changes = fs.changes;
    opens = no_opens;
    context = record { cred = cred; client = 0; run = fs.volume.run; current = Some (record { number = number; state = None }); saved = None };
  }

  abbrev tests_by : (key directory named may names : Bool) → Refusals
  tests_by key directory named may names = (not key, status.Stale) ∷ (not directory, status.NotDir) ∷ (name_refusals limits name
      ++ ((not named, status.NoEnt) ∷ (not may, status.Access) ∷ (names, status.NotEmpty) ∷ []))

  passed_flat : first_refusal (removal_refusals limits flat cred number name) ≡ None
  passed_flat =
      let names = names-without_data tree number in
      ap (λ (b : Bool). first_refusal (tests_by b (is_directory_at flat number) (is_named flat number name) (may_remove flat cred number name) (has_names flat (number_named flat number name)))) (key-without_data tree number)
      ∙ ap (λ (b : Bool). first_refusal (tests_by (is_key number tree) b (is_named flat number name) (may_remove flat cred number name) (has_names flat (number_named flat number name)))) (directory-without_data tree number)
      ∙ ap (λ (n : Keyed DirEntry). first_refusal (tests_by (is_key number tree) (is_directory_at tree number) (is_some (entry_of name n)) (may_remove flat cred number name) (has_names flat (number_of_entry (entry_of name n))))) names
      ∙ ap (λ (b : Bool). first_refusal (tests_by (is_key number tree) (is_directory_at tree number) (is_named tree number name) b (has_names flat (number_named tree number name)))) (removable-without_data tree cred number name)
      ∙ ap (λ (n : Keyed DirEntry). first_refusal (tests_by (is_key number tree) (is_directory_at tree number) (is_named tree number name) (may_remove tree cred number name) (nat_lt 0 (length n)))) (names-without_data tree (number_named tree number name))
      ∙ passed

  flat_edits : removed_edits flat number name own now ≡ wanted
  flat_edits =
      ap (λ (o : Option (ℕ × DirEntry)). removal number o ++ (Show number (touched (at number flat) own now) ∷ [])) (ap (entry_of name) (names-without_data tree number) ∙ found)
      ∙ ap (λ (metadata : Metadata). DropName number entry.0 ∷ DropNode entry.1.number ∷ Show number metadata ∷ []) (touched-without_data tree number own now)

  flat_after : without_data (edited wanted flat) ≡ edited wanted flat
  flat_after = flat_metadata (done (DropNode entry.1.number) (done (DropName number entry.0) flat))
      (flat_node_dropped (done (DropName number entry.0) flat) (flat_name_dropped flat (without_data-twice tree) number entry.0) entry.1.number) number (touched (at number tree) own now)

  seen : (remove on now name).state.tree ≡ without_data after
  seen = ap (λ (l : List Edit). edited l flat) flat_edits ∙ sym flat_after ∙ edits_blanked wanted tree

  fit_flat : fits limits (remove on now name).state.tree ≡ true
  fit_flat = ap (fits limits) (ap (λ (l : List Edit). edited l flat) flat_edits) ∙ fits_alike limits after (edited wanted flat) (edits_blanked wanted tree) ∙ fit

  pub formed_after : is_stamp_left fs.changes ≡ true → IsFormed limits (next_stamp fs.volume.run (fs.changes + 1)) after
  formed_after left = formed_by fs formed counted limited on now (Argument.Remove name) (remove on now name) after refl refl refl
      (tests.done limits on now name refl passed_flat fit_flat left) refl seen

  -- In each state of the operation

  module _ (state : State) (in_it : IsOn fs cred number state) where
    state_edits : removed_edits state.tree (current state) name (stamp_of state) now ≡ wanted
    state_edits =
        ap (λ (t : Tree). removed_edits t (current state) name (stamp_of state) now) in_it.is_state.tree_is
        ∙ ap (λ (n : ℕ). removed_edits tree n name (stamp_of state) now) in_it.is_state.current_is
        ∙ ap (λ (r : ℕ). removed_edits tree number name (next_stamp r state.changes) now) in_it.run
        ∙ ap (λ (c : ℕ). removed_edits tree number name (next_stamp fs.volume.run c) now) in_it.changes
        ∙ ap (λ (o : Option (ℕ × DirEntry)). removal number o ++ (Show number (touched (at number tree) own now) ∷ [])) found

    state_tree : (remove state now name).state.tree ≡ after
    state_tree = ap (λ (t : Tree). edited (removed_edits state.tree (current state) name (stamp_of state) now) t) in_it.is_state.tree_is
        ∙ ap (λ (l : List Edit). edited l tree) state_edits

    state_passed : first_refusal (removal_refusals limits state.tree state.context.cred (current state) name) ≡ None
    state_passed =
        ap (λ (t : Tree). first_refusal (removal_refusals limits t state.context.cred (current state) name)) in_it.is_state.tree_is
        ∙ ap (λ (c : Cred). first_refusal (removal_refusals limits tree c (current state) name)) in_it.is_state.cred_is
        ∙ ap (λ (n : ℕ). first_refusal (removal_refusals limits tree cred n name)) in_it.is_state.current_is
        ∙ passed

    pub used_up : is_stamp_left fs.changes ≡ false → does limits state now (Argument.Remove name) ≡ refused state (Argument.Remove name) status.ServerFault
    used_up none = tests.no_stamp limits state now name in_it.is_state.has_current state_passed (ap (fits limits) state_tree ∙ fit) (ap is_stamp_left in_it.changes ∙ none)

    abbrev shape : Tree → (count number before after : ℕ) → Stepped
    shape t count number before after = answered
        (record { tree = t; changes = count; opens = without_number number state.opens; context = state.context })
        (Answer.Remove (record { is_atomic = true; before = before; after = after }))

    pub goes_on : is_stamp_left fs.changes ≡ true → (before : ℕ) → change_of (at number tree) ≡ before
        → does limits state now (Argument.Remove name) ≡ removed after (fs.changes + 1) state (record { number = entry.1.number; before = before; after = own })
    goes_on left before before_is =
        let number_is : number_named state.tree (current state) name ≡ entry.1.number =
        ap (λ (t : Tree). number_named t (current state) name) in_it.is_state.tree_is ∙ ap (λ (n : ℕ). number_named tree n name) in_it.is_state.current_is ∙ ap number_of_entry found in
        let before_same : change_of (at (current state) state.tree) ≡ before =
        ap (λ (t : Tree). change_of (at (current state) t)) in_it.is_state.tree_is ∙ ap (λ (n : ℕ). change_of (at n tree)) in_it.is_state.current_is ∙ before_is in
        tests.done limits state now name in_it.is_state.has_current state_passed (ap (fits limits) state_tree ∙ fit) (ap is_stamp_left in_it.changes ∙ left)
        ∙ ap (λ (t : Tree). shape t (state.changes + 1) (number_named state.tree (current state) name) (change_of (at (current state) state.tree)) (stamp_of state)) state_tree
        ∙ ap (λ (c : ℕ). shape after (c + 1) (number_named state.tree (current state) name) (change_of (at (current state) state.tree)) (stamp_of state)) in_it.changes
        ∙ ap (λ (n : ℕ). shape after (fs.changes + 1) n (change_of (at (current state) state.tree)) (stamp_of state)) number_is
        ∙ ap (λ (b : ℕ). shape after (fs.changes + 1) entry.1.number b (stamp_of state)) before_same
        ∙ ap (λ (r : ℕ). shape after (fs.changes + 1) entry.1.number before (next_stamp r state.changes)) in_it.run
        ∙ ap (λ (c : ℕ). shape after (fs.changes + 1) entry.1.number before (next_stamp fs.volume.run c)) in_it.changes

-- RENAME of a name that passed its tests, and is not renamed to itself: its edits can be done, and
-- the tree after them is one that the run may have if it fits.
use Rattle.std.proofs.Common.{◌≡◌, ◌<◌, ◌+◌, ◌^◌, ◌&&◌, ℕ, Bool, true, false, List, [], ◌∷◌, ◌++◌, Option, Some, None, eq-eqb, refl, sym, ap, ap₂, ◌∙◌, is_some, bytes_eq}
use Rattle.std.proofs.lemmas.Bool.{not-false}
use Rattle.std.specs.Prelude.{IsTrue, option_map, ◌==◌}
use Rattle.directory.specs.Records.{record_from}
use Rattle.tree_edits.specs.Outlines.{without_data}
use Rattle.tree_edits.proofs.BlankLaws.{without_data-twice, directory-without_data}
use Rattle.tree_edits.proofs.BlankLaws.{names-without_data}
use Rattle.tree_edits.proofs.BlankLaws.{edits_blanked}
use Rattle.model_tree.specs.declared.acl.Cred.{Cred}
use Rattle.model_tree.specs.declared.limits.Limits.{Limits}
use Rattle.model_tree.specs.declared.status.Status.{Status}
use Rattle.model_tree.specs.declared.status.Status.TheVariants as status
use Rattle.model_tree.specs.Trees.Changes.{touched, removal, moving, renamed_edits}
use Rattle.model_tree.specs.Trees.Charge.{fits}
use Rattle.model.specs.Operations.Directory.{change_of}
use Rattle.model_tree.specs.Trees.Tree.{is_named, number_of_entry, Tree, DirEntry, is_directory_at, names_at, entry_of}
use Rattle.model_tree.specs.Trees.Edit.{Edit, Metadata, DropName, DropNode, PutName, Show, done, edited}
use Rattle.model_tree.specs.Trees.Keyed.{at}
use Rattle.volume.specs.VolumeState.{IsLimited}
use Rattle.model_tree.specs.Refusals.Name.{name_refusals}
use Rattle.model.specs.Operations.Operation.{Argument, RenameArguments}
use Rattle.model.specs.Sessions.Opens.{Opens, no_opens}
use Rattle.model_tree.specs.Refusals.Refusal.{first_refusal}
use Rattle.model.specs.Operations.Rename.{has_names, target_number, rename}
use Rattle.model_tree.specs.Trees.Stamp.{next_stamp, is_stamp_left}
use Rattle.model.specs.Operations.Context.{is_same_name}
use Rattle.model.specs.Operations.Answer.{Answer}
use Rattle.model.specs.Sessions.StateIds.{without_number}
use Rattle.model.specs.Operations.Step.{State, Stepped, does, answered, refused, current, saved, stamp_of}
use Rattle.model_tree.specs.Trees.WellFormed.{IsWellFormed}
use Rattle.model_tree.proofs.Facts.BooleanLaws.{second_of_neither, second_false}
use Rattle.model.proofs.Operations.RefusalLaws.{none_earlier, none_in_both}
use Rattle.model.proofs.Operations.StepProofs.{other_way}
use Rattle.volume.specs.Formed.{IsFormed}
use Rattle.volume.proofs.EditLaws.{fits_alike}
use Rattle.fs.specs.declared.renaming.Renaming.{Renaming}
use Rattle.fs.specs.FileSystem.{FileSystem}
use Rattle.fs.specs.Ready.{MayStand}
use Rattle.fs.specs.Renaming.{IsOnBoth, arguments_of, is_itself, opens_after, without_replaced, renamed}
use Rattle.fs.specs.RenameTests.{moving_refusals, placing_refusals, target_in, record_under, IsTarget}
use Rattle.fs.proofs.FlatLaws.{touched-without_data, flat_metadata, flat_name_dropped, flat_name_put, flat_node_dropped}
use Rattle.fs.proofs.KeptLaws.{formed_by}
use Rattle.fs.proofs.PlacedLaws.{IsFree, free_there, free_then}
use Rattle.fs.proofs.RemovedLaws.{no_names}
use Rattle.fs.proofs.RenameFlat.{moving-without_data, placing-without_data}
use Rattle.fs.proofs.RenameSteps as steps

-- In each state of the operation

module _ (fs : FileSystem) (cred : Cred) (from to now : ℕ) (arguments : RenameArguments) (state : State) (in_it : IsOnBoth fs cred from to state) where
  state_moving : first_refusal (moving_refusals fs.volume.limits state.tree (saved state) (current state) arguments) ≡ first_refusal (moving_refusals fs.volume.limits fs.volume.tree from to arguments)
  state_moving =
      ap (λ (t : Tree). first_refusal (moving_refusals fs.volume.limits t (saved state) (current state) arguments)) in_it.on.is_state.tree_is
      ∙ ap₂ (λ (a b : ℕ). first_refusal (moving_refusals fs.volume.limits fs.volume.tree a b arguments)) in_it.saved_is in_it.on.is_state.current_is

  state_placing : first_refusal (placing_refusals state.tree state.context.cred (saved state) (current state) arguments) ≡ first_refusal (placing_refusals fs.volume.tree cred from to arguments)
  state_placing =
      ap₂ (λ (t : Tree) (c : Cred). first_refusal (placing_refusals t c (saved state) (current state) arguments)) in_it.on.is_state.tree_is in_it.on.is_state.cred_is
      ∙ ap₂ (λ (a b : ℕ). first_refusal (placing_refusals fs.volume.tree cred a b arguments)) in_it.saved_is in_it.on.is_state.current_is

  pub state_same : is_same_name state.context arguments ≡ is_itself from to arguments
  state_same = ap₂ (λ (a b : ℕ). a == b && bytes_eq arguments.old_name arguments.new_name) in_it.saved_is in_it.on.is_state.current_is

  pub early_refusal : (reason : Status) → first_refusal (moving_refusals fs.volume.limits fs.volume.tree from to arguments) ≡ Some reason
      → does fs.volume.limits state now (Argument.Rename arguments) ≡ refused state (Argument.Rename arguments) reason
  early_refusal reason early = steps.refused_early fs.volume.limits state now arguments in_it.on.is_state.has_current in_it.has_saved reason (state_moving ∙ early)

  pub late_refusal : (reason : Status) → first_refusal (moving_refusals fs.volume.limits fs.volume.tree from to arguments) ≡ None → is_itself from to arguments ≡ false
      → first_refusal (placing_refusals fs.volume.tree cred from to arguments) ≡ Some reason
      → does fs.volume.limits state now (Argument.Rename arguments) ≡ refused state (Argument.Rename arguments) reason
  late_refusal reason passed other late = steps.refused_late fs.volume.limits state now arguments in_it.on.is_state.has_current in_it.has_saved (state_moving ∙ passed) (state_same ∙ other)
      reason (state_placing ∙ late)

  abbrev shape : Tree → (count : ℕ) → Opens → (from_before from_after to_before to_after : ℕ) → Stepped
  shape t count opens from_before from_after to_before to_after = answered
      (record { tree = t; changes = count; opens = opens; context = state.context })
      (Answer.Rename (record {
        source = record { is_atomic = true; before = from_before; after = from_after };
        target = record { is_atomic = true; before = to_before; after = to_after };
      }))

  change_here : (number at_number before : ℕ) → at_number ≡ number → change_of (at number fs.volume.tree) ≡ before → change_of (at at_number state.tree) ≡ before
  change_here number at_number before same is = ap (λ (t : Tree). change_of (at at_number t)) in_it.on.is_state.tree_is ∙ ap (λ (n : ℕ). change_of (at n fs.volume.tree)) same ∙ is

  -- a name that is renamed to itself
  pub stays : first_refusal (moving_refusals fs.volume.limits fs.volume.tree from to arguments) ≡ None → is_itself from to arguments ≡ true
      → (from_before to_before : ℕ) → change_of (at from fs.volume.tree) ≡ from_before → change_of (at to fs.volume.tree) ≡ to_before
      → does fs.volume.limits state now (Argument.Rename arguments) ≡ renamed fs.volume.tree fs.changes state arguments
      (record { source = record { before = from_before; after = from_before }; target = record { before = to_before; after = to_before }; replaced = None })
  stays passed same from_before to_before from_is to_is =
      let from_same = change_here from (saved state) from_before in_it.saved_is from_is in
      let to_same = change_here to (current state) to_before in_it.on.is_state.current_is to_is in
      steps.itself fs.volume.limits state now arguments in_it.on.is_state.has_current in_it.has_saved (state_moving ∙ passed) (state_same ∙ same)
      ∙ ap₂ (λ (a b : ℕ). shape state.tree state.changes state.opens a a b b) from_same to_same
      ∙ ap₂ (λ (t : Tree) (c : ℕ). shape t c state.opens from_before from_before to_before to_before) in_it.on.is_state.tree_is in_it.on.changes
      ∙ ap (λ (o : Opens). shape fs.volume.tree fs.changes o from_before from_before to_before to_before)
      (sym (ap (λ (b : Bool). opens_after b None state.opens) (state_same ∙ same)))

-- the opens of what is gone
replaced_opens : (name : List ℕ) (target : Option (ℕ × ℕ)) (opens : Opens) → without_number (number_of_entry (record_under name target)) opens ≡ without_replaced (option_map (λ (f : ℕ × ℕ). f.1) target) opens
replaced_opens name None opens = refl
replaced_opens name (Some found) opens = refl

-- What the tests that it passed say

pub record HasPlaces (limits : Limits) (tree : Tree) (asked : Renaming) : Type 0 where
  pub from_directory : is_directory_at tree asked.from ≡ true
  pub to_directory : is_directory_at tree asked.to ≡ true
  pub allowed : first_refusal (name_refusals limits asked.new_name.now) ≡ None

pub places_by : (limits : Limits) (tree : Tree) (asked : Renaming) → first_refusal (moving_refusals limits tree asked.from asked.to (arguments_of asked)) ≡ None → HasPlaces limits tree asked
places_by limits tree asked passed =
    let to_there = none_earlier _ status.Stale _ passed in
    let from_there = none_earlier _ status.Stale _ to_there.1 in
    let from_place = none_earlier _ status.NotDir _ from_there.1 in
    let to_place = none_earlier _ status.NotDir _ from_place.1 in
    let old_name = none_in_both (name_refusals limits asked.old_name.now) _ to_place.1 in
    let new_name = none_in_both (name_refusals limits asked.new_name.now) _ old_name.1 in
    record { from_directory = not-false _ from_place.0; to_directory = not-false _ to_place.0; allowed = new_name.0 }

pub empty_by : (tree : Tree) (cred : Cred) (asked : Renaming) (found : ℕ × ℕ) → IsTarget tree asked (Some found)
    → first_refusal (placing_refusals tree cred asked.from asked.to (arguments_of asked)) ≡ None → names_at tree found.1 ≡ []
empty_by tree cred asked found under placed =
    let rights = none_earlier _ status.Access _ placed in
    let below = none_earlier _ status.Inval _ rights.1 in
    let exists = none_earlier _ status.Exist None below.1 in
    no_names (names_at tree found.1) (sym (ap (λ (o : Option (ℕ × DirEntry)). has_names tree (number_of_entry o)) under)
    ∙ second_of_neither _ (has_names tree (target_in tree asked.to (arguments_of asked)))
    (second_false (is_named tree asked.to asked.new_name.now) _ exists.0 (ap is_some under)))

-- the entry that goes, and the tree after that
abbrev pub dropping : (to : ℕ) → Option (ℕ × ℕ) → List Edit
dropping to None = []
dropping to (Some found) = DropName to found.0 ∷ DropNode found.1 ∷ []

abbrev pub cleared : (to : ℕ) → Option (ℕ × ℕ) → Tree → Tree
cleared to None tree = tree
cleared to (Some found) tree = done (DropNode found.1) (done (DropName to found.0) tree)

pub cleared_is : (to : ℕ) (target : Option (ℕ × ℕ)) (rest : List Edit) (tree : Tree) → edited (dropping to target ++ rest) tree ≡ edited rest (cleared to target tree)
cleared_is to None rest tree = refl
cleared_is to (Some found) rest tree = refl

flat_cleared : (to : ℕ) (target : Option (ℕ × ℕ)) (tree : Tree) → without_data tree ≡ tree → without_data (cleared to target tree) ≡ cleared to target tree
flat_cleared to None tree flat = flat
flat_cleared to (Some found) tree flat = flat_node_dropped (done (DropName to found.0) tree) (flat_name_dropped tree flat to found.0) found.1

pub removal_is : (to : ℕ) (name : List ℕ) (target : Option (ℕ × ℕ)) → removal to (record_under name target) ≡ dropping to target
removal_is to name None = refl
removal_is to name (Some found) = refl

module _ (fs : FileSystem) (formed : MayStand fs.volume fs.changes) (counted : fs.changes < 2 ^ 32) (limited : IsLimited fs.volume)
    (cred : Cred) (now : ℕ) (asked : Renaming) (old_stamp number : ℕ) (target : Option (ℕ × ℕ))
    (found : entry_of asked.old_name.now (names_at fs.volume.tree asked.from) ≡ Some (record_from old_stamp asked.old_name.now number)) (under : IsTarget fs.volume.tree asked target)
    (passed : first_refusal (moving_refusals fs.volume.limits fs.volume.tree asked.from asked.to (arguments_of asked)) ≡ None)
    (placed : first_refusal (placing_refusals fs.volume.tree cred asked.from asked.to (arguments_of asked)) ≡ None)
    (other : is_itself asked.from asked.to (arguments_of asked) ≡ false) where
  abbrev limits : Limits
  limits = fs.volume.limits

  abbrev tree : Tree
  tree = fs.volume.tree

  abbrev flat : Tree
  flat = without_data tree

  abbrev own : ℕ
  own = next_stamp fs.volume.run fs.changes

  abbrev put : DirEntry
  put = record { name = asked.new_name.now; number = number }

  abbrev behind_drops : List Edit
  behind_drops = DropName asked.from old_stamp ∷ PutName asked.to own put ∷ Show asked.from (touched (at asked.from tree) own now) ∷ Show asked.to (touched (at asked.to tree) own now) ∷ []

  abbrev pub wanted : List Edit
  wanted = dropping asked.to target ++ behind_drops

  abbrev pub after : Tree
  after = edited wanted tree

  pub places : HasPlaces limits tree asked
  places = places_by limits tree asked passed

  pub differs : asked.from ≡ asked.to → bytes_eq asked.new_name.now asked.old_name.now ≡ false
  differs same = other_way asked.old_name.now asked.new_name.now (second_false _ (bytes_eq asked.old_name.now asked.new_name.now) other (eq-eqb asked.from asked.to same))

  -- the tree with zeros, with nothing under the new name
  pub free : IsWellFormed limits flat → IsFree limits own (cleared asked.to target flat) asked.from asked.to asked.old_name.now asked.new_name.now (record_from old_stamp asked.old_name.now number)
  free well = by_target target under
    where
      from_flat : is_directory_at flat asked.from ≡ true
      from_flat = directory-without_data tree asked.from ∙ places.from_directory

      to_flat : is_directory_at flat asked.to ≡ true
      to_flat = directory-without_data tree asked.to ∙ places.to_directory

      entry_flat : entry_of asked.old_name.now (names_at flat asked.from) ≡ Some (record_from old_stamp asked.old_name.now number)
      entry_flat = ap (entry_of asked.old_name.now) (names-without_data tree asked.from) ∙ found

      by_target : (o : Option (ℕ × ℕ)) → IsTarget tree asked o → IsFree limits own (cleared asked.to o flat) asked.from asked.to asked.old_name.now asked.new_name.now (record_from old_stamp asked.old_name.now number)
      by_target None there = free_there limits flat well own formed.before asked.from asked.to asked.old_name.now asked.new_name.now (record_from old_stamp asked.old_name.now number)
          from_flat to_flat entry_flat (ap (entry_of asked.new_name.now) (names-without_data tree asked.to) ∙ there)
      by_target (Some one) there = free_then limits flat well own formed.before asked.from asked.to asked.old_name.now asked.new_name.now (record_from old_stamp asked.old_name.now number)
          from_flat to_flat entry_flat (record_from one.0 asked.new_name.now one.1) (ap (entry_of asked.new_name.now) (names-without_data tree asked.to) ∙ there)
          (names-without_data tree one.1 ∙ empty_by tree cred asked one there placed) differs

  -- Room

  fits_flat : fits limits (edited wanted flat) ≡ fits limits after
  fits_flat = fits_alike limits after (edited wanted flat) (edits_blanked wanted tree)

  -- A COMPOUND on the tree with zeros

  abbrev on : State
  on = record {
    tree = flat;
    changes = fs.changes;
    opens = no_opens;
    context = record {
      cred = cred;
      client = 0;
      run = fs.volume.run;
      current = Some (record { number = asked.to; state = None });
      saved = Some (record { number = asked.from; state = None });
    };
  }

  flat_edits : renamed_edits flat asked.from asked.to asked.old_name.now asked.new_name.now own now ≡ wanted
  flat_edits =
      let shows = λ (a b : Metadata). Show asked.from a ∷ Show asked.to b ∷ [] in
      ap (λ (o : Option (ℕ × DirEntry)). removal asked.to o ++ (moving asked.from asked.to (entry_of asked.old_name.now (names_at flat asked.from)) asked.new_name.now own
      ++ shows (touched (at asked.from flat) own now) (touched (at asked.to flat) own now))) (ap (entry_of asked.new_name.now) (names-without_data tree asked.to) ∙ under)
      ∙ ap (λ (l : List Edit). l ++ (moving asked.from asked.to (entry_of asked.old_name.now (names_at flat asked.from)) asked.new_name.now own
      ++ shows (touched (at asked.from flat) own now) (touched (at asked.to flat) own now))) (removal_is asked.to asked.new_name.now target)
      ∙ ap (λ (o : Option (ℕ × DirEntry)). dropping asked.to target ++ (moving asked.from asked.to o asked.new_name.now own
      ++ shows (touched (at asked.from flat) own now) (touched (at asked.to flat) own now))) (ap (entry_of asked.old_name.now) (names-without_data tree asked.from) ∙ found)
      ∙ ap₂ (λ (a b : Metadata). dropping asked.to target ++ (DropName asked.from old_stamp ∷ PutName asked.to own put ∷ shows a b)) (touched-without_data tree asked.from own now) (touched-without_data tree asked.to own now)

  flat_after : without_data (edited wanted flat) ≡ edited wanted flat
  flat_after =
      let base = cleared asked.to target flat in
      let one = done (DropName asked.from old_stamp) base in
      let two = done (PutName asked.to own put) one in
      let three = done (Show asked.from (touched (at asked.from tree) own now)) two in
      ap without_data (cleared_is asked.to target behind_drops flat)
      ∙ flat_metadata three (flat_metadata two (flat_name_put one (flat_name_dropped base (flat_cleared asked.to target flat (without_data-twice tree)) asked.from old_stamp) asked.to own put)
      asked.from (touched (at asked.from tree) own now)) asked.to (touched (at asked.to tree) own now)
      ∙ sym (cleared_is asked.to target behind_drops flat)

  tree_flat : (rename false on now (arguments_of asked)).state.tree ≡ edited wanted flat
  tree_flat = ap (λ (l : List Edit). edited l flat) flat_edits

  passed_flat : first_refusal (moving_refusals limits flat asked.from asked.to (arguments_of asked)) ≡ None
  passed_flat = moving-without_data limits tree asked.from asked.to (arguments_of asked) ∙ passed

  placed_flat : first_refusal (placing_refusals flat cred asked.from asked.to (arguments_of asked)) ≡ None
  placed_flat = placing-without_data tree cred asked.from asked.to (arguments_of asked) ∙ placed

  pub formed_after : IsTrue (fits limits after) → is_stamp_left fs.changes ≡ true → IsFormed limits (next_stamp fs.volume.run (fs.changes + 1)) after
  formed_after fit left = formed_by fs formed counted limited on now (Argument.Rename (arguments_of asked)) (rename false on now (arguments_of asked)) after refl refl refl
      (steps.done limits on now (arguments_of asked) refl refl passed_flat other placed_flat (ap (fits limits) tree_flat ∙ fits_flat ∙ fit) left) refl
      (tree_flat ∙ sym flat_after ∙ edits_blanked wanted tree)

  -- In each state

  module _ (state : State) (in_it : IsOnBoth fs cred asked.from asked.to state) where
    abbrev arguments : RenameArguments
    arguments = arguments_of asked

    abbrev edits_by : Tree → (from to stamp : ℕ) → List Edit
    edits_by t from to stamp = renamed_edits t from to asked.old_name.now asked.new_name.now stamp now

    own_edits : edits_by tree asked.from asked.to own ≡ wanted
    own_edits =
        let shows = Show asked.from (touched (at asked.from tree) own now) ∷ Show asked.to (touched (at asked.to tree) own now) ∷ [] in
        ap (λ (o : Option (ℕ × DirEntry)). removal asked.to o ++ (moving asked.from asked.to (entry_of asked.old_name.now (names_at tree asked.from)) asked.new_name.now own ++ shows)) under
        ∙ ap (λ (l : List Edit). l ++ (moving asked.from asked.to (entry_of asked.old_name.now (names_at tree asked.from)) asked.new_name.now own ++ shows)) (removal_is asked.to asked.new_name.now target)
        ∙ ap (λ (o : Option (ℕ × DirEntry)). dropping asked.to target ++ (moving asked.from asked.to o asked.new_name.now own ++ shows)) found

    state_stamp : stamp_of state ≡ own
    state_stamp = ap₂ next_stamp in_it.on.run in_it.on.changes

    state_tree : (rename false state now arguments).state.tree ≡ after
    state_tree =
        ap (λ (t : Tree). edited (edits_by t (saved state) (current state) (stamp_of state)) t) in_it.on.is_state.tree_is
        ∙ ap₂ (λ (a b : ℕ). edited (edits_by tree a b (stamp_of state)) tree) in_it.saved_is in_it.on.is_state.current_is
        ∙ ap (λ (n : ℕ). edited (edits_by tree asked.from asked.to n) tree) state_stamp
        ∙ ap (λ (l : List Edit). edited l tree) own_edits

    own_passed : first_refusal (moving_refusals limits state.tree (saved state) (current state) arguments) ≡ None
    own_passed = state_moving fs cred asked.from asked.to now arguments state in_it ∙ passed

    own_placed : first_refusal (placing_refusals state.tree state.context.cred (saved state) (current state) arguments) ≡ None
    own_placed = state_placing fs cred asked.from asked.to now arguments state in_it ∙ placed

    own_other : is_same_name state.context arguments ≡ false
    own_other = state_same fs cred asked.from asked.to now arguments state in_it ∙ other

    pub full : fits limits after ≡ false → does limits state now (Argument.Rename arguments) ≡ refused state (Argument.Rename arguments) status.NoSpc
    full none = steps.no_room limits state now arguments in_it.on.is_state.has_current in_it.has_saved own_passed own_other own_placed (ap (fits limits) state_tree ∙ none)

    module _ (fit : fits limits after ≡ true) where
      pub used_up : is_stamp_left fs.changes ≡ false → does limits state now (Argument.Rename arguments) ≡ refused state (Argument.Rename arguments) status.ServerFault
      used_up none = steps.no_stamp limits state now arguments in_it.on.is_state.has_current in_it.has_saved own_passed own_other own_placed (ap (fits limits) state_tree ∙ fit)
          (ap is_stamp_left in_it.on.changes ∙ none)

      pub goes_on : is_stamp_left fs.changes ≡ true → (from_before to_before : ℕ) → change_of (at asked.from tree) ≡ from_before → change_of (at asked.to tree) ≡ to_before
          → does limits state now (Argument.Rename arguments) ≡ renamed after (fs.changes + 1) state arguments
          (record { source = record { before = from_before; after = own }; target = record { before = to_before; after = own }; replaced = option_map (λ (f : ℕ × ℕ). f.1) target })
      goes_on left from_before to_before from_is to_is =
          let out = shape fs cred asked.from asked.to now arguments state in_it in
          let from_same = change_here fs cred asked.from asked.to now arguments state in_it asked.from (saved state) from_before in_it.saved_is from_is in
          let to_same = change_here fs cred asked.from asked.to now arguments state in_it asked.to (current state) to_before in_it.on.is_state.current_is to_is in
          let stamp = stamp_of state in
          let gone = without_number (target_number state arguments) state.opens in
          let number_is : target_number state arguments ≡ number_of_entry (record_under asked.new_name.now target) =
          ap (λ (t : Tree). number_of_entry (entry_of asked.new_name.now (names_at t (current state)))) in_it.on.is_state.tree_is
          ∙ ap (λ (n : ℕ). number_of_entry (entry_of asked.new_name.now (names_at tree n))) in_it.on.is_state.current_is ∙ ap number_of_entry under in
          steps.done limits state now arguments in_it.on.is_state.has_current in_it.has_saved own_passed own_other own_placed (ap (fits limits) state_tree ∙ fit) (ap is_stamp_left in_it.on.changes ∙ left)
          ∙ ap₂ (λ (t : Tree) (c : ℕ). out t (c + 1) gone (change_of (at (saved state) state.tree)) stamp (change_of (at (current state) state.tree)) stamp) state_tree in_it.on.changes
          ∙ ap₂ (λ (a b : ℕ). out after (fs.changes + 1) gone a stamp b stamp) from_same to_same
          ∙ ap (λ (s : ℕ). out after (fs.changes + 1) gone from_before s to_before s) state_stamp
          ∙ ap (λ (n : ℕ). out after (fs.changes + 1) (without_number n state.opens) from_before own to_before own) number_is
          ∙ ap (λ (o : Opens). out after (fs.changes + 1) o from_before own to_before own)
          (replaced_opens asked.new_name.now target state.opens ∙ sym (ap (λ (b : Bool). opens_after b (option_map (λ (f : ℕ × ℕ). f.1) target) state.opens) own_other))

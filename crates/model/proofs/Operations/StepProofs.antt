-- The laws of one operation.
use Rattle.std.proofs.Common.{ℕ, Bool, true, false, List, [], ◌++◌, ◌≡◌, ◌+◌, ◌<◌, ◌≤◌, not, inl, inr, refl, sym, ap, ◌∙◌, subst, arith, ltb-true, lt-ltb, eqb, eq-eqb, ◌^◌, ◌∷◌, ◌⊎◌, ◌&&◌, is_some, length, bytes_eq, nat_lt}
use Rattle.std.specs.Prelude.{Option, Some, None}
use Rattle.std.proofs.lemmas.Bool.{true≢false, cases_Bool, not-false}
use Rattle.std.specs.Cmp.Lexicographic.{bytes_decides}
use Rattle.model_tree.specs.declared.node.NodeKind.TheVariants as kind
use Rattle.model_tree.specs.declared.status.Status.{Status}
use Rattle.model_tree.specs.declared.status.Status.TheVariants as status
use Rattle.model_tree.specs.Rights.Acl.{is_list_for}
use Rattle.model_tree.specs.Rights.AclLaws.{ModesKeepLimits, InheritanceKeepsLimits}
use Rattle.model.specs.Operations.Answer.{Answer, Outcome}
use Rattle.model.specs.Attributes.Attribute.{attribute_refusals, settable_at_creation, is_empty, mode_given, acl_given}
use Rattle.model_tree.specs.Trees.Charge.{fits}
use Rattle.model.specs.Operations.Directory.{new_directory}
use Rattle.model_tree.specs.Trees.Tree.{number_named, number_of_entry, is_named, Tree, Node, Content, File, Directory, DirEntry, kind_of, names_of, names_at, names_of_node, is_directory, is_directory_node, is_directory_at, entry_of}
use Rattle.model_tree.specs.Trees.Changes.{acl_of, made_edits, removed_edits, renamed_edits}
use Rattle.model_tree.specs.Trees.Ancestors.{is_below}
use Rattle.model.specs.Operations.Context.{Context, is_same_name, has_saved}
use Rattle.model_tree.specs.Trees.Edit.{edited}
use Rattle.model.specs.Operations.Files.{has_bytes, write}
use Rattle.model_tree.specs.Trees.Keyed.{Keyed, at, is_key}
use Rattle.model_tree.specs.declared.limits.Limits.{Limits}
use Rattle.model_tree.specs.Refusals.Name.{name_refusals}
use Rattle.model.specs.Operations.Operation.{Argument, Attributes, RenameArguments, SetAttrArguments, WriteArguments, NewDirectory, OtherType, operation_of}
use Rattle.model_tree.specs.Refusals.Refusal.{first_refusal}
use Rattle.model.specs.Operations.SetAttr.{sets, set_attributes}
use Rattle.model_tree.specs.Trees.Stamp.{is_stamp_left}
use Rattle.model.specs.Operations.Step.{State, current, saved, stamp_of, current_refusals, named_refusals, remove_refusals, rename_refusals, has_names, moved_number, target_number, late_at_rename, is_name_there, alters, effect, made, rename, refused, does}
use Rattle.model.specs.Operations.StepLaws.{IsSound, IsLawful, EveryStepIsLawful, RunsBeginSound}
use Rattle.model_tree.specs.Trees.WellFormed.{IsNode, IsFrom, IsWellFormed, IsBefore}
use Rattle.model_tree.proofs.Trees.AncestorLaws.{below_is_reached}
use Rattle.model_tree.proofs.Trees.ChangeLaws.{IsChanged, removal_keeps, rename_keeps, creation_keeps, entry_found, names_in}
use Rattle.model_tree.proofs.Trees.EditLaws.{forest_of, from_leaf, kind_of_directory, directory_at}
use Rattle.model_tree.proofs.Trees.FreshTree.{no_names, fresh_well_formed, fresh_before}
use Rattle.model.proofs.Operations.AttributeLaws.{given_lists_fit}
use Rattle.model.proofs.Operations.FileStepLaws.{list_given, write_changed, set_changed, opening_changed, opening_leaves}
use Rattle.model.proofs.Operations.StepCases.{Passes, does_cases}
use Rattle.model_tree.proofs.Facts.BooleanLaws.{second_of_neither, second_false}
use Rattle.model.proofs.Operations.RefusalLaws.{none_earlier, none_in_both}
use Rattle.model_tree.proofs.Facts.OptionLaws.{none_by_test}

-- What an operation is answered with

not_both : (answer : Answer) (number : ℕ) (reason : Status) → Outcome.Done answer ≡ Outcome.Refused number reason → ⊥
not_both answer number reason same = cc

-- Operations that are no changes

rename_leaves : (same : Bool) (state : State) (now : ℕ) (arguments : RenameArguments) → same ≡ true
    → ((rename same state now arguments).state.tree ≡ state.tree) × ((rename same state now arguments).state.changes ≡ state.changes)
rename_leaves true state now arguments is = (refl, refl)
rename_leaves false state now arguments is = absurd (true≢false (sym is))

rename_caller : (same : Bool) (state : State) (now : ℕ) (arguments : RenameArguments) → (rename same state now arguments).state.context ≡ state.context
rename_caller true state now arguments = refl
rename_caller false state now arguments = refl

set_leaves : (some : Bool) (state : State) (now : ℕ) (arguments : SetAttrArguments) → some ≡ false
    → ((set_attributes some state now arguments).state.tree ≡ state.tree) × ((set_attributes some state now arguments).state.changes ≡ state.changes)
set_leaves true state now arguments is = absurd (true≢false is)
set_leaves false state now arguments is = (refl, refl)

set_caller : (some : Bool) (state : State) (now : ℕ) (arguments : SetAttrArguments) → (set_attributes some state now arguments).state.context ≡ state.context
set_caller true state now arguments = refl
set_caller false state now arguments = refl

write_leaves : (some : Bool) (limits : Limits) (state : State) (now : ℕ) (arguments : WriteArguments) → some ≡ false
    → ((write some limits state now arguments).state.tree ≡ state.tree) × ((write some limits state now arguments).state.changes ≡ state.changes)
write_leaves true limits state now arguments is = absurd (true≢false is)
write_leaves false limits state now arguments is = (refl, refl)

write_caller : (some : Bool) (limits : Limits) (state : State) (now : ℕ) (arguments : WriteArguments) → (write some limits state now arguments).state.context ≡ state.context
write_caller true limits state now arguments = refl
write_caller false limits state now arguments = refl

pub effect_leaves : (limits : Limits) (state : State) (now : ℕ) (operation : Argument) → alters state operation ≡ false
    → ((effect limits state now operation).state.tree ≡ state.tree) × ((effect limits state now operation).state.changes ≡ state.changes)
unfolding effect
effect_leaves limits state now (Argument.Create arguments) no_change = absurd (true≢false no_change)
effect_leaves limits state now (Argument.Remove name) no_change = absurd (true≢false no_change)
effect_leaves limits state now (Argument.Rename arguments) no_change =
    rename_leaves (is_same_name state.context arguments) state now arguments (not-false (is_same_name state.context arguments) no_change)
effect_leaves limits state now (Argument.Open arguments) no_change =
    let same = opening_leaves state now arguments.opening no_change in
    (ap (λ (s : State). s.tree) same, ap (λ (s : State). s.changes) same)
effect_leaves limits state now (Argument.SetAttr arguments) no_change = set_leaves (sets arguments) state now arguments no_change
effect_leaves limits state now (Argument.Write arguments) no_change = write_leaves (has_bytes arguments) limits state now arguments no_change
effect_leaves limits state now _ no_change = (refl, refl)

effect_caller : (limits : Limits) (state : State) (now : ℕ) (operation : Argument)
    → ((effect limits state now operation).state.context.cred ≡ state.context.cred)
    × ((effect limits state now operation).state.context.client ≡ state.context.client)
    × ((effect limits state now operation).state.context.run ≡ state.context.run)
unfolding effect
effect_caller limits state now (Argument.Create (NewDirectory name given)) = (refl, refl, refl)
effect_caller limits state now (Argument.Create (OtherType number)) = (refl, refl, refl)
effect_caller limits state now (Argument.Rename arguments) =
    let same = rename_caller (is_same_name state.context arguments) state now arguments in
    (ap (λ (c : Context). c.cred) same, ap (λ (c : Context). c.client) same, ap (λ (c : Context). c.run) same)
effect_caller limits state now (Argument.SetAttr arguments) =
    let same = set_caller (sets arguments) state now arguments in
    (ap (λ (c : Context). c.cred) same, ap (λ (c : Context). c.client) same, ap (λ (c : Context). c.run) same)
effect_caller limits state now (Argument.Write arguments) =
    let same = write_caller (has_bytes arguments) limits state now arguments in
    (ap (λ (c : Context). c.cred) same, ap (λ (c : Context). c.client) same, ap (λ (c : Context). c.run) same)
effect_caller limits state now _ = (refl, refl, refl)

-- A new directory

-- What CREATE passed
pub record Creates (limits : Limits) (state : State) (name : List ℕ) (given : Attributes) : Type 0 where
  pub directory : is_directory_at state.tree (current state) ≡ true
  pub allowed : first_refusal (name_refusals limits name) ≡ None
  pub new : entry_of name (names_at state.tree (current state)) ≡ None
  pub attributes : first_refusal (attribute_refusals limits kind.Directory settable_at_creation given) ≡ None

creates : (limits : Limits) (state : State) (now : ℕ) (name : List ℕ) (given : Attributes)
    → Passes limits state now (Argument.Create (NewDirectory name given)) → Creates limits state name given
creates limits state now name given passes =
    let arguments = none_in_both (current_refusals state)
    (named_refusals limits state name ++ attribute_refusals limits kind.Directory settable_at_creation given) passes.early in
    let named = none_in_both (named_refusals limits state name)
    (attribute_refusals limits kind.Directory settable_at_creation given) arguments.1 in
    let place = none_earlier (not (is_directory_at state.tree (current state))) status.NotDir
    (first_refusal (name_refusals limits name)) named.0 in
    let there = none_earlier (is_name_there state name) status.Exist None passes.late in
    record {
      directory = not-false (is_directory_at state.tree (current state)) place.0;
      allowed = place.1;
      attributes = named.1;
      new = none_by_test (entry_of name (names_at state.tree (current state))) there.0;
    }

-- What REMOVE passed

no_names_there : (names : Keyed DirEntry) → nat_lt 0 (length names) ≡ false → names ≡ []
no_names_there [] told = refl
no_names_there (entry ∷ rest) told = absurd (true≢false (sym (lt-ltb 0 (length (entry ∷ rest)) (omega arith)) ∙ told))

is_something : {A : Type 0} (o : Option A) → is_some o ≡ true → (x : A) × (o ≡ Some x)
is_something None told = absurd (true≢false (sym told))
is_something (Some x) told = (x, refl)

removed_changed : (limits : Limits) (state : State) (now : ℕ) (name : List ℕ) → Passes limits state now (Argument.Remove name) → IsSound limits state
    → IsChanged limits (stamp_of state) state.tree (edited (removed_edits state.tree (current state) name (stamp_of state) now) state.tree)
    (number_named state.tree (current state) name)
removed_changed limits state now name passes sound =
    let tests = none_in_both (current_refusals state) (remove_refusals limits state name) passes.early in
    let named = none_in_both (named_refusals limits state name) ((not (is_name_there state name), status.NoEnt) ∷ []) tests.1 in
    let place = none_earlier (not (is_directory_at state.tree (current state))) status.NotDir (first_refusal (name_refusals limits name)) named.0 in
    let there = none_earlier (not (is_name_there state name)) status.NoEnt None named.1 in
    let found = is_something (entry_of name (names_at state.tree (current state))) (not-false (is_name_there state name) there.0) in
    let empty = none_earlier (has_names state.tree (number_named state.tree (current state) name)) status.NotEmpty None passes.late in
    let number : number_named state.tree (current state) name ≡ found.0.1.number = ap number_of_entry found.1 in
    subst (IsChanged limits (stamp_of state) state.tree (edited (removed_edits state.tree (current state) name (stamp_of state) now) state.tree)) (sym number)
    (removal_keeps limits state.tree sound.well_formed (stamp_of state) sound.before now (current state) name found.0
    (not-false (is_directory_at state.tree (current state)) place.0) found.1
    (sym (ap (names_at state.tree) number) ∙ no_names_there (names_at state.tree (number_named state.tree (current state) name)) empty.0))

-- What RENAME passed

pub other_way : (a b : List ℕ) → bytes_eq a b ≡ false → bytes_eq b a ≡ false
other_way a b apart = elim (cases_Bool (bytes_eq b a)) [
  | inl same ↦ absurd (true≢false (sym ((bytes_decides a b).1 (sym ((bytes_decides b a).0 same))) ∙ apart))
  | inr off ↦ off
]

no_directory_names : (o : Option Node) → is_directory_node o ≡ false → names_of_node o ≡ []
no_directory_names None told = refl
no_directory_names (Some node) told = by_content node.content told
  where
    by_content : (content : Content) → is_directory content ≡ false → names_of content ≡ []
    by_content (File bytes) told = refl
    by_content (Directory names) told = absurd (true≢false told)

renamed_changed : (limits : Limits) (state : State) (now : ℕ) (arguments : RenameArguments) → Passes limits state now (Argument.Rename arguments)
    → IsSound limits state → is_same_name state.context arguments ≡ false
    → IsChanged limits (stamp_of state) state.tree
    (edited (renamed_edits state.tree (saved state) (current state) arguments.old_name arguments.new_name (stamp_of state) now) state.tree)
    (target_number state arguments)
renamed_changed limits state now arguments passes sound another =
    let tree = state.tree in
    let from = saved state in
    let to = current state in
    let well = sound.well_formed in
    let tests = none_in_both (current_refusals state) (rename_refusals limits state arguments) passes.early in
    let handle = none_earlier (not (has_saved state.context)) status.NoFileHandle _ tests.1 in
    let stale = none_earlier (not (is_key from tree)) status.Stale _ handle.1 in
    let is_from = none_earlier (not (is_directory_at tree from)) status.NotDir _ stale.1 in
    let is_to = none_earlier (not (is_directory_at tree to)) status.NotDir _ is_from.1 in
    let old_tests = none_in_both (name_refusals limits arguments.old_name) (name_refusals limits arguments.new_name
    ++ ((not (is_named tree from arguments.old_name), status.NoEnt) ∷ [])) is_to.1 in
    let new_tests = none_in_both (name_refusals limits arguments.new_name)
    ((not (is_named tree from arguments.old_name), status.NoEnt) ∷ []) old_tests.1 in
    let there = none_earlier (not (is_named tree from arguments.old_name)) status.NoEnt None new_tests.1 in
    let directory = not-false (is_directory_at tree to) is_to.0 in
    let found = is_something (entry_of arguments.old_name (names_at tree from)) (not-false (is_named tree from arguments.old_name) there.0) in
    let number : moved_number state arguments ≡ found.0.1.number = ap number_of_entry found.1 in
    let stands = entry_found arguments.old_name (names_at tree from) 0 (names_in limits tree (forest_of limits tree well) from).rising found.0 found.1 in
    let late : first_refusal (late_at_rename state arguments) ≡ None = rw another at passes.late in
    let below = none_earlier (is_directory_at tree (moved_number state arguments) && is_below tree (moved_number state arguments) to) status.Inval _ late in
    let exists = none_earlier _ status.Exist None below.1 in
    rename_keeps limits tree well (stamp_of state) sound.before now from to arguments.old_name arguments.new_name found.0
    (not-false (is_directory_at tree from) is_from.0) directory found.1 (omega arith) new_tests.0
    (λ same. subst (λ n. bytes_eq arguments.new_name n ≡ false) ((bytes_decides arguments.old_name found.0.1.name).0 stands.1)
    (other_way arguments.old_name arguments.new_name
    (second_false (eqb from to) (bytes_eq arguments.old_name arguments.new_name) another (eq-eqb from to same))))
    (λ target is. sym (ap (λ (o : Option (ℕ × DirEntry)). names_at tree (number_of_entry o)) is)
    ∙ no_names_there (names_at tree (target_number state arguments)) (second_of_neither _ (has_names tree (target_number state arguments))
    (second_false (is_name_there state arguments.new_name) _ exists.0 (ap is_some is))))
    (λ from_moved.
    let reached : IsFrom tree (moved_number state arguments) to = subst (λ n. IsFrom tree n to) (sym number) from_moved in
    elim (cases_Bool (is_directory_at tree (moved_number state arguments))) [
      | inl is_directory_moved ↦ true≢false
          (sym ((below_is_reached limits tree well (moved_number state arguments) to (ap is_some (directory_at (at to tree) directory).1)).1 reached)
          ∙ second_false _ (is_below tree (moved_number state arguments) to) below.0 is_directory_moved)
      | inr is_file ↦
          let same : to ≡ moved_number state arguments
          = from_leaf tree (moved_number state arguments) (no_directory_names (at (moved_number state arguments) tree) is_file) to reached in
          true≢false (sym directory ∙ (ap (is_directory_at tree) same ∙ is_file))
    ])

-- the number of the node that an operation removes, 0 if it removes none
abbrev pub gone_by : State → Argument → ℕ
gone_by state (Argument.Remove name) = number_named state.tree (current state) name
gone_by state (Argument.Rename arguments) = target_number state arguments
gone_by state _ = 0

module _ (modes : ModesKeepLimits) (inheritance : InheritanceKeepsLimits) where
  module _ (limits : Limits) (state : State) (now : ℕ) (name : List ℕ) (given : Attributes) (sound : IsSound limits state)
      (passed : Creates limits state name given) (parent : Node) (there : at (current state) state.tree ≡ Some parent)
      (is : is_directory parent.content ≡ true) where
    abbrev child : Node
    child = new_directory state.context.cred parent.acl given (stamp_of state) now

    child_is_node : IsNode limits child
    child_is_node = record {
      entries = list_given modes inheritance limits kind.Directory sound.room_for_mode parent.acl
          (let old = sound.well_formed.nodes (current state) parent there in directory_list old.entries)
          (is_empty given.bitmap) (mode_given given) (acl_given given) (λ acl said. given_lists_fit limits kind.Directory
          settable_at_creation given acl (let room = sound.room_for_mode in omega arith) passed.attributes said);
      content = no_names limits;
    }
      where
        directory_list : is_list_for limits.aces_set limits.aces (kind_of parent.content) parent.acl ≡ true
            → is_list_for limits.aces_set limits.aces kind.Directory parent.acl ≡ true
        directory_list list = rw (kind_of_directory parent.content is) at list

    made_changed : IsChanged limits (stamp_of state) state.tree (made state now name given).tree 0
    made_changed = subst (λ (o : Option Node). IsChanged limits (stamp_of state) state.tree (edited (made_edits state.tree (current state) name
        (new_directory state.context.cred (acl_of o) given (stamp_of state) now) (stamp_of state) now) state.tree) 0) (sym there)
        (creation_keeps limits state.tree sound.well_formed (stamp_of state) sound.before now (current state) name child
        passed.directory passed.new (omega arith) passed.allowed child_is_node refl refl)

  -- Each effect

  rename_changed : (limits : Limits) (state : State) (now : ℕ) (arguments : RenameArguments) (same : Bool) → is_same_name state.context arguments ≡ same
      → same ≡ false → Passes limits state now (Argument.Rename arguments) → IsSound limits state
      → IsChanged limits (stamp_of state) state.tree (rename same state now arguments).state.tree (target_number state arguments)
  rename_changed limits state now arguments true is another passes sound = absurd (true≢false another)
  rename_changed limits state now arguments false is another passes sound = renamed_changed limits state now arguments passes sound is

  rename_counts : (state : State) (now : ℕ) (arguments : RenameArguments) (same : Bool) → same ≡ false
      → (rename same state now arguments).state.changes ≡ state.changes + 1
  rename_counts state now arguments true another = absurd (true≢false another)
  rename_counts state now arguments false another = refl

  is_false : (b : Bool) → not b ≡ true → b ≡ false
  is_false true told = sym told
  is_false false told = refl

  -- what is answered to a change is one
  pub effect_changes : (limits : Limits) (state : State) (now : ℕ) (operation : Argument) → Passes limits state now operation
      → IsSound limits state → alters state operation ≡ true → (answer : Answer)
      → (effect limits state now operation).outcome ≡ Outcome.Done answer
      → IsChanged limits (stamp_of state) state.tree (effect limits state now operation).state.tree (gone_by state operation)
      × ((effect limits state now operation).state.changes ≡ state.changes + 1)
  unfolding effect
  effect_changes limits state now (Argument.Create (NewDirectory name given)) passes sound is answer done =
      let passed = creates limits state now name given passes in
      let parent = directory_at (at (current state) state.tree) passed.directory in
      (made_changed limits state now name given sound passed parent.0 parent.1 parent.2, refl)
  effect_changes limits state now (Argument.Create (OtherType number)) passes sound is answer done =
      absurd (not_both answer 6 status.BadType (sym done))
  effect_changes limits state now (Argument.Remove name) passes sound is answer done = (removed_changed limits state now name passes sound, refl)
  effect_changes limits state now (Argument.Rename arguments) passes sound is answer done =
      let another = is_false (is_same_name state.context arguments) is in (
        rename_changed limits state now arguments (is_same_name state.context arguments) refl another passes sound,
        rename_counts state now arguments (is_same_name state.context arguments) another,
      )
  effect_changes limits state now (Argument.Open arguments) passes sound is answer done =
      opening_changed modes inheritance limits state now arguments arguments.opening refl passes sound is
  effect_changes limits state now (Argument.SetAttr arguments) passes sound is answer done =
      setting_changed (sets arguments) is
    where
      setting_changed : (some : Bool) → some ≡ true
          → IsChanged limits (stamp_of state) state.tree (set_attributes some state now arguments).state.tree 0
          × ((set_attributes some state now arguments).state.changes ≡ state.changes + 1)
      setting_changed false some = absurd (true≢false (sym some))
      setting_changed true some = (set_changed modes inheritance limits state now arguments passes sound, refl)
  effect_changes limits state now (Argument.Write arguments) passes sound is answer done =
      writing_changed (has_bytes arguments) is is
    where
      writing_changed : (some : Bool) → some ≡ true → has_bytes arguments ≡ true
          → IsChanged limits (stamp_of state) state.tree (write some limits state now arguments).state.tree 0
          × ((write some limits state now arguments).state.changes ≡ state.changes + 1)
      writing_changed false some has = absurd (true≢false (sym some))
      writing_changed true some has = (write_changed limits state now arguments passes sound has, refl)
  effect_changes limits state now _ passes sound is answer done = absurd (true≢false (sym is))

  -- a change leaves a sound state, and so does what is none
  sound_then : (limits : Limits) (state then : State) → IsSound limits state → {gone : ℕ} → IsChanged limits (stamp_of state) state.tree then.tree gone
      → then.changes ≡ state.changes + 1 → then.context.run ≡ state.context.run → fits limits then.tree ≡ true → is_stamp_left state.changes ≡ true
      → IsSound limits then
  sound_then limits state then sound {gone} changed counts run fitting left = record {
    well_formed = changed.well_formed fitting;
    before = changed.before (stamp_of then) (rw (counts, run) (omega arith));
    counted = rw counts (ltb-true (state.changes + 1) (2 ^ 32) left);
    room_for_mode = sound.room_for_mode;
  }

  sound_still : (limits : Limits) (state then : State) → IsSound limits state → then.tree ≡ state.tree → then.changes ≡ state.changes
      → then.context.run ≡ state.context.run → IsSound limits then
  sound_still limits state then sound tree changes run = record {
    well_formed = subst (IsWellFormed limits) (sym tree) sound.well_formed;
    before = rw (tree, changes, run) sound.before;
    counted = rw changes sound.counted;
    room_for_mode = sound.room_for_mode;
  }

  pub outcome_cases : (outcome : Outcome) → ((answer : Answer) × (outcome ≡ Outcome.Done answer)) ⊎ ((number : ℕ) × (reason : Status) × (outcome ≡ Outcome.Refused number reason))
  outcome_cases (Outcome.Done answer) = inl (answer, refl)
  outcome_cases (Outcome.Refused number reason) = inr (number, reason, refl)

  pub effect_refused : (limits : Limits) (state : State) (now : ℕ) (operation : Argument) (number : ℕ) (reason : Status)
      → (effect limits state now operation).outcome ≡ Outcome.Refused number reason → (effect limits state now operation).state ≡ state
  unfolding effect
  effect_refused limits state now (Argument.Create (NewDirectory name given)) number reason is = absurd (cc)
  effect_refused limits state now (Argument.Create (OtherType of)) number reason is = refl
  effect_refused limits state now (Argument.Rename arguments) number reason is = rename_answers (is_same_name state.context arguments) is
    where
      rename_answers : (same : Bool) → (rename same state now arguments).outcome ≡ Outcome.Refused number reason → (rename same state now arguments).state ≡ state
      rename_answers true is = absurd (cc)
      rename_answers false is = absurd (cc)
  effect_refused limits state now (Argument.SetAttr arguments) number reason is = set_answers (sets arguments) is
    where
      set_answers : (some : Bool) → (set_attributes some state now arguments).outcome ≡ Outcome.Refused number reason
          → (set_attributes some state now arguments).state ≡ state
      set_answers true is = absurd (cc)
      set_answers false is = absurd (cc)
  effect_refused limits state now (Argument.Write arguments) number reason is = write_answers (has_bytes arguments) is
    where
      write_answers : (some : Bool) → (write some limits state now arguments).outcome ≡ Outcome.Refused number reason
          → (write some limits state now arguments).state ≡ state
      write_answers true is = absurd (cc)
      write_answers false is = absurd (cc)
  effect_refused limits state now (Argument.ExchangeId arguments) number reason is = refl
  effect_refused limits state now (Argument.CreateSession arguments) number reason is = refl
  effect_refused limits state now (Argument.DestroySession session) number reason is = refl
  effect_refused limits state now (Argument.Sequence arguments) number reason is = refl
  effect_refused limits state now (Argument.DestroyClientId client) number reason is = refl
  effect_refused limits state now (Argument.ReclaimComplete one_fs) number reason is = refl
  effect_refused limits state now _ number reason is = absurd (cc)

  effect_sound : (limits : Limits) (state : State) (now : ℕ) (operation : Argument) → Passes limits state now operation
      → IsSound limits state → IsSound limits (effect limits state now operation).state
  effect_sound limits state now operation passes sound = elim (cases_Bool (alters state operation)) [
    | inr no_change ↦
        let leaves = effect_leaves limits state now operation no_change in
        sound_still limits state (effect limits state now operation).state sound leaves.0 leaves.1 (effect_caller limits state now operation).2
    | inl is ↦ elim (outcome_cases (effect limits state now operation).outcome) [
      | inl done ↦
          let changes = effect_changes limits state now operation passes sound is done.0 done.1 in
          sound_then limits state (effect limits state now operation).state sound changes.0 changes.1 (effect_caller limits state now operation).2
          (passes.fitting is) (passes.stamp_left is)
      | inr not_done ↦ subst (IsSound limits) (sym (effect_refused limits state now operation not_done.0 not_done.1 not_done.2)) sound
    ]
  ]

  -- The laws

  refused_is_lawful : (limits : Limits) (state : State) (operation : Argument) (reason : Status)
      → IsLawful limits state operation (refused state operation reason)
  refused_is_lawful limits state operation reason = record {
    answer_is_permitted = λ answer done. absurd (not_both answer (operation_of operation) reason (sym done));
    change_is_permitted = λ changed. absurd (changed refl);
    refusal_changes_nothing = λ number of is. refl;
    only_changes_alter = λ no_change. (refl, refl);
    changes_alter = λ answer sound is done. absurd (not_both answer (operation_of operation) reason (sym done));
    stamps = λ answer sound is done. absurd (not_both answer (operation_of operation) reason (sym done));
    keeps_caller = (refl, refl, refl);
    keeps_soundness = λ sound. sound;
  }

  effect_is_lawful : (limits : Limits) (state : State) (now : ℕ) (operation : Argument) → Passes limits state now operation
      → IsLawful limits state operation (effect limits state now operation)
  effect_is_lawful limits state now operation passes = record {
    answer_is_permitted = λ answer done. passes.permitted;
    change_is_permitted = λ changed. passes.permitted;
    refusal_changes_nothing = effect_refused limits state now operation;
    only_changes_alter = effect_leaves limits state now operation;
    changes_alter = λ answer sound is done.
        let changes = effect_changes limits state now operation passes sound is answer done in (changes.0.differs, changes.1);
    stamps = λ answer sound is done. (effect_changes limits state now operation passes sound is answer done).0.stamped;
    keeps_caller = effect_caller limits state now operation;
    keeps_soundness = effect_sound limits state now operation passes;
  }

  does_is_lawful : (limits : Limits) (state : State) (now : ℕ) (operation : Argument)
      → IsLawful limits state operation (does limits state now operation)
  does_is_lawful limits state now operation = elim (does_cases limits state now operation) [
    | inl went ↦ subst (IsLawful limits state operation) (sym went.1) (effect_is_lawful limits state now operation went.0)
    | inr not_gone ↦ subst (IsLawful limits state operation) (sym not_gone.1) (refused_is_lawful limits state operation not_gone.0)
  ]

  pub every_step : EveryStepIsLawful
  every_step = does_is_lawful

-- Runs

-- what was before a stamp was before each later one
pub before_later : (stamp later : ℕ) (tree : Tree) → IsBefore stamp tree → stamp ≤ later → IsBefore later tree
before_later stamp later tree before order = record {
  number = λ number node is. let low : number < stamp = before.number number node is in omega arith;
  change = λ number node is. let low : node.change < stamp = before.change number node is in omega arith;
  entry = λ number node of entry is has. let low : of < stamp = before.entry number node of entry is has in omega arith;
}

pub runs_begin : RunsBeginSound
runs_begin = record {
  first = λ limits state nodes room tree none run.
      let stamp : 1 < stamp_of state = rw none (omega arith) in
      let aces : 1 ≤ limits.aces = omega arith in
      record {
        well_formed = subst (IsWellFormed limits) (sym tree) (fresh_well_formed limits nodes aces);
        before = subst (IsBefore (stamp_of state)) (sym tree) (fresh_before (stamp_of state) stamp);
        counted = rw none (omega arith);
        room_for_mode = room;
      };
  later = λ limits old new sound tree none run.
      let counted : old.changes < 2 ^ 32 = sound.counted in
      let order : stamp_of old ≤ stamp_of new = rw none (omega arith) in
      record {
        well_formed = subst (IsWellFormed limits) (sym tree) sound.well_formed;
        before = subst (IsBefore (stamp_of new)) (sym tree) (before_later (stamp_of old) (stamp_of new) old.tree sound.before order);
        counted = rw none (omega arith);
        room_for_mode = sound.room_for_mode;
      };
}

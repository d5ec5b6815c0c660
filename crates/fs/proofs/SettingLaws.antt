-- SETATTR in each state of a COMPOUND: what it does by the definition, if its tests on a file
-- system are known.
use Rattle.std.proofs.Common.{◌≡◌, ◌+◌, ℕ, Bool, true, false, List, [], ◌∷◌, ◌++◌, Some, None, refl, ap, ap₂, ◌∙◌, not}
use Rattle.tree_edits.specs.declared.edit.Edit.{Edit}
use Rattle.layout.specs.Stands.{Kept}
use Rattle.model_tree.specs.declared.acl.Cred.{Cred}
use Rattle.model_tree.specs.declared.limits.Limits.{Limits}
use Rattle.model_tree.specs.declared.status.Status.{Status}
use Rattle.model_tree.specs.declared.status.Status.TheVariants as status
use Rattle.model.specs.Attributes.Attribute.{is_empty, size_given}
use Rattle.model_tree.specs.Trees.Charge.{fits}
use Rattle.model_tree.specs.Trees.Edit.{Show, edited}
use Rattle.model_tree.specs.Trees.Keyed.{at}
use Rattle.model.specs.Operations.Operation.{Argument, Attributes, SetAttrArguments}
use Rattle.model_tree.specs.Refusals.Refusal.{first_refusal}
use Rattle.model.specs.Operations.SetAttr.{set_attributes, sets, metadata_set, size_edits}
use Rattle.model_tree.specs.Trees.Stamp.{next_stamp, is_stamp_left}
use Rattle.model.specs.Operations.Step.{State, Stepped, current, refused}
use Rattle.model_tree.specs.Trees.Tree.{Tree, Node}
use Rattle.model.specs.declared.not_done.NotDone.{NotDone}
use Rattle.model.specs.declared.not_done.NotDone.TheVariants as refusal
use Rattle.wire_attributes.specs.Given.{IsRefusedBy, given_of}
use Rattle.fs.specs.declared.setting.Setting.{Setting}
use Rattle.fs.specs.FileSystem.{FileSystem}
use Rattle.fs.specs.Making.{room_tests}
use Rattle.fs.specs.Operations.{IsOn, IsNotDone, does_on}
use Rattle.fs.specs.Refusals.{fault_of}
use Rattle.fs.specs.Setting.{IsSet, IsSetting, SetsTree, StaysSet, after_setting, setting_tests}
use Rattle.fs.proofs.RoomTests.{told_by}
use Rattle.fs.proofs.SettingSteps as steps
use Rattle.volume.specs.Changes.{IsTree}
use Rattle.volume.specs.Edits.{edited_by}
use Rattle.volume.specs.VolumeState.{with_tree}

-- the tree that it leaves
abbrev pub tree_set : FileSystem → (now : ℕ) → Setting → Node → Tree
tree_set fs now asked node =
    edited (size_edits asked.number (size_given (given_of asked.attributes)) ++ (Show asked.number (metadata_set (Some node) (given_of asked.attributes) (next_stamp fs.volume.run fs.changes) now) ∷ []))
    fs.volume.tree

module _ (fs : FileSystem) (cred : Cred) (now : ℕ) (asked : Setting) (state : State) (arguments : SetAttrArguments) (on : IsOn fs cred asked.number state) (is : IsSetting state asked arguments) where
  abbrev limits : Limits
  limits = fs.volume.limits

  abbrev given : Attributes
  given = given_of asked.attributes

  first_same : first_refusal (setting_tests limits state.tree state.context.cred (current state) asked.verdict arguments.attributes)
      ≡ first_refusal (setting_tests limits fs.volume.tree cred asked.number asked.verdict given)
  first_same = rw (on.is_state.tree_is, on.is_state.cred_is, on.is_state.current_is, is.attributes_are) refl

  sets_same : sets arguments ≡ not (is_empty given.bitmap)
  sets_same = ap (λ (a : Attributes). not (is_empty a.bitmap)) is.attributes_are

  pub early : (reason : Status) → first_refusal (setting_tests limits fs.volume.tree cred asked.number asked.verdict given) ≡ Some reason
      → does_on fs state now (Argument.SetAttr arguments) ≡ refused state (Argument.SetAttr arguments) reason
  early reason first = steps.set_refused limits state now on.is_state.has_current arguments asked.verdict is.verdict_is reason (first_same ∙ first)

  pub refused_by : (reason : NotDone) → IsRefusedBy (setting_tests limits fs.volume.tree cred asked.number asked.verdict given) reason
      → IsNotDone fs state now (Argument.SetAttr arguments) (fault_of reason)
  refused_by (refusal.Status reason) first = early reason first
  refused_by refusal.Memory first = tt

  module _ (passed : first_refusal (setting_tests limits fs.volume.tree cred asked.number asked.verdict given) ≡ None) where
    pub stays : is_empty given.bitmap ≡ true → StaysSet fs state now arguments
    stays none = steps.nothing_set limits state now on.is_state.has_current arguments asked.verdict is.verdict_is (first_same ∙ passed) (sets_same ∙ ap not none)
        ∙ ap₂ (λ (t : Tree) (n : ℕ). after_setting t n state arguments) on.is_state.tree_is on.changes

    module _ (some : is_empty given.bitmap ≡ false) (node : Node) (there : at asked.number fs.volume.tree ≡ Some node) where
      has : sets arguments ≡ true
      has = sets_same ∙ ap not some

      abbrev after : Tree
      after = tree_set fs now asked node

      state_tree : (set_attributes true state now arguments).state.tree ≡ after
      state_tree = rw (on.is_state.tree_is, on.is_state.current_is, on.run, on.changes, is.attributes_are, there) refl

      full : fits limits after ≡ false → does_on fs state now (Argument.SetAttr arguments) ≡ refused state (Argument.SetAttr arguments) status.NoSpc
      full none = steps.no_room limits state now on.is_state.has_current arguments asked.verdict is.verdict_is (first_same ∙ passed) has (ap (fits limits) state_tree ∙ none)

      module _ (fit : fits limits after ≡ true) where
        used_up : is_stamp_left fs.changes ≡ false → does_on fs state now (Argument.SetAttr arguments) ≡ refused state (Argument.SetAttr arguments) status.ServerFault
        used_up none = steps.no_stamp limits state now on.is_state.has_current arguments asked.verdict is.verdict_is (first_same ∙ passed) has (ap (fits limits) state_tree ∙ fit)
            (ap is_stamp_left on.changes ∙ none)

        pub goes_on : is_stamp_left fs.changes ≡ true → does_on fs state now (Argument.SetAttr arguments) ≡ after_setting after (fs.changes + 1) state arguments
        goes_on left =
            steps.done limits state now on.is_state.has_current arguments asked.verdict is.verdict_is (first_same ∙ passed) has (ap (fits limits) state_tree ∙ fit) (ap is_stamp_left on.changes ∙ left)
            ∙ ap (λ (t : Tree). after_setting t (state.changes + 1) state arguments) state_tree
            ∙ ap (λ (n : ℕ). after_setting after (n + 1) state arguments) on.changes

      pub late : (reason : Status) → first_refusal (room_tests fs after) ≡ Some reason → does_on fs state now (Argument.SetAttr arguments) ≡ refused state (Argument.SetAttr arguments) reason
      late = told_by fs (λ (reason : Status). does_on fs state now (Argument.SetAttr arguments) ≡ refused state (Argument.SetAttr arguments) reason) after full used_up

-- What it leaves by the definition is what its edits make

pub sets_tree : (fs : FileSystem) (cred : Cred) (now : ℕ) (asked : Setting) (edits : List Edit)
    → ((state : State) (arguments : SetAttrArguments) → IsOn fs cred asked.number state → IsSetting state asked arguments → IsSet fs state now arguments edits)
    → (then : Kept) (lasts : Bool) → SetsTree fs cred now asked then lasts → IsTree fs.volume (edited_by fs.volume edits) then lasts
sets_tree fs cred now asked edits step then lasts made =
    made.kept ∙ ap (λ (s : Stepped). with_tree fs.volume s.state.tree) (step made.state made.arguments made.on made.setting)

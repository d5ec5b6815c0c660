-- CREATE of a directory that passed its tests: it may be made, and what the tests of room and stamps say of it is what the definition says.
use Rattle.std.proofs.Common.{◌≡◌, ◌+◌, ◌++◌, ℕ, Bool, true, false, List, [], Option, Some, None, refl, sym, ap, ◌∙◌, subst, not, arith}
use Rattle.std.proofs.Math.Logic.{∥∥₁_elim}
use Rattle.std.proofs.Props.{props}
use Rattle.std.proofs.lemmas.Bool.{not-false}
use Rattle.directory.specs.Listing.{by_stamp}
use Rattle.layout.specs.CachedNodes.{CachedNode}
use Rattle.layout.specs.Known.{IsCached}
use Rattle.model_tree.specs.declared.acl.Ace.{Ace}
use Rattle.model_tree.specs.declared.acl.Cred.{Cred}
use Rattle.model_tree.specs.declared.limits.Limits.{Limits}
use Rattle.model_tree.specs.declared.node.NodeKind.{NodeKind}
use Rattle.model_tree.specs.declared.node.NodeKind.TheVariants as kind
use Rattle.model_tree.specs.declared.status.Status.{Status}
use Rattle.model_tree.specs.declared.status.Status.TheVariants as status
use Rattle.model_tree.specs.Rights.Acl.{is_list_for}
use Rattle.model.specs.Operations.Answer.{Answer}
use Rattle.model.specs.Attributes.Attribute.{attribute_refusals, settable_at_creation, is_empty, mode_given, trimmed}
use Rattle.model_tree.specs.Trees.Charge.{fits}
use Rattle.model.specs.Operations.Context.{at_node}
use Rattle.model.specs.Operations.Directory.{change_of, new_directory}
use Rattle.model_tree.specs.Trees.Edit.{Metadata}
use Rattle.model_tree.specs.Rights.Inherit.{created_list}
use Rattle.model_tree.specs.Trees.Keyed.{at}
use Rattle.volume.specs.VolumeState.{IsLimited}
use Rattle.model_tree.specs.Refusals.Name.{name_refusals}
use Rattle.model.specs.Operations.Operation.{Attributes}
use Rattle.model_tree.specs.Refusals.Refusal.{first_refusal, refused_or}
use Rattle.model_tree.specs.Trees.Stamp.{next_stamp, is_stamp_left}
use Rattle.model.specs.Operations.Step.{State, made, answered, refused, current, stamp_of}
use Rattle.model_tree.specs.Trees.Tree.{Tree, Node, kind_of, names_at, entry_of}
use Rattle.model_tree.specs.Trees.WellFormed.{IsNode}
use Rattle.model.proofs.Operations.RefusalLaws.{none_earlier, none_in_both}
use Rattle.model_tree.proofs.Facts.OptionLaws.{none_by_test}
use Rattle.wire_attributes.specs.declared.settings.Settings.{Settings}
use Rattle.wire_attributes.specs.Given.{AreSettings, WithinLimits}
use Rattle.fs.specs.OnTree.{new_directory_refusals}
use Rattle.fs.proofs.Creating as creating
use Rattle.fs.specs.FileSystem.{FileSystem}
use Rattle.fs.specs.Making.{first_node, room_tests, tree_with, IsDirectoryOf, MayBeMade}
use Rattle.fs.specs.Operations as operations
use Rattle.fs.specs.Planned.{IsList, child_metadata, list_by}
use Rattle.fs.specs.Ready.{MayStand}
use Rattle.fs.proofs.CachedNodeViews.{names_are, encoded_kind}
use Rattle.fs.proofs.EntryLaws.{given_list_fits}
use Rattle.fs.proofs.MakingLaws as laws
use Rattle.volume.specs.Nodes.{IsNodeOf}

not_same : (x y : Status) → (let one : Option Status = Some x in one ≡ Some y) → x ≡ y
not_same x y same = cc

no_names : (limits : Limits) (metadata : Metadata) → IsList limits kind.Directory metadata.acl → IsNode limits (first_node kind.Directory 0 metadata)
no_names limits metadata list = record {
  entries = list;
  content = record { rising = tt; named = λ stamp entry is. absurd cc; once = λ name. omega arith };
}

-- the list of a directory is one that a directory may have
module _ (fs : FileSystem) (formed : MayStand fs.volume fs.changes) (number : ℕ) (cached : CachedNode) (parent : IsDirectoryOf fs.volume.tree number cached) where
  pub listed : IsList fs.volume.limits kind.Directory cached.fields.acl
  listed =
      let node = parent.node.node in
      let content = names_are fs.volume.tree number cached parent.node parent.directory in
      ∥∥₁_elim formed.well_formed (Prim.hlevel props) (λ well.
      let is = well.nodes number node (laws.flat_there fs formed 0 number [] node (by_stamp cached.names) parent.node.there content) in
      subst (λ (acl : List Ace). IsList fs.volume.limits kind.Directory acl) parent.node.acl
      (subst (λ (of : NodeKind). is_list_for fs.volume.limits.aces_set fs.volume.limits.aces of node.acl ≡ true) (ap kind_of content) is.entries))

module _ (fs : FileSystem) (formed : MayStand fs.volume fs.changes) (limited : IsLimited fs.volume)
    (cred : Cred) (now number : ℕ) (name : List ℕ) (given : Attributes) (cached : CachedNode) (node : IsNodeOf fs.volume.tree number cached) (fit : IsCached cached)
    (passed : first_refusal (new_directory_refusals fs.volume.limits fs.volume.tree cred number name given) ≡ None) where
  pub parent : IsDirectoryOf fs.volume.tree number cached
  parent =
      let stale = none_earlier _ status.Stale _ passed in
      let place = none_earlier _ status.NotDir _ stale.1 in
      record { node = node; fit = fit; directory = encoded_kind fs.volume.tree number cached node (not-false _ place.0) }

  allowed : first_refusal (name_refusals fs.volume.limits name) ≡ None
  allowed =
      let stale = none_earlier _ status.Stale _ passed in
      let place = none_earlier _ status.NotDir _ stale.1 in
      let parts = none_in_both (name_refusals fs.volume.limits name ++ attribute_refusals fs.volume.limits kind.Directory settable_at_creation given) _ place.1 in
      (none_in_both (name_refusals fs.volume.limits name) _ parts.0).0

  new : entry_of name (names_at fs.volume.tree number) ≡ None
  new =
      let stale = none_earlier _ status.Stale _ passed in
      let place = none_earlier _ status.NotDir _ stale.1 in
      let parts = none_in_both (name_refusals fs.volume.limits name ++ attribute_refusals fs.volume.limits kind.Directory settable_at_creation given) _ place.1 in
      let rights = none_earlier _ status.Access _ parts.1 in
      none_by_test _ (none_earlier _ status.Exist None rights.1).0

  list_of_it : (settings : Settings) → WithinLimits fs.volume.limits kind.Directory settings → IsList fs.volume.limits kind.Directory (list_by kind.Directory cached.fields.acl settings)
  list_of_it settings within = given_list_fits fs.volume limited kind.Directory cached.fields.acl (listed fs formed number cached parent) settings within

  abbrev own : ℕ
  own = next_stamp fs.volume.run fs.changes

  module _ (stamp : ℕ) (settings : Settings) (child : Metadata) (set : AreSettings settings given) (within : WithinLimits fs.volume.limits kind.Directory settings) (stamp_is : stamp ≡ own)
      (child_is : child ≡ child_metadata cred (list_by kind.Directory cached.fields.acl settings) stamp now) where
    made_is : first_node kind.Directory 0 child ≡ new_directory cred node.node.acl given own now
    made_is =
        let by : ℕ → List Ace → Bool → Option ℕ → Option (List Ace) → Node =
        λ s acl nothing_given mode list. first_node kind.Directory 0 (child_metadata cred (created_list acl kind.Directory nothing_given mode list) s now) in
        ap (first_node kind.Directory 0) child_is
        ∙ ap (λ (s : ℕ). by s cached.fields.acl settings.is_empty settings.mode settings.acl) stamp_is
        ∙ ap (λ (acl : List Ace). by own acl settings.is_empty settings.mode settings.acl) (sym node.acl)
        ∙ ap (λ (b : Bool). by own node.node.acl b settings.mode settings.acl) set.empty
        ∙ ap (λ (m : Option ℕ). by own node.node.acl (is_empty given.bitmap) m settings.acl) set.mode
        ∙ ap (by own node.node.acl (is_empty given.bitmap) (mode_given given)) set.acl

    pub may : MayBeMade fs number name (first_node kind.Directory 0 child)
    may = record {
      allowed = allowed;
      new = new;
      is_node = no_names fs.volume.limits child (subst (λ (s : Metadata). IsList fs.volume.limits kind.Directory s.acl) (sym child_is) (list_of_it settings within));
      change = ap (λ (n : Node). n.change) made_is;
    }

    abbrev after : Tree
    after = tree_with fs number name (first_node kind.Directory 0 child) now

    module _ (state : State) (on : operations.IsOn fs cred number state) where
      is_there : (made state now name given).tree ≡ after
      is_there = rw (on.is_state.tree_is, on.is_state.cred_is, on.is_state.current_is, on.run, on.changes, node.there, made_is) refl

      passed_there : first_refusal (new_directory_refusals fs.volume.limits state.tree state.context.cred (current state) name given) ≡ None
      passed_there = rw (on.is_state.tree_is, on.is_state.cred_is, on.is_state.current_is) passed

      refused_by : (fitting left : Bool) → fits fs.volume.limits after ≡ fitting → is_stamp_left fs.changes ≡ left → (reason : Status)
          → refused_or (not fitting) status.NoSpc (refused_or (not left) status.ServerFault None) ≡ Some reason
          → operations.does_on fs state now (operations.new_directory name given) ≡ refused state (operations.new_directory name given) reason
      refused_by false left full is reason told =
          creating.no_room fs.volume.limits state now name given on.is_state.has_current passed_there (ap (fits fs.volume.limits) is_there ∙ full)
          ∙ ap (refused state (operations.new_directory name given)) (not_same status.NoSpc reason told)
      refused_by true false fit none reason told =
          creating.no_stamp fs.volume.limits state now name given on.is_state.has_current passed_there (ap (fits fs.volume.limits) is_there ∙ fit) (ap is_stamp_left on.changes ∙ none)
          ∙ ap (refused state (operations.new_directory name given)) (not_same status.ServerFault reason told)
      refused_by true true fit left reason told = absurd cc

      pub late_refusal : (reason : Status) → first_refusal (room_tests fs after) ≡ Some reason
          → operations.does_on fs state now (operations.new_directory name given) ≡ refused state (operations.new_directory name given) reason
      late_refusal reason told = refused_by (fits fs.volume.limits after) (is_stamp_left fs.changes) refl refl reason told

      pub goes_on : first_refusal (room_tests fs after) ≡ None → (before : ℕ) → before ≡ cached.fields.change
          → operations.does_on fs state now (operations.new_directory name given) ≡ operations.created after (fs.changes + 1) state given (record { number = stamp; before = before })
      goes_on room before before_is =
          let first = none_earlier (not (fits fs.volume.limits after)) status.NoSpc _ room in
          let second = none_earlier (not (is_stamp_left fs.changes)) status.ServerFault None first.1 in
          let shape = λ (t : Tree) (count b n : ℕ). answered
          (record { tree = t; changes = count; opens = state.opens; context = at_node state.context n })
          (Answer.Create (record { change = record { is_atomic = true; before = b; after = n }; was_set = trimmed given.bitmap })) in
          let before_same : change_of (at (current state) state.tree) ≡ before = rw (on.is_state.tree_is, on.is_state.current_is, node.there) (node.change ∙ sym before_is) in
          let number_same : stamp_of state ≡ stamp = rw (on.run, on.changes) (sym stamp_is) in
          creating.done fs.volume.limits state now name given on.is_state.has_current passed_there (ap (fits fs.volume.limits) is_there ∙ not-false _ first.0) (ap is_stamp_left on.changes ∙ not-false _ second.0)
          ∙ ap (λ (t : Tree). shape t (state.changes + 1) (change_of (at (current state) state.tree)) (stamp_of state)) is_there
          ∙ ap (λ (count : ℕ). shape after (count + 1) (change_of (at (current state) state.tree)) (stamp_of state)) on.changes
          ∙ ap (λ (b : ℕ). shape after (fs.changes + 1) b (stamp_of state)) before_same
          ∙ ap (shape after (fs.changes + 1) before) number_same

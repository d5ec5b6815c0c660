-- SETATTR that passed its tests, on the tree with zeros for the bytes of files: there it sets the
-- same, with the same number of zeros. So the tree after it is one that the run may have.
use Rattle.std.proofs.Common.{◌≡◌, ◌<◌, ◌+◌, ◌^◌, ℕ, Bool, true, false, List, [], ◌∷◌, ◌++◌, Option, Some, None, length, refl, sym, ap, ◌∙◌, not}
use Rattle.std.specs.Prelude.{Result, Ok, option_map, if◌then◌else◌}
use Rattle.tree_edits.specs.Outlines.{blank_node, without_data, zeros}
use Rattle.tree_edits.proofs.BlankLaws.{at-without_data, without_data-twice, key-without_data, directory-without_data, edits_blanked}
use Rattle.tree_edits.proofs.FitLaws.{fits-without_data}
use Rattle.model_tree.specs.declared.acl.Cred.{Cred}
use Rattle.model_tree.specs.declared.limits.Limits.{Limits}
use Rattle.model_tree.specs.declared.node.NodeKind.{NodeKind}
use Rattle.model_tree.specs.declared.node.NodeKind.TheVariants as kind
use Rattle.model_tree.specs.declared.status.Status.{Status}
use Rattle.model_tree.specs.declared.status.Status.TheVariants as status
use Rattle.model.specs.Attributes.Attribute.{attribute_refusals, attributes_of, settable_at_setattr, size_given}
use Rattle.model_tree.specs.Trees.Charge.{fits}
use Rattle.model_tree.specs.Trees.Edit.{Edit, SetSize, Show, Metadata, edited, done, with_content, resized}
use Rattle.model_tree.specs.Trees.Keyed.{at, is_key}
use Rattle.volume.specs.VolumeState.{IsLimited}
use Rattle.model.specs.Operations.Need.{granted_on}
use Rattle.model.specs.Operations.Operation.{Argument, Attributes, SetAttrArguments}
use Rattle.model_tree.specs.Refusals.Refusal.{Refusals, first_refusal}
use Rattle.model.specs.Operations.SetAttr.{kind_at, set_attributes, sets, sets_size, metadata_set, size_edits}
use Rattle.model_tree.specs.Trees.Stamp.{next_stamp, is_stamp_left}
use Rattle.model.specs.Operations.Step.{State, does}
use Rattle.model_tree.specs.Trees.Tree.{Tree, Node, File, bytes_of, is_directory_at}
use Rattle.model.proofs.Operations.RefusalLaws.{none_earlier, none_in_both}
use Rattle.model_tree.proofs.Trees.NodeChangeLaws.{length-resized}
use Rattle.fs.specs.FileSystem.{FileSystem}
use Rattle.fs.specs.Files.{verdict_refusals}
use Rattle.fs.specs.Ready.{MayStand}
use Rattle.fs.specs.Setting.{may_set, setting_tests, sized_refusals}
use Rattle.fs.proofs.FlatLaws.{flat_altered, flat_metadata}
use Rattle.fs.proofs.FlatWrites.{anonymous, anonymous_passes, bytes_blank, on_flat, resized_zeros}
use Rattle.fs.proofs.KeptLaws.{formed_by}
use Rattle.fs.proofs.SettingSteps as steps
use Rattle.fs.proofs.SettingTests.{tests_are}
use Rattle.volume.specs.Formed.{IsFormed}
use Rattle.volume.proofs.SoundLaws.{kind_blank}

-- Sizes that are set of zeros leave zeros

abbrev sizing : (size : ℕ) → Node → Node
sizing size node = with_content node (File (resized (bytes_of node.content) size))

sized_zeros : (size : ℕ) (node : Node) → blank_node node ≡ node → blank_node (sizing size node) ≡ sizing size node
sized_zeros size node same =
    let bytes : bytes_of node.content ≡ zeros (length (bytes_of node.content)) = ap (λ (n : Node). bytes_of n.content) (sym same) ∙ bytes_blank node.content in
    ap (λ (l : List ℕ). with_content node (File l))
    (ap zeros (length-resized (bytes_of node.content) size)
    ∙ sym (ap (λ (l : List ℕ). resized l size) bytes ∙ resized_zeros (length (bytes_of node.content)) size))

flat_sized : (tree : Tree) → without_data tree ≡ tree → (number size : ℕ) → without_data (done (SetSize number size) tree) ≡ done (SetSize number size) tree
flat_sized tree flat number size = flat_altered (sizing size) (sized_zeros size) tree flat number

flat_set : (tree : Tree) → without_data tree ≡ tree → (number : ℕ) (size : Option ℕ) (metadata : Metadata)
    → without_data (edited (size_edits number size ++ (Show number metadata ∷ [])) tree) ≡ edited (size_edits number size ++ (Show number metadata ∷ [])) tree
flat_set tree flat number None metadata = flat_metadata tree flat number metadata
flat_set tree flat number (Some size) metadata = flat_metadata (done (SetSize number size) tree) (flat_sized tree flat number size) number metadata

module _ (fs : FileSystem) (formed : MayStand fs.volume fs.changes) (counted : fs.changes < 2 ^ 32) (limited : IsLimited fs.volume)
    (cred : Cred) (now number : ℕ) (verdict : Result (Unit {0}) Status) (given : Attributes) (node : Node) (there : at number fs.volume.tree ≡ Some node)
    (passed : first_refusal (setting_tests fs.volume.limits fs.volume.tree cred number verdict given) ≡ None) where
  abbrev limits : Limits
  limits = fs.volume.limits

  abbrev tree : Tree
  tree = fs.volume.tree

  abbrev flat : Tree
  flat = without_data tree

  abbrev pub own : ℕ
  own = next_stamp fs.volume.run fs.changes

  abbrev pub metadata : Metadata
  metadata = metadata_set (Some node) given own now

  abbrev pub wanted : List Edit
  wanted = size_edits number (size_given given) ++ (Show number metadata ∷ [])

  abbrev pub after : Tree
  after = edited wanted tree

  flat_there : at number flat ≡ Some (blank_node node)
  flat_there = at-without_data tree number ∙ ap (option_map blank_node) there

  -- The tests on the flat tree

  without_verdict : (b d : Bool) → first_refusal (sized_refusals b d verdict) ≡ None → first_refusal (sized_refusals b d (Ok tt)) ≡ None
  without_verdict false d none = refl
  without_verdict true d none = (let here = none_earlier d status.IsDir (first_refusal (verdict_refusals verdict)) none in rw here.0 refl)

  abbrev may : Tree → Bool
  may t = may_set (granted_on (at number t) cred) (attributes_of given.bitmap)

  may_flat : may flat ≡ may tree
  may_flat = ap (λ (o : Option Node). may_set (granted_on o cred) (attributes_of given.bitmap)) flat_there
      ∙ ap (λ (o : Option Node). may_set (granted_on o cred) (attributes_of given.bitmap)) (sym there)

  abbrev attributes : NodeKind → Refusals
  attributes of = attribute_refusals limits of settable_at_setattr given

  kind_flat : kind_at flat number ≡ kind_at tree number
  kind_flat = ap (λ (b : Bool). if b then kind.Directory else kind.File) (directory-without_data tree number)

  passed_flat : first_refusal (setting_tests limits flat cred number (Ok tt) given) ≡ None
  passed_flat =
      let stale = none_earlier (not (is_key number tree)) status.Stale _ passed in
      let values = none_in_both (attributes (kind_at tree number)) _ stale.1 in
      let sized = none_in_both (sized_refusals (sets_size given) (is_directory_at tree number) verdict) ((not (may tree), status.Access) ∷ []) values.1 in
      let right = none_earlier (not (may tree)) status.Access None sized.1 in
      let size_there : first_refusal (sized_refusals (sets_size given) (is_directory_at flat number) (Ok tt)) ≡ None =
      ap (λ (d : Bool). first_refusal (sized_refusals (sets_size given) d (Ok tt))) (directory-without_data tree number) ∙ without_verdict (sets_size given) (is_directory_at tree number) sized.0 in
      tests_are limits flat cred number (Ok tt) given false None None false
      (ap not (key-without_data tree number) ∙ stale.0) (ap (λ (of : NodeKind). first_refusal (attributes of)) kind_flat ∙ values.0) size_there (ap not may_flat ∙ right.0)

  -- The trees after the edits

  seen : edited wanted flat ≡ without_data after
  seen = sym (flat_set flat (without_data-twice tree) number (size_given given) metadata) ∙ edits_blanked wanted tree

  fits_flat : fits limits (edited wanted flat) ≡ fits limits after
  fits_flat = ap (fits limits) seen ∙ fits-without_data limits after

  metadata_flat : metadata_set (at number flat) given own now ≡ metadata
  metadata_flat = ap (λ (o : Option Node). metadata_set o given own now) flat_there ∙ rw (kind_blank node.content) refl

  abbrev flat_arguments : SetAttrArguments
  flat_arguments = record { state = anonymous; attributes = given }

  abbrev on : State
  on = on_flat flat fs.changes fs.volume.run cred number

  step_tree : (set_attributes true on now flat_arguments).state.tree ≡ edited wanted flat
  step_tree = ap (λ (s : Metadata). edited (size_edits number (size_given given) ++ (Show number s ∷ [])) flat) metadata_flat

  module _ (some : sets flat_arguments ≡ true) (fit : fits limits after ≡ true) (left : is_stamp_left fs.changes ≡ true) where
    goes : does limits on now (Argument.SetAttr flat_arguments) ≡ set_attributes true on now flat_arguments
    goes = steps.done limits on now refl flat_arguments (Ok tt) (anonymous_passes flat fs.changes fs.volume.run cred number) passed_flat some
        (ap (fits limits) step_tree ∙ fits_flat ∙ fit) left

    pub formed_after : IsFormed limits (next_stamp fs.volume.run (fs.changes + 1)) after
    formed_after = formed_by fs formed counted limited on now (Argument.SetAttr flat_arguments) (set_attributes true on now flat_arguments) after refl refl refl goes refl (step_tree ∙ seen)

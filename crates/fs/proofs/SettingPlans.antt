-- SETATTR that passed its tests: its edits are a change that may be kept, and have its effect by
-- the definition.
use Rattle.std.proofs.Common.{◌≡◌, ◌≤◌, ◌<◌, ◌+◌, ◌^◌, ℕ, Bool, true, false, List, [], ◌∷◌, ◌++◌, Option, Some, None, length, refl, sym, ap, ◌∙◌, arith, subst, not, is_some}
use Rattle.std.proofs.Math.Logic.{∥∥₁_elim}
use Rattle.std.proofs.Props.{props}
use Rattle.std.proofs.lemmas.Bool.{ltb-true}
use Rattle.std.specs.Option.{ForSome}
use Rattle.std.specs.Prelude.{Result, option_map}
use Rattle.tree_transaction.specs.declared.nodes.Metadata.{Metadata}
use Rattle.tree_transaction.specs.Nodes.{metadata_of}
use Rattle.tree_edits.specs.declared.edit.Edit.{Edit}
use Rattle.tree_edits.specs.declared.edit.Edit.TheVariants as edit
use Rattle.tree_edits.specs.Edits.{AreEntries, AreDoable, edits_of, size_of}
use Rattle.tree_edits.specs.Outlines.{blank, blank_node}
use Rattle.tree_edits.proofs.BlankLaws.{at-without_data, length-zeros}
use Rattle.inode.specs.Fields.{Fields}
use Rattle.layout.specs.CachedNodes.{CachedNode}
use Rattle.model_tree.specs.declared.acl.Ace.{Ace}
use Rattle.model_tree.specs.declared.acl.Cred.{Cred}
use Rattle.model_tree.specs.declared.limits.Limits.{Limits}
use Rattle.model_tree.specs.declared.node.NodeKind.{NodeKind}
use Rattle.model_tree.specs.declared.node.NodeKind.TheVariants as kind
use Rattle.model_tree.specs.declared.status.Status.{Status}
use Rattle.model_tree.specs.declared.status.Status.TheVariants as status
use Rattle.model.specs.Attributes.Attribute.{attribute_refusals, attributes_of, is_empty, settable_at_setattr, size_given}
use Rattle.model_tree.specs.Trees.Charge.{fits}
use Rattle.model_tree.specs.Trees.Edit.{Show, SetSize, done, edited, with_content, resized}
use Rattle.model_tree.specs.Trees.Edit as model
use Rattle.model_tree.specs.Trees.Keyed.{at, is_key}
use Rattle.volume.proofs.LimitLaws.{file_most}
use Rattle.volume.specs.VolumeState.{IsLimited}
use Rattle.model.specs.Operations.Need.{granted_on}
use Rattle.model.specs.Operations.Operation.{Attributes, SetAttrArguments}
use Rattle.model_tree.specs.Refusals.Refusal.{first_refusal}
use Rattle.model.specs.Operations.SetAttr.{kind_at, sets_size, metadata_set, size_edits}
use Rattle.model_tree.specs.Trees.Stamp.{next_stamp}
use Rattle.model.specs.Operations.Step.{State}
use Rattle.model_tree.specs.Trees.Tree.{Tree, Node, Content, File, Directory, bytes_of, kind_of, is_directory_at}
use Rattle.model_tree.specs.Trees.WellFormed.{IsContent}
use Rattle.model_tree.proofs.Trees.KeyedLaws.{at-with_same}
use Rattle.model_tree.proofs.Trees.NodeChangeLaws.{altered-once}
use Rattle.model.proofs.Operations.RefusalLaws.{none_earlier, none_in_both}
use Rattle.wire_attributes.specs.declared.settings.Settings.{Settings}
use Rattle.wire_attributes.specs.Given.{AreSettings, WithinLimits, given_of}
use Rattle.fs.specs.declared.setting.Setting.{Setting}
use Rattle.fs.specs.FileSystem.{FileSystem}
use Rattle.fs.specs.Files.{verdict_refusals}
use Rattle.fs.specs.Making.{AsRoomy}
use Rattle.fs.specs.Operations.{IsOn}
use Rattle.fs.specs.Planned.{IsList, IsPlanned}
use Rattle.fs.specs.Ready.{MayStand}
use Rattle.fs.specs.Setting.{IsSet, IsSetting, after_setting, may_set, setting_tests, metadata_with, sized_refusals}
use Rattle.fs.proofs.KeptLaws.{planned_by}
use Rattle.fs.proofs.RoomTests.{HasRoom, resized_room}
use Rattle.fs.proofs.SettingFlat as flat
use Rattle.fs.proofs.SettingLaws as laws
use Rattle.volume.specs.Edits.{edited_by}
use Rattle.volume.specs.Formed.{IsFormed}
use Rattle.fs.specs.Forms.{resizing}
use Rattle.fs.specs.Forms as form
use Rattle.volume.specs.Nodes.{IsNodeOf, ShowsContent}
use Rattle.volume.proofs.SoundLaws.{kind_blank}

-- What a node shows, by its fields and by what is given

same_metadata : (settings : Settings) (given : Attributes) → AreSettings settings given → (stamp now : ℕ) (fields : Fields) (node : Node)
    → node.owner ≡ fields.owner → node.group ≡ fields.group → node.acl ≡ fields.acl → node.time_modify ≡ fields.time_modify → kind_of node.content ≡ fields.kind
    → metadata_with fields settings stamp now ≡ metadata_set (Some node) given stamp now
same_metadata settings given are stamp now fields node owner group acl time of =
    rw (are.size, are.acl, are.mode, are.owner, are.group, owner, group, acl, time, of) refl

-- The list of a node is one that it may have

kind_metadata : (of : NodeKind) (cached : CachedNode) (content : Content) → ShowsContent of cached content → kind_of content ≡ of
kind_metadata kind.File cached content shows = ap kind_of shows.file
kind_metadata kind.Directory cached content shows = ap kind_of shows

pub listed : (fs : FileSystem) (formed : MayStand fs.volume fs.changes) (number : ℕ) (cached : CachedNode) → IsNodeOf fs.volume.tree number cached → IsList fs.volume.limits cached.fields.kind cached.fields.acl
listed fs formed number cached is = ∥∥₁_elim formed.well_formed (Prim.hlevel props) (λ well.
    let own = (well.nodes number (blank_node is.node) (at-without_data fs.volume.tree number ∙ ap (option_map blank_node) is.there)).entries in
    subst (λ (acl : List Ace). IsList fs.volume.limits cached.fields.kind acl) is.acl
    (subst (λ (of : NodeKind). IsList fs.volume.limits of is.node.acl) (kind_blank is.node.content ∙ kind_metadata cached.fields.kind cached is.node.content is.content) own))

-- A size is set of a file

sized_file : (is_sized is_directory : Bool) (verdict : Result (Unit {0}) Status) → is_sized ≡ true → first_refusal (sized_refusals is_sized is_directory verdict) ≡ None → is_directory ≡ false
sized_file true is_directory verdict told none = (none_earlier is_directory status.IsDir (first_refusal (verdict_refusals verdict)) none).0
sized_file false is_directory verdict told none = absurd (cc)

pub no_directory_at : (fs : FileSystem) (cred : Cred) (asked : Setting) → first_refusal (setting_tests fs.volume.limits fs.volume.tree cred asked.number asked.verdict (given_of asked.attributes)) ≡ None
    → sets_size (given_of asked.attributes) ≡ true → is_directory_at fs.volume.tree asked.number ≡ false
no_directory_at fs cred asked passed sized =
    let tree = fs.volume.tree in
    let given = given_of asked.attributes in
    let stale = none_earlier (not (is_key asked.number tree)) status.Stale _ passed in
    let values = none_in_both (attribute_refusals fs.volume.limits (kind_at tree asked.number) settable_at_setattr given) _ stale.1 in
    let both = none_in_both (sized_refusals (sets_size given) (is_directory_at tree asked.number) asked.verdict)
    ((not (may_set (granted_on (at asked.number tree) cred) (attributes_of given.bitmap)), status.Access) ∷ []) values.1 in
    sized_file (sets_size given) (is_directory_at tree asked.number) asked.verdict sized both.0

low_size : (limits : Limits) (of : NodeKind) (settings : Settings) → WithinLimits limits of settings → (size : ℕ) → settings.size ≡ Some size → size ≤ limits.file_bytes
low_size limits of settings within size is = (subst (λ (o : Option ℕ). ForSome o (λ (n : ℕ). n ≤ limits.file_bytes)) is within.size) size refl

-- The tree that it leaves has room exactly if that with the size has

pub room_asked : (fs : FileSystem) → MayStand fs.volume fs.changes → (now : ℕ) (asked : Setting) (node : Node) (settings : Settings) → AreSettings settings (given_of asked.attributes)
    → AsRoomy fs (laws.tree_set fs now asked node) (edited_by fs.volume (resizing asked.number settings.size))
room_asked fs formed now asked node settings are =
    let given = given_of asked.attributes in
    resized_room fs formed asked.number (size_given given) (metadata_set (Some node) given (next_stamp fs.volume.run fs.changes) now)
    ∙ ap (λ (size : Option ℕ). fits fs.volume.limits (edited_by fs.volume (resizing asked.number size))) (sym are.size)

module _ (fs : FileSystem) (formed : MayStand fs.volume fs.changes) (counted : fs.changes < 2 ^ 32) (limited : IsLimited fs.volume)
    (cred : Cred) (now : ℕ) (asked : Setting) (cached : CachedNode) (is_node : IsNodeOf fs.volume.tree asked.number cached)
    (passed : first_refusal (setting_tests fs.volume.limits fs.volume.tree cred asked.number asked.verdict (given_of asked.attributes)) ≡ None)
    (settings : Settings) (are : AreSettings settings (given_of asked.attributes)) (within : WithinLimits fs.volume.limits cached.fields.kind settings) (some : settings.is_empty ≡ false)
    (stamp : ℕ) (metadata : Metadata) (edits : List Edit) (stamp_is : stamp ≡ next_stamp fs.volume.run fs.changes)
    (metadata_is : metadata_of metadata ≡ metadata_with cached.fields settings stamp now) (entries : AreEntries (metadata_of metadata).acl)
    (edits_are : edits ≡ resizing asked.number settings.size ++ (edit.Show asked.number metadata ∷ [])) where
  abbrev limits : Limits
  limits = fs.volume.limits

  abbrev tree : Tree
  tree = fs.volume.tree

  abbrev number : ℕ
  number = asked.number

  abbrev given : Attributes
  given = given_of asked.attributes

  abbrev own : ℕ
  own = next_stamp fs.volume.run fs.changes

  abbrev node : Node
  node = is_node.node

  abbrev wanted_metadata : model.Metadata
  wanted_metadata = metadata_set (Some node) given own now

  not_empty : is_empty given.bitmap ≡ false
  not_empty = sym are.empty ∙ some

  new_metadata : metadata_of metadata ≡ wanted_metadata
  new_metadata = metadata_is ∙ ap (λ (n : ℕ). metadata_with cached.fields settings n now) stamp_is
      ∙ same_metadata settings given are own now cached.fields node is_node.owner is_node.group is_node.acl is_node.time_modify (kind_metadata cached.fields.kind cached node.content is_node.content)

  -- The edits, of each size

  abbrev list : Option ℕ → List Edit
  list size = resizing number size ++ (edit.Show number metadata ∷ [])

  abbrev wanted : Option ℕ → List model.Edit
  wanted size = size_edits number size ++ (Show number wanted_metadata ∷ [])

  same_edits : (size : Option ℕ) → edits_of (list size) ≡ wanted size
  same_edits None = ap (λ (s : model.Metadata). Show number s ∷ []) new_metadata
  same_edits (Some size) = ap (λ (s : model.Metadata). SetSize number size ∷ Show number s ∷ []) new_metadata

  edits_is : edits ≡ list (size_given given)
  edits_is = edits_are ∙ ap list are.size

  wanted_is : edits_of edits ≡ wanted (size_given given)
  wanted_is = ap edits_of edits_is ∙ same_edits (size_given given)

  after_is : edited_by fs.volume edits ≡ edited (wanted (size_given given)) tree
  after_is = ap (λ (l : List model.Edit). edited l tree) wanted_is

  most : limits.file_bytes ≤ 16777216
  most = file_most fs.volume limited

  key : is_key number tree ≡ true
  key = ap is_some is_node.there

  -- a size is set of a file, which has few bytes before it
  no_directory : sets_size given ≡ true → is_directory_at tree number ≡ false
  no_directory sized = no_directory_at fs cred asked passed sized

  few_bytes : (content : Content) → IsContent limits (blank content) → length (bytes_of content) ≤ limits.file_bytes
  few_bytes (File bytes) is = (let low = is.1 in omega (arith, low, length-zeros (length bytes)))
  few_bytes (Directory names) is = omega arith

  small : size_of (at number tree) ≤ limits.file_bytes
  small = ∥∥₁_elim formed.well_formed (Prim.hlevel props) (λ well.
      let is = well.nodes number (blank_node node) (at-without_data tree number ∙ ap (option_map blank_node) is_node.there) in
      let few = few_bytes node.content is.content in
      let same : size_of (at number tree) ≡ length (bytes_of node.content) = ap size_of is_node.there in
      omega (arith, few, same))

  low : (size : ℕ) → size_given given ≡ Some size → size ≤ limits.file_bytes
  low size said = low_size limits cached.fields.kind settings within size (are.size ∙ said)

  key_sized : (size : ℕ) → is_key number (done (SetSize number size) tree) ≡ true
  key_sized size =
      let sizing : Node → Node = λ old. with_content old (File (resized (bytes_of old.content) size)) in
      ap is_some (ap (at number) (altered-once sizing tree number node is_node.there) ∙ at-with_same tree number (sizing node))

  doable_with : (size : Option ℕ) → size_given given ≡ size → AreDoable tree (list size)
  doable_with None said = (record { there = key; entries = entries }, tt)
  doable_with (Some size) said = (
    record {
      there = key;
      is_file = no_directory (ap is_some said);
      small = omega (arith, small, most);
      low = (let within = low size said in omega (arith, within, most));
    },
    (record { there = key_sized size; entries = entries }, tt),
  )

  abbrev stands : Tree → Type 0
  stands t = IsFormed limits (next_stamp fs.volume.run (fs.changes + 1)) t

  module _ (room : HasRoom fs (laws.tree_set fs now asked node)) where
    pub planned_where : IsPlanned fs edits
    planned_where =
        let whole = subst stands (sym after_is) (flat.formed_after fs formed counted limited cred now number asked.verdict given node is_node.there passed (ap not not_empty) room.fit room.left) in
        subst (IsPlanned fs) (sym edits_is) (planned_by fs formed counted limited (form.Setting number (size_given given) metadata) tt (doable_with (size_given given) refl)
        (ap (λ (l : List Edit). fits fs.volume.limits (edited_by fs.volume l)) (sym edits_is) ∙ ap (fits limits) after_is ∙ room.fit) (ltb-true (fs.changes + 1) (2 ^ 32) room.left)
        (subst (λ (l : List Edit). stands (edited_by fs.volume l)) edits_is whole))

    -- In each state of the operation
    pub plan_goes_on : (state : State) (arguments : SetAttrArguments) → IsOn fs cred number state → IsSetting state asked arguments → IsSet fs state now arguments edits
    plan_goes_on state arguments on is = laws.goes_on fs cred now asked state arguments on is passed not_empty node is_node.there room.fit room.left
        ∙ ap (λ (t : Tree). after_setting t (fs.changes + 1) state arguments) (sym after_is)

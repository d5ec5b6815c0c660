-- The edits of a file whose size is set, as they are in memory: they are a change that may be kept.
use Rattle.std.proofs.Common.{◌≡◌, ◌≤◌, ◌<◌, ◌+◌, ◌^◌, ℕ, true, false, List, [], ◌∷◌, Some, length, sym, ap, ◌∙◌, arith, subst, is_some}
use Rattle.std.specs.Prelude.{IsTrue, option_map}
use Rattle.tree_transaction.specs.declared.nodes.Metadata.{Metadata}
use Rattle.tree_transaction.specs.Nodes.{metadata_of}
use Rattle.tree_edits.specs.declared.edit.Edit.{Edit}
use Rattle.tree_edits.specs.declared.edit.Edit.TheVariants as edit
use Rattle.tree_edits.specs.Edits.{AreDoable, size_of}
use Rattle.tree_edits.specs.Outlines.{blank, blank_node, without_data}
use Rattle.tree_edits.proofs.BlankLaws.{at-without_data}
use Rattle.layout.specs.CachedNodes.{CachedNode}
use Rattle.layout.specs.Known.{IsCached}
use Rattle.model_tree.specs.declared.acl.Ace.{Ace}
use Rattle.model_tree.specs.declared.limits.Limits.{Limits}
use Rattle.model_tree.specs.declared.node.NodeKind.{NodeKind}
use Rattle.model_tree.specs.declared.node.NodeKind.TheVariants as kind
use Rattle.model_tree.specs.Rights.Acl.{is_list_for}
use Rattle.model_tree.specs.Trees.Changes.{touched}
use Rattle.model_tree.specs.Trees.Charge.{fits}
use Rattle.model_tree.specs.Trees.Edit.{SetSize, Show, done, edited, with_content, resized}
use Rattle.model_tree.specs.Trees.Edit as model
use Rattle.model_tree.specs.Trees.Keyed.{at, is_key}
use Rattle.volume.proofs.LimitLaws.{file_most}
use Rattle.volume.specs.VolumeState.{IsLimited}
use Rattle.model_tree.specs.Trees.Stamp.{next_stamp}
use Rattle.model_tree.specs.Trees.Tree.{Tree, Node, Content, File, bytes_of, kind_of, is_directory, is_directory_node}
use Rattle.model_tree.specs.Trees.WellFormed.{IsWellFormed}
use Rattle.model_tree.proofs.Trees.KeyedLaws.{at-with_same}
use Rattle.model_tree.proofs.Trees.NodeChangeLaws.{altered-once}
use Rattle.fs.specs.FileSystem.{FileSystem}
use Rattle.fs.specs.Planned.{IsList, IsPlanned, metadata_by}
use Rattle.fs.specs.Ready.{MayStand}
use Rattle.fs.proofs.FlatSizes as flat
use Rattle.fs.proofs.KeptLaws.{planned_by}
use Rattle.fs.proofs.RemovalPlans.{metadata_touched, entries_metadata}
use Rattle.volume.specs.Edits.{edited_by}
use Rattle.fs.specs.Forms as form
use Rattle.volume.specs.Nodes.{IsNodeOf, IsFile, ShowsContent}

module _ (fs : FileSystem) (formed : MayStand fs.volume fs.changes) (counted : fs.changes < 2 ^ 32) (limited : IsLimited fs.volume)
    (now number : ℕ) (cached : CachedNode) (node : IsNodeOf fs.volume.tree number cached) (file : cached.fields.kind ≡ kind.File) (fit_cached : IsCached cached) (size : ℕ) (low : size ≤ fs.volume.limits.file_bytes)
    (stamp : ℕ) (metadata : Metadata) (edits : List Edit) (stamp_is : stamp ≡ next_stamp fs.volume.run fs.changes) (metadata_is : metadata_of metadata ≡ metadata_by cached.fields stamp now)
    (edits_are : edits ≡ edit.SetSize number size ∷ edit.Show number metadata ∷ []) where
  abbrev tree : Tree
  tree = fs.volume.tree

  abbrev own : ℕ
  own = next_stamp fs.volume.run fs.changes

  is_file : IsFile cached.fields.size node.node.content
  is_file = subst (λ (of : NodeKind). ShowsContent of cached node.node.content) file node.content

  no_directory : is_directory node.node.content ≡ false
  no_directory = ap is_directory is_file.file

  metadata_then : metadata_of metadata ≡ touched (at number tree) own now
  metadata_then = metadata_is ∙ ap (λ (s : ℕ). metadata_by cached.fields s now) stamp_is ∙ metadata_touched tree number cached node own now

  stamped : (metadata_of metadata).change ≡ own
  stamped = ap (λ (s : model.Metadata). s.change) metadata_then

  list_is : (metadata_of metadata).acl ≡ node.node.acl
  list_is = ap (λ (s : model.Metadata). s.acl) metadata_is ∙ sym node.acl

  listed : IsWellFormed fs.volume.limits (without_data tree) → IsList fs.volume.limits kind.File (metadata_of metadata).acl
  listed well =
      let is = well.nodes number (blank_node node.node) (at-without_data tree number ∙ ap (option_map blank_node) node.there) in
      subst (λ (acl : List Ace). IsList fs.volume.limits kind.File acl) (sym list_is)
      (subst (λ (c : Content). is_list_for fs.volume.limits.aces_set fs.volume.limits.aces (kind_of (blank c)) node.node.acl ≡ true) is_file.file is.entries)

  abbrev list : List Edit
  list = edit.SetSize number size ∷ edit.Show number metadata ∷ []

  most : fs.volume.limits.file_bytes ≤ 16777216
  most = file_most fs.volume limited

  few_now : size_of (at number tree) ≤ 16777216
  few_now =
      let count : size_of (at number tree) ≡ length (bytes_of node.node.content) = ap size_of node.there in
      let small = flat.small fs formed number node.node node.there no_directory size low (metadata_of metadata) stamped listed in
      omega (arith, count, small, most)

  sized_there : is_key number (done (SetSize number size) tree) ≡ true
  sized_there =
      let sized : Node → Node = λ old. with_content old (File (resized (bytes_of old.content) size)) in
      ap (is_key number) (altered-once sized tree number node.node node.there) ∙ ap is_some (at-with_same tree number (sized node.node))

  list_doable : AreDoable tree list
  list_doable = (
    record {
      there = ap is_some node.there;
      is_file = ap is_directory_node node.there ∙ no_directory;
      small = few_now;
      low = omega (arith, low, most);
    },
    (
      record { there = sized_there; entries = entries_metadata fs formed limited number cached node fit_cached metadata stamp now metadata_is },
      tt,
    ),
  )

  pub after : edited_by fs.volume edits ≡ edited (SetSize number size ∷ Show number (touched (at number tree) own now) ∷ []) tree
  after = ap (edited_by fs.volume) edits_are ∙ ap (λ (s : model.Metadata). edited (SetSize number size ∷ Show number s ∷ []) tree) metadata_then

  list_planned : IsTrue (fits fs.volume.limits (edited_by fs.volume list)) → fs.changes + 1 < 2 ^ 32 → IsPlanned fs list
  list_planned fit left = planned_by fs formed counted limited (form.Setting number (Some size) metadata) tt list_doable
      fit left (flat.formed_after fs formed number node.node node.there no_directory size low (metadata_of metadata) stamped listed fit)

  pub planned_where : IsTrue (fits fs.volume.limits (edited (SetSize number size ∷ Show number (touched (at number tree) own now) ∷ []) tree)) → fs.changes + 1 < 2 ^ 32 → IsPlanned fs edits
  planned_where fit left = subst (IsPlanned fs) (sym edits_are)
      (list_planned (ap (λ (l : List Edit). fits fs.volume.limits (edited_by fs.volume l)) (sym edits_are) ∙ ap (fits fs.volume.limits) after ∙ fit) left)

-- The edits that make a node and its name, as they are in memory: they are a change that may be kept, and leave the tree that the definition says.
use denote.Ref.{Bor}
use Rattle.std.proofs.Common.{◌≡◌, ◌≢◌, ◌≤◌, ◌<◌, ◌+◌, ◌-◌, ◌^◌, ◌++◌, ℕ, zero, suc, false, List, [], ◌∷◌, Option, Some, None, length, replicate, refl, sym, ap, ◌∙◌, arith, subst, is_some}
use Rattle.std.specs.Prelude.{IsTrue, nat_lt, ◌==◌}
use Rattle.std.proofs.lemmas.Bool.{ltb-false}
use Rattle.tree_transaction.specs.declared.nodes.Metadata.{Metadata}
use Rattle.tree_transaction.specs.Nodes.{metadata_of}
use Rattle.tree_edits.specs.declared.edit.Edit.{Edit}
use Rattle.tree_edits.specs.declared.edit.Edit.TheVariants as edit
use Rattle.tree_edits.specs.Edits.{AreEntries, AreDoable, edits_of, fresh_node, size_of}
use Rattle.model_tree.specs.declared.limits.Limits.{Limits}
use Rattle.model_tree.specs.declared.node.NodeKind.{NodeKind}
use Rattle.model_tree.specs.declared.node.NodeKind.TheVariants as kind
use Rattle.model_tree.specs.Trees.Changes.{touched}
use Rattle.model_tree.specs.Trees.Charge.{fits}
use Rattle.model_tree.specs.Trees.Edit.{PutNode, PutName, Show, SetSize, done, edited, name_put, with_content, resized}
use Rattle.model_tree.specs.Trees.Edit as model
use Rattle.model_tree.specs.Trees.Keyed.{Keyed, at, with, is_key}
use Rattle.volume.specs.VolumeState.{IsLimited}
use Rattle.model_tree.specs.Refusals.Name.{name_refusals}
use Rattle.model_tree.specs.Refusals.Refusal.{first_refusal}
use Rattle.model_tree.specs.declared.status.Status.TheVariants as status
use Rattle.model_tree.specs.Trees.Stamp.{next_stamp}
use Rattle.model_tree.specs.Trees.Tree.{Tree, Node, File, Directory, DirEntry, bytes_of, names_of, names_of_node, is_directory, is_directory_node, entry_of}
use Rattle.model_tree.proofs.Trees.KeyedLaws.{at-with_same, with-with_same}
use Rattle.model_tree.proofs.Trees.NodeChangeLaws.{altered-once}
use Rattle.model.proofs.Operations.RefusalLaws.{none_earlier}
use Rattle.fs.specs.FileSystem.{FileSystem}
use Rattle.fs.specs.Making.{first_node, tree_with, IsSizeOf, MayBeMade}
use Rattle.fs.specs.Planned.{IsPlanned}
use Rattle.fs.specs.Ready.{MayStand}
use Rattle.fs.proofs.KeptLaws.{planned_by}
use Rattle.fs.proofs.MakingLaws.{parent_there, named_there, second_is}
use Rattle.fs.proofs.MakingLaws as laws
use Rattle.volume.specs.Edits.{edited_by}
use Rattle.volume.specs.Formed.{IsFormed}
use Rattle.fs.specs.Forms.{sizing}
use Rattle.fs.specs.Forms as form

-- a name that passes its tests has 1 to 255 bytes
pub name_some : (limits : Limits) (name : List ℕ) → first_refusal (name_refusals limits name) ≡ None → 0 < length name
unfolding name_refusals
name_some limits [] passes = absurd (cc)
name_some limits (byte ∷ name) passes = omega arith

not_less : (a b : ℕ) → nat_lt a b ≡ false → b ≤ a
not_less a b is = ltb-false a b is

pub name_short : (limits : Limits) (name : List ℕ) → first_refusal (name_refusals limits name) ≡ None → length name ≤ limits.name_bytes
unfolding name_refusals
name_short limits name passes =
    let first = none_earlier (length name == 0) status.Inval _ passes in
    let second = none_earlier (nat_lt limits.name_bytes (length name)) status.NameTooLong _ first.1 in
    not_less limits.name_bytes (length name) second.0

-- a new node whose size is set is the one that is to be made
grown : (of : NodeKind) (size : ℕ) (made : model.Metadata) → IsSizeOf of (suc size)
    → with_content (fresh_node of made) (File (resized (bytes_of (fresh_node of made).content) (suc size))) ≡ first_node of (suc size) made
grown kind.File size made has =
    let whole : suc size - 0 ≡ suc size = omega arith in
    ap (λ (k : ℕ). with_content (fresh_node kind.File made) (File (replicate k 0))) whole
grown kind.Directory size made has = absurd (let none = has.none refl in omega (arith, none))

no_size : (of : NodeKind) (made : model.Metadata) → fresh_node of made ≡ first_node of 0 made
no_size kind.File made = refl
no_size kind.Directory made = refl

is_file : (of : NodeKind) (size : ℕ) (made : model.Metadata) → IsSizeOf of (suc size) → is_directory (fresh_node of made).content ≡ false
is_file kind.File size made has = refl
is_file kind.Directory size made has = absurd (let none = has.none refl in omega (arith, none))

no_bytes : (of : NodeKind) (made : model.Metadata) → length (bytes_of (fresh_node of made).content) ≡ 0
no_bytes kind.File made = refl
no_bytes kind.Directory made = refl

module _ (fs : FileSystem) (formed : MayStand fs.volume fs.changes) (counted : fs.changes < 2 ^ 32) (limited : IsLimited fs.volume)
    (now number : ℕ) (encoded : Bor (List ℕ)) (parent : Node) (names : Keyed DirEntry) (there : at number fs.volume.tree ≡ Some parent) (content : parent.content ≡ Directory names)
    (of : NodeKind) (child_metadata parent_metadata : Metadata) where
  abbrev own : ℕ
  own = next_stamp fs.volume.run fs.changes

  abbrev tree : Tree
  tree = fs.volume.tree

  abbrev limits : Limits
  limits = fs.volume.limits

  abbrev made : model.Metadata
  made = metadata_of child_metadata

  abbrev first : Node
  first = fresh_node of made

  abbrev entry : DirEntry
  entry = record { name = encoded.now; number = own }

  abbrev naming : List Edit
  naming = edit.PutName number own encoded own ∷ edit.Show number parent_metadata ∷ []

  abbrev pub list : (size : ℕ) → List Edit
  list size = edit.PutNode own of child_metadata ∷ (sizing own size ++ naming)

  abbrev child : (size : ℕ) → Node
  child size = first_node of size made

  abbrev with_child : (size : ℕ) → Tree
  with_child size = with tree own (child size)

  abbrev wanted : (size : ℕ) → List model.Edit
  wanted size = laws.wanted fs formed now number encoded.now parent names there content of size made

  off : number ≢ own
  off = laws.apart fs formed now number encoded.now parent names there content

  module _ (metadata_is : metadata_of parent_metadata ≡ touched (Some parent) own now) where
    -- The trees after the edits

    behind_first : (size : ℕ) → IsSizeOf of (suc size) → done (SetSize own (suc size)) (with tree own first) ≡ with_child (suc size)
    behind_first size has =
        let grow : Node → Node = λ node. with_content node (File (resized (bytes_of node.content) (suc size))) in
        altered-once grow (with tree own first) own first (at-with_same tree own first)
        ∙ with-with_same tree own first (grow first) ∙ ap (with tree own) (grown of size made has)

    naming_is : (size : ℕ) → edited (edits_of naming) (with_child size) ≡ edited (wanted size) tree
    naming_is size = ap (λ (s : model.Metadata). edited (PutName number own entry ∷ Show number s ∷ []) (with_child size)) metadata_is

    pub list_after : (size : ℕ) → IsSizeOf of size → edited_by fs.volume (list size) ≡ tree_with fs number encoded.now (child size) now
    list_after zero has =
        ap (λ (t : Node). edited (edits_of naming) (with tree own t)) (no_size of made)
        ∙ naming_is 0 ∙ sym (laws.after_wanted fs formed now number encoded.now parent names there content of 0 made)
    list_after (suc size) has =
        ap (λ (t : Tree). edited (edits_of naming) t) (behind_first size has)
        ∙ naming_is (suc size) ∙ sym (laws.after_wanted fs formed now number encoded.now parent names there content of (suc size) made)

    module _ (size : ℕ) (has : IsSizeOf of size) (may : MayBeMade fs number encoded.now (child size)) (child_entries : AreEntries made.acl) (parent_entries : AreEntries (metadata_of parent_metadata).acl) where
      there_then : at number (with_child size) ≡ Some parent
      there_then = parent_there tree own number (child size) parent entry (metadata_of parent_metadata) off there

      lacks : entry_of encoded.now (names_of parent.content) ≡ None
      lacks = ap (λ (o : Option Node). entry_of encoded.now (names_of_node o)) (sym there) ∙ may.new

      second : done (PutName number own entry) (with_child size) ≡ with (with_child size) number (name_put own entry parent)
      second = second_is tree own number (child size) parent entry (metadata_of parent_metadata) off there

      naming_doable : AreDoable (with_child size) naming
      naming_doable = (
        record {
          there = ap is_directory_node there_then ∙ ap is_directory content;
          new_name = ap (λ (o : Option Node). entry_of encoded.now (names_of_node o)) there_then ∙ lacks;
          new_stamp = ap (λ (o : Option Node). at own (names_of_node o)) there_then ∙ laws.new_stamp fs formed now number encoded.now parent names there content;
          some = name_some limits encoded.now may.allowed;
          short = (let short = name_short limits encoded.now may.allowed in omega (arith, short, ap (λ (l : Limits). l.name_bytes) limited.limits));
          above = laws.high fs formed now number encoded.now parent names there content;
        },
        (
          record {
            there = ap (is_key number) second ∙ ap is_some (named_there tree own number (child size) parent entry (metadata_of parent_metadata) off there);
            entries = parent_entries;
          },
          tt,
        ),
      )

    pub list_doable : (size : ℕ) (has : IsSizeOf of size) → MayBeMade fs number encoded.now (child size) → AreEntries made.acl → AreEntries (metadata_of parent_metadata).acl → AreDoable tree (list size)
    list_doable zero has may child_entries parent_entries = (
      record { some = laws.high fs formed now number encoded.now parent names there content; fresh = laws.fresh fs formed now number encoded.now parent names there content; entries = child_entries },
      subst (λ (t : Node). AreDoable (with tree own t) naming) (sym (no_size of made)) (naming_doable 0 has may child_entries parent_entries),
    )
    list_doable (suc size) has may child_entries parent_entries = (
      record { some = laws.high fs formed now number encoded.now parent names there content; fresh = laws.fresh fs formed now number encoded.now parent names there content; entries = child_entries },
      (
        record {
          there = ap is_some (at-with_same tree own first);
          is_file = ap is_directory_node (at-with_same tree own first) ∙ is_file of size made has;
          small = (let none : size_of (at own (with tree own first)) ≡ 0 = ap size_of (at-with_same tree own first) ∙ no_bytes of made in omega (arith, none));
          low = has.low;
        },
        subst (λ (t : Tree). AreDoable t naming) (sym (behind_first size has)) (naming_doable (suc size) has may child_entries parent_entries),
      ),
    )

    pub planned : (size : ℕ) (has : IsSizeOf of size) → MayBeMade fs number encoded.now (child size) → AreEntries made.acl → AreEntries (metadata_of parent_metadata).acl
        → IsTrue (fits limits (edited_by fs.volume (list size))) → fs.changes + 1 < 2 ^ 32 → IsPlanned fs (list size)
    planned size has may child_entries parent_entries fit left =
        let is = list_after size has in
        let after = laws.after_wanted fs formed now number encoded.now parent names there content of size made in
        planned_by fs formed counted limited (form.Making own of size child_metadata number encoded parent_metadata)
        (λ other key. laws.below fs formed now number encoded.now parent names there content other key) (list_doable size has may child_entries parent_entries) fit left
        (subst (IsFormed limits (next_stamp fs.volume.run (fs.changes + 1))) (sym after ∙ sym is)
        (laws.formed_after fs formed now number encoded.now parent names there content of size made may
        (sym (ap (fits limits) (is ∙ after)) ∙ fit)))

-- The edits of a node that is made, as code puts them together: what is proved of them, and what refuses them.
use denote.Ref.{Bor}
use Rattle.std.proofs.Common.{◌≡◌, ◌<◌, ◌+◌, ◌^◌, ◌++◌, ℕ, true, List, [], ◌∷◌, Option, Some, None, sym, ap, ◌∙◌, arith, subst}
use Rattle.std.proofs.Math.Logic.{∥∥₁_elim}
use Rattle.std.proofs.Props.{props}
use Rattle.std.proofs.lemmas.Bool.{ltb-true}
use Rattle.std.specs.Prelude.{IsTrue}
use Rattle.directory.specs.Listing.{by_stamp}
use Rattle.tree_transaction.specs.declared.nodes.Metadata.{Metadata}
use Rattle.tree_transaction.specs.Nodes.{no_content, metadata_of}
use Rattle.tree_edits.specs.declared.edit.Edit.{Edit}
use Rattle.tree_edits.specs.declared.edit.Edit.TheVariants as edit
use Rattle.tree_edits.specs.Edits.{AreEntries, AreDoable, edits_of, fresh_node}
use Rattle.tree_edits.specs.Measures.{AreMeasurable}
use Rattle.tree_edits.specs.Outlines.{without_data, zeros}
use Rattle.tree_edits.specs.Sizes.{size_of_content}
use Rattle.tree_edits.proofs.BlankLaws.{length-zeros}
use Rattle.tree_edits.proofs.RoomAlike.{AreNew, made, made_room, same_length}
use Rattle.layout.specs.CachedNodes.{CachedNode}
use Rattle.model_tree.specs.declared.node.NodeKind.{NodeKind}
use Rattle.model_tree.specs.declared.node.NodeKind.TheVariants as kind
use Rattle.model_tree.specs.Trees.Changes.{touched}
use Rattle.model_tree.specs.Trees.Charge.{fits}
use Rattle.model_tree.specs.Trees.Edit.{SetSize, done, edited, name_put, resized, with_content}
use Rattle.model_tree.specs.Trees.Keyed.{IsAbove, at, with}
use Rattle.volume.specs.VolumeState.{IsLimited}
use Rattle.model_tree.specs.Refusals.Refusal.{first_refusal}
use Rattle.model_tree.specs.Trees.Stamp.{next_stamp}
use Rattle.model_tree.specs.Trees.Tree.{Tree, Node, DirEntry, File, Directory, bytes_of, is_directory, is_directory_at, is_directory_node, names_at, names_of_node}
use Rattle.model_tree.specs.Trees.WellFormed.{IsWellFormed}
use Rattle.model_tree.proofs.Trees.KeyedLaws.{IsAbove-with, at-below, at-with_other, at-with_same, with-with_same}
use Rattle.model_tree.proofs.Trees.NodeChangeLaws.{altered-once, length-resized}
use Rattle.fs.specs.FileSystem.{FileSystem}
use Rattle.fs.specs.Making.{AsRoomy, first_content, first_node, room_tests, tree_with, IsDirectoryOf, IsSizeOf, MayBeMade}
use Rattle.fs.specs.Planned.{IsPlanned, metadata_by}
use Rattle.fs.specs.Ready.{MayStand}
use Rattle.fs.proofs.CachedNodeViews.{names_are}
use Rattle.fs.proofs.MakingLaws as laws
use Rattle.fs.proofs.MakingPlans as plans
use Rattle.fs.proofs.RemovalPlans.{metadata_touched, entries_metadata}
use Rattle.fs.proofs.RoomTests.{above_all, names_above, passed_room, rising_by}
use Rattle.volume.specs.Edits.{edited_by}
use Rattle.fs.specs.Forms.{sizing}
use Rattle.fs.proofs.RoomLaws.{above_altered, show_room}

-- The room of a node that is made does not depend on its number: it is computed for the number 0

module _ (fs : FileSystem) (formed : MayStand fs.volume fs.changes) (number : ℕ) (encoded : Bor (List ℕ)) (of : NodeKind) (cached : CachedNode) (parent : IsDirectoryOf fs.volume.tree number cached) (blank : Metadata) where
  abbrev first : Node
  first = fresh_node of (metadata_of blank)

  abbrev naming : List Edit
  naming = edit.PutName number 0 encoded 0 ∷ []

  -- the node after its size is set
  abbrev sized : (size : ℕ) → Node
  sized size = with_content first (File (resized (bytes_of first.content) size))

  sized_is : (size : ℕ) → done (SetSize 0 size) (with fs.volume.tree 0 first) ≡ with fs.volume.tree 0 (sized size)
  sized_is size =
      altered-once (λ (node : Node). with_content node (File (resized (bytes_of node.content) size))) (with fs.volume.tree 0 first) 0 first (at-with_same fs.volume.tree 0 first)
      ∙ with-with_same fs.volume.tree 0 first (sized size)

  names : parent.node.node.content ≡ Directory (by_stamp cached.names)
  names = names_are fs.volume.tree number cached parent.node parent.directory

  pub there : is_directory_at fs.volume.tree number ≡ true
  there = ap is_directory_node parent.node.there ∙ ap is_directory names

  -- no node has the number 0, and no name the stamp
  zero_new : AreNew fs.volume.tree number 0 0
  zero_new = record {
    fresh = ∥∥₁_elim formed.well_formed (Prim.hlevel props) (λ well. at-below fs.volume.tree 0 0 (above_all fs.volume.limits fs.volume.tree well) (omega arith));
    new_stamp = ∥∥₁_elim formed.well_formed (Prim.hlevel props)
        (λ well. at-below (names_at fs.volume.tree number) 0 0 (names_above fs.volume.limits fs.volume.tree well number) (omega arith));
  }

  parent_was : (node : Node) → at number (with fs.volume.tree 0 node) ≡ at number fs.volume.tree
  parent_was node = at-with_other fs.volume.tree 0 number node
      (λ same. none_there (at 0 fs.volume.tree) zero_new.fresh (ap (λ (n : ℕ). is_directory_at fs.volume.tree n) (sym same) ∙ there))
    where
      none_there : (found : Option Node) → found ≡ None → is_directory_node found ≡ true → ⊥
      none_there None none has = absurd cc
      none_there (Some other) none has = absurd cc

  naming_measured : (node : Node) → AreMeasurable (with fs.volume.tree 0 node) naming
  naming_measured node = (
    record {
      there = ap is_directory_node (parent_was node) ∙ there;
      new_stamp = ap (λ (found : Option Node). at 0 (names_of_node found)) (parent_was node) ∙ zero_new.new_stamp;
    },
    tt,
  )

  pub directory_measured : AreMeasurable fs.volume.tree (edit.PutNode 0 of blank ∷ naming)
  directory_measured = (tt, naming_measured first)

  pub file_measured : (size : ℕ) → AreMeasurable fs.volume.tree (edit.PutNode 0 of blank ∷ edit.SetSize 0 size ∷ naming)
  file_measured size = (tt, (tt, subst (λ (t : Tree). AreMeasurable t naming) (sym (sized_is size)) (naming_measured (sized size))))

  module _ (now : ℕ) (node : Node) where
    abbrev new : ℕ
    new = next_stamp fs.volume.run fs.changes

    abbrev entry : DirEntry
    entry = record { name = encoded.now; number = new }

    is_new : AreNew fs.volume.tree number new new
    is_new = record {
      fresh = laws.fresh fs formed now number encoded.now parent.node.node (by_stamp cached.names) parent.node.there names;
      new_stamp = ap (λ (found : Option Node). at new (names_of_node found)) parent.node.there
          ∙ laws.new_stamp fs formed now number encoded.now parent.node.node (by_stamp cached.names) parent.node.there names;
    }

    above_made : IsWellFormed fs.volume.limits (without_data fs.volume.tree) → IsAbove 0 (made fs.volume.tree number new new node entry)
    above_made well = above_altered (name_put new entry) (with fs.volume.tree new node) number
        (IsAbove-with fs.volume.tree new 0 node (above_all fs.volume.limits fs.volume.tree well) (laws.high fs formed now number encoded.now parent.node.node (by_stamp cached.names) parent.node.there names))

    room_by : (zero : Node) → size_of_content node.content ≡ size_of_content zero.content
        → AsRoomy fs (tree_with fs number encoded.now node now) (made fs.volume.tree number 0 0 zero (record { name = encoded.now; number = 0 }))
    room_by zero same = ∥∥₁_elim formed.well_formed (Prim.hlevel props) (λ well.
        show_room fs.volume.limits (made fs.volume.tree number new new node entry) number (touched (at number fs.volume.tree) new now) (above_made well)
        ∙ made_room fs.volume.tree (rising_by fs.volume.limits fs.volume.tree well) number there fs.volume.limits new new 0 0 node zero entry (record { name = encoded.now; number = 0 })
        is_new zero_new same)

    pub directory_room : node.content ≡ first_content kind.Directory 0 → of ≡ kind.Directory
        → AsRoomy fs (tree_with fs number encoded.now node now) (edited_by fs.volume (edit.PutNode 0 of blank ∷ naming))
    directory_room content is =
        room_by first (ap size_of_content content ∙ sym (ap (λ (k : NodeKind). size_of_content (no_content k)) is))

    pub file_room : (size : ℕ) → node.content ≡ first_content kind.File size
        → AsRoomy fs (tree_with fs number encoded.now node now) (edited_by fs.volume (edit.PutNode 0 of blank ∷ edit.SetSize 0 size ∷ naming))
    file_room size content =
        room_by (sized size) (ap size_of_content content
        ∙ same_length (zeros size) (resized (bytes_of first.content) size) (length-zeros size ∙ sym (length-resized (bytes_of first.content) size)))
        ∙ ap (λ (t : Tree). fits fs.volume.limits (edited (edits_of naming) t)) (sym (sized_is size))

module _ (fs : FileSystem) (formed : MayStand fs.volume fs.changes) (counted : fs.changes < 2 ^ 32) (limited : IsLimited fs.volume)
    (now number : ℕ) (encoded : Bor (List ℕ)) (of : NodeKind) (size : ℕ) (child_metadata parent_metadata : Metadata) (cached : CachedNode) (parent : IsDirectoryOf fs.volume.tree number cached) (has : IsSizeOf of size)
    (may : MayBeMade fs number encoded.now (first_node of size (metadata_of child_metadata))) (entries : AreEntries (metadata_of child_metadata).acl)
    (stamp : ℕ) (edits : List Edit) (stamp_is : stamp ≡ next_stamp fs.volume.run fs.changes) (metadata_is : metadata_of parent_metadata ≡ metadata_by cached.fields stamp now)
    (edits_are : edits ≡ edit.PutNode stamp of child_metadata ∷ (sizing stamp size ++ (edit.PutName number stamp encoded stamp ∷ edit.Show number parent_metadata ∷ []))) where
  abbrev tree : Tree
  tree = fs.volume.tree

  abbrev own : ℕ
  own = next_stamp fs.volume.run fs.changes

  abbrev node : Node
  node = parent.node.node

  content : node.content ≡ Directory (by_stamp cached.names)
  content = names_are tree number cached parent.node parent.directory

  abbrev list : List Edit
  list = plans.list fs formed counted limited now number encoded node (by_stamp cached.names) parent.node.there content of child_metadata parent_metadata size

  list_is : edits ≡ list
  list_is = edits_are
      ∙ ap (λ (s : ℕ). edit.PutNode s of child_metadata ∷ (sizing s size ++ (edit.PutName number s encoded s ∷ edit.Show number parent_metadata ∷ []))) stamp_is

  new_metadata : metadata_of parent_metadata ≡ touched (Some node) own now
  new_metadata = metadata_is ∙ ap (λ (s : ℕ). metadata_by cached.fields s now) stamp_is ∙ metadata_touched tree number cached parent.node own now
      ∙ ap (λ (o : Option Node). touched o own now) parent.node.there

  parent_entries : AreEntries (metadata_of parent_metadata).acl
  parent_entries = entries_metadata fs formed limited number cached parent.node parent.fit parent_metadata stamp now metadata_is

  pub doable : AreDoable tree edits
  doable = subst (AreDoable tree) (sym list_is)
      (plans.list_doable fs formed counted limited now number encoded node (by_stamp cached.names) parent.node.there content of child_metadata parent_metadata new_metadata size has may entries parent_entries)

  pub after : edited_by fs.volume edits ≡ tree_with fs number encoded.now (first_node of size (metadata_of child_metadata)) now
  after = ap (edited_by fs.volume) list_is
      ∙ plans.list_after fs formed counted limited now number encoded node (by_stamp cached.names) parent.node.there content of child_metadata parent_metadata new_metadata size has

  pub planned : IsTrue (fits fs.volume.limits (edited_by fs.volume edits)) → fs.changes + 1 < 2 ^ 32 → IsPlanned fs edits
  planned fit left = subst (IsPlanned fs) (sym list_is)
      (plans.planned fs formed counted limited now number encoded node (by_stamp cached.names) parent.node.there content of child_metadata parent_metadata new_metadata size has may entries parent_entries
      (ap (λ (l : List Edit). fits fs.volume.limits (edited_by fs.volume l)) (sym list_is) ∙ fit) left)

  -- .. if none of the tests of room and stamps holds
  pub planned_where : first_refusal (room_tests fs (tree_with fs number encoded.now (first_node of size (metadata_of child_metadata)) now)) ≡ None → IsPlanned fs edits
  planned_where passed =
      let wanted = tree_with fs number encoded.now (first_node of size (metadata_of child_metadata)) now in
      let has = passed_room fs wanted passed in
      planned (ap (fits fs.volume.limits) after ∙ has.fit) (ltb-true (fs.changes + 1) (2 ^ 32) has.left)

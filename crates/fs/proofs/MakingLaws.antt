-- One more node and its name, whichever operation makes them: the tree after them is one that the
-- run may have.
use Rattle.std.proofs.Common.{◌≡◌, ◌≢◌, ◌<◌, ◌+◌, ℕ, true, List, [], ◌∷◌, Option, Some, None, refl, sym, ap, ap₂, ◌∙◌, arith, subst, is_some}
use Rattle.std.proofs.Math.Logic.{∥∥₁_map, ∥∥₁_elim}
use Rattle.std.proofs.Props.{props}
use Rattle.std.specs.Prelude.{IsTrue, option_map}
use Rattle.tree_edits.specs.Outlines.{blank, blank_node, without_data, zeros}
use Rattle.tree_edits.proofs.BlankLaws.{at-without_data, without_data-with, without_data-twice, edits_blanked, names-without_data, length-zeros}
use Rattle.model_tree.specs.declared.limits.Limits.{Limits}
use Rattle.model_tree.specs.declared.node.NodeKind.{NodeKind}
use Rattle.model_tree.specs.declared.node.NodeKind.TheVariants as kind
use Rattle.model_tree.specs.Trees.Changes.{touched}
use Rattle.model_tree.specs.Trees.Charge.{fits}
use Rattle.model_tree.specs.Trees.Edit.{Edit, Metadata, PutNode, PutName, Show, edited, altered, altered_at, with_content, name_put, showing}
use Rattle.model_tree.specs.Trees.Keyed.{Keyed, at, with, is_key}
use Rattle.model_tree.specs.Trees.Stamp.{next_stamp}
use Rattle.model_tree.specs.Trees.Tree.{Tree, Node, File, Directory, DirEntry, names_of, names_at, is_directory, is_directory_node, is_directory_at, entry_of}
use Rattle.model_tree.specs.Trees.WellFormed.{IsWellFormed, IsBefore}
use Rattle.model_tree.proofs.Trees.ChangeLaws.{IsChanged, creation_keeps}
use Rattle.model_tree.proofs.Trees.KeyedLaws.{at-with_same, at-with_other}
use Rattle.model_tree.proofs.Facts.OptionLaws.{none_unless}
use Rattle.fs.specs.FileSystem.{FileSystem}
use Rattle.fs.specs.Making.{first_content, first_node, tree_with, MayBeMade}
use Rattle.fs.specs.Ready.{MayStand}
use Rattle.volume.specs.Formed.{IsFormed}
use Rattle.volume.proofs.EditLaws.{fits_alike}

-- a new file has zeros for its bytes already
blank_first : (of : NodeKind) (size : ℕ) → blank (first_content of size) ≡ first_content of size
blank_first kind.File size = ap (λ (n : ℕ). File (zeros n)) (length-zeros size)
blank_first kind.Directory size = refl

no_names : (of : NodeKind) (size : ℕ) → names_of (first_content of size) ≡ []
no_names kind.File size = refl
no_names kind.Directory size = refl

-- The trees that its edits leave one after the other

abbrev pub made_by : (stamp number : ℕ) → (child : Node) → DirEntry → Metadata → List Edit
made_by stamp number child entry metadata = PutNode stamp child ∷ PutName number stamp entry ∷ Show number metadata ∷ []

module _ (tree : Tree) (stamp number : ℕ) (child parent : Node) (entry : DirEntry) (metadata : Metadata) (apart : number ≢ stamp) (there : at number tree ≡ Some parent) where
  abbrev with_child : Tree
  with_child = with tree stamp child

  abbrev named : Node
  named = name_put stamp entry parent

  abbrev with_name : Tree
  with_name = with with_child number named

  abbrev last : Node
  last = showing metadata named

  abbrev with_metadata : Tree
  with_metadata = with with_name number last

  pub parent_there : at number with_child ≡ Some parent
  parent_there = at-with_other tree stamp number child apart ∙ there

  pub named_there : at number with_name ≡ Some named
  named_there = at-with_same with_child number named

  -- so the edits come to these trees
  pub second_is : altered (name_put stamp entry) with_child number ≡ with_name
  second_is = ap (altered_at (name_put stamp entry) with_child number) parent_there

  pub after_is : edited (made_by stamp number child entry metadata) tree ≡ with_metadata
  after_is = ap (λ (t : Tree). altered (showing metadata) t number) second_is ∙ ap (altered_at (showing metadata) with_name number) named_there

module _ (fs : FileSystem) (formed : MayStand fs.volume fs.changes) (now number : ℕ) (name : List ℕ) (parent : Node) (names : Keyed DirEntry)
    (there : at number fs.volume.tree ≡ Some parent) (content : parent.content ≡ Directory names) where
  abbrev limits : Limits
  limits = fs.volume.limits

  abbrev tree : Tree
  tree = fs.volume.tree

  abbrev flat : Tree
  flat = without_data tree

  abbrev pub own : ℕ
  own = next_stamp fs.volume.run fs.changes

  abbrev pub entry : DirEntry
  entry = record { name = name; number = own }

  abbrev pub metadata : Metadata
  metadata = touched (Some parent) own now

  same_blank : blank_node parent ≡ parent
  same_blank = ap (with_content parent) (ap blank content ∙ sym content)

  pub flat_there : at number flat ≡ Some parent
  flat_there = at-without_data tree number ∙ ap (option_map blank_node) there ∙ ap (λ (n : Node). Some n) same_blank

  flat_at : (n : ℕ) (node : Node) → at n tree ≡ Some node → at n flat ≡ Some (blank_node node)
  flat_at n node is = at-without_data tree n ∙ ap (option_map blank_node) is

  pub below : (n : ℕ) → IsTrue (is_key n tree) → n < own
  below n key = by_node (at n tree) refl key
    where
      by_node : (o : Option Node) → at n tree ≡ o → IsTrue (is_some o) → n < own
      by_node None is key = absurd cc
      by_node (Some node) is key = formed.before.number n (blank_node node) (flat_at n node is)

  low : number < own
  low = formed.before.number number parent flat_there

  pub apart : number ≢ own
  apart = (let is = low in omega (arith, is))

  pub high : 0 < own
  high = omega arith

  pub fresh : at own tree ≡ None
  fresh = none_unless (at own tree) (λ node is. (let less = formed.before.number own (blank_node node) (flat_at own node is) in omega (arith, less)))

  pub new_stamp : at own (names_of parent.content) ≡ None
  new_stamp = none_unless (at own (names_of parent.content)) (λ one is. (let less = formed.before.entry number parent own one flat_there is in omega (arith, less)))

  -- A node of this kind, that has this size after the edits

  module _ (of : NodeKind) (size : ℕ) (made : Metadata) where
    abbrev pub child : Node
    child = first_node of size made

    abbrev pub wanted : List Edit
    wanted = made_by own number child entry metadata

    abbrev pub after : Tree
    after = edited wanted tree

    pub after_wanted : tree_with fs number name child now ≡ after
    after_wanted = ap (λ (o : Option Node). edited (made_by own number child entry (touched o own now)) tree) there

    flat_child : blank_node child ≡ child
    flat_child = ap (with_content child) (blank_first of size)

    flat-with : (t : Tree) (n : ℕ) (node : Node) → without_data t ≡ t → blank_node node ≡ node → without_data (with t n node) ≡ with t n node
    flat-with t n node same one = without_data-with t n node ∙ ap₂ (λ (u : Tree) (x : Node). with u n x) same one

    flat_after : without_data (edited wanted flat) ≡ edited wanted flat
    flat_after =
        let is = after_is flat own number child parent entry metadata apart flat_there in
        ap without_data is
        ∙ flat-with (with (with flat own child) number (name_put own entry parent)) number (showing metadata (name_put own entry parent))
        (flat-with (with flat own child) number (name_put own entry parent) (flat-with flat own child (without_data-twice tree) flat_child) refl) refl
        ∙ sym is

    seen : edited wanted flat ≡ without_data after
    seen = sym flat_after ∙ edits_blanked wanted tree

    fits_flat : fits limits (edited wanted flat) ≡ fits limits after
    fits_flat = fits_alike limits after (edited wanted flat) (edits_blanked wanted tree)

    -- The tree after them is one that the run may have

    module _ (may : MayBeMade fs number name child) (fit : fits limits after ≡ true) where
      directory_flat : is_directory_at flat number ≡ true
      directory_flat = ap is_directory_node flat_there ∙ ap is_directory content

      lacks : entry_of name (names_at flat number) ≡ None
      lacks = ap (entry_of name) (names-without_data tree number) ∙ may.new

      keeps : IsWellFormed limits flat → IsChanged limits own flat (edited wanted flat) 0
      keeps well = subst (λ (o : Option Node). IsChanged limits own flat (edited (made_by own number child entry (touched o own now)) flat) 0) flat_there
          (creation_keeps limits flat well own formed.before now number name child directory_flat lacks high may.allowed may.is_node (no_names of size) may.change)

      pub formed_after : IsFormed limits (next_stamp fs.volume.run (fs.changes + 1)) after
      formed_after = record {
        well_formed = ∥∥₁_map formed.well_formed (λ well. subst (IsWellFormed limits) seen ((keeps well).well_formed (fits_flat ∙ fit)));
        before = ∥∥₁_elim formed.well_formed (Prim.hlevel props)
            (λ well. subst (IsBefore (next_stamp fs.volume.run (fs.changes + 1))) seen ((keeps well).before (next_stamp fs.volume.run (fs.changes + 1)) (omega arith)));
      }

-- A file whose size is set, and what it then shows, on the tree with zeros for the bytes of files:
-- the tree after it is one that the run may have.
use Rattle.std.proofs.Common.{◌≡◌, ◌≤◌, ◌<◌, ◌+◌, ℕ, true, false, List, [], ◌∷◌, Some, length, refl, sym, ap, ◌∙◌, arith, subst}
use Rattle.std.proofs.Math.Logic.{∥∥₁_map, ∥∥₁_elim}
use Rattle.std.proofs.Props.{props}
use Rattle.std.specs.Prelude.{option_map, All}
use Rattle.tree_edits.specs.Outlines.{blank, blank_node, without_data, zeros}
use Rattle.tree_edits.proofs.BlankLaws.{at-without_data, without_data-with}
use Rattle.tree_edits.proofs.BlankLaws.{length-zeros}
use Rattle.tree_edits.proofs.FitLaws.{fits-without_data}
use Rattle.model_tree.specs.declared.limits.Limits.{Limits}
use Rattle.model_tree.specs.declared.node.NodeKind.TheVariants as kind
use Rattle.model_tree.specs.Trees.Charge.{fits}
use Rattle.model_tree.specs.Trees.Edit.{Edit, SetSize, Show, Metadata, edited, showing, with_content, resized}
use Rattle.model_tree.specs.Trees.Keyed.{at, with}
use Rattle.model_tree.specs.Trees.Stamp.{next_stamp}
use Rattle.model_tree.specs.Trees.Tree.{Tree, Node, Content, File, Directory, bytes_of, names_of, is_directory}
use Rattle.model_tree.specs.Trees.WellFormed.{IsWellFormed, IsBefore, IsContent, IsNode}
use Rattle.model_tree.proofs.Trees.ChangeLaws.{IsChanged}
use Rattle.model_tree.proofs.Trees.NodeChangeLaws.{altered-twice, length-resized, resized_bytes, replacement_keeps}
use Rattle.fs.specs.FileSystem.{FileSystem}
use Rattle.fs.specs.Planned.{IsList}
use Rattle.fs.specs.Ready.{MayStand}
use Rattle.fs.proofs.FlatWrites.{bytes_blank, resized_zeros}
use Rattle.volume.specs.Formed.{IsFormed}

-- resizing the zeros for a file's bytes gives zeros, as many as resizing the bytes gives bytes
resized_blank : (content : Content) (size : ℕ) → resized (bytes_of (blank content)) size ≡ zeros (length (resized (bytes_of content) size))
resized_blank content size =
    ap (λ (l : List ℕ). resized l size) (bytes_blank content) ∙ resized_zeros (length (bytes_of content)) size
    ∙ ap zeros (sym (length-resized (bytes_of content) size))

no_names : (content : Content) → is_directory content ≡ false → names_of (blank content) ≡ []
no_names (File bytes) file = refl
no_names (Directory names) file = absurd cc

still_file : (content : Content) → is_directory content ≡ false → is_directory (blank content) ≡ false
still_file (File bytes) file = refl
still_file (Directory names) file = absurd cc

few_bytes : (limits : Limits) (content : Content) → is_directory content ≡ false → IsContent limits content
    → All (λ byte. byte < 256) (bytes_of content) × (length (bytes_of content) ≤ limits.file_bytes)
few_bytes limits (File bytes) file is = is
few_bytes limits (Directory names) file is = absurd cc

module _ (fs : FileSystem) (formed : MayStand fs.volume fs.changes) (number : ℕ) (node : Node) (there : at number fs.volume.tree ≡ Some node) (file : is_directory node.content ≡ false)
    (size : ℕ) (low : size ≤ fs.volume.limits.file_bytes) (metadata : Metadata) (stamped : metadata.change ≡ next_stamp fs.volume.run fs.changes)
    (listed : IsWellFormed fs.volume.limits (without_data fs.volume.tree) → IsList fs.volume.limits kind.File metadata.acl) where
  abbrev limits : Limits
  limits = fs.volume.limits

  abbrev tree : Tree
  tree = fs.volume.tree

  abbrev flat : Tree
  flat = without_data tree

  abbrev own : ℕ
  own = next_stamp fs.volume.run fs.changes

  abbrev pub wanted : List Edit
  wanted = SetSize number size ∷ Show number metadata ∷ []

  abbrev pub after : Tree
  after = edited wanted tree

  abbrev sized : Node → Node
  sized old = with_content old (File (resized (bytes_of old.content) size))

  flat_there : at number flat ≡ Some (blank_node node)
  flat_there = at-without_data tree number ∙ ap (option_map blank_node) there

  -- The trees after the edits

  abbrev last : Node
  last = showing metadata (sized node)

  abbrev last_flat : Node
  last_flat = showing metadata (sized (blank_node node))

  after_is : after ≡ with tree number last
  after_is = altered-twice sized (showing metadata) tree number node there

  same_node : last_flat ≡ blank_node last
  same_node = ap (λ (bytes : List ℕ). showing metadata (with_content node (File bytes))) (resized_blank node.content size)

  seen : with flat number last_flat ≡ without_data after
  seen = ap (with flat number) same_node ∙ sym (without_data-with tree number last) ∙ sym (ap without_data after_is)

  fits_flat : fits limits (with flat number last_flat) ≡ fits limits after
  fits_flat = ap (fits limits) seen ∙ fits-without_data limits after

  -- The tree after them is one that the run may have

  module _ (well : IsWellFormed limits flat) where
    was : All (λ byte. byte < 256) (bytes_of (blank node.content)) × (length (bytes_of (blank node.content)) ≤ limits.file_bytes)
    was =
        let is = well.nodes number (blank_node node) flat_there in
        few_bytes limits (blank node.content) (still_file node.content file) is.content

    is_node : IsNode limits last_flat
    is_node = record {
      entries = listed well;
      content = (
        resized_bytes (bytes_of (blank node.content)) size was.0,
        (let count = length-resized (bytes_of (blank node.content)) size in omega (arith, count, low)),
      );
    }

    keeps : IsChanged limits own flat (with flat number last_flat) 0
    keeps = replacement_keeps limits flat well own formed.before number (blank_node node) flat_there last_flat is_node
        (sym (still_file node.content file)) (sym (no_names node.content file)) stamped

    -- the file has few bytes before them
    few_now : length (bytes_of node.content) ≤ limits.file_bytes
    few_now = (let most = was.1 in omega (arith, most, ap (λ (l : List ℕ). length l) (bytes_blank node.content), length-zeros (length (bytes_of node.content))))

  pub formed_after : fits limits after ≡ true → IsFormed limits (next_stamp fs.volume.run (fs.changes + 1)) after
  formed_after fit = record {
    well_formed = ∥∥₁_map formed.well_formed (λ well. subst (IsWellFormed limits) seen ((keeps well).well_formed (fits_flat ∙ fit)));
    before = ∥∥₁_elim formed.well_formed (Prim.hlevel props)
        (λ well. subst (IsBefore (next_stamp fs.volume.run (fs.changes + 1))) seen ((keeps well).before (next_stamp fs.volume.run (fs.changes + 1)) (omega arith)));
  }

  pub small : length (bytes_of node.content) ≤ limits.file_bytes
  small = ∥∥₁_elim formed.well_formed (Prim.hlevel props) few_now

-- Files of the outline and files of cached nodes.
use Rattle.std.proofs.Common.{◌≡◌, ◌≤◌, ◌+◌, ℕ, List, [], Option, length, ap, ◌∙◌, arith}
use Rattle.tree_transaction.specs.Grown.{CanWrite, CanGrow, CanCut, blocks_to}
use Rattle.tree_edits.specs.Edits.{IsFileTo, size_of}
use Rattle.tree_edits.specs.Outlines.{tree_without_data}
use Rattle.tree_edits.proofs.BlankLaws.{overwritten-length}
use Rattle.tree_edits.proofs.PlaceLaws.{IsThere, there_is, file_there}
use Rattle.layout.specs.CachedNodes.{CachedNode, bytes_in, content_of, node_of}
use Rattle.layout.specs.Known.{AreCached}
use Rattle.layout.proofs.StepLaws.{length-bytes_in}
use Rattle.model_tree.specs.declared.node.NodeKind.{NodeKind}
use Rattle.model_tree.specs.declared.node.NodeKind.TheVariants as kind
use Rattle.model_tree.specs.Trees.Charge.{charge, charge_of_blocks, blocks_of}
use Rattle.model_tree.specs.Trees.Edit.{with_content, overwritten}
use Rattle.model_tree.specs.Trees.Keyed.{at}
use Rattle.model_tree.specs.Trees.Tree.{File, bytes_of}

module _ (cached_nodes : List (Option CachedNode)) (nodes : ℕ) (mark : ℕ → ℕ) (known : AreCached nodes mark cached_nodes) (place number end : ℕ) (it : IsThere cached_nodes place number) (file : IsFileTo (tree_without_data cached_nodes) number end) where
  pub is_file : it.cached.fields.kind ≡ kind.File
  is_file = file_there cached_nodes known.apart place number it file.is_file

  size_is : size_of (at number (tree_without_data cached_nodes)) ≡ it.cached.fields.size
  unfolding node_of
  size_is = ap size_of (there_is cached_nodes known.apart place number it)
      ∙ ap (λ (k : NodeKind). length (bytes_of (content_of (λ n. []) k it.cached))) is_file
      ∙ length-bytes_in (λ n. []) it.cached.blocks it.cached.fields.size

  small_there : it.cached.fields.size ≤ 16777216
  small_there = omega (arith, size_is, file.small)

  pub can_write : CanWrite cached_nodes place end
  can_write = record { cached = it.cached; there = it.there; file = is_file; few = small_there; low = file.low }

  pub can_grow : it.cached.fields.size ≤ end → CanGrow cached_nodes place end
  can_grow longer = record { cached = it.cached; there = it.there; file = is_file; longer = longer; few = file.low }

  pub can_cut : end ≤ it.cached.fields.size → CanCut cached_nodes place end
  can_cut shorter = record { cached = it.cached; there = it.there; file = is_file; shorter = shorter; few = small_there }

-- a file that was written over is charged for the blocks that it reaches
pub written_charge : (cached_node : CachedNode) (offset : ℕ) (part : List ℕ) → cached_node.fields.kind ≡ kind.File
    → charge (with_content (node_of (λ n. []) cached_node) (File (overwritten (bytes_of (node_of (λ n. []) cached_node).content) offset part))) ≡ charge_of_blocks (blocks_to (offset + length part) cached_node)
unfolding node_of
written_charge cached_node offset part is = ap (λ (n : ℕ). charge_of_blocks (blocks_of kind.File n))
    (ap (λ (k : NodeKind). length (overwritten (bytes_of (content_of (λ n. []) k cached_node)) offset part)) is
    ∙ omega (arith, overwritten-length (bytes_in (λ n. []) cached_node.blocks cached_node.fields.size) part offset, length-bytes_in (λ n. []) cached_node.blocks cached_node.fields.size))

-- Consecutive edits of one file.
use Rattle.std.proofs.Common.{◌≡◌, ◌+◌, ◌++◌, ℕ, List, Option, Some, None, length, refl, sym, ap, ◌∙◌}
use Rattle.model_tree.specs.Trees.Edit.{altered, altered_at, overwritten, resized, with_content}
use Rattle.model_tree.specs.Trees.Keyed.{at, with}
use Rattle.model_tree.specs.Trees.Tree.{Tree, Node, File, bytes_of}
use Rattle.model_tree.proofs.Trees.NodeChangeLaws.{altered-once, altered-twice}
use Rattle.layout.specs.EditLaws.{EachWriteMeets}
use Rattle.layout.proofs.StepLaws.{written_on, written_grown}

-- two edits of a node that are a third one
one_edit : (f g h : Node → Node) (tree : Tree) (number : ℕ) (found : Option Node) → at number tree ≡ found → ((node : Node) → at number tree ≡ Some node → g (f node) ≡ h node)
    → altered g (altered f tree number) number ≡ altered h tree number
one_edit f g h tree number None is same =
    ap (λ (t : Tree). altered g t number) (ap (altered_at f tree number) is) ∙ ap (altered_at g tree number) is ∙ sym (ap (altered_at h tree number) is)
one_edit f g h tree number (Some node) is same =
    altered-twice f g tree number node is ∙ ap (with tree number) (same node is) ∙ sym (altered-once h tree number node is)

abbrev writing : (offset : ℕ) → List ℕ → Node → Node
writing offset part node = with_content node (File (overwritten (bytes_of node.content) offset part))

abbrev sizing : (size : ℕ) → Node → Node
sizing size node = with_content node (File (resized (bytes_of node.content) size))

pub each_write_meets : EachWriteMeets
each_write_meets tree number offset = record {
  on = λ prefix part.
      one_edit (writing offset prefix) (writing (offset + length prefix) part) (writing offset (prefix ++ part)) tree number (at number tree) refl
      (λ node is. ap (λ (bytes : List ℕ). with_content node (File bytes)) (written_on (bytes_of node.content) offset prefix part));
  grown = λ node size part is longer within.
      altered-twice (sizing size) (writing offset part) tree number node is
      ∙ ap (λ (bytes : List ℕ). with tree number (with_content node (File bytes))) (written_grown (bytes_of node.content) offset part size longer within)
      ∙ sym (altered-once (writing offset part) tree number node is);
}

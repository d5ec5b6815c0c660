-- What a volume shows of its tree: all but the bytes of its files. What it returns without its
-- device depends only on that.
use Rattle.std.specs.Prelude.{◌≡◌, ℕ, List, None}
use Rattle.tree_edits.specs.Outlines.{without_data}
use Rattle.layout.specs.CachedNodes.{CachedNode}
use Rattle.model_tree.specs.declared.limits.Limits.{Limits}
use Rattle.model_tree.specs.Trees.Ancestors.{is_below, parent_of}
use Rattle.model_tree.specs.Trees.Charge.{fits}
use Rattle.model_tree.specs.Trees.Edit.{Edit, edited}
use Rattle.model_tree.specs.Trees.Keyed.{at}
use Rattle.model_tree.specs.Trees.Tree.{Tree}
use Rattle.volume.specs.Nodes.{IsNodeOf}

-- it is shown as this tree is
abbrev pub ShowsAs : Tree → Tree → Type 0
ShowsAs tree shown = without_data shown ≡ without_data tree

-- the calls of a volume return the same for both
pub record AnswerAlike (tree shown : Tree) : Type 0 where
  pub node : (number : ℕ) (cached : CachedNode) → IsNodeOf tree number cached
      → IsNodeOf shown number cached
  pub none : (number : ℕ) → at number tree ≡ None → at number shown ≡ None
  pub parent : (number : ℕ) → parent_of shown number ≡ parent_of tree number
  pub below : (upper number : ℕ) → is_below shown upper number ≡ is_below tree upper number
  pub fits : (limits : Limits) (edits : List Edit)
      → fits limits (edited edits shown) ≡ fits limits (edited edits tree)

-- The law
abbrev pub AnswersByShown : Type 0
AnswersByShown = (tree shown : Tree) → ShowsAs tree shown → AnswerAlike tree shown

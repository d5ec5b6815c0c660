-- Consecutive edits of one file.
use Rattle.std.specs.Prelude.{◌≡◌, ◌≤◌, ◌+◌, ◌++◌, ℕ, List, Some, max, length}
use Rattle.model_tree.specs.Trees.Edit.{PutBytes, SetSize, done}
use Rattle.model_tree.specs.Trees.Keyed.{at}
use Rattle.model_tree.specs.Trees.Tree.{Tree, Node, bytes_of}

-- two consecutive parts are one part, and a write over a file that has grown no further than the
-- end of the write is just that write
pub record WritesMeet (tree : Tree) (number offset : ℕ) : Type 0 where
  pub on : (prefix part : List ℕ)
      → done (PutBytes number (offset + length prefix) part)
      (done (PutBytes number offset prefix) tree)
      ≡ done (PutBytes number offset (prefix ++ part)) tree
  pub grown : (node : Node) (size : ℕ) (part : List ℕ) → at number tree ≡ Some node
      → length (bytes_of node.content) ≤ size
      → size ≤ max (length (bytes_of node.content)) (offset + length part)
      → done (PutBytes number offset part) (done (SetSize number size) tree)
      ≡ done (PutBytes number offset part) tree

abbrev pub EachWriteMeets : Type 0
EachWriteMeets = (tree : Tree) (number offset : ℕ) → WritesMeet tree number offset

-- What memory knows of a tree on any device, its outline: everything except what the bytes of its
-- files are.
use Rattle.std.specs.Prelude.{◌≡◌, ℕ, List, [], ◌∷◌, Option, length, replicate}
use Rattle.disk.specs.Moments.{Image}
use Rattle.model_tree.specs.Trees.Edit.{Edit, edited, with_content}
use Rattle.model_tree.specs.Trees.Tree.{Tree, Node, Content, File, Directory}
use Rattle.layout.specs.CachedNodes.{CachedNode, tree_of}

abbrev pub zeros : ℕ → List ℕ
zeros count = replicate count 0

-- a zero for each byte of a file
abbrev pub blank : Content → Content
blank (File bytes) = File (zeros (length bytes))
blank (Directory names) = Directory names

abbrev pub blank_node : Node → Node
blank_node node = with_content node (blank node.content)

-- the tree with zeros for the bytes of its files
abbrev pub without_data : Tree → Tree
without_data [] = []
without_data (entry ∷ rest) = (entry.0, blank_node entry.1) ∷ without_data rest

-- the tree of cached nodes with zeros for the bytes of its files: that of sectors without content
abbrev pub tree_without_data : List (Option CachedNode) → Tree
tree_without_data cached_nodes = tree_of (λ n. []) cached_nodes

-- which every tree of these cached nodes is, with zeros for the bytes of its files
abbrev pub EachOutline : Type 0
EachOutline = (image : Image) (cached_nodes : List (Option CachedNode))
    → without_data (tree_of image cached_nodes) ≡ tree_without_data cached_nodes

-- trees with zeros are edited alike
abbrev pub EditsBlanked : Type 0
EditsBlanked = (edits : List Edit) (tree : Tree)
    → without_data (edited edits (without_data tree)) ≡ without_data (edited edits tree)

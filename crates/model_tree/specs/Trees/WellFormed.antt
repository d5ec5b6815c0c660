-- What makes a tree well formed. RFC 8881 leaves most of it to the server: sections 4.2
-- (filehandles), 5.8.2 (numlinks) and 14 (names); every node except the root has exactly one name,
-- as there are no hard links.
use Rattle.std.specs.Prelude.{ℕ, Bool, true, false, List, Some, None, ◌≡◌, ◌<◌, ◌≤◌, ◌==◌, ◌&&◌, not, IsTrue, All, length, bytes_eq}
use Rattle.model_tree.specs.Rights.Acl.{is_list_for}
use Rattle.model_tree.specs.Trees.Charge.{fits}
use Rattle.model_tree.specs.Trees.Keyed.{Keyed, at, is_key, IsAbove, total}
use Rattle.model_tree.specs.Trees.Limits.{Limits}
use Rattle.model_tree.specs.Refusals.Name.{name_refusals}
use Rattle.model_tree.specs.Refusals.Refusal.{first_refusal}
use Rattle.model_tree.specs.Trees.Tree.{Tree, Node, Content, File, Directory, DirEntry, root, kind_of, names_of, names_at, is_directory_at}

-- Counts

abbrev pub one_if : Bool → ℕ
one_if true = 1
one_if false = 0

-- how many names of a directory, and of the whole tree, lead to a number
abbrev pub links_in : (number : ℕ) → Keyed DirEntry → ℕ
links_in number names = total (λ entry. one_if (entry.number == number)) names

abbrev pub links_from : (number : ℕ) → Node → ℕ
links_from number node = links_in number (names_of node.content)

abbrev pub links_to : Tree → (number : ℕ) → ℕ
links_to tree number = total (links_from number) tree

-- how many there must be: one for each node, but none for the root or for a number that no node has
abbrev pub links_owed : Tree → (number : ℕ) → ℕ
links_owed tree number = one_if (is_key number tree && not (number == root))

-- how many directories have an entry of this stamp
abbrev pub is_stamped : (stamp : ℕ) → Node → ℕ
is_stamped stamp node = one_if (is_key stamp (names_of node.content))

abbrev pub stamped_in : Tree → (stamp : ℕ) → ℕ
stamped_in tree stamp = total (is_stamped stamp) tree

-- how many names of a directory are this one
abbrev pub times_named : (name : List ℕ) → Keyed DirEntry → ℕ
times_named name names = total (λ entry. one_if (bytes_eq name entry.name)) names

-- Reached from a node: the node, and what a name in a reached directory leads to
pub data IsFrom (tree : Tree) (start : ℕ) : ℕ → Type 0 where
  Start : IsFrom tree start start
  Named : (directory stamp : ℕ) (entry : DirEntry) → IsFrom tree start directory
      → at stamp (names_at tree directory) ≡ Some entry
      → IsFrom tree start entry.number

-- One node

-- entry stamps are above 0 and rise; each name passes the tests of names and occurs once
pub record AreNames (limits : Limits) (names : Keyed DirEntry) : Type 0 where
  pub rising : IsAbove 0 names
  pub named : (stamp : ℕ) (entry : DirEntry) → at stamp names ≡ Some entry
      → first_refusal (name_refusals limits entry.name) ≡ None
  pub once : (name : List ℕ) → times_named name names ≤ 1

abbrev pub IsContent : Limits → Content → Type 0
IsContent limits (File bytes) = All (λ byte. byte < 256) bytes × (length bytes ≤ limits.file_bytes)
IsContent limits (Directory names) = AreNames limits names

pub record IsNode (limits : Limits) (node : Node) : Type 0 where
  pub entries : IsTrue (is_list_for limits.aces_set limits.aces (kind_of node.content) node.acl)
  pub content : IsContent limits node.content

-- The tree
pub record IsWellFormed (limits : Limits) (tree : Tree) : Type 0 where
  pub numbered : IsAbove 0 tree
  pub rooted : IsTrue (is_directory_at tree root)
  pub linked : (number : ℕ) → links_to tree number ≡ links_owed tree number
  pub reached : (number : ℕ) → IsTrue (is_key number tree) → IsFrom tree root number
  pub stamped : (stamp : ℕ) → stamped_in tree stamp ≤ 1
  pub nodes : (number : ℕ) (node : Node) → at number tree ≡ Some node → IsNode limits node
  pub fitting : IsTrue (fits limits tree)

-- Every stamp in the tree is below this one: node numbers, change values and entry stamps
pub record IsBefore (stamp : ℕ) (tree : Tree) : Type 0 where
  pub number : (number : ℕ) (node : Node) → at number tree ≡ Some node → number < stamp
  pub change : (number : ℕ) (node : Node) → at number tree ≡ Some node → node.change < stamp
  pub entry : (number : ℕ) (node : Node) (of : ℕ) (entry : DirEntry) → at number tree ≡ Some node
      → at of (names_of node.content) ≡ Some entry → of < stamp

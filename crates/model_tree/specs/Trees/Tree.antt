-- The tree of files and directories: RFC 8881, sections 1.8.2 (objects), 4 (filehandles) and 5
-- (attributes).
use Rattle.std.specs.Prelude.{ℕ, Bool, true, false, List, [], ◌∷◌, Option, Some, None, bytes_eq, is_some}
use Rattle.model_tree.specs.declared.acl.Ace.{Ace}
use Rattle.model_tree.specs.declared.node.NodeKind.{NodeKind}
use Rattle.model_tree.specs.declared.node.NodeKind.TheVariants as kind
use Rattle.model_tree.specs.Trees.Keyed.{Keyed, at}

-- a name in a directory: its bytes, and the number of the node that it leads to
pub record DirEntry : Type 0 where
  pub name : List ℕ
  pub number : ℕ

-- a file's bytes, or a directory's names by their entry stamps
pub data Content : Type 0 where
  File : List ℕ → Content
  Directory : Keyed DirEntry → Content

pub record Node : Type 0 where
  pub owner : ℕ
  pub group : ℕ
  pub acl : List Ace
  pub change : ℕ
  pub time_modify : ℕ  -- nanoseconds since 1970
  pub content : Content

-- the nodes by their numbers
abbrev pub Tree : Type 0
Tree = Keyed Node

-- the root's number
abbrev pub root : ℕ
root = 1

-- Content

abbrev pub kind_of : Content → NodeKind
kind_of (File bytes) = kind.File
kind_of (Directory names) = kind.Directory

abbrev pub is_directory : Content → Bool
is_directory (File bytes) = false
is_directory (Directory names) = true

abbrev pub bytes_of : Content → List ℕ
bytes_of (File bytes) = bytes
bytes_of (Directory names) = []

abbrev pub names_of : Content → Keyed DirEntry
names_of (File bytes) = []
names_of (Directory names) = names

-- Nodes by number: a number that no node has is not a directory, and has no bytes and no names

abbrev pub bytes_of_node : Option Node → List ℕ
bytes_of_node None = []
bytes_of_node (Some node) = bytes_of node.content

abbrev pub bytes_at : Tree → (number : ℕ) → List ℕ
bytes_at tree number = bytes_of_node (at number tree)

abbrev pub names_of_node : Option Node → Keyed DirEntry
names_of_node None = []
names_of_node (Some node) = names_of node.content

abbrev pub is_directory_node : Option Node → Bool
is_directory_node None = false
is_directory_node (Some node) = is_directory node.content

abbrev pub is_directory_at : Tree → (number : ℕ) → Bool
is_directory_at tree number = is_directory_node (at number tree)

abbrev pub names_at : Tree → (number : ℕ) → Keyed DirEntry
names_at tree number = names_of_node (at number tree)

-- Names in a directory

abbrev pub found_or : Bool → (ℕ × DirEntry) → Option (ℕ × DirEntry) → Option (ℕ × DirEntry)
found_or true entry others = Some entry
found_or false entry others = others

-- the entry of this name, with its stamp
abbrev pub entry_of : List ℕ → Keyed DirEntry → Option (ℕ × DirEntry)
entry_of name [] = None
entry_of name (entry ∷ rest) = found_or (bytes_eq name entry.1.name) entry (entry_of name rest)

-- the number that a name leads to, or 0, which no node has, if the directory lacks it
abbrev pub number_of_entry : Option (ℕ × DirEntry) → ℕ
number_of_entry None = 0
number_of_entry (Some entry) = entry.1.number

abbrev pub number_named : Tree → (directory : ℕ) → (name : List ℕ) → ℕ
number_named tree directory name = number_of_entry (entry_of name (names_at tree directory))

abbrev pub is_named : Tree → (directory : ℕ) → (name : List ℕ) → Bool
is_named tree directory name = is_some (entry_of name (names_at tree directory))

-- The edits of each change of names: RFC 8881, sections 18.4 (CREATE), 18.25 (REMOVE) and 18.26
-- (RENAME). Drops come before puts.
use Rattle.std.specs.Prelude.{ℕ, List, [], ◌∷◌, ◌++◌, Option, Some, None, ◌≡◌, ◌⊎◌, IsTrue}
use Rattle.model_tree.specs.Trees.Edit.{Metadata, Edit, PutNode, DropNode, Show, PutName, DropName}
use Rattle.model_tree.specs.Trees.Keyed.{at, is_key}
use Rattle.model_tree.specs.Trees.Tree.{Tree, Node, DirEntry, names_at, entry_of}
use Rattle.model_tree.specs.declared.acl.Ace.{Ace}

abbrev pub acl_of : Option Node → List Ace
acl_of None = []
acl_of (Some node) = node.acl

abbrev pub owner_of : Option Node → ℕ
owner_of None = 0
owner_of (Some node) = node.owner

abbrev pub group_of : Option Node → ℕ
group_of None = 0
group_of (Some node) = node.group

-- the metadata of a node whose content a change alters, and the edit that sets it
abbrev pub touched : Option Node → (stamp now : ℕ) → Metadata
touched node stamp now = record {
  owner = owner_of node;
  group = group_of node;
  acl = acl_of node;
  change = stamp;
  time_modify = now;
}

abbrev pub touch : Tree → (number stamp now : ℕ) → Edit
touch tree number stamp now = Show number (touched (at number tree) stamp now)

-- a new node whose number is the change's stamp, and its name
abbrev pub made_edits : Tree → (directory : ℕ) → (name : List ℕ) → Node → (stamp now : ℕ)
    → List Edit
made_edits tree directory name node stamp now =
    PutNode stamp node ∷ PutName directory stamp (record { name = name; number = stamp })
    ∷ touch tree directory stamp now ∷ []

-- an entry is removed, and the node that it leads to
abbrev pub removal : (directory : ℕ) → Option (ℕ × DirEntry) → List Edit
removal directory None = []
removal directory (Some entry) = DropName directory entry.0 ∷ DropNode entry.1.number ∷ []

abbrev pub removed_edits : Tree → (directory : ℕ) → (name : List ℕ) → (stamp now : ℕ) → List Edit
removed_edits tree directory name stamp now =
    removal directory (entry_of name (names_at tree directory))
    ++ (touch tree directory stamp now ∷ [])

-- the node that an entry leads to gets another name in place of this one
abbrev pub moving : (from to : ℕ) → Option (ℕ × DirEntry) → (new_name : List ℕ) → (stamp : ℕ)
    → List Edit
moving from to None new_name stamp = []
moving from to (Some entry) new_name stamp =
    DropName from entry.0 ∷ PutName to stamp (record { name = new_name; number = entry.1.number })
    ∷ []

abbrev pub renamed_edits : Tree → (from to : ℕ) → (old_name new_name : List ℕ) → (stamp now : ℕ)
    → List Edit
renamed_edits tree from to old_name new_name stamp now =
    removal to (entry_of new_name (names_at tree to))
    ++ (moving from to (entry_of old_name (names_at tree from)) new_name stamp
    ++ (touch tree from stamp now ∷ touch tree to stamp now ∷ []))

-- After a change, everything is the old tree's or has the change's stamp: each node is the old one
-- or has the stamp as its change value, each number is old or the stamp, and so is each entry's
-- stamp
pub record IsStamped (stamp : ℕ) (tree after : Tree) : Type 0 where
  pub node : (number : ℕ) (node : Node) → at number after ≡ Some node
      → (at number tree ≡ Some node)
      ⊎ ((node.change ≡ stamp) × (IsTrue (is_key number tree) ⊎ (number ≡ stamp)))
  pub entry : (number of : ℕ) (entry : DirEntry) → at of (names_at after number) ≡ Some entry
      → (at of (names_at tree number) ≡ Some entry) ⊎ (of ≡ stamp)

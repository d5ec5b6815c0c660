-- What the checks of cached nodes say about the tree that they represent.
use Rattle.std.specs.Prelude.{◌≡◌, ◌≤◌, ◌↔◌, ◌<◌, ◌&&◌, nat_le, ℕ, List, [], Option, Some, All, IsTrue}
use Rattle.disk.specs.Moments.{Image}
use Rattle.node_table.specs.Tables.{charge_of_all, count_of_all}
use Rattle.model_tree.specs.declared.limits.Limits.{Limits}
use Rattle.model_tree.specs.Trees.Charge.{few_names, fits}
use Rattle.model_tree.specs.Trees.Keyed.{at, is_key}
use Rattle.model_tree.specs.Trees.Tree.{Tree, Node, root, is_directory_at}
use Rattle.model_tree.specs.Trees.WellFormed.{links_to, links_owed, stamped_in, IsBefore, IsFrom, IsNode, IsWellFormed}
use Rattle.layout.specs.CachedNodes.{CachedNode, tree_of}
use Rattle.layout.specs.Known.{AreCached}
use Rattle.layout.specs.Laid.{AreLaid}
use Rattle.tree_check.specs.Ages.{AreBefore}
use Rattle.tree_check.specs.Nodes.{AreNodesAllowed}
use Rattle.tree_check.specs.Stamps.{AreStampsApart}
use Rattle.tree_check.specs.Trees.{IsOneTree}
use Rattle.tree_check.specs.WellFormed.{AreWellFormed}

-- three clauses of a well-formed tree: there is a root, each other node has one name, and each node
-- is reached
pub record IsLinked (tree : Tree) : Type 0 where
  pub rooted : IsTrue (is_key root tree)
  pub linked : (number : ℕ) → links_to tree number ≡ links_owed tree number
  pub reached : (number : ℕ) → IsTrue (is_key number tree) → IsFrom tree root number

abbrev pub EachWalk : Type 0
EachWalk =
    (nodes : ℕ) (image : Image) (mark : ℕ → ℕ) (cached_nodes : List (Option CachedNode))
    → AreLaid nodes image mark cached_nodes
    → IsOneTree cached_nodes ↔ IsLinked (tree_of image cached_nodes)

-- and another: no stamp is in two directories
abbrev pub EachStamp : Type 0
EachStamp =
    (nodes : ℕ) (image : Image) (mark : ℕ → ℕ) (cached_nodes : List (Option CachedNode))
    → AreLaid nodes image mark cached_nodes
    → AreStampsApart cached_nodes ↔
    ((stamp : ℕ) → stamped_in (tree_of image cached_nodes) stamp ≤ 1)

-- and all of its stamps are from before one exactly if those of the nodes are
abbrev pub EachAge : Type 0
EachAge =
    (nodes : ℕ) (image : Image) (mark : ℕ → ℕ) (cached_nodes : List (Option CachedNode))
    → AreLaid nodes image mark cached_nodes
    → (stamp : ℕ) → AreBefore stamp cached_nodes ↔ IsBefore stamp (tree_of image cached_nodes)

-- The tree fits exactly if the nodes' charges and their count do, and no directory has too many
-- names
abbrev pub EachFit : Type 0
EachFit =
    (nodes : ℕ) (image : Image) (mark : ℕ → ℕ) (cached_nodes : List (Option CachedNode))
    → AreLaid nodes image mark cached_nodes
    → (limits : Limits)
    → fits limits (tree_of image cached_nodes)
    ≡ (nat_le (charge_of_all cached_nodes) limits.data_sectors && (nat_le
    (count_of_all cached_nodes) limits.nodes && few_names limits.names
    (tree_of image cached_nodes)))

-- if the sectors that nodes name hold bytes, the rest: the limits allow each node, no directory has
-- too many names, and the root is a directory

abbrev pub HoldBytes : Image → (mark : ℕ → ℕ) → Type 0
HoldBytes image mark = (n : ℕ) → 0 < mark n → All (λ byte. byte < 256) (image n)

pub record HasAllowedNodes (limits : Limits) (tree : Tree) : Type 0 where
  pub nodes : (number : ℕ) (node : Node) → at number tree ≡ Some node → IsNode limits node
  pub few : IsTrue (few_names limits.names tree)
  pub rooted : IsTrue (is_directory_at tree root)

abbrev pub EachNode : Type 0
EachNode = (nodes : ℕ) (image : Image) (mark : ℕ → ℕ) (cached_nodes : List (Option CachedNode))
    → AreLaid nodes image mark cached_nodes → HoldBytes image mark → (limits : Limits)
    → AreNodesAllowed limits cached_nodes ↔ HasAllowedNodes limits (tree_of image cached_nodes)

-- So all of it together decides whether the tree is well formed, and from before a stamp
abbrev pub EachTree : Type 0
EachTree = (nodes : ℕ) (image : Image) (mark : ℕ → ℕ) (cached_nodes : List (Option CachedNode))
    → AreLaid nodes image mark cached_nodes → HoldBytes image mark
    → (limits : Limits) → (stamp : ℕ)
    → AreWellFormed limits stamp cached_nodes
    ↔ (IsWellFormed limits (tree_of image cached_nodes)
    × IsBefore stamp (tree_of image cached_nodes))

-- It also decides this for cached nodes that are known whatever the sectors hold: then it is the
-- tree with zeros for the bytes of files, as sectors without content give it
abbrev pub EachKnownTree : Type 0
EachKnownTree = (nodes : ℕ) (mark : ℕ → ℕ) (cached_nodes : List (Option CachedNode))
    → AreCached nodes mark cached_nodes
    → (limits : Limits) → (stamp : ℕ)
    → AreWellFormed limits stamp cached_nodes
    ↔ (IsWellFormed limits (tree_of (λ n. []) cached_nodes)
    × IsBefore stamp (tree_of (λ n. []) cached_nodes))

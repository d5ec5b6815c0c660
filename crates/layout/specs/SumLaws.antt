-- Sums over the tree are sums over the cached nodes: what the nodes are charged, how many they are,
-- and how many names lead to a number.
use Rattle.std.specs.Prelude.{◌≡◌, ◌+◌, ◌==◌, ◌<◌, ◌++◌, ℕ, List, [], ◌∷◌, Option, Some, None, All, map, length, if◌then◌else◌}
use Rattle.disk.specs.Moments.{Image}
use Rattle.directory.specs.Listing.{by_stamp}
use Rattle.directory.specs.Records.{Record, NamesStamped}
use Rattle.model_tree.specs.Trees.Charge.{charge, charge_of_blocks}
use Rattle.model_tree.specs.Trees.Keyed.{total}
use Rattle.model_tree.specs.Trees.Tree.{Node, DirEntry, root}
use Rattle.model_tree.specs.Trees.WellFormed.{links_to, links_owed}
use Rattle.layout.specs.CachedNodes.{CachedNode, tree_of, node_of, bytes_in}
use Rattle.layout.specs.Laid.{AreLaid}
use Rattle.layout.specs.Marks.{times}

abbrev pub sum_over : (CachedNode → ℕ) → List (Option CachedNode) → ℕ
sum_over worth [] = 0
sum_over worth (None ∷ cached_nodes) = sum_over worth cached_nodes
sum_over worth (Some cached ∷ cached_nodes) = worth cached + sum_over worth cached_nodes

-- the numbers that names lead to
abbrev pub numbers_of : List Record → List ℕ
numbers_of names = map (λ entry. entry.1.number) names

abbrev pub entry_numbers : List (Option CachedNode) → List ℕ
entry_numbers [] = []
entry_numbers (None ∷ cached_nodes) = entry_numbers cached_nodes
entry_numbers (Some cached ∷ cached_nodes) = numbers_of cached.names ++ entry_numbers cached_nodes

-- the numbers of the nodes except the root
abbrev pub other_numbers : List (Option CachedNode) → List ℕ
other_numbers [] = []
other_numbers (None ∷ cached_nodes) = other_numbers cached_nodes
other_numbers (Some cached ∷ cached_nodes) =
    if cached.fields.number == root
    then other_numbers cached_nodes
    else cached.fields.number ∷ other_numbers cached_nodes

abbrev pub NamesTotal : Type 0
NamesTotal =
    (worth : DirEntry → ℕ) (names : List Record) → NamesStamped names
    → total worth (by_stamp names) ≡ total worth names

pub record Sums (image : Image) (cached_nodes : List (Option CachedNode)) : Type 0 where
  pub any : (worth : Node → ℕ)
      → total worth (tree_of image cached_nodes)
      ≡ sum_over (λ cached. worth (node_of image cached)) cached_nodes
  pub charges : total charge (tree_of image cached_nodes)
      ≡ sum_over (λ cached. charge_of_blocks (length cached.blocks)) cached_nodes
  pub nodes : length (tree_of image cached_nodes) ≡ sum_over (λ cached. 1) cached_nodes

abbrev pub EachSum : Type 0
EachSum =
    (nodes : ℕ) (image : Image) (mark : ℕ → ℕ) (cached_nodes : List (Option CachedNode))
    → AreLaid nodes image mark cached_nodes
    → Sums image cached_nodes

-- so each node has the one name that it is owed exactly if each number occurs as often among those
-- that names lead to as among those of the nodes except the root
pub record Links (image : Image) (cached_nodes : List (Option CachedNode))
    (number : ℕ) : Type 0 where
  pub to : links_to (tree_of image cached_nodes) number ≡ times number (entry_numbers cached_nodes)
  pub owed : links_owed (tree_of image cached_nodes) number
      ≡ times number (other_numbers cached_nodes)

abbrev pub EachLink : Type 0
EachLink =
    (nodes : ℕ) (image : Image) (mark : ℕ → ℕ) (cached_nodes : List (Option CachedNode))
    → AreLaid nodes image mark cached_nodes
    → (number : ℕ) → Links image cached_nodes number

-- if sectors hold bytes, a file's content is bytes
abbrev pub BytesFit : Type 0
BytesFit =
    (image : Image) (blocks : List (Option ℕ)) (size : ℕ)
    → ((n : ℕ) → All (λ byte. byte < 256) (image n))
    → All (λ byte. byte < 256) (bytes_in image blocks size)

-- How much of the volume's data region a node takes, and when a tree fits: this server's profile;
-- NFS4ERR_NOSPC of RFC 8881, section 15.1.4.
use Rattle.std.specs.Prelude.{ℕ, Bool, true, [], ◌∷◌, ◌+◌, ◌/◌, ◌&&◌, nat_le, length, ◌-◌}
use Rattle.model_tree.specs.declared.node.NodeKind.{NodeKind}
use Rattle.model_tree.specs.declared.node.NodeKind.TheVariants as kind
use Rattle.model_tree.specs.Trees.Keyed.{total}
use Rattle.model_tree.specs.Trees.Limits.{Limits}
use Rattle.model_tree.specs.Trees.Tree.{Tree, Node, Content, File, Directory, names_of}

-- a number divided, rounded up
abbrev pub divided_up : (n by : ℕ) → ℕ
divided_up n by = (n + (by - 1)) / by

-- the sectors for `size` bytes (4,096 each) or `size` names (15 each); holes count
abbrev pub blocks_of : NodeKind → (size : ℕ) → ℕ
blocks_of kind.File size = divided_up size 4096
blocks_of kind.Directory size = divided_up size 15

abbrev pub blocks : Content → ℕ
blocks (File bytes) = blocks_of kind.File (length bytes)
blocks (Directory names) = blocks_of kind.Directory (length names)

-- those, and one more for each 500 of them, which records where they are
abbrev pub charge_of_blocks : ℕ → ℕ
charge_of_blocks count = count + divided_up count 500

abbrev pub charge : Node → ℕ
charge node = charge_of_blocks (blocks node.content)

abbrev pub few_names : (most : ℕ) → Tree → Bool
few_names most [] = true
few_names most (entry ∷ rest) =
    nat_le (length (names_of entry.1.content)) most && few_names most rest

-- the charges add up to at most the data region, the nodes are within their limit, and no directory
-- has too many names
unfoldable pub fits : Limits → Tree → Bool
fits limits tree = nat_le (total charge tree) limits.data_sectors
    && (nat_le (length tree) limits.nodes && few_names limits.names tree)

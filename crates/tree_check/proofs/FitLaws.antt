-- The sums over the cached nodes decide whether a tree with few names in each directory fits.
use Rattle.std.proofs.Common.{◌≡◌, ◌≤◌, ◌&&◌, ℕ, Bool, true, false, List, [], ◌∷◌, Option, Some, length, eqb, IsTrue, refl, subst, ap₂, ◌∙◌, arith}
use Rattle.std.proofs.lemmas.Bool.{and_parts, le-leb, leb-true}
use Rattle.std.specs.Prelude.{nat_le}
use Rattle.node_table.specs.Tables.{charge_of_all, count_of_all}
use Rattle.disk.specs.Moments.{Image}
use Rattle.model_tree.specs.declared.limits.Limits.{Limits}
use Rattle.model_tree.specs.Trees.Charge.{fits, few_names}
use Rattle.model_tree.specs.Trees.Keyed.{at, here_or, IsAbove}
use Rattle.model_tree.specs.Trees.Tree.{Tree, Node, names_of}
use Rattle.model_tree.proofs.Trees.KeyedLaws.{at-above, at-first, at-rest}
use Rattle.layout.specs.CachedNodes.{CachedNode, tree_of}
use Rattle.layout.specs.Known.{AreCached}
use Rattle.layout.proofs.Knowing.{laid_are_cached_nodes}
use Rattle.layout.proofs.Summing.{known_sum}
use Rattle.tree_check.specs.ShapeLaws.{EachFit}

-- no directory has too many names if no node of the tree has too many
pub few-from : (most least : ℕ) (entries : Tree) → IsAbove least entries → ((n : ℕ) (node : Node) → at n entries ≡ Some node → length (names_of node.content) ≤ most) → few_names most entries ≡ true
few-from most least [] above each = refl
few-from most least (entry ∷ rest) above each =
    let here = each entry.0 entry.1 (at-first entry.0 entry.0 entry.1 rest refl) in
    ap₂ (λ a b. a && b) (le-leb (length (names_of entry.1.content)) most here)
    (few-from most entry.0 rest above.1 (λ n node e.
    let behind = at-above rest entry.0 n node above.1 e in
    each n node (at-rest entry.0 n entry.1 rest (λ same. omega arith) ∙ e)))

-- and if no directory has too many names, no node has
pub few-at : (most : ℕ) (entries : Tree) (number : ℕ) (node : Node) → IsTrue (few_names most entries) → at number entries ≡ Some node → length (names_of node.content) ≤ most
few-at most [] number node few there = absurd cc
few-at most (entry ∷ rest) number node few there = by_key (few-at most rest number node parts.1) (eqb number entry.0) there
  where
    some_is : (a b : Node) → (let one : Option Node = Some a in one ≡ Some b) → a ≡ b
    some_is a b e = cc

    parts : (nat_le (length (names_of entry.1.content)) most ≡ true) × (few_names most rest ≡ true)
    parts = and_parts (nat_le (length (names_of entry.1.content)) most) (few_names most rest) few

    by_key : (at number rest ≡ Some node → length (names_of node.content) ≤ most) → (same : Bool) → here_or same entry.1 (at number rest) ≡ Some node → length (names_of node.content) ≤ most
    by_key later true here = subst (λ (n : Node). length (names_of n.content) ≤ most) (some_is entry.1 node here) (leb-true (length (names_of entry.1.content)) most parts.0)
    by_key later false behind = later behind

pub known_fit : (nodes : ℕ) (image : Image) (mark : ℕ → ℕ) (cached_nodes : List (Option CachedNode)) → AreCached nodes mark cached_nodes → (limits : Limits)
    → fits limits (tree_of image cached_nodes)
    ≡ (nat_le (charge_of_all cached_nodes) limits.data_sectors && (nat_le (count_of_all cached_nodes) limits.nodes && few_names limits.names (tree_of image cached_nodes)))
unfolding fits
known_fit nodes image mark cached_nodes known limits =
    let sums = known_sum nodes mark cached_nodes known image in
    ap₂ (λ charge count. nat_le charge limits.data_sectors && (nat_le count limits.nodes && few_names limits.names (tree_of image cached_nodes))) sums.charges sums.nodes

pub each_fit : EachFit
each_fit nodes image mark cached_nodes laid = known_fit nodes image mark cached_nodes (laid_are_cached_nodes nodes image mark cached_nodes laid)

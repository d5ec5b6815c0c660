-- What outlines are charged for.
use Rattle.std.proofs.Common.{◌≡◌, ◌+◌, ℕ, suc, List, [], ◌∷◌, Option, Some, None, length, refl, ap, arith}
use Rattle.node_table.specs.Tables.{AreTaken, charge_of, charge_of_all, count_of_all}
use Rattle.tree_transaction.specs.declared.transaction.Transaction.{Transaction}
use Rattle.tree_transaction.specs.Transactions.{cached_nodes_of, IsKnown, IsOvercharged}
use Rattle.tree_edits.specs.Doing.{FitsOn, Overfills}
use Rattle.tree_edits.specs.declared.edit.Edit.TheVariants as declared
use Rattle.tree_edits.specs.Edits.{fresh_node}
use Rattle.tree_transaction.specs.declared.nodes.Metadata.{Metadata}
use Rattle.tree_transaction.specs.Nodes.{metadata_of}
use Rattle.tree_edits.specs.Outlines.{tree_without_data}
use Rattle.tree_edits.proofs.PlaceLaws.{IsThere, there_is}
use Rattle.layout.specs.CachedNodes.{CachedNode, node_of}
use Rattle.layout.specs.Known.{AreCached, IsCached}
use Rattle.layout.specs.Marks.{mark_by}
use Rattle.layout.specs.SumLaws.{Sums}
use Rattle.layout.proofs.Changing.{AreAbove, tree-above}
use Rattle.layout.proofs.ChargeLaws.{charge_is, length-with}
use Rattle.layout.proofs.Knowing.{AreEach, each_above, each_cached}
use Rattle.layout.proofs.Summing.{known_sum}
use Rattle.model_tree.specs.declared.node.NodeKind.{NodeKind}
use Rattle.model_tree.specs.Trees.Charge.{charge, charge_of_blocks}
use Rattle.model_tree.specs.Trees.Edit.{altered, altered_at}
use Rattle.model_tree.specs.Trees.Keyed.{at, total, worth_at}
use Rattle.model_tree.specs.Trees.Tree.{Node}
use Rattle.model_tree.proofs.Trees.KeyedLaws.{total-with}

pub charge_cached : (cached_node : CachedNode) → IsCached cached_node
    → charge (node_of (λ n. []) cached_node) ≡ charge_of cached_node
charge_cached = charge_is (λ n. [])

module _ (nodes : ℕ) (mark : ℕ → ℕ) (cached_nodes : List (Option CachedNode)) (known : AreCached nodes mark cached_nodes) where
  each : AreEach cached_nodes
  each = each_cached nodes mark cached_nodes known

  above : AreAbove cached_nodes
  above = each_above cached_nodes each

  sums : Sums (λ n. []) cached_nodes
  sums = known_sum nodes mark cached_nodes known (λ n. [])

  pub charge_all : total charge (tree_without_data cached_nodes) ≡ charge_of_all cached_nodes
  charge_all = sums.charges

  pub count_all : length (tree_without_data cached_nodes) ≡ count_of_all cached_nodes
  count_all = sums.nodes

  -- a node is altered
  pub charge_altered : (place number : ℕ) (it : IsThere cached_nodes place number) (alter : Node → Node)
      → total charge (altered alter (tree_without_data cached_nodes) number) + charge_of it.cached ≡ charge_of_all cached_nodes + charge (alter (node_of (λ n. []) it.cached))
  charge_altered place number it alter =
      let there = there_is cached_nodes known.apart place number it in
      let node = node_of (λ n. []) it.cached in
      let sum = total-with charge (tree_without_data cached_nodes) number 0 (alter node) (tree-above (λ n. []) cached_nodes above) in
      omega (
        arith,
        sum,
        ap (λ (found : Option Node). total charge (altered_at alter (tree_without_data cached_nodes) number found)) there,
        ap (worth_at charge) there,
        charge_cached it.cached (each place it.cached it.there),
        charge_all,
      )

-- a node that would be charged for `blocks` blocks leaves no room
pub no_room : (transaction : Transaction) (known : IsKnown transaction) (place number : ℕ) (it : IsThere (cached_nodes_of transaction) place number) (alter : Node → Node) (blocks : CachedNode → ℕ)
    → IsOvercharged transaction place blocks → charge (alter (node_of (λ n. []) it.cached)) ≡ charge_of_blocks (blocks it.cached)
    → FitsOn (length transaction.places) transaction.nodes (altered alter (tree_without_data (cached_nodes_of transaction)) number) → ⊥
no_room transaction known place number it alter blocks over charged room =
    let sum = charge_altered transaction.nodes (mark_by (148 + transaction.nodes) transaction.places) (cached_nodes_of transaction) known.cached_nodes place number it alter in
    let more = over it.cached it.there in
    let fits = room.charge in
    omega (arith, sum, more, fits, charged)

-- and if no place is free, there is no room for another node

taken_count : (cached_nodes : List (Option CachedNode)) → AreTaken cached_nodes
    → count_of_all cached_nodes ≡ length cached_nodes
taken_count [] taken = refl
taken_count (None ∷ cached_nodes) taken = absurd (taken 0 (omega arith) refl)
taken_count (Some cached_node ∷ cached_nodes) taken = omega (arith, taken_count cached_nodes (λ place within. taken (suc place) (omega (arith, within))))

pub no_place : (transaction : Transaction) → IsKnown transaction → (of : NodeKind) (number : ℕ) (metadata : Metadata) → at number (tree_without_data (cached_nodes_of transaction)) ≡ None
    → AreTaken (cached_nodes_of transaction)
    → Overfills transaction (declared.PutNode number of metadata ∷ [])
no_place transaction known of number metadata fresh taken = record {
  count = 1;
  within = omega arith;
  full = λ room.
      let fits = room.nodes in
      let mark = mark_by (148 + transaction.nodes) transaction.places in
      let more = length-with (tree_without_data (cached_nodes_of transaction)) number 0 (fresh_node of (metadata_of metadata)) (tree-above (λ n. []) (cached_nodes_of transaction) (above transaction.nodes mark (cached_nodes_of transaction) known.cached_nodes)) fresh in
      omega (arith, fits, more, count_all transaction.nodes mark (cached_nodes_of transaction) known.cached_nodes, taken_count (cached_nodes_of transaction) taken, known.cached_nodes.count);
}

-- Sums over the tree are sums over the cached nodes.
use Rattle.std.proofs.Common.{◌≡◌, ℕ, suc, List, [], ◌∷◌, Option, Some, None, length, refl, sym, ap, ◌∙◌, arith, inl, inr, eqb, eq-eqb, ne_eqb}
use Rattle.std.proofs.lemmas.Bool.{cases_eq}
use Rattle.disk.specs.Moments.{Image}
use Rattle.model_tree.specs.declared.node.NodeKind.{NodeKind}
use Rattle.model_tree.specs.declared.node.NodeKind.TheVariants as kind
use Rattle.model_tree.specs.Trees.Charge.{charge, charge_of_blocks}
use Rattle.model_tree.specs.Trees.Keyed.{at, total}
use Rattle.model_tree.specs.Trees.Tree.{Node, DirEntry, names_of}
use Rattle.model_tree.specs.Trees.WellFormed.{links_from, links_in, links_to, one_if}
use Rattle.model_tree.proofs.Trees.KeyedLaws.{total-with}
use Rattle.model_tree.proofs.Trees.KeyedParts.{total-ones}
use Rattle.directory.specs.Listing.{by_stamp}
use Rattle.directory.specs.Records.{Record}
use Rattle.layout.specs.CachedNodes.{CachedNode, tree_of, node_of, content_of}
use Rattle.layout.specs.Known.{HasContent, IsCached, AreCached}
use Rattle.layout.specs.Laid.{AreNumbered}
use Rattle.layout.specs.Marks.{once_if, times}
use Rattle.layout.specs.SumLaws.{sum_over, numbers_of, entry_numbers, NamesTotal, Sums, EachSum}
use Rattle.layout.proofs.Changing.{AreAbove, tree-lacks, tree-above}
use Rattle.layout.proofs.ChargeLaws.{charge_is, none_worth, stamped-rest, above_by_stamp, fresh_stamp}
use Rattle.layout.proofs.Knowing.{AreEach, each_above, each_cached, laid_are_cached_nodes}
use Rattle.layout.proofs.NumberLaws.{times-append}

pub names_total : NamesTotal
names_total worth [] stamped = refl
names_total worth (entry ∷ names) stamped =
    let rest = stamped-rest entry names stamped in
    omega (arith, total-with worth (by_stamp names) entry.0 0 entry.1 (above_by_stamp names rest), none_worth worth (at entry.0 (by_stamp names)) (fresh_stamp entry names stamped), names_total worth names rest)

pub total-tree : (worth : Node → ℕ) (image : Image) (cached_nodes : List (Option CachedNode)) → AreAbove cached_nodes → AreNumbered cached_nodes → total worth (tree_of image cached_nodes) ≡ sum_over (λ cached_node. worth (node_of image cached_node)) cached_nodes
total-tree worth image [] above apart = refl
total-tree worth image (None ∷ cached_nodes) above apart = total-tree worth image cached_nodes (λ i cached_node e. above (suc i) cached_node e) (λ i j x y off. apart (suc i) (suc j) x y (omega arith))
total-tree worth image (Some one ∷ cached_nodes) above apart =
    let rest = total-tree worth image cached_nodes (λ i cached_node e. above (suc i) cached_node e) (λ i j x y off. apart (suc i) (suc j) x y (omega arith)) in
    let rising = tree-above image cached_nodes (λ i cached_node e. above (suc i) cached_node e) in
    let fresh : at one.fields.number (tree_of image cached_nodes) ≡ None = tree-lacks image cached_nodes one.fields.number (λ i cached_node e. apart (suc i) 0 cached_node one (omega arith) e refl) in
    omega (arith, total-with worth (tree_of image cached_nodes) one.fields.number 0 (node_of image one) rising, none_worth worth (at one.fields.number (tree_of image cached_nodes)) fresh)

sum_over-same : (f g : CachedNode → ℕ) (cached_nodes : List (Option CachedNode)) → AreEach cached_nodes → ((cached_node : CachedNode) → IsCached cached_node → f cached_node ≡ g cached_node) → sum_over f cached_nodes ≡ sum_over g cached_nodes
sum_over-same f g [] each same = refl
sum_over-same f g (None ∷ cached_nodes) each same = sum_over-same f g cached_nodes (λ i cached_node e. each (suc i) cached_node e) same
sum_over-same f g (Some one ∷ cached_nodes) each same = omega (arith, same one (each 0 one refl), sum_over-same f g cached_nodes (λ i cached_node e. each (suc i) cached_node e) same)

one_once : (x n : ℕ) → one_if (eqb x n) ≡ once_if (eqb n x)
one_once x n = elim (cases_eq x n) [
  | inl e ↦ ap one_if (eq-eqb x n e) ∙ sym (ap once_if (eq-eqb n x (sym e)))
  | inr off ↦ ap one_if (ne_eqb x n off) ∙ sym (ap once_if (ne_eqb n x (λ e. off (sym e))))
]

links-names : (n : ℕ) (names : List Record) → total (λ (entry : DirEntry). one_if (eqb entry.number n)) names ≡ times n (numbers_of names)
links-names n [] = refl
links-names n (entry ∷ names) = omega (arith, one_once entry.1.number n, links-names n names)

links-content : (n : ℕ) (image : Image) (kind : NodeKind) (cached_node : CachedNode) → HasContent kind cached_node → links_in n (names_of (content_of image kind cached_node)) ≡ times n (numbers_of cached_node.names)
links-content n image kind.File cached_node has = ap (λ (names : List Record). times n (numbers_of names)) (sym has)
links-content n image kind.Directory cached_node has = names_total (λ entry. one_if (eqb entry.number n)) cached_node.names has.stamped ∙ links-names n cached_node.names

pub links-cached : (n : ℕ) (image : Image) (cached_node : CachedNode) → IsCached cached_node → links_from n (node_of image cached_node) ≡ times n (numbers_of cached_node.names)
unfolding node_of
links-cached n image cached_node is = links-content n image cached_node.fields.kind cached_node is.content

entries-sum : (n : ℕ) (cached_nodes : List (Option CachedNode)) → sum_over (λ cached_node. times n (numbers_of cached_node.names)) cached_nodes ≡ times n (entry_numbers cached_nodes)
entries-sum n [] = refl
entries-sum n (None ∷ cached_nodes) = entries-sum n cached_nodes
entries-sum n (Some one ∷ cached_nodes) = omega (arith, times-append n (numbers_of one.names) (entry_numbers cached_nodes), entries-sum n cached_nodes)

-- The tree of cached nodes, whatever its image is
module _ (nodes : ℕ) (mark : ℕ → ℕ) (cached_nodes : List (Option CachedNode)) (known : AreCached nodes mark cached_nodes) (image : Image) where
  each : AreEach cached_nodes
  each = each_cached nodes mark cached_nodes known

  any : (worth : Node → ℕ) → total worth (tree_of image cached_nodes) ≡ sum_over (λ cached_node. worth (node_of image cached_node)) cached_nodes
  any worth = total-tree worth image cached_nodes (each_above cached_nodes each) known.apart

  pub known_sum : Sums image cached_nodes
  known_sum = record {
    any = any;
    charges = any charge ∙ sum_over-same (λ cached_node. charge (node_of image cached_node)) (λ cached_node. charge_of_blocks (length cached_node.blocks)) cached_nodes each (charge_is image);
    nodes = sym (total-ones (tree_of image cached_nodes)) ∙ any (λ node. 1);
  }

  pub links-sum : (n : ℕ) → links_to (tree_of image cached_nodes) n ≡ times n (entry_numbers cached_nodes)
  links-sum n = any (links_from n)
      ∙ sum_over-same (λ cached_node. links_from n (node_of image cached_node)) (λ cached_node. times n (numbers_of cached_node.names)) cached_nodes each (links-cached n image) ∙ entries-sum n cached_nodes

pub each_sum : EachSum
each_sum nodes image mark cached_nodes laid = known_sum nodes mark cached_nodes (laid_are_cached_nodes nodes image mark cached_nodes laid) image

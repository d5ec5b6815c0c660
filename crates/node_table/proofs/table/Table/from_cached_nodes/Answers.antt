use Rattle.std.proofs.Common.{◌≡◌, ◌+◌, ℕ, List, Option, length, sym, ap, subst, ◌∙◌, refl, true≢false, arith}
use Rattle.std.specs.List.Sorted.{IsPermutation}
use Rattle.model_tree.specs.Trees.Keyed.{Keyed}
use Rattle.layout.specs.CachedNodes.{CachedNode}
use Rattle.layout.specs.Marks.{times}
use Rattle.node_table.specs.Index.{entries_from, AreDifferent}
use Rattle.node_table.specs.Tables.{AreFew, charge_of_all, count_of_all, vacant, IsIndexed}
use Rattle.node_table.proofs.FillingLaws.{filled, own-different}
use Rattle.node_table.proofs.TableLaws.{own-places}
use Rattle.node_table.proofs.table.Table.from_cached_nodes.Goals as goal

moved : (cached_nodes read : List (Option CachedNode)) (index sorted : Keyed ℕ) → index ≡ entries_from 0 read → read ≡ cached_nodes → IsPermutation index sorted → IsPermutation (entries_from 0 cached_nodes) sorted
moved cached_nodes read index sorted is same permutation = subst (λ (l : Keyed ℕ). IsPermutation l sorted) (is ∙ ap (entries_from 0) same) permutation

pub returns-then-not-are_different-clause-same : goal.returns-then-not-are_different-clause-same
returns-then-not-are_different-clause-same c same own =
    let order = moved c.args.cached_nodes.items c.deref.result.now c.in_ok-index.index.items c.sort.new.index.items c.in_ok-index.ensures.entries c.deref.ensures.value c.sort.ensures.permutation in
    let differ = own-different c.args.cached_nodes.items c.sort.new.index.items order own in
    let told = c.are_different.ensures.1 (subst AreDifferent (sym c.deref-2.ensures.value) differ) in
    true≢false (sym told ∙ c.if-not-are_different.true)

kept : (c : goal.After-charge_of_cached_nodes-charge) → IsIndexed c.args.cached_nodes.items c.sort.new.index.items c.in_ok-free.free.items c.charge_of_cached_nodes-charge.result
kept c =
    let cached_nodes : List (Option CachedNode) = c.args.cached_nodes.items in
    let order = moved cached_nodes c.deref.result.now c.in_ok-index.index.items c.sort.new.index.items c.in_ok-index.ensures.entries c.deref.ensures.value c.sort.ensures.permutation in
    let differ = subst AreDifferent c.deref-2.ensures.value (c.are_different.ensures.0 c.if-not-are_different.false) in
    let times_is : (n : ℕ) → times n c.in_ok-free.free.items ≡ vacant n cached_nodes = λ n. c.in_ok-free.ensures.times n ∙ ap (vacant n) c.deref-3.ensures.value in
    let count : length c.in_ok-free.free.items + count_of_all cached_nodes ≡ length cached_nodes =
    subst (λ (l : List (Option CachedNode)). length c.in_ok-free.free.items + count_of_all l ≡ length l) c.deref-3.ensures.value c.in_ok-free.ensures.count in
    let charge = c.charge_of_cached_nodes-charge.ensures.charge ∙ ap charge_of_all c.deref-4.ensures.value in
    let few = subst AreFew c.deref-4.ensures.value c.charge_of_cached_nodes-charge.ensures.few in
    filled cached_nodes c.sort.new.index.items order c.in_ok-free.free.items c.charge_of_cached_nodes-charge.result c.requires.few c.requires.numbered few c.sort.ensures.sorted differ times_is count charge

pub invariant_of-result : goal.invariant_of-result
invariant_of-result c = (
  kept c,
  record {
    index = omega (arith, c.sort.ensures.room, c.in_ok-index.ensures.room, ap length c.deref.ensures.value);
    free = omega (arith, c.in_ok-free.ensures.room, ap length c.deref-3.ensures.value);
  },
)

pub returns-clause-apart : goal.returns-clause-apart
returns-clause-apart c = own-places c.args.cached_nodes.items c.sort.new.index.items c.in_ok-free.free.items c.charge_of_cached_nodes-charge.result c.args.cached_nodes.items (kept c) refl

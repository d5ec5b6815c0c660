use Rattle.std.proofs.Common.{◌≡◌, ◌+◌, ◌-◌, ℕ, List, Option, Some, None, get_or, ap, sym, subst, ◌∙◌, arith}
use Rattle.std.proofs.lemmas.List.{length-set}
use Rattle.layout.specs.CachedNodes.{CachedNode}
use Rattle.model_tree.specs.Trees.Keyed.{Keyed}
use Rattle.node_table.specs.Index.{IsAt}
use Rattle.node_table.specs.Tables.{node_number_at, charge_there}
use Rattle.node_table.proofs.TableLaws.{charge-within, removed}
use Rattle.node_table.proofs.table.Table.remove.Goals as goal

-- the former cached node is part of the sum
pub overflow_sub-self : goal.overflow_sub-self
overflow_sub-self c =
    let kept = c.self.invariant.0 in
    omega (arith, c.charge_at.ensures, ap (λ (l : List (Option CachedNode)). charge_there (get_or l c.args.place None)) c.deref-2.ensures.value, charge-within c.self.inside.cached_nodes.items c.args.place, kept.charge_is)

pub invariant_of-self : goal.invariant_of-self
invariant_of-self c =
    let kept = c.self.invariant.0 in
    let cached_nodes : List (Option CachedNode) = c.self.inside.cached_nodes.items in
    let there : node_number_at cached_nodes c.args.place ≡ Some c.args.number =
    subst (λ (l : List (Option CachedNode)). node_number_at l c.args.place ≡ Some c.args.number) (sym c.self.view_is) c.requires.there in
    let is : IsAt c.self.inside.index.items c.args.number c.in-Some.i = subst (λ (l : Keyed ℕ). IsAt l c.args.number c.in-Some.i) c.deref.ensures.value c.in-Some.ensures.some in
    let was : c.charge_at.result ≡ charge_there (get_or cached_nodes c.args.place None) = c.charge_at.ensures ∙ ap (λ (l : List (Option CachedNode)). charge_there (get_or l c.args.place None)) c.deref-2.ensures.value in
    let sum : c.self.inside.charge - c.charge_at.result + charge_there (get_or cached_nodes c.args.place None) ≡ c.self.inside.charge = omega (arith, was, charge-within cached_nodes c.args.place, kept.charge_is) in
    let long = length-set cached_nodes c.args.place None in
    let room = c.self.invariant.1 in
    rw (c.put_cached.ensures, c.remove.ensures.items, c.push_reserved.ensures.items) (
      removed cached_nodes c.self.inside.index.items c.self.inside.free.items c.self.inside.charge c.args.place c.args.number kept there c.in-Some.i (c.self.inside.charge - c.charge_at.result) is.within is.is sum,
      record { index = omega (arith, long, room.index, c.remove.ensures.capacity); free = omega (arith, long, room.free, c.push_reserved.ensures.capacity) },
    )

use Rattle.std.proofs.Common.{◌≡◌, ◌≤◌, ◌+◌, ◌-◌, List, Option, Some, None, length, get_or, ap, sym, subst, ◌∙◌, arith}
use Rattle.std.proofs.lemmas.List.{length-set}
use Rattle.layout.specs.CachedNodes.{CachedNode}
use Rattle.node_table.specs.Tables.{node_number_at, charge_of, charge_there}
use Rattle.node_table.proofs.TableLaws.{charge-within, charges-most, replaced}
use Rattle.node_table.proofs.table.Table.replace.Goals as goal

-- the former cached node is part of the sum
pub overflow_sub-self : goal.overflow_sub-self
overflow_sub-self c =
    let kept = c.self.invariant.0 in
    omega (arith, c.charge_at.ensures, ap (λ (l : List (Option CachedNode)). charge_there (get_or l c.args.place None)) c.deref.ensures.value, charge-within c.self.inside.cached_nodes.items c.args.place, kept.charge_is)

pub overflow_add-self : goal.overflow_add-self
overflow_add-self c =
    let kept = c.self.invariant.0 in
    let few = ap (λ (cached_node : CachedNode). length cached_node.blocks) (c.behind-cached.view_is ∙ c.deref-2.ensures) in
    omega (arith, kept.charge_is, kept.few, charges-most c.self.inside.cached_nodes.items kept.each, c.blocks_charge.ensures.charge, few, c.blocks_charge.ensures.few)

pub invariant_of-self : goal.invariant_of-self
invariant_of-self c =
    let kept = c.self.invariant.0 in
    let cached_nodes : List (Option CachedNode) = c.self.inside.cached_nodes.items in
    let there : node_number_at cached_nodes c.args.place ≡ Some c.args.cached.fields.number =
    subst (λ (l : List (Option CachedNode)). node_number_at l c.args.place ≡ Some c.args.cached.fields.number) (sym c.self.view_is) c.requires in
    let was : c.charge_at.result ≡ charge_there (get_or cached_nodes c.args.place None) = c.charge_at.ensures ∙ ap (λ (l : List (Option CachedNode)). charge_there (get_or l c.args.place None)) c.deref.ensures.value in
    let is : c.blocks_charge.result ≡ charge_of c.args.cached = c.blocks_charge.ensures.charge ∙ ap charge_of (c.behind-cached.view_is ∙ c.deref-2.ensures) in
    let sum : c.self.inside.charge - c.charge_at.result + c.blocks_charge.result + charge_there (get_or cached_nodes c.args.place None) ≡ c.self.inside.charge + charge_of c.args.cached =
    omega (arith, was, is, charge-within cached_nodes c.args.place, kept.charge_is) in
    let few : length c.args.cached.blocks ≤ 4096 = subst (λ (cached_node : CachedNode). length cached_node.blocks ≤ 4096) (c.behind-cached.view_is ∙ c.deref-2.ensures) c.blocks_charge.ensures.few in
    let long = length-set cached_nodes c.args.place (Some c.args.cached) in
    let room = c.self.invariant.1 in
    rw c.put_cached.ensures (
      replaced cached_nodes c.self.inside.index.items c.self.inside.free.items c.self.inside.charge c.args.place (c.self.inside.charge - c.charge_at.result + c.blocks_charge.result) c.args.cached kept there few sum,
      record { index = omega (arith, long, room.index); free = omega (arith, long, room.free) },
    )

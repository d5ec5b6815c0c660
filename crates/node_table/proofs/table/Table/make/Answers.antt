use Rattle.std.proofs.Common.{◌≡◌, ◌≤◌, ◌+◌, List, Option, Some, length, ap, sym, subst, ◌∙◌, arith}
use Rattle.std.proofs.lemmas.List.{length-set}
use Rattle.layout.specs.CachedNodes.{CachedNode}
use Rattle.node_table.specs.Tables.{AreBelow, IsFree, charge_of}
use Rattle.node_table.proofs.TableLaws.{charges-most, vacant-free, made}
use Rattle.node_table.proofs.table.Table.make.Goals as goal

pub take_free-requires : goal.take_free-requires
take_free-requires c =
    let kept = c.self.invariant.0 in
    let is_free : IsFree c.self.inside.cached_nodes.items c.args.place = subst (λ (l : List (Option CachedNode)). IsFree l c.args.place) (sym c.self.view_is) c.requires.free in
    omega (arith, kept.places c.args.place, vacant-free c.self.inside.cached_nodes.items c.args.place is_free)

pub overflow_add-self : goal.overflow_add-self
overflow_add-self c =
    let kept = c.self.invariant.0 in
    let few = ap (λ (cached_node : CachedNode). length cached_node.blocks) (c.behind-cached-2.view_is ∙ c.deref-2.ensures) in
    omega (arith, kept.charge_is, kept.few, charges-most c.self.inside.cached_nodes.items kept.each, c.blocks_charge.ensures.charge, few, c.blocks_charge.ensures.few)

pub invariant_of-self : goal.invariant_of-self
invariant_of-self c =
    let kept = c.self.invariant.0 in
    let cached_nodes : List (Option CachedNode) = c.self.inside.cached_nodes.items in
    let is_free : IsFree cached_nodes c.args.place = subst (λ (l : List (Option CachedNode)). IsFree l c.args.place) (sym c.self.view_is) c.requires.free in
    let below : AreBelow cached_nodes c.args.cached.fields.number = subst (λ (l : List (Option CachedNode)). AreBelow l c.args.cached.fields.number) (sym c.self.view_is) c.requires.above in
    let number : c.behind-cached.inside.inode.number ≡ c.args.cached.fields.number = ap (λ (cached_node : CachedNode). cached_node.fields.number) (c.behind-cached.view_is ∙ c.deref.ensures) in
    let is : c.blocks_charge.result ≡ charge_of c.args.cached = c.blocks_charge.ensures.charge ∙ ap charge_of (c.behind-cached-2.view_is ∙ c.deref-2.ensures) in
    let sum : c.self.inside.charge + c.blocks_charge.result ≡ c.self.inside.charge + charge_of c.args.cached = omega (arith, is) in
    let few : length c.args.cached.blocks ≤ 4096 = subst (λ (cached_node : CachedNode). length cached_node.blocks ≤ 4096) (c.behind-cached-2.view_is ∙ c.deref-2.ensures) c.blocks_charge.ensures.few in
    let long = length-set cached_nodes c.args.place (Some c.args.cached) in
    let room = c.self.invariant.1 in
    rw (c.put_cached.ensures, c.push_reserved.ensures.items, number) (
      made cached_nodes c.self.inside.index.items c.self.inside.free.items c.self.inside.charge c.args.place c.args.cached kept is_free c.requires.some below c.take_free.new.free.items (c.self.inside.charge + c.blocks_charge.result)
          few c.take_free.ensures.times c.take_free.ensures.len sum,
      record { index = omega (arith, long, room.index, c.push_reserved.ensures.capacity); free = omega (arith, long, room.free, c.take_free.ensures.room) },
    )

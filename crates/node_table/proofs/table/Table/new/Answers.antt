use Rattle.std.proofs.Common.{◌≡◌, ◌+◌, ℕ, List, [], ◌∷◌, ◌++◌, Option, None, length, replicate, ap, sym, subst, ◌∙◌, arith}
use Rattle.layout.specs.CachedNodes.{CachedNode}
use Rattle.node_table.proofs.TableLaws.{AreFirst, first-more, nones-more, kept_none}
use Rattle.node_table.proofs.table.Table.new.Goals as goal

pub loop-place-preserved : goal.loop-place-preserved
loop-place-preserved c =
    let inv = c.loop-place.invariant in
    record {
      within = omega (arith, c.loop-place-test.true);
      free = subst (AreFirst (c.loop-place.place + 1)) (sym c.push_reserved.ensures.items) (first-more c.loop-place.place c.loop-place.free.items inv.free);
      free_len = omega (arith, c.push_reserved.ensures.len, inv.free_len);
      cached_nodes = c.push_reserved-in-loop-place.ensures.items ∙ ap (λ (l : List (Option CachedNode)). l ++ None ∷ []) inv.cached_nodes ∙ nones-more c.loop-place.place;
      cached_nodes_len = omega (arith, c.push_reserved-in-loop-place.ensures.len, inv.cached_nodes_len);
      free_room = omega (arith, c.push_reserved.ensures.capacity, inv.free_room);
      cached_nodes_room = omega (arith, c.push_reserved-in-loop-place.ensures.capacity, inv.cached_nodes_room);
    }

pub invariant_of-result : goal.invariant_of-result
invariant_of-result c =
    let inv = c.loop-place.invariant in
    let end : c.loop-place.place ≡ c.args.places = omega (arith, inv.within, c.loop-place-test.false) in
    let cached_nodes : c.loop-place.cached_nodes.items ≡ replicate c.args.places None = inv.cached_nodes ∙ ap (λ (n : ℕ). replicate n None) end in
    let first : AreFirst c.args.places c.loop-place.free.items = subst (λ (n : ℕ). AreFirst n c.loop-place.free.items) end inv.free in
    let long : length c.loop-place.free.items ≡ c.args.places = omega (arith, c.loop-place.free.ok.0, inv.free_len) in (
      rw (cached_nodes, c.in_ok-index.ensures.items) (kept_none c.args.places c.loop-place.free.items c.requires first long),
      record {
        index = omega (arith, c.loop-place.cached_nodes.ok.0, inv.cached_nodes_len, c.in_ok-index.ensures.exact);
        free = omega (arith, c.loop-place.cached_nodes.ok.0, inv.cached_nodes_len, inv.free_room);
      },
    )

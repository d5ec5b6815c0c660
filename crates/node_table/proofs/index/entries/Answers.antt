use Rattle.std.proofs.Common.{◌≡◌, ◌++◌, [], ◌∷◌, ℕ, Option, ap, sym, ◌∙◌, arith}
use Rattle.std.proofs.lemmas.List.{append-nil}
use Rattle.model_tree.specs.Trees.Keyed.{Keyed}
use Rattle.layout.specs.CachedNodes.{CachedNode}
use Rattle.node_table.proofs.FillingLaws.{entries-step, entry_from}
use Rattle.node_table.proofs.index.entries.Goals as goal
use Rattle.node_table.proofs.index.entries.Goals.{in-Some, in_default}

pub push_reserved-requires : goal.push_reserved-requires
push_reserved-requires c = omega (arith, c.loop-place.invariant.few, c.loop-place.invariant.room, c.loop-place-test.true)

pub loop-place-preserved : goal.loop-place-preserved
loop-place-preserved c =
    let inv = c.loop-place.invariant in
    let step = entries-step c.args.cached_nodes.now c.loop-place.place c.index-cached_nodes-place.result c.loop-place-test.true c.index-cached_nodes-place.is c.loop-place.index.items inv.entries in
    elim c.match-cached.branch [
      | in-Some w ↦
          let added : (w.behind-cached.inside.inode.number, c.loop-place.place) ∷ [] ≡ entry_from c.loop-place.place c.index-cached_nodes-place.result =
          ap (λ (cached_node : CachedNode). (cached_node.fields.number, c.loop-place.place) ∷ []) (w.behind-cached.view_is ∙ w.deref.ensures) ∙ ap (entry_from c.loop-place.place) (sym w.in-Some.is) in
          rw w.index-is (record {
            entries = w.push_reserved.ensures.items ∙ ap (λ (l : Keyed ℕ). c.loop-place.index.items ++ l) added ∙ step;
            few = omega (arith, w.push_reserved.ensures.len, inv.few);
            room = omega (arith, w.push_reserved.ensures.capacity, inv.room);
          })
      | in_default w ↦
          rw w.index-is (record {
            entries = sym (append-nil c.loop-place.index.items) ∙ ap (λ (cached_node : Option CachedNode). c.loop-place.index.items ++ entry_from c.loop-place.place cached_node) (sym w.in_default.is) ∙ step;
            few = omega (arith, inv.few);
            room = inv.room;
          })
    ]

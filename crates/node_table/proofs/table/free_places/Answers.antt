use Rattle.std.proofs.Common.{ap, sym, ◌∙◌, arith}
use Rattle.layout.specs.Marks.{times}
use Rattle.node_table.proofs.FillingLaws.{free-step_none, free-step_some, sum-step, worth_of, none-from, some-from}
use Rattle.node_table.proofs.table.free_places.Goals as goal
use Rattle.node_table.proofs.table.free_places.Goals.{then-is_none, else-is_none}

pub push_reserved-requires : goal.push_reserved-requires
push_reserved-requires c = omega (arith, c.loop-place.invariant.count, c.loop-place.invariant.room, c.loop-place-test.true)

pub loop-place-preserved : goal.loop-place-preserved
loop-place-preserved c =
    let inv = c.loop-place.invariant in
    let sum = sum-step c.args.cached_nodes.now c.loop-place.place c.index-cached_nodes-place.result c.loop-place-test.true c.index-cached_nodes-place.is (λ cached. 1) in
    elim c.if-is_none.branch [
      | then-is_none w ↦
          let none = none-from c.index-cached_nodes-place.result w.if-is_none.ensures in
          rw w.free-is (record {
            times = λ n. ap (times n) w.push_reserved.ensures.items
                ∙ free-step_none c.args.cached_nodes.now c.loop-place.place c.index-cached_nodes-place.result c.loop-place-test.true c.index-cached_nodes-place.is n c.loop-place.free.items none (inv.times n);
            count = omega (arith, w.push_reserved.ensures.len, inv.count, sum, ap (worth_of (λ cached. 1)) none);
            room = omega (arith, w.push_reserved.ensures.capacity, inv.room);
          })
      | else-is_none w ↦
          let some = some-from c.index-cached_nodes-place.result w.if-is_none.ensures in
          rw w.free-is (record {
            times = λ n. inv.times n ∙ sym (free-step_some c.args.cached_nodes.now c.loop-place.place c.index-cached_nodes-place.result c.loop-place-test.true c.index-cached_nodes-place.is n some.one some.is);
            count = omega (arith, inv.count, sum, ap (worth_of (λ cached. 1)) some.is);
            room = inv.room;
          })
    ]

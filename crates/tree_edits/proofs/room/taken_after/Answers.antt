use Rattle.std.proofs.Common.{◌+◌, ◌^◌, length, take, sym, ◌∙◌, arith}
use Rattle.std.proofs.lemmas.List.{length-take}
use Rattle.tree_edits.specs.Outlines.{tree_without_data}
use Rattle.tree_edits.proofs.PrefixLaws.{below_more, measurable_prefix, rising_outline, charge_next, nodes_next}
use Rattle.tree_edits.proofs.RoomLaws.{charge_all, count_all}
use Rattle.tree_edits.proofs.room.taken_after.Goals as goal

pub loop-i-init : goal.loop-i-init
loop-i-init c =
    let known = c.requires.cached_nodes in
    record {
      charge = c.from-charge.ensures ∙ c.charge.ensures ∙ sym (charge_all known.0 known.1 c.args.table.now known.2);
      nodes = c.from-nodes.ensures ∙ c.count.ensures.count ∙ sym (count_all known.0 known.1 c.args.table.now known.2);
      small = omega (arith, c.from-charge.ensures, c.charge.type_inv);
      few = omega (arith, c.from-nodes.ensures, c.count.type_inv);
    }

pub size_after-before-requires-clause-can : goal.size_after-before-requires-clause-can
size_after-before-requires-clause-can c = measurable_prefix (tree_without_data c.args.table.now) c.args.edits.now c.loop-i.i c.requires.can

pub charge_of-requires : goal.charge_of-requires
charge_of-requires c =
    let prefix = length (take c.loop-i.i c.args.edits.now) in
    below_more (2 ^ 65 + prefix + 1) (2 ^ 66) c.resized-after.result (omega (arith, length-take c.loop-i.i c.args.edits.now, c.loop-i-test.true))
    (c.resized-after.ensures.small (2 ^ 65 + prefix) (omega arith) c.size_after-before.ensures.small)

pub overflow_sub-charge : goal.overflow_sub-charge
overflow_sub-charge c =
    let known = c.requires.cached_nodes in
    let cached_nodes = c.args.table.now in
    let sum = charge_next (tree_without_data cached_nodes) c.args.edits.now c.requires.can (rising_outline known.0 known.1 cached_nodes known.2) c.loop-i.i c.index-edits-i.result c.loop-i-test.true c.index-edits-i.is
    c.number_of.result c.size_after-before.result c.resized-after.result c.number_of.ensures c.size_after-before.ensures.size c.resized-after.ensures.size in
    omega (arith, sum, c.loop-i.invariant.charge, c.charge_of.ensures.charge, c.charge_of-in-loop-i.ensures.charge)

pub loop-i-preserved : goal.loop-i-preserved
loop-i-preserved c =
    let known = c.requires.cached_nodes in
    let cached_nodes = c.args.table.now in
    let so_far = c.loop-i.invariant in
    let rising = rising_outline known.0 known.1 cached_nodes known.2 in
    let sum = charge_next (tree_without_data cached_nodes) c.args.edits.now c.requires.can rising c.loop-i.i c.index-edits-i.result c.loop-i-test.true c.index-edits-i.is
    c.number_of.result c.size_after-before.result c.resized-after.result c.number_of.ensures c.size_after-before.ensures.size c.resized-after.ensures.size in
    let more = nodes_next (tree_without_data cached_nodes) c.args.edits.now c.requires.can rising c.loop-i.i c.index-edits-i.result c.loop-i-test.true c.index-edits-i.is
    c.number_of.result c.size_after-before.result c.resized-after.result c.number_of.ensures c.size_after-before.ensures.size c.resized-after.ensures.size in
    record {
      charge = omega (arith, sum, so_far.charge, c.charge_of.ensures.charge, c.charge_of-in-loop-i.ensures.charge);
      nodes = omega (arith, more, so_far.nodes, c.nodes_in.ensures.nodes, c.nodes_in-in-loop-i.ensures.nodes);
      small = omega (arith, so_far.small, c.charge_of.ensures.small);
      few = omega (arith, so_far.few, c.nodes_in.ensures.small);
    }

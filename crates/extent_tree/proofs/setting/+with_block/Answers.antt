use Rattle.std.proofs.Common.{◌≡◌, ◌<◌, ℕ, List, ◌∷◌, ◌-◌, ◌/◌, ◌%◌, ap, sym, refl, get_or, set, take, arith}
use Rattle.extent_tree.specs.Held.{entries_by}
use Rattle.extent_tree.proofs.Charges.{span_pos}
use Rattle.extent_tree.proofs.Depths.{span_small}
use Rattle.extent_tree.proofs.Maps.{items_of, inserted_here, inserted_other}
use Rattle.extent_tree.proofs.Changes.{run_most, in_run, split_above, part_within, part_low, part_runs, none_spare, split_set, IsSplit, at_default}
use Rattle.extent_tree.proofs.setting.+with_block.Goals as goal

pub run_with-requires-clause-run : goal.run_with-requires-clause-run
run_with-requires-clause-run t c = run_most c.args.depth c.args.entry c.requires.depth c.requires.run

pub run_with-requires-clause-place : goal.run_with-requires-clause-place
run_with-requires-clause-place t c = omega (arith, c.requires.place.0, span_small c.args.depth c.requires.depth)

pub returns-in-Some-clause-ok : goal.returns-in-Some-clause-ok
returns-in-Some-clause-ok t c =
    in_run (entries_by items_of c.args.nodes.now) (entries_by items_of c.args.nodes.now) c.args.depth c.args.place c.args.sector c.args.entry c.in-Some.new c.requires.run c.in-Some.ensures c.requires.place.0

pub nonzero_div-at : goal.nonzero_div-at
nonzero_div-at t c = omega (arith, span_pos (c.args.depth - 1), c.span-below.ensures)

pub nonzero_rem-place : goal.nonzero_rem-place
nonzero_rem-place t c = omega (arith, span_pos (c.args.depth - 1), c.span-below.ensures)

pub index-requires : goal.index-requires
index-requires t c =
    let above : 0 < c.args.depth = split_above c.args.depth c.args.place c.args.entry c.requires.run c.requires.place.0 c.in_default.ensures in
    omega (arith, part_within c.args.depth (c.args.depth - 1) c.args.place c.span-below.result c.args.entry c.in_ok-made.made.items c.requires.run above refl c.requires.place.0 c.span-below.ensures c.in_ok-made.ensures, c.in_ok-made.ensures.len, c.in_ok-made.made.ok.0)

pub with_block-requires : goal.with_block-requires
with_block-requires t c =
    let above : 0 < c.args.depth = split_above c.args.depth c.args.place c.args.entry c.requires.run c.requires.place.0 c.in_default.ensures in
    let low = part_low c.args.depth (c.args.depth - 1) c.args.place c.span-below.result c.args.entry c.in_ok-made.made.items c.requires.run above refl c.requires.place.0 c.span-below.ensures c.in_ok-made.ensures in (
      omega (arith, c.decreases),
      (
        omega arith,
        (
          part_runs c.args.depth (c.args.depth - 1) c.args.place c.span-below.result c.args.entry c.in_ok-made.made.items c.requires.run above refl c.requires.place.0 c.span-below.ensures c.in_ok-made.ensures c.index.result.now c.index.ensures,
          ((low, c.requires.place.1), none_spare c.in-Some-split_first.own.now c.args.spare.now c.in-Some-split_first.others.now c.in-Some-split_first.ensures.cases.0 c.requires.spare),
        ),
      ),
    )

pub returns-clause-ok : goal.returns-clause-ok
returns-clause-ok t c =
    let above : 0 < c.args.depth = split_above c.args.depth c.args.place c.args.entry c.requires.run c.requires.place.0 c.in_default.ensures in
    let index = entries_by items_of c.args.nodes.now in
    let mid = entries_by items_of c.with_block.new.nodes in
    let other = entries_by items_of c.insert.new.self in
    let own = c.in-Some-split_first.own.now in
    let at = c.args.place / c.span-below.result in
    let within = part_within c.args.depth (c.args.depth - 1) c.args.place c.span-below.result c.args.entry c.in_ok-made.made.items c.requires.run above refl c.requires.place.0 c.span-below.ensures c.in_ok-made.ensures in
    let spare_is : c.args.spare.now ≡ own ∷ c.in-Some-split_first.others.now = c.in-Some-split_first.ensures.cases.0 in
    let split : IsSplit index mid other c.args.depth (c.args.depth - 1) c.args.place c.span-below.result c.args.sector own c.in_ok-new.taken c.args.entry c.in_ok-new.new c.in_ok-made.made.items c.args.spare.now c.in-Some-split_first.others.now = record {
      run = c.requires.run;
      low = omega arith;
      within = c.requires.place.0;
      span = c.span-below.ensures;
      are = c.in_ok-made.ensures;
      inner =
          at_default index mid (c.args.depth - 1) (c.args.place % c.span-below.result) c.args.sector c.in_ok-made.made.items at c.in_ok-new.new (take c.in_ok-new.taken c.in-Some-split_first.others.now) c.index.result.now
          (omega (arith, within, c.in_ok-made.ensures.len)) c.index.ensures c.in_ok-new.ensures.ok;
      kept = c.in_ok-new.ensures.kept;
      spare_is = spare_is;
      are_spare = c.requires.spare;
      fits = let first = c.type_inv.spare 0 in let here : own ≡ get_or c.args.spare.now 0 0 = sym (ap (λ (xs : List ℕ). get_or xs 0 0) spare_is) in omega (arith, first);
      there = inserted_here c.with_block.new.nodes c.insert.new.self own c.in_ok-node_with.field-0 (set c.in_ok-made.made.items at c.in_ok-new.new) c.in_ok-insert.ensures.updates c.in_ok-node_with.ensures;
      same = inserted_other c.with_block.new.nodes c.insert.new.self own c.in_ok-node_with.field-0 c.in_ok-insert.ensures.updates;
    } in
    rw c.index_entry.ensures (split_set index mid other c.args.depth (c.args.depth - 1) c.args.place c.span-below.result c.args.sector own c.in_ok-new.taken c.args.entry c.in_ok-new.new c.in_ok-made.made.items c.args.spare.now c.in-Some-split_first.others.now split)

pub node_with-requires : goal.node_with-requires
node_with-requires t c =
    let above : 0 < c.args.depth = split_above c.args.depth c.args.place c.args.entry c.requires.run c.requires.place.0 c.in_default.ensures in
    omega (arith, part_within c.args.depth (c.args.depth - 1) c.args.place c.span-below.result c.args.entry c.in_ok-made.made.items c.requires.run above refl c.requires.place.0 c.span-below.ensures c.in_ok-made.ensures, c.in_ok-made.ensures.len)

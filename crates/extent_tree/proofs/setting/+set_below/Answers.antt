use Rattle.std.proofs.Common.{◌∙◌, ◌≡◌, ◌-◌, ◌/◌, true, sym, ap, refl, length, get_or, set, arith}
use Rattle.extent_tree.specs.declared.fault.SetFault.TheVariants.{TooFew}
use Rattle.extent_tree.specs.Held.{entries_by, hole}
use Rattle.extent_tree.specs.Tree.{is_index}
use Rattle.extent_tree.proofs.Maps.{passed_on, items_of, inserted_here, inserted_other}
use Rattle.extent_tree.proofs.Changes.{is_below, below_at, below_run, deep_above, deep_trees, deep_within, deep_spare, below_ok, below_kept, plain_set}
use Rattle.extent_tree.proofs.Needs.{plain_too_few, index_too_few}
use Rattle.extent_tree.proofs.setting.+set_below.Goals as goal

pub overflow_sub-depth : goal.overflow_sub-depth
overflow_sub-depth t c =
    let index = entries_by items_of c.args.nodes.now in
    let y = get_or c.entries_of-entries.result.now (c.args.place / c.span-span.result) hole in
    let h = is_below index c.args.depth c.args.place c.span-span.result c.args.own c.args.spare.now c.entries_of-entries.result.now c.entries_of-entries.ensures c.requires.trees c.requires.place.0 c.span-span.ensures c.requires.spare in
    let test : is_index y ≡ true = sym c.is_index.ensures ∙ c.if-is_index.true in
    omega (arith, deep_above index c.args.depth (c.args.depth - 1) c.args.place c.span-span.result c.args.own c.args.spare.now y h test refl)

pub set_below-requires : goal.set_below-requires
set_below-requires t c =
    let index = entries_by items_of c.args.nodes.now in
    let y = get_or c.entries_of-entries.result.now (c.args.place / c.span-span.result) hole in
    let h = is_below index c.args.depth c.args.place c.span-span.result c.args.own c.args.spare.now c.entries_of-entries.result.now c.entries_of-entries.ensures c.requires.trees c.requires.place.0 c.span-span.ensures c.requires.spare in
    let test : is_index y ≡ true = sym c.is_index.ensures ∙ c.if-is_index.true in
    let above = deep_above index c.args.depth (c.args.depth - 1) c.args.place c.span-span.result c.args.own c.args.spare.now y h test refl in (
      omega (arith, c.decreases),
      (
        omega arith,
        (
          deep_trees index c.args.depth (c.args.depth - 1) c.args.place c.span-span.result c.args.own c.args.spare.now y h test refl,
          (
            (deep_within index c.args.depth (c.args.depth - 1) c.args.place c.span-span.result c.args.own c.args.spare.now y h test refl, c.requires.place.1),
            deep_spare index c.args.depth (c.args.depth - 1) c.args.place c.span-span.result c.args.own c.args.spare.now y h test refl,
          ),
        ),
      ),
    )

pub returns-then-is_index-clause-ok : goal.returns-then-is_index-clause-ok
returns-then-is_index-clause-ok t c =
    let index = entries_by items_of c.args.nodes.now in
    let other = entries_by items_of c.set_below.new.nodes in
    let y = get_or c.entries_of-entries.result.now (c.args.place / c.span-span.result) hole in
    let h = is_below index c.args.depth c.args.place c.span-span.result c.args.own c.args.spare.now c.entries_of-entries.result.now c.entries_of-entries.ensures c.requires.trees c.requires.place.0 c.span-span.ensures c.requires.spare in
    let test : is_index y ≡ true = sym c.is_index.ensures ∙ c.if-is_index.true in
    below_ok index other c.args.depth (c.args.depth - 1) c.args.place c.span-span.result c.args.own c.args.sector c.args.spare.now y h test refl c.set_below.result c.set_below.ensures.ok c.set_below.ensures.kept

pub returns-then-is_index-clause-kept : goal.returns-then-is_index-clause-kept
returns-then-is_index-clause-kept t c =
    let index = entries_by items_of c.args.nodes.now in
    let other = entries_by items_of c.set_below.new.nodes in
    let y = get_or c.entries_of-entries.result.now (c.args.place / c.span-span.result) hole in
    let h = is_below index c.args.depth c.args.place c.span-span.result c.args.own c.args.spare.now c.entries_of-entries.result.now c.entries_of-entries.ensures c.requires.trees c.requires.place.0 c.span-span.ensures c.requires.spare in
    let test : is_index y ≡ true = sym c.is_index.ensures ∙ c.if-is_index.true in
    below_kept index other c.args.depth (c.args.depth - 1) c.args.place c.span-span.result c.args.own c.args.sector c.args.spare.now y h test refl c.set_below.result c.set_below.ensures.ok c.set_below.ensures.kept

pub with_block-requires-clause-run : goal.with_block-requires-clause-run
with_block-requires-clause-run t c =
    let index = entries_by items_of c.args.nodes.now in
    let y = get_or c.entries_of-entries.result.now (c.args.place / c.span-span.result) hole in
    let h = is_below index c.args.depth c.args.place c.span-span.result c.args.own c.args.spare.now c.entries_of-entries.result.now c.entries_of-entries.ensures c.requires.trees c.requires.place.0 c.span-span.ensures c.requires.spare in
    below_run index c.args.depth c.args.place c.span-span.result c.args.own c.args.spare.now y h (sym c.is_index.ensures ∙ c.if-is_index.false)

pub returns-clause-ok : goal.returns-clause-ok
returns-clause-ok t c =
    let index = entries_by items_of c.args.nodes.now in
    let mid = entries_by items_of c.with_block.new.nodes in
    let other = entries_by items_of c.insert.new.self in
    let at = c.args.place / c.span-span.result in
    let y = get_or c.entries_of-entries.result.now at hole in
    let h = is_below index c.args.depth c.args.place c.span-span.result c.args.own c.args.spare.now c.entries_of-entries.result.now c.entries_of-entries.ensures c.requires.trees c.requires.place.0 c.span-span.ensures c.requires.spare in
    let copied : c.in_ok-copy.copy.items ≡ mid c.args.own = c.in_ok-copy.ensures.items ∙ c.entries_of.ensures in
    let node : c.in_ok-node_with.field-0.value.items ≡ set (mid c.args.own) at c.in_ok-entry.entry = c.in_ok-node_with.ensures ∙ ap (λ xs. set xs at c.in_ok-entry.entry) copied in
    plain_set index c.args.depth c.args.place c.span-span.result c.args.own c.args.spare.now y h mid other c.args.sector c.in_ok-entry.taken c.in_ok-entry.entry (sym c.is_index.ensures ∙ c.if-is_index.false) c.in_ok-entry.ensures.ok c.in_ok-entry.ensures.kept
    (inserted_here c.with_block.new.nodes c.insert.new.self c.args.own c.in_ok-node_with.field-0 (set (mid c.args.own) at c.in_ok-entry.entry) c.in_ok-insert.ensures.updates node)
    (inserted_other c.with_block.new.nodes c.insert.new.self c.args.own c.in_ok-node_with.field-0 c.in_ok-insert.ensures.updates)

pub returns-then-is_index-clause-few : goal.returns-then-is_index-clause-few
returns-then-is_index-clause-few t c =
    let index = entries_by items_of c.args.nodes.now in
    let y = get_or c.entries_of-entries.result.now (c.args.place / c.span-span.result) hole in
    let h = is_below index c.args.depth c.args.place c.span-span.result c.args.own c.args.spare.now c.entries_of-entries.result.now c.entries_of-entries.ensures c.requires.trees c.requires.place.0 c.span-span.ensures c.requires.spare in
    let test : is_index y ≡ true = sym c.is_index.ensures ∙ c.if-is_index.true in
    let above = deep_above index c.args.depth (c.args.depth - 1) c.args.place c.span-span.result c.args.own c.args.spare.now y h test refl in
    λ is. index_too_few index c.args.depth c.args.place c.span-span.result (length c.args.spare.now) (index c.args.own) y c.span-span.ensures (below_at index c.args.depth c.args.place c.span-span.result c.args.own c.args.spare.now y h) h.entry (c.args.depth - 1) refl above test (c.set_below.ensures.few is)

pub returns-in_err-entry-clause-few : goal.returns-in_err-entry-clause-few
returns-in_err-entry-clause-few t c =
    let index = entries_by items_of c.args.nodes.now in
    let y = get_or c.entries_of-entries.result.now (c.args.place / c.span-span.result) hole in
    let h = is_below index c.args.depth c.args.place c.span-span.result c.args.own c.args.spare.now c.entries_of-entries.result.now c.entries_of-entries.ensures c.requires.trees c.requires.place.0 c.span-span.ensures c.requires.spare in
    λ is. plain_too_few index c.args.depth c.args.place c.span-span.result (length c.args.spare.now) (index c.args.own) y c.span-span.ensures (below_at index c.args.depth c.args.place c.span-span.result c.args.own c.args.spare.now y h) h.entry (sym c.is_index.ensures ∙ c.if-is_index.false)
    (c.in_err-entry.ensures.few (passed_on c.from_residual.result c.in_err-entry.field-0.0 TooFew c.from_residual.ensures.1 is))

use Rattle.std.proofs.Common.{◌∙◌, ◌≡◌, ◌-◌, ◌/◌, true, sym, ap, refl, length, get_or, set, take, subst, List, arith}
use Rattle.extent_tree.specs.declared.entry.Entry.{Entry}
use Rattle.extent_tree.specs.declared.fault.SetFault.TheVariants.{TooFew}
use Rattle.extent_tree.specs.Held.{entries_by, hole}
use Rattle.extent_tree.specs.Setting.{AreBlocksSet}
use Rattle.extent_tree.specs.Tree.{is_index}
use Rattle.extent_tree.proofs.Maps.{passed_on, items_of}
use Rattle.extent_tree.proofs.Changes.{is_in_root, root_run, root_plain, root_above, root_at, up_trees, up_within, up_spare, up_set}
use Rattle.extent_tree.proofs.Needs.{plain_too_few, index_too_few}
use Rattle.extent_tree.proofs.setting.set_in_root.Goals as goal

pub overflow_sub-depth : goal.overflow_sub-depth
overflow_sub-depth c =
    let index = entries_by items_of c.args.nodes.now in
    let y = get_or c.as_slice-entries.result.now (c.args.block / c.span-span.result) hole in
    let found : c.as_slice-entries.result.now ≡ c.args.root.now.value.items = cc in
    let h = is_in_root index c.args.depth c.args.block c.span-span.result c.args.root.now.value.items c.args.spare.now c.as_slice-entries.result.now found c.requires.trees c.requires.block.0 c.span-span.ensures c.requires.spare in
    let test : is_index y ≡ true = sym c.is_index.ensures ∙ c.if-is_index.true in
    omega (arith, root_above index c.args.depth (c.args.depth - 1) c.args.block c.span-span.result c.args.root.now.value.items c.args.spare.now y h test refl)

pub set_below-requires-clause-trees : goal.set_below-requires-clause-trees
set_below-requires-clause-trees c =
    let index = entries_by items_of c.args.nodes.now in
    let y = get_or c.as_slice-entries.result.now (c.args.block / c.span-span.result) hole in
    let found : c.as_slice-entries.result.now ≡ c.args.root.now.value.items = cc in
    let h = is_in_root index c.args.depth c.args.block c.span-span.result c.args.root.now.value.items c.args.spare.now c.as_slice-entries.result.now found c.requires.trees c.requires.block.0 c.span-span.ensures c.requires.spare in
    let test : is_index y ≡ true = sym c.is_index.ensures ∙ c.if-is_index.true in
    up_trees index c.args.depth (c.args.depth - 1) c.args.block c.span-span.result c.args.root.now.value.items c.args.spare.now y h test refl

pub set_below-requires-clause-place : goal.set_below-requires-clause-place
set_below-requires-clause-place c =
    let index = entries_by items_of c.args.nodes.now in
    let y = get_or c.as_slice-entries.result.now (c.args.block / c.span-span.result) hole in
    let found : c.as_slice-entries.result.now ≡ c.args.root.now.value.items = cc in
    let h = is_in_root index c.args.depth c.args.block c.span-span.result c.args.root.now.value.items c.args.spare.now c.as_slice-entries.result.now found c.requires.trees c.requires.block.0 c.span-span.ensures c.requires.spare in
    let test : is_index y ≡ true = sym c.is_index.ensures ∙ c.if-is_index.true in
    (up_within index c.args.depth (c.args.depth - 1) c.args.block c.span-span.result c.args.root.now.value.items c.args.spare.now y h test refl, c.requires.block.1)

pub set_below-requires-clause-spare : goal.set_below-requires-clause-spare
set_below-requires-clause-spare c =
    let index = entries_by items_of c.args.nodes.now in
    let y = get_or c.as_slice-entries.result.now (c.args.block / c.span-span.result) hole in
    let found : c.as_slice-entries.result.now ≡ c.args.root.now.value.items = cc in
    let h = is_in_root index c.args.depth c.args.block c.span-span.result c.args.root.now.value.items c.args.spare.now c.as_slice-entries.result.now found c.requires.trees c.requires.block.0 c.span-span.ensures c.requires.spare in
    let test : is_index y ≡ true = sym c.is_index.ensures ∙ c.if-is_index.true in
    up_spare index c.args.depth (c.args.depth - 1) c.args.block c.span-span.result c.args.root.now.value.items c.args.spare.now y h test refl

pub returns-then-is_index-clause-ok : goal.returns-then-is_index-clause-ok
returns-then-is_index-clause-ok c =
    let index = entries_by items_of c.args.nodes.now in
    let y = get_or c.as_slice-entries.result.now (c.args.block / c.span-span.result) hole in
    let found : c.as_slice-entries.result.now ≡ c.args.root.now.value.items = cc in
    let h = is_in_root index c.args.depth c.args.block c.span-span.result c.args.root.now.value.items c.args.spare.now c.as_slice-entries.result.now found c.requires.trees c.requires.block.0 c.span-span.ensures c.requires.spare in
    let test : is_index y ≡ true = sym c.is_index.ensures ∙ c.if-is_index.true in
    up_set index c.args.depth (c.args.depth - 1) c.args.block c.span-span.result c.args.root.now.value.items c.args.spare.now y h test refl (entries_by items_of c.set_below.new.nodes) c.args.sector c.in_ok-own.own (take c.in_ok-own.taken c.args.spare.now) c.in_ok-own.ensures.ok c.in_ok-own.ensures.kept.0 c.in_ok-own.ensures.kept.1

pub with_block-requires-clause-run : goal.with_block-requires-clause-run
with_block-requires-clause-run c =
    let index = entries_by items_of c.args.nodes.now in
    let y = get_or c.as_slice-entries.result.now (c.args.block / c.span-span.result) hole in
    let found : c.as_slice-entries.result.now ≡ c.args.root.now.value.items = cc in
    let h = is_in_root index c.args.depth c.args.block c.span-span.result c.args.root.now.value.items c.args.spare.now c.as_slice-entries.result.now found c.requires.trees c.requires.block.0 c.span-span.ensures c.requires.spare in
    root_run index c.args.depth c.args.block c.span-span.result c.args.root.now.value.items c.args.spare.now y h (sym c.is_index.ensures ∙ c.if-is_index.false)

pub returns-clause-ok : goal.returns-clause-ok
returns-clause-ok c =
    let index = entries_by items_of c.args.nodes.now in
    let y = get_or c.as_slice-entries.result.now (c.args.block / c.span-span.result) hole in
    let found : c.as_slice-entries.result.now ≡ c.args.root.now.value.items = cc in
    let h = is_in_root index c.args.depth c.args.block c.span-span.result c.args.root.now.value.items c.args.spare.now c.as_slice-entries.result.now found c.requires.trees c.requires.block.0 c.span-span.ensures c.requires.spare in
    let at = c.args.block / c.span-span.result in
    let other = entries_by items_of c.with_block.new.nodes in
    let made : set c.args.root.now.value.items at c.in_ok-entry.entry ≡ c.in_ok-root.field-0.value.items = sym (c.in_ok-root.ensures ∙ ap (λ xs. set xs at c.in_ok-entry.entry) (c.in_ok-copy.ensures.items ∙ found)) in
    subst (λ (xs : List Entry). AreBlocksSet index other c.args.depth c.args.block c.args.sector c.args.root.now.value.items xs (take c.in_ok-entry.taken c.args.spare.now)) made
    (root_plain index c.args.depth c.args.block c.span-span.result c.args.root.now.value.items c.args.spare.now y h other c.args.sector c.in_ok-entry.taken c.in_ok-entry.entry c.in_ok-entry.ensures.ok c.in_ok-entry.ensures.kept)

pub returns-in_err-own-clause-few : goal.returns-in_err-own-clause-few
returns-in_err-own-clause-few c =
    let index = entries_by items_of c.args.nodes.now in
    let y = get_or c.as_slice-entries.result.now (c.args.block / c.span-span.result) hole in
    let found : c.as_slice-entries.result.now ≡ c.args.root.now.value.items = cc in
    let h = is_in_root index c.args.depth c.args.block c.span-span.result c.args.root.now.value.items c.args.spare.now c.as_slice-entries.result.now found c.requires.trees c.requires.block.0 c.span-span.ensures c.requires.spare in
    let test : is_index y ≡ true = sym c.is_index.ensures ∙ c.if-is_index.true in
    let above = root_above index c.args.depth (c.args.depth - 1) c.args.block c.span-span.result c.args.root.now.value.items c.args.spare.now y h test refl in
    λ is. index_too_few index c.args.depth c.args.block c.span-span.result (length c.args.spare.now) c.args.root.now.value.items y c.span-span.ensures (root_at index c.args.depth c.args.block c.span-span.result c.args.root.now.value.items c.args.spare.now y h) h.entry (c.args.depth - 1) refl above test (c.in_err-own.ensures.few (passed_on c.from_residual.result c.in_err-own.field-0.0 TooFew c.from_residual.ensures.1 is))

pub returns-in_err-entry-clause-few : goal.returns-in_err-entry-clause-few
returns-in_err-entry-clause-few c =
    let index = entries_by items_of c.args.nodes.now in
    let y = get_or c.as_slice-entries.result.now (c.args.block / c.span-span.result) hole in
    let found : c.as_slice-entries.result.now ≡ c.args.root.now.value.items = cc in
    let h = is_in_root index c.args.depth c.args.block c.span-span.result c.args.root.now.value.items c.args.spare.now c.as_slice-entries.result.now found c.requires.trees c.requires.block.0 c.span-span.ensures c.requires.spare in
    λ is. plain_too_few index c.args.depth c.args.block c.span-span.result (length c.args.spare.now) c.args.root.now.value.items y c.span-span.ensures (root_at index c.args.depth c.args.block c.span-span.result c.args.root.now.value.items c.args.spare.now y h) h.entry (sym c.is_index.ensures ∙ c.if-is_index.false)
    (c.in_err-entry.ensures.few (passed_on c.from_residual-in_err-entry.result c.in_err-entry.field-0.0 TooFew c.from_residual-in_err-entry.ensures.1 is))

use Rattle.std.proofs.Common.{◌∙◌, ◌<◌, sym, arith}
use Rattle.extent_tree.specs.declared.entry.Entry.{Entry}
use Rattle.extent_tree.specs.Held.{entries_by}
use Rattle.extent_tree.proofs.Shapes.{here_fits, sector_here, index_here, found_trees, found_within, found_at}
use Rattle.extent_tree.proofs.tree.+sector_in.Goals as goal

abbrev hole : Entry
hole = record { sector = 0; length = 0 }

pub overflow_sub-depth : goal.overflow_sub-depth
overflow_sub-depth t c =
    index_here (entries_by (λ rc. rc.value.items) c.args.nodes.now) c.args.depth c.args.block c.span-span.result c.args.entries.now c.requires.trees c.span-span.ensures c.requires.within hole (sym c.is_index.ensures ∙ c.if-is_index.true)

pub sector_in-requires : goal.sector_in-requires
sector_in-requires t c =
    let index = entries_by (λ rc. rc.value.items) c.args.nodes.now in
    let test = sym c.is_index.ensures ∙ c.if-is_index.true in
    let above : 0 < c.args.depth = index_here index c.args.depth c.args.block c.span-span.result c.args.entries.now c.requires.trees c.span-span.ensures c.requires.within hole test in (
      omega (arith, c.decreases),
      (
        omega arith,
        (
          found_trees index c.args.depth c.args.block c.span-span.result c.args.entries.now c.requires.trees c.span-span.ensures c.requires.within hole test c.entries_of.result.now c.entries_of.ensures,
          found_within index c.args.depth c.args.block c.span-span.result c.args.entries.now c.requires.trees c.span-span.ensures c.requires.within hole test c.entries_of.result.now c.entries_of.ensures,
        ),
      ),
    )

pub returns-then-is_index : goal.returns-then-is_index
returns-then-is_index t c =
    found_at (entries_by (λ rc. rc.value.items) c.args.nodes.now) c.args.depth c.args.block c.span-span.result c.args.entries.now c.requires.trees c.span-span.ensures c.requires.within hole (sym c.is_index.ensures ∙ c.if-is_index.true) c.entries_of.result.now c.entries_of.ensures c.sector_in.result c.sector_in.ensures

pub sector_at-requires : goal.sector_at-requires
sector_at-requires t c =
    here_fits (entries_by (λ rc. rc.value.items) c.args.nodes.now) c.args.depth c.args.block c.span-span.result c.args.entries.now c.requires.trees c.span-span.ensures c.requires.within hole

pub returns : goal.returns
returns t c =
    sector_here (entries_by (λ rc. rc.value.items) c.args.nodes.now) c.args.depth c.args.block c.span-span.result c.args.entries.now c.requires.trees c.span-span.ensures c.requires.within hole c.sector_at.result (sym c.is_index.ensures ∙ c.if-is_index.false) c.sector_at.ensures

use Rattle.std.proofs.Common.{◌≡◌, ◌∙◌, ◌-◌, List, sym, refl, subst, arith}
use Rattle.extent_tree.specs.declared.entry.Entry.{Entry}
use Rattle.extent_tree.specs.Cutting.{AreLower}
use Rattle.extent_tree.specs.Held.{entries_by}
use Rattle.extent_tree.proofs.Cuts.{lower_run, lower_index, lower_parts}
use Rattle.extent_tree.proofs.Maps.{items_of}
use Rattle.extent_tree.proofs.cutting.lower.Goals as goal

pub returns-then-is_index : goal.returns-then-is_index
returns-then-is_index c =
    let index = entries_by items_of c.args.nodes.now in
    let y = c.index-first.result.now in
    let copied : c.in_ok-below.below.items ≡ index y.sector = c.in_ok-below.ensures.items ∙ c.entries_of.ensures in
    subst (λ (zs : List Entry). AreLower index c.args.depth (c.args.depth - 1) c.args.root.items zs c.args.freed.now.items c.push.new.self.items) (sym c.truncate.ensures.items)
    (lower_index index c.args.depth c.requires.trees.0 c.args.root.items c.in_ok-below.below.items y c.args.freed.now.items c.push.new.self.items c.requires.depth.0 c.requires.trees.1.0 c.requires.trees.1.1 c.requires.len c.index-first.ensures (sym c.is_index.ensures ∙ c.if-is_index.true) copied c.in_ok-push.ensures.items)

pub parts-requires-clause-fits : goal.parts-requires-clause-fits
parts-requires-clause-fits c =
    let index = entries_by items_of c.args.nodes.now in
    let y = c.index-first.result.now in
    let run = lower_run index c.args.depth c.requires.trees.0 c.args.root.items c.args.root.items y c.args.freed.now.items c.args.freed.now.items c.requires.depth.0 c.requires.trees.1.0 c.requires.trees.1.1 c.requires.len c.index-first.ensures (sym c.is_index.ensures ∙ c.if-is_index.false) in
    omega (arith, run.fits)

pub returns : goal.returns
returns c =
    let index = entries_by items_of c.args.nodes.now in
    let y = c.index-first.result.now in
    subst (λ (zs : List Entry). AreLower index c.args.depth (c.args.depth - 1) c.args.root.items zs c.args.freed.now.items c.args.freed.now.items) (sym c.truncate-2.ensures.items)
    (lower_parts index c.args.depth c.requires.trees.0 c.args.root.items c.in_ok-below-2.below.items y c.args.freed.now.items c.args.freed.now.items c.requires.depth.0 c.requires.trees.1.0 c.requires.trees.1.1 c.requires.len c.index-first.ensures (sym c.is_index.ensures ∙ c.if-is_index.false) c.in_ok-below-2.ensures refl)

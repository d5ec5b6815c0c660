use Rattle.std.proofs.Common.{◌∙◌, ◌-◌, ap, sym, refl, Vec, Global, ℕ, get_or, arith}
use Rattle.extent_tree.specs.Held.{entries_by, hole}
use Rattle.extent_tree.proofs.Maps.{items_of}
use Rattle.extent_tree.proofs.Cuts.{back_none, back_index, one_here, some_above, some_below}
use Rattle.extent_tree.proofs.cutting.+give_back.Goals as goal
use Rattle.extent_tree.proofs.cutting.+give_back.Goals.{then-is_index+in_ok-push+in_ok-give_back, else-is_index}

pub overflow_sub-depth : goal.overflow_sub-depth
overflow_sub-depth t c =
    omega (arith, some_above (entries_by items_of c.args.nodes.now) c.args.depth c.loop-entry.entry-index c.args.entries.now c.requires.trees c.loop-entry-test.true (sym c.is_index.ensures ∙ c.if-is_index.true))

pub give_back-requires : goal.give_back-requires
give_back-requires t c =
    let test = sym c.is_index.ensures ∙ c.if-is_index.true in
    let above = some_above (entries_by items_of c.args.nodes.now) c.args.depth c.loop-entry.entry-index c.args.entries.now c.requires.trees c.loop-entry-test.true test in
    (omega (arith, c.decreases), (omega arith, some_below (entries_by items_of c.args.nodes.now) c.args.depth c.loop-entry.entry-index c.args.entries.now c.requires.trees c.loop-entry-test.true c.entries_of.result.now test c.entries_of.ensures))

pub loop-entry-preserved : goal.loop-entry-preserved
loop-entry-preserved t c =
    let index = entries_by items_of c.args.nodes.now in
    let y = get_or c.args.entries.now c.loop-entry.entry-index hole in
    let here = one_here index c.args.depth c.loop-entry.entry-index c.args.entries.now c.requires.trees c.loop-entry-test.true in
    elim c.if-is_index.branch [
      | then-is_index+in_ok-push+in_ok-give_back w ↦
          let test = sym c.is_index.ensures ∙ w.if-is_index.true in
          let above = some_above index c.args.depth c.loop-entry.entry-index c.args.entries.now c.requires.trees c.loop-entry-test.true test in
          back_index index c.args.depth (c.args.depth - 1) c.loop-entry.entry-index c.args.entries.now c.args.freed.now.items c.loop-entry.freed.items w.push.new.self.items c.if-is_index.freed.items y w.entries_of.result.now c.loop-entry.invariant c.loop-entry-test.true here test above refl w.entries_of.ensures
          w.in_ok-push.ensures.items (ap (λ (v : Vec ℕ Global). v.items) w.freed-is ∙ w.in_ok-give_back.ensures)
      | else-is_index w ↦
          back_none index c.args.depth c.loop-entry.entry-index c.args.entries.now c.args.freed.now.items c.if-is_index.freed.items y (ap (λ (v : Vec ℕ Global). v.items) w.freed-is ∙ c.loop-entry.invariant) c.loop-entry-test.true here (sym c.is_index.ensures ∙ w.if-is_index.false)
    ]

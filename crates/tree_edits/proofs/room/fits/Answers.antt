use Rattle.std.proofs.Common.{◌∙◌, sym, arith}
use Rattle.tree_edits.specs.Edits.{edits_of}
use Rattle.tree_edits.specs.Outlines.{tree_without_data}
use Rattle.tree_edits.proofs.FitLaws.{too_charged, too_many, names_decide}
use Rattle.tree_edits.proofs.room.fits.Goals as goal
use Rattle.model_tree.specs.Trees.Edit.{edited}

pub returns : goal.returns
returns c =
    let tree = edited (edits_of c.args.edits.now) (tree_without_data c.args.table.now) in
    c.have_few_names.ensures ∙ names_decide c.args.limits.now tree
    (omega (arith, c.taken_after-taken.ensures.charge, c.if-taken-limits.false)) (omega (arith, c.taken_after-taken.ensures.nodes, c.if-taken-limits-2.false))

pub returns-then-taken-limits : goal.returns-then-taken-limits
returns-then-taken-limits c =
    let tree = edited (edits_of c.args.edits.now) (tree_without_data c.args.table.now) in
    sym (too_charged c.args.limits.now tree (omega (arith, c.taken_after-taken.ensures.charge, c.if-taken-limits.true)))

pub returns-then-taken-limits-2 : goal.returns-then-taken-limits-2
returns-then-taken-limits-2 c =
    let tree = edited (edits_of c.args.edits.now) (tree_without_data c.args.table.now) in
    sym (too_many c.args.limits.now tree (omega (arith, c.taken_after-taken.ensures.nodes, c.if-taken-limits-2.true)))

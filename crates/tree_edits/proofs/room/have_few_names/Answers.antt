use Rattle.std.proofs.Common.{sym, ap, arith}
use Rattle.tree_edits.specs.Edits.{edits_of}
use Rattle.tree_edits.specs.Outlines.{tree_without_data}
use Rattle.tree_edits.specs.Sizes.{names_in}
use Rattle.tree_edits.proofs.ChangeLaws.{few_over, few_each}
use Rattle.tree_edits.proofs.NamedLaws.{few_named}
use Rattle.tree_edits.proofs.PrefixLaws.{rising_outline, rising_behind, few_numbers}
use Rattle.tree_edits.proofs.SizeLaws.{names_there}
use Rattle.tree_edits.proofs.room.have_few_names.Goals as goal
use Rattle.model_tree.specs.Trees.Edit.{edited}
use Rattle.model_tree.specs.Trees.Keyed.{at}

pub returns-then-names_in-most : goal.returns-then-names_in-most
returns-then-names_in-most c =
    let tree = edited (edits_of c.args.edits.now) (tree_without_data c.args.table.now) in
    sym (few_over c.args.most c.number_of.result tree
    (omega (arith, c.if-names_in-most.true, c.names_in.ensures, ap names_in c.size_after.ensures.size, names_there (at c.number_of.result tree))))

pub returns : goal.returns
returns c =
    let known = c.requires.cached_nodes in
    let cached_nodes = c.args.table.now in
    let edits = c.args.edits.now in
    let rising = rising_outline known.0 known.1 cached_nodes known.2 in
    let last = rising_behind (tree_without_data cached_nodes) edits c.requires.can rising in
    sym (few_each c.args.most (edited (edits_of edits) (tree_without_data cached_nodes)) last.rises
    (few_numbers (tree_without_data cached_nodes) edits c.args.most c.requires.can rising
    (λ number. few_named c.args.most (tree_without_data cached_nodes) number c.requires.most)
    (λ place edit within. c.loop-edit.invariant place edit (omega (arith, within, c.loop-edit-test.false)))))

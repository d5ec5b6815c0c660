use Rattle.std.proofs.Common.{◌+◌, ◌^◌, length, sym, ap, ◌∙◌, arith, subst}
use Rattle.tree_edits.specs.Outlines.{tree_without_data}
use Rattle.tree_edits.specs.Sizes.{size_at, IsBelow, resized_by}
use Rattle.tree_edits.proofs.PrefixLaws.{behind_all, below_more, rising_outline, size_same}
use Rattle.tree_edits.proofs.PrefixLaws.{size_other}
use Rattle.tree_edits.proofs.room.size_after.Goals as goal
use Rattle.tree_edits.proofs.room.size_after.Goals.{then-number_of-number, else-number_of-number}
use Rattle.model_tree.specs.Trees.Tree.{Tree}

pub loop-edit-preserved : goal.loop-edit-preserved
loop-edit-preserved c =
    let known = c.requires.cached_nodes in
    let cached_nodes = c.args.table.now in
    let edits = c.args.edits.now in
    let rising = rising_outline known.0 known.1 cached_nodes known.2 in
    let count = c.loop-edit.edit-index in
    let edit = c.edit-item.result in
    let so_far = c.loop-edit.invariant in
    elim c.if-number_of-number.branch [
      | then-number_of-number w ↦ record {
        size = w.size-is ∙ w.resized-size.ensures.size ∙ ap (resized_by edit) so_far.size
            ∙ sym (size_same (tree_without_data cached_nodes) edits c.requires.can rising count edit c.loop-edit-test.true c.edit-item.is c.args.number (sym c.number_of.ensures ∙ w.if-number_of-number.true));
        small = subst (IsBelow (2 ^ 65 + (count + 1))) (sym w.size-is)
            (below_more (2 ^ 65 + count + 1) (2 ^ 65 + (count + 1)) w.resized-size.result (omega arith) (w.resized-size.ensures.small (2 ^ 65 + count) (omega arith) so_far.small));
      }
      | else-number_of-number w ↦ record {
        size = w.size-is ∙ so_far.size
            ∙ sym (size_other (tree_without_data cached_nodes) edits c.requires.can rising count edit c.loop-edit-test.true c.edit-item.is c.args.number (λ same. w.if-number_of-number.false (c.number_of.ensures ∙ same)));
        small = subst (IsBelow (2 ^ 65 + (count + 1))) (sym w.size-is) (below_more (2 ^ 65 + count) (2 ^ 65 + (count + 1)) c.loop-edit.size (omega arith) so_far.small);
      }
    ]

pub resized-size-requires : goal.resized-size-requires
resized-size-requires c = below_more (2 ^ 65 + c.loop-edit.edit-index) (2 ^ 66) c.loop-edit.size (omega (arith, c.loop-edit-test.true)) c.loop-edit.invariant.small

pub returns : goal.returns
returns c = record {
  size = c.loop-edit.invariant.size
      ∙ ap (λ (t : Tree). size_at t c.args.number) (behind_all (tree_without_data c.args.table.now) c.args.edits.now c.loop-edit.edit-index (omega (arith, c.loop-edit-test.false, c.loop-edit.auto.edit-index-end)));
  small = below_more (2 ^ 65 + c.loop-edit.edit-index) (2 ^ 65 + length c.args.edits.now) c.loop-edit.size (omega (arith, c.loop-edit.auto.edit-index-end)) c.loop-edit.invariant.small;
}

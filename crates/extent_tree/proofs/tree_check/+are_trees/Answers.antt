use Rattle.std.proofs.Common.{◌∙◌, ◌-◌, ℕ, get_or, min, refl, sym, ap}
use Rattle.std.proofs.lemmas.Bool.{false≢true}
use Rattle.extent_tree.specs.Held.{entries_by, hole}
use Rattle.extent_tree.proofs.Maps.{items_of}
use Rattle.extent_tree.proofs.Trees.{refuse_entry, refuse_index, pass, tree_plain, tree_index}
use Rattle.extent_tree.proofs.tree_check.+are_trees.Goals as goal
use Rattle.extent_tree.proofs.tree_check.+are_trees.Goals.{then-is_index+else-not-are_of_index+else-not-are_trees, else-is_index}

pub returns-then-not-is_entry : goal.returns-then-not-is_entry
returns-then-not-is_entry t c = (
  λ h. absurd (false≢true h),
  λ all. absurd (refuse_entry (entries_by items_of c.args.nodes.now) c.args.depth c.args.count c.loop-entry.left c.loop-entry.entry-index c.args.entries.now c.loop-entry.invariant c.loop-entry-test.true hole c.min-here.result (c.min-here.ensures ∙ ap (λ (n : ℕ). min c.loop-entry.left n) c.span-span.ensures)
      (λ is. false≢true (sym c.if-not-is_entry.true ∙ c.is_entry.ensures.1 is)) all),
)

pub returns-then-not-are_of_index : goal.returns-then-not-are_of_index
returns-then-not-are_of_index t c = (
  λ h. absurd (false≢true h),
  λ all. absurd (refuse_index (entries_by items_of c.args.nodes.now) c.args.depth c.args.count c.loop-entry.left c.loop-entry.entry-index c.args.entries.now c.loop-entry.invariant c.loop-entry-test.true hole c.min-here.result (c.min-here.ensures ∙ ap (λ (n : ℕ). min c.loop-entry.left n) c.span-span.ensures)
      c.entries_of-below.result.now (sym c.is_index.ensures ∙ c.if-is_index.true) c.entries_of-below.ensures
      (λ of. false≢true (sym c.if-not-are_of_index.true ∙ c.are_of_index.ensures.1 (of.len, of.some))) all),
)

pub returns-then-not-are_trees : goal.returns-then-not-are_trees
returns-then-not-are_trees t c = (
  λ h. absurd (false≢true h),
  λ all. absurd (refuse_index (entries_by items_of c.args.nodes.now) c.args.depth c.args.count c.loop-entry.left c.loop-entry.entry-index c.args.entries.now c.loop-entry.invariant c.loop-entry-test.true hole c.min-here.result (c.min-here.ensures ∙ ap (λ (n : ℕ). min c.loop-entry.left n) c.span-span.ensures)
      c.entries_of-below.result.now (sym c.is_index.ensures ∙ c.if-is_index.true) c.entries_of-below.ensures
      (λ of. false≢true (sym c.if-not-are_trees.true ∙ c.are_trees.ensures.1 of.each)) all),
)

pub loop-entry-preserved : goal.loop-entry-preserved
loop-entry-preserved t c =
    pass (entries_by items_of c.args.nodes.now) c.args.depth c.args.count c.loop-entry.left c.loop-entry.entry-index c.args.entries.now c.loop-entry.invariant c.loop-entry-test.true hole c.min-here.result (c.min-here.ensures ∙ ap (λ (n : ℕ). min c.loop-entry.left n) c.span-span.ensures)
    c.saturating_sub-left.result c.span-span.result
    (elim c.if-is_index.branch [
      | then-is_index+else-not-are_of_index+else-not-are_trees w ↦
          tree_index (entries_by items_of c.args.nodes.now) c.args.depth (c.args.depth - 1) c.min-here.result (get_or c.args.entries.now c.loop-entry.entry-index hole) w.entries_of-below.result.now (c.is_entry.ensures.0 c.if-not-is_entry.false) (sym c.is_index.ensures ∙ w.if-is_index.true) refl w.entries_of-below.ensures
          (record { len = (w.are_of_index.ensures.0 w.if-not-are_of_index.false).0; some = (w.are_of_index.ensures.0 w.if-not-are_of_index.false).1; each = w.are_trees.ensures.0 w.if-not-are_trees.false })
      | else-is_index w ↦ tree_plain (entries_by items_of c.args.nodes.now) c.args.depth c.min-here.result (get_or c.args.entries.now c.loop-entry.entry-index hole) (c.is_entry.ensures.0 c.if-not-is_entry.false) (sym c.is_index.ensures ∙ w.if-is_index.false)
    ])
    c.saturating_sub-left.ensures c.span-span.ensures

use Rattle.std.proofs.Common.{◌≡◌, ◌≤◌, drop}
use Rattle.tree_transaction.specs.declared.transaction.Transaction.{Transaction}
use Rattle.tree_transaction.specs.Transactions.{cached_nodes_of, end_of, IsKnown}
use Rattle.layout.specs.Stands.{HaveCurrentForms}
use Rattle.tree_edits.specs.Doing.{DoesEdits, Overfills}
use Rattle.tree_edits.specs.Edits.{AreDoable, StayFew}
use Rattle.tree_edits.specs.Outlines.{tree_without_data}
use Rattle.tree_edits.specs.Parts.{PartsAreBytes}
use Rattle.tree_edits.proofs.doing.edit_all.Given as goal

abbrev pub invariant-loop-edit : goal.invariant-loop-edit
invariant-loop-edit g l = record {
  known : IsKnown l.transaction;
  within : end_of l.transaction ≤ g.S.Sectors.size (g.S.Sectors.kept l.fn.base);
  forms : HaveCurrentForms (cached_nodes_of l.transaction);
  can : AreDoable (tree_without_data (cached_nodes_of l.transaction)) (drop l.edit-index l.edits);
  few : StayFew (tree_without_data (cached_nodes_of l.transaction)) (drop l.edit-index l.edits);
  does : (new : Transaction) → DoesEdits g.S.Sectors.keeps_word (g.S.Sectors.image (g.S.Sectors.kept l.fn.base)) (g.S.Sectors.size (g.S.Sectors.kept l.fn.base)) l.transaction new (drop l.edit-index l.edits)
      → DoesEdits g.S.Sectors.keeps_word (g.S.Sectors.image (g.S.Sectors.kept l.fn.base)) (g.S.Sectors.size (g.S.Sectors.kept l.fn.base)) l.fn.transaction new l.edits;
  full : Overfills l.transaction (drop l.edit-index l.edits)
      → Overfills l.fn.transaction l.edits;
  kept : g.S.Sectors.kept l.base ≡ g.S.Sectors.kept l.fn.base;
  table : l.transaction.cached_nodes.table ≡ l.fn.transaction.cached_nodes.table;
  parts : PartsAreBytes (drop l.edit-index l.edits) → PartsAreBytes l.edits;
  healthy : g.S.Sectors.health l.base ≡ g.S.Sectors.health l.fn.base;
}

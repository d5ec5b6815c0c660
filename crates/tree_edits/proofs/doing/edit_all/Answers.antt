use Rattle.std.proofs.Common.{◌≡◌, ◌+◌, List, [], ◌∷◌, drop, sym, ap, ◌∙◌, subst, arith}
use Rattle.std.specs.Prelude.{Err}
use Rattle.std.proofs.Math.ListN.{drop_of_length-le}
use Rattle.tree_transaction.specs.declared.transaction.Transaction.{Transaction}
use Rattle.tree_transaction.specs.Transactions.{cached_nodes_of}
use Rattle.tree_transaction.proofs.FaultLaws.{told}
use Rattle.tree_transaction.specs.declared.fault.TransactionFault.{TransactionFault}
use Rattle.tree_transaction.specs.declared.fault.TransactionFault.TheVariants as fault
use Rattle.tree_edits.specs.declared.edit.Edit.{Edit}
use Rattle.tree_edits.specs.Doing.{DoesEdits, Overfills}
use Rattle.tree_edits.specs.Edits.{AreDoable, StayFew}
use Rattle.tree_edits.specs.Outlines.{tree_without_data}
use Rattle.tree_edits.specs.Parts.{PartsAreBytes}
use Rattle.tree_edits.proofs.ListLaws.{next_edit, does_nothing, goes_on, still_doable, still_few, overfills_later, overfills_first}
use Rattle.tree_edits.proofs.doing.edit_all.Goals as goal

pub loop-edit-preserved : goal.loop-edit-preserved
loop-edit-preserved g c =
    let S = g.S.Sectors in
    let old : Transaction = c.loop-edit.transaction in
    let mid : Transaction = c.edit_one.new.transaction in
    let kept = S.kept c.args.base.now in
    let edit : Edit = c.edit-item.result in
    let rest : List Edit = drop (c.loop-edit.edit-index + 1) c.args.edits.now in
    let next : drop c.loop-edit.edit-index c.args.edits.now ≡ edit ∷ rest = next_edit c.args.edits.now c.loop-edit.edit-index edit c.loop-edit-test.true c.edit-item.is in
    let so_far = c.loop-edit.invariant in
    let first : DoesEdits S.keeps_word (S.image kept) (S.size kept) old mid (edit ∷ []) =
    subst (λ k. DoesEdits S.keeps_word (S.image k) (S.size k) old mid (edit ∷ [])) so_far.kept c.in_ok-edit_one.ensures.done in
    record {
      known = first.known.known;
      within = omega (arith, first.known.nodes, first.known.places, so_far.within);
      forms = first.forms so_far.forms;
      can = still_doable S.keeps_word (S.image kept) (S.size kept) old mid edit first rest (subst (AreDoable (tree_without_data (cached_nodes_of old))) next so_far.can);
      few = still_few S.keeps_word (S.image kept) (S.size kept) old mid edit first rest (subst (StayFew (tree_without_data (cached_nodes_of old))) next so_far.few);
      does = λ new does. so_far.does new (subst (λ (l : List Edit). DoesEdits S.keeps_word (S.image kept) (S.size kept) old new l) (sym next)
          (goes_on S.keeps_word (S.image kept) (S.size kept) old mid edit first new rest does));
      full = λ over. so_far.full (subst (Overfills old) (sym next) (overfills_later S.keeps_word (S.image kept) (S.size kept) old mid edit first rest over));
      kept = c.edit_one.ensures.kept.0 ∙ so_far.kept;
      table = c.edit_one.ensures.kept.1 ∙ so_far.table;
      parts = λ are. so_far.parts (subst PartsAreBytes (sym next) (c.in_ok-edit_one.ensures.parts, are));
      healthy = (let it = c.in_ok-edit_one.ensures.health in it.stays (λ faulted. cc)) ∙ so_far.healthy;
    }

pub returns-in_err-edit_one-clause-full : goal.returns-in_err-edit_one-clause-full
returns-in_err-edit_one-clause-full g c = λ full.
    let edit : Edit = c.edit-item.result in
    let rest : List Edit = drop (c.loop-edit.edit-index + 1) c.args.edits.now in
    let so_far = c.loop-edit.invariant in
    so_far.full (subst (Overfills c.loop-edit.transaction) (sym (next_edit c.args.edits.now c.loop-edit.edit-index edit c.loop-edit-test.true c.edit-item.is))
    (overfills_first c.loop-edit.transaction edit rest (c.in_err-edit_one.ensures.full
    (ap (λ (f : TransactionFault). Err f) (told c.from_residual.result c.in_err-edit_one.field-0.0 fault.Full c.from_residual.ensures.1 full)))))

pub returns-clause-done : goal.returns-clause-done
returns-clause-done g c =
    let S = g.S.Sectors in
    let kept = S.kept c.args.base.now in
    let so_far = c.loop-edit.invariant in
    let none_left : drop c.loop-edit.edit-index c.args.edits.now ≡ [] = drop_of_length-le c.args.edits.now (omega (arith, c.loop-edit-test.false)) in
    record {
      does = so_far.does c.loop-edit.transaction (subst (λ (l : List Edit). DoesEdits S.keeps_word (S.image kept) (S.size kept) c.loop-edit.transaction c.loop-edit.transaction l)
          (sym none_left) (does_nothing S.keeps_word (S.image kept) (S.size kept) c.loop-edit.transaction so_far.known));
      parts = so_far.parts (subst PartsAreBytes (sym none_left) tt);
    }

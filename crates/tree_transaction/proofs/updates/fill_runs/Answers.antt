use Rattle.std.proofs.Common.{◌≡◌, ◌∙◌, ap, sym, List, ℕ, set, None}
use Rattle.disk.specs.declared.update.Update.{Update}
use Rattle.tree_transaction.specs.Updates.{target_of, encoded}
use Rattle.tree_transaction.proofs.PendingLaws.{encoded-put, target-encoded}
use Rattle.tree_transaction.proofs.UpdateLaws.{target_of-at}
use Rattle.tree_transaction.proofs.updates.fill_runs.Goals as goal

pub returns-clause-put : goal.returns-clause-put
returns-clause-put c =
    let list = c.args.list.now.items in
    let pending = c.args.pending.now.items in
    let place = c.args.place in
    let before = encoded list pending in
    let target = ap (λ (update : Update). update.target) c.index_mut.ensures.value ∙ sym (target_of-at list place c.index_mut.result.now c.requires.within) ∙ sym (target-encoded list pending place) in
    encoded-put list pending place (record { target = c.index_mut.result.now.target; content = c.write_run_sector.new.sector }) c.requires.whole
    ∙ ap (λ (t : ℕ). set before place (record { target = t; content = c.write_run_sector.new.sector })) target
    ∙ ap (λ (content : List ℕ). set before place (record { target = target_of before place; content = content })) c.write_run_sector.ensures

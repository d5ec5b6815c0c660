use Rattle.std.proofs.Common.{◌≡◌, Vec, Global, sym, subst}
use Rattle.std.proofs.lemmas.Result.{IfOk-weaker}
use Rattle.disk.specs.declared.update.Update.{Update}
use Rattle.model_tree.specs.Seats.SeatEdits.{edits_view}
use Rattle.volume.specs.SeatTransactions.{AreUpdates}
use Rattle.volume.specs.SeatUpdates.{updates_by}
use Rattle.volume.proofs.SeatEdits.{every_transaction}
use Rattle.volume.proofs.seat_updates.updates_of.Goals as goal

pub returns : goal.returns
returns c =
    let version = c.args.version in
    let edits = edits_view c.args.edits.now in
    IfOk-weaker c.all_updates.result (λ (updates : Vec Update Global). updates.items ≡ updates_by version edits) (λ (updates : Vec Update Global). AreUpdates version edits updates.items)
    (λ updates is. subst (AreUpdates version edits) (sym is) (every_transaction version c.requires c.args.edits.now))
    c.all_updates.ensures

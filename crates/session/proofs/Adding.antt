-- EXCHANGE_ID's new record, by what the records return.
use Rattle.std.proofs.Common.{◌≡◌, ℕ, ◌+◌, List, [], ◌∷◌, ◌++◌, Option, Result, Ok, Err, sym, ap, ◌∙◌}
use Rattle.model_tree.specs.declared.status.Status.{Status}
use Rattle.model.specs.Operations.Operation.{ExchangeIdArguments}
use Rattle.model.specs.Operations.Answer.{ExchangeIdAnswer as Answered}
use Rattle.model_tree.specs.Seats.Seats.{Seats}
use Rattle.model.specs.Sessions.Session.{Client, Session, SessionLimits, Settings, Table, new_record, exchange_answer, use_non_pnfs}
use Rattle.session.specs.Calls.{Exchanged}
use Rattle.session.specs.Rooms.{Adds, records_staying, record_of, yielded_for}
use Rattle.session.specs.Views.{table_by, roll_of, clients_of, cleared_of}
use Rattle.session.specs.declared.clients.Clients.{Clients}
use Rattle.model.specs.declared.not_done.NotDone.{NotDone}
use Rattle.model.specs.declared.not_done.NotDone.TheVariants as refusal
use Rattle.session.proofs.Exchanging.{new_full, new_made}

module _ (limits : SessionLimits) (uid : ℕ) (arguments : ExchangeIdArguments) (dropped yielded : Option ℕ) (old new : Clients) (book : ℕ × List Session) (seating : Settings × Seats)
    (is : yielded ≡ yielded_for limits.clients arguments.owner dropped (table_by (roll_of old) book seating)) where
  abbrev before : Table
  before = table_by (roll_of old) book seating

  abbrev wanted : Result Answered Status × Table
  wanted = new_record limits uid arguments before (cleared_of dropped before)

  pub added_err : (e : NotDone) → Adds limits.clients uid arguments dropped yielded old new (Err e) → Exchanged wanted before (table_by (roll_of new) book seating) (Err e)
  added_err (refusal.Status reason) h =
      new_full limits uid arguments dropped yielded before is h.0
      ∙ ap (λ (s : Status). (Err s, before)) (sym h.1)
      ∙ ap (λ (roll : ℕ × ℕ × List Client). (Err reason, table_by roll book seating)) (sym h.2)
  added_err refusal.Memory h = (
    ap (λ (wanted : Result Answered Status × Table). wanted.1.client_serial) (new_made limits uid arguments dropped yielded before is h.0),
    ap (λ (roll : ℕ × ℕ × List Client). table_by roll book seating) h.1,
  )

  pub added_ok : (number : ℕ) (answered : Answered) → Adds limits.clients uid arguments dropped yielded old new (Ok number) → answered ≡ exchange_answer seating.0.name number 1 0x10000
      → wanted ≡ (Ok answered, table_by (roll_of new) book seating)
  added_ok number answered h e =
      let staying : List Client = records_staying arguments.owner dropped yielded (clients_of old) in
      new_made limits uid arguments dropped yielded before is h.0
      ∙ ap (λ m. (Ok (exchange_answer seating.0.name m 1 use_non_pnfs), table_by (old.run, old.serial + 1, staying ++ record_of uid arguments m ∷ []) book seating)) (sym h.1)
      ∙ ap (λ (roll : ℕ × ℕ × List Client). (Ok (exchange_answer seating.0.name number 1 use_non_pnfs), table_by roll book seating)) (sym h.2)
      ∙ ap (λ (a : Answered). (Ok a, table_by (roll_of new) book seating)) (sym e)

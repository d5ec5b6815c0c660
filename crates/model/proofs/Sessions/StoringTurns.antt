-- A turn that executes an operation lets no seat hold a reply: that is a turn of its own.
use Rattle.std.proofs.Common.{◌≡◌, ℕ, ◌⊎◌, inl, inr, Bool, true, false, cond, List, find, Option, None, Some, refl, ap, ◌∙◌}
use Rattle.model_tree.specs.declared.status.Status.{Status}
use Rattle.model_tree.specs.declared.status.Status.TheVariants as status
use Rattle.model.specs.Operations.Answer.{Outcome, Done, Refused}
use Rattle.model.specs.Operations.Operation.{operation_of}
use Rattle.model.specs.Server.Runs.{stored_as, kept_at, stored_by}
use Rattle.model_tree.specs.Seats.Seats.{Seats, has_seat}
use Rattle.model.specs.Sessions.Session.{Table, Session, is_session, slot_at, held_reply, held_by, finish}
use Rattle.model.specs.Server.World.{World, InProgress, Entry, Turned, with_result, result_of, kept_by, is_to_hold, closes, behind, is_last, one, noting}
use Rattle.model.proofs.Sessions.SeatLaws.{holding_none}
use Rattle.model.proofs.Sessions.TableCalls.{either}
use Rattle.model.proofs.Server.TurnCases.{IsTurn, Idles, Says, Closes, Unread, TooBig, Gave, Repeats, turn_is, read_of}

-- no seat has changed if the session has none
module _ (id : List ℕ) (place : ℕ) (reply : List ℕ) where
  held_none : (seats : Seats) (known : Option Session) → has_seat id seats ≡ false → held_by id place reply seats known ≡ seats
  held_none seats None _ = refl
  held_none seats (Some session) none = holding_none id place (held_reply reply (slot_at session place)) seats none

  pub same_seats : (table : Table) → has_seat id table.seats ≡ false → (finish id place true reply table).seats ≡ table.seats
  unfolding finish
  same_seats table none = held_none table.seats (find (is_session id) table.sessions) none

  pub nothing_stored : (table : Table) → has_seat id table.seats ≡ false → stored_by (finish id place true reply table) (Some (id, place)) true ≡ None
  nothing_stored table none =
      ap (λ (b : Bool). cond b (stored_as id place (kept_at id place (finish id place true reply table))) None)
      (ap (has_seat id) (same_seats table none) ∙ none)

-- the turn executes nothing, or no seat holds a reply by it
abbrev pub StoresAlone : Turned → Type 0
StoresAlone t = (t.executed ≡ None) ⊎ (stored_by t.world.table t.keeps t.holds ≡ None)

pub unheld : (slot : Option (List ℕ × ℕ)) (table : Table) → stored_by table slot false ≡ None
unheld None table = refl
unheld (Some slot) table = refl

closes_alone : (number : ℕ) (after : World) (request : InProgress) (last : Status) (executed : Option Entry) → StoresAlone (closes after number request last executed)
closes_alone number after request last executed =
    either StoresAlone (is_to_hold request after.table) _ _
    (λ seated. inr refl)
    (λ none. inr (unheld request.slot (kept_by request.slot false (result_of request last) after.table)))

behind_alone : (number : ℕ) (after : World) (request : InProgress) (outcome : Outcome) (executed : Option Entry) → StoresAlone (behind after number request outcome executed)
behind_alone number after request (Refused operation reason) executed = closes_alone number after (with_result request (Refused operation reason)) reason executed
behind_alone number after request (Done answer) executed =
    either StoresAlone (is_last request) _ _
    (λ last. closes_alone number after (with_result request (Done answer)) status.Ok executed)
    (λ more. inr refl)

turned_alone : (world : World) (number now : ℕ) (t : Turned) → IsTurn world number now t → StoresAlone t
turned_alone world number now _ Idles = inl refl
turned_alone world number now _ (Says bytes xid reply waits) = inl refl
turned_alone world number now _ (Closes request last there ended) = inl refl
turned_alone world number now _ (Unread request operation reason goes) = behind_alone number world request (Refused operation reason) None
turned_alone world number now _ (TooBig request operation rest goes reads) =
    behind_alone number world (noting world world operation (read_of request rest)) (Refused (operation_of operation) status.RepTooBig) _
turned_alone world number now _ (Gave request operation rest outcome after left goes reads ran) = behind_alone number after (noting world after operation left) outcome _
turned_alone world number now _ (Repeats request operation rest result session slot goes reads ran) = inl refl

pub one_alone : (world : World) (number now : ℕ) → StoresAlone (one world number now)
one_alone world number now = turned_alone world number now (one world number now) (turn_is world number now)

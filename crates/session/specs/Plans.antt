-- CREATE_SESSION, DESTROY_SESSION, and a reply that a seat is to hold, in two steps. The plan takes
-- all memory and says how the seats change, so that the volume keeps them first; then the table
-- changes.
use Rattle.std.specs.Prelude.{◌≡◌, ◌<◌, ℕ, ◌+◌, List, [], ◌∷◌, ◌++◌, None, Some, Result, Ok, Err, vec_len, vec_capacity}
use Rattle.std.specs.List.{find}
use Rattle.model.specs.declared.not_done.NotDone.{NotDone}
use Rattle.model.specs.declared.not_done.NotDone.TheVariants as refusal
use Rattle.model_tree.specs.declared.seat_edits.SeatEdits.{SeatEdits}
use Rattle.model_tree.specs.Seats.Seats.{is_seat_of, freed}
use Rattle.model_tree.specs.Seats.SeatEdits.{AreEdits, edited_all, edits_view}
use Rattle.model.specs.Sessions.Session as model
use Rattle.model.specs.Sessions.Session.{CreateSessionOutcome, create_refused, confirmed_with, is_client, is_of_clients, is_replaced_by, is_session, changed_where, without_where, destroy_session, held_by}
use Rattle.wire.specs.AnswerViews.{create_session_view}
use Rattle.session.specs.Given.{AreGiven}
use Rattle.session.specs.Rooms.{ended_by}
use Rattle.session.specs.Views.{session_of}
use Rattle.session.specs.declared.plan.CreatedSession.{CreatedSession}
use Rattle.session.specs.declared.plan.Creation.{Creation}
use Rattle.session.specs.declared.plan.Creation.TheVariants as creation
use Rattle.session.specs.declared.plan.NewSession.{NewSession}
use Rattle.session.specs.declared.table.Table.{Table}

-- CREATE_SESSION

-- the table once the planned session of this client is made
abbrev pub opened : model.Client → NewSession → model.Table → model.Table
opened client plan old = record old {
  session_serial = plan.session.serial;
  clients =
      changed_where (is_client plan.session.client) (confirmed_with (create_session_view plan.answer))
      (without_where (is_replaced_by client) old.clients);
  sessions =
      without_where (is_of_clients plan.ended.items) old.sessions ++ session_of plan.session ∷ [];
  seats = edited_all (edits_view plan.edits) old.seats;
}

-- what the table's own step rests on
pub record Opens (new old : model.Table) (plan : NewSession) : Type 0 where
  pub client : model.Client
  pub named : client.number ≡ plan.session.client
  pub ends : plan.ended.items ≡ ended_by client old.clients
  pub serial : plan.session.serial ≡ old.session_serial + 1
  pub given : AreGiven old.run plan.session.serial (edited_all (edits_view plan.edits) old.seats)
  pub table : new ≡ opened client plan old

-- the plan does what it should
pub record IsPlanned (wanted : CreateSessionOutcome) (old : model.Table)
    (plan : NewSession) : Type 0 where
  pub answer : wanted.answer ≡ Ok (create_session_view plan.answer)
  pub ended : wanted.ended_clients ≡ plan.ended.items
  pub seats : wanted.table.seats ≡ edited_all (edits_view plan.edits) old.seats
  pub opens : Opens wanted.table old plan

-- If a kept result is returned again, or there is none, the table is to stay. If memory runs out,
-- which happens only for a new session, there is no plan. A seat has at most `slots` slots.
abbrev pub Plans : (slots : ℕ) → CreateSessionOutcome → model.Table → Result Creation NotDone
    → Type 0
Plans slots wanted old (Ok (creation.Again answer)) =
    wanted ≡ record { answer = Ok (create_session_view answer); ended_clients = []; table = old }
Plans slots wanted old (Ok (creation.New plan)) =
    IsPlanned wanted old plan × AreEdits old.run slots (edits_view plan.edits) old.seats
Plans slots wanted old (Err (refusal.Status reason)) = wanted ≡ create_refused reason old
Plans slots wanted old (Err refusal.Memory) = wanted.table.session_serial ≡ old.session_serial + 1

-- the memory for one more session is taken
abbrev pub HasRoom : Table → Type 0
HasRoom table = vec_len table.sessions.list < vec_capacity table.sessions.list

abbrev pub HasRoomFor : Table → Creation → Type 0
HasRoomFor table (creation.Again answer) = Unit {0}
HasRoomFor table (creation.New plan) = HasRoom table

-- the result is the one that it should be, and that table is left
abbrev pub Created : CreateSessionOutcome → model.Table → CreatedSession → Type 0
Created wanted new created =
    (wanted.answer ≡ Ok (create_session_view created.answer))
    × (wanted.ended_clients ≡ created.ended.items) × (wanted.table ≡ new)

-- DESTROY_SESSION

pub record IsEndPlanned (id : List ℕ) (old : model.Table) (plan : SeatEdits) : Type 0 where
  pub done : (destroy_session id old).0 ≡ None
  pub seats : edited_all (edits_view plan) old.seats ≡ freed (is_seat_of id) old.seats
  pub left : (destroy_session id old).1.seats ≡ edited_all (edits_view plan) old.seats
  pub edits : (slots : ℕ) → AreEdits old.run slots (edits_view plan) old.seats

abbrev pub PlansEnd : List ℕ → model.Table → Result SeatEdits NotDone → Type 0
PlansEnd id old (Ok plan) = IsEndPlanned id old plan
PlansEnd id old (Err (refusal.Status reason)) = destroy_session id old ≡ (Some reason, old)
PlansEnd id old (Err refusal.Memory) = (destroy_session id old).0 ≡ None

-- A reply that is to be held

pub record IsHoldPlanned (id : List ℕ) (slot : ℕ) (reply : List ℕ) (old : model.Table)
    (plan : SeatEdits) : Type 0 where
  pub seats : edited_all (edits_view plan) old.seats
      ≡ held_by id slot reply old.seats (find (is_session id) old.sessions)
  pub edits : (slots : ℕ) → AreEdits old.run slots (edits_view plan) old.seats

-- How a planned session changes a table.
use Rattle.std.proofs.Common.{◌≡◌, ℕ, ◌+◌, ◌≤◌, Bool, true, false, if◌then◌else◌, List, [], ◌∷◌, ◌++◌, length, replicate, Option, None, is_some, refl, sym, ap, ◌∙◌, arith}
use Rattle.std.proofs.lemmas.Bool.{true≢false}
use Rattle.std.proofs.lemmas.List.{length-replicate}
use Rattle.model.specs.Operations.Operation.{Channel, CreateSessionArguments}
use Rattle.model.specs.Operations.Answer.{CreateSessionAnswer}
use Rattle.model_tree.specs.Seats.Seats.{HeldReply, Seat, Seats, seated}
use Rattle.model_tree.specs.Seats.SeatEdits.{edited_all}
use Rattle.model.specs.Sessions.Session.{Client, Session, Table, SessionLimits, session_id, limits_for, fore_channel, create_session_answer, new_session, with_new_session, lacks_seat, gives_way, seats_after, seats_staying, persists, replaced_by, is_client, is_replaced_by, is_of_clients, confirmed_with, changed_where, without_where, no_slot}
use Rattle.session.specs.Seating.{place_for, seat_with, edits_with}
use Rattle.session.proofs.Taking.{persists_is, seats_are}

-- the result, and the session, by the fore channel and whether there is a seat
abbrev pub answer_at : CreateSessionArguments → ℕ → ℕ → Bool → Channel → CreateSessionAnswer
answer_at arguments serial number seated fore = record {
  session = session_id number (serial + 1);
  sequence = arguments.sequence;
  flags = if seated then 1 else 0;
  fore = fore;
  back = record arguments.back { rdma_ird = None };
}

abbrev pub session_at : ℕ → ℕ → Channel → Session
session_at serial number fore = record { client = number; serial = serial + 1; max_operations = fore.max_operations; slots = replicate fore.max_requests no_slot }

-- a session that has a seat has at most as many slots as that may have
seated_few : (limits : SessionLimits) (seated : Bool) (asked : Channel) → seated ≡ true → (fore_channel (limits_for limits seated) asked).max_requests ≤ limits.seat_slots
seated_few limits true asked is = omega arith
seated_few limits false asked is = absurd (true≢false (sym is))

module _ (limits : SessionLimits) (arguments : CreateSessionArguments) (client : Client) (table : Table) (place : Option ℕ) (placed : place ≡ place_for (lacks_seat arguments client table) arguments client table)
    (fore : Channel) (channel : fore ≡ fore_channel (limits_for limits (is_some place)) arguments.fore) where
  abbrev wanted_fore : Bool → Channel
  wanted_fore seated = fore_channel (limits_for limits seated) arguments.fore

  pub created_is : create_session_answer limits arguments client table ≡ answer_at arguments table.session_serial client.number (is_some place) fore
  created_is =
      ap (λ (b : Bool). answer_at arguments table.session_serial client.number b (wanted_fore b)) (persists_is arguments client table place placed)
      ∙ ap (answer_at arguments table.session_serial client.number (is_some place)) (sym channel)

  same_operations : (b : Bool) → (fore_channel limits arguments.fore).max_operations ≡ (wanted_fore b).max_operations
  same_operations true = refl
  same_operations false = refl

  pub session_is : new_session limits arguments client table ≡ session_at table.session_serial client.number fore
  session_is =
      ap (λ (operations : ℕ). record (new_session limits arguments client table) { max_operations = operations }) (same_operations (persists arguments client table))
      ∙ ap (λ (b : Bool). session_at table.session_serial client.number (wanted_fore b)) (persists_is arguments client table place placed)
      ∙ ap (session_at table.session_serial client.number) (sym channel)

  -- its seat
  abbrev pub seat_at : Seat
  seat_at = seat_with client (session_id client.number (table.session_serial + 1)) fore.max_requests

  pub seat_few : is_some place ≡ true → length seat_at.slots ≤ limits.seat_slots
  seat_few seated =
      let slots = ap (λ (c : Channel). c.max_requests) channel in
      let few = seated_few limits (is_some place) arguments.fore seated in
      omega (arith, slots, few, length-replicate {A = Option HeldReply} fore.max_requests None)

  pub seats_is : seats_after limits arguments client table ≡ edited_all (edits_with (gives_way arguments client table) place seat_at table.seats) table.seats
  seats_is =
      ap (λ (b : Bool). if b then seated (seat_with client (session_id client.number (table.session_serial + 1)) (wanted_fore b).max_requests) (seats_staying arguments client table) else seats_staying arguments client table)
      (persists_is arguments client table place placed)
      ∙ ap (λ (c : Channel). if is_some place then seated (seat_with client (session_id client.number (table.session_serial + 1)) c.max_requests) (seats_staying arguments client table) else seats_staying arguments client table)
      (sym channel)
      ∙ sym (seats_are arguments client table seat_at place placed)

  abbrev table_at : ℕ → ℕ → CreateSessionAnswer → List ℕ → Session → Seats → Table
  table_at number serial answer ended session seats = record table {
    session_serial = serial;
    clients = changed_where (is_client number) (confirmed_with answer) (without_where (is_replaced_by client) table.clients);
    sessions = without_where (is_of_clients ended) table.sessions ++ session ∷ [];
    seats = seats;
  }

  pub table_is : (number serial : ℕ) (answer : CreateSessionAnswer) (ended : List ℕ) (session : Session) (seats : Seats)
      → client.number ≡ number → serial ≡ table.session_serial + 1 → answer ≡ answer_at arguments table.session_serial client.number (is_some place) fore
      → ended ≡ replaced_by client table → session ≡ session_at table.session_serial client.number fore → seats ≡ seats_after limits arguments client table
      → with_new_session limits arguments client table ≡ record table {
        session_serial = serial;
        clients = changed_where (is_client number) (confirmed_with answer) (without_where (is_replaced_by client) table.clients);
        sessions = without_where (is_of_clients ended) table.sessions ++ session ∷ [];
        seats = seats;
      }
  table_is number serial answer ended session seats named next answered ends made seat =
      let asked = create_session_answer limits arguments client table in
      let new = new_session limits arguments client table in
      ap (λ (n : ℕ). table_at n (table.session_serial + 1) asked (replaced_by client table) new (seats_after limits arguments client table)) named
      ∙ ap (λ (n : ℕ). table_at number n asked (replaced_by client table) new (seats_after limits arguments client table)) (sym next)
      ∙ ap (λ (a : CreateSessionAnswer). table_at number serial a (replaced_by client table) new (seats_after limits arguments client table)) (created_is ∙ sym answered)
      ∙ ap (λ (e : List ℕ). table_at number serial answer e new (seats_after limits arguments client table)) (sym ends)
      ∙ ap (λ (s : Session). table_at number serial answer ended s (seats_after limits arguments client table)) (session_is ∙ sym made)
      ∙ ap (λ (s : Seats). table_at number serial answer ended session s) (sym seat)

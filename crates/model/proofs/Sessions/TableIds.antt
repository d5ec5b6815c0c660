-- No client id and no session's serial is given twice.
use Rattle.std.proofs.Common.{◌≡◌, ℕ, ◌<◌, Bool, true, false, not, cond, ◌||◌, ◌==◌, nat_lt, List, [], ◌∷◌, map, filter, Option, None, Some, Result, refl, ap, ◌∙◌, arith, find, eq-eqb, lt-ltb}
use Rattle.std.specs.List.{list_all, list_any}
use Rattle.std.proofs.lemmas.Bool.{and_from, or_right, or_left}
use Rattle.model_tree.specs.Seats.Seats.{Seats, has_seat, freed, is_seat_of}
use Rattle.model_tree.specs.declared.status.Status.{Status}
use Rattle.model_tree.specs.Refusals.Refusal.{first_refusal}
use Rattle.model.specs.Operations.Operation.{ExchangeIdArguments, CreateSessionArguments, SequenceArguments}
use Rattle.model.specs.Operations.Answer.{CreateSessionAnswer, ExchangeIdAnswer}
use Rattle.model.specs.Sessions.Session.{SessionLimits, Client, Slot, Session, Table, Begun, Refuses, Replays, Runs, Running, Kept, slot_at, client_number, with_clients, with_sessions, without_unconfirmed, without_client, new_client, with_new_client, is_full_of_clients, new_record, exchange_by, exchange_id, is_confirmed_of, is_unconfirmed_of, exchange_flags, has_only, has_state, is_client, is_session, confirmed_with, create_session_answer, create_refusals, create_unless, create_again, create_by, create_session, new_session, staying, is_of_clients, replaced_by, is_running, CreateSessionOutcome, next_number, destroy_by, destroy_session, destroy_client_by, destroy_client_id, reclaim_by, reclaim_complete, begin, started, finish, held_by, yielding, is_unconfirmed_client}
use Rattle.model.specs.Sessions.SessionRuns.{Exchanges, Creates, Destroys, DestroysClient, Reclaims, Begins, Finishes, started_by}
use Rattle.model.specs.Sessions.SessionTables.{has_serial, was_there, is_new, session_was_there, is_new_session, GivesNew, EveryCallGivesNew}
use Rattle.model.proofs.Sessions.TableLaws.{all-filter, all-append, all-map, all-weaker, confirms, stays}
use Rattle.model.proofs.Sessions.TableCalls.{either, marked, mark_same, slotted, slot_serial}
use Rattle.model.proofs.Sessions.Yielding.{yielding_is}

-- A list is there itself

each_there : {A : Type 0} (t : A → A → Bool) → ((x : A) → t x x ≡ true) → (xs : List A) → list_all (λ x. list_any (t x) xs) xs ≡ true
each_there t self [] = refl
each_there t self (x ∷ xs) =
    and_from (t x x || list_any (t x) xs) (list_all (λ y. t y x || list_any (t y) xs) xs)
    (ap (λ b. b || list_any (t x) xs) (self x))
    (all-weaker (λ y. list_any (t y) xs) (λ y. t y x || list_any (t y) xs) xs (λ y is. or_right (t y x) (list_any (t y) xs) is) (each_there t self xs))

unchanged : (table : Table) → GivesNew table table
unchanged table = record {
  run = refl;
  settings = refl;
  clients = all-weaker (was_there table) (λ c. was_there table c || is_new table c) table.clients
      (λ c. or_left (was_there table c) (is_new table c))
      (each_there (λ c d. is_client c.number d) (λ c. eq-eqb c.number c.number refl) table.clients);
  client_serial = omega arith;
  sessions = all-weaker (session_was_there table) (λ s. session_was_there table s || is_new_session table s) table.sessions
      (λ s. or_left (session_was_there table s) (is_new_session table s))
      (each_there (λ s d. has_serial s.serial d) (λ s. eq-eqb s.serial s.serial refl) table.sessions);
  session_serial = omega arith;
}

module _ (before : Table) where
  abbrev pub known : Client → Bool
  known c = was_there before c || is_new before c

  abbrev pub known_session : Session → Bool
  known_session s = session_was_there before s || is_new_session before s

  other_clients : (table : Table) (clients : List Client) → GivesNew before table → list_all known clients ≡ true
      → GivesNew before (with_clients clients table)
  other_clients table clients gives all = record {
    run = gives.run;
    settings = gives.settings;
    clients = all;
    client_serial = gives.client_serial;
    sessions = gives.sessions;
    session_serial = gives.session_serial;
  }

  other_sessions : (table : Table) (sessions : List Session) → GivesNew before table → list_all known_session sessions ≡ true
      → GivesNew before (with_sessions sessions table)
  other_sessions table sessions gives all = record {
    run = gives.run;
    settings = gives.settings;
    clients = gives.clients;
    client_serial = gives.client_serial;
    sessions = all;
    session_serial = gives.session_serial;
  }

  -- what ends, what is changed but not in its number, and what is new

  fewer_clients : (table : Table) (q : Client → Bool) → GivesNew before table → GivesNew before (with_clients (filter q table.clients) table)
  fewer_clients table q gives = other_clients table (filter q table.clients) gives (all-filter known q table.clients gives.clients)

  fewer_sessions : (table : Table) (q : Session → Bool) → GivesNew before table → GivesNew before (with_sessions (filter q table.sessions) table)
  fewer_sessions table q gives = other_sessions table (filter q table.sessions) gives (all-filter known_session q table.sessions gives.sessions)

  -- a test of a number
  by_number : ℕ → Bool
  by_number number = list_any (is_client number) before.clients || nat_lt (client_number before.run before.client_serial) number

  changed_clients : (table : Table) (f : Client → Client) → ((c : Client) → (f c).number ≡ c.number) → GivesNew before table
      → GivesNew before (with_clients (map f table.clients) table)
  unfolding by_number
  changed_clients table f same gives = other_clients table (map f table.clients) gives
      (all-map known f table.clients (λ c is. ap by_number (same c) ∙ is) gives.clients)

  by_serial : ℕ → Bool
  by_serial serial = list_any (has_serial serial) before.sessions || nat_lt before.session_serial serial

  changed_sessions : (table : Table) (f : Session → Session) → ((s : Session) → (f s).serial ≡ s.serial) → GivesNew before table
      → GivesNew before (with_sessions (map f table.sessions) table)
  unfolding by_serial
  changed_sessions table f same gives = other_sessions table (map f table.sessions) gives
      (all-map known_session f table.sessions (λ s is. ap by_serial (same s) ∙ is) gives.sessions)

  further_client : (uid : ℕ) (arguments : ExchangeIdArguments) (table : Table) → GivesNew before table → GivesNew before (with_new_client uid arguments table)
  further_client uid arguments table gives =
      let new = new_client uid arguments table in
      let order = gives.client_serial in
      let above : client_number before.run before.client_serial < new.number = omega (arith, order, gives.run) in
      record {
        run = gives.run;
        settings = gives.settings;
        clients = all-append known table.clients new gives.clients
            (or_right (was_there before new) (is_new before new) (lt-ltb (client_number before.run before.client_serial) new.number above));
        client_serial = omega (arith, order);
        sessions = gives.sessions;
        session_serial = gives.session_serial;
      }

  -- EXCHANGE_ID

  new_record_gives : (limits : SessionLimits) (uid : ℕ) (arguments : ExchangeIdArguments) (table cleared : Table) → GivesNew before table → GivesNew before cleared
      → GivesNew before (new_record limits uid arguments table cleared).1
  new_record_gives limits uid arguments table cleared old gives =
      let first = without_unconfirmed arguments.owner cleared in
      let fewer = fewer_clients cleared (λ x. not (is_unconfirmed_of arguments.owner x)) gives in
      let room = yielding limits first in
      either (λ (r : Result ExchangeIdAnswer Status × Table). GivesNew before r.1) (is_full_of_clients limits room) _ _
      (λ full. old)
      (λ free. further_client uid arguments room
      (yielding_is (GivesNew before) limits first fewer (λ number. fewer_clients first (λ x. not (is_unconfirmed_client number x)) fewer)))

  exchange_by_gives : (limits : SessionLimits) (has_opens : ℕ → Bool) (uid : ℕ) (arguments : ExchangeIdArguments) (table : Table) (client : Option Client)
      → GivesNew before table → GivesNew before (exchange_by limits has_opens uid arguments table client).1
  exchange_by_gives limits has_opens uid arguments table None gives = new_record_gives limits uid arguments table table gives gives
  exchange_by_gives limits has_opens uid arguments table (Some client) gives =
      let P : Result ExchangeIdAnswer Status × Table → Type 0 = λ r. GivesNew before r.1 in
      either P (client.principal == uid) _ _
      (λ same. either P _ _ _
      (λ verifier. fewer_clients table (λ x. not (is_unconfirmed_of arguments.owner x)) gives)
      (λ other. new_record_gives limits uid arguments table table gives gives))
      (λ other. either P _ _ _
      (λ busy. gives)
      (λ idle. new_record_gives limits uid arguments table (without_client client.number table) gives
      (fewer_clients table (λ x. not (is_client client.number x)) gives)))

  -- CREATE_SESSION

  created_gives : (limits : SessionLimits) (arguments : CreateSessionArguments) (client : Client) (table : Table) (first : Option Status) → GivesNew before table
      → GivesNew before (create_unless limits arguments client table first).table
  created_gives limits arguments client table (Some reason) gives = gives
  created_gives limits arguments client table None gives =
      let answer = create_session_answer limits arguments client table in
      let fewer = fewer_clients table (stays client answer) gives in
      let changed = changed_clients (with_clients (filter (stays client answer) table.clients) table) (confirms client answer)
      (λ c. number_same answer c (is_client client.number c)) fewer in
      let staying_known = fewer_sessions table (λ x. not (is_of_clients (replaced_by client table) x)) gives in
      let new = new_session limits arguments client table in
      let order = gives.session_serial in
      let above : before.session_serial < new.serial = omega (arith, order) in
      record {
        run = gives.run;
        settings = gives.settings;
        clients = changed.clients;
        client_serial = gives.client_serial;
        sessions = all-append known_session (staying client table) new staying_known.sessions
            (or_right (session_was_there before new) (is_new_session before new) (lt-ltb before.session_serial new.serial above));
        session_serial = omega (arith, order);
      }
    where
      number_same : (answer : CreateSessionAnswer) (c : Client) (b : Bool) → (cond b (confirmed_with answer c) c).number ≡ c.number
      number_same answer c true = refl
      number_same answer c false = refl

  create_again_gives : (limits : SessionLimits) (arguments : CreateSessionArguments) (client : Client) (table : Table) (kept : Option CreateSessionAnswer)
      → GivesNew before table → GivesNew before (create_again limits arguments client table kept).table
  create_again_gives limits arguments client table None gives =
      created_gives limits arguments client table (first_refusal (create_refusals limits arguments client table)) gives
  create_again_gives limits arguments client table (Some answer) gives =
      either (λ (o : CreateSessionOutcome). GivesNew before o.table) (next_number arguments.sequence == client.sequence) _ _
      (λ same. gives)
      (λ other. created_gives limits arguments client table (first_refusal (create_refusals limits arguments client table)) gives)

  create_by_gives : (limits : SessionLimits) (uid : ℕ) (arguments : CreateSessionArguments) (table : Table) (client : Option Client) → GivesNew before table
      → GivesNew before (create_by limits uid arguments table client).table
  create_by_gives limits uid arguments table None gives = gives
  create_by_gives limits uid arguments table (Some client) gives =
      either (λ (o : CreateSessionOutcome). GivesNew before o.table) (client.principal == uid) _ _
      (λ own. create_again_gives limits arguments client table client.kept gives)
      (λ other. gives)

  -- The others

  reseated : (table : Table) (seats : Seats) → GivesNew before table → GivesNew before (record table { seats = seats })
  reseated table seats gives = record {
    run = gives.run;
    settings = gives.settings;
    clients = gives.clients;
    client_serial = gives.client_serial;
    sessions = gives.sessions;
    session_serial = gives.session_serial;
  }

  destroy_gives : (id : List ℕ) (table : Table) (session : Option Session) → GivesNew before table → GivesNew before (destroy_by id table session).1
  destroy_gives id table None gives =
      either (λ (r : Option Status × Table). GivesNew before r.1) (has_seat id table.seats) _ _
      (λ seated. reseated table (freed (is_seat_of id) table.seats) gives) (λ none. gives)
  destroy_gives id table (Some session) gives =
      either (λ (r : Option Status × Table). GivesNew before r.1) (is_running session) _ _
      (λ runs. gives)
      (λ rests. reseated _ (freed (is_seat_of id) table.seats) (fewer_sessions table (λ x. not (is_session id x)) gives))

  destroy_client_gives : (has_opens : ℕ → Bool) (number : ℕ) (table : Table) (client : Option Client) → GivesNew before table
      → GivesNew before (destroy_client_by has_opens number table client).1
  destroy_client_gives has_opens number table None gives = gives
  destroy_client_gives has_opens number table (Some client) gives =
      either (λ (r : Option Status × Table). GivesNew before r.1) (has_state has_opens table number) _ _
      (λ busy. gives)
      (λ idle. fewer_clients table (λ x. not (is_client number x)) gives)

  reclaim_gives : (number : ℕ) (table : Table) (client : Option Client) → GivesNew before table → GivesNew before (reclaim_by number table client).1
  reclaim_gives number table None gives = gives
  reclaim_gives number table (Some client) gives =
      either (λ (r : Option Status × Table). GivesNew before r.1) client.has_reclaimed _ _
      (λ done. gives)
      (λ first. changed_clients table (marked number) (mark_same (λ c. c.number) (λ c. refl) number) gives)

  started_gives : (uid : ℕ) (arguments : SequenceArguments) (table : Table) (begun : Begun) → GivesNew before table → GivesNew before (started_by uid arguments table begun)
  unfolding started
  started_gives uid arguments table (Refuses reason) gives = gives
  started_gives uid arguments table (Replays reply) gives = gives
  started_gives uid arguments table Runs gives =
      let slot : Session → Slot = λ _. record { last = arguments.sequence; uid = uid; state = Running } in
      changed_sessions table (slotted arguments.session arguments.slot slot) (slot_serial arguments.session arguments.slot slot) gives

  finish_gives : (id : List ℕ) (place : ℕ) (holds : Bool) (reply : List ℕ) (table : Table) → GivesNew before table → GivesNew before (finish id place holds reply table)
  unfolding finish
  finish_gives id place holds reply table gives =
      let slot : Session → Slot = λ session. record (slot_at session place) { state = Kept reply } in
      reseated _ (finish id place holds reply table).seats (changed_sessions table (slotted id place slot) (slot_serial id place slot) gives)

pub every_call_gives_new : EveryCallGivesNew
unfolding exchange_id create_session destroy_session destroy_client_id reclaim_complete
every_call_gives_new limits (Exchanges has_opens uid arguments) table =
    either (λ (r : Result ExchangeIdAnswer Status × Table). GivesNew table r.1) (has_only exchange_flags arguments.flags) _ _
    (λ known. exchange_by_gives table limits has_opens uid arguments table (find (is_confirmed_of arguments.owner) table.clients) (unchanged table))
    (λ unknown. unchanged table)
every_call_gives_new limits (Creates uid arguments) table =
    create_by_gives table limits uid arguments table (find (is_client arguments.client) table.clients) (unchanged table)
every_call_gives_new limits (Destroys session) table = destroy_gives table session table (find (is_session session) table.sessions) (unchanged table)
every_call_gives_new limits (DestroysClient has_opens number) table =
    destroy_client_gives table has_opens number table (find (is_client number) table.clients) (unchanged table)
every_call_gives_new limits (Reclaims number) table = reclaim_gives table number table (find (is_client number) table.clients) (unchanged table)
every_call_gives_new limits (Begins uid count arguments) table = started_gives table uid arguments table (begin uid count arguments table) (unchanged table)
every_call_gives_new limits (Finishes session slot holds reply) table = finish_gives table session slot holds reply table (unchanged table)

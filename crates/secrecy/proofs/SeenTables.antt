-- The calls on a table make the same of what somebody sees of it.
use Rattle.std.proofs.Common.{◌≡◌, ◌+◌, ◌-◌, ◌^◌, ◌++◌, ◌==◌, min, ℕ, zero, suc, Bool, true, false, cond, not, ◌&&◌, ◌||◌, nat_lt, nat_le, List, [], ◌∷◌, Option, Some, None, Ok, Err, find, filter, length, map, replicate, refl, sym, ap, ap₂, ◌∙◌, bytes_eq}
use Rattle.std.specs.List.{list_any}
use Rattle.std.specs.Prelude.{option_map, slice_set, slice_index_or, is_some}
use Rattle.std.proofs.lemmas.List.{length-replicate, length-map}
use Rattle.model_tree.specs.Seats.Seats.{HeldReply, Seat, Seats, is_seat_of, seat_of, has_seat, freed, has_free, seated, with_held, holds_if, holding}
use Rattle.model_tree.specs.declared.status.Status.{Status}
use Rattle.model_tree.specs.declared.status.Status.TheVariants as status
use Rattle.model.specs.Operations.Operation.{ExchangeIdArguments, CreateSessionArguments, SequenceArguments}
use Rattle.model.specs.Operations.Answer.{CreateSessionAnswer}
use Rattle.model_tree.specs.Refusals.Refusal.{Refusals, first_refusal}
use Rattle.model.specs.Sessions.Session.{SessionLimits, Client, Slot, SlotState, Free, Running, Kept, Session, Table, session_id, is_session, is_client, is_of_client, is_running_state, is_running, has_state, is_seat_among, without_where, with_sessions, without_this, yielding, has_most_clients, is_unconfirmed, new_record, is_full_of_clients, exchange_answer, new_client, use_non_pnfs, with_new_client, without_unconfirmed, exchange_by, without_client, exchange_id, has_only, exchange_flags, is_confirmed_of, without_seat, destroy_by, destroy_session, destroy_client_by, destroy_client_id, reclaim_by, reclaim_complete, staying, is_of_clients, replaced_by, is_done_with, is_dead, is_dead_before, id_number, is_oldest_dead, lacks_seat, asks_seat, gives_way, seats_staying, persists, is_full_of_sessions, create_refusals, session_flags, is_too_small, fore_channel, limits_for, create_session_answer, slots_given, new_session, no_slot, new_seat, seats_after, with_new_session, changed_where, confirmed_with, is_replaced_by, create_unless, create_again, next_number, CreateSessionOutcome, create_refused, create_by, create_session, slot_at, Begun, Refuses, Replays, Runs, begin_new, begin_slot, begin_held, begin_dead, begin_by, begin, with_slot, started, finished_slot, held_reply, held_by, finish}
use Rattle.model.proofs.Sessions.SlotLaw.{id_of}
use Rattle.model.proofs.Sessions.TableCalls.{found_passes}
use Rattle.std.proofs.lemmas.Slice.Eq.{bytes_eq-Decides}
use Rattle.secrecy.specs.Onlookers.{Onlooker, seen_bytes, seen_state, seen_slot, seen_session, seen_held, seen_seat, seen_table}

-- Bytes

pub seen-length : (his : Bool) (bytes : List ℕ) → length (seen_bytes his bytes) ≡ length bytes
seen-length true bytes = refl
seen-length false bytes = let none : ℕ = 0 in length-replicate (length bytes) none

pub seen-same : (his : Bool) (one other : List ℕ) → (his ≡ true → one ≡ other) → length one ≡ length other → seen_bytes his one ≡ seen_bytes his other
seen-same true one other same long = same refl
seen-same false one other same long = ap (λ (n : ℕ). replicate n 0) long

pub seen-twice : (his : Bool) (bytes : List ℕ) → seen_bytes his (seen_bytes his bytes) ≡ seen_bytes his bytes
seen-twice true bytes = refl
seen-twice false bytes = ap (λ (n : ℕ). replicate n 0) (seen-length false bytes)

-- Lists

map-any : {A : Type 0} (test : A → Bool) (f : A → A) → ((x : A) → test (f x) ≡ test x) → (xs : List A) → list_any test (map f xs) ≡ list_any test xs
map-any test f same [] = refl
map-any test f same (x ∷ xs) = ap₂ (λ (a b : Bool). a || b) (same x) (map-any test f same xs)

any-alike : {A : Type 0} (one other : A → Bool) → ((x : A) → one x ≡ other x) → (xs : List A) → list_any one xs ≡ list_any other xs
any-alike one other same [] = refl
any-alike one other same (x ∷ xs) = ap₂ (λ (a b : Bool). a || b) (same x) (any-alike one other same xs)

map-filter : {A : Type 0} (test : A → Bool) (f : A → A) → ((x : A) → test (f x) ≡ test x) → (xs : List A) → filter test (map f xs) ≡ map f (filter test xs)
map-filter test f same [] = refl
map-filter {A} test f same (x ∷ xs) =
    ap₂ (λ (b : Bool) (rest : List A). cond b (f x ∷ rest) rest) (same x) (map-filter test f same xs) ∙ by_test (test x)
  where
    by_test : (b : Bool) → cond b (f x ∷ map f (filter test xs)) (map f (filter test xs)) ≡ map f (cond b (x ∷ filter test xs) (filter test xs))
    by_test true = refl
    by_test false = refl

map-find : {A : Type 0} (test : A → Bool) (f : A → A) → ((x : A) → test (f x) ≡ test x) → (xs : List A) → find test (map f xs) ≡ option_map f (find test xs)
map-find test f same [] = refl
map-find {A} test f same (x ∷ xs) =
    ap₂ (λ (b : Bool) (rest : Option A). cond b (Some (f x)) rest) (same x) (map-find test f same xs) ∙ by_test (test x)
  where
    by_test : (b : Bool) → cond b (Some (f x)) (option_map f (find test xs)) ≡ option_map f (cond b (Some x) (find test xs))
    by_test true = refl
    by_test false = refl

map-map : {A : Type 0} (f g h k : A → A) → ((x : A) → f (g x) ≡ h (k x)) → (xs : List A) → map f (map g xs) ≡ map h (map k xs)
map-map f g h k same [] = refl
map-map {A} f g h k same (x ∷ xs) = ap₂ (λ (y : A) (ys : List A). y ∷ ys) (same x) (map-map f g h k same xs)

map-append : {A : Type 0} (f : A → A) (xs ys : List A) → map f (xs ++ ys) ≡ map f xs ++ map f ys
map-append f [] ys = refl
map-append {A} f (x ∷ xs) ys = ap (λ (rest : List A). f x ∷ rest) (map-append f xs ys)

map-twice : {A : Type 0} (f : A → A) → ((x : A) → f (f x) ≡ f x) → (xs : List A) → map f (map f xs) ≡ map f xs
map-twice f same [] = refl
map-twice {A} f same (x ∷ xs) = ap₂ (λ (y : A) (ys : List A). y ∷ ys) (same x) (map-twice f same xs)

-- Slots, sessions and seats

state-twice : (his : Bool) (state : SlotState) → seen_state his (seen_state his state) ≡ seen_state his state
state-twice his Free = refl
state-twice his Running = refl
state-twice his (Kept reply) = ap Kept (seen-twice his reply)

slot-twice : (his : Bool) (slot : Slot) → seen_slot his (seen_slot his slot) ≡ seen_slot his slot
slot-twice his slot = ap (λ (state : SlotState). record slot { state = state }) (state-twice his slot.state)

held-twice : (his : Bool) (held : Option HeldReply) → seen_held his (seen_held his held) ≡ seen_held his held
held-twice his None = refl
held-twice his (Some held) = ap (λ (bytes : List ℕ). Some (record held { result = bytes })) (seen-twice his held.result)

running-seen : (his : Bool) (slot : Slot) → is_running_state (seen_slot his slot).state ≡ is_running_state slot.state
running-seen his slot = by_state slot.state
  where
    by_state : (state : SlotState) → is_running_state (seen_state his state) ≡ is_running_state state
    by_state Free = refl
    by_state Running = refl
    by_state (Kept reply) = refl

module _ (who : Onlooker) where
  pub session-twice : (session : Session) → seen_session who (seen_session who session) ≡ seen_session who session
  session-twice session =
      ap (λ (slots : List Slot). record session { slots = slots })
      (map-twice (seen_slot (who.has_session (session_id session.client session.serial))) (slot-twice (who.has_session (session_id session.client session.serial))) session.slots)

  pub seat-twice : (seat : Option Seat) → seen_seat who (seen_seat who seat) ≡ seen_seat who seat
  seat-twice None = refl
  seat-twice (Some seat) =
      ap (λ (slots : List (Option HeldReply)). Some (record seat { slots = slots }))
      (map-twice (seen_held (who.has_session seat.session)) (held-twice (who.has_session seat.session)) seat.slots)

  pub table-twice : (table : Table) → seen_table who (seen_table who table) ≡ seen_table who table
  table-twice table =
      ap₂ (λ (sessions : List Session) (seats : Seats). record table { sessions = sessions; seats = seats })
      (map-twice (seen_session who) session-twice table.sessions) (map-twice (seen_seat who) seat-twice table.seats)

  running-session : (session : Session) → is_running (seen_session who session) ≡ is_running session
  running-session session =
      map-any (λ (slot : Slot). is_running_state slot.state) (seen_slot (who.has_session (session_id session.client session.serial)))
      (running-seen (who.has_session (session_id session.client session.serial))) session.slots

-- The calls

cond-map : {A B : Type 0} (f : A → B) (b : Bool) (x y : A) → cond b (f x) (f y) ≡ f (cond b x y)
cond-map f true x y = refl
cond-map f false x y = refl

-- two alternatives, whose test and whose results are the same
cond-same : {A B : Type 0} (f : A → B) (one other : Bool) (x y : B) (z w : A) → one ≡ other → x ≡ f z → y ≡ f w → cond one x y ≡ f (cond other z w)
cond-same f one other x y z w same first second = ap (λ (b : Bool). cond b x y) same ∙ (ap₂ (λ (a b : _). cond other a b) first second ∙ cond-map f other z w)

replicate-map : {A : Type 0} (f : A → A) (count : ℕ) (x : A) → f x ≡ x → map f (replicate count x) ≡ replicate count x
replicate-map f zero x same = refl
replicate-map {A} f (suc count) x same = ap₂ (λ (y : A) (ys : List A). y ∷ ys) same (replicate-map f count x same)

module _ (who : Onlooker) where
  abbrev sees : Table → Table
  sees = seen_table who

  -- the sessions of a client, and the seats of sessions

  any-sessions : (test : Session → Bool) → ((session : Session) → test (seen_session who session) ≡ test session) → (sessions : List Session)
      → list_any test (map (seen_session who) sessions) ≡ list_any test sessions
  any-sessions test same sessions = map-any test (seen_session who) same sessions

  state-seen : (has_opens : ℕ → Bool) (table : Table) (number : ℕ) → has_state has_opens (sees table) number ≡ has_state has_opens table number
  state-seen has_opens table number = ap (λ (b : Bool). b || has_opens number) (any-sessions (is_of_client number) (λ session. refl) table.sessions)

  among-seen : (sessions : List Session) (seat : Seat) → is_seat_among (map (seen_session who) sessions) seat ≡ is_seat_among sessions seat
  among-seen sessions seat = any-sessions (is_session seat.session) (λ session. refl) sessions

  abbrev pub seat_seen : Seat → Seat
  seat_seen seat = record seat { slots = map (seen_held (who.has_session seat.session)) seat.slots }

  -- EXCHANGE_ID

  abbrev pub lifted : {A : Type 0} → A × Table → A × Table
  lifted r = (r.0, sees r.1)

  without-this-seen : (known : Option Client) (table : Table) → without_this known (sees table) ≡ sees (without_this known table)
  without-this-seen None table = refl
  without-this-seen (Some client) table = refl

  yielding-seen : (limits : SessionLimits) (table : Table) → yielding limits (sees table) ≡ sees (yielding limits table)
  yielding-seen limits table =
      cond-same sees (table.settings.yields_when_full && has_most_clients limits table) _ _ _ _ _ refl (without-this-seen (find is_unconfirmed table.clients) table) refl

  record-seen : (limits : SessionLimits) (uid : ℕ) (arguments : ExchangeIdArguments) (table cleared : Table)
      → new_record limits uid arguments (sees table) (sees cleared) ≡ lifted (new_record limits uid arguments table cleared)
  record-seen limits uid arguments table cleared =
      let room = yielding limits (without_unconfirmed arguments.owner cleared) in
      ap (λ (room : Table). cond (is_full_of_clients limits room) (Err status.Delay, sees table)
      (Ok (exchange_answer table.settings.name (new_client uid arguments room).number 1 use_non_pnfs), with_new_client uid arguments room))
      (yielding-seen limits (without_unconfirmed arguments.owner cleared))
      ∙ cond-map lifted (is_full_of_clients limits room) (Err status.Delay, table)
      (Ok (exchange_answer table.settings.name (new_client uid arguments room).number 1 use_non_pnfs), with_new_client uid arguments room)

  exchange-by-seen : (limits : SessionLimits) (has_opens : ℕ → Bool) (uid : ℕ) (arguments : ExchangeIdArguments) (table : Table) (known : Option Client)
      → exchange_by limits has_opens uid arguments (sees table) known ≡ lifted (exchange_by limits has_opens uid arguments table known)
  exchange-by-seen limits has_opens uid arguments table None = record-seen limits uid arguments table table
  exchange-by-seen limits has_opens uid arguments table (Some client) =
      cond-same lifted (client.principal == uid) _ _ _ _ _ refl
      (cond-same lifted (bytes_eq client.verifier arguments.verifier) _ _ _ _ _ refl refl (record-seen limits uid arguments table table))
      (cond-same lifted (has_state has_opens (sees table) client.number) (has_state has_opens table client.number) _ _ _ _ (state-seen has_opens table client.number) refl
      (record-seen limits uid arguments table (without_client client.number table)))

  pub exchange-seen : (limits : SessionLimits) (has_opens : ℕ → Bool) (uid : ℕ) (arguments : ExchangeIdArguments) (table : Table)
      → exchange_id limits has_opens uid arguments (sees table) ≡ lifted (exchange_id limits has_opens uid arguments table)
  unfolding exchange_id
  exchange-seen limits has_opens uid arguments table =
      cond-same lifted (has_only exchange_flags arguments.flags) _ _ _ _ _ refl
      (exchange-by-seen limits has_opens uid arguments table (find (is_confirmed_of arguments.owner) table.clients)) refl

  -- Seats that go

  freed-seen : (one other : Seat → Bool) → ((seat : Seat) → one (seat_seen seat) ≡ other seat) → (seats : Seats)
      → freed one (map (seen_seat who) seats) ≡ map (seen_seat who) (freed other seats)
  freed-seen one other same [] = refl
  freed-seen one other same (None ∷ seats) = ap (λ (rest : Seats). None ∷ rest) (freed-seen one other same seats)
  freed-seen one other same (Some seat ∷ seats) =
      ap₂ (λ (place : Option Seat) (rest : Seats). place ∷ rest)
      (cond-same (seen_seat who) (one (seat_seen seat)) (other seat) None (Some (seat_seen seat)) None (Some seat) (same seat) refl refl) (freed-seen one other same seats)

  free-seen : (seats : Seats) → has_free (map (seen_seat who) seats) ≡ has_free seats
  free-seen [] = refl
  free-seen (None ∷ seats) = refl
  free-seen (Some seat ∷ seats) = free-seen seats

  seats-any : (one other : Option Seat → Bool) → ((place : Option Seat) → one (seen_seat who place) ≡ other place) → (seats : Seats)
      → list_any one (map (seen_seat who) seats) ≡ list_any other seats
  seats-any one other same [] = refl
  seats-any one other same (place ∷ seats) = ap₂ (λ (a b : Bool). a || b) (same place) (seats-any one other same seats)

  seat-of-seen : (id : List ℕ) (seats : Seats) → seat_of id (map (seen_seat who) seats) ≡ seen_seat who (seat_of id seats)
  seat-of-seen id [] = refl
  seat-of-seen id (None ∷ seats) = seat-of-seen id seats
  seat-of-seen id (Some seat ∷ seats) =
      cond-same (seen_seat who) (is_seat_of id seat) (is_seat_of id seat) _ _ (Some seat) (seat_of id seats) refl refl (seat-of-seen id seats)

  pub has-seat-seen : (id : List ℕ) (seats : Seats) → has_seat id (map (seen_seat who) seats) ≡ has_seat id seats
  has-seat-seen id seats = ap is_some (seat-of-seen id seats) ∙ by_seat (seat_of id seats)
    where
      by_seat : (place : Option Seat) → is_some (seen_seat who place) ≡ is_some place
      by_seat None = refl
      by_seat (Some seat) = refl

  -- DESTROY_SESSION, DESTROY_CLIENTID, RECLAIM_COMPLETE

  without-seat-seen : (id : List ℕ) (table : Table) → without_seat id (sees table) ≡ sees (without_seat id table)
  without-seat-seen id table =
      ap (λ (seats : Seats). record (sees table) { seats = seats }) (freed-seen (is_seat_of id) (is_seat_of id) (λ seat. refl) table.seats)

  without-session-seen : (id : List ℕ) (table : Table)
      → with_sessions (without_where (is_session id) (sees table).sessions) (sees table) ≡ sees (with_sessions (without_where (is_session id) table.sessions) table)
  without-session-seen id table =
      ap (λ (sessions : List Session). record (sees table) { sessions = sessions }) (map-filter (λ x. not (is_session id x)) (seen_session who) (λ x. refl) table.sessions)

  destroy-by-seen : (id : List ℕ) (table : Table) (known : Option Session) → destroy_by id (sees table) (option_map (seen_session who) known) ≡ lifted (destroy_by id table known)
  destroy-by-seen id table None =
      cond-same lifted (has_seat id (sees table).seats) (has_seat id table.seats) _ _ (None, without_seat id table) (Some status.BadSession, table) (has-seat-seen id table.seats)
      (ap (λ (t : Table). (None, t)) (without-seat-seen id table)) refl
  destroy-by-seen id table (Some session) =
      cond-same lifted (is_running (seen_session who session)) (is_running session) _ _ (Some status.Delay, table)
      (None, without_seat id (with_sessions (without_where (is_session id) table.sessions) table)) (running-session who session) refl
      (ap (λ (t : Table). (None, without_seat id t)) (without-session-seen id table)
      ∙ ap (λ (t : Table). (None, t)) (without-seat-seen id (with_sessions (without_where (is_session id) table.sessions) table)))

  pub find-seen : (id : List ℕ) (sessions : List Session) → find (is_session id) (map (seen_session who) sessions) ≡ option_map (seen_session who) (find (is_session id) sessions)
  find-seen id sessions = map-find (is_session id) (seen_session who) (λ session. refl) sessions

  pub destroy-seen : (id : List ℕ) (table : Table) → destroy_session id (sees table) ≡ lifted (destroy_session id table)
  unfolding destroy_session
  destroy-seen id table =
      ap (destroy_by id (sees table)) (find-seen id table.sessions) ∙ destroy-by-seen id table (find (is_session id) table.sessions)

  destroy-client-by-seen : (has_opens : ℕ → Bool) (number : ℕ) (table : Table) (known : Option Client)
      → destroy_client_by has_opens number (sees table) known ≡ lifted (destroy_client_by has_opens number table known)
  destroy-client-by-seen has_opens number table None = refl
  destroy-client-by-seen has_opens number table (Some client) =
      cond-same lifted (has_state has_opens (sees table) number) (has_state has_opens table number) _ _ (Some status.ClientIdBusy, table) (None, without_client number table)
      (state-seen has_opens table number) refl refl

  pub destroy-client-seen : (has_opens : ℕ → Bool) (number : ℕ) (table : Table) → destroy_client_id has_opens number (sees table) ≡ lifted (destroy_client_id has_opens number table)
  unfolding destroy_client_id
  destroy-client-seen has_opens number table = destroy-client-by-seen has_opens number table (find (is_client number) table.clients)

  reclaim-by-seen : (number : ℕ) (table : Table) (known : Option Client) → reclaim_by number (sees table) known ≡ lifted (reclaim_by number table known)
  reclaim-by-seen number table None = refl
  reclaim-by-seen number table (Some client) = cond-same lifted client.has_reclaimed _ _ _ _ _ refl refl refl

  pub reclaim-seen : (number : ℕ) (table : Table) → reclaim_complete number (sees table) ≡ lifted (reclaim_complete number table)
  unfolding reclaim_complete
  reclaim-seen number table = reclaim-by-seen number table (find (is_client number) table.clients)

  -- CREATE_SESSION

  abbrev pub with_table_in : CreateSessionOutcome → CreateSessionOutcome
  with_table_in outcome = record outcome { table = sees outcome.table }

  module _ (arguments : CreateSessionArguments) (client : Client) (table : Table) where
    staying-seen : staying client (sees table) ≡ map (seen_session who) (staying client table)
    staying-seen = map-filter (λ x. not (is_of_clients (replaced_by client table) x)) (seen_session who) (λ x. refl) table.sessions

    done-with-seen : (seat : Seat) → is_done_with client (sees table) (seat_seen seat) ≡ is_done_with client table seat
    done-with-seen seat =
        ap₂ (λ (among stays : Bool). cond among (not stays) (bytes_eq seat.owner client.owner && seat.principal == client.principal))
        (among-seen table.sessions seat)
        (ap (λ (sessions : List Session). is_seat_among sessions seat) staying-seen ∙ among-seen (staying client table) seat)

    dead-seen : (seat : Seat) → is_dead (sees table) (seat_seen seat) ≡ is_dead table seat
    dead-seen seat = ap not (among-seen table.sessions seat)

    before-seen : (seat : Seat) (place : Option Seat) → is_dead_before (sees table) (seat_seen seat) (seen_seat who place) ≡ is_dead_before table seat place
    before-seen seat None = refl
    before-seen seat (Some other) = ap (λ (dead : Bool). dead && nat_lt (id_number other.session) (id_number seat.session)) (dead-seen other)

    oldest-seen : (seat : Seat) → is_oldest_dead (sees table) (seat_seen seat) ≡ is_oldest_dead table seat
    oldest-seen seat =
        ap₂ (λ (dead before : Bool). dead && not before) (dead-seen seat)
        (seats-any (is_dead_before (sees table) (seat_seen seat)) (is_dead_before table seat) (before-seen seat) table.seats)

    lacks-seen : lacks_seat arguments client (sees table) ≡ lacks_seat arguments client table
    lacks-seen =
        ap (λ (free : Bool). table.settings.yields_when_full && asks_seat arguments table && not free)
        (ap has_free (freed-seen (is_done_with client (sees table)) (is_done_with client table) done-with-seen table.seats)
        ∙ free-seen (freed (is_done_with client table) table.seats))

    gives-way-seen : (seat : Seat) → gives_way arguments client (sees table) (seat_seen seat) ≡ gives_way arguments client table seat
    gives-way-seen seat =
        ap₂ (λ (oldest done : Bool). oldest || done) (ap₂ (λ (lacks oldest : Bool). lacks && oldest) lacks-seen (oldest-seen seat)) (done-with-seen seat)

    seats-staying-seen : seats_staying arguments client (sees table) ≡ map (seen_seat who) (seats_staying arguments client table)
    seats-staying-seen = freed-seen (gives_way arguments client (sees table)) (gives_way arguments client table) gives-way-seen table.seats

    persists-seen : persists arguments client (sees table) ≡ persists arguments client table
    persists-seen = ap (λ (free : Bool). asks_seat arguments table && free) (ap has_free seats-staying-seen ∙ free-seen (seats_staying arguments client table))

    staying-length : length (staying client (sees table)) ≡ length (staying client table)
    staying-length = ap length staying-seen ∙ length-map (staying client table) (seen_session who)

    full-seen : (limits : SessionLimits) → is_full_of_sessions limits client (sees table) ≡ is_full_of_sessions limits client table
    full-seen limits = ap (λ (count : ℕ). nat_le limits.sessions count || nat_le (2 ^ 64 - 1) table.session_serial) staying-length

    refusals-seen : (limits : SessionLimits) → create_refusals limits arguments client (sees table) ≡ create_refusals limits arguments client table
    refusals-seen limits =
        ap₂ (λ (busy full : Bool). (not (arguments.sequence == client.sequence), status.SeqMisordered) ∷ (not (has_only session_flags arguments.flags), status.Inval)
        ∷ (is_too_small limits arguments.fore, status.TooSmall) ∷ (busy, status.Delay) ∷ (full, status.Delay) ∷ [])
        (map-any (λ session. is_of_clients (replaced_by client table) session && is_running session) (seen_session who)
        (λ session. ap (λ (runs : Bool). is_of_clients (replaced_by client table) session && runs) (running-session who session)) table.sessions)
        (full-seen limits)

    abbrev with_limits : SessionLimits → (persists : Bool) → CreateSessionAnswer
    with_limits limits persists = record {
      session = session_id client.number (table.session_serial + 1);
      sequence = arguments.sequence;
      flags = cond persists 1 0;
      fore = fore_channel (limits_for limits persists) arguments.fore;
      back = record arguments.back { rdma_ird = None };
    }

    answer-seen : (limits : SessionLimits) → create_session_answer limits arguments client (sees table) ≡ create_session_answer limits arguments client table
    answer-seen limits = ap (with_limits limits) persists-seen

    slots-seen : (limits : SessionLimits) → slots_given limits arguments client (sees table) ≡ slots_given limits arguments client table
    slots-seen limits = ap (λ (persists : Bool). min arguments.fore.max_requests (limits_for limits persists).slots) persists-seen

    new-session-seen : (limits : SessionLimits) → new_session limits arguments client (sees table) ≡ seen_session who (new_session limits arguments client table)
    new-session-seen limits =
        let made = new_session limits arguments client table in
        ap (λ (count : ℕ). record made { slots = replicate count no_slot }) (slots-seen limits)
        ∙ ap (λ (slots : List Slot). record made { slots = slots })
        (sym (replicate-map (seen_slot (who.has_session (session_id made.client made.serial))) (slots_given limits arguments client table) no_slot refl))

    new-seat-seen : (limits : SessionLimits) → ◌≡◌ {A = Option Seat} (Some (new_seat limits arguments client (sees table))) (seen_seat who (Some (new_seat limits arguments client table)))
    new-seat-seen limits =
        let made = new_seat limits arguments client table in
        ap (λ (count : ℕ). Some (record made { slots = replicate count None })) (slots-seen limits)
        ∙ ap (λ (slots : List (Option HeldReply)). Some (record made { slots = slots }))
        (sym (replicate-map (seen_held (who.has_session made.session)) (slots_given limits arguments client table) None refl))

    put-seen : (one other : Seat) → ◌≡◌ {A = Option Seat} (Some one) (seen_seat who (Some other)) → (seats : Seats)
        → seated one (map (seen_seat who) seats) ≡ map (seen_seat who) (seated other seats)
    put-seen one other same [] = refl
    put-seen one other same (None ∷ seats) = ap (λ (place : Option Seat). place ∷ map (seen_seat who) seats) same
    put-seen one other same (Some seat ∷ seats) = ap (λ (rest : Seats). seen_seat who (Some seat) ∷ rest) (put-seen one other same seats)

    seats-after-seen : (limits : SessionLimits) → seats_after limits arguments client (sees table) ≡ map (seen_seat who) (seats_after limits arguments client table)
    seats-after-seen limits =
        let old = seats_staying arguments client table in
        let new = new_seat limits arguments client table in
        cond-same (map (seen_seat who)) (persists arguments client (sees table)) (persists arguments client table) _ _ (seated new old) old persists-seen
        (ap (seated (new_seat limits arguments client (sees table))) seats-staying-seen ∙ put-seen (new_seat limits arguments client (sees table)) new (new-seat-seen limits) old)
        seats-staying-seen

    made-seen : (limits : SessionLimits) → with_new_session limits arguments client (sees table) ≡ sees (with_new_session limits arguments client table)
    made-seen limits =
        let made = with_new_session limits arguments client table in
        ap₂ (λ (answer : CreateSessionAnswer) (sessions : List Session). record made {
          clients = changed_where (is_client client.number) (confirmed_with answer) (without_where (is_replaced_by client) table.clients);
          sessions = sessions;
          seats = seats_after limits arguments client (sees table);
        }) (answer-seen limits)
        (ap₂ (λ (kept : List Session) (new : Session). kept ++ new ∷ []) staying-seen (new-session-seen limits)
        ∙ sym (map-append (seen_session who) (staying client table) (new_session limits arguments client table ∷ [])))
        ∙ ap (λ (seats : Seats). record (sees made) { seats = seats }) (seats-after-seen limits)

    unless-seen : (limits : SessionLimits) (refusal : Option Status)
        → create_unless limits arguments client (sees table) refusal ≡ with_table_in (create_unless limits arguments client table refusal)
    unless-seen limits (Some reason) = refl
    unless-seen limits None =
        ap₂ (λ (answer : CreateSessionAnswer) (new : Table). record { answer = Ok answer; ended_clients = replaced_by client table; table = new }) (answer-seen limits) (made-seen limits)

    first-seen : (limits : SessionLimits) → create_unless limits arguments client (sees table) (first_refusal (create_refusals limits arguments client (sees table)))
        ≡ with_table_in (create_unless limits arguments client table (first_refusal (create_refusals limits arguments client table)))
    first-seen limits =
        ap (λ (tests : Refusals). create_unless limits arguments client (sees table) (first_refusal tests)) (refusals-seen limits)
        ∙ unless-seen limits (first_refusal (create_refusals limits arguments client table))

    again-seen : (limits : SessionLimits) (kept : Option CreateSessionAnswer)
        → create_again limits arguments client (sees table) kept ≡ with_table_in (create_again limits arguments client table kept)
    again-seen limits None = first-seen limits
    again-seen limits (Some answer) =
        cond-same with_table_in (next_number arguments.sequence == client.sequence) _ _ _
        (record { answer = Ok answer; ended_clients = []; table = table }) (create_unless limits arguments client table (first_refusal (create_refusals limits arguments client table))) refl refl
        (first-seen limits)

  create-by-seen : (limits : SessionLimits) (uid : ℕ) (arguments : CreateSessionArguments) (table : Table) (known : Option Client)
      → create_by limits uid arguments (sees table) known ≡ with_table_in (create_by limits uid arguments table known)
  create-by-seen limits uid arguments table None = refl
  create-by-seen limits uid arguments table (Some client) =
      cond-same with_table_in (client.principal == uid) _ _ _ (create_again limits arguments client table client.kept) (create_refused status.ClidInUse table) refl
      (again-seen arguments client table limits client.kept) refl

  pub create-seen : (limits : SessionLimits) (uid : ℕ) (arguments : CreateSessionArguments) (table : Table)
      → create_session limits uid arguments (sees table) ≡ with_table_in (create_session limits uid arguments table)
  unfolding create_session
  create-seen limits uid arguments table = create-by-seen limits uid arguments table (find (is_client arguments.client) table.clients)

  -- SEQUENCE, in a session whose replies are seen

  slot-at-seen : (session : Session) (place : ℕ)
      → slot_at (seen_session who session) place ≡ seen_slot (who.has_session (session_id session.client session.serial)) (slot_at session place)
  slot-at-seen session place = by_slots session.slots place
    where
      his : Bool
      his = who.has_session (session_id session.client session.serial)

      by_slots : (slots : List Slot) (place : ℕ) → slice_index_or (map (seen_slot his) slots) place no_slot ≡ seen_slot his (slice_index_or slots place no_slot)
      by_slots [] place = refl
      by_slots (slot ∷ slots) zero = refl
      by_slots (slot ∷ slots) (suc place) = by_slots slots place

  -- what a SEQUENCE does, except for the bytes of a reply that is sent again
  abbrev pub seen_begun : (his : Bool) → Begun → Begun
  seen_begun his (Refuses reason) = Refuses reason
  seen_begun his (Replays reply) = Replays (seen_bytes his reply)
  seen_begun his Runs = Runs

  begun-if : (his b : Bool) (x y : Begun) → cond b (seen_begun his x) (seen_begun his y) ≡ seen_begun his (cond b x y)
  begun-if his = cond-map (seen_begun his)

  begin-new-seen : (his : Bool) (count : ℕ) (arguments : SequenceArguments) (one other : Session) (slot : Slot) → one.max_operations ≡ other.max_operations
      → begin_new count arguments one slot ≡ seen_begun his (begin_new count arguments other slot)
  begin-new-seen his count arguments one other slot same =
      ap (λ (most : ℕ). cond (arguments.sequence == next_number slot.last) (cond (nat_lt most count) (Refuses status.TooManyOps) Runs) (Refuses status.SeqMisordered)) same
      ∙ cond-same (seen_begun his) (arguments.sequence == next_number slot.last) _ _ _ (cond (nat_lt other.max_operations count) (Refuses status.TooManyOps) Runs)
      (Refuses status.SeqMisordered) refl (begun-if his (nat_lt other.max_operations count) (Refuses status.TooManyOps) Runs) refl

  begin-slot-seen : (his : Bool) (uid count : ℕ) (arguments : SequenceArguments) (one other : Session) (slot : Slot) (state : SlotState) → one.max_operations ≡ other.max_operations
      → begin_slot uid count arguments one (seen_slot his slot) (seen_state his state) ≡ seen_begun his (begin_slot uid count arguments other slot state)
  begin-slot-seen his uid count arguments one other slot Free same = begin-new-seen his count arguments one other slot same
  begin-slot-seen his uid count arguments one other slot Running same =
      begun-if his (arguments.sequence == slot.last) (Refuses status.Delay) (Refuses status.SeqMisordered)
  begin-slot-seen his uid count arguments one other slot (Kept reply) same =
      cond-same (seen_begun his) (arguments.sequence == slot.last) _ _ _ (cond (uid == slot.uid) (Replays reply) (Refuses status.SeqFalseRetry)) (begin_new count arguments other slot) refl
      (begun-if his (uid == slot.uid) (Replays reply) (Refuses status.SeqFalseRetry)) (begin-new-seen his count arguments one other slot same)

  begin-held-seen : (his : Bool) (uid : ℕ) (arguments : SequenceArguments) (held : Option HeldReply)
      → begin_held uid arguments (seen_held his held) ≡ seen_begun his (begin_held uid arguments held)
  begin-held-seen his uid arguments None = refl
  begin-held-seen his uid arguments (Some held) =
      begun-if his (arguments.sequence == held.number && uid == held.uid) (Replays held.result) (Refuses status.DeadSession)

  held-seen : (his : Bool) (slots : List (Option HeldReply)) (place : ℕ) → slice_index_or (map (seen_held his) slots) place None ≡ seen_held his (slice_index_or slots place None)
  held-seen his [] place = refl
  held-seen his (held ∷ slots) zero = refl
  held-seen his (held ∷ slots) (suc place) = held-seen his slots place

  begin-dead-seen : (his : Bool) (uid : ℕ) (arguments : SequenceArguments) (place : Option Seat) → ((seat : Seat) → place ≡ Some seat → who.has_session seat.session ≡ his)
      → begin_dead uid arguments (seen_seat who place) ≡ seen_begun his (begin_dead uid arguments place)
  begin-dead-seen his uid arguments None is = refl
  begin-dead-seen his uid arguments (Some seat) is =
      ap (begin_held uid arguments) (held-seen (who.has_session seat.session) seat.slots arguments.slot)
      ∙ (ap (λ (b : Bool). begin_held uid arguments (seen_held b (slice_index_or seat.slots arguments.slot None))) (is seat refl)
      ∙ begin-held-seen his uid arguments (slice_index_or seat.slots arguments.slot None))

  seat-named : (id : List ℕ) (seats : Seats) (seat : Seat) → seat_of id seats ≡ Some seat → seat.session ≡ id
  seat-named id [] seat e = absurd (cc)
  seat-named id (None ∷ seats) seat e = seat-named id seats seat e
  seat-named id (Some other ∷ seats) seat e = by_test (seat-named id seats seat) (is_seat_of id other) refl e
    where
      by_test : (seat_of id seats ≡ Some seat → seat.session ≡ id) → (b : Bool) → is_seat_of id other ≡ b → cond b (Some other) (seat_of id seats) ≡ Some seat → seat.session ≡ id
      by_test rest true named e = let same : other ≡ seat = cc in ap (λ (s : Seat). s.session) (sym same) ∙ (bytes_eq-Decides other.session id).0 named
      by_test rest false apart e = rest e

  begin-by-seen : (uid count : ℕ) (arguments : SequenceArguments) (seats : Seats) (known : Option Session)
      → ((session : Session) → known ≡ Some session → session_id session.client session.serial ≡ arguments.session)
      → begin_by uid count arguments (map (seen_seat who) seats) (option_map (seen_session who) known)
      ≡ seen_begun (who.has_session arguments.session) (begin_by uid count arguments seats known)
  begin-by-seen uid count arguments seats None named =
      ap (begin_dead uid arguments) (seat-of-seen arguments.session seats)
      ∙ begin-dead-seen (who.has_session arguments.session) uid arguments (seat_of arguments.session seats)
      (λ seat is. ap who.has_session (seat-named arguments.session seats seat is))
  begin-by-seen uid count arguments seats (Some session) named =
      let his = who.has_session arguments.session in
      let slot = slot_at session arguments.slot in
      let its : slot_at (seen_session who session) arguments.slot ≡ seen_slot his slot
      = slot-at-seen session arguments.slot ∙ ap (λ (id : List ℕ). seen_slot (who.has_session id) slot) (named session refl) in
      cond-same (seen_begun his) (nat_lt arguments.slot (length (seen_session who session).slots)) (nat_lt arguments.slot (length session.slots)) _ _
      (begin_slot uid count arguments session slot slot.state) (Refuses status.BadSlot)
      (ap (nat_lt arguments.slot) (length-map session.slots (seen_slot (who.has_session (session_id session.client session.serial)))))
      (ap (λ (s : Slot). begin_slot uid count arguments (seen_session who session) s s.state) its ∙ begin-slot-seen his uid count arguments (seen_session who session) session slot slot.state refl)
      refl

  pub begin-seen : (uid count : ℕ) (arguments : SequenceArguments) (table : Table)
      → begin uid count arguments (sees table) ≡ seen_begun (who.has_session arguments.session) (begin uid count arguments table)
  unfolding begin
  begin-seen uid count arguments table =
      ap (begin_by uid count arguments (sees table).seats) (find-seen arguments.session table.sessions)
      ∙ begin-by-seen uid count arguments table.seats (find (is_session arguments.session) table.sessions)
      (λ session is. id_of arguments.session session (found_passes (is_session arguments.session) table.sessions session is))

  -- what a slot holds is changed

  map-set : {A : Type 0} (f : A → A) (xs : List A) (place : ℕ) (x : A) → map f (slice_set xs place x) ≡ slice_set (map f xs) place (f x)
  map-set f [] place x = refl
  map-set f (y ∷ xs) zero x = refl
  map-set {A} f (y ∷ xs) (suc place) x = ap (λ (rest : List A). f y ∷ rest) (map-set f xs place x)

  pub started-seen : (uid : ℕ) (arguments : SequenceArguments) (table : Table) → started uid arguments (sees table) ≡ sees (started uid arguments table)
  unfolding started
  started-seen uid arguments table =
      ap (λ (sessions : List Session). record (sees table) { sessions = sessions })
      (map-map (λ session. cond (is_session arguments.session session) (with_slot arguments.slot slot session) session) (seen_session who) (seen_session who)
      (λ session. cond (is_session arguments.session session) (with_slot arguments.slot slot session) session) by_session table.sessions)
    where
      slot : Slot
      slot = record { last = arguments.sequence; uid = uid; state = Running }

      by_session : (session : Session) → cond (is_session arguments.session session) (with_slot arguments.slot slot (seen_session who session)) (seen_session who session)
          ≡ seen_session who (cond (is_session arguments.session session) (with_slot arguments.slot slot session) session)
      by_session session =
          cond-same (seen_session who) (is_session arguments.session session) _ _ _ (with_slot arguments.slot slot session) session refl
          (ap (λ (slots : List Slot). record session { slots = slots })
          (sym (map-set (seen_slot (who.has_session (session_id session.client session.serial))) session.slots arguments.slot slot))) refl

  -- A slot keeps a reply: its bytes count in sessions that are his, and else only how many they are

  map-three : {A : Type 0} (f g h k : A → A) → ((x : A) → f (g (h x)) ≡ f (k x)) → (xs : List A) → map f (map g (map h xs)) ≡ map f (map k xs)
  map-three f g h k same [] = refl
  map-three {A} f g h k same (x ∷ xs) = ap₂ (λ (y : A) (ys : List A). y ∷ ys) (same x) (map-three f g h k same xs)

  module _ (id : List ℕ) (place : ℕ) (one other : List ℕ) (same : who.has_session id ≡ true → one ≡ other) (long : length one ≡ length other) where
    bytes-same : (name : List ℕ) → name ≡ id → seen_bytes (who.has_session name) one ≡ seen_bytes (who.has_session name) other
    bytes-same name is = seen-same (who.has_session name) one other (λ his. same (ap who.has_session (sym is) ∙ his)) long

    slot-finished : (session : Session) → session_id session.client session.serial ≡ id
        → seen_session who (finished_slot place one (seen_session who session)) ≡ seen_session who (finished_slot place other session)
    slot-finished session is =
        let his = who.has_session (session_id session.client session.serial) in
        let slot = slot_at session place in
        ap (λ (slots : List Slot). record session { slots = slots })
        (map-set (seen_slot his) (map (seen_slot his) session.slots) place (record (slot_at (seen_session who session) place) { state = Kept one })
        ∙ (ap₂ (λ (slots : List Slot) (new : Slot). slice_set slots place new) (map-twice (seen_slot his) (slot-twice his) session.slots)
        (ap (λ (s : Slot). record s { state = Kept (seen_bytes his one) }) (slot-at-seen session place)
        ∙ ap (λ (bytes : List ℕ). record slot { state = Kept bytes }) (bytes-same (session_id session.client session.serial) is))
        ∙ sym (map-set (seen_slot his) session.slots place (record slot { state = Kept other }))))

    finishing : List ℕ → Session → Session
    finishing reply session = cond (is_session id session) (finished_slot place reply session) session

    session-finished : (session : Session) → seen_session who (finishing one (seen_session who session)) ≡ seen_session who (finishing other session)
    unfolding finishing
    session-finished session = by_test (is_session id session) refl
      where
        by_test : (b : Bool) → is_session id session ≡ b → seen_session who (cond b (finished_slot place one (seen_session who session)) (seen_session who session))
            ≡ seen_session who (cond b (finished_slot place other session) session)
        by_test true named = slot-finished session (id_of id session named)
        by_test false apart = session-twice who session

    seat-finished : (a b : HeldReply) → a.number ≡ b.number → a.uid ≡ b.uid → a.result ≡ one → b.result ≡ other → (seat : Option Seat)
        → seen_seat who (holds_if id place a (seen_seat who seat)) ≡ seen_seat who (holds_if id place b seat)
    seat-finished a b number uid first second None = refl
    seat-finished a b number uid first second (Some seat) = by_test (is_seat_of id seat) refl
      where
        his : Bool
        his = who.has_session seat.session

        held-same : seat.session ≡ id → seen_held his (Some a) ≡ seen_held his (Some b)
        held-same is =
            ap₂ (λ (n u : ℕ). Some (record { number = n; uid = u; result = seen_bytes his a.result })) number uid
            ∙ ap (λ (bytes : List ℕ). Some (record { number = b.number; uid = b.uid; result = bytes }))
            (ap (seen_bytes his) first ∙ (bytes-same seat.session is ∙ ap (seen_bytes his) (sym second)))

        by_test : (b_is : Bool) → is_seat_of id seat ≡ b_is
            → seen_seat who (Some (cond b_is (with_held place a (seat_seen seat)) (seat_seen seat))) ≡ seen_seat who (Some (cond b_is (with_held place b seat) seat))
        by_test true named =
            ap (λ (slots : List (Option HeldReply)). Some (record seat { slots = slots }))
            (map-set (seen_held his) (map (seen_held his) seat.slots) place (Some a)
            ∙ (ap₂ (λ (slots : List (Option HeldReply)) (new : Option HeldReply). slice_set slots place new) (map-twice (seen_held his) (held-twice his) seat.slots)
            (held-same ((bytes_eq-Decides seat.session id).0 named))
            ∙ sym (map-set (seen_held his) seat.slots place (Some b))))
        by_test false apart = seat-twice who (Some seat)

    seats-finished : (a b : HeldReply) → a.number ≡ b.number → a.uid ≡ b.uid → a.result ≡ one → b.result ≡ other → (seats : Seats)
        → map (seen_seat who) (holding id place a (map (seen_seat who) seats)) ≡ map (seen_seat who) (holding id place b seats)
    seats-finished a b number uid first second seats =
        map-three (seen_seat who) (holds_if id place a) (seen_seat who) (holds_if id place b) (seat-finished a b number uid first second) seats

    held-finished : (seats : Seats) (known : Option Session)
        → map (seen_seat who) (held_by id place one (map (seen_seat who) seats) (option_map (seen_session who) known)) ≡ map (seen_seat who) (held_by id place other seats known)
    held-finished seats None = map-twice (seen_seat who) (seat-twice who) seats
    held-finished seats (Some session) =
        seats-finished (held_reply one (slot_at (seen_session who session) place)) (held_reply other (slot_at session place))
        (ap (λ (s : Slot). s.last) (slot-at-seen session place)) (ap (λ (s : Slot). s.uid) (slot-at-seen session place)) refl refl seats

    kept-finished : (holds : Bool) (table : Table)
        → map (seen_seat who) (cond holds (held_by id place one (sees table).seats (find (is_session id) (sees table).sessions)) (sees table).seats)
        ≡ map (seen_seat who) (cond holds (held_by id place other table.seats (find (is_session id) table.sessions)) table.seats)
    kept-finished true table =
        ap (λ (known : Option Session). map (seen_seat who) (held_by id place one (sees table).seats known)) (find-seen id table.sessions)
        ∙ held-finished table.seats (find (is_session id) table.sessions)
    kept-finished false table = map-twice (seen_seat who) (seat-twice who) table.seats

    pub finished-seen : (holds : Bool) (table : Table) → sees (finish id place holds one (sees table)) ≡ sees (finish id place holds other table)
    unfolding finish finishing
    finished-seen holds table =
        ap₂ (λ (sessions : List Session) (seats : Seats). record table { sessions = sessions; seats = seats })
        (map-three (seen_session who) (finishing one) (seen_session who) (finishing other) session-finished table.sessions) (kept-finished holds table)

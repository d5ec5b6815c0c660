-- Client records, sessions and their slots: RFC 8881, sections 2.4, 2.10.6, 18.35 to 18.37, 18.46,
-- 18.50 and 18.51. The order of tests, and each choice that the RFC leaves to a server, is this
-- file's.
use Rattle.std.specs.Prelude.{ℕ, ◌+◌, ◌-◌, ◌*◌, ◌%◌, ◌^◌, Bool, true, false, not, ◌&&◌, ◌||◌, if◌then◌else◌, ◌==◌, nat_lt, nat_le, List, [], ◌∷◌, ◌++◌, map, filter, length, replicate, slice_index_or, slice_set, find, Option, None, Some, Result, Ok, Err, min, bit_or, codes, bytes_eq}
use Rattle.std.specs.List.{list_any}
use Rattle.std.specs.Int.{w64, w128, to_be_bytes, from_be_bytes}
use Rattle.model_tree.specs.declared.status.Status.{Status}
use Rattle.model_tree.specs.declared.status.Status.TheVariants as status
use Rattle.model_tree.specs.Refusals.Refusal.{Refusals, first_refusal}
use Rattle.model.specs.declared.holding.Holding.{Holding}
use Rattle.model.specs.declared.holding.Holding.TheVariants as holdings
use Rattle.model.specs.Operations.Operation.{Channel, ExchangeIdArguments, CreateSessionArguments, SequenceArguments}
use Rattle.model.specs.Operations.Answer.{ExchangeIdAnswer, CreateSessionAnswer, SequenceAnswer}
use Rattle.model_tree.specs.Seats.Seats.{HeldReply, Seat, Seats, no_seats, is_seat_of, seat_of, has_seat, freed, has_free, seated, holding}

-- The state

-- how many there may be, and the sizes that CREATE_SESSION returns
pub record SessionLimits : Type 0 where
  pub clients : ℕ
  pub sessions : ℕ
  -- slots of a session, those of one that has a seat, and operations of a COMPOUND
  pub slots : ℕ
  pub seat_slots : ℕ
  pub operations : ℕ
  -- bytes of a request's or a reply's record
  pub record_bytes : ℕ

-- A client record (section 18.35.4). `sequence` is the number that its next CREATE_SESSION has, and
-- `kept` the last one's result; `has_reclaimed` says that RECLAIM_COMPLETE for all file systems was
-- answered OK.
pub record Client : Type 0 where
  pub number : ℕ
  pub owner : List ℕ
  pub verifier : List ℕ
  pub principal : ℕ
  pub is_confirmed : Bool
  pub has_reclaimed : Bool
  pub sequence : ℕ
  pub kept : Option CreateSessionAnswer

-- What a slot holds (section 2.10.6.1): nothing yet, a request that runs, or the whole COMPOUND
-- result of the last one
pub data SlotState : Type 0 where
  Free : SlotState
  Running : SlotState
  Kept : (reply : List ℕ) → SlotState

-- `last` is the number of the last request that ran, 0 at first, and `uid` who sent it
pub record Slot : Type 0 where
  pub last : ℕ
  pub uid : ℕ
  pub state : SlotState

pub record Session : Type 0 where
  pub client : ℕ
  pub serial : ℕ
  pub max_operations : ℕ
  pub slots : List Slot

-- Which replies seats hold: those of Changes are the replies to requests that made a change which
-- has to last. A server that holds none has no persistent sessions.

abbrev pub may_persist : Holding → Bool
may_persist holdings.Nothing = false
may_persist _ = true

abbrev pub holds_reply : Holding → (altered : Bool) → Bool
holds_reply holdings.Nothing altered = false
holds_reply holdings.Changes altered = altered
holds_reply holdings.All altered = true

-- What is chosen for a run when a server is started
pub record Settings : Type 0 where
  -- the major id and the scope that EXCHANGE_ID returns (sections 2.10.4 and 2.10.5): servers of
  -- different names are different servers
  pub name : List ℕ
  -- which replies are held, and so whether a new session may be persistent
  pub holding : Holding
  -- whether a full table gives up what no client holds: its oldest unconfirmed client record, or
  -- the dead seat of the oldest run
  pub yields_when_full : Bool

-- All of it, in one run of the server. Records and sessions are in the order in which they were
-- made; the serials are those given last. The seats are the volume's: a session that has one is
-- persistent, and a seat whose session is none of this run's is dead.
pub record Table : Type 0 where
  pub run : ℕ
  pub settings : Settings
  pub client_serial : ℕ
  pub session_serial : ℕ
  pub clients : List Client
  pub sessions : List Session
  pub seats : Seats

-- a run begins with the seats that its mount found, and with nothing else
abbrev pub loaded_table : (run : ℕ) → Settings → Seats → Table
loaded_table run settings seats = record {
  run = run;
  settings = settings;
  client_serial = 0;
  session_serial = 0;
  clients = [];
  sessions = [];
  seats = seats;
}

-- a server of the standard name, without persistent sessions, whose full tables give up nothing
abbrev pub plain_settings : Settings
plain_settings = record {
  name = codes "nfs41srv";
  holding = holdings.Nothing;
  yields_when_full = false;
}

-- .. on a volume that keeps no session
abbrev pub empty_table : ℕ → Table
empty_table run = loaded_table run plain_settings no_seats

-- Words

abbrev pub without_where : {A : Type 0} → (A → Bool) → List A → List A
without_where test = filter (λ x. not (test x))

-- the list with `change` applied to each element that passes the test
abbrev pub changed_where : {A : Type 0} → (A → Bool) → (A → A) → List A → List A
changed_where test change = map (λ x. if test x then change x else x)

-- no bit is set outside those
abbrev pub has_only : ℕ → ℕ → Bool
has_only allowed flags = bit_or flags allowed == allowed

-- the number after this one (section 2.10.6.1: it wraps)
abbrev pub next_number : ℕ → ℕ
next_number number = (number + 1) % 2 ^ 32

-- a session id is its client id and its serial, 8 bytes each
unfoldable pub session_id : ℕ → ℕ → List ℕ
session_id client serial = to_be_bytes w64 client ++ to_be_bytes w64 serial

abbrev pub is_session : List ℕ → Session → Bool
is_session id session = bytes_eq (session_id session.client session.serial) id

abbrev pub is_of_client : ℕ → Session → Bool
is_of_client number session = session.client == number

abbrev pub is_client : ℕ → Client → Bool
is_client number client = client.number == number

abbrev pub is_running_state : SlotState → Bool
is_running_state Free = false
is_running_state Running = true
is_running_state (Kept reply) = false

abbrev pub is_running : Session → Bool
is_running session = list_any (λ slot. is_running_state slot.state) session.slots

abbrev pub no_slot : Slot
no_slot = record { last = 0; uid = 0; state = Free }

abbrev pub slot_at : Session → ℕ → Slot
slot_at session place = slice_index_or session.slots place no_slot

-- a client's state: a session, or an open (`has_opens` of its number)
abbrev pub has_state : (ℕ → Bool) → Table → ℕ → Bool
has_state has_opens table number = list_any (is_of_client number) table.sessions || has_opens number

abbrev pub with_clients : List Client → Table → Table
with_clients clients table = record table { clients = clients }

abbrev pub with_sessions : List Session → Table → Table
with_sessions sessions table = record table { sessions = sessions }

abbrev pub with_seats : Seats → Table → Table
with_seats seats table = record table { seats = seats }

-- the seat is one of these sessions'
abbrev pub is_seat_among : List Session → Seat → Bool
is_seat_among sessions seat = list_any (is_session seat.session) sessions

-- EXCHANGE_ID (section 18.35)

-- EXCHGID4_FLAG_SUPP_MOVED_REFER 1, SUPP_MOVED_MIGR 2, BIND_PRINC_STATEID 0x100, USE_NON_PNFS
-- 0x10000, USE_PNFS_MDS 0x20000 and USE_PNFS_DS 0x40000 may be set. UPD_CONFIRMED_REC_A is not
-- served.
abbrev pub exchange_flags : ℕ
exchange_flags = 0x70103

-- the server's answer: USE_NON_PNFS, and CONFIRMED_R for a confirmed record
abbrev pub use_non_pnfs : ℕ
use_non_pnfs = 0x10000

abbrev pub confirmed_flag : ℕ
confirmed_flag = 0x80000000

-- the server's name is both
abbrev pub exchange_answer : (name : List ℕ) → ℕ → ℕ → ℕ → ExchangeIdAnswer
exchange_answer name number sequence flags = record {
  client = number;
  sequence = sequence;
  flags = flags;
  major_id = name;
  scope = name;
}

abbrev pub is_confirmed_of : List ℕ → Client → Bool
is_confirmed_of owner client = client.is_confirmed && bytes_eq client.owner owner

abbrev pub is_unconfirmed_of : List ℕ → Client → Bool
is_unconfirmed_of owner client = not client.is_confirmed && bytes_eq client.owner owner

abbrev pub without_unconfirmed : List ℕ → Table → Table
without_unconfirmed owner table =
    with_clients (without_where (is_unconfirmed_of owner) table.clients) table

abbrev pub without_client : ℕ → Table → Table
without_client number table = with_clients (without_where (is_client number) table.clients) table

-- A client id is the run and a serial, 4 bytes each.
abbrev pub client_number : ℕ → ℕ → ℕ
client_number run serial = run * 2 ^ 32 + serial

abbrev pub new_client : ℕ → ExchangeIdArguments → Table → Client
new_client uid arguments table = record {
  number = client_number table.run (table.client_serial + 1);
  owner = arguments.owner;
  verifier = arguments.verifier;
  principal = uid;
  is_confirmed = false;
  has_reclaimed = false;
  sequence = 1;
  kept = None;
}

abbrev pub with_new_client : ℕ → ExchangeIdArguments → Table → Table
with_new_client uid arguments table = record table {
  client_serial = table.client_serial + 1;
  clients = table.clients ++ new_client uid arguments table ∷ [];
}

-- a further record finds no place
abbrev pub has_most_clients : SessionLimits → Table → Bool
has_most_clients limits table = nat_le limits.clients (length table.clients)

-- .. or no serial
abbrev pub is_full_of_clients : SessionLimits → Table → Bool
is_full_of_clients limits table =
    has_most_clients limits table || nat_le (2 ^ 32 - 1) table.client_serial

-- If the settings say so, the oldest unconfirmed record gives way to one that finds no place.

abbrev pub is_unconfirmed : Client → Bool
is_unconfirmed client = not client.is_confirmed

abbrev pub is_unconfirmed_client : ℕ → Client → Bool
is_unconfirmed_client number client = is_unconfirmed client && is_client number client

abbrev pub without_this : Option Client → Table → Table
without_this None table = table
without_this (Some client) table =
    with_clients (without_where (is_unconfirmed_client client.number) table.clients) table

abbrev pub yielding : SessionLimits → Table → Table
yielding limits table =
    if table.settings.yields_when_full && has_most_clients limits table
    then without_this (find is_unconfirmed table.clients) table
    else table

-- A new unconfirmed record added to those of `cleared`: an older unconfirmed one of the owner gives
-- way to it, and then the oldest of all if there is no place. DELAY leaves `table`.
abbrev pub new_record : SessionLimits → ℕ → ExchangeIdArguments → Table → Table
    → Result ExchangeIdAnswer Status × Table
new_record limits uid arguments table cleared =
    let room = yielding limits (without_unconfirmed arguments.owner cleared) in
    if is_full_of_clients limits room then (Err status.Delay, table)
    else (
      Ok (exchange_answer table.settings.name (new_client uid arguments room).number 1
          use_non_pnfs),
      with_new_client uid arguments room,
    )

-- the table of section 18.35.4, by the confirmed record of the owner
abbrev pub exchange_by : SessionLimits → (ℕ → Bool) → ℕ → ExchangeIdArguments → Table
    → Option Client → Result ExchangeIdAnswer Status × Table
exchange_by limits has_opens uid arguments table None = new_record limits uid arguments table table
exchange_by limits has_opens uid arguments table (Some client) =
    if client.principal == uid then
    (if bytes_eq client.verifier arguments.verifier
    then (
      Ok (exchange_answer table.settings.name client.number client.sequence
          (confirmed_flag + use_non_pnfs)),
      without_unconfirmed arguments.owner table,
    )
    else new_record limits uid arguments table table)
    else (if has_state has_opens table client.number then (Err status.ClidInUse, table)
    else new_record limits uid arguments table (without_client client.number table))

unfoldable pub exchange_id : SessionLimits → (ℕ → Bool) → ℕ → ExchangeIdArguments → Table
    → Result ExchangeIdAnswer Status × Table
exchange_id limits has_opens uid arguments table =
    if has_only exchange_flags arguments.flags
    then exchange_by limits has_opens uid arguments table
    (find (is_confirmed_of arguments.owner) table.clients)
    else (Err status.Inval, table)

-- CREATE_SESSION (section 18.36)

-- PERSIST 1, CONN_BACK_CHAN 2 and CONN_RDMA 4 may be set
abbrev pub session_flags : ℕ
session_flags = 7

-- the confirmed record of the same owner that this one replaces
abbrev pub is_replaced_by : Client → Client → Bool
is_replaced_by client other =
    is_confirmed_of client.owner other && not (other.number == client.number)

-- the numbers of the clients that end when this one's session is made
abbrev pub replaced_by : Client → Table → List ℕ
replaced_by client table =
    map (λ other. other.number) (filter (is_replaced_by client) table.clients)

abbrev pub is_of_clients : List ℕ → Session → Bool
is_of_clients numbers session = list_any (λ number. is_of_client number session) numbers

abbrev pub is_too_small : SessionLimits → Channel → Bool
is_too_small limits fore =
    nat_lt fore.max_request_size limits.record_bytes
    || nat_lt fore.max_response_size limits.record_bytes
    || fore.max_operations == 0 || fore.max_requests == 0

-- the sessions that stay, and whether one more finds no place or no serial
abbrev pub staying : Client → Table → List Session
staying client table = without_where (is_of_clients (replaced_by client table)) table.sessions

abbrev pub is_full_of_sessions : SessionLimits → Client → Table → Bool
is_full_of_sessions limits client table =
    nat_le limits.sessions (length (staying client table))
    || nat_le (2 ^ 64 - 1) table.session_serial

-- The seats that its client is done with: those of sessions that end, and the dead ones of the same
-- owner id and principal
abbrev pub is_done_with : Client → Table → Seat → Bool
is_done_with client table seat =
    if is_seat_among table.sessions seat then not (is_seat_among (staying client table) seat)
    else bytes_eq seat.owner client.owner && seat.principal == client.principal

-- the flag PERSIST is asked of a server that has persistent sessions
abbrev pub asks_seat : CreateSessionArguments → Table → Bool
asks_seat arguments table = may_persist table.settings.holding && arguments.flags % 2 == 1

-- .. and no seat is free then, of one that gives up what no client holds
abbrev pub lacks_seat : CreateSessionArguments → Client → Table → Bool
lacks_seat arguments client table =
    table.settings.yields_when_full && asks_seat arguments table
    && not (has_free (freed (is_done_with client table) table.seats))

-- The dead seat of the oldest run: a session id begins with its run, so that one has the least id.

abbrev pub is_dead : Table → Seat → Bool
is_dead table seat = not (is_seat_among table.sessions seat)

abbrev pub id_number : List ℕ → ℕ
id_number id = from_be_bytes w128 id

abbrev pub is_dead_before : Table → Seat → Option Seat → Bool
is_dead_before table seat None = false
is_dead_before table seat (Some other) =
    is_dead table other && nat_lt (id_number other.session) (id_number seat.session)

abbrev pub is_oldest_dead : Table → Seat → Bool
is_oldest_dead table seat =
    is_dead table seat && not (list_any (is_dead_before table seat) table.seats)

-- The seats that give way: the oldest dead one if a seat is lacking, and those that the client is
-- done with
abbrev pub gives_way : CreateSessionArguments → Client → Table → Seat → Bool
gives_way arguments client table seat =
    lacks_seat arguments client table && is_oldest_dead table seat || is_done_with client table seat

abbrev pub seats_staying : CreateSessionArguments → Client → Table → Seats
seats_staying arguments client table = freed (gives_way arguments client table) table.seats

-- .. and a seat is free once they have gone
abbrev pub persists : CreateSessionArguments → Client → Table → Bool
persists arguments client table =
    asks_seat arguments table && has_free (seats_staying arguments client table)

abbrev pub create_refusals : SessionLimits → CreateSessionArguments → Client → Table → Refusals
create_refusals limits arguments client table =
    (not (arguments.sequence == client.sequence), status.SeqMisordered)
    ∷ (not (has_only session_flags arguments.flags), status.Inval)
    ∷ (is_too_small limits arguments.fore, status.TooSmall)
    ∷ (
      list_any (λ session. is_of_clients (replaced_by client table) session && is_running session)
          table.sessions,
      status.Delay,
    )
    ∷ (is_full_of_sessions limits client table, status.Delay)
    ∷ []

-- a session that has a seat has few slots
abbrev pub limits_for : SessionLimits → (persists : Bool) → SessionLimits
limits_for limits false = limits
limits_for limits true = record limits { slots = min limits.seat_slots limits.slots }

-- the channels that are returned, without RDMA
abbrev pub fore_channel : SessionLimits → Channel → Channel
fore_channel limits asked = record {
  header_pad_size = 0;
  max_request_size = limits.record_bytes;
  max_response_size = limits.record_bytes;
  max_response_size_cached = min asked.max_response_size_cached limits.record_bytes;
  max_operations = min asked.max_operations limits.operations;
  max_requests = min asked.max_requests limits.slots;
  rdma_ird = None;
}

-- how many slots it has
abbrev pub slots_given : SessionLimits → CreateSessionArguments → Client → Table → ℕ
slots_given limits arguments client table =
    min arguments.fore.max_requests (limits_for limits (persists arguments client table)).slots

abbrev pub create_session_answer : SessionLimits → CreateSessionArguments → Client → Table
    → CreateSessionAnswer
create_session_answer limits arguments client table = record {
  session = session_id client.number (table.session_serial + 1);
  sequence = arguments.sequence;
  flags = if persists arguments client table then 1 else 0;
  fore = fore_channel (limits_for limits (persists arguments client table)) arguments.fore;
  back = record arguments.back { rdma_ird = None };
}

abbrev pub new_session : SessionLimits → CreateSessionArguments → Client → Table → Session
new_session limits arguments client table = record {
  client = client.number;
  serial = table.session_serial + 1;
  max_operations = (fore_channel limits arguments.fore).max_operations;
  slots = replicate (slots_given limits arguments client table) no_slot;
}

-- its seat, which holds no reply yet
abbrev pub new_seat : SessionLimits → CreateSessionArguments → Client → Table → Seat
new_seat limits arguments client table = record {
  session = session_id client.number (table.session_serial + 1);
  owner = client.owner;
  principal = client.principal;
  slots = replicate (slots_given limits arguments client table) None;
}

abbrev pub seats_after : SessionLimits → CreateSessionArguments → Client → Table → Seats
seats_after limits arguments client table =
    if persists arguments client table
    then seated (new_seat limits arguments client table) (seats_staying arguments client table)
    else seats_staying arguments client table

-- the record is confirmed, counts on, and keeps the result
abbrev pub confirmed_with : CreateSessionAnswer → Client → Client
confirmed_with answer client =
    record client {
      is_confirmed = true;
      sequence = next_number client.sequence;
      kept = Some answer;
    }

abbrev pub with_new_session : SessionLimits → CreateSessionArguments → Client → Table → Table
with_new_session limits arguments client table = record table {
  session_serial = table.session_serial + 1;
  clients =
      changed_where (is_client client.number)
      (confirmed_with (create_session_answer limits arguments client table))
      (without_where (is_replaced_by client) table.clients);
  sessions = staying client table ++ new_session limits arguments client table ∷ [];
  seats = seats_after limits arguments client table;
}

-- what CREATE_SESSION returns, whose opens end, and the table after it
pub record CreateSessionOutcome : Type 0 where
  pub answer : Result CreateSessionAnswer Status
  pub ended_clients : List ℕ
  pub table : Table

abbrev pub create_refused : Status → Table → CreateSessionOutcome
create_refused reason table = record { answer = Err reason; ended_clients = []; table = table }

-- a refusal changes nothing and keeps nothing
abbrev pub create_unless : SessionLimits → CreateSessionArguments → Client → Table → Option Status
    → CreateSessionOutcome
create_unless limits arguments client table (Some reason) = create_refused reason table
create_unless limits arguments client table None = record {
  answer = Ok (create_session_answer limits arguments client table);
  ended_clients = replaced_by client table;
  table = with_new_session limits arguments client table;
}

-- the number after the one asked for is the record's next, and that one's result is kept: it is
-- returned again
abbrev pub create_again : SessionLimits → CreateSessionArguments → Client → Table
    → Option CreateSessionAnswer → CreateSessionOutcome
create_again limits arguments client table None =
    create_unless limits arguments client table
    (first_refusal (create_refusals limits arguments client table))
create_again limits arguments client table (Some answer) =
    if next_number arguments.sequence == client.sequence
    then record { answer = Ok answer; ended_clients = []; table = table }
    else create_unless limits arguments client table
    (first_refusal (create_refusals limits arguments client table))

abbrev pub create_by : SessionLimits → ℕ → CreateSessionArguments → Table → Option Client
    → CreateSessionOutcome
create_by limits uid arguments table None = create_refused status.StaleClientId table
create_by limits uid arguments table (Some client) =
    if client.principal == uid then create_again limits arguments client table client.kept
    else create_refused status.ClidInUse table

unfoldable pub create_session : SessionLimits → ℕ → CreateSessionArguments → Table
    → CreateSessionOutcome
create_session limits uid arguments table =
    create_by limits uid arguments table (find (is_client arguments.client) table.clients)

-- DESTROY_SESSION (section 18.37)

-- a session that ends frees its seat; a dead one has nothing but that
abbrev pub without_seat : List ℕ → Table → Table
without_seat id table = with_seats (freed (is_seat_of id) table.seats) table

abbrev pub destroy_by : List ℕ → Table → Option Session → Option Status × Table
destroy_by id table None =
    if has_seat id table.seats then (None, without_seat id table)
    else (Some status.BadSession, table)
destroy_by id table (Some session) =
    if is_running session then (Some status.Delay, table)
    else (
      None,
      without_seat id (with_sessions (without_where (is_session id) table.sessions) table),
    )

-- the refusal, if there is one
unfoldable pub destroy_session : List ℕ → Table → Option Status × Table
destroy_session id table = destroy_by id table (find (is_session id) table.sessions)

-- DESTROY_CLIENTID (section 18.50)

abbrev pub destroy_client_by : (ℕ → Bool) → ℕ → Table → Option Client → Option Status × Table
destroy_client_by has_opens number table None = (Some status.StaleClientId, table)
destroy_client_by has_opens number table (Some client) =
    if has_state has_opens table number then (Some status.ClientIdBusy, table)
    else (None, without_client number table)

unfoldable pub destroy_client_id : (ℕ → Bool) → ℕ → Table → Option Status × Table
destroy_client_id has_opens number table =
    destroy_client_by has_opens number table (find (is_client number) table.clients)

-- RECLAIM_COMPLETE for all file systems (section 18.51), by the client of the session

abbrev pub reclaim_by : ℕ → Table → Option Client → Option Status × Table
reclaim_by number table None = (Some status.StaleClientId, table)
reclaim_by number table (Some client) =
    if client.has_reclaimed then (Some status.CompleteAlready, table)
    else (
      None,
      with_clients (changed_where (is_client number)
          (λ known. record known { has_reclaimed = true }) table.clients) table,
    )

unfoldable pub reclaim_complete : ℕ → Table → Option Status × Table
reclaim_complete number table = reclaim_by number table (find (is_client number) table.clients)

-- SEQUENCE (sections 2.10.6 and 18.46)

-- refused, answered by the kept COMPOUND result, or the slot runs the request
pub data Begun : Type 0 where
  Refuses : Status → Begun
  Replays : (reply : List ℕ) → Begun
  Runs : Begun

-- a number other than the slot's last, of a slot that runs nothing
abbrev pub begin_new : ℕ → SequenceArguments → Session → Slot → Begun
begin_new count arguments session slot =
    if arguments.sequence == next_number slot.last
    then (if nat_lt session.max_operations count then Refuses status.TooManyOps else Runs)
    else Refuses status.SeqMisordered

abbrev pub begin_slot : ℕ → ℕ → SequenceArguments → Session → Slot → SlotState → Begun
begin_slot uid count arguments session slot Free = begin_new count arguments session slot
begin_slot uid count arguments session slot Running =
    if arguments.sequence == slot.last then Refuses status.Delay else Refuses status.SeqMisordered
begin_slot uid count arguments session slot (Kept reply) =
    if arguments.sequence == slot.last
    then (if uid == slot.uid then Replays reply else Refuses status.SeqFalseRetry)
    else begin_new count arguments session slot

-- A session of an earlier run gives only what is held: the held number by the held uid gets the
-- held result, and all else is refused.

abbrev pub begin_held : ℕ → SequenceArguments → Option HeldReply → Begun
begin_held uid arguments None = Refuses status.DeadSession
begin_held uid arguments (Some held) =
    if arguments.sequence == held.number && uid == held.uid then Replays held.result
    else Refuses status.DeadSession

abbrev pub begin_dead : ℕ → SequenceArguments → Option Seat → Begun
begin_dead uid arguments None = Refuses status.BadSession
begin_dead uid arguments (Some seat) =
    begin_held uid arguments (slice_index_or seat.slots arguments.slot None)

abbrev pub begin_by : ℕ → ℕ → SequenceArguments → Seats → Option Session → Begun
begin_by uid count arguments seats None =
    begin_dead uid arguments (seat_of arguments.session seats)
begin_by uid count arguments seats (Some session) =
    let slot = slot_at session arguments.slot in
    if nat_lt arguments.slot (length session.slots)
    then begin_slot uid count arguments session slot slot.state
    else Refuses status.BadSlot

-- `count` is the COMPOUND's number of operations
unfoldable pub begin : ℕ → ℕ → SequenceArguments → Table → Begun
begin uid count arguments table =
    begin_by uid count arguments table.seats (find (is_session arguments.session) table.sessions)

abbrev pub with_slot : ℕ → Slot → Session → Session
with_slot place slot session = record session { slots = slice_set session.slots place slot }

-- the table once the slot runs
unfoldable pub started : ℕ → SequenceArguments → Table → Table
started uid arguments table = with_sessions
    (changed_where (is_session arguments.session)
    (with_slot arguments.slot (record { last = arguments.sequence; uid = uid; state = Running }))
    table.sessions)
    table

-- the table once the reply to what ran is made
abbrev pub finished_slot : ℕ → List ℕ → Session → Session
finished_slot place reply session =
    with_slot place (record (slot_at session place) { state = Kept reply }) session

-- what a seat of the session holds
abbrev pub held_reply : List ℕ → Slot → HeldReply
held_reply reply slot = record { number = slot.last; uid = slot.uid; result = reply }

abbrev pub held_by : List ℕ → ℕ → List ℕ → Seats → Option Session → Seats
held_by id place reply seats None = seats
held_by id place reply seats (Some session) =
    holding id place (held_reply reply (slot_at session place)) seats

-- the slot keeps the reply, and if it is to be held, a seat of the session holds it too
unfoldable pub finish : List ℕ → ℕ → (holds : Bool) → List ℕ → Table → Table
finish id place holds reply table = record table {
  sessions = changed_where (is_session id) (finished_slot place reply) table.sessions;
  seats =
      if holds then held_by id place reply table.seats (find (is_session id) table.sessions)
      else table.seats;
}

-- A SEQUENCE that runs returns its slot number, and twice the highest slot of the session.
abbrev pub sequence_answer : SequenceArguments → Session → SequenceAnswer
sequence_answer arguments session = record {
  session = arguments.session;
  sequence = arguments.sequence;
  slot = arguments.slot;
  highest_slot = length session.slots - 1;
  target_highest_slot = length session.slots - 1;
  flags = 0;
}

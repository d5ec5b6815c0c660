-- Worked rows over the definitions of client records and sessions, in run 1 with the limits that
-- the server serves.
use Rattle.std.proofs.Common.{◌≡◌, ℕ, refl, List, [], ◌∷◌, Ok, Err, None, Some, Bool, true, false, codes}
use Rattle.model_tree.specs.declared.status.Status.TheVariants as status
use Rattle.model.specs.Operations.Operation.{Channel, ExchangeIdArguments, CreateSessionArguments, SequenceArguments}
use Rattle.model.specs.Operations.Answer.{CreateSessionAnswer}
use Rattle.model_tree.specs.Seats.Seats.{Seat, no_seats}
use Rattle.model.specs.declared.holding.Holding.TheVariants as holdings
use Rattle.model.specs.Sessions.Session.{SessionLimits, Table, plain_settings, loaded_table, empty_table, client_number, exchange_id, exchange_answer, create_session, destroy_session, begin, started, finish, session_id, Refuses, Replays, Runs}

abbrev limits : SessionLimits
limits = record { clients = 64; sessions = 32; slots = 8; seat_slots = 2; operations = 16; record_bytes = 16384 }

abbrev no_opens : ℕ → Bool
no_opens number = false

abbrev hello : List ℕ → ExchangeIdArguments
hello verifier = record { verifier = verifier; owner = codes "cl"; flags = 0; implementation = None }

abbrev verifier : List ℕ
verifier = 1 ∷ 2 ∷ 3 ∷ 4 ∷ 5 ∷ 6 ∷ 7 ∷ 8 ∷ []

abbrev channel : Channel
channel = record { header_pad_size = 0; max_request_size = 16384; max_response_size = 16384; max_response_size_cached = 16384; max_operations = 16; max_requests = 8; rdma_ird = None }

abbrev create : ℕ → ℕ → CreateSessionArguments
create client sequence = record { client = client; sequence = sequence; flags = 0; fore = channel; back = channel; callback_program = 0; security = [] }

-- a first client, and a second EXCHANGE_ID of it
abbrev greeted : Table
greeted = (exchange_id limits no_opens 7 (hello verifier) (empty_table 1)).1

abbrev greeted_twice : Table
greeted_twice = (exchange_id limits no_opens 7 (hello verifier) greeted).1

exchange_first : (exchange_id limits no_opens 7 (hello verifier) (empty_table 1)).0 ≡ Ok (exchange_answer plain_settings.name 4294967297 1 0x00010000)
unfolding exchange_id
exchange_first = refl

exchange_twice : (exchange_id limits no_opens 7 (hello verifier) greeted).0 ≡ Ok (exchange_answer plain_settings.name 4294967298 1 0x00010000)
unfolding exchange_id
exchange_twice = refl

first_is_stale : (create_session limits 7 (create 4294967297 1) greeted_twice).answer ≡ Err status.StaleClientId
unfolding exchange_id create_session
first_is_stale = refl

-- UPD_CONFIRMED_REC_A
updates_nothing : (exchange_id limits no_opens 7 (record (hello verifier) { flags = 0x40000000 }) greeted).0 ≡ Err status.Inval
unfolding exchange_id
updates_nothing = refl

-- the first client's session: 00000001 00000001 00000000 00000001
abbrev id : List ℕ
id = 0 ∷ 0 ∷ 0 ∷ 1 ∷ 0 ∷ 0 ∷ 0 ∷ 1 ∷ 0 ∷ 0 ∷ 0 ∷ 0 ∷ 0 ∷ 0 ∷ 0 ∷ 1 ∷ []

abbrev answered : CreateSessionAnswer
answered = record { session = id; sequence = 1; flags = 0; fore = channel; back = channel }

abbrev opened : Table
opened = (create_session limits 7 (create 4294967297 1) greeted).table

create_first : (create_session limits 7 (create 4294967297 1) greeted).answer ≡ Ok answered
unfolding exchange_id create_session session_id
create_first = refl

-- it is answered again, and no other number is taken
create_again : (create_session limits 7 (create 4294967297 1) opened).answer ≡ Ok answered
unfolding exchange_id create_session session_id
create_again = refl

create_misordered : (create_session limits 7 (create 4294967297 3) opened).answer ≡ Err status.SeqMisordered
unfolding exchange_id create_session
create_misordered = refl

-- a known owner: its record, only by its own principal
exchange_known : (exchange_id limits no_opens 7 (hello verifier) opened).0 ≡ Ok (exchange_answer plain_settings.name 4294967297 2 0x80010000)
unfolding exchange_id create_session
exchange_known = refl

exchange_other : (exchange_id limits no_opens 8 (hello verifier) opened).0 ≡ Err status.ClidInUse
unfolding exchange_id create_session
exchange_other = refl

-- a restarted client gets a new record
exchange_restarted : (exchange_id limits no_opens 7 (hello (0 ∷ [])) opened).0 ≡ Ok (exchange_answer plain_settings.name 4294967298 1 0x00010000)
unfolding exchange_id create_session
exchange_restarted = refl

-- With room for one record an unconfirmed one gives way to that of another owner id, if the
-- settings say so; a confirmed one never does
abbrev one_client : SessionLimits
one_client = record limits { clients = 1 }

abbrev hello_by : List ℕ → ExchangeIdArguments
hello_by owner = record (hello verifier) { owner = owner }

abbrev filled : Table
filled = (exchange_id one_client no_opens 7 (hello verifier) (loaded_table 1 (record plain_settings { yields_when_full = true }) no_seats)).1

yields_a_record : (exchange_id one_client no_opens 7 (hello_by (codes "other")) filled).0 ≡ Ok (exchange_answer plain_settings.name 4294967298 1 0x00010000)
unfolding exchange_id
yields_a_record = refl

keeps_the_record : (exchange_id one_client no_opens 7 (hello_by (codes "other")) (record filled { settings = plain_settings })).0 ≡ Err status.Delay
unfolding exchange_id
keeps_the_record = refl

keeps_a_confirmed_one : (exchange_id one_client no_opens 7 (hello_by (codes "other")) (create_session one_client 7 (create 4294967297 1) filled).table).0 ≡ Err status.Delay
unfolding exchange_id create_session
keeps_a_confirmed_one = refl

-- In run 7 five seats of earlier runs and other clients: the one of run 2 gives way to a session
-- that asks for a seat, if the settings say so
abbrev seat_in : ℕ → Seat
seat_in run = record { session = session_id (client_number run 1) 1; owner = codes "other"; principal = 7; slots = None ∷ [] }

abbrev all_dead : Bool → Table
all_dead yields =
    loaded_table 7 (record plain_settings { holding = holdings.All; yields_when_full = yields })
    (Some (seat_in 4) ∷ Some (seat_in 2) ∷ Some (seat_in 3) ∷ Some (seat_in 5) ∷ Some (seat_in 6) ∷ [])

abbrev sits_in : Bool → Table
sits_in yields =
    (create_session limits 7 (record (create 30064771073 1) { flags = 1 }) (exchange_id limits no_opens 7 (hello verifier) (all_dead yields)).1).table

yields_the_oldest : (sits_in true).seats
    ≡ Some (seat_in 4) ∷ Some (record { session = session_id 30064771073 1; owner = codes "cl"; principal = 7; slots = None ∷ None ∷ [] }) ∷ Some (seat_in 3) ∷ Some (seat_in 5) ∷ Some (seat_in 6) ∷ []
unfolding exchange_id create_session session_id
yields_the_oldest = refl

keeps_each_seat : (sits_in false).seats ≡ (all_dead false).seats
unfolding exchange_id create_session session_id
keeps_each_seat = refl

-- A request of slot 0, while it runs and when its reply is kept

abbrev request : ℕ → ℕ → SequenceArguments
request slot sequence = record { session = id; sequence = sequence; slot = slot; highest_slot = 0; cache_this = false }

abbrev running : Table
running = started 7 (request 0 1) opened

abbrev done : Table
done = finish id 0 true (codes "reply") running

runs : begin 7 4 (request 0 1) opened ≡ Runs
unfolding exchange_id create_session session_id begin
runs = refl

runs_while : begin 7 4 (request 0 1) running ≡ Refuses status.Delay
unfolding exchange_id create_session session_id begin started
runs_while = refl

runs_next_while : begin 7 4 (request 0 2) running ≡ Refuses status.SeqMisordered
unfolding exchange_id create_session session_id begin started
runs_next_while = refl

replays : begin 7 4 (request 0 1) done ≡ Replays (codes "reply")
unfolding exchange_id create_session session_id begin started finish
replays = refl

replays_not_to_others : begin 8 4 (request 0 1) done ≡ Refuses status.SeqFalseRetry
unfolding exchange_id create_session session_id begin started finish
replays_not_to_others = refl

runs_next : begin 8 4 (request 0 2) done ≡ Runs
unfolding exchange_id create_session session_id begin started finish
runs_next = refl

-- neither the number after the next, nor any but 1 on a slot that has run nothing
skips_none : begin 7 4 (request 0 3) done ≡ Refuses status.SeqMisordered
unfolding exchange_id create_session session_id begin started finish
skips_none = refl

first_is_one : begin 7 4 (request 1 0) done ≡ Refuses status.SeqMisordered
unfolding exchange_id create_session session_id begin started finish
first_is_one = refl

too_many : begin 7 17 (request 0 2) done ≡ Refuses status.TooManyOps
unfolding exchange_id create_session session_id begin started finish
too_many = refl

no_such_slot : begin 7 4 (request 8 1) done ≡ Refuses status.BadSlot
unfolding exchange_id create_session session_id begin started finish
no_such_slot = refl

-- DESTROY_SESSION: not while a slot runs, then once
destroy_while : (destroy_session id running).0 ≡ Some status.Delay
unfolding exchange_id create_session session_id started destroy_session
destroy_while = refl

destroy_after : (destroy_session id done).0 ≡ None
unfolding exchange_id create_session session_id started finish destroy_session
destroy_after = refl

destroy_twice : (destroy_session id (destroy_session id done).1).0 ≡ Some status.BadSession
unfolding exchange_id create_session session_id started finish destroy_session
destroy_twice = refl

-- the kept result of CREATE_SESSION outlives its session
create_outlives : (create_session limits 7 (create 4294967297 1) (destroy_session id done).1).answer ≡ Ok answered
unfolding exchange_id create_session session_id started finish destroy_session
create_outlives = refl

-- What operations and turns leave of the table: it is of its run, and except by CREATE_SESSION and DESTROY_SESSION its seats stay.
use Rattle.std.proofs.Common.{◌≡◌, ℕ, Bool, true, false, ◌==◌, List, find, Option, None, Some, Result, Ok, Err, refl, bytes_eq}
use Rattle.model_tree.specs.declared.status.Status.{Status}
use Rattle.model.specs.Operations.Answer.{Answer, Done, Refused, ExchangeIdAnswer, CreateSessionAnswer}
use Rattle.model.specs.Operations.Operation.{Argument, SequenceArguments, CreateSessionArguments, ExchangeIdArguments, operation_of}
use Rattle.model_tree.specs.Refusals.Refusal.{first_refusal}
use Rattle.model_tree.specs.Seats.Seats.{has_seat}
use Rattle.model.specs.Sessions.Session as sessions
use Rattle.model.specs.Sessions.Session.{SessionLimits, Client, Session, Table, is_session, is_client, is_running, is_confirmed_of, has_only, exchange_flags, exchange_by, exchange_id, new_record, is_full_of_clients, without_unconfirmed, yielding, without_client, has_state, create_refusals, create_unless, create_again, create_by, create_session, CreateSessionOutcome, next_number, destroy_by, destroy_session, destroy_client_by, destroy_client_id, reclaim_by, reclaim_complete, started, finish}
use Rattle.model.specs.Sessions.StateIds.{has_opens}
use Rattle.model.specs.Server.World.{World, InProgress, HasRun, Gives, Replays, exchanged, created_by, tabled, started_in, begun, reclaimed, run, in_room, has_room}
use Rattle.model.proofs.Sessions.SlotLaw.{exchange_same, destroy_client_same, reclaim_same}
use Rattle.model.proofs.Sessions.TableCalls.{either}
use Rattle.model.proofs.Sessions.Yielding.{yielding_is}
use Rattle.compound.specs.Operates.{run_in_room, world_by}

-- those that leave the seats
abbrev pub leaves_seats : Argument → Bool
leaves_seats (Argument.CreateSession arguments) = false
leaves_seats (Argument.DestroySession id) = false
leaves_seats operation = true

-- What is known of a table stays, by the calls that may change it

abbrev Stays : {A : Type 0} → (Table → A) → Table → Table → Type 0
Stays told old new = told new ≡ told old

pub record StayCalls {A : Type 0} (told : Table → A) (table : Table) : Type 0 where
  pub exchanges : (limits : SessionLimits) (opens : ℕ → Bool) (uid : ℕ) (arguments : ExchangeIdArguments) → Stays told table (exchange_id limits opens uid arguments table).1
  pub destroys_client : (opens : ℕ → Bool) (number : ℕ) → Stays told table (destroy_client_id opens number table).1
  pub reclaims : (number : ℕ) → Stays told table (reclaim_complete number table).1
  pub starts : (uid : ℕ) (arguments : SequenceArguments) → Stays told table (started uid arguments table)

module _ {A : Type 0} (told : Table → A) (world : World) where
  abbrev pub RanStays : HasRun → Type 0
  RanStays ran = Stays told world.table (world_by world ran).table

  exchanged_stays : (request : InProgress) (r : Result ExchangeIdAnswer Status × Table) → Stays told world.table r.1 → RanStays (exchanged world request r)
  exchanged_stays request (Err reason, table) stays = stays
  exchanged_stays request (Ok answer, table) stays = stays

  created_stays : (request : InProgress) (o : CreateSessionOutcome) (answer : Result CreateSessionAnswer Status) → Stays told world.table o.table → RanStays (created_by world request o answer)
  created_stays request o (Err reason) stays = refl
  created_stays request o (Ok answer) stays = stays

  tabled_stays : (request : InProgress) (operation : ℕ) (answer : Answer) (r : Option Status × Table) → Stays told world.table r.1 → RanStays (tabled world request operation answer r)
  tabled_stays request operation answer (Some reason, table) stays = stays
  tabled_stays request operation answer (None, table) stays = stays

  reclaimed_stays : (request : InProgress) (refusal : Option Status) → RanStays (reclaimed world request refusal)
  reclaimed_stays request None = refl
  reclaimed_stays request (Some reason) = refl

  module _ (calls : StayCalls told world.table) where
    begun_stays : (request : InProgress) (arguments : SequenceArguments) (b : sessions.Begun) → RanStays (begun world request arguments b)
    begun_stays request arguments (sessions.Refuses reason) = refl
    begun_stays request arguments (sessions.Replays reply) = refl
    begun_stays request arguments sessions.Runs = by_session (find (is_session arguments.session) world.table.sessions)
      where
        by_session : (known : Option Session) → RanStays (started_in world request arguments known)
        by_session None = refl
        by_session (Some session) = calls.starts request.context.cred.uid arguments

    never : {B : Type 0} → false ≡ true → B
    never is = let none : ⊥ = cc in absurd none

    run_stays : (request : InProgress) (now : ℕ) (operation : Argument) → leaves_seats operation ≡ true → RanStays (run world request now operation)
    unfolding run
    run_stays request now (Argument.ExchangeId arguments) leaves =
        exchanged_stays request _ (calls.exchanges world.limits.sessions (has_opens world.opens) request.context.cred.uid arguments)
    run_stays request now (Argument.CreateSession arguments) leaves = never leaves
    run_stays request now (Argument.DestroySession id) leaves = never leaves
    run_stays request now (Argument.DestroyClientId client) leaves = tabled_stays request _ _ _ (calls.destroys_client (has_opens world.opens) client)
    run_stays request now (Argument.Sequence arguments) leaves = begun_stays request arguments _
    run_stays request now (Argument.ReclaimComplete true) leaves = reclaimed_stays request _
    run_stays request now (Argument.ReclaimComplete false) leaves = tabled_stays request _ _ _ (calls.reclaims request.context.client)
    run_stays request now operation leaves = refl

  room_stays : (request : InProgress) (operation : ℕ) (ran : HasRun) → RanStays ran → RanStays (in_room world request operation ran)
  room_stays request operation (Gives (Refused number reason) after left) stays = stays
  room_stays request operation (Gives (Done answer) after left) stays =
      either RanStays (has_room world request (Done answer)) _ _ (λ has. stays) (λ none. refl)
  room_stays request operation (Replays result session slot) stays = stays

-- The seats

seat_calls : (table : Table) → StayCalls (λ t. t.seats) table
unfolding started
seat_calls table = record {
  exchanges = λ limits opens uid arguments. (exchange_same limits opens uid arguments table).seats;
  destroys_client = λ opens number. (destroy_client_same opens number table).seats;
  reclaims = λ number. (reclaim_same number table).seats;
  starts = λ uid arguments. refl;
}

pub seats_after : (world : World) (request : InProgress) (now : ℕ) (operation : Argument) → leaves_seats operation ≡ true
    → (world_by world (run_in_room world request now operation)).table.seats ≡ world.table.seats
seats_after world request now operation leaves =
    room_stays (λ t. t.seats) world request (operation_of operation) (run world request now operation)
    (run_stays (λ t. t.seats) world (seat_calls world.table) request now operation leaves)

-- The run

abbrev SameRun : Table → Table → Type 0
SameRun table new = new.run ≡ table.run

record_run : (limits : SessionLimits) (uid : ℕ) (arguments : ExchangeIdArguments) (table cleared : Table) → cleared.run ≡ table.run → SameRun table (new_record limits uid arguments table cleared).1
record_run limits uid arguments table cleared same =
    let first = without_unconfirmed arguments.owner cleared in
    either (λ (r : Result ExchangeIdAnswer Status × Table). SameRun table r.1) (is_full_of_clients limits (yielding limits first)) _ _ (λ full. refl)
    (λ room. yielding_is (SameRun table) limits first same (λ number. same))

exchange_by_run : (limits : SessionLimits) (opens : ℕ → Bool) (uid : ℕ) (arguments : ExchangeIdArguments) (table : Table) (known : Option Client)
    → SameRun table (exchange_by limits opens uid arguments table known).1
exchange_by_run limits opens uid arguments table None = record_run limits uid arguments table table refl
exchange_by_run limits opens uid arguments table (Some client) =
    either (λ (r : Result ExchangeIdAnswer Status × Table). SameRun table r.1) (client.principal == uid) _ _
    (λ mine. either (λ (r : Result ExchangeIdAnswer Status × Table). SameRun table r.1) (bytes_eq client.verifier arguments.verifier) _ _
    (λ same. refl) (λ other. record_run limits uid arguments table table refl))
    (λ others. either (λ (r : Result ExchangeIdAnswer Status × Table). SameRun table r.1) (has_state opens table client.number) _ _
    (λ has. refl) (λ none. record_run limits uid arguments table (without_client client.number table) refl))

exchange_run : (limits : SessionLimits) (opens : ℕ → Bool) (uid : ℕ) (arguments : ExchangeIdArguments) (table : Table) → SameRun table (exchange_id limits opens uid arguments table).1
unfolding exchange_id
exchange_run limits opens uid arguments table =
    either (λ (r : Result ExchangeIdAnswer Status × Table). SameRun table r.1) (has_only exchange_flags arguments.flags) _ _
    (λ may. exchange_by_run limits opens uid arguments table (find (is_confirmed_of arguments.owner) table.clients)) (λ not. refl)

destroy_client_run : (opens : ℕ → Bool) (number : ℕ) (table : Table) → SameRun table (destroy_client_id opens number table).1
unfolding destroy_client_id
destroy_client_run opens number table = by_client (find (is_client number) table.clients)
  where
    by_client : (known : Option Client) → SameRun table (destroy_client_by opens number table known).1
    by_client None = refl
    by_client (Some client) =
        either (λ (r : Option Status × Table). SameRun table r.1) (has_state opens table number) _ _ (λ has. refl) (λ none. refl)

reclaim_run : (number : ℕ) (table : Table) → SameRun table (reclaim_complete number table).1
unfolding reclaim_complete
reclaim_run number table = by_client (find (is_client number) table.clients)
  where
    by_client : (known : Option Client) → SameRun table (reclaim_by number table known).1
    by_client None = refl
    by_client (Some client) = either (λ (r : Option Status × Table). SameRun table r.1) client.has_reclaimed _ _ (λ has. refl) (λ none. refl)

run_calls : (table : Table) → StayCalls (λ t. t.run) table
unfolding started
run_calls table = record {
  exchanges = λ limits opens uid arguments. exchange_run limits opens uid arguments table;
  destroys_client = λ opens number. destroy_client_run opens number table;
  reclaims = λ number. reclaim_run number table;
  starts = λ uid arguments. refl;
}

module _ (limits : SessionLimits) (arguments : CreateSessionArguments) (client : Client) (table : Table) where
  unless_run : (refusal : Option Status) → SameRun table (create_unless limits arguments client table refusal).table
  unless_run (Some reason) = refl
  unless_run None = refl

  again_run : (kept : Option CreateSessionAnswer) → SameRun table (create_again limits arguments client table kept).table
  again_run None = unless_run (first_refusal (create_refusals limits arguments client table))
  again_run (Some answer) =
      either (λ (o : CreateSessionOutcome). SameRun table o.table) (next_number arguments.sequence == client.sequence) _ _
      (λ same. refl) (λ other. unless_run (first_refusal (create_refusals limits arguments client table)))

create_run : (limits : SessionLimits) (uid : ℕ) (arguments : CreateSessionArguments) (table : Table) → SameRun table (create_session limits uid arguments table).table
unfolding create_session
create_run limits uid arguments table = by_client (find (is_client arguments.client) table.clients)
  where
    by_client : (known : Option Client) → SameRun table (create_by limits uid arguments table known).table
    by_client None = refl
    by_client (Some client) =
        either (λ (o : CreateSessionOutcome). SameRun table o.table) (client.principal == uid) _ _ (λ mine. again_run limits arguments client table client.kept) (λ other. refl)

destroy_run : (id : List ℕ) (table : Table) → SameRun table (destroy_session id table).1
unfolding destroy_session
destroy_run id table = by_session (find (is_session id) table.sessions)
  where
    by_session : (known : Option Session) → SameRun table (destroy_by id table known).1
    by_session None = either (λ (r : Option Status × Table). SameRun table r.1) (has_seat id table.seats) _ _ (λ has. refl) (λ none. refl)
    by_session (Some session) = either (λ (r : Option Status × Table). SameRun table r.1) (is_running session) _ _ (λ runs. refl) (λ rests. refl)

run_keeps_run : (world : World) (request : InProgress) (now : ℕ) (operation : Argument) → (world_by world (run world request now operation)).table.run ≡ world.table.run
unfolding run
run_keeps_run world request now (Argument.CreateSession arguments) =
    created_stays (λ t. t.run) world request (create_session world.limits.sessions request.context.cred.uid arguments world.table) _
    (create_run world.limits.sessions request.context.cred.uid arguments world.table)
run_keeps_run world request now (Argument.DestroySession id) = tabled_stays (λ t. t.run) world request _ _ _ (destroy_run id world.table)
run_keeps_run world request now operation = run_stays (λ t. t.run) world (run_calls world.table) request now operation refl

pub run_after : (world : World) (request : InProgress) (now : ℕ) (operation : Argument)
    → (world_by world (run_in_room world request now operation)).table.run ≡ world.table.run
run_after world request now operation =
    room_stays (λ t. t.run) world request (operation_of operation) (run world request now operation) (run_keeps_run world request now operation)

-- of a reply that is made
pub finish_run : (id : List ℕ) (place : ℕ) (holds : Bool) (reply : List ℕ) (table : Table) → (finish id place holds reply table).run ≡ table.run
unfolding finish
finish_run id place holds reply table = refl

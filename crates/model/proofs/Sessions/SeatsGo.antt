-- What an event makes of the seats of earlier runs: each stays as it is, or is gone.
use Rattle.std.proofs.Common.{◌≡◌, ℕ, ◌+◌, ◌^◌, ◌<◌, ◌⊎◌, inl, inr, Bool, true, false, cond, ◌==◌, List, find, Option, None, Some, is_some, Result, Ok, Err, refl, sym, ap, ◌∙◌, subst, arith, bytes_eq}
use Rattle.std.specs.List.{AllByRecursion}
use Rattle.std.proofs.lemmas.Slice.Eq.{bytes_eq-Decides}
use Rattle.model_tree.specs.declared.status.Status.{Status}
use Rattle.model_tree.specs.declared.status.Status.TheVariants as status
use Rattle.model.specs.Operations.Answer.{Answer, Outcome, Done, Refused, ExchangeIdAnswer, CreateSessionAnswer}
use Rattle.model.specs.Operations.Operation.{Argument, SequenceArguments, CreateSessionArguments, operation_of}
use Rattle.model_tree.specs.Refusals.Refusal.{first_refusal}
use Rattle.model.specs.Server.Runs.{Stored, Event, Arrives, Turns, HangsUp, Connects, Takes, effect_of}
use Rattle.model_tree.specs.Seats.Seats.{HeldReply, Seat, Seats, is_seat_of, seat_of, has_seat, freed_if, freed, seated, with_held, holds_if, holding, run_of, SeatsApart}
use Rattle.model.specs.Sessions.Session as sessions
use Rattle.model.specs.Sessions.Session.{SessionLimits, Client, Session, Table, is_session, is_client, is_running, slot_at, gives_way, seats_staying, seats_after, new_seat, persists, create_refusals, create_unless, create_again, create_by, create_session, CreateSessionOutcome, next_number, destroy_by, destroy_session, held_reply, held_by, finish}
use Rattle.model.specs.Sessions.StateIds.{has_opens}
use Rattle.model.specs.Server.World.{ServerLimits, World, InProgress, HasRun, Gives, Replays, Entry, exchanged, created_by, tabled, started_in, begun, reclaimed, run, Turned, with_result, result_of, kept_by, is_to_hold, closes, behind, is_last, one, arrives, takes, connects, hangs_up, noting}
use Rattle.model.proofs.Sessions.SeatLaws.{seat_found, freed_seat, stays_or_goes, had_seat, seated_other, holding_seat, has_holding}
use Rattle.model_tree.proofs.Facts.BytesLaws.{bytes_apart}
use Rattle.model.proofs.Sessions.AllOf.{all-found}
use Rattle.model.proofs.Sessions.SeatTables.{Seated, id_in, in_run, id_of_run, client_in_run}
use Rattle.model.proofs.Sessions.StoringTurns.{same_seats}
use Rattle.model.proofs.Server.ServedOnceLaws.{arrives_table, takes_table, connects_table, hangs_up_table}
use Rattle.model.proofs.Sessions.SlotLaw.{id_of, exchange_same, destroy_client_same, reclaim_same}
use Rattle.model.proofs.Sessions.SlotsHeld.{Held}
use Rattle.model.proofs.Sessions.TableCalls.{Holds, either, found_passes}
use Rattle.model.proofs.Server.TurnCases.{IsTurn, Idles, Says, Closes, Unread, TooBig, Gave, Repeats, turn_is, read_of}

pub record SeatsGo (run : ℕ) (old new : Seats) : Type 0 where
  pub earlier : (id : List ℕ) → run_of id < run → (seat_of id new ≡ seat_of id old) ⊎ (has_seat id new ≡ false)
  pub runs : (id : List ℕ) → has_seat id new ≡ true → (has_seat id old ≡ true) ⊎ (run_of id ≡ run)

pub go_same : (run : ℕ) (old new : Seats) → new ≡ old → SeatsGo run old new
go_same run old new same = record { earlier = λ id less. inl (ap (seat_of id) same); runs = λ id has. inl (ap (has_seat id) (sym same) ∙ has) }

go_on : (run : ℕ) (a b c : Seats) → SeatsGo run a b → SeatsGo run b c → SeatsGo run a c
go_on run a b c first second = record {
  earlier = λ id less. elim (second.earlier id less) [
    | inl same ↦ elim (first.earlier id less) [
      | inl before ↦ inl (same ∙ before)
      | inr gone ↦ inr (ap is_some same ∙ gone)
    ]
    | inr gone ↦ inr gone
  ];
  runs = λ id has. elim (second.runs id has) [
    | inl before ↦ first.runs id before
    | inr this ↦ inr this
  ];
}

go_freed : (run : ℕ) (gone : Seat → Bool) (seats : Seats) → SeatsApart seats → SeatsGo run seats (freed gone seats)
go_freed run gone seats apart = record {
  earlier = λ id less. by_option id (seat_of id seats) refl;
  runs = λ id has. inl (had_seat gone id seats apart has);
}
  where
    by_option : (id : List ℕ) (o : Option Seat) → seat_of id seats ≡ o → (seat_of id (freed gone seats) ≡ seat_of id seats) ⊎ (has_seat id (freed gone seats) ≡ false)
    by_option id None is = inr (ap is_some (freed_seat gone id seats apart) ∙ ap (λ (o : Option Seat). is_some (freed_if gone o)) is)
    by_option id (Some seat) is = elim (stays_or_goes gone id seats seat apart is) [
      | inl stays ↦ inl (stays ∙ sym is)
      | inr went ↦ inr went
    ]

less_apart : (run : ℕ) (id other : List ℕ) → run_of id < run → run_of other ≡ run → other ≡ id → ⊥
less_apart run id other less is same = let equal : run_of other ≡ run_of id = ap run_of same in omega (arith, less, is, equal)

go_seated : (run : ℕ) (seat : Seat) (seats : Seats) → run_of seat.session ≡ run → SeatsGo run seats (seated seat seats)
go_seated run seat seats of_run = record {
  earlier = λ id less. inl (seated_other seat id seats (bytes_apart seat.session id (less_apart run id seat.session less of_run)));
  runs = λ id has. by_test id (bytes_eq seat.session id) refl has;
}
  where
    by_test : (id : List ℕ) (b : Bool) → bytes_eq seat.session id ≡ b → has_seat id (seated seat seats) ≡ true → (has_seat id seats ≡ true) ⊎ (run_of id ≡ run)
    by_test id true same has = inr (ap run_of (sym ((bytes_eq-Decides seat.session id).0 same)) ∙ of_run)
    by_test id false apart has = inl (sym (ap is_some (seated_other seat id seats apart)) ∙ has)

go_held : (run : ℕ) (name : List ℕ) (place : ℕ) (held : HeldReply) (seats : Seats) → run_of name ≡ run → SeatsGo run seats (holding name place held seats)
go_held run name place held seats of_run = record {
  earlier = λ id less. inl (holding_seat name place held id seats ∙ by_option id less (seat_of id seats) refl);
  runs = λ id has. inl (sym (has_holding name place held id seats) ∙ has);
}
  where
    by_option : (id : List ℕ) → run_of id < run → (o : Option Seat) → seat_of id seats ≡ o → holds_if name place held o ≡ o
    by_option id less None is = refl
    by_option id less (Some seat) is =
        ap (λ (b : Bool). Some (cond b (with_held place held seat) seat))
        (bytes_apart seat.session name (λ same. less_apart run id name less of_run (sym same ∙ seat_found id seats seat is)))

-- The calls

go_destroyed : (run : ℕ) (id : List ℕ) (table : Table) (known : Option Session) → SeatsApart table.seats → SeatsGo run table.seats (destroy_by id table known).1.seats
go_destroyed run id table None apart =
    either (λ (r : Option Status × Table). SeatsGo run table.seats r.1.seats) (has_seat id table.seats) _ _
    (λ has. go_freed run (is_seat_of id) table.seats apart) (λ none. go_same run table.seats table.seats refl)
go_destroyed run id table (Some session) apart =
    either (λ (r : Option Status × Table). SeatsGo run table.seats r.1.seats) (is_running session) _ _
    (λ runs. go_same run table.seats table.seats refl) (λ rests. go_freed run (is_seat_of id) table.seats apart)

module _ (limits : SessionLimits) (run : ℕ) (small : run < 2 ^ 32) (arguments : CreateSessionArguments) (client : Client) (table : Table) (of_run : in_run client.number ≡ run)
    (apart : SeatsApart table.seats) where
  abbrev CreatedGo : CreateSessionOutcome → Type 0
  CreatedGo o = SeatsGo run table.seats o.table.seats

  first : SeatsGo run table.seats (seats_staying arguments client table)
  first = go_freed run (gives_way arguments client table) table.seats apart

  then : (b : Bool) → (let seats : Seats = cond b (seated (new_seat limits arguments client table) (seats_staying arguments client table)) (seats_staying arguments client table) in SeatsGo run table.seats seats)
  then true =
      go_on run table.seats (seats_staying arguments client table) (seated (new_seat limits arguments client table) (seats_staying arguments client table)) first
      (go_seated run (new_seat limits arguments client table) (seats_staying arguments client table) (id_of_run run client.number (table.session_serial + 1) small of_run))
  then false = first

  go_unless : (refusal : Option Status) → CreatedGo (create_unless limits arguments client table refusal)
  go_unless (Some reason) = go_same run table.seats table.seats refl
  go_unless None = then (persists arguments client table)

  go_again : (kept : Option CreateSessionAnswer) → CreatedGo (create_again limits arguments client table kept)
  go_again None = go_unless (first_refusal (create_refusals limits arguments client table))
  go_again (Some answer) =
      either CreatedGo (next_number arguments.sequence == client.sequence) _ _
      (λ same. go_same run table.seats table.seats refl) (λ other. go_unless (first_refusal (create_refusals limits arguments client table)))

go_created : (limits : SessionLimits) (uid : ℕ) (arguments : CreateSessionArguments) (table : Table) → Holds limits table → table.run < 2 ^ 32 → SeatsApart table.seats
    → SeatsGo table.run table.seats (create_session limits uid arguments table).table.seats
unfolding create_session
go_created limits uid arguments table holds small apart = by_client (find (is_client arguments.client) table.clients) refl
  where
    by_client : (known : Option Client) → find (is_client arguments.client) table.clients ≡ known → SeatsGo table.run table.seats (create_by limits uid arguments table known).table.seats
    by_client None found = go_same table.run table.seats table.seats refl
    by_client (Some client) found =
        either (λ (o : CreateSessionOutcome). SeatsGo table.run table.seats o.table.seats) (client.principal == uid) _ _
        (λ own. go_again limits table.run small arguments client table
        (client_in_run limits table.run table.client_serial table.clients holds.0 arguments.client client found) apart client.kept)
        (λ other. go_same table.run table.seats table.seats refl)

go_finished : (run : ℕ) → run < 2 ^ 32 → (id : List ℕ) (place : ℕ) (reply : List ℕ) (table : Table) → AllByRecursion (λ (s : Session). in_run s.client ≡ run) table.sessions
    → SeatsGo run table.seats (finish id place true reply table).seats
unfolding finish
go_finished run small id place reply table of_run = by_session (find (is_session id) table.sessions) refl
  where
    by_session : (known : Option Session) → find (is_session id) table.sessions ≡ known → SeatsGo run table.seats (held_by id place reply table.seats known)
    by_session None found = go_same run table.seats table.seats refl
    by_session (Some session) found =
        let named : id_in session ≡ id = id_of id session (found_passes (is_session id) table.sessions session found) in
        let its = all-found (λ (s : Session). in_run s.client ≡ run) (is_session id) table.sessions session of_run found in
        go_held run id place (held_reply reply (slot_at session place)) table.seats
        (ap run_of (sym named) ∙ id_of_run run session.client session.serial small its)

-- A turn

abbrev RanGo : (run : ℕ) → World → HasRun → Type 0
RanGo run world (Gives outcome after left) = SeatsGo run world.table.seats after.table.seats
RanGo run world (Replays result session slot) = Unit {0}

module _ (limits : ServerLimits) (world : World) (held : Held limits world) (its_run : ℕ) (run_is : world.table.run ≡ its_run) (small : its_run < 2 ^ 32)
    (stored : List Stored) (gone : List (List ℕ)) (is : Seated its_run world.table stored gone) where
  abbrev Go : Table → Type 0
  Go table = SeatsGo its_run world.table.seats table.seats

  stays : Go world.table
  stays = go_same its_run world.table.seats world.table.seats refl

  exchanged_go : (request : InProgress) (r : Result ExchangeIdAnswer Status × Table) → Go r.1 → RanGo its_run world (exchanged world request r)
  exchanged_go request (Err reason, table) go = go
  exchanged_go request (Ok answer, table) go = go

  created_go : (request : InProgress) (o : CreateSessionOutcome) (answer : Result CreateSessionAnswer Status) → Go o.table → RanGo its_run world (created_by world request o answer)
  created_go request o (Err reason) go = stays
  created_go request o (Ok answer) go = go

  tabled_go : (request : InProgress) (operation : ℕ) (answer : Answer) (r : Option Status × Table) → Go r.1 → RanGo its_run world (tabled world request operation answer r)
  tabled_go request operation answer (Some reason, table) go = go
  tabled_go request operation answer (None, table) go = go

  reclaimed_go : (request : InProgress) (refusal : Option Status) → RanGo its_run world (reclaimed world request refusal)
  reclaimed_go request None = stays
  reclaimed_go request (Some reason) = stays

  started_go : (request : InProgress) (arguments : SequenceArguments) → Go (sessions.started request.context.cred.uid arguments world.table)
  unfolding sessions.started
  started_go request arguments = stays

  begun_go : (request : InProgress) (arguments : SequenceArguments) (b : sessions.Begun) → RanGo its_run world (begun world request arguments b)
  begun_go request arguments (sessions.Refuses reason) = stays
  begun_go request arguments (sessions.Replays reply) = tt
  begun_go request arguments sessions.Runs = by_session (find (is_session arguments.session) world.table.sessions)
    where
      by_session : (known : Option Session) → RanGo its_run world (started_in world request arguments known)
      by_session None = stays
      by_session (Some session) = started_go request arguments

  made_go : (request : InProgress) (arguments : CreateSessionArguments) → Go (create_session world.limits.sessions request.context.cred.uid arguments world.table).table
  made_go request arguments =
      subst (λ (r : ℕ). SeatsGo r world.table.seats (create_session world.limits.sessions request.context.cred.uid arguments world.table).table.seats) run_is
      (go_created world.limits.sessions request.context.cred.uid arguments world.table
      (subst (λ (l : ServerLimits). Holds l.sessions world.table) (sym held.limits_are) held.holds)
      (subst (λ (r : ℕ). r < 2 ^ 32) (sym run_is) small) is.apart)

  ended_go : (id : List ℕ) → Go (destroy_session id world.table).1
  unfolding destroy_session
  ended_go id = go_destroyed its_run id world.table (find (is_session id) world.table.sessions) is.apart

  run_go : (request : InProgress) (now : ℕ) (operation : Argument) → RanGo its_run world (run world request now operation)
  unfolding run
  run_go request now (Argument.ExchangeId arguments) =
      exchanged_go request _ (go_same its_run _ _ (exchange_same world.limits.sessions (has_opens world.opens) request.context.cred.uid arguments world.table).seats)
  run_go request now (Argument.CreateSession arguments) =
      created_go request (create_session world.limits.sessions request.context.cred.uid arguments world.table) _ (made_go request arguments)
  run_go request now (Argument.DestroySession id) = tabled_go request _ _ _ (ended_go id)
  run_go request now (Argument.DestroyClientId client) =
      tabled_go request _ _ _ (go_same its_run _ _ (destroy_client_same (has_opens world.opens) client world.table).seats)
  run_go request now (Argument.Sequence arguments) = begun_go request arguments _
  run_go request now (Argument.ReclaimComplete true) = reclaimed_go request _
  run_go request now (Argument.ReclaimComplete false) =
      tabled_go request _ _ _ (go_same its_run _ _ (reclaim_same request.context.client world.table).seats)
  run_go request now operation = stays

  abbrev TurnGo : Turned → Type 0
  TurnGo t = Go t.world.table

  kept_go : (slot : Option (List ℕ × ℕ)) (result : List ℕ) (table : Table) → Go table → Go (kept_by slot false result table)
  unfolding finish
  kept_go None result table go = go
  kept_go (Some slot) result table go = go

  closes_go : (number : ℕ) (after : World) (request : InProgress) (last : Status) (executed : Option Entry) → Go after.table → TurnGo (closes after number request last executed)
  closes_go number after request last executed go =
      either TurnGo (is_to_hold request after.table) _ _ (λ seated. go) (λ none. kept_go request.slot (result_of request last) after.table go)

  behind_go : (number : ℕ) (after : World) (request : InProgress) (outcome : Outcome) (executed : Option Entry) → Go after.table → TurnGo (behind after number request outcome executed)
  behind_go number after request (Refused operation reason) executed go = closes_go number after (with_result request (Refused operation reason)) reason executed go
  behind_go number after request (Done answer) executed go =
      either TurnGo (is_last request) _ _ (λ last. closes_go number after (with_result request (Done answer)) status.Ok executed go) (λ more. go)

  ends_go : (slot : Option (List ℕ × ℕ)) (result : List ℕ) → Go (kept_by slot true result world.table)
  ends_go None result = stays
  ends_go (Some slot) result = go_finished its_run small slot.0 slot.1 result world.table is.of_run

  turned_go : (number now : ℕ) (t : Turned) → IsTurn world number now t → TurnGo t
  turned_go number now _ Idles = stays
  turned_go number now _ (Says bytes xid reply waits) = stays
  turned_go number now _ (Closes request last there ended) = ends_go request.slot (result_of request last)
  turned_go number now _ (Unread request operation reason goes) = behind_go number world request (Refused operation reason) None stays
  turned_go number now _ (TooBig request operation rest goes reads) = behind_go number world (noting world world operation (read_of request rest)) (Refused (operation_of operation) status.RepTooBig) _ stays
  turned_go number now _ (Gave request operation rest outcome after left goes reads ran) =
      behind_go number after (noting world after operation left) outcome _ (subst (RanGo its_run world) ran (run_go (read_of request rest) now operation))
  turned_go number now _ (Repeats request operation rest result session slot goes reads ran) = stays

  quiet_go : (after : World) → after.table ≡ world.table → Go after.table
  quiet_go after same = go_same its_run world.table.seats after.table.seats (ap (λ (t : Table). t.seats) same)

  pub event_go : (event : Event) → Go (effect_of world event).table
  event_go (Arrives connection piece) = quiet_go (arrives world connection piece) (arrives_table world connection piece)
  event_go (Turns connection now) = turned_go connection now (one world connection now) (turn_is world connection now)
  event_go (HangsUp connection) = quiet_go (hangs_up world connection) (hangs_up_table world connection)
  event_go (Connects connection) = quiet_go (connects world connection) (connects_table world connection)
  event_go (Takes connection) = quiet_go (takes world connection) (takes_table world connection)

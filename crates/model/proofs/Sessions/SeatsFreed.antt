-- A seat is freed only if that is asked for.
use Rattle.std.proofs.Common.{◌≡◌, ℕ, Bool, true, false, cond, ◌==◌, List, [], ◌∷◌, find, Option, None, Some, is_some, Result, Ok, Err, refl, sym, ap, ◌∙◌, subst}
use Rattle.std.proofs.lemmas.Bool.{true≢false}
use Rattle.std.proofs.lemmas.Slice.Eq.{bytes_eq-Decides}
use Rattle.model_tree.specs.declared.status.Status.{Status}
use Rattle.model_tree.specs.declared.status.Status.TheVariants as status
use Rattle.model.specs.Operations.Answer.{Answer, Outcome, Done, Refused, ExchangeIdAnswer, CreateSessionAnswer}
use Rattle.model.specs.Operations.Operation.{Argument, SequenceArguments, CreateSessionArguments, operation_of}
use Rattle.model_tree.specs.Refusals.Refusal.{first_refusal}
use Rattle.model.specs.Server.Runs.{Event, Arrives, Turns, HangsUp, Connects, Takes, effect_of, executed_of, is_done}
use Rattle.model.specs.Sessions.SeatRuns.{GoesBy, Destroyed, GivesWay, IsFreedBy, EveryFreeingIsAsked}
use Rattle.model_tree.specs.Seats.Seats.{Seat, Seats, is_seat_of, seat_of, has_seat, freed_if, freed, seated, SeatsApart}
use Rattle.model.specs.Sessions.Session as sessions
use Rattle.model.specs.Sessions.Session.{SessionLimits, Client, Session, Table, is_session, is_client, is_running, slot_at, gives_way, seats_staying, new_seat, persists, create_refusals, create_unless, create_again, create_by, create_session, CreateSessionOutcome, next_number, destroy_by, destroy_session, held_reply, held_by, finish}
use Rattle.model.specs.Sessions.StateIds.{has_opens}
use Rattle.model.specs.Server.World.{World, InProgress, HasRun, Gives, Replays, Entry, exchanged, created_by, tabled, started_in, begun, reclaimed, run, executed_entry, Turned, with_result, result_of, kept_by, is_to_hold, closes, behind, is_last, one, arrives, takes, connects, hangs_up, noting}
use Rattle.model.proofs.Sessions.SeatLaws.{seat_found, freed_seat, has_holding}
use Rattle.model.proofs.Sessions.SeatRunLaws.{stop_seated}
use Rattle.model.proofs.Server.ServedOnceLaws.{arrives_table, takes_table, connects_table, hangs_up_table}
use Rattle.model.proofs.Sessions.SlotLaw.{exchange_same, destroy_client_same, reclaim_same}
use Rattle.model.proofs.Sessions.TableCalls.{either}
use Rattle.model.proofs.Server.TurnCases.{IsTurn, Idles, Says, Closes, Unread, TooBig, Gave, Repeats, turn_is, read_of}

-- Only seats

freed_tells : (gone : Seat → Bool) (id : List ℕ) (seats : Seats) (seat : Seat) → SeatsApart seats → seat_of id seats ≡ Some seat → has_seat id (freed gone seats) ≡ false → gone seat ≡ true
freed_tells gone id seats seat apart there went = by_test (gone seat) refl
  where
    by_test : (b : Bool) → gone seat ≡ b → gone seat ≡ true
    by_test true is = is
    by_test false is =
        let stays : has_seat id (freed gone seats) ≡ true = ap is_some (freed_seat gone id seats apart)
        ∙ (ap (λ (o : Option Seat). is_some (freed_if gone o)) there ∙ ap (λ (b : Bool). is_some (cond b None (Some seat))) is) in
        absurd (true≢false (sym stays ∙ went))

seated_keeps : (new : Seat) (id : List ℕ) (seats : Seats) → has_seat id seats ≡ true → has_seat id (seated new seats) ≡ true
seated_keeps new id [] has = has
seated_keeps new id (None ∷ seats) has = by_test (is_seat_of id new)
  where
    by_test : (b : Bool) → is_some (cond b (Some new) (seat_of id seats)) ≡ true
    by_test true = refl
    by_test false = has
seated_keeps new id (Some other ∷ seats) has = by_test (seated_keeps new id seats) (is_seat_of id other) has
  where
    by_test : (has_seat id seats ≡ true → has_seat id (seated new seats) ≡ true) → (b : Bool) → is_some (cond b (Some other) (seat_of id seats)) ≡ true
        → is_some (cond b (Some other) (seat_of id (seated new seats))) ≡ true
    by_test rest true is = refl
    by_test rest false is = rest is

seated_frees : (new : Seat) (id : List ℕ) (seats : Seats) → has_seat id (seated new seats) ≡ false → has_seat id seats ≡ false
seated_frees new id seats went = by_test (has_seat id seats) refl
  where
    by_test : (b : Bool) → has_seat id seats ≡ b → has_seat id seats ≡ false
    by_test true has = absurd (true≢false (sym (seated_keeps new id seats has) ∙ went))
    by_test false none = none

-- What a turn keeps or holds frees none

kept_has : (id : List ℕ) (slot : Option (List ℕ × ℕ)) (holds : Bool) (result : List ℕ) (table : Table) → has_seat id (kept_by slot holds result table).seats ≡ has_seat id table.seats
unfolding finish
kept_has id None holds result table = refl
kept_has id (Some slot) false result table = refl
kept_has id (Some slot) true result table = by_session (find (is_session slot.0) table.sessions)
  where
    by_session : (known : Option Session) → has_seat id (held_by slot.0 slot.1 result table.seats known) ≡ has_seat id table.seats
    by_session None = refl
    by_session (Some session) = has_holding slot.0 slot.1 (held_reply result (slot_at session slot.1)) id table.seats

closes_has : (id : List ℕ) (number : ℕ) (after : World) (request : InProgress) (last : Status) (executed : Option Entry)
    → (has_seat id (closes after number request last executed).world.table.seats ≡ has_seat id after.table.seats) × ((closes after number request last executed).executed ≡ executed)
closes_has id number after request last executed =
    either (λ (t : Turned). (has_seat id t.world.table.seats ≡ has_seat id after.table.seats) × (t.executed ≡ executed)) (is_to_hold request after.table) _ _
    (λ seated. (refl, refl)) (λ none. (kept_has id request.slot false (result_of request last) after.table, refl))

pub behind_has : (id : List ℕ) (number : ℕ) (after : World) (request : InProgress) (outcome : Outcome) (executed : Option Entry)
    → (has_seat id (behind after number request outcome executed).world.table.seats ≡ has_seat id after.table.seats)
    × ((behind after number request outcome executed).executed ≡ executed)
behind_has id number after request (Refused operation reason) executed = closes_has id number after (with_result request (Refused operation reason)) reason executed
behind_has id number after request (Done answer) executed =
    either (λ (t : Turned). (has_seat id t.world.table.seats ≡ has_seat id after.table.seats) × (t.executed ≡ executed)) (is_last request) _ _
    (λ last. closes_has id number after (with_result request (Done answer)) status.Ok executed) (λ more. (refl, refl))

-- What an operation frees

module _ (world : World) (apart : SeatsApart world.table.seats) where
  abbrev Frees : Argument → (done : Bool) → Seats → Type 0
  Frees operation done new = (id : List ℕ) (seat : Seat) → seat_of id world.table.seats ≡ Some seat → has_seat id new ≡ false → (done ≡ true) × GoesBy world.table id seat operation

  still_there : {T : Type 0} (new : Seats) → new ≡ world.table.seats → (id : List ℕ) (seat : Seat) → seat_of id world.table.seats ≡ Some seat → has_seat id new ≡ false → T
  still_there new same id seat there went = absurd (true≢false (sym (ap is_some there) ∙ (ap (has_seat id) (sym same) ∙ went)))

  frees_none : (operation : Argument) (done : Bool) (new : Seats) → new ≡ world.table.seats → Frees operation done new
  frees_none operation done new same id seat there went = still_there new same id seat there went

  abbrev RanFrees : Argument → HasRun → Type 0
  RanFrees operation (Gives outcome after left) = Frees operation (is_done outcome) after.table.seats
  RanFrees operation (Replays result session slot) = Unit {0}

  abbrev is_none : Option Status → Bool
  is_none None = true
  is_none (Some reason) = false

  exchanged_frees : (operation : Argument) (request : InProgress) (r : Result ExchangeIdAnswer Status × Table) → r.1.seats ≡ world.table.seats
      → RanFrees operation (exchanged world request r)
  exchanged_frees operation request (Err reason, table) same = frees_none operation false table.seats same
  exchanged_frees operation request (Ok answer, table) same = frees_none operation true table.seats same

  tabled_frees : (operation : Argument) (request : InProgress) (number : ℕ) (answer : Answer) (r : Option Status × Table) → Frees operation (is_none r.0) r.1.seats
      → RanFrees operation (tabled world request number answer r)
  tabled_frees operation request number answer (Some reason, table) frees = frees
  tabled_frees operation request number answer (None, table) frees = frees

  created_frees : (operation : Argument) (request : InProgress) (o : CreateSessionOutcome) (answer : Result CreateSessionAnswer Status) → Frees operation true o.table.seats
      → RanFrees operation (created_by world request o answer)
  created_frees operation request o (Err reason) frees = frees_none operation false world.table.seats refl
  created_frees operation request o (Ok answer) frees = frees

  reclaimed_frees : (operation : Argument) (request : InProgress) (refusal : Option Status) → RanFrees operation (reclaimed world request refusal)
  reclaimed_frees operation request None = frees_none operation true world.table.seats refl
  reclaimed_frees operation request (Some reason) = frees_none operation false world.table.seats refl

  begun_frees : (operation : Argument) (request : InProgress) (arguments : SequenceArguments) (b : sessions.Begun) → RanFrees operation (begun world request arguments b)
  unfolding sessions.started
  begun_frees operation request arguments (sessions.Refuses reason) = frees_none operation false world.table.seats refl
  begun_frees operation request arguments (sessions.Replays reply) = tt
  begun_frees operation request arguments sessions.Runs = by_session (find (is_session arguments.session) world.table.sessions)
    where
      by_session : (known : Option Session) → RanFrees operation (started_in world request arguments known)
      by_session None = frees_none operation false world.table.seats refl
      by_session (Some session) = frees_none operation true world.table.seats refl

  -- DESTROY_SESSION

  asked : (name : List ℕ) → Frees (Argument.DestroySession name) true (freed (is_seat_of name) world.table.seats)
  asked name id seat there went =
      let named : seat.session ≡ name = (bytes_eq-Decides seat.session name).0 (freed_tells (is_seat_of name) id world.table.seats seat apart there went) in
      (refl, subst (λ (n : List ℕ). GoesBy world.table id seat (Argument.DestroySession n)) (sym (seat_found id world.table.seats seat there) ∙ named) Destroyed)

  abbrev DestroysSo : List ℕ → Option Status × Table → Type 0
  DestroysSo name r = Frees (Argument.DestroySession name) (is_none r.0) r.1.seats

  destroyed_frees : (name : List ℕ) (known : Option Session) → DestroysSo name (destroy_by name world.table known)
  destroyed_frees name None =
      either (DestroysSo name) (has_seat name world.table.seats) _ _ (λ has. asked name) (λ none. frees_none (Argument.DestroySession name) false world.table.seats refl)
  destroyed_frees name (Some session) =
      either (DestroysSo name) (is_running session) _ _ (λ runs. frees_none (Argument.DestroySession name) false world.table.seats refl) (λ rests. asked name)

  destroy_frees : (name : List ℕ) → DestroysSo name (destroy_session name world.table)
  unfolding destroy_session
  destroy_frees name = destroyed_frees name (find (is_session name) world.table.sessions)

  -- CREATE_SESSION

  module _ (limits : SessionLimits) (arguments : CreateSessionArguments) where
    abbrev CreatesSo : CreateSessionOutcome → Type 0
    CreatesSo o = Frees (Argument.CreateSession arguments) true o.table.seats

    none_goes : CreatesSo (sessions.create_refused status.Delay world.table)
    none_goes = frees_none (Argument.CreateSession arguments) true world.table.seats refl

    module _ (client : Client) (found : find (is_client arguments.client) world.table.clients ≡ Some client) where
      staying_frees : Frees (Argument.CreateSession arguments) true (seats_staying arguments client world.table)
      staying_frees id seat there went =
          (refl, GivesWay arguments client found (freed_tells (gives_way arguments client world.table) id world.table.seats seat apart there went))

      after_frees : (b : Bool) → (let seats : Seats = cond b (seated (new_seat limits arguments client world.table) (seats_staying arguments client world.table)) (seats_staying arguments client world.table) in
          Frees (Argument.CreateSession arguments) true seats)
      after_frees true id seat there went = staying_frees id seat there (seated_frees (new_seat limits arguments client world.table) id (seats_staying arguments client world.table) went)
      after_frees false id seat there went = staying_frees id seat there went

      unless_frees : (refusal : Option Status) → CreatesSo (create_unless limits arguments client world.table refusal)
      unless_frees (Some reason) = none_goes
      unless_frees None = after_frees (persists arguments client world.table)

      again_frees : (kept : Option CreateSessionAnswer) → CreatesSo (create_again limits arguments client world.table kept)
      again_frees None = unless_frees (first_refusal (create_refusals limits arguments client world.table))
      again_frees (Some answer) =
          either CreatesSo (next_number arguments.sequence == client.sequence) _ _
          (λ same. none_goes) (λ other. unless_frees (first_refusal (create_refusals limits arguments client world.table)))

    create_frees : (uid : ℕ) → CreatesSo (create_session limits uid arguments world.table)
    unfolding create_session
    create_frees uid = by_client (find (is_client arguments.client) world.table.clients) refl
      where
        by_client : (known : Option Client) → find (is_client arguments.client) world.table.clients ≡ known → CreatesSo (create_by limits uid arguments world.table known)
        by_client None found = none_goes
        by_client (Some client) found =
            either CreatesSo (client.principal == uid) _ _ (λ own. again_frees client found client.kept) (λ other. none_goes)

  run_frees : (request : InProgress) (now : ℕ) (operation : Argument) → RanFrees operation (run world request now operation)
  unfolding run
  run_frees request now (Argument.ExchangeId arguments) =
      exchanged_frees (Argument.ExchangeId arguments) request _ (exchange_same world.limits.sessions (has_opens world.opens) request.context.cred.uid arguments world.table).seats
  run_frees request now (Argument.CreateSession arguments) =
      created_frees (Argument.CreateSession arguments) request (create_session world.limits.sessions request.context.cred.uid arguments world.table) _
      (create_frees world.limits.sessions arguments request.context.cred.uid)
  run_frees request now (Argument.DestroySession id) = tabled_frees (Argument.DestroySession id) request _ _ _ (destroy_frees id)
  run_frees request now (Argument.DestroyClientId client) =
      tabled_frees (Argument.DestroyClientId client) request _ _ _
      (frees_none (Argument.DestroyClientId client) _ _ (destroy_client_same (has_opens world.opens) client world.table).seats)
  run_frees request now (Argument.Sequence arguments) = begun_frees (Argument.Sequence arguments) request arguments _
  run_frees request now (Argument.ReclaimComplete true) = reclaimed_frees (Argument.ReclaimComplete true) request _
  run_frees request now (Argument.ReclaimComplete false) =
      tabled_frees (Argument.ReclaimComplete false) request _ _ _
      (frees_none (Argument.ReclaimComplete false) _ _ (reclaim_same request.context.client world.table).seats)
  run_frees request now operation = frees_none operation _ world.table.seats refl

  -- An event

  abbrev TurnFrees : Turned → Type 0
  TurnFrees t = (id : List ℕ) (seat : Seat) → seat_of id world.table.seats ≡ Some seat → has_seat id t.world.table.seats ≡ false → IsFreedBy world.table t.executed id seat

  stays_there : {T : Type 0} (new : Seats) (id : List ℕ) (seat : Seat) → has_seat id new ≡ has_seat id world.table.seats → seat_of id world.table.seats ≡ Some seat → has_seat id new ≡ false → T
  stays_there new id seat same there went = absurd (true≢false (sym (ap is_some there) ∙ (sym same ∙ went)))

  turned_frees : (number now : ℕ) (t : Turned) → IsTurn world number now t → TurnFrees t
  turned_frees number now _ Idles id seat there went = stays_there world.table.seats id seat refl there went
  turned_frees number now _ (Says bytes xid reply waits) id seat there went = stays_there world.table.seats id seat refl there went
  turned_frees number now _ (Closes request last begins ended) id seat there went =
      stays_there (kept_by request.slot true (result_of request last) world.table).seats id seat (kept_has id request.slot true (result_of request last) world.table) there went
  turned_frees number now _ (Unread request operation reason goes) id seat there went =
      stays_there (behind world number request (Refused operation reason) None).world.table.seats id seat (behind_has id number world request (Refused operation reason) None).0 there went
  turned_frees number now _ (TooBig request operation rest goes reads) id seat there went =
      let outcome = Refused (operation_of operation) status.RepTooBig in
      let executed = Some (executed_entry world (read_of request rest) operation outcome world) in
      let noted : InProgress = noting world world operation (read_of request rest) in
      stays_there (behind world number noted outcome executed).world.table.seats id seat (behind_has id number world noted outcome executed).0 there went
  turned_frees number now _ (Gave request operation rest outcome after left goes reads ran) id seat there went =
      let entry : Entry = executed_entry world (read_of request rest) operation outcome after in
      let has = behind_has id number after (noting world after operation left) outcome (Some entry) in
      let frees = (subst (RanFrees operation) ran (run_frees (read_of request rest) now operation)) id seat there (sym has.0 ∙ went) in
      record { entry = entry; is = has.1; done = frees.0; by = frees.1 }
  turned_frees number now _ (Repeats request operation rest result session slot goes reads ran) id seat there went = stays_there world.table.seats id seat refl there went

  quiet_frees : {T : Type 0} (after : World) → after.table ≡ world.table → (id : List ℕ) (seat : Seat) → seat_of id world.table.seats ≡ Some seat → has_seat id after.table.seats ≡ false → T
  quiet_frees after same id seat there went = stays_there after.table.seats id seat (ap (λ (t : Table). has_seat id t.seats) same) there went

  event_frees : (event : Event) (id : List ℕ) (seat : Seat) → seat_of id world.table.seats ≡ Some seat → has_seat id (effect_of world event).table.seats ≡ false
      → IsFreedBy world.table (executed_of world event) id seat
  event_frees (Arrives connection piece) id seat there went = quiet_frees (arrives world connection piece) (arrives_table world connection piece) id seat there went
  event_frees (Turns connection now) id seat there went = turned_frees connection now (one world connection now) (turn_is world connection now) id seat there went
  event_frees (HangsUp connection) id seat there went = quiet_frees (hangs_up world connection) (hangs_up_table world connection) id seat there went
  event_frees (Connects connection) id seat there went = quiet_frees (connects world connection) (connects_table world connection) id seat there went
  event_frees (Takes connection) id seat there went = quiet_frees (takes world connection) (takes_table world connection) id seat there went

pub every_freeing_is_asked : EveryFreeingIsAsked
every_freeing_is_asked limits stop up event id seat there went = event_frees stop.serving.world ((stop_seated stop).up up).0.apart event id seat there went

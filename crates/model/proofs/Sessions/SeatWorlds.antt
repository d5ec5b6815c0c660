-- Each event keeps what holds of the seats.
use Rattle.std.proofs.Common.{◌≡◌, ℕ, ◌<◌, inl, inr, Bool, true, false, cond, ◌&&◌, ◌==◌, List, [], ◌∷◌, ◌++◌, length, option_to_list, find, Option, None, Some, Result, Ok, Err, refl, sym, ap, ◌∙◌, subst, append-nil, bytes_eq, eq-eqb, ◌||◌}
use Rattle.std.specs.List.{list_any}
use Rattle.std.proofs.lemmas.Bool.{true≢false, false≢true, and_from, cases_lt}
use Rattle.std.proofs.lemmas.List.{get_or_past}
use Rattle.model_tree.specs.declared.status.Status.{Status}
use Rattle.model_tree.specs.declared.status.Status.TheVariants as status
use Rattle.model.specs.Operations.Answer.{Answer, Outcome, Done, Refused, ExchangeIdAnswer, CreateSessionAnswer}
use Rattle.model.specs.Operations.Operation.{Argument, SequenceArguments, operation_of}
use Rattle.model.specs.Server.Runs.{Stored, stored_by, freed_between}
use Rattle.model_tree.specs.Seats.Seats.{Seats, has_seat}
use Rattle.model.specs.Sessions.Session as sessions
use Rattle.model.specs.Sessions.Session.{Table, Session, Slot, SlotState, Free, Running, Kept, is_session, is_running_state, slot_at, no_slot}
use Rattle.model.specs.Sessions.SessionRuns as calls
use Rattle.model.specs.Sessions.SlotsHeld.{runs_at, is_slot_running, is_on, is_busy_on}
use Rattle.model.specs.Sessions.StateIds.{has_opens}
use Rattle.model.specs.Server.World.{ServerLimits, World, InProgress, HasRun, Gives, Replays, Entry, exchanged, created_by, tabled, started_in, begun, reclaimed, run, Turned, with_result, result_of, kept_by, is_to_hold, closes, behind, is_last, one, noting}
use Rattle.model.proofs.Sessions.SlotLaw.{SameSessions, RunsOn, begin_runs, exchange_same, destroy_client_same, reclaim_same}
use Rattle.model.proofs.Sessions.SlotRuns.{told_by}
use Rattle.model.proofs.Sessions.SlotsHeld.{Held}
use Rattle.model.proofs.Sessions.TableCalls.{Holds, either, ids_differ}
use Rattle.model.proofs.Sessions.TableIds.{every_call_gives_new}
use Rattle.model.proofs.Server.TurnCases.{IsTurn, Idles, Says, Closes, Unread, TooBig, Gave, Repeats, turn_is, read_of}
use Rattle.model_tree.proofs.Facts.BytesLaws.{bytes_same}
use Rattle.model.proofs.Sessions.SeatTables.{Seated, seated_more, seated_same, seated_destroyed, seated_create, seated_started, finished_unheld, finished_unseated, finished_seated}
use Rattle.model.proofs.Sessions.StoringTurns.{same_seats}

pub on_itself : (id : List ℕ) (place : ℕ) → is_on (Some (id, place)) id place ≡ true
on_itself id place = and_from (bytes_eq id id) (place == place) (bytes_same id id refl) (eq-eqb place place refl)

abbrev pub After : (run : ℕ) → (old new : Table) → List Stored → List (List ℕ) → Type 0
After run old new stored gone = Seated run new stored (gone ++ freed_between old.seats new.seats) × (new.run ≡ run)

abbrev RanSeated : (run : ℕ) → World → List Stored → List (List ℕ) → HasRun → Type 0
RanSeated run world stored gone (Gives outcome after left) = After run world.table after.table stored gone
RanSeated run world stored gone (Replays result session slot) = Unit {0}

-- a call keeps the run
same_run : (limits : sessions.SessionLimits) (call : calls.Call) (table : Table) (run : ℕ) → table.run ≡ run → (calls.after limits call table).run ≡ run
same_run limits call table run is = (every_call_gives_new limits call table).run ∙ is

module _ (limits : ServerLimits) (world : World) (held : Held limits world) (its_run : ℕ) (run_is : world.table.run ≡ its_run)
    (stored : List Stored) (gone : List (List ℕ)) (is : Seated its_run world.table stored gone) where
  abbrev Goes : Table → Type 0
  Goes table = After its_run world.table table stored gone

  stays : Goes world.table
  stays = (seated_more its_run world.table stored gone (freed_between world.table.seats world.table.seats) is, run_is)

  same : (table : Table) → SameSessions world.table table → table.run ≡ its_run → Goes table
  same table as_before its =
      (seated_more its_run table stored gone (freed_between world.table.seats table.seats) (seated_same its_run world.table table stored gone as_before is), its)

  exchanged_seated : (request : InProgress) (r : Result ExchangeIdAnswer Status × Table) → Goes r.1 → RanSeated its_run world stored gone (exchanged world request r)
  exchanged_seated request (Err reason, table) goes = goes
  exchanged_seated request (Ok answer, table) goes = goes

  created_seated : (request : InProgress) (o : sessions.CreateSessionOutcome) (answer : Result CreateSessionAnswer Status) → Goes o.table
      → RanSeated its_run world stored gone (created_by world request o answer)
  created_seated request o (Err reason) goes = stays
  created_seated request o (Ok answer) goes = goes

  tabled_seated : (request : InProgress) (operation : ℕ) (answer : Answer) (r : Option Status × Table) → Goes r.1
      → RanSeated its_run world stored gone (tabled world request operation answer r)
  tabled_seated request operation answer (Some reason, table) goes = goes
  tabled_seated request operation answer (None, table) goes = goes

  reclaimed_seated : (request : InProgress) (refusal : Option Status) → RanSeated its_run world stored gone (reclaimed world request refusal)
  reclaimed_seated request None = stays
  reclaimed_seated request (Some reason) = stays

  started_so : (request : InProgress) (arguments : SequenceArguments) → Goes (sessions.started request.context.cred.uid arguments world.table)
  unfolding sessions.started
  started_so request arguments = (
    seated_more its_run (sessions.started request.context.cred.uid arguments world.table) stored gone (freed_between world.table.seats world.table.seats)
        (seated_started its_run request.context.cred.uid arguments world.table stored gone is),
    run_is,
  )

  begun_seated : (request : InProgress) (arguments : SequenceArguments) (b : sessions.Begun)
      → sessions.begin request.context.cred.uid request.count arguments world.table ≡ b → RanSeated its_run world stored gone (begun world request arguments b)
  begun_seated request arguments (sessions.Refuses reason) is_so = stays
  begun_seated request arguments (sessions.Replays reply) is_so = tt
  begun_seated request arguments sessions.Runs is_so = by_session (find (is_session arguments.session) world.table.sessions)
    where
      by_session : (known : Option Session) → RanSeated its_run world stored gone (started_in world request arguments known)
      by_session None = stays
      by_session (Some session) = started_so request arguments

  created_so : (request : InProgress) (arguments : _) → Goes (sessions.create_session world.limits.sessions request.context.cred.uid arguments world.table).table
  created_so request arguments = (
    subst (λ (r : ℕ). Seated r (sessions.create_session world.limits.sessions request.context.cred.uid arguments world.table).table stored
        (gone ++ freed_between world.table.seats (sessions.create_session world.limits.sessions request.context.cred.uid arguments world.table).table.seats)) run_is
        (seated_create world.limits.sessions stored gone request.context.cred.uid arguments world.table
        (subst (λ (l : ServerLimits). Holds l.sessions world.table) (sym held.limits_are) held.holds)
        (subst (λ (r : ℕ). Seated r world.table stored gone) (sym run_is) is)),
    same_run world.limits.sessions (calls.Creates request.context.cred.uid arguments) world.table its_run run_is,
  )

  destroyed_so : (id : List ℕ) → Goes (sessions.destroy_session id world.table).1
  unfolding sessions.destroy_session
  destroyed_so id = (
    seated_destroyed its_run id world.table stored gone is (find (is_session id) world.table.sessions),
    same_run world.limits.sessions (calls.Destroys id) world.table its_run run_is,
  )

  run_seated : (request : InProgress) (now : ℕ) (operation : Argument) → RanSeated its_run world stored gone (run world request now operation)
  unfolding run
  run_seated request now (Argument.ExchangeId arguments) =
      exchanged_seated request _ (same _ (exchange_same world.limits.sessions (has_opens world.opens) request.context.cred.uid arguments world.table)
      (same_run world.limits.sessions (calls.Exchanges (has_opens world.opens) request.context.cred.uid arguments) world.table its_run run_is))
  run_seated request now (Argument.CreateSession arguments) = created_seated request (sessions.create_session world.limits.sessions request.context.cred.uid arguments world.table) _ (created_so request arguments)
  run_seated request now (Argument.DestroySession id) = tabled_seated request _ _ _ (destroyed_so id)
  run_seated request now (Argument.DestroyClientId client) =
      tabled_seated request _ _ _ (same _ (destroy_client_same (has_opens world.opens) client world.table)
      (same_run world.limits.sessions (calls.DestroysClient (has_opens world.opens) client) world.table its_run run_is))
  run_seated request now (Argument.Sequence arguments) = begun_seated request arguments _ refl
  run_seated request now (Argument.ReclaimComplete true) = reclaimed_seated request _
  run_seated request now (Argument.ReclaimComplete false) =
      tabled_seated request _ _ _ (same _ (reclaim_same request.context.client world.table)
      (same_run world.limits.sessions (calls.Reclaims request.context.client) world.table its_run run_is))
  run_seated request now operation = stays

  -- A turn

  abbrev pub TurnSeated : Turned → Type 0
  TurnSeated t = Seated its_run t.world.table (stored ++ option_to_list (stored_by t.world.table t.keeps t.holds)) (gone ++ freed_between world.table.seats t.world.table.seats)
      × (t.world.table.run ≡ its_run)

  nothing_more : (table : Table) → Goes table → Seated its_run table (stored ++ []) (gone ++ freed_between world.table.seats table.seats) × (table.run ≡ its_run)
  nothing_more table goes =
      (subst (λ (l : List Stored). Seated its_run table l (gone ++ freed_between world.table.seats table.seats)) (sym (append-nil stored)) goes.0, goes.1)

  kept_unheld : (slot : Option (List ℕ × ℕ)) (result : List ℕ) (table : Table) → Goes table
      → Seated its_run (kept_by slot false result table) (stored ++ option_to_list (stored_by (kept_by slot false result table) slot false))
      (gone ++ freed_between world.table.seats (kept_by slot false result table).seats)
      × ((kept_by slot false result table).run ≡ its_run)
  unfolding sessions.finish
  kept_unheld None result table goes = nothing_more table goes
  kept_unheld (Some slot) result table goes = nothing_more (sessions.finish slot.0 slot.1 false result table) (
    finished_unheld slot.0 slot.1 result its_run table stored (gone ++ freed_between world.table.seats table.seats) goes.0,
    goes.1,
  )

  closes_seated : (number : ℕ) (after : World) (request : InProgress) (last : Status) (executed : Option Entry) → Goes after.table → TurnSeated (closes after number request last executed)
  closes_seated number after request last executed goes =
      either TurnSeated (is_to_hold request after.table) _ _
      (λ seated. nothing_more after.table goes)
      (λ none. kept_unheld request.slot (result_of request last) after.table goes)

  behind_seated : (number : ℕ) (after : World) (request : InProgress) (outcome : Outcome) (executed : Option Entry) → Goes after.table → TurnSeated (behind after number request outcome executed)
  behind_seated number after request (Refused operation reason) executed goes = closes_seated number after (with_result request (Refused operation reason)) reason executed goes
  behind_seated number after request (Done answer) executed goes =
      either TurnSeated (is_last request) _ _
      (λ last. closes_seated number after (with_result request (Done answer)) status.Ok executed goes)
      (λ more. nothing_more after.table goes)

  -- a slot that runs is there
  module _ (id : List ℕ) (place : ℕ) (running : is_slot_running id place world.table ≡ true) where
    pub record Runs : Type 0 where
      pub session : Session
      pub found : find (is_session id) world.table.sessions ≡ Some session
      pub within : place < length session.slots
      pub runs : is_running_state (slot_at session place).state ≡ true

    some_found : (list : List Session) → list_any (runs_at id place) list ≡ true → (session : Session) × (find (is_session id) list ≡ Some session)
    some_found [] any = absurd (false≢true any)
    some_found (session ∷ list) any = by_test (some_found list) (is_session id session) any
      where
        by_test : (list_any (runs_at id place) list ≡ true → (session : Session) × (find (is_session id) list ≡ Some session)) → (b : Bool)
            → ((b && is_running_state (slot_at session place).state) || list_any (runs_at id place) list) ≡ true
            → (found : Session) × (cond b (Some session) (find (is_session id) list) ≡ Some found)
        by_test rest true any = (session, refl)
        by_test rest false any = rest any

    inside : (session : Session) → is_running_state (slot_at session place).state ≡ true → place < length session.slots
    inside session runs = elim (cases_lt place (length session.slots)) [
      | inl less ↦ less
      | inr past ↦ absurd (true≢false (sym runs ∙ ap (λ (slot : Slot). is_running_state slot.state) (get_or_past session.slots place no_slot past)))
    ]

    pub runs_there : Runs
    runs_there =
        let found = some_found world.table.sessions running in
        let few = ids_differ limits.sessions world.table.session_serial world.table.sessions held.holds.1 id in
        let state = sym (told_by id place world.table.sessions found.0 few found.1) ∙ running in
        record { session = found.0; found = found.1; within = inside found.0 state; runs = state }

    stored_so : (result : List ℕ) → (b : Bool) → has_seat id world.table.seats ≡ b
        → Seated its_run (sessions.finish id place true result world.table)
        (stored ++ option_to_list (stored_by (sessions.finish id place true result world.table) (Some (id, place)) true)) gone
    stored_so result true has =
        finished_seated id place result its_run world.table stored gone is runs_there.session runs_there.found runs_there.within has
    stored_so result false none = finished_unseated id place result its_run world.table stored gone none is

  kept_running : (slot : Option (List ℕ × ℕ)) (result : List ℕ) → ((id : List ℕ) (place : ℕ) → is_on slot id place ≡ true → is_slot_running id place world.table ≡ true)
      → Seated its_run (kept_by slot true result world.table) (stored ++ option_to_list (stored_by (kept_by slot true result world.table) slot true))
      (gone ++ freed_between world.table.seats (kept_by slot true result world.table).seats)
      × ((kept_by slot true result world.table).run ≡ its_run)
  kept_running None result runs = nothing_more world.table stays
  kept_running (Some slot) result runs =
      let new = sessions.finish slot.0 slot.1 true result world.table in (
        seated_more its_run new (stored ++ option_to_list (stored_by new (Some (slot.0, slot.1)) true)) gone (freed_between world.table.seats new.seats)
            (stored_so slot.0 slot.1 (runs slot.0 slot.1 (on_itself slot.0 slot.1)) result (has_seat slot.0 world.table.seats) refl),
        same_run world.limits.sessions (calls.Finishes slot.0 slot.1 true result) world.table its_run run_is,
      )

  turned_seated : (number now : ℕ) (t : Turned) → IsTurn world number now t → TurnSeated t
  turned_seated number now _ Idles = nothing_more world.table stays
  turned_seated number now _ (Says bytes xid reply waits) = nothing_more world.table stays
  turned_seated number now _ (Closes request last there ended) =
      kept_running request.slot (result_of request last)
      (λ id place on. held.law.runs id place number (ap (is_busy_on id place) there ∙ on))
  turned_seated number now _ (Unread request operation reason goes) = behind_seated number world request (Refused operation reason) None stays
  turned_seated number now _ (TooBig request operation rest goes reads) = behind_seated number world (noting world world operation (read_of request rest)) (Refused (operation_of operation) status.RepTooBig) _ stays
  turned_seated number now _ (Gave request operation rest outcome after left goes reads ran) =
      behind_seated number after (noting world after operation left) outcome _ (subst (RanSeated its_run world stored gone) ran (run_seated (read_of request rest) now operation))
  turned_seated number now _ (Repeats request operation rest result session slot goes reads ran) = nothing_more world.table stays

  pub one_seated : (number now : ℕ) → TurnSeated (one world number now)
  one_seated number now = turned_seated number now (one world number now) (turn_is world number now)

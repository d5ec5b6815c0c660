-- A slot runs exactly if one connection is busy on it, at each moment of a run.
use Rattle.std.proofs.Common.{◌≡◌, ◌≢◌, ℕ, ◌<◌, ◌≤◌, ◌⊎◌, inl, inr, Bool, true, false, not, cond, ◌&&◌, ◌||◌, nat_lt, is_some, length, List, [], ◌++◌, find, Option, None, Some, Result, Ok, Err, refl, sym, ap, ◌∙◌, subst, arith}
use Rattle.std.proofs.lemmas.Bool.{true≢false, cases_eq, and_parts, false_from_ne_true}
use Rattle.model_tree.specs.Seats.Seats.{Seats}
use Rattle.model_tree.specs.declared.status.Status.{Status}
use Rattle.model_tree.specs.declared.status.Status.TheVariants as status
use Rattle.model.specs.Operations.Answer.{Answer, Outcome, Done, Refused, ExchangeIdAnswer, CreateSessionAnswer}
use Rattle.model_tree.specs.Trees.Keyed.{Keyed, at, with, without}
use Rattle.model.specs.Operations.Operation.{Argument, SequenceArguments, operation_of}
use Rattle.model.specs.Wire.Record.{Prefix, Partial, Whole}
use Rattle.model.specs.Wire.Record as marks
use Rattle.model.specs.Wire.Rpc.{CallRead, NoCall, OtherVersion, Calls, VersionRefused, read_call, is_call_read, Request, Answers, Runs, request_of, Success, reply_text}
use Rattle.model.specs.Server.Runs.{Serving, RunHistory, IsRun, mounted, Event, Arrives, Turns, HangsUp, Connects, Takes, effect_of, Begins, Goes_on, Fails_at, Stays_down, Flushed}
use Rattle.model.specs.Sessions.Session as sessions
use Rattle.model.specs.Sessions.Session.{Session, Table, is_session}
use Rattle.model.specs.Sessions.SessionRuns as calls
use Rattle.model.specs.Sessions.SlotsHeld.{is_slot_running, is_on, is_busy_on, RunsWhereBusy, EveryRunningSlot}
use Rattle.model.specs.Sessions.StateIds.{has_opens}
use Rattle.model_tree.specs.Trees.Tree.{Tree}
use Rattle.model.specs.Server.World.{ServerLimits, InProgress, Connection, Quiet, Waiting, Busy, Replied, Closed, World, Entry, HasRun, Gives, Replays, Next, Refuses, Reads, Turned, next_operation, exchanged, created_by, tabled, started_in, begun, reclaimed, run, has_room, in_room, with_result, result_of, kept_by, ends, goes_on, closes, is_to_hold, further, behind, has_run, operates, in_progress, requested, called, turned, with_connection, executed_entry, refuses, one, arrived, arrives_at, connection_changed, arrives, without_reply, takes, can_connect, connects, is_busy, without_connection, hangs_up, is_last, mounted_world, noting}
use Rattle.model_tree.proofs.Trees.KeyedLaws.{at-with_same, at-with_other, at-without_same, at-without_other}
use Rattle.model.proofs.Operations.ReadOperations.{is_first, first_read}
use Rattle.model.proofs.Sessions.SlotLaw.{exchange_same, destroy_client_same, reclaim_same}
use Rattle.model.proofs.Sessions.SlotRuns.{RunsSame, same_sessions, finished, created_runs, destroyed_runs, rested_before, started_runs}
use Rattle.model.proofs.Sessions.TableCalls.{Holds, either, call_holds, begins, ids_differ}
use Rattle.model_tree.proofs.Facts.Counting.{size}
use Rattle.model.proofs.Server.TurnCases.{arrival_only, taking_only}

-- What holds between two events
pub record Held (limits : ServerLimits) (world : World) : Type 0 where
  pub law : RunsWhereBusy world
  pub begun : (number : ℕ) (request : InProgress) → at number world.connections ≡ Some (Busy request) → 0 < request.answered
  pub holds : Holds limits.sessions world.table
  pub limits_are : world.limits ≡ limits

not_true : (b : Bool) → not b ≡ true → b ≡ true → ⊥
not_true true is on = true≢false (sym is)
not_true false is on = true≢false (sym on)

-- A connection that is put down in place of another

-- what the tables and the two connections say of each other
record Exchanges (before : World) (here : ℕ) (new : Connection) (after : Table) : Type 0 where
  runs : (id : List ℕ) (place : ℕ) → is_slot_running id place after
      ≡ (is_busy_on id place (Some new) || (is_slot_running id place before.table && not (is_busy_on id place (at here before.connections))))
  fresh : (id : List ℕ) (place : ℕ) → is_busy_on id place (Some new) ≡ true
      → (is_busy_on id place (at here before.connections) ≡ true) ⊎ (is_slot_running id place before.table ≡ false)

module _ (before : World) (law : RunsWhereBusy before) (here : ℕ) (new : Connection) (after : World)
    (are : after.connections ≡ with before.connections here new) (exchanges : Exchanges before here new after.table) where
  stands_here : (id : List ℕ) (place : ℕ) → is_busy_on id place (at here after.connections) ≡ is_busy_on id place (Some new)
  stands_here id place =
      ap (λ (c : Keyed Connection). is_busy_on id place (at here c)) are
      ∙ ap (is_busy_on id place) (at-with_same before.connections here new)

  stands_there : (id : List ℕ) (place other : ℕ) → other ≢ here
      → is_busy_on id place (at other after.connections) ≡ is_busy_on id place (at other before.connections)
  stands_there id place other apart =
      ap (λ (c : Keyed Connection). is_busy_on id place (at other c)) are
      ∙ ap (is_busy_on id place) (at-with_other before.connections here other new apart)

  moved : (id : List ℕ) (place number other : ℕ) → number ≡ other → is_busy_on id place (at number after.connections) ≡ true
      → is_busy_on id place (at other after.connections) ≡ true
  moved id place number other same is = ap (λ (n : ℕ). is_busy_on id place (at n after.connections)) (sym same) ∙ is

  -- the connection here and another one are not both busy on it
  not_both : (id : List ℕ) (place other : ℕ) → other ≢ here → is_busy_on id place (at other after.connections) ≡ true
      → is_busy_on id place (Some new) ≡ true → ⊥
  not_both id place other apart there mine =
      let before_there : is_busy_on id place (at other before.connections) ≡ true = sym (stands_there id place other apart) ∙ there in
      elim (exchanges.fresh id place mine) [
        | inl same ↦ apart (law.one id place other here before_there same)
        | inr rests ↦ true≢false (sym (law.runs id place other before_there) ∙ rests)
      ]

  held_now : (id : List ℕ) (place : ℕ) (b : Bool) → is_busy_on id place (Some new) ≡ b
      → (b || (is_slot_running id place before.table && not (is_busy_on id place (at here before.connections)))) ≡ true
      → (number : ℕ) × (is_busy_on id place (at number after.connections) ≡ true)
  held_now id place true mine is = (here, stands_here id place ∙ mine)
  held_now id place false mine is =
      let parts = and_parts (is_slot_running id place before.table) (not (is_busy_on id place (at here before.connections))) is in
      let held = law.held id place parts.0 in
      let apart : held.0 ≢ here = λ same.
      not_true (is_busy_on id place (at here before.connections)) parts.1
      (ap (λ (n : ℕ). is_busy_on id place (at n before.connections)) (sym same) ∙ held.1) in
      (held.0, stands_there id place held.0 apart ∙ held.1)

  runs_now : (id : List ℕ) (place number : ℕ) → is_busy_on id place (at number after.connections) ≡ true → is_slot_running id place after.table ≡ true
  runs_now id place number is = elim (cases_eq number here) [
    | inl same ↦
        let mine : is_busy_on id place (Some new) ≡ true = sym (stands_here id place) ∙ moved id place number here same is in
        exchanges.runs id place ∙ ap (λ b. b || (is_slot_running id place before.table && not (is_busy_on id place (at here before.connections)))) mine
    | inr apart ↦
        let there : is_busy_on id place (at number before.connections) ≡ true = sym (stands_there id place number apart) ∙ is in
        let running : is_slot_running id place before.table ≡ true = law.runs id place number there in
        let idle : is_busy_on id place (at here before.connections) ≡ false =
        false_from_ne_true (is_busy_on id place (at here before.connections)) (λ mine. apart (law.one id place number here there mine)) in
        exchanges.runs id place
        ∙ (ap (λ b. is_busy_on id place (Some new) || (b && not (is_busy_on id place (at here before.connections)))) running
        ∙ (ap (λ b. is_busy_on id place (Some new) || not b) idle ∙ or_true (is_busy_on id place (Some new))))
  ]
    where
      or_true : (a : Bool) → (a || true) ≡ true
      or_true true = refl
      or_true false = refl

  one_now : (id : List ℕ) (place number other : ℕ) → is_busy_on id place (at number after.connections) ≡ true
      → is_busy_on id place (at other after.connections) ≡ true → number ≡ other
  one_now id place number other is too = elim (cases_eq number here) [
    | inl same ↦ elim (cases_eq other here) [
      | inl also ↦ same ∙ sym also
      | inr apart ↦ absurd (not_both id place other apart too (sym (stands_here id place) ∙ moved id place number here same is))
    ]
    | inr apart ↦ elim (cases_eq other here) [
      | inl also ↦ absurd (not_both id place number apart is (sym (stands_here id place) ∙ moved id place other here also too))
      | inr away ↦ law.one id place number other (sym (stands_there id place number apart) ∙ is) (sym (stands_there id place other away) ∙ too)
    ]
  ]

  law_now : RunsWhereBusy after
  law_now = record {
    held = λ id place is. held_now id place (is_busy_on id place (Some new)) refl (sym (exchanges.runs id place) ∙ is);
    runs = runs_now;
    one = one_now;
  }

put_down : (limits : ServerLimits) (before : World) → Held limits before → (here : ℕ) (new : Connection) (after : World) → after.limits ≡ limits
    → after.connections ≡ with before.connections here new → Holds limits.sessions after.table → Exchanges before here new after.table
    → ((request : InProgress) → new ≡ Busy request → 0 < request.answered) → Held limits after
put_down limits before held here new after limits_are are holds exchanges mine = record {
  law = law_now before held.law here new after are exchanges;
  begun = λ number request busy. by_place number request (ap (at number) (sym are) ∙ busy) (cases_eq number here);
  holds = holds;
  limits_are = limits_are;
}
  where
    some_connection : (a b : Connection) → Some a ≡ Some b → a ≡ b
    some_connection a b same = cc

    by_place : (number : ℕ) (request : InProgress) → at number (with before.connections here new) ≡ Some (Busy request) → (number ≡ here) ⊎ (number ≢ here)
        → 0 < request.answered
    by_place number request there (inl same) =
        mine request (some_connection new (Busy request)
        (sym (at-with_same before.connections here new) ∙ (ap (λ (n : ℕ). at n (with before.connections here new)) (sym same) ∙ there)))
    by_place number request there (inr apart) =
        held.begun number request (sym (at-with_other before.connections here number new apart) ∙ there)

-- a connection that is busy on the same slot, or on none as before
same_busy : (before : World) → RunsWhereBusy before → (here : ℕ) (new : Connection)
    → ((id : List ℕ) (place : ℕ) → is_busy_on id place (Some new) ≡ is_busy_on id place (at here before.connections)) → Exchanges before here new before.table
same_busy before law here new same = record {
  runs = λ id place.
      absorbs (is_busy_on id place (at here before.connections)) (is_slot_running id place before.table) (law.runs id place here)
      ∙ ap (λ b. b || (is_slot_running id place before.table && not (is_busy_on id place (at here before.connections)))) (sym (same id place));
  fresh = λ id place mine. inl (sym (same id place) ∙ mine);
}
  where
    absorbs : (mine running : Bool) → (mine ≡ true → running ≡ true) → running ≡ (mine || (running && not mine))
    absorbs true running is = is refl
    absorbs false true is = refl
    absorbs false false is = refl

-- What an operation leaves

-- the slot of the request that goes on runs, and no other one begins to
record Leaves (limits : ServerLimits) (before : World) (request : InProgress) (after : World) (left : InProgress) : Type 0 where
  limits_are : after.limits ≡ before.limits
  connections : after.connections ≡ before.connections
  holds : Holds limits.sessions after.table
  runs : (id : List ℕ) (place : ℕ) → is_slot_running id place after.table ≡ (is_on left.slot id place || is_slot_running id place before.table)
  slot : (left.slot ≡ request.slot)
      ⊎ ((request.slot ≡ None) × ((id : List ℕ) (place : ℕ) → is_on left.slot id place ≡ true → is_slot_running id place before.table ≡ false))

noted : (limits : ServerLimits) (altered : Bool) (before : World) (request : InProgress) (after : World) (left : InProgress) → Leaves limits before request after left
    → Leaves limits before request after (record left { altered = altered })
noted limits altered before request after left leaves = record {
  limits_are = leaves.limits_are;
  connections = leaves.connections;
  holds = leaves.holds;
  runs = leaves.runs;
  slot = leaves.slot;
}

abbrev HasLeft : ServerLimits → World → InProgress → HasRun → Type 0
HasLeft limits before request (Gives outcome after left) = Leaves limits before request after left
HasLeft limits before request (Replays result session slot) = request.slot ≡ None

module _ (limits : ServerLimits) (world : World) (held : Held limits world) (request : InProgress)
    (on : (id : List ℕ) (place : ℕ) → is_on request.slot id place ≡ true → is_slot_running id place world.table ≡ true) where
  covered : (a b : Bool) → (a ≡ true → b ≡ true) → b ≡ (a || b)
  covered true b is = is refl
  covered false b is = refl

  leaves_table : (table : Table) → Holds limits.sessions table → RunsSame world.table table → Leaves limits world request (record world { table = table }) request
  leaves_table table holds same = record {
    limits_are = refl;
    connections = refl;
    holds = holds;
    runs = λ id place. same id place ∙ covered (is_on request.slot id place) (is_slot_running id place world.table) (on id place);
    slot = inl refl;
  }

  leaves_same : Leaves limits world request world request
  leaves_same = record {
    limits_are = refl;
    connections = refl;
    holds = held.holds;
    runs = λ id place. covered (is_on request.slot id place) (is_slot_running id place world.table) (on id place);
    slot = inl refl;
  }

  exchanged_leaves : (r : Result ExchangeIdAnswer Status × Table) → Holds limits.sessions r.1 → RunsSame world.table r.1 → HasLeft limits world request (exchanged world request r)
  exchanged_leaves (Err reason, table) holds same = leaves_table table holds same
  exchanged_leaves (Ok answer, table) holds same = leaves_table table holds same

  created_leaves : (o : sessions.CreateSessionOutcome) (answer : Result CreateSessionAnswer Status) → Holds limits.sessions o.table → RunsSame world.table o.table
      → HasLeft limits world request (created_by world request o answer)
  created_leaves o (Err reason) holds same = leaves_same
  created_leaves o (Ok answer) holds same = record {
    limits_are = refl;
    connections = refl;
    holds = holds;
    runs = λ id place. same id place ∙ covered (is_on request.slot id place) (is_slot_running id place world.table) (on id place);
    slot = inl refl;
  }

  tabled_leaves : (operation : ℕ) (answer : Answer) (r : Option Status × Table) → Holds limits.sessions r.1 → RunsSame world.table r.1
      → HasLeft limits world request (tabled world request operation answer r)
  tabled_leaves operation answer (Some reason, table) holds same = leaves_table table holds same
  tabled_leaves operation answer (None, table) holds same = leaves_table table holds same

  reclaimed_leaves : (refusal : Option Status) → HasLeft limits world request (reclaimed world request refusal)
  reclaimed_leaves None = leaves_same
  reclaimed_leaves (Some reason) = leaves_same

  one_each : (id : List ℕ) → size (is_session id) world.table.sessions ≤ 1
  one_each id = ids_differ limits.sessions world.table.session_serial world.table.sessions held.holds.1 id

  begun_leaves : (arguments : SequenceArguments) → request.slot ≡ None → (b : sessions.Begun)
      → sessions.begin request.context.cred.uid request.count arguments world.table ≡ b → HasLeft limits world request (begun world request arguments b)
  begun_leaves arguments none (sessions.Refuses reason) e = leaves_same
  begun_leaves arguments none (sessions.Replays reply) e = none
  begun_leaves arguments none sessions.Runs e = by_session (find (is_session arguments.session) world.table.sessions)
    where
      by_session : (known : Option Session) → HasLeft limits world request (started_in world request arguments known)
      by_session None = leaves_same
      by_session (Some session) = record {
        limits_are = refl;
        connections = refl;
        holds = subst (λ (t : Table). Holds limits.sessions t)
            (ap (calls.started_by request.context.cred.uid arguments world.table) e)
            (call_holds limits.sessions (calls.Begins request.context.cred.uid request.count arguments) world.table held.holds);
        runs = started_runs world.table one_each request.context.cred.uid request.count arguments e;
        slot = inr (none, rested_before world.table one_each request.context.cred.uid request.count arguments e);
      }

  run_leaves : (now : ℕ) (operation : Argument) → (is_first (operation_of operation) ≡ true → request.slot ≡ None)
      → HasLeft limits world request (run world request now operation)
  unfolding run
  run_leaves now (Argument.ExchangeId arguments) first =
      exchanged_leaves _
      (subst (λ (l : sessions.SessionLimits). Holds limits.sessions (sessions.exchange_id l (has_opens world.opens) request.context.cred.uid arguments world.table).1)
      (ap (λ (l : ServerLimits). l.sessions) (sym held.limits_are))
      (call_holds limits.sessions (calls.Exchanges (has_opens world.opens) request.context.cred.uid arguments) world.table held.holds))
      (same_sessions world.table (sessions.exchange_id world.limits.sessions (has_opens world.opens) request.context.cred.uid arguments world.table).1
      (exchange_same world.limits.sessions (has_opens world.opens) request.context.cred.uid arguments world.table).sessions)
  run_leaves now (Argument.CreateSession arguments) first =
      created_leaves (sessions.create_session world.limits.sessions request.context.cred.uid arguments world.table) _
      (subst (λ (l : sessions.SessionLimits). Holds limits.sessions (sessions.create_session l request.context.cred.uid arguments world.table).table)
      (ap (λ (l : ServerLimits). l.sessions) (sym held.limits_are))
      (call_holds limits.sessions (calls.Creates request.context.cred.uid arguments) world.table held.holds))
      (created_runs world.limits.sessions request.context.cred.uid arguments world.table)
  run_leaves now (Argument.DestroySession id) first =
      tabled_leaves _ Answer.DestroySession _ (call_holds limits.sessions (calls.Destroys id) world.table held.holds) (destroyed_runs world.table one_each id)
  run_leaves now (Argument.DestroyClientId client) first =
      tabled_leaves _ Answer.DestroyClientId _ (call_holds limits.sessions (calls.DestroysClient (has_opens world.opens) client) world.table held.holds)
      (same_sessions world.table (sessions.destroy_client_id (has_opens world.opens) client world.table).1
      (destroy_client_same (has_opens world.opens) client world.table).sessions)
  run_leaves now (Argument.Sequence arguments) first = begun_leaves arguments (first refl) _ refl
  run_leaves now (Argument.ReclaimComplete true) first = reclaimed_leaves _
  run_leaves now (Argument.ReclaimComplete false) first =
      tabled_leaves _ Answer.ReclaimComplete _ (call_holds limits.sessions (calls.Reclaims request.context.client) world.table held.holds)
      (same_sessions world.table (sessions.reclaim_complete request.context.client world.table).1
      (reclaim_same request.context.client world.table).sessions)
  run_leaves now operation first = record {
    limits_are = refl;
    connections = refl;
    holds = held.holds;
    runs = λ id place. covered (is_on request.slot id place) (is_slot_running id place world.table) (on id place);
    slot = inl refl;
  }

-- What the slot keeps

kept_runs : (slot : Option (List ℕ × ℕ)) (holds : Bool) (result : List ℕ) (table : Table) (id : List ℕ) (place : ℕ)
    → is_slot_running id place (kept_by slot holds result table) ≡ (is_slot_running id place table && not (is_on slot id place))
kept_runs None holds result table id place = and_all (is_slot_running id place table)
  where
    and_all : (a : Bool) → a ≡ (a && true)
    and_all true = refl
    and_all false = refl
kept_runs (Some slot) holds result table id place = finished slot.0 slot.1 holds result table id place

kept_holds : (limits : ServerLimits) (slot : Option (List ℕ × ℕ)) (holds : Bool) (result : List ℕ) (table : Table) → Holds limits.sessions table
    → Holds limits.sessions (kept_by slot holds result table)
kept_holds limits None seat result table holds = holds
kept_holds limits (Some slot) seat result table holds = call_holds limits.sessions (calls.Finishes slot.0 slot.1 seat result) table holds

-- of the slot that goes on, of the request's, and of what runs
abbrev Fit : (left request running : Bool) → Type 0
Fit left request running = (left ≡ request) ⊎ ((request ≡ false) × (left ≡ true → running ≡ false))

ended_fits : (left request running : Bool) → Fit left request running → ((left || running) && not left) ≡ (running && not request)
ended_fits true request running (inl same) = sym (ap (λ b. running && not b) (sym same) ∙ and_none running)
  where
    and_none : (a : Bool) → (a && false) ≡ false
    and_none true = refl
    and_none false = refl
ended_fits false request running (inl same) = ap (λ b. running && not b) same
ended_fits true request running (inr apart) = sym (ap (λ b. b && not request) (apart.1 refl))
ended_fits false request running (inr apart) = ap (λ b. running && not b) (sym apart.0)

gone_fits : (left request running : Bool) → Fit left request running → (left || running) ≡ (left || (running && not request))
gone_fits true request running fit = refl
gone_fits false request running (inl same) = all running ∙ ap (λ b. running && not b) same
  where
    all : (a : Bool) → a ≡ (a && true)
    all true = refl
    all false = refl
gone_fits false request running (inr apart) = all running ∙ ap (λ b. running && not b) (sym apart.0)
  where
    all : (a : Bool) → a ≡ (a && true)
    all true = refl
    all false = refl

-- A turn

pub busy_request : (a b : InProgress) → Busy a ≡ Busy b → a ≡ b
busy_request a b same = cc

module _ (limits : ServerLimits) (world : World) (held : Held limits world) (here : ℕ) where
  -- the connection's request is on this one's slot
  record Goes (request : InProgress) : Type 0 where
    same : (id : List ℕ) (place : ℕ) → is_busy_on id place (at here world.connections) ≡ is_on request.slot id place
    first : request.answered ≡ 0 → request.slot ≡ None

  abbrev busy : List ℕ → ℕ → Bool
  busy id place = is_busy_on id place (at here world.connections)

  -- a reply is put down if no request has begun
  replied : (reply : List ℕ) → ((id : List ℕ) (place : ℕ) → busy id place ≡ false) → Held limits (with_connection world here (Replied reply))
  replied reply idle =
      put_down limits world held here (Replied reply) (with_connection world here (Replied reply)) held.limits_are refl held.holds
      (same_busy world held.law here (Replied reply) (λ id place. sym (idle id place))) (λ request wrong. absurd (never request wrong))
    where
      never : (request : InProgress) → Replied reply ≡ Busy request → ⊥
      never request wrong = cc

  module _ (request : InProgress) (goes : Goes request) (after : World) (left : InProgress) (leaves : Leaves limits world request after left) where
    fits : (id : List ℕ) (place : ℕ) → Fit (is_on left.slot id place) (busy id place) (is_slot_running id place world.table)
    fits id place = elim leaves.slot [
      | inl same ↦ inl (ap (λ (s : Option (List ℕ × ℕ)). is_on s id place) same ∙ sym (goes.same id place))
      | inr none ↦ inr (goes.same id place ∙ ap (λ (s : Option (List ℕ × ℕ)). is_on s id place) none.0, none.1 id place)
    ]

    ended : (answered : ℕ) (results : List ℕ) (last : Status) (holds : Bool) (executed : Option Entry)
        → Held limits (ends after here (record left { answered = answered; results = results }) last holds executed).world
    ended answered results last holds executed =
        let result = result_of (record left { answered = answered; results = results }) last in
        let reply = marks.framed (reply_text left.xid (Success result)) in
        put_down limits world held here (Replied reply) (ends after here (record left { answered = answered; results = results }) last holds executed).world
        (leaves.limits_are ∙ held.limits_are) (ap (λ (c : Keyed Connection). with c here (Replied reply)) leaves.connections)
        (kept_holds limits left.slot holds result after.table leaves.holds)
        (record {
          runs = λ id place.
              kept_runs left.slot holds result after.table id place
              ∙ (ap (λ b. b && not (is_on left.slot id place)) (leaves.runs id place)
              ∙ ended_fits (is_on left.slot id place) (busy id place) (is_slot_running id place world.table) (fits id place));
          fresh = λ id place wrong. absurd (true≢false (sym wrong));
        })
        (λ other wrong. absurd (never reply other wrong))
      where
        never : (reply : List ℕ) (other : InProgress) → Replied reply ≡ Busy other → ⊥
        never reply other wrong = cc

    abbrev further_on : Outcome → (status : Option Status) → InProgress
    further_on outcome status = record (with_result left outcome) { ended = status }

    gone_on : (outcome : Outcome) (status : Option Status) (executed : Option Entry) → Held limits (goes_on after here (further_on outcome status) executed).world
    gone_on outcome status executed =
        put_down limits world held here (Busy (further_on outcome status)) (goes_on after here (further_on outcome status) executed).world
        (leaves.limits_are ∙ held.limits_are) (ap (λ (c : Keyed Connection). with c here (Busy (further_on outcome status))) leaves.connections)
        leaves.holds
        (record {
          runs = λ id place.
              leaves.runs id place
              ∙ gone_fits (is_on left.slot id place) (busy id place) (is_slot_running id place world.table) (fits id place);
          fresh = λ id place mine. by_fit id place (fits id place) mine;
        })
        (λ other same.
        let is : (with_result left outcome).answered ≡ other.answered = ap (λ (r : InProgress). r.answered) (busy_request (further_on outcome status) other same) in
        omega (arith, is))
      where
        by_fit : (id : List ℕ) (place : ℕ) → Fit (is_on left.slot id place) (busy id place) (is_slot_running id place world.table) → is_on left.slot id place ≡ true
            → (busy id place ≡ true) ⊎ (is_slot_running id place world.table ≡ false)
        by_fit id place (inl same) mine = inl (sym same ∙ mine)
        by_fit id place (inr apart) mine = inr (apart.1 mine)

    closed : (outcome : Outcome) (last : Status) (executed : Option Entry) → Held limits (closes after here (with_result left outcome) last executed).world
    closed outcome last executed =
        either (λ (t : Turned). Held limits t.world) (is_to_hold left after.table) _ _
        (λ seated. gone_on outcome (Some last) executed)
        (λ none. ended (with_result left outcome).answered (with_result left outcome).results last false executed)

    went : (outcome : Outcome) (executed : Option Entry) → Held limits (behind after here left outcome executed).world
    went (Refused operation reason) executed = closed (Refused operation reason) reason executed
    went (Done answer) executed =
        either (λ (t : Turned). Held limits t.world) (is_last left) _ _
        (λ last. closed (Done answer) status.Ok executed)
        (λ more. gone_on (Done answer) left.ended executed)

  running_on : (request : InProgress) → Goes request → (id : List ℕ) (place : ℕ) → is_on request.slot id place ≡ true → is_slot_running id place world.table ≡ true
  running_on request goes id place mine = held.law.runs id place here (goes.same id place ∙ mine)

  -- the result that an operation gave, if there is room for it
  ran : (request : InProgress) → Goes request → (operation : Argument) (left : HasRun) → HasLeft limits world request left
      → Held limits (has_run world here request operation (in_room world request (operation_of operation) left)).world
  ran request goes operation (Gives (Refused number reason) after left) leaves =
      went request goes after (noting world after operation left) (noted limits _ world request after left leaves) (Refused number reason) (Some (executed_entry world request operation (Refused number reason) after))
  ran request goes operation (Gives (Done answer) after left) leaves = by_room (has_room world request (Done answer))
    where
      too_big : Held limits (has_run world here request operation (refuses world request (operation_of operation) status.RepTooBig)).world
      too_big = went request goes world (noting world world operation request)
          (noted limits _ world request world request (leaves_same limits world held request (running_on request goes))) (Refused (operation_of operation) status.RepTooBig)
          (Some (executed_entry world request operation (Refused (operation_of operation) status.RepTooBig) world))

      by_room : (room : Bool) → Held limits (has_run world here request operation
          (cond room (Gives (Done answer) after left) (refuses world request (operation_of operation) status.RepTooBig))).world
      by_room true = went request goes after (noting world after operation left) (noted limits _ world request after left leaves) (Done answer) (Some (executed_entry world request operation (Done answer) after))
      by_room false = too_big
  ran request goes operation (Replays result session slot) none =
      replied (marks.framed (reply_text request.xid (Success result)))
      (λ id place. goes.same id place ∙ ap (λ (s : Option (List ℕ × ℕ)). is_on s id place) none)

  operates_held : (now : ℕ) (request : InProgress) → Goes request → (next : Next) → next_operation request ≡ next → Held limits (operates world here now request next).world
  operates_held now request goes (Refuses operation reason) is =
      went request goes world request (leaves_same limits world held request (running_on request goes)) (Refused operation reason) None
  operates_held now request goes (Reads operation rest) is =
      let read : InProgress = record request { rest = rest } in
      let still : Goes read = record { same = goes.same; first = goes.first } in
      ran read still operation (run world read now operation)
      (run_leaves limits world held read (running_on read still) now operation (λ comes. goes.first (first_read request operation rest is comes)))

  module _ (now : ℕ) (waiting : List ℕ) (is : at here world.connections ≡ Some (Waiting waiting)) where
    idle : (id : List ℕ) (place : ℕ) → busy id place ≡ false
    idle id place = ap (is_busy_on id place) is

    requested_held : (xid : ℕ) (request : Request) → Held limits (requested world here now xid request).world
    requested_held xid (Answers reply) = replied (marks.framed (reply_text xid reply)) idle
    requested_held xid (Runs cred compound) =
        operates_held now (in_progress world xid cred compound) (record { same = idle; first = λ none. refl })
        (next_operation (in_progress world xid cred compound)) refl

    called_held : (read : CallRead) → Held limits (called world here now read).world
    called_held NoCall = held
    called_held (OtherVersion xid) = replied (marks.framed (reply_text xid VersionRefused)) idle
    called_held (Calls call) = requested_held call.xid (request_of call)

  further_held : (now : ℕ) (request : InProgress) → Goes request → (ended_as : Option Status) → Held limits (further world here now request ended_as).world
  further_held now request goes None = operates_held now request goes (next_operation request) refl
  further_held now request goes (Some last) =
      ended request goes world request (leaves_same limits world held request (running_on request goes)) request.answered request.results last true None

  turned_held : (now : ℕ) (connection : Option Connection) → at here world.connections ≡ connection → Held limits (turned world here now connection).world
  turned_held now None is = held
  turned_held now (Some (Quiet bytes)) is = held
  turned_held now (Some (Waiting request)) is = called_held now request is (read_call request)
  turned_held now (Some (Busy request)) is =
      let begun = held.begun here request is in
      further_held now request (record { same = λ id place. ap (is_busy_on id place) is; first = λ none. absurd (omega (arith, begun, none)) })
      request.ended
  turned_held now (Some (Replied reply)) is = held
  turned_held now (Some Closed) is = held

one_held : (limits : ServerLimits) (world : World) (here now : ℕ) → Held limits world → Held limits (one world here now).world
unfolding one
one_held limits world here now held = turned_held limits world held here now (at here world.connections) refl

-- The other events: no connection becomes busy, and none that is busy goes

module _ (limits : ServerLimits) (world : World) (held : Held limits world) (here : ℕ) where
  replaced : (new : Connection) → ((request : InProgress) → new ≡ Busy request → at here world.connections ≡ Some (Busy request))
      → ((id : List ℕ) (place : ℕ) → is_busy_on id place (Some new) ≡ is_busy_on id place (at here world.connections))
      → Held limits (with_connection world here new)
  replaced new only same =
      put_down limits world held here new (with_connection world here new) held.limits_are refl held.holds
      (same_busy world held.law here new same) (λ request is. held.begun here request (only request is))

  changed_held : (change : Connection → Connection) → ((c : Connection) (request : InProgress) → change c ≡ Busy request → c ≡ Busy request)
      → ((c : Connection) (id : List ℕ) (place : ℕ) → is_busy_on id place (Some (change c)) ≡ is_busy_on id place (Some c))
      → (connection : Option Connection) → at here world.connections ≡ connection → Held limits (connection_changed world here change connection)
  changed_held change only same None is = held
  changed_held change only same (Some connection) is =
      replaced (change connection) (λ request busy. is ∙ ap (λ (c : Connection). Some c) (only connection request busy))
      (λ id place. same connection id place ∙ sym (ap (is_busy_on id place) is))

  arrived_idle : (bytes : List ℕ) (f : Prefix) (id : List ℕ) (place : ℕ) → is_busy_on id place (Some (arrived bytes f)) ≡ false
  arrived_idle bytes Partial id place = refl
  arrived_idle bytes (marks.Refused fault) id place = refl
  arrived_idle bytes (Whole one rest) id place = by_call (is_call_read (read_call one))
    where
      by_call : (b : Bool) → is_busy_on id place (Some (cond b (Waiting one) Closed)) ≡ false
      by_call true = refl
      by_call false = refl

  arrival_same : (piece : List ℕ) (c : Connection) (id : List ℕ) (place : ℕ)
      → is_busy_on id place (Some (arrives_at world.limits.records piece c)) ≡ is_busy_on id place (Some c)
  arrival_same piece (Quiet bytes) id place = arrived_idle (bytes ++ piece) (marks.prefix world.limits.records (bytes ++ piece)) id place
  arrival_same piece (Waiting record_of) id place = refl
  arrival_same piece (Busy other) id place = refl
  arrival_same piece (Replied reply) id place = refl
  arrival_same piece Closed id place = refl

  taking_same : (c : Connection) (id : List ℕ) (place : ℕ) → is_busy_on id place (Some (without_reply c)) ≡ is_busy_on id place (Some c)
  taking_same (Quiet bytes) id place = refl
  taking_same (Waiting record_of) id place = refl
  taking_same (Busy other) id place = refl
  taking_same (Replied reply) id place = refl
  taking_same Closed id place = refl

  -- a new one is put at a number that had none
  connected : at here world.connections ≡ None → Held limits (with_connection world here (Quiet []))
  connected none = replaced (Quiet []) (λ request wrong. absurd (quiet request wrong)) (λ id place. sym (ap (is_busy_on id place) none))
    where
      quiet : (request : InProgress) → Quiet [] ≡ Busy request → ⊥
      quiet request same = cc

  connects_held : (connection : Option Connection) → at here world.connections ≡ connection → (free : Bool) → can_connect world here ≡ free
      → Held limits (cond free (with_connection world here (Quiet [])) world)
  connects_held connection is false can = held
  connects_held None is true can = connected is
  connects_held (Some connection) is true can = absurd (true≢false (sym can ∙ taken (at here world.connections) is))
    where
      taken : (o : Option Connection) → o ≡ Some connection → (not (is_some o) && nat_lt (length world.connections) world.limits.connections) ≡ false
      taken o same = ap (λ (p : Option Connection). not (is_some p) && nat_lt (length world.connections) world.limits.connections) same

  dropped : is_busy (at here world.connections) ≡ false → Held limits (without_connection world here)
  dropped idle = record {
    law = record {
      held = λ id place running.
          let was = held.law.held id place running in
          let apart : was.0 ≢ here = λ same. true≢false (sym was.1
          ∙ (ap (λ (n : ℕ). is_busy_on id place (at n world.connections)) same ∙ not_busy (at here world.connections) idle id place)) in
          (was.0, ap (is_busy_on id place) (at-without_other world.connections here was.0 apart) ∙ was.1);
      runs = λ id place number is. held.law.runs id place number (before id place number is);
      one = λ id place number other is too. held.law.one id place number other (before id place number is) (before id place other too);
    };
    begun = λ number request is. by_place number request is (cases_eq number here);
    holds = held.holds;
    limits_are = held.limits_are;
  }
    where
      not_busy : (o : Option Connection) → is_busy o ≡ false → (id : List ℕ) (place : ℕ) → is_busy_on id place o ≡ false
      not_busy None idle id place = refl
      not_busy (Some (Quiet bytes)) idle id place = refl
      not_busy (Some (Waiting request)) idle id place = refl
      not_busy (Some (Busy request)) idle id place = absurd (true≢false idle)
      not_busy (Some (Replied reply)) idle id place = refl
      not_busy (Some Closed) idle id place = refl

      none_busy : (request : InProgress) → None ≡ Some (Busy request) → ⊥
      none_busy request same = cc

      gone : at here (without world.connections here) ≡ None
      gone = at-without_same world.connections here

      before : (id : List ℕ) (place number : ℕ) → is_busy_on id place (at number (without world.connections here)) ≡ true
          → is_busy_on id place (at number world.connections) ≡ true
      before id place number is = elim (cases_eq number here) [
        | inl same ↦ absurd (true≢false (sym is ∙ (ap (λ (n : ℕ). is_busy_on id place (at n (without world.connections here))) same ∙ ap (is_busy_on id place) gone)))
        | inr apart ↦ sym (ap (is_busy_on id place) (at-without_other world.connections here number apart)) ∙ is
      ]

      by_place : (number : ℕ) (request : InProgress) → at number (without world.connections here) ≡ Some (Busy request) → (number ≡ here) ⊎ (number ≢ here) → 0 < request.answered
      by_place number request is (inl same) =
          absurd (none_busy request (sym gone ∙ (ap (λ (n : ℕ). at n (without world.connections here)) (sym same) ∙ is)))
      by_place number request is (inr apart) = held.begun number request (sym (at-without_other world.connections here number apart) ∙ is)

event_held : (limits : ServerLimits) (world : World) (event : Event) → Held limits world → Held limits (effect_of world event)
unfolding arrives takes connects hangs_up
event_held limits world (Arrives connection piece) held =
    changed_held limits world held connection (arrives_at world.limits.records piece) (arrival_only world.limits.records piece)
    (arrival_same limits world held connection piece) (at connection world.connections) refl
event_held limits world (Turns connection now) held = one_held limits world connection now held
event_held limits world (HangsUp connection) held =
    either (Held limits) (is_busy (at connection world.connections)) _ _ (λ busy. held) (λ idle. dropped limits world held connection idle)
event_held limits world (Connects connection) held =
    connects_held limits world held connection (at connection world.connections) refl (can_connect world connection) refl
event_held limits world (Takes connection) held =
    changed_held limits world held connection without_reply taking_only
    (taking_same limits world held connection) (at connection world.connections) refl

-- A run

mounted_held : (limits : ServerLimits) (run : ℕ) (start : Tree) (seats : Seats) → Held limits (mounted_world limits run start seats)
mounted_held limits run start seats = record {
  law = record {
    held = λ id place running. absurd (true≢false (sym running));
    runs = λ id place number is. absurd (true≢false (sym is));
    one = λ id place number other is too. absurd (true≢false (sym is));
  };
  begun = λ number request is. absurd (nothing request is);
  holds = begins limits.sessions run;
  limits_are = refl;
}
  where
    nothing : (request : InProgress) → None ≡ Some (Busy request) → ⊥
    nothing request same = cc

pub run_held : (limits : ServerLimits) (run : ℕ) (start : Tree) (seats : Seats) (serving : Serving) (history : RunHistory) → IsRun (mounted limits run start seats) serving history
    → Held limits serving.world
run_held limits run start seats serving history Begins = mounted_held limits run start seats
run_held limits run start seats serving history (Goes_on {old = old} {new = new} {history = earlier} event is_run happens) =
    subst (Held limits) (sym happens.world) (event_held limits old.world event (run_held limits run start seats old earlier is_run))
run_held limits run start seats serving history (Fails_at {old = old} {new = new} {history = earlier} event is_run fails) =
    subst (Held limits) (sym fails.world) (run_held limits run start seats old earlier is_run)
run_held limits run start seats serving history (Stays_down {old = old} {new = new} {history = earlier} connection is_run stays) =
    subst (Held limits) (sym stays.world) (event_held limits old.world (Takes connection) (run_held limits run start seats old earlier is_run))
run_held limits run start seats serving history (Flushed {old = old} {new = new} is_run flushes) =
    subst (Held limits) (sym flushes.world) (run_held limits run start seats old history is_run)

pub every_running_slot : EveryRunningSlot
every_running_slot limits run start seats serving history is_run = (run_held limits run start seats serving history is_run).law

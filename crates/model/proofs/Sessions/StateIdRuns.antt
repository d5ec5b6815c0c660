-- What a stateid that OPEN returned means at each later moment of its run, and in every other run.
use Rattle.std.proofs.Common.{ℕ, Bool, true, false, List, [], ◌∷◌, ◌++◌, ◌≡◌, ◌≢◌, ◌+◌, ◌-◌, ◌^◌, ◌<◌, ◌≤◌, ◌⊎◌, inl, inr, refl, sym, ap, ◌∙◌, subst, arith, length, find, ne_eqb}
use Rattle.std.specs.Prelude.{Option, Some, None, Result, Ok, Err, option_to_list}
use Rattle.std.proofs.lemmas.Bool.{true≢false, cases_eq}
use Rattle.std.proofs.lemmas.List.{append_assoc, append-nil}
use Rattle.std.proofs.lemmas.Option.{same_Some}
use Rattle.model_tree.specs.Seats.Seats.{Seats}
use Rattle.model_tree.specs.declared.status.Status.{Status}
use Rattle.model_tree.specs.declared.status.Status.TheVariants as status
use Rattle.model.specs.Operations.Answer.{Answer, Outcome, Done, Refused, OpenAnswer, ExchangeIdAnswer, CreateSessionAnswer}
use Rattle.model.specs.Operations.Context.{current_number}
use Rattle.model_tree.specs.Trees.Keyed.{Keyed, at, with, without}
use Rattle.model.specs.Operations.Open.{asked_open}
use Rattle.model.specs.Sessions.Opens.{Opens, Open}
use Rattle.model.specs.Operations.Operation.{Argument, OpenArguments, SequenceArguments, StateId, operation_of}
use Rattle.model.specs.Wire.Record.{framed}
use Rattle.model.specs.Wire.Rpc.{Success, reply_text}
use Rattle.model.specs.Server.Runs.{Serving, RunHistory, IsRun, mounted, Event, Arrives, Turns, HangsUp, Connects, Takes, effect_of, executed_of, executed_by, executed, Begins, Goes_on, Fails_at, Stays_down, Flushed, history_after}
use Rattle.model.specs.Sessions.Session as sessions
use Rattle.model.specs.Sessions.Session.{Session, Table, is_session}
use Rattle.model.specs.Sessions.StateIds.{by_seqid, Names, found, upgraded, next_seqid, opened, without_clients, open_stateid}
use Rattle.model.specs.Sessions.StateIds as stateids
use Rattle.model.specs.Sessions.StateIdLaws.{IsOwn, IsGiven, OpenStands as StandsIn, is_open}
use Rattle.model.specs.Sessions.StateIdRuns.{WasAnswered, IsOpenOf, access_by, accesses_in, joined_by, OpenStandsIn, HasEnded, Verdicts, EveryStateIdGoesOn, JoinsAreCounted, EveryOtherRunRefuses}
use Rattle.model.specs.Operations.Step.{State, does}
use Rattle.model_tree.specs.Trees.Tree.{Tree}
use Rattle.model.specs.Server.World.{ServerLimits, InProgress, Connection, Quiet, Busy, Replied, World, HasRun, Gives, Replays, Entry, executed_entry, exchanged, created_by, tabled, started_in, begun, reclaimed, stepped, state_of as state_in, run as runs_operation, Turned, with_connection, with_result, result_of, behind, ends, goes_on, is_last, one, mounted_world, arrives, takes, connects, hangs_up, can_connect, connection_changed, arrives_at, without_reply, is_busy, without_connection, closes, is_to_hold, noting}
use Rattle.model.proofs.Server.Headline.{done_behind}
use Rattle.model_tree.proofs.Trees.KeyedLaws.{at-with_same, at-with_other, at-without_same, at-without_other, some≢none}
use Rattle.model_tree.proofs.Rights.LimitLaws.{modes_keep_limits, inheritance_keeps_limits}
use Rattle.model.proofs.Sessions.OpenClients.{in_place}
use Rattle.model.proofs.Sessions.StateIdLaws.{newest, lower, own, not_own, other_run, ended}
use Rattle.model.proofs.Operations.StepProofs.{every_step}
use Rattle.model.proofs.Sessions.TableCalls.{either}
use Rattle.model.proofs.Server.TurnCases.{GoesWith, Begun, New, IsTurn, Idles, Says, Unread, TooBig, Gave, Repeats, turn_is, read_of, arrival_only, taking_only, Closes}
use Rattle.model.proofs.Sessions.OpensJoined.{AreCounted, fewer_same, fewer_filter, other_of, IsOpened, Goes, OpensNone, fewer_goes, does_goes}

-- What holds between two events: each request that has begun is of the run

pub record Numbered (run : ℕ) (world : World) : Type 0 where
  run_is : world.run ≡ run
  busy : (number : ℕ) (request : InProgress) → at number world.connections ≡ Some (Busy request) → request.context.run ≡ run
  counted : AreCounted world.opens

-- what is executed, and what it makes of the opens
abbrev OpensBy : ℕ → World → Option Entry → Opens → Type 0
OpensBy run world None new = new ≡ world.opens
OpensBy run world (Some entry) new =
    Goes run entry.state entry.operation entry.outcome new × (entry.state.opens ≡ world.opens) × (entry.state.context.run ≡ run)

-- One operation

abbrev HasLeft : ℕ → World → InProgress → Argument → HasRun → Type 0
HasLeft run world request operation (Gives outcome after left) =
    Goes run (state_in world request) operation outcome after.opens × (left.context.run ≡ run) × (after.run ≡ world.run)
    × (after.connections ≡ world.connections)
HasLeft run world request operation (Replays reply session slot) = Unit {0}

module _ (run : ℕ) (small_run : run < 2 ^ 32) (world : World) (numbered : Numbered run world) (request : InProgress) (of_run : request.context.run ≡ run) where
  same_goes : (operation : Argument) (outcome : Outcome) → OpensNone operation outcome → Goes run (state_in world request) operation outcome world.opens
  same_goes operation outcome none =
      fewer_goes run (state_in world request) operation outcome world.opens numbered.counted none (fewer_same world.opens world.opens numbered.counted refl)

  exchanged_left : (operation : Argument) → is_open operation ≡ false → (r : Result ExchangeIdAnswer Status × Table) → HasLeft run world request operation (exchanged world request r)
  exchanged_left operation none (Err reason, table) = (same_goes operation _ (inl none), of_run, refl, refl)
  exchanged_left operation none (Ok answer, table) = (same_goes operation _ (inl none), of_run, refl, refl)

  created_left : (operation : Argument) → is_open operation ≡ false → (o : sessions.CreateSessionOutcome) (answer : Result CreateSessionAnswer Status)
      → HasLeft run world request operation (created_by world request o answer)
  created_left operation none o (Err reason) = (same_goes operation _ (inl none), of_run, refl, refl)
  created_left operation none o (Ok answer) = (
    fewer_goes run (state_in world request) operation _ (without_clients o.ended_clients world.opens) numbered.counted (inl none)
        (fewer_filter world.opens _ numbered.counted),
    of_run,
    refl,
    refl,
  )

  tabled_left : (operation : Argument) → is_open operation ≡ false → (number : ℕ) (answer : Answer) (r : Option Status × Table)
      → HasLeft run world request operation (tabled world request number answer r)
  tabled_left operation none number answer (Some reason, table) = (same_goes operation _ (inl none), of_run, refl, refl)
  tabled_left operation none number answer (None, table) = (same_goes operation _ (inl none), of_run, refl, refl)

  reclaimed_left : (operation : Argument) → is_open operation ≡ false → (refusal : Option Status) → HasLeft run world request operation (reclaimed world request refusal)
  reclaimed_left operation none None = (same_goes operation _ (inl none), of_run, refl, refl)
  reclaimed_left operation none (Some reason) = (same_goes operation _ (inl none), of_run, refl, refl)

  started_left : (operation : Argument) → is_open operation ≡ false → (arguments : SequenceArguments) (known : Option Session)
      → HasLeft run world request operation (started_in world request arguments known)
  started_left operation none arguments None = (same_goes operation _ (inl none), of_run, refl, refl)
  started_left operation none arguments (Some session) = (same_goes operation _ (inl none), of_run, refl, refl)

  begun_left : (operation : Argument) → is_open operation ≡ false → (arguments : SequenceArguments) (b : sessions.Begun)
      → HasLeft run world request operation (begun world request arguments b)
  begun_left operation none arguments (sessions.Refuses reason) = (same_goes operation _ (inl none), of_run, refl, refl)
  begun_left operation none arguments (sessions.Replays reply) = tt
  begun_left operation none arguments sessions.Runs = started_left operation none arguments (find (is_session arguments.session) world.table.sessions)

  stepped_left : (now : ℕ) (operation : Argument)
      → HasLeft run world request operation (stepped world request (does world.limits.volume (state_in world request) now operation))
  stepped_left now operation =
      let law = every_step modes_keep_limits inheritance_keeps_limits world.limits.volume (state_in world request) now operation in
      (does_goes run small_run world.limits.volume (state_in world request) of_run numbered.counted now operation, law.keeps_caller.2 ∙ of_run, refl, refl)

  run_left : (now : ℕ) (operation : Argument) → HasLeft run world request operation (runs_operation world request now operation)
  unfolding runs_operation
  run_left now (Argument.ExchangeId arguments) = exchanged_left (Argument.ExchangeId arguments) refl _
  run_left now (Argument.CreateSession arguments) =
      created_left (Argument.CreateSession arguments) refl
      (sessions.create_session world.limits.sessions request.context.cred.uid arguments world.table) _
  run_left now (Argument.DestroySession id) = tabled_left (Argument.DestroySession id) refl _ Answer.DestroySession _
  run_left now (Argument.DestroyClientId client) = tabled_left (Argument.DestroyClientId client) refl _ Answer.DestroyClientId _
  run_left now (Argument.Sequence arguments) = begun_left (Argument.Sequence arguments) refl arguments _
  run_left now (Argument.ReclaimComplete true) = reclaimed_left (Argument.ReclaimComplete true) refl _
  run_left now (Argument.ReclaimComplete false) = tabled_left (Argument.ReclaimComplete false) refl _ Answer.ReclaimComplete _
  run_left now operation = stepped_left now operation

-- A turn

module _ (run : ℕ) (small_run : run < 2 ^ 32) (world : World) (numbered : Numbered run world) (here : ℕ) where
  -- a connection is put down, whose request is of the run, if it has one
  put_down : (after : World) (new : Connection) → after.run ≡ world.run → after.connections ≡ with world.connections here new → AreCounted after.opens
      → ((request : InProgress) → new ≡ Busy request → request.context.run ≡ run) → Numbered run after
  put_down after new run_is are counted mine = record {
    run_is = run_is ∙ numbered.run_is;
    busy = λ number request is. by_place number request (ap (at number) (sym are) ∙ is) (cases_eq number here);
    counted = counted;
  }
    where
      by_place : (number : ℕ) (request : InProgress) → at number (with world.connections here new) ≡ Some (Busy request) → (number ≡ here) ⊎ (number ≢ here)
          → request.context.run ≡ run
      by_place number request there (inl same) =
          mine request (same_Some new (Busy request)
          (sym (at-with_same world.connections here new) ∙ (ap (λ (n : ℕ). at n (with world.connections here new)) (sym same) ∙ there)))
      by_place number request there (inr apart) = numbered.busy number request (sym (at-with_other world.connections here number new apart) ∙ there)

  not_busy : (reply : List ℕ) (request : InProgress) → Replied reply ≡ Busy request → request.context.run ≡ run
  not_busy reply request wrong = absurd (cc)

  busy_is : (a b : InProgress) → Busy a ≡ Busy b → a ≡ b
  busy_is a b same = cc

  replied : (reply : List ℕ) → Numbered run (with_connection world here (Replied reply))
  replied reply = put_down (with_connection world here (Replied reply)) (Replied reply) refl refl numbered.counted (not_busy reply)

  abbrev TurnGoes : Turned → Type 0
  TurnGoes t = Numbered run t.world × OpensBy run world t.executed t.world.opens

  module _ (outcome : Outcome) (after : World) (left : InProgress) (of_run : left.context.run ≡ run) (run_is : after.run ≡ world.run)
      (are : after.connections ≡ world.connections) (counted : AreCounted after.opens) (executed : Option Entry) (by : OpensBy run world executed after.opens) where
    ended_goes : (answered : ℕ) (results : List ℕ) (last : Status) (holds : Bool)
        → TurnGoes (ends after here (record left { answered = answered; results = results }) last holds executed)
    ended_goes answered results last holds =
        let reply = framed (reply_text left.xid (Success (result_of (record left { answered = answered; results = results }) last))) in (
          put_down (ends after here (record left { answered = answered; results = results }) last holds executed).world (Replied reply) run_is
              (ap (λ (c : Keyed Connection). with c here (Replied reply)) are) counted (not_busy reply),
          by,
        )

    abbrev further_on : (status : Option Status) → InProgress
    further_on status = record (with_result left outcome) { ended = status }

    more_goes : (status : Option Status) → TurnGoes (goes_on after here (further_on status) executed)
    more_goes status = (
      put_down (goes_on after here (further_on status) executed).world (Busy (further_on status)) run_is
          (ap (λ (c : Keyed Connection). with c here (Busy (further_on status))) are) counted
          (λ request is. ap (λ (r : InProgress). r.context.run) (sym (busy_is (further_on status) request is)) ∙ of_run),
      by,
    )

    closes_goes : (last : Status) → TurnGoes (closes after here (with_result left outcome) last executed)
    closes_goes last =
        either TurnGoes (is_to_hold left after.table) _ _
        (λ seated. more_goes (Some last)) (λ none. ended_goes (with_result left outcome).answered (with_result left outcome).results last false)

  went : (outcome : Outcome) (after : World) (left : InProgress) → left.context.run ≡ run → after.run ≡ world.run → after.connections ≡ world.connections
      → AreCounted after.opens → (executed : Option Entry) → OpensBy run world executed after.opens → TurnGoes (behind after here left outcome executed)
  went (Refused operation reason) after left of_run run_is are counted executed by =
      closes_goes (Refused operation reason) after left of_run run_is are counted executed by reason
  went (Done answer) after left of_run run_is are counted executed by =
      either TurnGoes (is_last left) _ _
      (λ last. closes_goes (Done answer) after left of_run run_is are counted executed by status.Ok)
      (λ more. more_goes (Done answer) after left of_run run_is are counted executed by left.ended)

  its_run : (request : InProgress) → GoesWith world here request → request.context.run ≡ run
  its_run request (Begun _ is) = numbered.busy here request is
  its_run _ (New bytes xid cred compound waits some) = numbered.run_is

  gave : (request : InProgress) (operation : Argument) (outcome : Outcome) (after : World) (left : InProgress)
      → request.context.run ≡ run → HasLeft run world request operation (Gives outcome after left)
      → TurnGoes (behind after here (noting world after operation left) outcome (Some (executed_entry world request operation outcome after)))
  gave request operation outcome after left of_run has =
      went outcome after (noting world after operation left) has.1 has.2 has.3 has.0.counted (Some (executed_entry world request operation outcome after)) (has.0, refl, of_run)

  turned : (now : ℕ) (t : Turned) → IsTurn world here now t → TurnGoes t
  turned now _ Idles = (numbered, refl)
  turned now _ (Says bytes xid reply waits) = (replied (framed (reply_text xid reply)), refl)
  turned now _ (Closes request last there is) =
      ended_goes (Done Answer.PutRootFh) world request (numbered.busy here request there) refl refl numbered.counted None refl request.answered request.results last true
  turned now _ (Unread request operation reason goes) =
      went (Refused operation reason) world request (its_run request goes) refl refl numbered.counted None refl
  turned now _ (TooBig request operation rest goes reads) =
      gave (read_of request rest) operation (Refused (operation_of operation) status.RepTooBig) world (read_of request rest) (its_run request goes) (
        same_goes run small_run world numbered (read_of request rest) (its_run request goes) operation (Refused (operation_of operation) status.RepTooBig) (inr refl),
        its_run request goes,
        refl,
        refl,
      )
  turned now _ (Gave request operation rest outcome after left goes reads is) =
      gave (read_of request rest) operation outcome after left (its_run request goes)
      (subst (HasLeft run world (read_of request rest) operation) is
      (run_left run small_run world numbered (read_of request rest) (its_run request goes) now operation))
  turned now _ (Repeats request operation rest reply session slot goes reads is) =
      (replied (framed (reply_text request.xid (Success reply))), refl)

  -- The other events: no request begins

  kept : (connections : Keyed Connection)
      → ((number : ℕ) (request : InProgress) → at number connections ≡ Some (Busy request) → at number world.connections ≡ Some (Busy request))
      → Numbered run (record world { connections = connections })
  kept connections before = record {
    run_is = numbered.run_is;
    busy = λ number request is. numbered.busy number request (before number request is);
    counted = numbered.counted;
  }

  abbrev Kept : World → Type 0
  Kept after = Numbered run after × (after.opens ≡ world.opens)

  changed_goes : (change : Connection → Connection) → ((c : Connection) (request : InProgress) → change c ≡ Busy request → c ≡ Busy request)
      → (connection : Option Connection) → at here world.connections ≡ connection → Kept (connection_changed world here change connection)
  changed_goes change only None is = (numbered, refl)
  changed_goes change only (Some connection) is = (
    kept (with world.connections here (change connection)) (in_place world.connections here (change connection)
        (λ request busy. is ∙ ap (λ (c : Connection). Some c) (only connection request busy))),
    refl,
  )

  connected : Kept (with_connection world here (Quiet []))
  connected = (kept (with world.connections here (Quiet [])) (in_place world.connections here (Quiet []) (λ request wrong. absurd (quiet request wrong))), refl)
    where
      quiet : (request : InProgress) → Quiet [] ≡ Busy request → ⊥
      quiet request same = cc

  dropped : Kept (without_connection world here)
  dropped = (
    kept (without world.connections here) (λ number request is. elim (cases_eq number here) [
      | inl same ↦ absurd (gone request
          (sym (at-without_same world.connections here) ∙ (ap (λ (n : ℕ). at n (without world.connections here)) (sym same) ∙ is)))
      | inr apart ↦ sym (at-without_other world.connections here number apart) ∙ is
    ]),
    refl,
  )
    where
      gone : (request : InProgress) → None ≡ Some (Busy request) → ⊥
      gone request same = cc

module _ (run : ℕ) (small_run : run < 2 ^ 32) where
  -- what an event does
  abbrev EventGoes : World → Event → Type 0
  EventGoes world event = Numbered run (effect_of world event) × OpensBy run world (executed_of world event) (effect_of world event).opens

  turn_goes : (world : World) (here now : ℕ) → Numbered run world → EventGoes world (Turns here now)
  turn_goes world here now numbered = turned run small_run world numbered here now (one world here now) (turn_is world here now)

  event_goes : (world : World) (event : Event) → Numbered run world → EventGoes world event
  unfolding arrives takes connects hangs_up
  event_goes world (Arrives connection piece) numbered =
      changed_goes run small_run world numbered connection (arrives_at world.limits.records piece) (arrival_only world.limits.records piece)
      (at connection world.connections) refl
  event_goes world (Turns connection now) numbered = turn_goes world connection now numbered
  event_goes world (HangsUp connection) numbered =
      either (Kept run small_run world numbered connection) (is_busy (at connection world.connections)) _ _
      (λ busy. (numbered, refl)) (λ idle. dropped run small_run world numbered connection)
  event_goes world (Connects connection) numbered =
      either (Kept run small_run world numbered connection) (can_connect world connection) _ _
      (λ free. connected run small_run world numbered connection) (λ full. (numbered, refl))
  event_goes world (Takes connection) numbered =
      changed_goes run small_run world numbered connection without_reply taking_only (at connection world.connections) refl

  -- Runs

  mounted_numbered : (limits : ServerLimits) (start : Tree) (seats : Seats) → Numbered run (mounted_world limits run start seats)
  mounted_numbered limits start seats = record {
    run_is = refl;
    busy = λ number request is. absurd (nothing request is);
    counted = record { rising = tt; given = λ serial known there. absurd (some≢none known (sym there)); small = omega arith };
  }
    where
      nothing : (request : InProgress) → None ≡ Some (Busy request) → ⊥
      nothing request same = cc

  run_numbered : (begin : Serving) → Numbered run begin.world → (serving : Serving) (history : RunHistory) → IsRun begin serving history → Numbered run serving.world
  run_numbered begin first serving history Begins = first
  run_numbered begin first serving history (Goes_on {old = old} {new = new} {history = earlier} event is_run happens) =
      subst (Numbered run) (sym happens.world) (event_goes old.world event (run_numbered begin first old earlier is_run)).0
  run_numbered begin first serving history (Fails_at {old = old} {new = new} {history = earlier} event is_run fails) =
      subst (Numbered run) (sym fails.world) (run_numbered begin first old earlier is_run)
  run_numbered begin first serving history (Stays_down {old = old} {new = new} {history = earlier} connection is_run stays) =
      subst (Numbered run) (sym stays.world) (event_goes old.world (Takes connection) (run_numbered begin first old earlier is_run)).0
  run_numbered begin first serving history (Flushed {old = old} {new = new} is_run flushes) =
      subst (Numbered run) (sym flushes.world) (run_numbered begin first old history is_run)

  -- What has ended stays so

  abbrev IsGone : ℕ → World → Type 0
  IsGone serial world = (serial ≤ world.opens.given) × (at serial world.opens.known ≡ None)

  gone_by : (world : World) (executed : Option Entry) (new : Opens) (serial : ℕ) → OpensBy run world executed new → IsGone serial world
      → (serial ≤ new.given) × (at serial new.known ≡ None)
  gone_by world None new serial same gone = subst (λ (o : Opens). (serial ≤ o.given) × (at serial o.known ≡ None)) (sym same) gone
  gone_by world (Some entry) new serial by gone =
      let was : (serial ≤ entry.state.opens.given) × (at serial entry.state.opens.known ≡ None)
      = subst (λ (o : Opens). (serial ≤ o.given) × (at serial o.known ≡ None)) (sym by.1) gone in
      let counts = by.0.counts in
      (omega (arith, was.0), by.0.gone serial was.0 was.1)

  event_gone : (world : World) (event : Event) → Numbered run world → (serial : ℕ) → IsGone serial world → IsGone serial (effect_of world event)
  event_gone world event numbered serial gone =
      gone_by world (executed_of world event) (effect_of world event).opens serial (event_goes world event numbered).1 gone

  run_gone : (begin : Serving) → Numbered run begin.world → (serial : ℕ) → IsGone serial begin.world → (serving : Serving) (history : RunHistory)
      → IsRun begin serving history → IsGone serial serving.world
  run_gone begin first serial gone serving history Begins = gone
  run_gone begin first serial gone serving history (Goes_on {old = old} {new = new} {history = earlier} event is_run happens) =
      subst (IsGone serial) (sym happens.world)
      (event_gone old.world event (run_numbered begin first old earlier is_run) serial (run_gone begin first serial gone old earlier is_run))
  run_gone begin first serial gone serving history (Fails_at {old = old} {new = new} {history = earlier} event is_run fails) =
      subst (IsGone serial) (sym fails.world) (run_gone begin first serial gone old earlier is_run)
  run_gone begin first serial gone serving history (Stays_down {old = old} {new = new} {history = earlier} connection is_run stays) =
      subst (IsGone serial) (sym stays.world)
      (event_gone old.world (Takes connection) (run_numbered begin first old earlier is_run) serial (run_gone begin first serial gone old earlier is_run))
  run_gone begin first serial gone serving history (Flushed {old = old} {new = new} is_run flushes) =
      subst (IsGone serial) (sym flushes.world) (run_gone begin first serial gone old history is_run)

  -- What is there is joined

  accesses-append : (other : List ℕ) (done more : List Entry) → accesses_in other (done ++ more) ≡ accesses_in other done ++ accesses_in other more
  accesses-append other [] more = refl
  accesses-append other (entry ∷ done) more =
      ap (λ l. option_to_list (access_by other entry.outcome entry.operation) ++ l) (accesses-append other done more)
      ∙ sym (append_assoc (option_to_list (access_by other entry.outcome entry.operation)) (accesses_in other done) (accesses_in other more))

  joined-append : (accesses more : List ℕ) (known : Open) → joined_by (accesses ++ more) known ≡ joined_by more (joined_by accesses known)
  joined-append [] more known = refl
  joined-append (access ∷ accesses) more known = joined-append accesses more (upgraded access known)

  -- the open of this serial, from `known` on, if these were executed
  abbrev IsStill : ℕ → Open → List Entry → Opens → Type 0
  IsStill serial known done opens =
      (at serial opens.known ≡ Some (joined_by (accesses_in (other_of run serial) done) known)) ⊎ (at serial opens.known ≡ None)

  counts_by : (world : World) (executed : Option Entry) (new : Opens) → OpensBy run world executed new → world.opens.given ≤ new.given
  counts_by world None new same = let equal = ap (λ (o : Opens). o.given) same in omega (arith, equal)
  counts_by world (Some entry) new by =
      let counts = by.0.counts in let equal = ap (λ (o : Opens). o.given) by.1 in omega (arith, counts, equal)

  still_by : (world : World) (executed : Option Entry) (new : Opens) (serial : ℕ) (known : Open) (done : List Entry) → serial ≤ world.opens.given
      → OpensBy run world executed new → IsStill serial known done world.opens → IsStill serial known (done ++ option_to_list executed) new
  still_by world None new serial known done low same still =
      subst (λ (d : List Entry). IsStill serial known d new) (sym (append-nil done)) (subst (IsStill serial known done) (sym same) still)
  still_by world (Some entry) new serial known done low by (inr gone) = inr (gone_by world (Some entry) new serial by (low, gone)).1
  still_by world (Some entry) new serial known done low by (inl there) =
      let other = other_of run serial in
      let before = accesses_in other done in
      let here = option_to_list (access_by other entry.outcome entry.operation) in
      let all : joined_by here (joined_by before known) ≡ joined_by (accesses_in other (done ++ entry ∷ [])) known
      = ap (λ l. joined_by l (joined_by before known)) (sym (append-nil here))
      ∙ (sym (joined-append before (here ++ []) known) ∙ ap (λ l. joined_by l known) (sym (accesses-append other done (entry ∷ [])))) in
      elim (by.0.each serial (joined_by before known) (ap (λ (o : Opens). at serial o.known) by.1 ∙ there)) [
        | inl now ↦ inl (now ∙ ap (λ (o : Open). Some o) all)
        | inr gone ↦ inr gone
      ]

  run_still : (begin : Serving) → Numbered run begin.world → (serial : ℕ) (known : Open) → at serial begin.world.opens.known ≡ Some known
      → (serving : Serving) (history : RunHistory) → IsRun begin serving history → serving.is_down ≡ false
      → (serial ≤ serving.world.opens.given) × IsStill serial known history.done serving.world.opens
  run_still begin first serial known there serving history Begins up = (first.counted.given serial known there, inl there)
  run_still begin first serial known there serving history (Goes_on {old = old} {new = new} {history = earlier} event is_run happens) up =
      let before = run_still begin first serial known there old earlier is_run happens.up in
      let by = (event_goes old.world event (run_numbered begin first old earlier is_run)).1 in
      let counts = counts_by old.world (executed_of old.world event) (effect_of old.world event).opens by in
      let still = still_by old.world (executed_of old.world event) (effect_of old.world event).opens serial known earlier.done before.0 by before.1 in
      subst (λ (w : World). (serial ≤ w.opens.given) × IsStill serial known (history_after earlier old.world event).done w.opens) (sym happens.world)
      (omega (arith, counts, before.0), subst (λ (d : List Entry). IsStill serial known d (effect_of old.world event).opens) (done_behind earlier old.world event) still)
  run_still begin first serial known there serving history (Fails_at event is_run fails) up = absurd (true≢false (sym fails.down ∙ up))
  run_still begin first serial known there serving history (Stays_down connection is_run stays) up = absurd (true≢false (sym stays.still_down ∙ up))
  run_still begin first serial known there serving history (Flushed {old = old} {new = new} is_run flushes) up =
      subst (λ (w : World). (serial ≤ w.opens.given) × IsStill serial known history.done w.opens) (sym flushes.world)
      (run_still begin first serial known there old history is_run flushes.up)

  -- What is executed

  used_in : (serving : Serving) → Numbered run serving.world → (event : Event) (used : Entry) → executed serving event ≡ Some used
      → (OpensBy run serving.world (Some used) (effect_of serving.world event).opens)
  used_in serving numbered event used is = by_up serving.is_down is
    where
      none_used : None ≡ Some used → ⊥
      none_used same = cc

      by_up : (down : Bool) → executed_by serving.world event down ≡ Some used → OpensBy run serving.world (Some used) (effect_of serving.world event).opens
      by_up true same = absurd (none_used same)
      by_up false same =
          subst (λ (o : Option Entry). OpensBy run serving.world o (effect_of serving.world event).opens) same (event_goes serving.world event numbered).1

  module _ (entry : Entry) (arguments : OpenArguments) (answer : OpenAnswer) (new : Serving) (was : WasAnswered run entry arguments answer new) where
    old_numbered : Numbered run was.old.world
    old_numbered = run_numbered (mounted was.limits run was.start was.seats) (mounted_numbered was.limits was.start was.seats) was.old was.history was.begun

    new_numbered : Numbered run new.world
    new_numbered = subst (Numbered run) (sym was.happens.world) (event_goes was.old.world was.event old_numbered).0

    is_opened : IsOpened run (asked_open entry.state arguments) answer.state new.world.opens
    is_opened =
        subst (λ (w : World). IsOpened run (asked_open entry.state arguments) answer.state w.opens) (sym was.happens.world)
        ((used_in was.old old_numbered was.event entry was.executes).0.answers arguments answer was.operation was.outcome)

-- What joins an open

pub joins_counted : JoinsAreCounted
joins_counted [] known = record { client = refl; owner = refl; number = refl; seqid = λ room. omega arith }
joins_counted (access ∷ accesses) known =
    let rest = joins_counted accesses (upgraded access known) in
    record {
      client = rest.client;
      owner = rest.owner;
      number = rest.number;
      seqid = λ room.
          let apart : known.seqid ≢ 2 ^ 32 - 1 = omega arith in
          let next : next_seqid known.seqid ≡ known.seqid + 1 = rw (ne_eqb known.seqid (2 ^ 32 - 1) apart) refl in
          let later = rest.seqid (omega (arith, next, room)) in
          omega (arith, next, later);
    }

-- What a later operation finds

module _ (run : ℕ) (asked : Open) (state : StateId) (serial : ℕ) (known : Open) (is : IsOpenOf run asked state serial known) (later : Serving) (used : State)
    (same : used.opens ≡ later.world.opens) (of_run : used.context.run ≡ run) (accesses : List ℕ)
    (now : OpenStandsIn later serial (joined_by accesses known) ⊎ HasEnded later serial) where
  abbrev last : Open
  last = joined_by accesses known

  state_here : found used.opens used.context state ≡ found used.opens used.context (open_stateid used.context.run serial known.seqid)
  state_here = ap (found used.opens used.context) (is.is ∙ ap (λ (r : ℕ). open_stateid r serial known.seqid) (sym of_run))

  given_here : IsGiven used.context.run serial
  given_here = subst (λ (r : ℕ). IsGiven r serial) (sym of_run) is.given

  stands_here : (of : Open) → OpenStandsIn later serial of → StandsIn used.opens used.context serial of
  stands_here of there = record { given = given_here; there = ap (λ (o : Opens). at serial o.known) same ∙ there }

  is_newest : IsOwn used.context known → accesses ≡ [] → OpenStandsIn later serial known → found used.opens used.context state ≡ Names serial known
  is_newest own none there = state_here ∙ newest used.opens used.context serial known (stands_here known there) own

  is_old : IsOwn used.context known → 0 < length accesses → known.seqid + length accesses < 2 ^ 32 → OpenStandsIn later serial last
      → found used.opens used.context state ≡ stateids.Refused status.OldStateId
  is_old own some room there =
      let joins = joins_counted accesses known in
      let seqid = joins.seqid room in
      state_here
      ∙ lower used.opens used.context serial last (stands_here last there)
      (record { client = joins.client ∙ own.client; file = joins.number ∙ own.file }) known.seqid is.counted (omega (arith, seqid, some))

  by_its_seqid : IsOwn used.context known → OpenStandsIn later serial last → found used.opens used.context state ≡ by_seqid state last
  by_its_seqid mine there =
      let here : state ≡ open_stateid used.context.run serial known.seqid = is.is ∙ ap (λ (r : ℕ). open_stateid r serial known.seqid) (sym of_run) in
      let joins = joins_counted accesses known in
      state_here
      ∙ (own used.opens used.context serial known.seqid last (stands_here last there)
      (record { client = joins.client ∙ mine.client; file = joins.number ∙ mine.file })
      ∙ ap (λ (s : StateId). by_seqid s last) (sym here))

  is_bad : HasEnded later serial → found used.opens used.context state ≡ stateids.Refused status.BadStateId
  is_bad gone = state_here ∙ ended used.opens used.context serial known.seqid given_here (ap (λ (o : Opens). at serial o.known) same ∙ gone)

  is_not_own : (known.client ≢ used.context.client) ⊎ (known.number ≢ current_number used.context)
      → found used.opens used.context state ≡ stateids.Refused status.BadStateId
  is_not_own other = elim now [
    | inl there ↦ state_here ∙ not_own used.opens used.context serial last (stands_here last there) (still other) known.seqid
    | inr gone ↦ is_bad gone
  ]
    where
      still : (known.client ≢ used.context.client) ⊎ (known.number ≢ current_number used.context)
          → (last.client ≢ used.context.client) ⊎ (last.number ≢ current_number used.context)
      still (inl client) = inl (λ equal. client (sym (joins_counted accesses known).client ∙ equal))
      still (inr file) = inr (λ equal. file (sym (joins_counted accesses known).number ∙ equal))

  verdicts : Verdicts later state serial known accesses used
  verdicts = record { newest = is_newest; old = is_old; own = by_its_seqid; other = is_not_own; ended = is_bad }

-- The laws

pub every_state_id_goes_on : EveryStateIdGoesOn
every_state_id_goes_on run entry arguments answer new later since small was is_run up =
    let numbered = new_numbered run small entry arguments answer new was in
    let opened = is_opened run small entry arguments answer new was in
    let later_numbered = run_numbered run small new numbered later since is_run in
    let still = run_still run small new numbered opened.serial opened.known opened.there later since is_run up in
    let other : answer.state.other ≡ other_of run opened.serial = ap (λ (s : StateId). s.other) opened.is.is in
    let now : OpenStandsIn later opened.serial (joined_by (accesses_in answer.state.other since.done) opened.known) ⊎ HasEnded later opened.serial
    = subst (λ (o : List ℕ). OpenStandsIn later opened.serial (joined_by (accesses_in o since.done) opened.known) ⊎ HasEnded later opened.serial)
    (sym other) still.1 in
    record {
      serial = opened.serial;
      known = opened.known;
      is = opened.is;
      stood = opened.there;
      now = now;
      stays = λ gone last more goes. (run_gone run small later later_numbered opened.serial (still.0, gone) last more goes).1;
      verdicts = λ event used is.
          let by = used_in run small later later_numbered event used is in
          verdicts run (asked_open entry.state arguments) answer.state opened.serial opened.known opened.is later used.state by.1 by.2
          (accesses_in answer.state.other since.done) now;
    }

pub every_other_run_refuses : EveryOtherRunRefuses
every_other_run_refuses run other entry arguments answer new limits start seats serving history event used small small_other apart was is_run is =
    let opened = is_opened run small entry arguments answer new was in
    let numbered = run_numbered other small_other (mounted limits other start seats) (mounted_numbered other small_other limits start seats) serving history is_run in
    let by = used_in other small_other serving numbered event used is in
    ap (found used.state.opens used.state.context) opened.is.is
    ∙ other_run used.state.opens used.state.context run opened.serial opened.known.seqid opened.is.given
    (subst (λ (r : ℕ). r < 2 ^ 32) (sym by.2) small_other) (λ same. apart (sym by.2 ∙ sym same))

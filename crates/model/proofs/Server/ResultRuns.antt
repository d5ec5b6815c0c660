-- At each moment of a run, the bytes of a request's results so far encode results.
use Rattle.std.proofs.Common.{◌≡◌, ◌≢◌, ℕ, ◌⊎◌, inl, inr, Bool, true, false, cond, List, [], ◌∷◌, ◌++◌, find, Option, None, Some, Result, Ok, Err, refl, sym, ap, ◌∙◌, subst}
use Rattle.std.proofs.lemmas.Bool.{cases_eq}
use Rattle.std.proofs.lemmas.Option.{same_Some}
use Rattle.model_tree.specs.Seats.Seats.{Seats}
use Rattle.model_tree.specs.declared.status.Status.{Status}
use Rattle.model_tree.specs.declared.status.Status.TheVariants as status
use Rattle.model.specs.Operations.Answer.{Answer, Outcome, Done, Refused, ExchangeIdAnswer, CreateSessionAnswer}
use Rattle.model_tree.specs.Trees.Keyed.{Keyed, at, with, without}
use Rattle.model.specs.Operations.Operation.{Argument, SequenceArguments, operation_of}
use Rattle.model.specs.Wire.Record.{framed}
use Rattle.model_tree.specs.Refusals.Refusal.{first_refusal}
use Rattle.model.specs.Wire.Results.{HasResults, EveryRequestHasResults}
use Rattle.model.specs.Wire.Rpc.{Success, reply_text}
use Rattle.model.specs.Server.Runs.{Serving, RunHistory, IsRun, mounted, Event, Arrives, Turns, HangsUp, Connects, Takes, effect_of, Begins, Goes_on, Fails_at, Stays_down, Flushed}
use Rattle.model.specs.Sessions.Session as sessions
use Rattle.model.specs.Sessions.Session.{Session, Table, is_session, begin}
use Rattle.model.specs.Sessions.StateIds.{has_opens}
use Rattle.model.specs.Operations.State.{current_refusals}
use Rattle.model_tree.specs.Trees.Tree.{Tree}
use Rattle.model.specs.Server.World.{ServerLimits, InProgress, Connection, Quiet, Busy, Replied, World, Entry, HasRun, Gives, Replays, Turned, exchanged, created_by, tabled, started_in, begun, reclaimed, state_of, run, with_result, result_of, behind, ends, goes_on, executed_entry, one, with_connection, without_connection, arrives, arrives_at, connection_changed, without_reply, takes, can_connect, connects, is_busy, hangs_up, mounted_world, is_last, closes, is_to_hold, noting}
use Rattle.model_tree.proofs.Trees.KeyedLaws.{at-with_same, at-with_other, at-without_same, at-without_other}
use Rattle.model.proofs.Wire.ResultLaws.{one_more}
use Rattle.model.proofs.Sessions.TableCalls.{either}
use Rattle.model.proofs.Server.TurnCases.{GoesWith, Begun, New, read_of, IsTurn, Idles, Says, Unread, TooBig, Gave, Repeats, turn_is, arrival_only, taking_only, Closes}
use Rattle.model.proofs.Sessions.SlotsHeld.{busy_request}

abbrev AllHave : World → Type 0
AllHave world = (number : ℕ) (request : InProgress) → at number world.connections ≡ Some (Busy request) → HasResults request

-- What an operation leaves

record Same (world : World) (request : InProgress) (after : World) (left : InProgress) : Type 0 where
  connections : after.connections ≡ world.connections
  answered : left.answered ≡ request.answered
  results : left.results ≡ request.results

noted : (altered : Bool) (world : World) (request : InProgress) (after : World) (left : InProgress) → Same world request after left
    → Same world request after (record left { altered = altered })
noted altered world request after left same = record { connections = same.connections; answered = same.answered; results = same.results }

abbrev Leaves : World → InProgress → HasRun → Type 0
Leaves world request (Gives outcome after left) = Same world request after left
Leaves world request (Replays result session slot) = Unit {0}

module _ (world : World) (request : InProgress) where
  same : Same world request world request
  same = record { connections = refl; answered = refl; results = refl }

  exchanged_leaves : (r : Result ExchangeIdAnswer Status × Table) → Leaves world request (exchanged world request r)
  exchanged_leaves (Err reason, table) = record { connections = refl; answered = refl; results = refl }
  exchanged_leaves (Ok answer, table) = record { connections = refl; answered = refl; results = refl }

  created_leaves : (o : sessions.CreateSessionOutcome) (answer : Result CreateSessionAnswer Status) → Leaves world request (created_by world request o answer)
  created_leaves o (Err reason) = same
  created_leaves o (Ok answer) = record { connections = refl; answered = refl; results = refl }

  tabled_leaves : (operation : ℕ) (answer : Answer) (r : Option Status × Table) → Leaves world request (tabled world request operation answer r)
  tabled_leaves operation answer (Some reason, table) = record { connections = refl; answered = refl; results = refl }
  tabled_leaves operation answer (None, table) = record { connections = refl; answered = refl; results = refl }

  started_leaves : (arguments : SequenceArguments) (known : Option Session) → Leaves world request (started_in world request arguments known)
  started_leaves arguments None = same
  started_leaves arguments (Some session) = record { connections = refl; answered = refl; results = refl }

  begun_leaves : (arguments : SequenceArguments) (b : sessions.Begun) → Leaves world request (begun world request arguments b)
  begun_leaves arguments (sessions.Refuses reason) = same
  begun_leaves arguments (sessions.Replays reply) = tt
  begun_leaves arguments sessions.Runs = started_leaves arguments (find (is_session arguments.session) world.table.sessions)

  reclaimed_leaves : (refusal : Option Status) → Leaves world request (reclaimed world request refusal)
  reclaimed_leaves None = same
  reclaimed_leaves (Some reason) = same

  run_leaves : (now : ℕ) (operation : Argument) → Leaves world request (run world request now operation)
  unfolding run
  run_leaves now (Argument.ExchangeId arguments) =
      exchanged_leaves (sessions.exchange_id world.limits.sessions (has_opens world.opens) request.context.cred.uid arguments world.table)
  run_leaves now (Argument.CreateSession arguments) =
      created_leaves (sessions.create_session world.limits.sessions request.context.cred.uid arguments world.table) _
  run_leaves now (Argument.DestroySession id) = tabled_leaves 44 Answer.DestroySession (sessions.destroy_session id world.table)
  run_leaves now (Argument.DestroyClientId client) =
      tabled_leaves 57 Answer.DestroyClientId (sessions.destroy_client_id (has_opens world.opens) client world.table)
  run_leaves now (Argument.Sequence arguments) = begun_leaves arguments (begin request.context.cred.uid request.count arguments world.table)
  run_leaves now (Argument.ReclaimComplete true) = reclaimed_leaves (first_refusal (current_refusals (state_of world request)))
  run_leaves now (Argument.ReclaimComplete false) = tabled_leaves 58 Answer.ReclaimComplete (sessions.reclaim_complete request.context.client world.table)
  run_leaves now operation = record { connections = refl; answered = refl; results = refl }

-- A turn

read_has : (request : InProgress) (rest : List ℕ) → HasResults request → HasResults (read_of request rest)
read_has request rest has = (has.0, record { answered = has.1.answered; encoded = has.1.encoded })

module _ (world : World) (has : AllHave world) (here : ℕ) where
  put_down : (new : Connection) (after : World) → after.connections ≡ with world.connections here new
      → ((request : InProgress) → new ≡ Busy request → HasResults request) → AllHave after
  put_down new after are mine number request busy = by_place (cases_eq number here)
    where
      there : at number (with world.connections here new) ≡ Some (Busy request)
      there = ap (at number) (sym are) ∙ busy

      by_place : (number ≡ here) ⊎ (number ≢ here) → HasResults request
      by_place (inl same) =
          mine request (same_Some new (Busy request)
          (sym (at-with_same world.connections here new) ∙ (ap (λ (n : ℕ). at n (with world.connections here new)) (sym same) ∙ there)))
      by_place (inr apart) = has number request (sym (at-with_other world.connections here number new apart) ∙ there)

  replied : (reply : List ℕ) (after : World) → after.connections ≡ with world.connections here (Replied reply) → AllHave after
  replied reply after are = put_down (Replied reply) after are (λ request wrong. absurd (never request wrong))
    where
      never : (request : InProgress) → Replied reply ≡ Busy request → ⊥
      never request wrong = cc

  -- the request goes on after one more result
  module _ (request : InProgress) (has_been : HasResults request) (after : World) (left : InProgress) (leaves : Same world request after left) where
    one_further : (outcome : Outcome) → HasResults (with_result left outcome)
    one_further outcome = (
      has_been.0 ++ outcome ∷ [],
      one_more left has_been.0 outcome (record {
        answered = leaves.answered ∙ has_been.1.answered;
        encoded = leaves.results ∙ has_been.1.encoded;
      }),
    )

    ended : (answered : ℕ) (results : List ℕ) (last : Status) (holds : Bool) (executed : Option Entry)
        → AllHave (ends after here (record left { answered = answered; results = results }) last holds executed).world
    ended answered results last holds executed =
        let reply = framed (reply_text left.xid (Success (result_of (record left { answered = answered; results = results }) last))) in
        replied reply (ends after here (record left { answered = answered; results = results }) last holds executed).world
        (ap (λ (c : Keyed Connection). with c here (Replied reply)) leaves.connections)

    abbrev further_on : Outcome → (status : Option Status) → InProgress
    further_on outcome status = record (with_result left outcome) { ended = status }

    gone_on : (outcome : Outcome) (status : Option Status) (executed : Option Entry) → AllHave (goes_on after here (further_on outcome status) executed).world
    gone_on outcome status executed =
        let results = one_further outcome in
        put_down (Busy (further_on outcome status)) (goes_on after here (further_on outcome status) executed).world
        (ap (λ (c : Keyed Connection). with c here (Busy (further_on outcome status))) leaves.connections)
        (λ other same. subst HasResults (busy_request (further_on outcome status) other same)
        (results.0, record { answered = results.1.answered; encoded = results.1.encoded }))

    closed : (outcome : Outcome) (last : Status) (executed : Option Entry) → AllHave (closes after here (with_result left outcome) last executed).world
    closed outcome last executed =
        either (λ (t : Turned). AllHave t.world) (is_to_hold left after.table) _ _
        (λ seated. gone_on outcome (Some last) executed)
        (λ none. ended (with_result left outcome).answered (with_result left outcome).results last false executed)

    went : (outcome : Outcome) (executed : Option Entry) → AllHave (behind after here left outcome executed).world
    went (Refused operation reason) executed = closed (Refused operation reason) reason executed
    went (Done answer) executed =
        either (λ (t : Turned). AllHave t.world) (is_last left) _ _
        (λ last. closed (Done answer) status.Ok executed)
        (λ more. gone_on (Done answer) left.ended executed)

  goes_has : (request : InProgress) → GoesWith world here request → HasResults request
  goes_has request (Begun _ is) = has here request is
  goes_has _ (New bytes xid cred compound is some) = ([], record { answered = refl; encoded = refl })

  turned : (now : ℕ) (t : Turned) → IsTurn world here now t → AllHave t.world
  turned now _ Idles = has
  turned now _ (Says bytes xid reply is) = replied (framed (reply_text xid reply)) (with_connection world here (Replied (framed (reply_text xid reply)))) refl
  turned now _ (Closes request last there is) =
      ended request (has here request there) world request (same world request) request.answered request.results last true None
  turned now _ (Unread request operation reason goes) =
      went request (goes_has request goes) world request (same world request) (Refused operation reason) None
  turned now _ (TooBig request operation rest goes reads) =
      went (read_of request rest) (read_has request rest (goes_has request goes)) world (noting world world operation (read_of request rest))
      (noted _ world (read_of request rest) world (read_of request rest) (same world (read_of request rest)))
      (Refused (operation_of operation) status.RepTooBig)
      (Some (executed_entry world (read_of request rest) operation (Refused (operation_of operation) status.RepTooBig) world))
  turned now _ (Gave request operation rest outcome after left goes reads is) =
      let leaves : Leaves world (read_of request rest) (Gives outcome after left) =
      subst (Leaves world (read_of request rest)) is (run_leaves world (read_of request rest) now operation) in
      went (read_of request rest) (read_has request rest (goes_has request goes)) after (noting world after operation left)
      (noted _ world (read_of request rest) after left leaves) outcome
      (Some (executed_entry world (read_of request rest) operation outcome after))
  turned now _ (Repeats request operation rest result session slot goes reads is) =
      replied (framed (reply_text request.xid (Success result))) (with_connection world here (Replied (framed (reply_text request.xid (Success result))))) refl

  -- The other events: no connection becomes busy

  changed_has : (change : Connection → Connection) → ((c : Connection) (request : InProgress) → change c ≡ Busy request → c ≡ Busy request)
      → (connection : Option Connection) → at here world.connections ≡ connection → AllHave (connection_changed world here change connection)
  changed_has change only None is = has
  changed_has change only (Some connection) is =
      put_down (change connection) (with_connection world here (change connection)) refl
      (λ request busy. has here request (is ∙ ap (λ (c : Connection). Some c) (only connection request busy)))

  connects_has : (free : Bool) → AllHave (cond free (with_connection world here (Quiet [])) world)
  connects_has false = has
  connects_has true = put_down (Quiet []) (with_connection world here (Quiet [])) refl (λ request wrong. absurd (quiet request wrong))
    where
      quiet : (request : InProgress) → Quiet [] ≡ Busy request → ⊥
      quiet request wrong = cc

  dropped : AllHave (without_connection world here)
  dropped number request busy = by_place (cases_eq number here)
    where
      none_busy : None ≡ Some (Busy request) → ⊥
      none_busy wrong = cc

      by_place : (number ≡ here) ⊎ (number ≢ here) → HasResults request
      by_place (inl same) =
          absurd (none_busy (sym (at-without_same world.connections here)
          ∙ (ap (λ (n : ℕ). at n (without world.connections here)) (sym same) ∙ busy)))
      by_place (inr apart) = has number request (sym (at-without_other world.connections here number apart) ∙ busy)

event_has : (world : World) (event : Event) → AllHave world → AllHave (effect_of world event)
unfolding arrives takes connects hangs_up
event_has world (Arrives connection piece) has =
    changed_has world has connection (arrives_at world.limits.records piece) (arrival_only world.limits.records piece) (at connection world.connections) refl
event_has world (Turns connection now) has = turned world has connection now (one world connection now) (turn_is world connection now)
event_has world (HangsUp connection) has =
    either AllHave (is_busy (at connection world.connections)) _ _ (λ busy. has) (λ idle. dropped world has connection)
event_has world (Connects connection) has = connects_has world has connection (can_connect world connection)
event_has world (Takes connection) has =
    changed_has world has connection without_reply taking_only (at connection world.connections) refl

-- A run

mounted_has : (limits : ServerLimits) (run : ℕ) (start : Tree) (seats : Seats) → AllHave (mounted_world limits run start seats)
mounted_has limits run start seats number request busy = absurd (nothing busy)
  where
    nothing : None ≡ Some (Busy request) → ⊥
    nothing wrong = cc

run_has : (limits : ServerLimits) (run : ℕ) (start : Tree) (seats : Seats) (serving : Serving) (history : RunHistory) → IsRun (mounted limits run start seats) serving history
    → AllHave serving.world
run_has limits run start seats serving history Begins = mounted_has limits run start seats
run_has limits run start seats serving history (Goes_on {old = old} {new = new} {history = earlier} event is_run happens) =
    subst AllHave (sym happens.world) (event_has old.world event (run_has limits run start seats old earlier is_run))
run_has limits run start seats serving history (Fails_at {old = old} {new = new} {history = earlier} event is_run fails) =
    subst AllHave (sym fails.world) (run_has limits run start seats old earlier is_run)
run_has limits run start seats serving history (Stays_down {old = old} {new = new} {history = earlier} connection is_run stays) =
    subst AllHave (sym stays.world) (event_has old.world (Takes connection) (run_has limits run start seats old earlier is_run))
run_has limits run start seats serving history (Flushed {old = old} {new = new} is_run flushes) =
    subst AllHave (sym flushes.world) (run_has limits run start seats old history is_run)

pub every_request_has_results : EveryRequestHasResults
every_request_has_results limits run start seats serving history is_run = run_has limits run start seats serving history is_run

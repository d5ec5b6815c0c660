-- What was answered was permitted.
use Rattle.std.proofs.Common.{◌≡◌, ℕ, ◌⊎◌, inl, inr, Bool, true, false, cond, List, [], ◌∷◌, ◌++◌, Option, None, Some, Result, Ok, Err, refl, sym, subst, find, slice_get, option_to_list, append-nil}
use Rattle.model_tree.specs.Seats.Seats.{Seats}
use Rattle.model_tree.specs.declared.status.Status.{Status}
use Rattle.model_tree.specs.declared.status.Status.TheVariants as status
use Rattle.model_tree.specs.declared.limits.Limits.{Limits}
use Rattle.model.specs.Operations.Answer.{Answer, Outcome, ExchangeIdAnswer, CreateSessionAnswer}
use Rattle.model.specs.Server.AnswerRuns.{IsPermittedAnswer, EveryAnswerIsPermitted}
use Rattle.model_tree.specs.Trees.Keyed.{at}
use Rattle.model.specs.Operations.Operation.{Argument, SequenceArguments, operation_of}
use Rattle.model.specs.Wire.Rpc.{CallRead, NoCall, OtherVersion, Calls, Request, Answers, Runs, read_call, request_of}
use Rattle.model.specs.Server.Runs.{Event, Arrives, Turns, HangsUp, Connects, Takes, executed_of, executed_by, Serving, RunHistory, IsRun, Begins, Goes_on, Fails_at, Stays_down, Flushed, mounted, is_done}
use Rattle.model.specs.Sessions.Session as sessions
use Rattle.model.specs.Sessions.Session.{Table, Session}
use Rattle.model.specs.Operations.Step.{State, does, permitted}
use Rattle.model_tree.specs.Trees.Tree.{Tree}
use Rattle.model.specs.Server.World.{World, ServerLimits, InProgress, Connection, Quiet, Waiting, Busy, Replied, Closed, HasRun, Gives, Replays, exchanged, created_by, tabled, started_in, begun, reclaimed, state_of, refuses, in_room, has_room, run as run_of, Turned, Entry, executed_entry, behind, ends, goes_on, with_result, is_last, has_run, operates, Next, Refuses, Reads, next_operation, requested, in_progress, called, turned, one, reply_at, closes, is_to_hold, further, noting}
use Rattle.model.proofs.Server.Headline.{slice_get-last}
use Rattle.model_tree.proofs.Rights.LimitLaws.{modes_keep_limits, inheritance_keeps_limits}
use Rattle.model.proofs.Server.Headline.{taken_done, done_behind}
use Rattle.model.proofs.Operations.StepProofs.{every_step}

-- One operation

by_outcome : (limits : Limits) (state : State) (now : ℕ) (operation : Argument) → is_done (does limits state now operation).outcome ≡ true
    → permitted state.tree state.context operation ≡ true
by_outcome limits state now operation done =
    answered (does limits state now operation).outcome refl done
  where
    answered : (outcome : Outcome) → (does limits state now operation).outcome ≡ outcome → is_done outcome ≡ true
        → permitted state.tree state.context operation ≡ true
    answered (Outcome.Done answer) is done =
        (every_step modes_keep_limits inheritance_keeps_limits limits state now operation).answer_is_permitted answer is
    answered (Outcome.Refused number reason) is done = absurd (cc)

-- A turn

abbrev RanPermitted : World → InProgress → Argument → HasRun → Type 0
RanPermitted world request operation (Gives outcome after left) = is_done outcome ≡ true → permitted world.tree request.context operation ≡ true
RanPermitted world request operation (Replays result session slot) = Unit {0}

module _ (world : World) (request : InProgress) (operation : Argument) (free : permitted world.tree request.context operation ≡ true) where
  exchanged_permitted : (outcome : Result ExchangeIdAnswer Status × Table) → RanPermitted world request operation (exchanged world request outcome)
  exchanged_permitted (Err reason, table) = λ done. free
  exchanged_permitted (Ok answer, table) = λ done. free

  created_by_permitted : (outcome : sessions.CreateSessionOutcome) (answer : Result CreateSessionAnswer Status)
      → RanPermitted world request operation (created_by world request outcome answer)
  created_by_permitted outcome (Err reason) = λ done. free
  created_by_permitted outcome (Ok answer) = λ done. free

  tabled_permitted : (number : ℕ) (answer : Answer) (outcome : Option Status × Table)
      → RanPermitted world request operation (tabled world request number answer outcome)
  tabled_permitted number answer (Some reason, table) = λ done. free
  tabled_permitted number answer (None, table) = λ done. free

  started_in_permitted : (arguments : SequenceArguments) (known : Option Session)
      → RanPermitted world request operation (started_in world request arguments known)
  started_in_permitted arguments None = λ done. free
  started_in_permitted arguments (Some session) = λ done. free

  begun_permitted : (arguments : SequenceArguments) (begin : sessions.Begun) → RanPermitted world request operation (begun world request arguments begin)
  begun_permitted arguments (sessions.Refuses reason) = λ done. free
  begun_permitted arguments (sessions.Replays reply) = tt
  begun_permitted arguments sessions.Runs =
      started_in_permitted arguments (find (sessions.is_session arguments.session) world.table.sessions)

  reclaimed_permitted : (refusal : Option Status) → RanPermitted world request operation (reclaimed world request refusal)
  reclaimed_permitted None = λ done. free
  reclaimed_permitted (Some reason) = λ done. free

-- the operations on clients and sessions need no right
run_permitted : (world : World) (request : InProgress) (now : ℕ) (operation : Argument)
    → RanPermitted world request operation (run_of world request now operation)
unfolding run_of permitted
run_permitted world request now (Argument.ExchangeId arguments) = exchanged_permitted world request (Argument.ExchangeId arguments) refl _
run_permitted world request now (Argument.CreateSession arguments) = created_by_permitted world request (Argument.CreateSession arguments) refl
    (sessions.create_session world.limits.sessions request.context.cred.uid arguments world.table) _
run_permitted world request now (Argument.DestroySession id) = tabled_permitted world request (Argument.DestroySession id) refl 44 _ _
run_permitted world request now (Argument.DestroyClientId client) = tabled_permitted world request (Argument.DestroyClientId client) refl 57 _ _
run_permitted world request now (Argument.Sequence arguments) = begun_permitted world request (Argument.Sequence arguments) refl arguments _
run_permitted world request now (Argument.ReclaimComplete true) = reclaimed_permitted world request (Argument.ReclaimComplete true) refl _
run_permitted world request now (Argument.ReclaimComplete false) = tabled_permitted world request (Argument.ReclaimComplete false) refl 58 _ _
run_permitted world request now operation = by_outcome world.limits.volume (state_of world request) now operation

in_room_permitted : (world : World) (request : InProgress) (operation : Argument) (number : ℕ) (ran : HasRun) → RanPermitted world request operation ran
    → RanPermitted world request operation (in_room world request number ran)
in_room_permitted world request operation number (Gives (Outcome.Refused of reason) after left) permits = permits
in_room_permitted world request operation number (Gives (Outcome.Done answer) after left) permits = either (has_room world request (Outcome.Done answer))
  where
    either : (b : Bool) → RanPermitted world request operation (cond b (Gives (Outcome.Done answer) after left) (refuses world request number status.RepTooBig))
    either true = permits
    either false = λ done. absurd (cc)
in_room_permitted world request operation number (Replays result session slot) permits = tt

abbrev EntryPermitted : Option Entry → Type 0
EntryPermitted None = Unit {0}
EntryPermitted (Some entry) = IsPermittedAnswer entry

abbrev TurnPermitted : Turned → Type 0
TurnPermitted turned = EntryPermitted turned.executed

either_permitted : (b : Bool) (x y : Turned) → TurnPermitted x → TurnPermitted y → TurnPermitted (cond b x y)
either_permitted true x y first second = first
either_permitted false x y first second = second

closes_permitted : (world : World) (number : ℕ) (request : InProgress) (last : Status) (executed : Option Entry)
    → EntryPermitted executed → TurnPermitted (closes world number request last executed)
closes_permitted world number request last executed permits =
    either_permitted (is_to_hold request world.table) (goes_on world number (record request { ended = Some last }) executed)
    (ends world number request last false executed) permits permits

behind_permitted : (world : World) (number : ℕ) (request : InProgress) (outcome : Outcome) (executed : Option Entry)
    → EntryPermitted executed → TurnPermitted (behind world number request outcome executed)
behind_permitted world number request (Outcome.Refused operation reason) executed permits =
    closes_permitted world number (with_result request (Outcome.Refused operation reason)) reason executed permits
behind_permitted world number request (Outcome.Done answer) executed permits =
    either_permitted (is_last request) (closes world number (with_result request (Outcome.Done answer)) status.Ok executed)
    (goes_on world number (with_result request (Outcome.Done answer)) executed)
    (closes_permitted world number (with_result request (Outcome.Done answer)) status.Ok executed permits) permits

has_run_permitted : (world : World) (number : ℕ) (request : InProgress) (operation : Argument) (ran : HasRun)
    → RanPermitted world request operation ran → TurnPermitted (has_run world number request operation ran)
has_run_permitted world number request operation (Gives outcome after left) permits =
    behind_permitted after number (noting world after operation left) outcome (Some (executed_entry world request operation outcome after)) permits
has_run_permitted world number request operation (Replays result session slot) permits = tt

operates_permitted : (world : World) (number now : ℕ) (request : InProgress) (next : Next) → TurnPermitted (operates world number now request next)
operates_permitted world number now request (Refuses operation reason) =
    behind_permitted world number request (Outcome.Refused operation reason) None tt
operates_permitted world number now request (Reads operation rest) =
    has_run_permitted world number (record request { rest = rest }) operation _
    (in_room_permitted world (record request { rest = rest }) operation (operation_of operation) _
    (run_permitted world (record request { rest = rest }) now operation))

requested_permitted : (world : World) (number now xid : ℕ) (request : Request) → TurnPermitted (requested world number now xid request)
requested_permitted world number now xid (Answers reply) = tt
requested_permitted world number now xid (Runs cred compound) =
    operates_permitted world number now (in_progress world xid cred compound) (next_operation (in_progress world xid cred compound))

called_permitted : (world : World) (number now : ℕ) (call : CallRead) → TurnPermitted (called world number now call)
called_permitted world number now NoCall = tt
called_permitted world number now (OtherVersion xid) = tt
called_permitted world number now (Calls call) = requested_permitted world number now call.xid (request_of call)

further_permitted : (world : World) (number now : ℕ) (request : InProgress) (ended : Option Status) → TurnPermitted (further world number now request ended)
further_permitted world number now request None = operates_permitted world number now request (next_operation request)
further_permitted world number now request (Some last) = tt

turned_permitted : (world : World) (number now : ℕ) (connection : Option Connection) → TurnPermitted (turned world number now connection)
turned_permitted world number now None = tt
turned_permitted world number now (Some (Quiet bytes)) = tt
turned_permitted world number now (Some (Waiting request)) = called_permitted world number now (read_call request)
turned_permitted world number now (Some (Busy request)) = further_permitted world number now request request.ended
turned_permitted world number now (Some (Replied reply)) = tt
turned_permitted world number now (Some Closed) = tt

one_permitted : (world : World) (number now : ℕ) → TurnPermitted (one world number now)
unfolding one
one_permitted world number now = turned_permitted world number now (at number world.connections)

event_permitted : (world : World) (event : Event) → EntryPermitted (executed_of world event)
event_permitted world (Arrives connection piece) = tt
event_permitted world (Turns connection now) = one_permitted world connection now
event_permitted world (HangsUp connection) = tt
event_permitted world (Connects connection) = tt
event_permitted world (Takes connection) = tt

-- Over a run

abbrev AllPermitted : List Entry → Type 0
AllPermitted done = (i : ℕ) (entry : Entry) → slice_get done i ≡ Some entry → IsPermittedAnswer entry

one_more : (done : List Entry) (entry : Entry) → AllPermitted done → IsPermittedAnswer entry → AllPermitted (done ++ entry ∷ [])
one_more done entry all permits i other is = by_place (slice_get-last done entry i other is)
  where
    by_place : (slice_get done i ≡ Some other) ⊎ (other ≡ entry) → IsPermittedAnswer other
    by_place (inl was) = all i other was
    by_place (inr last) = subst IsPermittedAnswer (sym last) permits

with_executed : (done : List Entry) (executed : Option Entry) → AllPermitted done → EntryPermitted executed
    → AllPermitted (done ++ option_to_list executed)
with_executed done None all permits = subst AllPermitted (sym (append-nil done)) all
with_executed done (Some entry) all permits = one_more done entry all permits

run_is_permitted : (limits : ServerLimits) (run : ℕ) (start : Tree) (seats : Seats) (serving : Serving) (history : RunHistory)
    → IsRun (mounted limits run start seats) serving history → AllPermitted history.done
run_is_permitted limits run start seats _ _ Begins = λ i entry is. let never : ⊥ = cc in absurd never
run_is_permitted limits run start seats _ _ (Goes_on {old} {new} {history} event runs happens) =
    subst AllPermitted (done_behind history old.world event)
    (with_executed history.done (executed_of old.world event) (run_is_permitted limits run start seats old history runs) (event_permitted old.world event))
run_is_permitted limits run start seats _ _ (Fails_at {old} {new} {history} event runs fails) =
    with_executed history.done (executed_of old.world event) (run_is_permitted limits run start seats old history runs) (event_permitted old.world event)
run_is_permitted limits run start seats _ _ (Stays_down {old} {new} {history} connection runs stays) =
    subst AllPermitted (sym (taken_done history connection (reply_at old.world connection))) (run_is_permitted limits run start seats old history runs)
run_is_permitted limits run start seats _ history (Flushed {old} {new} runs flushes) = run_is_permitted limits run start seats old history runs

under_way : (world : World) (event : Event) (is_down : Bool) → EntryPermitted (executed_by world event is_down)
under_way world event true = tt
under_way world event false = event_permitted world event

pub every_answer_is_permitted : EveryAnswerIsPermitted
every_answer_is_permitted limits run start seats serving history runs event =
    with_executed history.done (executed_by serving.world event serving.is_down) (run_is_permitted limits run start seats serving history runs)
    (under_way serving.world event serving.is_down)

-- Each change gives the stamp of its run.
use Rattle.std.proofs.Common.{◌≡◌, ◌≢◌, ◌+◌, ◌≤◌, ℕ, ◌⊎◌, inl, inr, Bool, true, false, cond, List, [], ◌∷◌, ◌++◌, Option, None, Some, Result, Ok, Err, refl, sym, subst, find, slice_get, option_to_list, append-nil}
use Rattle.model_tree.specs.declared.status.Status.{Status}
use Rattle.model_tree.specs.declared.status.Status.TheVariants as status
use Rattle.model_tree.specs.declared.limits.Limits.{Limits}
use Rattle.model.specs.Operations.Answer.{Answer, Outcome, ExchangeIdAnswer, CreateSessionAnswer}
use Rattle.model_tree.specs.Trees.Changes.{IsStamped}
use Rattle.model_tree.specs.Trees.Keyed.{at}
use Rattle.model.specs.Operations.Operation.{Argument, SequenceArguments, operation_of}
use Rattle.model.specs.Wire.Rpc.{CallRead, NoCall, OtherVersion, Calls, Request, Answers, Runs, read_call, request_of}
use Rattle.model.specs.Server.Runs.{Event, Arrives, Turns, HangsUp, Connects, Takes, executed_of, executed_by, Serving, RunHistory, IsRun, Begins, Goes_on, Fails_at, Stays_down, Flushed, mounted, is_done}
use Rattle.model.specs.Sessions.Session as sessions
use Rattle.model.specs.Sessions.Session.{Table, Session}
use Rattle.model.specs.Server.SoundRuns.{IsStart}
use Rattle.model_tree.specs.Trees.Stamp.{next_stamp}
use Rattle.model.specs.Server.StampRuns.{GivesStamp, EveryStampIsGiven}
use Rattle.model.specs.Operations.Step.{State, does, alters, stamp_of}
use Rattle.model.specs.Operations.StepLaws.{IsSound}
use Rattle.model_tree.specs.Seats.Seats.{Seats}
use Rattle.model_tree.specs.Trees.Tree.{Tree}
use Rattle.model.specs.Server.World.{World, ServerLimits, InProgress, Connection, Quiet, Waiting, Busy, Replied, Closed, HasRun, Gives, Replays, exchanged, created_by, tabled, started_in, begun, reclaimed, stepped, state_of, refuses, in_room, has_room, run as run_of, Turned, Entry, executed_entry, behind, ends, goes_on, with_result, is_last, has_run, operates, Next, Refuses, Reads, next_operation, requested, in_progress, called, turned, one, reply_at, closes, is_to_hold, further, noting}
use Rattle.model.proofs.Server.Headline.{slice_get-last, taken_done, done_behind}
use Rattle.model_tree.proofs.Rights.LimitLaws.{modes_keep_limits, inheritance_keeps_limits}
use Rattle.model.proofs.Server.RunLaws.{does_lawful}
use Rattle.model.proofs.Server.SoundLaws.{IsSoundWorld, state_sound, serving_sound}
use Rattle.model.proofs.Operations.StepProofs.{every_step}

-- One operation

does_stamped : (limits : Limits) (state : State) (now : ℕ) (operation : Argument) → IsSound limits state
    → state.tree ≢ (does limits state now operation).state.tree → IsStamped (stamp_of state) state.tree (does limits state now operation).state.tree
does_stamped limits state now operation sound differs =
    let lawful = does_lawful limits state now operation differs in
    answered lawful.1 (does limits state now operation).outcome refl lawful.2
  where
    answered : alters state operation ≡ true → (outcome : Outcome) → (does limits state now operation).outcome ≡ outcome → is_done outcome ≡ true
        → IsStamped (stamp_of state) state.tree (does limits state now operation).state.tree
    answered changes (Outcome.Done answer) is done =
        (every_step modes_keep_limits inheritance_keeps_limits limits state now operation).stamps answer sound changes is
    answered changes (Outcome.Refused number reason) is done = absurd (cc)

-- A turn

abbrev RanStamped : World → InProgress → HasRun → Type 0
RanStamped world request (Gives outcome after left) = (world.tree ≢ after.tree) → IsStamped (stamp_of (state_of world request)) world.tree after.tree
RanStamped world request (Replays result session slot) = Unit {0}

module _ (limits : ServerLimits) (run : ℕ) (room : limits.volume.aces_set + 5 ≤ limits.volume.aces) where
  module _ (world : World) (request : InProgress) where
    exchanged_stamped : (outcome : Result ExchangeIdAnswer Status × Table) → RanStamped world request (exchanged world request outcome)
    exchanged_stamped (Err reason, table) = λ differs. absurd (differs refl)
    exchanged_stamped (Ok answer, table) = λ differs. absurd (differs refl)

    created_by_stamped : (outcome : sessions.CreateSessionOutcome) (answer : Result CreateSessionAnswer Status)
        → RanStamped world request (created_by world request outcome answer)
    created_by_stamped outcome (Err reason) = λ differs. absurd (differs refl)
    created_by_stamped outcome (Ok answer) = λ differs. absurd (differs refl)

    tabled_stamped : (number : ℕ) (answer : Answer) (outcome : Option Status × Table) → RanStamped world request (tabled world request number answer outcome)
    tabled_stamped number answer (Some reason, table) = λ differs. absurd (differs refl)
    tabled_stamped number answer (None, table) = λ differs. absurd (differs refl)

    started_in_stamped : (arguments : SequenceArguments) (known : Option Session) → RanStamped world request (started_in world request arguments known)
    started_in_stamped arguments None = λ differs. absurd (differs refl)
    started_in_stamped arguments (Some session) = λ differs. absurd (differs refl)

    begun_stamped : (arguments : SequenceArguments) (begin : sessions.Begun) → RanStamped world request (begun world request arguments begin)
    begun_stamped arguments (sessions.Refuses reason) = λ differs. absurd (differs refl)
    begun_stamped arguments (sessions.Replays reply) = tt
    begun_stamped arguments sessions.Runs = started_in_stamped arguments (find (sessions.is_session arguments.session) world.table.sessions)

    reclaimed_stamped : (refusal : Option Status) → RanStamped world request (reclaimed world request refusal)
    reclaimed_stamped None = λ differs. absurd (differs refl)
    reclaimed_stamped (Some reason) = λ differs. absurd (differs refl)

  stepped_stamped : (world : World) (request : InProgress) (now : ℕ) (operation : Argument) → IsSoundWorld limits run world → request.context.run ≡ run
      → RanStamped world request (stepped world request (does world.limits.volume (state_of world request) now operation))
  stepped_stamped world request now operation sound same =
      does_stamped world.limits.volume (state_of world request) now operation
      (subst (λ (l : ServerLimits). IsSound l.volume (state_of world request)) (sym sound.limits_are) (state_sound limits run room world request sound same))

  run_stamped : (world : World) (request : InProgress) (now : ℕ) (operation : Argument) → IsSoundWorld limits run world → request.context.run ≡ run
      → RanStamped world request (run_of world request now operation)
  unfolding run_of
  run_stamped world request now (Argument.ExchangeId arguments) sound same = exchanged_stamped world request _
  run_stamped world request now (Argument.CreateSession arguments) sound same =
      created_by_stamped world request (sessions.create_session world.limits.sessions request.context.cred.uid arguments world.table) _
  run_stamped world request now (Argument.DestroySession id) sound same = tabled_stamped world request 44 _ _
  run_stamped world request now (Argument.DestroyClientId client) sound same = tabled_stamped world request 57 _ _
  run_stamped world request now (Argument.Sequence arguments) sound same = begun_stamped world request arguments _
  run_stamped world request now (Argument.ReclaimComplete true) sound same = reclaimed_stamped world request _
  run_stamped world request now (Argument.ReclaimComplete false) sound same = tabled_stamped world request 58 _ _
  run_stamped world request now operation sound same = stepped_stamped world request now operation sound same

  in_room_stamped : (world : World) (request : InProgress) (number : ℕ) (ran : HasRun) → RanStamped world request ran → RanStamped world request (in_room world request number ran)
  in_room_stamped world request number (Gives (Outcome.Refused of reason) after left) stamps = stamps
  in_room_stamped world request number (Gives (Outcome.Done answer) after left) stamps = either (has_room world request (Outcome.Done answer))
    where
      either : (b : Bool) → RanStamped world request (cond b (Gives (Outcome.Done answer) after left) (refuses world request number status.RepTooBig))
      either true = stamps
      either false = λ differs. absurd (differs refl)
  in_room_stamped world request number (Replays result session slot) stamps = tt

  abbrev EntryStamped : Option Entry → Type 0
  EntryStamped None = Unit {0}
  EntryStamped (Some entry) = GivesStamp run entry

  abbrev TurnStamped : Turned → Type 0
  TurnStamped turned = EntryStamped turned.executed

  either_stamped : (b : Bool) (x y : Turned) → TurnStamped x → TurnStamped y → TurnStamped (cond b x y)
  either_stamped true x y first second = first
  either_stamped false x y first second = second

  closes_stamped : (world : World) (number : ℕ) (request : InProgress) (last : Status) (executed : Option Entry)
      → EntryStamped executed → TurnStamped (closes world number request last executed)
  closes_stamped world number request last executed stamps =
      either_stamped (is_to_hold request world.table)
      (goes_on world number (record request { ended = Some last }) executed)
      (ends world number request last false executed) stamps stamps

  behind_stamped : (world : World) (number : ℕ) (request : InProgress) (outcome : Outcome) (executed : Option Entry)
      → EntryStamped executed → TurnStamped (behind world number request outcome executed)
  behind_stamped world number request (Outcome.Refused operation reason) executed stamps =
      closes_stamped world number (with_result request (Outcome.Refused operation reason)) reason executed stamps
  behind_stamped world number request (Outcome.Done answer) executed stamps =
      either_stamped (is_last request) (closes world number (with_result request (Outcome.Done answer)) status.Ok executed)
      (goes_on world number (with_result request (Outcome.Done answer)) executed)
      (closes_stamped world number (with_result request (Outcome.Done answer)) status.Ok executed stamps) stamps

  has_run_stamped : (world : World) (number : ℕ) (request : InProgress) (operation : Argument) (ran : HasRun) → request.context.run ≡ run
      → RanStamped world request ran → TurnStamped (has_run world number request operation ran)
  has_run_stamped world number request operation (Gives outcome after left) same stamps =
      behind_stamped after number (noting world after operation left) outcome (Some (executed_entry world request operation outcome after)) (record {
        own = same;
        given = λ differs. subst (λ (r : ℕ). IsStamped (next_stamp r world.changes) world.tree after.tree) same (stamps differs);
      })
  has_run_stamped world number request operation (Replays result session slot) same stamps = tt

  operates_stamped : (world : World) (number now : ℕ) (request : InProgress) (next : Next) → IsSoundWorld limits run world → request.context.run ≡ run
      → TurnStamped (operates world number now request next)
  operates_stamped world number now request (Refuses operation reason) sound same =
      behind_stamped world number request (Outcome.Refused operation reason) None tt
  operates_stamped world number now request (Reads operation rest) sound same =
      has_run_stamped world number (record request { rest = rest }) operation _ same
      (in_room_stamped world (record request { rest = rest }) (operation_of operation) _
      (run_stamped world (record request { rest = rest }) now operation sound same))

  further_stamped : (world : World) (number now : ℕ) (request : InProgress) (ended : Option Status) → IsSoundWorld limits run world → request.context.run ≡ run
      → TurnStamped (further world number now request ended)
  further_stamped world number now request None sound same = operates_stamped world number now request (next_operation request) sound same
  further_stamped world number now request (Some last) sound same = tt

  requested_stamped : (world : World) (number now xid : ℕ) (request : Request) → IsSoundWorld limits run world → TurnStamped (requested world number now xid request)
  requested_stamped world number now xid (Answers reply) sound = tt
  requested_stamped world number now xid (Runs cred compound) sound =
      operates_stamped world number now (in_progress world xid cred compound) (next_operation (in_progress world xid cred compound)) sound sound.run_is

  called_stamped : (world : World) (number now : ℕ) (call : CallRead) → IsSoundWorld limits run world → TurnStamped (called world number now call)
  called_stamped world number now NoCall sound = tt
  called_stamped world number now (OtherVersion xid) sound = tt
  called_stamped world number now (Calls call) sound = requested_stamped world number now call.xid (request_of call) sound

  turned_stamped : (world : World) (number now : ℕ) (connection : Option Connection) → at number world.connections ≡ connection → IsSoundWorld limits run world
      → TurnStamped (turned world number now connection)
  turned_stamped world number now None is sound = tt
  turned_stamped world number now (Some (Quiet bytes)) is sound = tt
  turned_stamped world number now (Some (Waiting request)) is sound = called_stamped world number now (read_call request) sound
  turned_stamped world number now (Some (Busy request)) is sound =
      further_stamped world number now request request.ended sound (sound.busy number request is)
  turned_stamped world number now (Some (Replied reply)) is sound = tt
  turned_stamped world number now (Some Closed) is sound = tt

  one_stamped : (world : World) (number now : ℕ) → IsSoundWorld limits run world → TurnStamped (one world number now)
  unfolding one
  one_stamped world number now sound = turned_stamped world number now (at number world.connections) refl sound

  event_stamped : (world : World) (event : Event) → IsSoundWorld limits run world → EntryStamped (executed_of world event)
  event_stamped world (Arrives connection piece) sound = tt
  event_stamped world (Turns connection now) sound = one_stamped world connection now sound
  event_stamped world (HangsUp connection) sound = tt
  event_stamped world (Connects connection) sound = tt
  event_stamped world (Takes connection) sound = tt

  -- Over a run

  abbrev AllStamped : List Entry → Type 0
  AllStamped done = (i : ℕ) (entry : Entry) → slice_get done i ≡ Some entry → GivesStamp run entry

  one_more : (done : List Entry) (entry : Entry) → AllStamped done → GivesStamp run entry → AllStamped (done ++ entry ∷ [])
  one_more done entry all stamps i other is = by_place (slice_get-last done entry i other is)
    where
      by_place : (slice_get done i ≡ Some other) ⊎ (other ≡ entry) → GivesStamp run other
      by_place (inl was) = all i other was
      by_place (inr last) = subst (GivesStamp run) (sym last) stamps

  with_executed : (done : List Entry) (executed : Option Entry) → AllStamped done → EntryStamped executed → AllStamped (done ++ option_to_list executed)
  with_executed done None all stamps = subst AllStamped (sym (append-nil done)) all
  with_executed done (Some entry) all stamps = one_more done entry all stamps

  module _ (start : Tree) (seats : Seats) (begins : IsStart limits.volume run start) where
    run_is_stamped : (serving : Serving) (history : RunHistory) → IsRun (mounted limits run start seats) serving history → AllStamped history.done
    run_is_stamped _ _ Begins = λ i entry is. let never : ⊥ = cc in absurd never
    run_is_stamped _ _ (Goes_on {old} {new} {history} event runs happens) =
        subst AllStamped (done_behind history old.world event)
        (with_executed history.done (executed_of old.world event) (run_is_stamped old history runs)
        (event_stamped old.world event (serving_sound limits run room start seats begins old history runs).world))
    run_is_stamped _ _ (Fails_at {old} {new} {history} event runs fails) =
        with_executed history.done (executed_of old.world event) (run_is_stamped old history runs)
        (event_stamped old.world event (serving_sound limits run room start seats begins old history runs).world)
    run_is_stamped _ _ (Stays_down {old} {new} {history} connection runs stays) =
        subst AllStamped (sym (taken_done history connection (reply_at old.world connection))) (run_is_stamped old history runs)
    run_is_stamped _ history (Flushed {old} {new} runs flushes) = run_is_stamped old history runs

  under_way : (world : World) (event : Event) (is_down : Bool) → IsSoundWorld limits run world → EntryStamped (executed_by world event is_down)
  under_way world event true sound = tt
  under_way world event false sound = event_stamped world event sound

pub every_stamp_is_given : EveryStampIsGiven
every_stamp_is_given limits run start seats serving history room begins runs event =
    with_executed limits run room history.done (executed_by serving.world event serving.is_down) (run_is_stamped limits run room start seats begins serving history runs)
    (under_way limits run room serving.world event serving.is_down (serving_sound limits run room start seats begins serving history runs).world)

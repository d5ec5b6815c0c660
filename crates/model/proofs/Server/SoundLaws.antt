-- Each tree that may be left is one that a later run may begin with.
use Rattle.std.proofs.Common.{ℕ, Bool, true, false, cond, List, [], ◌≡◌, ◌+◌, ◌^◌, ◌<◌, ◌≤◌, inl, inr, refl, sym, ap, ◌∙◌, subst, arith, find, Result, Ok, Err}
use Rattle.std.specs.Prelude.{Option, Some, None}
use Rattle.std.specs.List.{IsAmong}
use Rattle.std.proofs.lemmas.Bool.{cases_eq}
use Rattle.model_tree.specs.Seats.Seats.{Seats}
use Rattle.model_tree.specs.declared.status.Status.{Status}
use Rattle.model_tree.specs.declared.status.Status.TheVariants as status
use Rattle.model.specs.Operations.Answer.{Answer, Outcome, ExchangeIdAnswer, CreateSessionAnswer}
use Rattle.model_tree.specs.Trees.Keyed.{at, with, without}
use Rattle.model.specs.Sessions.Opens.{Opens}
use Rattle.model.specs.Sessions.OpensLaws.{AreOpens, EveryRunKeepsOpens}
use Rattle.model.proofs.Sessions.OpensSteps.{every_step_keeps, no_opens_are, clients_end}
use Rattle.model.specs.Operations.Operation.{Argument, SequenceArguments, operation_of}
use Rattle.model.specs.Wire.Record.{Prefix, Partial, Refused, Whole}
use Rattle.model.specs.Wire.Rpc.{CallRead, NoCall, OtherVersion, Calls, Request, Answers, Runs, Reply, read_call, request_of, is_call_read}
use Rattle.model.specs.Sessions.Session as sessions
use Rattle.model.specs.Sessions.Session.{Table, Session}
use Rattle.model.specs.Server.SoundRuns.{IsStart, EveryTreeIsSound}
use Rattle.model_tree.specs.Trees.Stamp.{next_stamp}
use Rattle.model.specs.Operations.Step.{does}
use Rattle.model.specs.Operations.StepLaws.{IsSound}
use Rattle.model_tree.specs.Trees.Tree.{Tree}
use Rattle.model_tree.specs.Trees.WellFormed.{IsWellFormed, IsBefore}
use Rattle.model.specs.Server.World.{in_room, refuses, has_room, World, ServerLimits, InProgress, Connection, Quiet, Waiting, Busy, Replied, Closed, HasRun, Gives, Replays, with_connection, with_table, exchanged, created_by, tabled, started_in, begun, reclaimed, stepped, state_of, run as runs_operation, Turned, Entry, executed_entry, replies, behind, ends, goes_on, with_result, is_last, has_run, operates, Next, Refuses, Reads, next_operation, requested, in_progress, called, turned, one, connection_changed, arrived, arrives, arrives_at, takes, without_reply, connects, can_connect, hangs_up, is_busy, without_connection, mounted_world, closes, is_to_hold, further, noting}
use Rattle.model.specs.Server.Runs.{Event, Arrives, Turns, HangsUp, Connects, Takes, effect_of, executed, Serving, RunHistory, IsRun, Begins, Goes_on, Fails_at, Stays_down, Flushed, Left, IsAfterEvent, MayBeLeft, mounted}
use Rattle.model_tree.proofs.Trees.FreshTree.{fresh_well_formed, fresh_before}
use Rattle.model_tree.proofs.Trees.KeyedLaws.{at-with_same, at-with_other, at-without_same, at-without_other, some≢none}
use Rattle.model_tree.proofs.Rights.LimitLaws.{modes_keep_limits, inheritance_keeps_limits}
use Rattle.model.proofs.Operations.StepProofs.{every_step, before_later}
use Rattle.model.proofs.Server.Headline.{only_one}

-- A world whose tree is sound, and whose requests all are of its run

pub record IsSoundWorld (limits : ServerLimits) (run : ℕ) (world : World) : Type 0 where
  pub limits_are : world.limits ≡ limits
  pub run_is : world.run ≡ run
  well_formed : IsWellFormed limits.volume world.tree
  before : IsBefore (next_stamp run world.changes) world.tree
  counted : world.changes < 2 ^ 32
  pub busy : (number : ℕ) (request : InProgress) → at number world.connections ≡ Some (Busy request) → request.context.run ≡ run
  opened : AreOpens limits.volume world.tree world.opens

module _ (limits : ServerLimits) (run : ℕ) (room : limits.volume.aces_set + 5 ≤ limits.volume.aces) where
  kept : (world : World) (table : Table) (opens : Opens) → AreOpens limits.volume world.tree opens → IsSoundWorld limits run world
      → IsSoundWorld limits run (record world { table = table; opens = opens })
  kept world table opens are sound = record {
    limits_are = sound.limits_are;
    run_is = sound.run_is;
    well_formed = sound.well_formed;
    before = sound.before;
    counted = sound.counted;
    busy = sound.busy;
    opened = are;
  }

  -- what a connection becomes has a request of this run, if it has one
  abbrev IsOfRun : Connection → Type 0
  IsOfRun connection = (request : InProgress) → connection ≡ Busy request → request.context.run ≡ run

  same_connection : (a b : Connection) → Some a ≡ Some b → a ≡ b
  same_connection a b same = cc

  connected : (world : World) (number : ℕ) (connection : Connection) → IsSoundWorld limits run world → IsOfRun connection
      → IsSoundWorld limits run (with_connection world number connection)
  connected world number connection sound of_run = record {
    limits_are = sound.limits_are;
    run_is = sound.run_is;
    well_formed = sound.well_formed;
    before = sound.before;
    counted = sound.counted;
    busy = λ other request is. elim (cases_eq other number) [
      | inl one ↦ of_run request (same_connection connection (Busy request)
          (sym (at-with_same world.connections number connection)
          ∙ (sym (ap (λ n. at n (with world.connections number connection)) one) ∙ is)))
      | inr apart ↦ sound.busy other request (sym (at-with_other world.connections number other connection apart) ∙ is)
    ];
    opened = sound.opened;
  }

  disconnected : (world : World) (number : ℕ) → IsSoundWorld limits run world → IsSoundWorld limits run (without_connection world number)
  disconnected world number sound = record {
    limits_are = sound.limits_are;
    run_is = sound.run_is;
    well_formed = sound.well_formed;
    before = sound.before;
    counted = sound.counted;
    busy = λ other request is. elim (cases_eq other number) [
      | inl one ↦ absurd (some≢none (Busy request)
          (sym is ∙ (ap (λ n. at n (without world.connections number)) one ∙ at-without_same world.connections number)))
      | inr apart ↦ sound.busy other request (sym (at-without_other world.connections number other apart) ∙ is)
    ];
    opened = sound.opened;
  }

  -- One operation

  SoundRan : HasRun → Type 0
  SoundRan (Gives outcome after left) = IsSoundWorld limits run after × (left.context.run ≡ run)
  SoundRan (Replays result session slot) = Unit {0}

  module _ (world : World) (request : InProgress) (sound : IsSoundWorld limits run world) (same : request.context.run ≡ run) where
    exchanged_sound : (outcome : Result ExchangeIdAnswer Status × Table) → SoundRan (exchanged world request outcome)
    unfolding SoundRan
    exchanged_sound (Err reason, table) = (kept world table world.opens sound.opened sound, same)
    exchanged_sound (Ok answer, table) = (kept world table world.opens sound.opened sound, same)

    created_by_sound : (outcome : sessions.CreateSessionOutcome) (answer : Result CreateSessionAnswer Status)
        → SoundRan (created_by world request outcome answer)
    unfolding SoundRan
    created_by_sound outcome (Err reason) = (sound, same)
    created_by_sound outcome (Ok answer) =
        (kept world outcome.table _ (clients_end limits.volume world.tree world.opens outcome.ended_clients sound.opened) sound, same)

    tabled_sound : (number : ℕ) (answer : Answer) (outcome : Option Status × Table) → SoundRan (tabled world request number answer outcome)
    unfolding SoundRan
    tabled_sound number answer (Some reason, table) = (kept world table world.opens sound.opened sound, same)
    tabled_sound number answer (None, table) = (kept world table world.opens sound.opened sound, same)

    started_in_sound : (arguments : SequenceArguments) (known : Option Session) → SoundRan (started_in world request arguments known)
    unfolding SoundRan
    started_in_sound arguments None = (sound, same)
    started_in_sound arguments (Some session) = (kept world _ world.opens sound.opened sound, same)

    begun_sound : (arguments : SequenceArguments) (begin : sessions.Begun) → SoundRan (begun world request arguments begin)
    unfolding SoundRan
    begun_sound arguments (sessions.Refuses reason) = (sound, same)
    begun_sound arguments (sessions.Replays reply) = tt
    begun_sound arguments sessions.Runs =
        started_in_sound arguments (find (sessions.is_session arguments.session) world.table.sessions)

    reclaimed_sound : (refusal : Option Status) → SoundRan (reclaimed world request refusal)
    unfolding SoundRan
    reclaimed_sound None = (sound, same)
    reclaimed_sound (Some reason) = (sound, same)

    pub state_sound : IsSound limits.volume (state_of world request)
    state_sound = record {
      well_formed = sound.well_formed;
      before = subst (λ r. IsBefore (next_stamp r world.changes) world.tree) (sym same) sound.before;
      counted = sound.counted;
      room_for_mode = room;
    }

    stepped_sound : (now : ℕ) (operation : Argument)
        → SoundRan (stepped world request (does world.limits.volume (state_of world request) now operation))
    unfolding SoundRan
    stepped_sound now operation =
        let law = every_step modes_keep_limits inheritance_keeps_limits world.limits.volume
        (state_of world request) now operation in
        let before : IsSound world.limits.volume (state_of world request)
        = subst (λ (l : ServerLimits). IsSound l.volume (state_of world request)) (sym sound.limits_are) state_sound in
        let after = law.keeps_soundness before in
        let of_run = law.keeps_caller.2 ∙ same in (
          record {
            limits_are = sound.limits_are;
            run_is = sound.run_is;
            well_formed = subst (λ (l : ServerLimits). IsWellFormed l.volume
                (does world.limits.volume (state_of world request) now operation).state.tree) sound.limits_are after.well_formed;
            before = subst (λ r. IsBefore (next_stamp r
                (does world.limits.volume (state_of world request) now operation).state.changes)
                (does world.limits.volume (state_of world request) now operation).state.tree) of_run after.before;
            counted = after.counted;
            busy = sound.busy;
            opened = subst (λ (l : ServerLimits). AreOpens l.volume
                (does world.limits.volume (state_of world request) now operation).state.tree
                (does world.limits.volume (state_of world request) now operation).state.opens) sound.limits_are
                (every_step_keeps modes_keep_limits inheritance_keeps_limits world.limits.volume (state_of world request) now operation before
                (subst (λ (l : ServerLimits). AreOpens l.volume world.tree world.opens) (sym sound.limits_are) sound.opened)).opens;
          },
          of_run,
        )

    run_sound : (now : ℕ) (operation : Argument) → SoundRan (runs_operation world request now operation)
    unfolding runs_operation
    run_sound now (Argument.ExchangeId arguments) = exchanged_sound _
    run_sound now (Argument.CreateSession arguments) =
        created_by_sound (sessions.create_session world.limits.sessions request.context.cred.uid arguments world.table) _
    run_sound now (Argument.DestroySession id) = tabled_sound 44 _ _
    run_sound now (Argument.DestroyClientId client) = tabled_sound 57 _ _
    run_sound now (Argument.Sequence arguments) = begun_sound arguments _
    run_sound now (Argument.ReclaimComplete true) = reclaimed_sound _
    run_sound now (Argument.ReclaimComplete false) = tabled_sound 58 _ _
    run_sound now operation = stepped_sound now operation

  -- the last test of all
  in_room_sound : (world : World) (request : InProgress) (operation : ℕ) (ran : HasRun) → IsSoundWorld limits run world
      → request.context.run ≡ run → SoundRan ran → SoundRan (in_room world request operation ran)
  unfolding SoundRan
  in_room_sound world request operation (Gives (Outcome.Refused number reason) after left) sound same ran = ran
  in_room_sound world request operation (Gives (Outcome.Done answer) after left) sound same ran = either (has_room world request (Outcome.Done answer)) ran
    where
      either : (b : Bool) → IsSoundWorld limits run after × (left.context.run ≡ run)
          → SoundRan (cond b (Gives (Outcome.Done answer) after left) (refuses world request operation status.RepTooBig))
      either true ran = ran
      either false ran = (sound, same)
  in_room_sound world request operation (Replays result session slot) sound same ran = tt

  -- One turn

  SoundTurned : Turned → Type 0
  SoundTurned turned = IsSoundWorld limits run turned.world

  no_request : (reply : List ℕ) (request : InProgress) → Replied reply ≡ Busy request → request.context.run ≡ run
  no_request reply request is = absurd (cc)

  ends_sound : (world : World) (number : ℕ) (request : InProgress) (last : Status) (holds : Bool) (executed : Option Entry) → IsSoundWorld limits run world
      → SoundTurned (ends world number request last holds executed)
  unfolding SoundTurned
  ends_sound world number request last holds executed sound =
      connected (with_table world _) number (Replied _) (kept world _ world.opens sound.opened sound) (no_request _)

  goes_on_sound : (world : World) (number : ℕ) (request : InProgress) (executed : Option Entry) → IsSoundWorld limits run world
      → request.context.run ≡ run → SoundTurned (goes_on world number request executed)
  unfolding SoundTurned
  goes_on_sound world number request executed sound same =
      connected world number (Busy request) sound (λ other is. let equal : request ≡ other = cc in ap (λ (r : InProgress). r.context.run) (sym equal) ∙ same)

  either_sound : (b : Bool) (x y : Turned) → SoundTurned x → SoundTurned y → SoundTurned (cond b x y)
  either_sound true x y first second = first
  either_sound false x y first second = second

  closes_sound : (world : World) (number : ℕ) (request : InProgress) (last : Status) (executed : Option Entry) → IsSoundWorld limits run world
      → request.context.run ≡ run → SoundTurned (closes world number request last executed)
  closes_sound world number request last executed sound same =
      either_sound (is_to_hold request world.table) (goes_on world number (record request { ended = Some last }) executed)
      (ends world number request last false executed)
      (goes_on_sound world number (record request { ended = Some last }) executed sound same)
      (ends_sound world number request last false executed sound)

  behind_sound : (world : World) (number : ℕ) (request : InProgress) (outcome : Outcome) (executed : Option Entry) → IsSoundWorld limits run world
      → request.context.run ≡ run → SoundTurned (behind world number request outcome executed)
  behind_sound world number request (Outcome.Refused operation reason) executed sound same =
      closes_sound world number (with_result request (Outcome.Refused operation reason)) reason executed sound same
  behind_sound world number request (Outcome.Done answer) executed sound same =
      either_sound (is_last request) (closes world number (with_result request (Outcome.Done answer)) status.Ok executed)
      (goes_on world number (with_result request (Outcome.Done answer)) executed)
      (closes_sound world number (with_result request (Outcome.Done answer)) status.Ok executed sound same)
      (goes_on_sound world number (with_result request (Outcome.Done answer)) executed sound same)

  has_run_sound : (world : World) (number : ℕ) (request : InProgress) (operation : Argument) (ran : HasRun) → IsSoundWorld limits run world
      → SoundRan ran → SoundTurned (has_run world number request operation ran)
  unfolding SoundRan SoundTurned
  has_run_sound world number request operation (Gives outcome after left) sound ran =
      behind_sound after number (noting world after operation left) outcome (Some (executed_entry world request operation outcome after)) ran.0 ran.1
  has_run_sound world number request operation (Replays result session slot) sound ran = connected world number (Replied _) sound (no_request _)

  operates_sound : (world : World) (number now : ℕ) (request : InProgress) (next : Next) → IsSoundWorld limits run world
      → request.context.run ≡ run → SoundTurned (operates world number now request next)
  operates_sound world number now request (Refuses operation reason) sound same =
      behind_sound world number request (Outcome.Refused operation reason) None sound same
  operates_sound world number now request (Reads operation rest) sound same =
      has_run_sound world number (record request { rest = rest }) operation _ sound
      (in_room_sound world (record request { rest = rest }) (operation_of operation) _ sound same
      (run_sound world (record request { rest = rest }) sound same now operation))

  replies_sound : (world : World) (number xid : ℕ) (reply : Reply) → IsSoundWorld limits run world → SoundTurned (replies world number xid reply)
  unfolding SoundTurned
  replies_sound world number xid reply sound = connected world number (Replied _) sound (no_request _)

  requested_sound : (world : World) (number now xid : ℕ) (request : Request) → IsSoundWorld limits run world
      → SoundTurned (requested world number now xid request)
  requested_sound world number now xid (Answers reply) sound = replies_sound world number xid reply sound
  requested_sound world number now xid (Runs cred compound) sound =
      operates_sound world number now (in_progress world xid cred compound) (next_operation (in_progress world xid cred compound)) sound sound.run_is

  called_sound : (world : World) (number now : ℕ) (call : CallRead) → IsSoundWorld limits run world → SoundTurned (called world number now call)
  unfolding SoundTurned
  called_sound world number now NoCall sound = sound
  called_sound world number now (OtherVersion xid) sound = replies_sound world number xid _ sound
  called_sound world number now (Calls call) sound = requested_sound world number now call.xid (request_of call) sound

  further_sound : (world : World) (number now : ℕ) (request : InProgress) (ended : Option Status) → IsSoundWorld limits run world
      → request.context.run ≡ run → SoundTurned (further world number now request ended)
  further_sound world number now request None sound same = operates_sound world number now request (next_operation request) sound same
  further_sound world number now request (Some last) sound same = ends_sound world number request last true None sound

  turned_sound : (world : World) (number now : ℕ) (connection : Option Connection) → at number world.connections ≡ connection
      → IsSoundWorld limits run world → SoundTurned (turned world number now connection)
  unfolding SoundTurned
  turned_sound world number now None is sound = sound
  turned_sound world number now (Some (Quiet bytes)) is sound = sound
  turned_sound world number now (Some (Waiting request)) is sound = called_sound world number now (read_call request) sound
  turned_sound world number now (Some (Busy request)) is sound =
      further_sound world number now request request.ended sound (sound.busy number request is)
  turned_sound world number now (Some (Replied reply)) is sound = sound
  turned_sound world number now (Some Closed) is sound = sound

  one_sound : (world : World) (number now : ℕ) → IsSoundWorld limits run world → IsSoundWorld limits run (one world number now).world
  unfolding one SoundTurned
  one_sound world number now sound = turned_sound world number now (at number world.connections) refl sound

  -- Each event

  changed_sound : (world : World) (number : ℕ) (change : Connection → Connection) (connection : Option Connection)
      → at number world.connections ≡ connection → ((old : Connection) → IsOfRun old → IsOfRun (change old))
      → IsSoundWorld limits run world → IsSoundWorld limits run (connection_changed world number change connection)
  changed_sound world number change None is keeps sound = sound
  changed_sound world number change (Some connection) is keeps sound =
      connected world number (change connection) sound
      (keeps connection (λ request equal. sound.busy number request (is ∙ ap (λ c. Some c) equal)))

  arrived_of_run : (bytes : List ℕ) (prefix : Prefix) → IsOfRun (arrived bytes prefix)
  arrived_of_run bytes Partial request is = absurd (cc)
  arrived_of_run bytes (Refused fault) request is = absurd (cc)
  arrived_of_run bytes (Whole text rest) request is = waits (is_call_read (read_call text)) text request is
    where
      waits : (b : Bool) (text : List ℕ) (request : InProgress) → cond b (Waiting text) Closed ≡ Busy request → request.context.run ≡ run
      waits true text request is = absurd (cc)
      waits false text request is = absurd (cc)

  arrives_of_run : (world : World) (piece : List ℕ) (old : Connection) → IsOfRun old → IsOfRun (arrives_at world.limits.records piece old)
  arrives_of_run world piece (Quiet bytes) of_run = arrived_of_run _ _
  arrives_of_run world piece (Waiting request) of_run = of_run
  arrives_of_run world piece (Busy request) of_run = of_run
  arrives_of_run world piece (Replied reply) of_run = of_run
  arrives_of_run world piece Closed of_run = of_run

  taken_of_run : (old : Connection) → IsOfRun old → IsOfRun (without_reply old)
  taken_of_run (Replied reply) of_run request is = absurd (cc)
  taken_of_run (Quiet bytes) of_run request is = of_run request is
  taken_of_run (Waiting text) of_run request is = of_run request is
  taken_of_run (Busy begun) of_run request is = of_run request is
  taken_of_run Closed of_run request is = of_run request is

  quiet_of_run : IsOfRun (Quiet [])
  quiet_of_run request is = absurd (cc)

  choice_sound : (b : Bool) (x y : World) → IsSoundWorld limits run x → IsSoundWorld limits run y → IsSoundWorld limits run (cond b x y)
  choice_sound true x y first second = first
  choice_sound false x y first second = second

  takes_sound : (world : World) (number : ℕ) → IsSoundWorld limits run world → IsSoundWorld limits run (takes world number)
  unfolding takes
  takes_sound world number sound = changed_sound world number without_reply (at number world.connections) refl taken_of_run sound

  arrives_sound : (world : World) (number : ℕ) (piece : List ℕ) → IsSoundWorld limits run world → IsSoundWorld limits run (arrives world number piece)
  unfolding arrives
  arrives_sound world number piece sound =
      changed_sound world number (arrives_at world.limits.records piece) (at number world.connections) refl (arrives_of_run world piece) sound

  connects_sound : (world : World) (number : ℕ) → IsSoundWorld limits run world → IsSoundWorld limits run (connects world number)
  unfolding connects
  connects_sound world number sound = choice_sound (can_connect world number) _ _ (connected world number (Quiet []) sound quiet_of_run) sound

  hangs_up_sound : (world : World) (number : ℕ) → IsSoundWorld limits run world → IsSoundWorld limits run (hangs_up world number)
  unfolding hangs_up
  hangs_up_sound world number sound = choice_sound (is_busy (at number world.connections)) _ _ sound (disconnected world number sound)

  event_sound : (world : World) (event : Event) → IsSoundWorld limits run world → IsSoundWorld limits run (effect_of world event)
  event_sound world (Arrives connection piece) sound = arrives_sound world connection piece sound
  event_sound world (Turns connection now) sound = one_sound world connection now sound
  event_sound world (HangsUp connection) sound = hangs_up_sound world connection sound
  event_sound world (Connects connection) sound = connects_sound world connection sound
  event_sound world (Takes connection) sound = takes_sound world connection sound

  -- The trees that may be left

  pub IsLeft : Tree → Type 0
  IsLeft tree = IsWellFormed limits.volume tree × IsBefore (next_stamp (run + 1) 0) tree

  left_of : (world : World) → IsSoundWorld limits run world → IsLeft world.tree
  unfolding IsLeft
  left_of world sound =
      let counted : world.changes < 2 ^ 32 = sound.counted in
      (sound.well_formed, before_later (next_stamp run world.changes) (next_stamp (run + 1) 0) world.tree sound.before (omega arith))

  left_by_event : (world : World) (event : Event) (is_down : Bool) (left : Left) → IsSoundWorld limits run world
      → IsAfterEvent world event is_down left → IsLeft left.tree
  left_by_event world event true left sound after = absurd after
  left_by_event world event false left sound after =
      subst IsLeft (sym (ap (λ (l : Left). l.tree) after)) (left_of (effect_of world event) (event_sound world event sound))

  pub record IsSoundServing (serving : Serving) : Type 0 where
    pub world : IsSoundWorld limits run serving.world
    left : (left : Left) → IsAmong serving.left left → IsLeft left.tree

  may_leave : (serving : Serving) (event : Event) (left : Left) → IsSoundServing serving → MayBeLeft serving event left → IsLeft left.tree
  may_leave serving event left sound (inl among) = sound.left left among
  may_leave serving event left sound (inr after) = left_by_event serving.world event serving.is_down left sound.world after

  module _ (start : Tree) (seats : Seats) (begins : IsStart limits.volume run start) where
    mounted_sound : IsSoundWorld limits run (mounted_world limits run start seats)
    mounted_sound = record {
      limits_are = refl;
      run_is = refl;
      well_formed = begins.well_formed;
      before = begins.before;
      counted = omega arith;
      busy = λ number request is. absurd (some≢none (Busy request) (sym is));
      opened = no_opens_are limits.volume start;
    }

    pub serving_sound : (serving : Serving) (history : RunHistory) → IsRun (mounted limits run start seats) serving history → IsSoundServing serving
    serving_sound _ _ Begins = record {
      world = mounted_sound;
      left = λ left among.
          subst IsLeft (sym (ap (λ (l : Left). l.tree) (only_one (record { tree = start; seats = seats }) left among)))
          (left_of (mounted_world limits run start seats) mounted_sound);
    }
    serving_sound _ _ (Goes_on {old} {new} {history} event runs happens) =
        let before = serving_sound old history runs in
        record {
          world = subst (IsSoundWorld limits run) (sym happens.world) (event_sound old.world event before.world);
          left = λ left among. may_leave old event left before (happens.no_others left among);
        }
    serving_sound _ _ (Fails_at {old} {new} {history} event runs fails) =
        let before = serving_sound old history runs in
        record {
          world = subst (IsSoundWorld limits run) (sym fails.world) before.world;
          left = λ left among. may_leave old event left before (fails.no_others left among);
        }
    serving_sound _ _ (Stays_down {old} {new} {history} connection runs stays) =
        let before = serving_sound old history runs in
        record {
          world = subst (IsSoundWorld limits run) (sym stays.world) (takes_sound old.world connection before.world);
          left = λ left among. before.left left (stays.no_others left among);
        }
    serving_sound _ history (Flushed {old} {new} runs flushes) =
        let before = serving_sound old history runs in
        record {
          world = subst (IsSoundWorld limits run) (sym flushes.world) before.world;
          left = λ left among. subst IsLeft (sym (ap (λ (l : Left). l.tree) (flushes.newest left among))) (left_of old.world before.world);
        }

  later_start : (tree : Tree) → IsLeft tree → (next : ℕ) → run < next → IsStart limits.volume next tree
  unfolding IsLeft
  later_start tree left next after = record {
    well_formed = left.0;
    before = before_later (next_stamp (run + 1) 0) (next_stamp next 0) tree left.1 (omega arith);
  }

pub every_tree : (limits : ServerLimits) → EveryTreeIsSound limits
every_tree limits = record {
  first = λ run above nodes room.
      let aces : 1 ≤ limits.volume.aces = omega arith in
      let stamp_above : 1 < next_stamp run 0 = omega arith in
      record { well_formed = fresh_well_formed limits.volume nodes aces; before = fresh_before (next_stamp run 0) stamp_above };
  later = λ run start seats serving history room begins runs event tree leaves next after.
      later_start limits run room tree
      (may_leave limits run room serving event (record { tree = tree; seats = leaves.0 }) (serving_sound limits run room start seats begins serving history runs) leaves.1) next after;
}

-- the opens are so at each moment
pub every_run_keeps_opens : EveryRunKeepsOpens
every_run_keeps_opens limits run start seats serving history room begins runs =
    (serving_sound limits run room start seats begins serving history runs).world.opened

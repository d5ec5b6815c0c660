-- Each outcome is under its operation's number, and a turn leaves the other connections.
use Rattle.std.proofs.Common.{◌≡◌, ◌≢◌, ℕ, inl, inr, Bool, true, false, cond, find, Option, None, Some, Result, Ok, Err, refl, sym, ap, ◌∙◌}
use Rattle.model_tree.specs.declared.limits.Limits.{Limits}
use Rattle.model_tree.specs.declared.status.Status.{Status}
use Rattle.model_tree.specs.declared.status.Status.TheVariants as status
use Rattle.model.specs.Operations.Answer.{Answer, Outcome, ExchangeIdAnswer, CreateSessionAnswer}
use Rattle.model.specs.Operations.Context.{is_same_name}
use Rattle.model.specs.Operations.Files.{has_bytes, write}
use Rattle.model_tree.specs.Trees.Keyed.{at, with}
use Rattle.model.specs.Operations.Operation.{Argument, NewDirectory, OtherType, RenameArguments, SequenceArguments, SetAttrArguments, WriteArguments, operation_of}
use Rattle.model.specs.Wire.Record.{framed}
use Rattle.model_tree.specs.Refusals.Refusal.{first_refusal}
use Rattle.model.specs.Operations.Rename.{rename}
use Rattle.model.specs.Wire.Rpc.{CallRead, NoCall, OtherVersion, Calls, VersionRefused, Request, Answers, Runs, Reply, Success, read_call, request_of, reply_text}
use Rattle.model.specs.Sessions.Session as sessions
use Rattle.model.specs.Sessions.Session.{Table, Session, begin, is_session}
use Rattle.model.specs.Operations.SetAttr.{sets, set_attributes}
use Rattle.model.specs.Operations.State.{current_refusals}
use Rattle.model.specs.Sessions.StateIds.{has_opens}
use Rattle.model.specs.Operations.Step.{State, Stepped, effect, does}
use Rattle.model.specs.Server.World.{World, InProgress, Connection, Quiet, Waiting, Busy, Replied, Closed, HasRun, Gives, Replays, exchanged, created_by, tabled, started_in, begun, reclaimed, state_of, refuses, in_room, has_room, run, result_of, with_result, Turned, Entry, executed_entry, idle, replies, behind, ends, goes_on, closes, is_to_hold, further, is_last, has_run, operates, Next, Refuses, Reads, next_operation, requested, in_progress, called, turned, one, noting}
use Rattle.model_tree.proofs.Trees.KeyedLaws.{at-with_other}
use Rattle.model.proofs.Operations.StepCases.{does_cases}
use Rattle.client.specs.Replies.{outcome_number}

-- One operation

module _ (limits : Limits) (state : State) (now : ℕ) where
  renamed : (b : Bool) (arguments : RenameArguments) → outcome_number (rename b state now arguments).outcome ≡ 29
  renamed true arguments = refl
  renamed false arguments = refl

  set : (b : Bool) (arguments : SetAttrArguments) → outcome_number (set_attributes b state now arguments).outcome ≡ 34
  set true arguments = refl
  set false arguments = refl

  wrote : (b : Bool) (arguments : WriteArguments) → outcome_number (write b limits state now arguments).outcome ≡ 38
  wrote true arguments = refl
  wrote false arguments = refl

  effect_numbered : (operation : Argument) → outcome_number (effect limits state now operation).outcome ≡ operation_of operation
  unfolding effect
  effect_numbered (Argument.Create (NewDirectory name given)) = refl
  effect_numbered (Argument.Create (OtherType number)) = refl
  effect_numbered (Argument.Rename arguments) = renamed (is_same_name state.context arguments) arguments
  effect_numbered (Argument.SetAttr arguments) = set (sets arguments) arguments
  effect_numbered (Argument.Write arguments) = wrote (has_bytes arguments) arguments
  effect_numbered operation = refl

  does_numbered : (operation : Argument) → outcome_number (does limits state now operation).outcome ≡ operation_of operation
  does_numbered operation = elim (does_cases limits state now operation) [
    | inl passed ↦ ap (λ (s : Stepped). outcome_number s.outcome) passed.1 ∙ effect_numbered operation
    | inr not_passed ↦ ap (λ (s : Stepped). outcome_number s.outcome) not_passed.1
  ]

-- the outcome is the operation's, and the connections stay
abbrev RanWell : World → Argument → HasRun → Type 0
RanWell world operation (Gives outcome after left) =
    (outcome_number outcome ≡ operation_of operation) × (after.connections ≡ world.connections)
RanWell world operation (Replays result session slot) = Unit {0}

module _ (world : World) (request : InProgress) where
  exchanged_well : (operation : Argument) → operation_of operation ≡ 42 → (r : Result ExchangeIdAnswer Status × Table) → RanWell world operation (exchanged world request r)
  exchanged_well operation is (Err reason, table) = (sym is, refl)
  exchanged_well operation is (Ok answer, table) = (sym is, refl)

  created_well : (operation : Argument) → operation_of operation ≡ 43 → (o : sessions.CreateSessionOutcome) (answer : Result CreateSessionAnswer Status)
      → RanWell world operation (created_by world request o answer)
  created_well operation is o (Err reason) = (sym is, refl)
  created_well operation is o (Ok answer) = (sym is, refl)

  tabled_well : (operation : Argument) (number : ℕ) (answer : Answer) → number ≡ operation_of operation → outcome_number (Outcome.Done answer) ≡ operation_of operation
      → (r : Option Status × Table) → RanWell world operation (tabled world request number answer r)
  tabled_well operation number answer is done (Some reason, table) = (is, refl)
  tabled_well operation number answer is done (None, table) = (done, refl)

  started_well : (arguments : SequenceArguments) (known : Option Session) → RanWell world (Argument.Sequence arguments) (started_in world request arguments known)
  started_well arguments None = (refl, refl)
  started_well arguments (Some session) = (refl, refl)

  begun_well : (arguments : SequenceArguments) (b : sessions.Begun) → RanWell world (Argument.Sequence arguments) (begun world request arguments b)
  begun_well arguments (sessions.Refuses reason) = (refl, refl)
  begun_well arguments (sessions.Replays reply) = tt
  begun_well arguments sessions.Runs = started_well arguments (find (is_session arguments.session) world.table.sessions)

  reclaimed_well : (one_fs : Bool) (refusal : Option Status) → RanWell world (Argument.ReclaimComplete one_fs) (reclaimed world request refusal)
  reclaimed_well one_fs None = (refl, refl)
  reclaimed_well one_fs (Some reason) = (refl, refl)

  run_well : (now : ℕ) (operation : Argument) → RanWell world operation (run world request now operation)
  unfolding run
  run_well now (Argument.ExchangeId arguments) =
      exchanged_well (Argument.ExchangeId arguments) refl (sessions.exchange_id world.limits.sessions (has_opens world.opens) request.context.cred.uid arguments world.table)
  run_well now (Argument.CreateSession arguments) =
      created_well (Argument.CreateSession arguments) refl (sessions.create_session world.limits.sessions request.context.cred.uid arguments world.table) _
  run_well now (Argument.DestroySession id) = tabled_well (Argument.DestroySession id) 44 Answer.DestroySession refl refl (sessions.destroy_session id world.table)
  run_well now (Argument.DestroyClientId client) =
      tabled_well (Argument.DestroyClientId client) 57 Answer.DestroyClientId refl refl (sessions.destroy_client_id (has_opens world.opens) client world.table)
  run_well now (Argument.Sequence arguments) = begun_well arguments (begin request.context.cred.uid request.count arguments world.table)
  run_well now (Argument.ReclaimComplete true) = reclaimed_well true (first_refusal (current_refusals (state_of world request)))
  run_well now (Argument.ReclaimComplete false) =
      tabled_well (Argument.ReclaimComplete false) 58 Answer.ReclaimComplete refl refl (sessions.reclaim_complete request.context.client world.table)
  run_well now operation = (does_numbered world.limits.volume (state_of world request) now operation, refl)

  in_room_well : (operation : Argument) (ran : HasRun) → RanWell world operation ran → RanWell world operation (in_room world request (operation_of operation) ran)
  in_room_well operation (Gives (Outcome.Refused number reason) after left) well = well
  in_room_well operation (Gives (Outcome.Done answer) after left) well = by_room (has_room world request (Outcome.Done answer))
    where
      by_room : (b : Bool) → RanWell world operation (cond b (Gives (Outcome.Done answer) after left) (refuses world request (operation_of operation) status.RepTooBig))
      by_room true = well
      by_room false = (refl, refl)
  in_room_well operation (Replays result session slot) well = tt

-- One turn

abbrev pub EntryNumbered : Option Entry → Type 0
EntryNumbered None = Unit {0}
EntryNumbered (Some entry) = outcome_number entry.outcome ≡ operation_of entry.operation

abbrev pub LeavesOthers : World → ℕ → World → Type 0
LeavesOthers old number new = (other : ℕ) → other ≢ number → at other new.connections ≡ at other old.connections

pub record TurnWell (old : World) (number : ℕ) (turned : Turned) : Type 0 where
  pub numbered : EntryNumbered turned.executed
  pub others : LeavesOthers old number turned.world

module _ (old : World) (number : ℕ) where
  others_left : (world : World) (new : Connection) (after : World) → world.connections ≡ old.connections → after.connections ≡ with world.connections number new
      → LeavesOthers old number after
  others_left world new after same are other apart = ap (at other) are ∙ (at-with_other world.connections number other new apart ∙ ap (at other) same)

  idle_well : TurnWell old number (idle old)
  idle_well = record { numbered = tt; others = λ other apart. refl }

  replies_well : (xid : ℕ) (reply : Reply) → TurnWell old number (replies old number xid reply)
  replies_well xid reply = record {
    numbered = tt;
    others = others_left old (Replied (framed (reply_text xid reply))) (replies old number xid reply).world refl refl;
  }

  module _ (world : World) (same : world.connections ≡ old.connections) (executed : Option Entry) (numbered : EntryNumbered executed) where
    ends_well : (request : InProgress) (last : Status) (holds : Bool) → TurnWell old number (ends world number request last holds executed)
    ends_well request last holds = record {
      numbered = numbered;
      others = others_left world (Replied (framed (reply_text request.xid (Success (result_of request last))))) (ends world number request last holds executed).world same refl;
    }

    goes_well : (request : InProgress) → TurnWell old number (goes_on world number request executed)
    goes_well request = record {
      numbered = numbered;
      others = others_left world (Busy request) (goes_on world number request executed).world same refl;
    }

    either_well : (b : Bool) (x y : Turned) → TurnWell old number x → TurnWell old number y → TurnWell old number (cond b x y)
    either_well true x y first second = first
    either_well false x y first second = second

    closes_well : (request : InProgress) (last : Status) → TurnWell old number (closes world number request last executed)
    closes_well request last =
        either_well (is_to_hold request world.table) _ _ (goes_well (record request { ended = Some last })) (ends_well request last false)

    behind_well : (request : InProgress) (outcome : Outcome) → TurnWell old number (behind world number request outcome executed)
    behind_well request (Outcome.Refused operation reason) = closes_well (with_result request (Outcome.Refused operation reason)) reason
    behind_well request (Outcome.Done answer) =
        either_well (is_last request) _ _ (closes_well (with_result request (Outcome.Done answer)) status.Ok) (goes_well (with_result request (Outcome.Done answer)))

  has_run_well : (request : InProgress) (operation : Argument) (ran : HasRun) → RanWell old operation ran → TurnWell old number (has_run old number request operation ran)
  has_run_well request operation (Gives outcome after left) well =
      behind_well after well.1 (Some (executed_entry old request operation outcome after)) well.0 (noting old after operation left) outcome
  has_run_well request operation (Replays result session slot) well = record {
    numbered = tt;
    others = others_left old (Replied (framed (reply_text request.xid (Success result))))
        (has_run old number request operation (Replays result session slot)).world refl refl;
  }

  operates_well : (now : ℕ) (request : InProgress) (next : Next) → TurnWell old number (operates old number now request next)
  operates_well now request (Refuses operation reason) = behind_well old refl None tt request (Outcome.Refused operation reason)
  operates_well now request (Reads operation rest) =
      has_run_well (record request { rest = rest }) operation _
      (in_room_well old (record request { rest = rest }) operation _ (run_well old (record request { rest = rest }) now operation))

  requested_well : (now xid : ℕ) (request : Request) → TurnWell old number (requested old number now xid request)
  requested_well now xid (Answers reply) = replies_well xid reply
  requested_well now xid (Runs cred compound) = operates_well now (in_progress old xid cred compound) (next_operation (in_progress old xid cred compound))

  called_well : (now : ℕ) (call : CallRead) → TurnWell old number (called old number now call)
  called_well now NoCall = idle_well
  called_well now (OtherVersion xid) = replies_well xid VersionRefused
  called_well now (Calls call) = requested_well now call.xid (request_of call)

  further_well : (now : ℕ) (request : InProgress) (ended : Option Status) → TurnWell old number (further old number now request ended)
  further_well now request None = operates_well now request (next_operation request)
  further_well now request (Some last) = ends_well old refl None tt request last true

  turned_well : (now : ℕ) (connection : Option Connection) → TurnWell old number (turned old number now connection)
  turned_well now None = idle_well
  turned_well now (Some (Quiet bytes)) = idle_well
  turned_well now (Some (Waiting bytes)) = called_well now (read_call bytes)
  turned_well now (Some (Busy request)) = further_well now request request.ended
  turned_well now (Some (Replied reply)) = idle_well
  turned_well now (Some Closed) = idle_well

  pub one_well : (now : ℕ) → TurnWell old number (one old number now)
  unfolding one
  one_well now = turned_well now (at number old.connections)

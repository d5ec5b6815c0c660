-- A connection stays until it is hung up.
use Rattle.std.proofs.Common.{◌≡◌, ◌≢◌, ℕ, inl, inr, Bool, true, false, not, if◌then◌else◌, List, [], ◌∷◌, ◌++◌, find, Option, None, Some, is_some, Result, Ok, Err, refl, sym, ap, subst, ◌∙◌}
use Rattle.std.proofs.lemmas.Bool.{cases_eq}
use Rattle.std.specs.Prelude.{◌&&◌, length, nat_lt}
use Rattle.model_tree.specs.declared.status.Status.{Status}
use Rattle.model_tree.specs.declared.status.Status.TheVariants as status
use Rattle.model_tree.specs.Refusals.Refusal.{first_refusal}
use Rattle.model_tree.specs.Trees.Keyed.{Keyed, at, is_key, with}
use Rattle.model_tree.proofs.Trees.KeyedLaws.{at-with_same, at-with_other, at-without_other}
use Rattle.model.specs.Operations.Answer.{Answer, Outcome, Done, Refused, ExchangeIdAnswer, CreateSessionAnswer}
use Rattle.model.specs.Operations.Operation.{Argument, SequenceArguments, operation_of}
use Rattle.model.specs.Operations.State.{current_refusals}
use Rattle.model.specs.Server.Runs.{Event, Arrives, Turns, HangsUp, Connects, Takes, effect_of}
use Rattle.model.specs.Server.World.{InProgress, Connection, Quiet, Busy, Replied, World, Entry, HasRun, Gives, Replays, Turned, exchanged, created_by, tabled, started_in, begun, reclaimed, state_of, run, with_result, result_of, behind, ends, goes_on, executed_entry, one, with_connection, without_connection, arrives, arrives_at, connection_changed, without_reply, takes, can_connect, connects, is_busy, hangs_up, is_last, closes, is_to_hold, noting}
use Rattle.model.specs.Sessions.Session as sessions
use Rattle.model.specs.Sessions.Session.{Session, Table, is_session, begin}
use Rattle.model.specs.Sessions.StateIds.{has_opens}
use Rattle.model.specs.Wire.Record.{framed}
use Rattle.model.specs.Wire.Rpc.{Success, reply_text}
use Rattle.model.proofs.Server.TurnCases.{read_of, IsTurn, Idles, Says, Unread, TooBig, Gave, Repeats, turn_is, Closes}
use Rattle.server.specs.Seen.{ServerCall, Did, Failed, world_after}
use Rattle.peer.specs.Steps.{AreOn}
use Rattle.peer.specs.Served.{IsThere}

choose : {A : Type 0} (P : A → Type 0) (b : Bool) (x y : A) → P x → P y → P (if b then x else y)
choose P true x y p q = p
choose P false x y p q = q

-- these have one of this number
abbrev IsIn : (number : ℕ) → Keyed Connection → Type 0
IsIn number connections = is_some (at number connections) ≡ true

put : (here number : ℕ) (connections : Keyed Connection) (new : Connection) → IsIn number connections → IsIn number (with connections here new)
put here number connections new there = elim (cases_eq number here) [
  | inl same ↦ ap is_some (ap (λ (n : ℕ). at n (with connections here new)) same ∙ at-with_same connections here new)
  | inr apart ↦ ap is_some (at-with_other connections here number new apart) ∙ there
]

-- What an operation leaves

abbrev Keeps : World → HasRun → Type 0
Keeps world (Gives outcome after left) = after.connections ≡ world.connections
Keeps world (Replays result session slot) = Unit {0}

module _ (world : World) (request : InProgress) where
  exchanged_keeps : (r : Result ExchangeIdAnswer Status × Table) → Keeps world (exchanged world request r)
  exchanged_keeps (Err reason, table) = refl
  exchanged_keeps (Ok answer, table) = refl

  created_keeps : (o : sessions.CreateSessionOutcome) (answer : Result CreateSessionAnswer Status) → Keeps world (created_by world request o answer)
  created_keeps o (Err reason) = refl
  created_keeps o (Ok answer) = refl

  tabled_keeps : (operation : ℕ) (answer : Answer) (r : Option Status × Table) → Keeps world (tabled world request operation answer r)
  tabled_keeps operation answer (Some reason, table) = refl
  tabled_keeps operation answer (None, table) = refl

  started_keeps : (arguments : SequenceArguments) (known : Option Session) → Keeps world (started_in world request arguments known)
  started_keeps arguments None = refl
  started_keeps arguments (Some session) = refl

  begun_keeps : (arguments : SequenceArguments) (b : sessions.Begun) → Keeps world (begun world request arguments b)
  begun_keeps arguments (sessions.Refuses reason) = refl
  begun_keeps arguments (sessions.Replays reply) = tt
  begun_keeps arguments sessions.Runs = started_keeps arguments (find (is_session arguments.session) world.table.sessions)

  reclaimed_keeps : (refusal : Option Status) → Keeps world (reclaimed world request refusal)
  reclaimed_keeps None = refl
  reclaimed_keeps (Some reason) = refl

  run_keeps : (now : ℕ) (operation : Argument) → Keeps world (run world request now operation)
  unfolding run
  run_keeps now (Argument.ExchangeId arguments) =
      exchanged_keeps (sessions.exchange_id world.limits.sessions (has_opens world.opens) request.context.cred.uid arguments world.table)
  run_keeps now (Argument.CreateSession arguments) =
      created_keeps (sessions.create_session world.limits.sessions request.context.cred.uid arguments world.table) _
  run_keeps now (Argument.DestroySession id) = tabled_keeps 44 Answer.DestroySession (sessions.destroy_session id world.table)
  run_keeps now (Argument.DestroyClientId client) =
      tabled_keeps 57 Answer.DestroyClientId (sessions.destroy_client_id (has_opens world.opens) client world.table)
  run_keeps now (Argument.Sequence arguments) = begun_keeps arguments (begin request.context.cred.uid request.count arguments world.table)
  run_keeps now (Argument.ReclaimComplete true) = reclaimed_keeps (first_refusal (current_refusals (state_of world request)))
  run_keeps now (Argument.ReclaimComplete false) = tabled_keeps 58 Answer.ReclaimComplete (sessions.reclaim_complete request.context.client world.table)
  run_keeps now operation = refl

-- A turn, and what holds of the connections whatever the one that has it becomes

module _ (world : World) (here : ℕ) (Has : Keyed Connection → Type 0) (puts : (connections : Keyed Connection) (new : Connection) → Has connections → Has (with connections here new))
    (there : Has world.connections) where
  module _ (after : World) (same : after.connections ≡ world.connections) (executed : Option Entry) where
    still : Has after.connections
    still = subst Has (sym same) there

    ended : (left : InProgress) (last : Status) (holds : Bool) → Has (ends after here left last holds executed).world.connections
    ended left last holds = puts after.connections (Replied (framed (reply_text left.xid (Success (result_of left last))))) still

    gone_on : (left : InProgress) → Has (goes_on after here left executed).world.connections
    gone_on left = puts after.connections (Busy left) still

    closed : (left : InProgress) (last : Status) → Has (closes after here left last executed).world.connections
    closed left last =
        choose (λ (t : Turned). Has t.world.connections) (is_to_hold left after.table)
        (goes_on after here (record left { ended = Some last }) executed) (ends after here left last false executed)
        (gone_on (record left { ended = Some last })) (ended left last false)

    went : (left : InProgress) (outcome : Outcome) → Has (behind after here left outcome executed).world.connections
    went left (Refused operation reason) = closed (with_result left (Refused operation reason)) reason
    went left (Done answer) =
        choose (λ (t : Turned). Has t.world.connections) (is_last left)
        (closes after here (with_result left (Done answer)) status.Ok executed) (goes_on after here (with_result left (Done answer)) executed)
        (closed (with_result left (Done answer)) status.Ok) (gone_on (with_result left (Done answer)))

  turned : (now : ℕ) (t : Turned) → IsTurn world here now t → Has t.world.connections
  turned now _ Idles = there
  turned now _ (Says bytes xid reply is) = puts world.connections (Replied (framed (reply_text xid reply))) there
  turned now _ (Closes request last is done) = ended world refl None request last true
  turned now _ (Unread request operation reason goes) = went world refl None request (Refused operation reason)
  turned now _ (TooBig request operation rest goes reads) =
      went world refl (Some (executed_entry world (read_of request rest) operation (Refused (operation_of operation) status.RepTooBig) world))
      (noting world world operation (read_of request rest)) (Refused (operation_of operation) status.RepTooBig)
  turned now _ (Gave request operation rest outcome after left goes reads is) =
      let same : Keeps world (Gives outcome after left) = subst (Keeps world) is (run_keeps world (read_of request rest) now operation) in
      went after same (Some (executed_entry world (read_of request rest) operation outcome after)) (noting world after operation left) outcome
  turned now _ (Repeats request operation rest result session slot goes reads is) =
      puts world.connections (Replied (framed (reply_text request.xid (Success result)))) there

  changed : (change : Connection → Connection) (connection : Option Connection) → Has (connection_changed world here change connection).connections
  changed change None = there
  changed change (Some connection) = puts world.connections (change connection) there

-- Each event except its hang-up

abbrev pub Spares : ℕ → Event → Type 0
Spares number (HangsUp connection) = number ≢ connection
Spares number event = Unit {0}

pub event_keeps : (world : World) (number : ℕ) (event : Event) → Spares number event → IsThere number world → IsThere number (effect_of world event)
unfolding arrives takes connects hangs_up
event_keeps world number (Arrives connection piece) spares there =
    changed world connection (IsIn number) (put connection number) there (arrives_at world.limits.records piece) (at connection world.connections)
event_keeps world number (Turns connection now) spares there =
    turned world connection (IsIn number) (put connection number) there now (one world connection now) (turn_is world connection now)
event_keeps world number (HangsUp connection) spares there =
    choose (IsThere number) (is_busy (at connection world.connections)) world (without_connection world connection) there
    (ap is_some (at-without_other world.connections connection number spares) ∙ there)
event_keeps world number (Connects connection) spares there =
    choose (IsThere number) (can_connect world connection) (with_connection world connection (Quiet [])) world
    (put connection number world.connections (Quiet []) there) there
event_keeps world number (Takes connection) spares there =
    changed world connection (IsIn number) (put connection number) there without_reply (at connection world.connections)

pub calls_keep : (moments : ℕ → Type 0) (start : World) (number connection : ℕ) (more calls : List ServerCall) → AreOn moments connection more
    → IsThere number (world_after start calls) → IsThere number (world_after start (more ++ calls))
calls_keep moments start number connection [] calls on there = there
calls_keep moments start number connection (Did (Arrives other piece) said ∷ more) calls on there =
    event_keeps (world_after start (more ++ calls)) number (Arrives other piece) tt (calls_keep moments start number connection more calls on.1 there)
calls_keep moments start number connection (Did (Turns other now) said ∷ more) calls on there =
    event_keeps (world_after start (more ++ calls)) number (Turns other now) tt (calls_keep moments start number connection more calls on.1 there)
calls_keep moments start number connection (Did (Takes other) said ∷ more) calls on there =
    event_keeps (world_after start (more ++ calls)) number (Takes other) tt (calls_keep moments start number connection more calls on.1 there)
calls_keep moments start number connection (Did (HangsUp other) said ∷ more) calls on there = absurd on.0
calls_keep moments start number connection (Did (Connects other) said ∷ more) calls on there = absurd on.0
calls_keep moments start number connection (Failed event ∷ more) calls on there = absurd on.0

-- Each event of another connection leaves it as it was

abbrev pub IsOfOther : ℕ → Event → Type 0
IsOfOther number (Arrives connection piece) = number ≢ connection
IsOfOther number (Turns connection now) = number ≢ connection
IsOfOther number (HangsUp connection) = number ≢ connection
IsOfOther number (Connects connection) = number ≢ connection
IsOfOther number (Takes connection) = number ≢ connection

module _ (world : World) (number : ℕ) where
  abbrev IsAsIt : Keyed Connection → Type 0
  IsAsIt connections = at number connections ≡ at number world.connections

  put_other : (here : ℕ) → number ≢ here → (connections : Keyed Connection) (new : Connection) → IsAsIt connections → IsAsIt (with connections here new)
  put_other here apart connections new same = at-with_other connections here number new apart ∙ same

  pub event_leaves : (event : Event) → IsOfOther number event → IsAsIt (effect_of world event).connections
  unfolding arrives takes connects hangs_up
  event_leaves (Arrives connection piece) apart =
      changed world connection IsAsIt (put_other connection apart) refl (arrives_at world.limits.records piece) (at connection world.connections)
  event_leaves (Turns connection now) apart = turned world connection IsAsIt (put_other connection apart) refl now (one world connection now) (turn_is world connection now)
  event_leaves (HangsUp connection) apart =
      choose (λ (w : World). IsAsIt w.connections) (is_busy (at connection world.connections)) world (without_connection world connection) refl
      (at-without_other world.connections connection number apart)
  event_leaves (Connects connection) apart =
      choose (λ (w : World). IsAsIt w.connections) (can_connect world connection) (with_connection world connection (Quiet [])) world
      (put_other connection apart world.connections (Quiet []) refl) refl
  event_leaves (Takes connection) apart = changed world connection IsAsIt (put_other connection apart) refl without_reply (at connection world.connections)

-- the same, for calls
abbrev pub IsAsBefore : (start : World) (number : ℕ) (more calls : List ServerCall) → Type 0
IsAsBefore start number more calls = at number (world_after start (more ++ calls)).connections ≡ at number (world_after start calls).connections

pub calls_leave : (moments : ℕ → Type 0) (start : World) (number connection : ℕ) (more calls : List ServerCall) → AreOn moments connection more → number ≢ connection
    → IsAsBefore start number more calls
calls_leave moments start number connection [] calls on apart = refl
calls_leave moments start number connection (Did (Arrives other piece) said ∷ more) calls on apart =
    event_leaves (world_after start (more ++ calls)) number (Arrives other piece) (λ same. apart (same ∙ on.0))
    ∙ calls_leave moments start number connection more calls on.1 apart
calls_leave moments start number connection (Did (Turns other now) said ∷ more) calls on apart =
    event_leaves (world_after start (more ++ calls)) number (Turns other now) (λ same. apart (same ∙ on.0.0))
    ∙ calls_leave moments start number connection more calls on.1 apart
calls_leave moments start number connection (Did (Takes other) said ∷ more) calls on apart =
    event_leaves (world_after start (more ++ calls)) number (Takes other) (λ same. apart (same ∙ on.0))
    ∙ calls_leave moments start number connection more calls on.1 apart
calls_leave moments start number connection (Did (HangsUp other) said ∷ more) calls on apart = absurd on.0
calls_leave moments start number connection (Did (Connects other) said ∷ more) calls on apart = absurd on.0
calls_leave moments start number connection (Failed event ∷ more) calls on apart = absurd on.0

-- a new connection is there, and was not before

pub connected : (world : World) (connection : ℕ) → can_connect world connection ≡ true → IsThere connection (effect_of world (Connects connection))
unfolding connects
connected world connection can =
    let after : connects world connection ≡ with_connection world connection (Quiet []) =
    ap (λ (b : Bool). if b then with_connection world connection (Quiet []) else world) can in
    ap (λ (w : World). is_some (at connection w.connections)) after ∙ ap is_some (at-with_same world.connections connection (Quiet []))

not-and : (a b : Bool) → a ≡ true → (not a && b) ≡ true → ⊥
not-and true b is can = cc
not-and false b is can = cc

pub apart_from : (world : World) (connection number : ℕ) → can_connect world connection ≡ true → IsThere number world → number ≢ connection
apart_from world connection number can there same =
    not-and (is_key connection world.connections) (nat_lt (length world.connections) world.limits.connections) (ap (λ (n : ℕ). is_some (at n world.connections)) (sym same) ∙ there) can

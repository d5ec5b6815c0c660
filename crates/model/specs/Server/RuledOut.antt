-- Servers that these definitions rule out, each by one law.
use Rattle.std.specs.Prelude.{◌≡◌, ◌≢◌, ℕ, zero, suc, ◌+◌, ◌<◌, Bool, true, false, List, [], ◌∷◌, ◌++◌, length, take, slice_get, find, Option, None, Some, ◌⊎◌}
use Rattle.std.specs.List.{IsAmong}
use Rattle.model_tree.specs.Seats.Seats.{Seats}
use Rattle.model_tree.specs.Trees.Keyed.{at}
use Rattle.model.specs.Operations.Answer.{Answer, Outcome}
use Rattle.model.specs.Operations.Operation.{Argument, SequenceArguments}
use Rattle.model.specs.Wire.Record.{framed}
use Rattle.model.specs.Wire.Rpc as rpc
use Rattle.model.specs.Wire.Rpc.{CallRead, NoCall, OtherVersion, Calls, Request, Answers, read_call, request_of, reply_text, Success}
use Rattle.model.specs.Sessions.Session.{Table, Session, Kept, Runs, Replays, begin, finish, is_session, slot_at, next_number}
use Rattle.model_tree.specs.Trees.Tree.{Tree}
use Rattle.model_tree.specs.declared.status.Status.{Status}
use Rattle.model.specs.Server.World.{World, ServerLimits, Entry, InProgress, in_progress, Connection, Waiting, Busy, Replied, Next, Refuses, Reads, next_operation, state_of, outcome_text, status_of, Turned, one, ends, reply_with, hangs_up, hung_up, is_busy}
use Rattle.model.specs.Server.Runs.{Event, Turns, HangsUp, Takes, StaysDown, MayBeTaken, effect_of, before, IsDurable, is_durable, is_done, RunHistory, Serving, Left, left_after, mounted, executed, MayLeave, Happens, IsRun, IsGoodPrefix, done_with, tree_after}

-- One that keeps a later change and skips an unstable write before it: the tree left is the one
-- after both.
abbrev pub NoSkip : Type 0
NoSkip = (start : Tree) (write change : Entry) (tree : Tree) → IsDurable change
    → IsGoodPrefix start (write ∷ change ∷ []) (1 ∷ []) tree → tree ≡ change.after

-- One that gives a reply before its change is kept: after the turn the tree before it is none that
-- a crash may leave, or the change waits. While anything waits no reply is given.
pub record NoEarlyReply : Type 0 where
  pub kept : (old new : Serving) (event : Event) (entry : Entry) → Happens old event new
      → executed old event ≡ Some entry → is_durable entry ≡ true → before entry ≢ entry.after
      → (left : Left) → IsAmong new.left left → left.tree ≡ before entry → new.waits ≡ true
  pub waits : (old new : Serving) (event : Event) → Happens old event new → old.waits ≡ true
      → new.waits ≡ true
  pub given : (old new : Serving) (connection : ℕ) → old.waits ≡ true
      → Happens old (Takes connection) new ⊎ StaysDown old connection new → ⊥

-- One that takes an answered change away, and may put it back within a later call: whatever was
-- handed out as the i-th operation is in each tree that may be left at any later moment.
abbrev pub NoTakingBack : Type 0
NoTakingBack =
    (limits : ServerLimits) (run : ℕ) (start : Tree) (seats : Seats) (serving : Serving)
    (history : RunHistory) (i : ℕ)
    (change : Entry)
    → IsRun (mounted limits run start seats) serving history → IsAmong history.handed_out i
    → slice_get history.done i ≡ Some change → IsDurable change
    → (event : Event) (tree : Tree) → MayLeave serving event tree
    → (k : ℕ) × (i < k)
    × (tree ≡ tree_after start (take k (done_with history (executed serving event))))

-- One that keeps a reply and loses its change: if an event changes the seats, a crash after it
-- leaves nothing from before it, or the event defers and they wait.
abbrev pub NoReplyAlone : Type 0
NoReplyAlone =
    (old new : Serving) (event : Event) (happens : Happens old event new)
    → new.world.table.seats ≢ old.world.table.seats
    → (happens.defers ≡ false) ⊎ (new.waits ≡ false)
    → (left : Left) → IsAmong new.left left → left ≡ left_after new.world

-- One that runs a retry again: if the slot keeps the reply to this number, nothing runs.
abbrev pub NoSecondRun : Type 0
NoSecondRun =
    (uid count : ℕ) (arguments : SequenceArguments) (table : Table) (session : Session)
    (reply : List ℕ)
    → find (is_session arguments.session) table.sessions ≡ Some session
    → (slot_at session arguments.slot).state ≡ Kept reply
    → arguments.sequence ≡ (slot_at session arguments.slot).last
    → begin uid count arguments table ≡ Runs → ⊥

-- One that forgets a reply: once it is kept, held or not, the same number by the same caller is
-- answered by it.
abbrev pub NoForgetting : Type 0
NoForgetting =
    (uid count : ℕ) (arguments : SequenceArguments) (table : Table) (session : Session)
    (holds : Bool) (reply : List ℕ)
    → find (is_session arguments.session) table.sessions ≡ Some session
    → arguments.slot < length session.slots
    → arguments.sequence ≡ (slot_at session arguments.slot).last
    → uid ≡ (slot_at session arguments.slot).uid
    → begin uid count arguments (finish arguments.session arguments.slot holds reply table)
    ≡ Replays reply

-- One whose slots take a number other than the next: what runs has the number after the slot's
-- last.
abbrev pub NoGap : Type 0
NoGap = (uid count : ℕ) (arguments : SequenceArguments) (table : Table) (session : Session)
    → find (is_session arguments.session) table.sessions ≡ Some session
    → begin uid count arguments table ≡ Runs
    → arguments.sequence ≡ next_number (slot_at session arguments.slot).last

-- One whose turn runs more than one operation, or replies before the last one: a turn gives a
-- request one more result, with others to come; or it makes the reply, of one more result that is
-- the last one or a refusal; or it repeats the reply that a slot keeps, and then executes nothing.

-- the outcome of the next operation: it is refused before it runs, or is executed and leaves this
-- tree
abbrev pub IsOutcome : World → InProgress → Next → Outcome → (executed : Option Entry)
    → (tree : Tree) → Type 0
IsOutcome world request (Refuses operation reason) outcome executed tree =
    (outcome ≡ Outcome.Refused operation reason) × (executed ≡ None)
IsOutcome world request (Reads operation rest) outcome executed tree =
    executed
    ≡ Some (record {
      state = state_of world request;
      operation = operation;
      outcome = outcome;
      after = tree;
    })

-- the bytes after that operation
abbrev pub IsBehind : Next → List ℕ → Type 0
IsBehind (Refuses operation reason) bytes = ⊥
IsBehind (Reads operation rest) bytes = bytes ≡ rest

-- the request with its OK result after the others, and with operations left
pub record HasOneMore (world : World) (request : InProgress) (next : Next) (turned : Turned)
    (after : InProgress) : Type 0 where
  pub answer : Answer
  pub executes : IsOutcome world request next (Outcome.Done answer) turned.executed
      turned.world.tree
  pub results : after.results ≡ request.results ++ outcome_text (Outcome.Done answer)
  pub answered : after.answered ≡ request.answered + 1
  pub rest : IsBehind next after.rest
  pub xid : after.xid ≡ request.xid
  pub tag : after.tag ≡ request.tag
  pub count : after.count ≡ request.count
  pub others : request.answered + 1 ≢ request.count
  pub ended : after.ended ≡ None

-- the reply with its result after the others
pub record IsAnswered (world : World) (request : InProgress) (next : Next) (turned : Turned)
    (reply : List ℕ) : Type 0 where
  pub outcome : Outcome
  pub executes : IsOutcome world request next outcome turned.executed turned.world.tree
  pub last : (is_done outcome ≡ false) ⊎ (request.answered + 1 ≡ request.count)
  pub says : reply ≡ framed (reply_with request outcome)

-- the reply with the result that its slot keeps for the SEQUENCE which is next
pub record IsRepeated (world : World) (request : InProgress) (next : Next) (turned : Turned)
    (reply : List ℕ) : Type 0 where
  pub arguments : SequenceArguments
  pub rest : List ℕ
  pub result : List ℕ
  pub reads : next ≡ Reads (Argument.Sequence arguments) rest
  pub keeps : begin request.context.cred.uid request.count arguments world.table ≡ Replays result
  pub slot : turned.replays ≡ Some (arguments.session, arguments.slot)
  pub executes : turned.executed ≡ None
  pub says : reply ≡ framed (reply_text request.xid (Success result))

-- the request with its last result after the others, whose reply a seat is to hold first
pub record HasLast (world : World) (request : InProgress) (next : Next) (turned : Turned)
    (after : InProgress) : Type 0 where
  pub outcome : Outcome
  pub executes : IsOutcome world request next outcome turned.executed turned.world.tree
  pub last : (is_done outcome ≡ false) ⊎ (request.answered + 1 ≡ request.count)
  pub results : after.results ≡ request.results ++ outcome_text outcome
  pub answered : after.answered ≡ request.answered + 1
  pub ended : after.ended ≡ Some (status_of outcome)
  pub xid : after.xid ≡ request.xid
  pub tag : after.tag ≡ request.tag
  pub count : after.count ≡ request.count

abbrev pub IsOneFurther : World → InProgress → Next → Turned → Option Connection → Type 0
IsOneFurther world request next turned (Some (Busy after)) =
    HasOneMore world request next turned after ⊎ HasLast world request next turned after
IsOneFurther world request next turned (Some (Replied reply)) =
    IsAnswered world request next turned reply ⊎ IsRepeated world request next turned reply
IsOneFurther world request next turned _ = ⊥

-- of a request that has begun, and of one that begins with this turn
abbrev pub request_by : World → (xid : ℕ) → Request → Option InProgress
request_by world xid (Answers reply) = None
request_by world xid (rpc.Runs cred compound) = Some (in_progress world xid cred compound)

abbrev pub request_in : World → CallRead → Option InProgress
request_in world NoCall = None
request_in world (OtherVersion xid) = None
request_in world (Calls call) = request_by world call.xid (request_of call)

abbrev pub with_operations : InProgress → (ended : Option Status) → Option InProgress
with_operations request None = Some request
with_operations request (Some last) = None

abbrev pub request_at : World → Option Connection → Option InProgress
request_at world (Some (Busy request)) = with_operations request request.ended
request_at world (Some (Waiting bytes)) = request_in world (read_call bytes)
request_at world _ = None

abbrev pub OneATurn : Type 0
OneATurn =
    (world : World) (number now : ℕ) (request : InProgress)
    → request_at world (at number world.connections) ≡ Some request
    → IsOneFurther world request (next_operation request) (one world number now)
    (at number (one world number now).world.connections)

-- A request that has ended is answered without an operation: its reply is made of its results, and
-- what its slot keeps from then on is what its seat holds.
abbrev pub EndsByHolding : Type 0
EndsByHolding =
    (world : World) (number now : ℕ) (request : InProgress) (last : Status)
    → at number world.connections ≡ Some (Busy request) → request.ended ≡ Some last
    → one world number now ≡ ends world number request last true None

-- One whose hang-up drops the rest of a request that has begun: the connection goes only once the
-- request is answered.
pub record HangsUpLast : Type 0 where
  pub keeps : (world : World) (number : ℕ) → is_busy (at number world.connections) ≡ true
      → hangs_up world number ≡ world
  pub goes : (world : World) (number now : ℕ) (request : InProgress)
      → at number world.connections ≡ Some (Busy request)
      → request.answered < request.count → at number (hung_up world number now).connections ≡ None

-- a hang-up is some turns of the connection, and then the event
abbrev pub after_turns : ℕ → World → (number : ℕ) → (now : ℕ) → World
after_turns zero world number now = world
after_turns (suc more) world number now =
    after_turns more (effect_of world (Turns number now)) number now

abbrev pub HangUpIsEvents : Type 0
HangUpIsEvents = (world : World) (number now : ℕ)
    → (k : ℕ)
    × (hung_up world number now ≡ effect_of (after_turns k world number now) (HangsUp number))

-- What they do not rule out: a server that flushes each change at once. So every list of events is
-- one of a run, except that no reply is taken while something waits.
abbrev pub EachEventHappens : Type 0
EachEventHappens =
    (old : Serving) (event : Event) → old.is_down ≡ false → MayBeTaken old.waits event
    → (new : Serving) × Happens old event new × IsAmong new.left (left_after new.world)

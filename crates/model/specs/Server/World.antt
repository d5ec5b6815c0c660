-- The whole state of the server between two calls, and what each event makes of it, on bytes: RFC
-- 8881, sections 2.10.6 and 16.2; RFC 5531, section 9. A turn reads and runs one operation of one
-- COMPOUND. The order of tests around the operations is this server's profile.
use Rattle.std.specs.Prelude.{ℕ, zero, suc, ◌+◌, ◌-◌, Bool, true, false, not, ◌&&◌, ◌||◌, ◌==◌, nat_lt, nat_le, List, [], ◌∷◌, ◌++◌, length, find, Option, None, Some, Result, Ok, Err, if◌then◌else◌}
use Rattle.std.specs.Int.{w32}
use Rattle.xdr.specs.declared.refusal.Refusal.{Refusal}
use Rattle.xdr.specs.Grammar.{number_at}
use Rattle.model_tree.specs.declared.acl.Cred.{Cred}
use Rattle.model_tree.specs.declared.status.Status.{Status}
use Rattle.model_tree.specs.declared.status.Status.TheVariants as status
use Rattle.model.specs.Operations.Answer.{Answer, Outcome, ExchangeIdAnswer, CreateSessionAnswer}
use Rattle.model.specs.Operations.Context.{Context}
use Rattle.model_tree.specs.Trees.Keyed.{Keyed, at, is_key, with, without}
use Rattle.model_tree.specs.declared.limits.Limits.{Limits}
use Rattle.model.specs.Sessions.Opens.{Opens, no_opens}
use Rattle.model.specs.Operations.Operation.{Argument, SequenceArguments, operation_of}
use Rattle.model.specs.Operations.OperationNumber.{OP_ACCESS, OP_EXCHANGE_ID, OP_CREATE_SESSION, OP_DESTROY_SESSION, OP_SEQUENCE, OP_DESTROY_CLIENTID, OP_RECLAIM_COMPLETE}
use Rattle.model.specs.Wire.Record.{RecordLimits, Prefix, Partial, Refused, Whole, prefix, framed}
use Rattle.model_tree.specs.Refusals.Refusal.{first_refusal}
use Rattle.model.specs.Wire.Rpc.{CallRead, NoCall, OtherVersion, Calls, read_call, is_call_read, Request, Answers, Runs, request_of, Reply, VersionRefused, Success, Compound, reply_text, compound_text, is_empty}
use Rattle.model.specs.Server.Served.{is_served, looks_no_further}
use Rattle.model_tree.specs.Seats.Seats.{Seats, has_seat}
use Rattle.model.specs.Sessions.Session as sessions
use Rattle.model.specs.Sessions.Session.{SessionLimits, Settings, Table, Session}
use Rattle.model.specs.Sessions.StateIds.{has_opens, without_clients}
use Rattle.model.specs.Operations.Step.{State, Stepped, does, current_refusals}
use Rattle.model_tree.specs.Trees.Tree.{Tree}
use Rattle.model.specs.Wire.WireAnswers as answers
use Rattle.model.specs.Wire.WireArguments.{arguments_at}

-- The state

pub record ServerLimits : Type 0 where
  pub volume : Limits
  pub sessions : SessionLimits
  pub records : RecordLimits
  pub connections : ℕ
  pub settings : Settings
  -- bytes of a reply's record up to the end of an OK result, the record's header not counted
  pub reply_bytes : ℕ

-- A COMPOUND of which an operation has run. `rest` are the bytes of its further operations,
-- `results` those of its results so far.
pub record InProgress : Type 0 where
  pub xid : ℕ
  pub tag : List ℕ
  pub count : ℕ
  pub rest : List ℕ
  pub answered : ℕ
  pub results : List ℕ
  pub context : Context
  -- the session and the slot that run it
  pub slot : Option (List ℕ × ℕ)
  -- an operation of it made a change that has to last
  pub altered : Bool
  -- the status of its last result, once that is there and a seat is to hold the reply
  pub ended : Option Status

-- what has arrived of the next record; a whole request, not begun; one that has begun; a reply that
-- is to be taken; refused for good
pub data Connection : Type 0 where
  Quiet : (bytes : List ℕ) → Connection
  Waiting : (request : List ℕ) → Connection
  Busy : InProgress → Connection
  Replied : (reply : List ℕ) → Connection
  Closed : Connection

pub record World : Type 0 where
  pub limits : ServerLimits
  pub run : ℕ
  pub tree : Tree
  pub changes : ℕ
  pub opens : Opens
  pub table : Table
  pub connections : Keyed Connection

-- a run begins with a tree and the seats that go with it, and with nothing else
abbrev pub mounted_world : ServerLimits → (run : ℕ) → Tree → Seats → World
mounted_world limits run tree seats = record {
  limits = limits;
  run = run;
  tree = tree;
  changes = 0;
  opens = no_opens;
  table = sessions.loaded_table run limits.settings seats;
  connections = [];
}

abbrev pub with_connection : World → ℕ → Connection → World
with_connection world number connection =
    record world { connections = with world.connections number connection }

abbrev pub with_table : World → Table → World
with_table world table = record world { table = table }

-- The next operation of a COMPOUND (RFC 8881, section 16.2.3)

-- it is refused before it is run, under this number; or read, with the bytes after it
pub data Next : Type 0 where
  Refuses : (operation : ℕ) → Status → Next
  Reads : Argument → (rest : List ℕ) → Next

abbrev pub is_last : InProgress → Bool
is_last request = request.answered + 1 == request.count

abbrev pub op_illegal : ℕ
op_illegal = 10044

-- EXCHANGE_ID, CREATE_SESSION, DESTROY_SESSION and DESTROY_CLIENTID, each of which is the only
-- operation of its COMPOUND
abbrev pub stands_alone : (operation : ℕ) → Bool
stands_alone operation =
    operation == OP_EXCHANGE_ID || operation == OP_CREATE_SESSION || operation == OP_DESTROY_SESSION
    || operation == OP_DESTROY_CLIENTID

abbrev pub is_sequence : (operation : ℕ) → Bool
is_sequence operation = operation == OP_SEQUENCE

abbrev pub is_no_operation : (operation : ℕ) → Bool
is_no_operation operation = nat_lt operation OP_ACCESS || nat_lt OP_RECLAIM_COMPLETE operation

-- tests of only the number, for the first operation and for a later one; each gives a number to
-- refuse under
abbrev pub first_tests : (count operation : ℕ) → List (Bool × Next)
first_tests count operation =
    (is_no_operation operation, Refuses op_illegal status.OpIllegal)
    ∷ (
      not (is_sequence operation || stands_alone operation),
      Refuses operation status.OpNotInSession,
    )
    ∷ (stands_alone operation && nat_lt 1 count, Refuses operation status.NotOnlyOp)
    ∷ []

abbrev pub later_tests : (operation : ℕ) → List (Bool × Next)
later_tests operation =
    (is_no_operation operation, Refuses op_illegal status.OpIllegal)
    ∷ (not (is_served operation) || stands_alone operation, Refuses operation status.NotSupp)
    ∷ (is_sequence operation, Refuses operation status.SequencePos)
    ∷ []

abbrev pub first_or : List (Bool × Next) → Next → Next
first_or [] next = next
first_or (test ∷ tests) next = if test.0 then test.1 else first_or tests next

-- arguments that are not read, or bytes after those of the last operation: BADXDR
abbrev pub by_arguments : InProgress → (operation : ℕ) → Result (Argument × List ℕ) Refusal → Next
by_arguments request operation (Err fault) = Refuses operation status.BadXdr
by_arguments request operation (Ok read) =
    if is_last request && (not (looks_no_further read.0) && not (is_empty read.1))
    then Refuses operation status.BadXdr else Reads read.0 read.1

abbrev pub tests_of : InProgress → (operation : ℕ) → List (Bool × Next)
tests_of request operation =
    if request.answered == 0 then first_tests request.count operation else later_tests operation

-- an operation's number that is incomplete: BADXDR, under OP_ILLEGAL's number
abbrev pub by_number : InProgress → Result (ℕ × List ℕ) Refusal → Next
by_number request (Err fault) = Refuses op_illegal status.BadXdr
by_number request (Ok read) =
    first_or (tests_of request read.0) (by_arguments request read.0 (arguments_at read.0 read.1))

unfoldable pub next_operation : InProgress → Next
next_operation request = by_number request (number_at w32 request.rest)

-- Running it

-- Its result, with the world and the request as it leaves them; or the whole reply is the one that
-- a slot keeps.
pub data HasRun : Type 0 where
  Gives : Outcome → World → InProgress → HasRun
  Replays : (result : List ℕ) → (session : List ℕ) → (slot : ℕ) → HasRun

abbrev pub status_of : Outcome → Status
status_of (Outcome.Done answer) = status.Ok
status_of (Outcome.Refused operation reason) = reason

abbrev pub refuses : World → InProgress → (operation : ℕ) → Status → HasRun
refuses world request operation reason = Gives (Outcome.Refused operation reason) world request

abbrev pub gives : World → InProgress → Answer → HasRun
gives world request answer = Gives (Outcome.Done answer) world request

abbrev pub exchanged : World → InProgress → Result ExchangeIdAnswer Status × Table → HasRun
exchanged world request (Err reason, table) =
    refuses (with_table world table) request OP_EXCHANGE_ID reason
exchanged world request (Ok answer, table) =
    gives (with_table world table) request (Answer.ExchangeId answer)

abbrev pub created_by : World → InProgress → sessions.CreateSessionOutcome
    → Result CreateSessionAnswer Status → HasRun
created_by world request outcome (Err reason) = refuses world request OP_CREATE_SESSION reason
created_by world request outcome (Ok answer) =
    gives (record world {
      table = outcome.table;
      opens = without_clients outcome.ended_clients world.opens;
    }) request
    (Answer.CreateSession answer)

abbrev pub session_created : World → InProgress → sessions.CreateSessionOutcome → HasRun
session_created world request outcome = created_by world request outcome outcome.answer

-- an operation that returns nothing: its refusal, if there is one, and the table after it
abbrev pub tabled : World → InProgress → (operation : ℕ) → Answer → Option Status × Table → HasRun
tabled world request operation answer (Some reason, table) =
    refuses (with_table world table) request operation reason
tabled world request operation answer (None, table) = gives (with_table world table) request answer

-- From SEQUENCE on the request is the slot's, and its client the session's
abbrev pub of_session : InProgress → SequenceArguments → Session → InProgress
of_session request arguments session = record request {
  context = record request.context { client = session.client };
  slot = Some (arguments.session, arguments.slot);
}

abbrev pub started_in : World → InProgress → SequenceArguments → Option Session → HasRun
started_in world request arguments None = refuses world request OP_SEQUENCE status.BadSession
started_in world request arguments (Some session) =
    gives (with_table world (sessions.started request.context.cred.uid arguments world.table))
    (of_session request arguments session)
    (Answer.Sequence (sessions.sequence_answer arguments session))

abbrev pub begun : World → InProgress → SequenceArguments → sessions.Begun → HasRun
begun world request arguments (sessions.Refuses reason) = refuses world request OP_SEQUENCE reason
begun world request arguments (sessions.Replays reply) =
    Replays reply arguments.session arguments.slot
begun world request arguments sessions.Runs =
    started_in world request arguments
    (find (sessions.is_session arguments.session) world.table.sessions)

-- RECLAIM_COMPLETE for one file system needs a current filehandle, and returns OK each time
-- (section 18.51)
abbrev pub reclaimed : World → InProgress → Option Status → HasRun
reclaimed world request None = gives world request Answer.ReclaimComplete
reclaimed world request (Some reason) = refuses world request OP_RECLAIM_COMPLETE reason

abbrev pub state_of : World → InProgress → State
state_of world request = record {
  tree = world.tree;
  changes = world.changes;
  opens = world.opens;
  context = request.context;
}

-- an operation on the tree
abbrev pub stepped : World → InProgress → Stepped → HasRun
stepped world request after = Gives after.outcome
    (record world {
      tree = after.state.tree;
      changes = after.state.changes;
      opens = after.state.opens;
    })
    (record request { context = after.state.context })

unfoldable pub run : World → InProgress → (now : ℕ) → Argument → HasRun
run world request now (Argument.ExchangeId arguments) =
    exchanged world request
    (sessions.exchange_id world.limits.sessions (has_opens world.opens) request.context.cred.uid
    arguments world.table)
run world request now (Argument.CreateSession arguments) =
    session_created world request
    (sessions.create_session world.limits.sessions request.context.cred.uid arguments world.table)
run world request now (Argument.DestroySession id) =
    tabled world request OP_DESTROY_SESSION Answer.DestroySession
    (sessions.destroy_session id world.table)
run world request now (Argument.DestroyClientId client) =
    tabled world request OP_DESTROY_CLIENTID Answer.DestroyClientId
    (sessions.destroy_client_id (has_opens world.opens) client world.table)
run world request now (Argument.Sequence arguments) =
    begun world request arguments
    (sessions.begin request.context.cred.uid request.count arguments world.table)
run world request now (Argument.ReclaimComplete true) =
    reclaimed world request (first_refusal (current_refusals (state_of world request)))
run world request now (Argument.ReclaimComplete false) =
    tabled world request OP_RECLAIM_COMPLETE Answer.ReclaimComplete
    (sessions.reclaim_complete request.context.client world.table)
run world request now operation =
    stepped world request (does world.limits.volume (state_of world request) now operation)

-- a result on the wire
unfoldable pub outcome_text : Outcome → List ℕ
outcome_text result = answers.outcome.encoding result

-- the reply's record if this result were the last one, without the record's header
abbrev pub reply_with : InProgress → Outcome → List ℕ
reply_with request outcome = reply_text request.xid
    (Success (compound_text (status_of outcome) request.tag (request.answered + 1)
    (request.results ++ outcome_text outcome)))

abbrev pub has_room : World → InProgress → Outcome → Bool
has_room world request outcome =
    nat_le (length (reply_with request outcome)) world.limits.reply_bytes

-- The last test of all (section 15.1.3): an OK result for which the reply has no room is refused,
-- and nothing changes.
abbrev pub in_room : World → InProgress → (operation : ℕ) → HasRun → HasRun
in_room world request operation (Gives (Outcome.Refused number reason) after left) =
    Gives (Outcome.Refused number reason) after left
in_room world request operation (Gives (Outcome.Done answer) after left) =
    if has_room world request (Outcome.Done answer) then Gives (Outcome.Done answer) after left
    else refuses world request operation status.RepTooBig
in_room world request operation (Replays result session slot) = Replays result session slot

-- One turn

-- nothing to do; one operation ran, and more remain or a seat is to hold the reply; the reply is
-- there
pub data Turn : Type 0 where
  Idle : Turn
  Ran : Turn
  Answered : Turn

-- What was executed: an operation, the state before it, its outcome and the tree after it
pub record Entry : Type 0 where
  pub state : State
  pub operation : Argument
  pub outcome : Outcome
  pub after : Tree

-- What a turn did. `keeps` is the slot that keeps the reply from now on, `holds` says whether a
-- seat of its session is to hold it too, and `replays` is the slot whose kept reply is sent again.
pub record Turned : Type 0 where
  pub turn : Turn
  pub world : World
  pub executed : Option Entry
  pub keeps : Option (List ℕ × ℕ)
  pub holds : Bool
  pub replays : Option (List ℕ × ℕ)

abbrev pub idle : World → Turned
idle world = record {
  turn = Idle;
  world = world;
  executed = None;
  keeps = None;
  holds = false;
  replays = None;
}

-- a reply without any operation
abbrev pub replies : World → (number : ℕ) → (xid : ℕ) → Reply → Turned
replies world number xid reply = record {
  turn = Answered;
  world = with_connection world number (Replied (framed (reply_text xid reply)));
  executed = None;
  keeps = None;
  holds = false;
  replays = None;
}

-- the request goes on after a result
abbrev pub with_result : InProgress → Outcome → InProgress
with_result request outcome = record request {
  answered = request.answered + 1;
  results = request.results ++ outcome_text outcome;
}

abbrev pub result_of : InProgress → Status → List ℕ
result_of request last = compound_text last request.tag request.answered request.results

abbrev pub kept_by : Option (List ℕ × ℕ) → (holds : Bool) → (result : List ℕ) → Table → Table
kept_by None holds result table = table
kept_by (Some slot) holds result table = sessions.finish slot.0 slot.1 holds result table

-- the reply is made of the results; its slot keeps it, and a seat may hold it
abbrev pub ends : World → (number : ℕ) → InProgress → Status → (holds : Bool) → Option Entry
    → Turned
ends world number request last holds executed = record {
  turn = Answered;
  world =
      with_connection
      (with_table world (kept_by request.slot holds (result_of request last) world.table)) number
      (Replied (framed (reply_text request.xid (Success (result_of request last)))));
  executed = executed;
  keeps = request.slot;
  holds = holds;
  replays = None;
}

abbrev pub goes_on : World → (number : ℕ) → InProgress → Option Entry → Turned
goes_on world number request executed = record {
  turn = Ran;
  world = with_connection world number (Busy request);
  executed = executed;
  keeps = None;
  holds = false;
  replays = None;
}

-- whether the session of this slot has a seat
abbrev pub is_seated : Option (List ℕ × ℕ) → Seats → Bool
is_seated None seats = false
is_seated (Some slot) seats = has_seat slot.0 seats

-- a seat is to hold the reply: it is made in a turn of its own
abbrev pub is_to_hold : InProgress → Table → Bool
is_to_hold request table =
    sessions.holds_reply table.settings.holding request.altered
    && is_seated request.slot table.seats

-- the last result is there
abbrev pub closes : World → (number : ℕ) → InProgress → Status → Option Entry → Turned
closes world number request last executed =
    if is_to_hold request world.table
    then goes_on world number (record request { ended = Some last }) executed
    else ends world number request last false executed

-- the first result that is not OK is the last one
abbrev pub behind : World → (number : ℕ) → InProgress → Outcome → Option Entry → Turned
behind world number request (Outcome.Refused operation reason) executed =
    closes world number (with_result request (Outcome.Refused operation reason)) reason executed
behind world number request (Outcome.Done answer) executed =
    if is_last request
    then closes world number (with_result request (Outcome.Done answer)) status.Ok executed
    else goes_on world number (with_result request (Outcome.Done answer)) executed

abbrev pub executed_entry : World → InProgress → Argument → Outcome → World → Entry
executed_entry before request operation outcome after = record {
  state = state_of before request;
  operation = operation;
  outcome = outcome;
  after = after.tree;
}

-- A change that has to last is any but that of a WRITE with UNSTABLE4.
abbrev pub is_unstable : Argument → Bool
is_unstable (Argument.Write arguments) = arguments.stable == 0
is_unstable _ = false

abbrev pub noting : (before after : World) → Argument → InProgress → InProgress
noting before after operation request = record request {
  altered =
      request.altered || (not (before.changes == after.changes) && not (is_unstable operation));
}

abbrev pub has_run : World → (number : ℕ) → InProgress → Argument → HasRun → Turned
has_run world number request operation (Gives outcome after left) =
    behind after number (noting world after operation left) outcome
    (Some (executed_entry world request operation outcome after))
has_run world number request operation (Replays result session slot) = record {
  turn = Answered;
  world = with_connection world number (Replied (framed (reply_text request.xid (Success result))));
  executed = None;
  keeps = None;
  holds = false;
  replays = Some (session, slot);
}

abbrev pub operates : World → (number : ℕ) → (now : ℕ) → InProgress → Next → Turned
operates world number now request (Refuses operation reason) =
    behind world number request (Outcome.Refused operation reason) None
operates world number now request (Reads operation rest) =
    has_run world number (record request { rest = rest }) operation
    (in_room world (record request { rest = rest }) (operation_of operation)
    (run world (record request { rest = rest }) now operation))

-- a COMPOUND before its first operation
abbrev pub in_progress : World → (xid : ℕ) → Cred → Compound → InProgress
in_progress world xid cred compound = record {
  xid = xid;
  tag = compound.tag;
  count = compound.count;
  rest = compound.operations;
  answered = 0;
  results = [];
  slot = None;
  altered = false;
  ended = None;
  context = record { cred = cred; client = 0; run = world.run; current = None; saved = None };
}

abbrev pub requested : World → (number : ℕ) → (now : ℕ) → (xid : ℕ) → Request → Turned
requested world number now xid (Answers reply) = replies world number xid reply
requested world number now xid (Runs cred compound) =
    operates world number now (in_progress world xid cred compound)
    (next_operation (in_progress world xid cred compound))

abbrev pub called : World → (number : ℕ) → (now : ℕ) → CallRead → Turned
called world number now NoCall = idle world
called world number now (OtherVersion xid) = replies world number xid VersionRefused
called world number now (Calls call) = requested world number now call.xid (request_of call)

-- a request that has begun: its next operation, or after the last one the reply
abbrev pub further : World → (number : ℕ) → (now : ℕ) → InProgress → (ended : Option Status)
    → Turned
further world number now request None = operates world number now request (next_operation request)
further world number now request (Some last) = ends world number request last true None

abbrev pub turned : World → (number : ℕ) → (now : ℕ) → Option Connection → Turned
turned world number now None = idle world
turned world number now (Some (Quiet bytes)) = idle world
turned world number now (Some (Waiting request)) = called world number now (read_call request)
turned world number now (Some (Busy request)) = further world number now request request.ended
turned world number now (Some (Replied reply)) = idle world
turned world number now (Some Closed) = idle world

-- `number` is the connection's, `now` the moment in nanoseconds since 1970
unfoldable pub one : World → (number : ℕ) → (now : ℕ) → Turned
one world number now = turned world number now (at number world.connections)

-- What comes, goes and is taken

-- after the bytes so far a piece comes, up to the end of the first whole record; a record that is
-- no call closes
abbrev pub arrived : (bytes : List ℕ) → Prefix → Connection
arrived bytes Partial = Quiet bytes
arrived bytes (Refused fault) = Closed
arrived bytes (Whole request rest) =
    if is_call_read (read_call request) then Waiting request else Closed

abbrev pub arrives_at : RecordLimits → (piece : List ℕ) → Connection → Connection
arrives_at limits piece (Quiet bytes) = arrived (bytes ++ piece) (prefix limits (bytes ++ piece))
arrives_at limits piece connection = connection

abbrev pub connection_changed : World → (number : ℕ) → (Connection → Connection) → Option Connection
    → World
connection_changed world number change None = world
connection_changed world number change (Some connection) =
    with_connection world number (change connection)

unfoldable pub arrives : World → (number : ℕ) → (piece : List ℕ) → World
arrives world number piece =
    connection_changed world number (arrives_at world.limits.records piece)
    (at number world.connections)

-- how many bytes of the piece are taken; none if the connection is closed, then or before
abbrev pub taken_of : (piece : List ℕ) → Prefix → Connection → Option ℕ
taken_of piece prefix Closed = None
taken_of piece Partial connection = Some (length piece)
taken_of piece (Refused fault) connection = None
taken_of piece (Whole request rest) connection = Some (length piece - length rest)

unfoldable pub taken_at : RecordLimits → (piece : List ℕ) → Connection → Option ℕ
taken_at limits piece (Quiet bytes) =
    taken_of piece (prefix limits (bytes ++ piece)) (arrives_at limits piece (Quiet bytes))
taken_at limits piece Closed = None
taken_at limits piece connection = Some 0

-- the reply that is there is given, once
abbrev pub reply_in : Option Connection → Option (List ℕ)
reply_in (Some (Replied reply)) = Some reply
reply_in _ = None

abbrev pub reply_at : World → (number : ℕ) → Option (List ℕ)
reply_at world number = reply_in (at number world.connections)

abbrev pub without_reply : Connection → Connection
without_reply (Replied reply) = Quiet []
without_reply connection = connection

unfoldable pub takes : World → (number : ℕ) → World
takes world number = connection_changed world number without_reply (at number world.connections)

-- a number that no connection has, as long as there are fewer than the limit
abbrev pub can_connect : World → (number : ℕ) → Bool
can_connect world number =
    not (is_key number world.connections)
    && nat_lt (length world.connections) world.limits.connections

unfoldable pub connects : World → (number : ℕ) → World
connects world number =
    if can_connect world number then with_connection world number (Quiet []) else world

-- A hang-up drops a connection, but not a request that has begun: that one is run to its end first.
abbrev pub is_busy : Option Connection → Bool
is_busy (Some (Busy request)) = true
is_busy _ = false

abbrev pub without_connection : World → (number : ℕ) → World
without_connection world number = record world { connections = without world.connections number }

unfoldable pub hangs_up : World → (number : ℕ) → World
hangs_up world number =
    if is_busy (at number world.connections) then world else without_connection world number

-- the whole of it: at most one turn for each operation left and one for the reply, and then the
-- connection goes
abbrev pub operations_left : Option Connection → ℕ
operations_left (Some (Busy request)) = suc (request.count - request.answered)
operations_left _ = 0

abbrev pub turns : (most : ℕ) → World → (number : ℕ) → (now : ℕ) → World
turns zero world number now = world
turns (suc most) world number now =
    if is_busy (at number world.connections)
    then turns most (one world number now).world number now
    else world

unfoldable pub hung_up : World → (number : ℕ) → (now : ℕ) → World
hung_up world number now =
    hangs_up (turns (operations_left (at number world.connections)) world number now) number

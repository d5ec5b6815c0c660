-- What users of the server can rely on when it crashes: NFS asks it of a server in RFC 8881,
-- sections 18.3 (COMMIT), 18.32 (WRITE) and 2.10.6.2 (replies). A machine goes from event to event
-- and may crash at any moment; a crash leaves the tree that a good prefix of what was executed
-- gives.
use Rattle.std.specs.Prelude.{◌≡◌, ◌≢◌, ℕ, ◌+◌, ◌<◌, ◌≤◌, ◌^◌, ◌⊎◌, Bool, true, false, not, ◌&&◌, ◌||◌, ◌==◌, List, [], ◌∷◌, ◌++◌, length, take, find, slice_get, option_to_list, Option, None, Some, if◌then◌else◌, bytes_eq}
use Rattle.std.specs.List.{IsAmong}
use Rattle.model.specs.Operations.Answer.{Outcome}
use Rattle.model_tree.specs.Trees.Keyed.{at}
use Rattle.model.specs.Operations.Operation.{Argument}
use Rattle.model_tree.specs.Seats.Seats.{HeldReply, Seats, SeatsApart, run_of, has_seat, held_at}
use Rattle.model.specs.Sessions.Session.{Slot, SlotState, Free, Running, Kept, Session, Table, is_session, slot_at, held_reply}
use Rattle.model_tree.specs.Trees.Stamp.{stamp, next_stamp}
use Rattle.model.specs.Operations.Step.{alters, permitted}
use Rattle.model_tree.specs.Trees.Tree.{Tree}
use Rattle.model.specs.Server.World.{World, ServerLimits, mounted_world, Entry, Turned, Turn, Idle, Ran, Answered, one, arrives, takes, connects, hangs_up, reply_at, is_busy, is_unstable}

-- Events

-- A hang-up of a connection whose request has begun is its further turns, and then the event.
pub data Event : Type 0 where
  Arrives : (connection : ℕ) → (piece : List ℕ) → Event
  Turns : (connection now : ℕ) → Event
  HangsUp : (connection : ℕ) → Event
  Connects : (connection : ℕ) → Event
  Takes : (connection : ℕ) → Event

abbrev pub effect_of : World → Event → World
effect_of world (Arrives connection piece) = arrives world connection piece
effect_of world (Turns connection now) = (one world connection now).world
effect_of world (HangsUp connection) = hangs_up world connection
effect_of world (Connects connection) = connects world connection
effect_of world (Takes connection) = takes world connection

-- the operation that it executes, if it does one
abbrev pub executed_of : World → Event → Option Entry
executed_of world (Arrives connection piece) = None
executed_of world (Turns connection now) = (one world connection now).executed
executed_of world (HangsUp connection) = None
executed_of world (Connects connection) = None
executed_of world (Takes connection) = None

-- Executed operations

abbrev pub before : Entry → Tree
before entry = entry.state.tree

abbrev pub is_commit : Argument → Bool
is_commit (Argument.Commit arguments) = true
is_commit _ = false

abbrev pub is_done : Outcome → Bool
is_done (Outcome.Done answer) = true
is_done (Outcome.Refused operation reason) = false

-- a change other than an unstable write, or a COMMIT that was answered OK
abbrev pub IsDurable : Entry → Type 0
IsDurable entry =
    ((before entry ≢ entry.after) × (is_unstable entry.operation ≡ false))
    ⊎ ((is_commit entry.operation ≡ true) × (is_done entry.outcome ≡ true))

-- the same as a test, by what the operation is: each durable entry passes it
abbrev pub is_durable : Entry → Bool
is_durable entry =
    (alters entry.state entry.operation
    && (is_done entry.outcome && not (is_unstable entry.operation)))
    || (is_commit entry.operation && is_done entry.outcome)

-- Replies that seats hold

-- for a request that a slot of a session ran: what a seat is to hold of it
pub record Stored : Type 0 where
  pub session : List ℕ
  pub slot : ℕ
  pub held : HeldReply

-- what a slot keeps, as a seat holds it

abbrev pub kept_in : Slot → SlotState → Option HeldReply
kept_in slot Free = None
kept_in slot Running = None
kept_in slot (Kept reply) = Some (held_reply reply slot)

abbrev pub held_of_session : ℕ → Option Session → Option HeldReply
held_of_session place None = None
held_of_session place (Some session) = kept_in (slot_at session place) (slot_at session place).state

abbrev pub kept_at : List ℕ → ℕ → Table → Option HeldReply
kept_at id place table = held_of_session place (find (is_session id) table.sessions)

-- a turn stores the reply that its slot keeps from then on, if a seat of the session is to hold it
abbrev pub stored_as : List ℕ → ℕ → Option HeldReply → Option Stored
stored_as id place None = None
stored_as id place (Some held) = Some (record { session = id; slot = place; held = held })

abbrev pub stored_by : Table → Option (List ℕ × ℕ) → (holds : Bool) → Option Stored
stored_by table None holds = None
stored_by table (Some slot) holds =
    if holds && has_seat slot.0 table.seats
    then stored_as slot.0 slot.1 (kept_at slot.0 slot.1 table)
    else None

-- the sessions whose seats are gone
abbrev pub freed_between : (old new : Seats) → List (List ℕ)
freed_between [] new = []
freed_between (None ∷ old) new = freed_between old new
freed_between (Some seat ∷ old) new =
    if has_seat seat.session new then freed_between old new
    else seat.session ∷ freed_between old new

abbrev pub stored_of : World → Event → Option Stored
stored_of world (Arrives connection piece) = None
stored_of world (Turns connection now) =
    stored_by (one world connection now).world.table (one world connection now).keeps
    (one world connection now).holds
stored_of world (HangsUp connection) = None
stored_of world (Connects connection) = None
stored_of world (Takes connection) = None

abbrev pub freed_of : World → Event → List (List ℕ)
freed_of world event = freed_between world.table.seats (effect_of world event).table.seats

-- What happened, which no part of the server keeps

-- `done` are the executed operations of the run. A reply names those whose results it holds:
-- `named` by connection, also of a request that has begun, `kept` by session and slot; `handed_out`
-- are those of all replies that were taken.
pub record RunHistory : Type 0 where
  pub done : List Entry
  pub named : ℕ → List ℕ
  pub kept : List ℕ → ℕ → List ℕ
  pub handed_out : List ℕ
  -- the replies that seats held; the one that was being stored when the device failed; and the
  -- sessions whose seats were freed
  pub stored : List Stored
  pub torn : Option Stored
  pub freed : List (List ℕ)
  -- those replies, the last one too, each with what it names
  pub replies : List (Stored × List ℕ)

abbrev pub no_history : RunHistory
no_history = record {
  done = [];
  named = λ connection. [];
  kept = λ session slot. [];
  handed_out = [];
  stored = [];
  torn = None;
  freed = [];
  replies = [];
}

abbrev pub naming : (ℕ → List ℕ) → ℕ → List ℕ → ℕ → List ℕ
naming named connection names other = if other == connection then names else named other

abbrev pub is_slot : List ℕ × ℕ → List ℕ → ℕ → Bool
is_slot slot session place = bytes_eq slot.0 session && slot.1 == place

abbrev pub keeping : (List ℕ → ℕ → List ℕ) → Option (List ℕ × ℕ) → List ℕ → List ℕ → ℕ → List ℕ
keeping kept None names session place = kept session place
keeping kept (Some slot) names session place =
    if is_slot slot session place then names else kept session place

-- the number that an operation gets which is executed now
abbrev pub numbers_of : RunHistory → Option Entry → List ℕ
numbers_of history None = []
numbers_of history (Some entry) = length history.done ∷ []

-- of a request that has begun, what it has named so far
abbrev pub named_so_far : RunHistory → World → (connection : ℕ) → List ℕ
named_so_far history world connection =
    if is_busy (at connection world.connections) then history.named connection else []

-- a reply that is sent again names what it named at first
abbrev pub names_by : RunHistory → World → (connection : ℕ) → Turned → Option (List ℕ × ℕ) → List ℕ
names_by history world connection turned (Some slot) = history.kept slot.0 slot.1
names_by history world connection turned None =
    named_so_far history world connection ++ numbers_of history turned.executed

abbrev pub names_after : RunHistory → World → (connection : ℕ) → Turned → List ℕ
names_after history world connection turned =
    names_by history world connection turned turned.replays

abbrev pub naming_stored : Option Stored → List ℕ → List (Stored × List ℕ)
naming_stored None names = []
naming_stored (Some stored) names = (stored, names) ∷ []

-- the reply that a seat is to hold from a turn on, with what it names
abbrev pub replies_by : RunHistory → World → (connection : ℕ) → Turned → List (Stored × List ℕ)
replies_by history world connection turned =
    naming_stored (stored_by turned.world.table turned.keeps turned.holds)
    (names_after history world connection turned)

-- a turn that does nothing changes no names
abbrev pub naming_by : Turn → (ℕ → List ℕ) → (connection : ℕ) → List ℕ → ℕ → List ℕ
naming_by Idle named connection names = named
naming_by Ran named connection names = naming named connection names
naming_by Answered named connection names = naming named connection names

abbrev pub turned_by : RunHistory → World → (connection : ℕ) → Turned → RunHistory
turned_by history world connection turned = record {
  done = history.done ++ option_to_list turned.executed;
  named =
      naming_by turned.turn history.named connection (names_after history world connection turned);
  kept = keeping history.kept turned.keeps (names_after history world connection turned);
  handed_out = history.handed_out;
  stored = history.stored ++ option_to_list (stored_by turned.world.table turned.keeps turned.holds);
  torn = history.torn;
  freed = history.freed ++ freed_between world.table.seats turned.world.table.seats;
  replies = history.replies ++ replies_by history world connection turned;
}

abbrev pub taken_by : RunHistory → (connection : ℕ) → Option (List ℕ) → RunHistory
taken_by history connection None = history
taken_by history connection (Some reply) =
    record history { handed_out = history.handed_out ++ history.named connection }

abbrev pub history_after : RunHistory → World → Event → RunHistory
history_after history world (Arrives connection piece) = history
history_after history world (Turns connection now) =
    turned_by history world connection (one world connection now)
history_after history world (HangsUp connection) = history
history_after history world (Connects connection) = history
history_after history world (Takes connection) =
    taken_by history connection (reply_at world connection)

-- the operations that were executed, with one more that is under way
abbrev pub done_with : RunHistory → Option Entry → List Entry
done_with history executed = history.done ++ option_to_list executed

-- and the replies that seats held or were to hold, with one more that is under way
abbrev pub replies_of : RunHistory → World → Event → List (Stored × List ℕ)
replies_of history world (Arrives connection piece) = []
replies_of history world (Turns connection now) =
    replies_by history world connection (one world connection now)
replies_of history world (HangsUp connection) = []
replies_of history world (Connects connection) = []
replies_of history world (Takes connection) = []

abbrev pub replies_with : RunHistory → World → Event → (is_down : Bool) → List (Stored × List ℕ)
replies_with history world event true = history.replies
replies_with history world event false = history.replies ++ replies_of history world event

-- The machine

-- a tree, and the seats that go with it
pub record Left : Type 0 where
  pub tree : Tree
  pub seats : Seats

-- `left` is what a crash may leave now, as the volume keeps it: what was flushed last, and what
-- there was after each later change
-- `waits` is whether something that has to last may wait for the next flush: no reply is given
-- then
pub record Serving : Type 0 where
  pub world : World
  pub left : List Left
  pub is_down : Bool
  pub waits : Bool

abbrev pub mounted : ServerLimits → (run : ℕ) → Tree → Seats → Serving
mounted limits run start seats = record {
  world = mounted_world limits run start seats;
  left = record { tree = start; seats = seats } ∷ [];
  is_down = false;
  waits = false;
}

-- what is down executes nothing
abbrev pub executed_by : World → Event → (is_down : Bool) → Option Entry
executed_by world event true = None
executed_by world event false = executed_of world event

abbrev pub executed : Serving → Event → Option Entry
executed serving event = executed_by serving.world event serving.is_down

-- What a crash may leave while an event happens: what it might have left before, or what there is
-- after it. So no tree from before the event is left with seats from after it.

abbrev pub left_after : World → Left
left_after world = record { tree = world.tree; seats = world.table.seats }

abbrev pub IsAfterEvent : World → Event → (is_down : Bool) → Left → Type 0
IsAfterEvent world event true left = ⊥
IsAfterEvent world event false left = left ≡ left_after (effect_of world event)

abbrev pub MayBeLeft : Serving → Event → Left → Type 0
MayBeLeft serving event left =
    IsAmong serving.left left ⊎ IsAfterEvent serving.world event serving.is_down left

-- the trees of these, and the seats

abbrev pub MayLeave : Serving → Event → Tree → Type 0
MayLeave serving event tree =
    (seats : Seats) × MayBeLeft serving event (record { tree = tree; seats = seats })

abbrev pub MayHoldSeats : Serving → Event → Seats → Type 0
MayHoldSeats serving event seats =
    (tree : Tree) × MayBeLeft serving event (record { tree = tree; seats = seats })

-- while something waits no reply is taken
abbrev pub TakesNone : Event → Type 0
TakesNone (Takes connection) = ⊥
TakesNone event = Unit {0}

abbrev pub MayBeTaken : (waits : Bool) → Event → Type 0
MayBeTaken false event = Unit {0}
MayBeTaken true event = TakesNone event

-- An event happens. Then, of a durable operation only the tree after it may be left; and if the
-- seats change, nothing from before. If the event defers, neither need be kept yet: what has to
-- last waits for the next flush.
pub record Happens (old : Serving) (event : Event) (new : Serving) : Type 0 where
  pub up : old.is_down ≡ false
  pub world : new.world ≡ effect_of old.world event
  pub still_up : new.is_down ≡ false
  pub no_others : (left : Left) → IsAmong new.left left → MayBeLeft old event left
  pub defers : Bool
  pub durable : defers ≡ false → (entry : Entry) → executed old event ≡ Some entry
      → is_durable entry ≡ true
      → (left : Left) → IsAmong new.left left → left.tree ≡ entry.after
  pub deferred : defers ≡ true → (entry : Entry) → executed old event ≡ Some entry
      → is_durable entry ≡ true → new.waits ≡ true
  pub waits_on : old.waits ≡ true → new.waits ≡ true
  pub at_once : defers ≡ false → new.waits ≡ old.waits
  pub taken : MayBeTaken old.waits event
  pub seats : defers ≡ false → new.world.table.seats ≢ old.world.table.seats
      → (left : Left) → IsAmong new.left left → left ≡ left_after new.world
  pub seats_deferred : defers ≡ true → new.world.table.seats ≢ old.world.table.seats
      → new.waits ≡ true

-- A flush of all that waits: of what a crash might leave, only the newest remains. It is no event,
-- since no client sees it.
pub record Flushes (old new : Serving) : Type 0 where
  pub up : old.is_down ≡ false
  pub world : new.world ≡ old.world
  pub still_up : new.is_down ≡ false
  pub none_waits : new.waits ≡ false
  pub newest : (left : Left) → IsAmong new.left left → left ≡ left_after old.world

-- the device fails during it: the server is down from now on, and no reply reports the operation
-- under way, nor one that waits
pub record DeviceFails (old : Serving) (event : Event) (new : Serving) : Type 0 where
  pub up : old.is_down ≡ false
  pub world : new.world ≡ old.world
  pub down : new.is_down ≡ true
  pub waits : new.waits ≡ old.waits
  pub no_others : (left : Left) → IsAmong new.left left → MayBeLeft old event left

-- a server that is down gives the replies that it has, unless something waited when it failed, and
-- does nothing else
pub record StaysDown (old : Serving) (connection : ℕ) (new : Serving) : Type 0 where
  pub down : old.is_down ≡ true
  pub none_waits : old.waits ≡ false
  pub waits : new.waits ≡ old.waits
  pub world : new.world ≡ takes old.world connection
  pub still_down : new.is_down ≡ true
  pub no_others : (left : Left) → IsAmong new.left left → IsAmong old.left left

-- it is not known whether an operation under way at a failure was done: it is the last of `done`,
-- and no reply names it
abbrev pub history_failing : RunHistory → World → Event → RunHistory
history_failing history world event = record history {
  done = done_with history (executed_of world event);
  torn = stored_of world event;
  freed = history.freed ++ freed_of world event;
  replies = history.replies ++ replies_of history world event;
}

pub data IsRun (start : Serving) : Serving → RunHistory → Type 0 where
  Begins : IsRun start start no_history
  Goes_on : {old new : Serving} {history : RunHistory} (event : Event) → IsRun start old history
      → Happens old event new
      → IsRun start new (history_after history old.world event)
  Fails_at : {old new : Serving} {history : RunHistory} (event : Event) → IsRun start old history
      → DeviceFails old event new
      → IsRun start new (history_failing history old.world event)
  Stays_down : {old new : Serving} {history : RunHistory} (connection : ℕ) → IsRun start old history
      → StaysDown old connection new
      → IsRun start new (history_after history old.world (Takes connection))
  Flushed : {old new : Serving} {history : RunHistory} → IsRun start old history → Flushes old new
      → IsRun start new history

-- Of the replies that were stored, how many were when last nothing waited: a flush has kept them.
-- Those stored since then wait for the next one.
abbrev pub settled_by : {start serving : Serving} {history : RunHistory}
    → IsRun start serving history → ℕ
settled_by Begins = 0
settled_by (Goes_on {old = old} {new = new} {history = history} event run happens) =
    if new.waits then settled_by run else length (history_after history old.world event).stored
settled_by (Fails_at event run fails) = settled_by run
settled_by (Stays_down connection run stays) = settled_by run
settled_by (Flushed {history = history} run flushes) = length history.stored

-- and how many were when a reply was taken last
abbrev pub taken_with : Event → (now before : ℕ) → ℕ
taken_with (Takes connection) now before = now
taken_with event now before = before

abbrev pub stored_when_taken : {start serving : Serving} {history : RunHistory}
    → IsRun start serving history → ℕ
stored_when_taken Begins = 0
stored_when_taken (Goes_on {history = history} event run happens) =
    taken_with event (length history.stored) (stored_when_taken run)
stored_when_taken (Fails_at event run fails) = stored_when_taken run
stored_when_taken (Stays_down {history = history} connection run stays) = length history.stored
stored_when_taken (Flushed run flushes) = stored_when_taken run

-- Good prefixes

abbrev pub tree_after : Tree → List Entry → Tree
tree_after start [] = start
tree_after start (entry ∷ done) = tree_after entry.after done

-- each operation began with the tree that the one before it left
abbrev pub IsChain : Tree → List Entry → Type 0
IsChain start [] = Unit {0}
IsChain start (entry ∷ done) = (before entry ≡ start) × IsChain entry.after done

-- each operation whose result was handed out and has to last is among the first k
abbrev pub HasAllDurable : List Entry → List ℕ → ℕ → Type 0
HasAllDurable done handed_out k =
    (i : ℕ) (entry : Entry) → IsAmong handed_out i → slice_get done i ≡ Some entry → IsDurable entry
    → i < k

-- each change among the first k was permitted to its caller, in the tree before it
abbrev pub ArePermitted : List Entry → ℕ → Type 0
ArePermitted done k =
    (i : ℕ) (entry : Entry) → i < k → slice_get done i ≡ Some entry → before entry ≢ entry.after
    → permitted entry.state.tree entry.state.context entry.operation ≡ true

-- the tree is the one that the first k executed operations give
pub record IsGoodPrefix (start : Tree) (done : List Entry) (handed_out : List ℕ)
    (tree : Tree) : Type 0 where
  pub k : ℕ
  pub within : k ≤ length done
  pub holds : tree ≡ tree_after start (take k done)
  pub good : HasAllDurable done handed_out k
  pub permitted : ArePermitted done k
  pub chain : IsChain start done

-- Whatever events happen, on whatever connections, and whenever the server crashes, what a crash
-- may leave is the tree of a good prefix of the operations that were executed.
abbrev pub EveryRun : Type 0
EveryRun = (limits : ServerLimits) (run : ℕ) (start : Tree) (seats : Seats) (serving : Serving)
    (history : RunHistory)
    → IsRun (mounted limits run start seats) serving history → (event : Event) (tree : Tree)
    → MayLeave serving event tree
    → IsGoodPrefix start (done_with history (executed serving event)) history.handed_out tree

-- What a held reply names is kept

-- seats that a run may begin with: of sessions of earlier runs
pub record AreSeats (run : ℕ) (seats : Seats) : Type 0 where
  pub apart : SeatsApart seats
  pub earlier : (id : List ℕ) → has_seat id seats ≡ true → run_of id < run

-- Every run that a mount begins does so. In any other, a seat might be of a session that is yet to
-- be made, and hold its reply before that is stored.
abbrev pub BeginsSeated : (run : ℕ) → Seats → Type 0
BeginsSeated run seats = (run < 2 ^ 32) × AreSeats run seats

-- each operation that such a reply names and that has to last is among the first k
pub record IsNamedBelow (done : List Entry) (replies : List (Stored × List ℕ)) (stored : Stored)
    (k : ℕ) : Type 0 where
  pub names : List ℕ
  pub among : IsAmong replies (stored, names)
  pub below : HasAllDurable done names k

-- so for each reply in these seats (two that are the same in each byte are not distinguished: they
-- have at least 2^32 others of their slot between them)
abbrev pub HasAllHeld : List Entry → (replies : List (Stored × List ℕ)) → Seats → ℕ → Type 0
HasAllHeld done replies seats k =
    (stored : Stored) (names : List ℕ) → IsAmong replies (stored, names)
    → held_at stored.session stored.slot seats ≡ Some stored.held
    → IsNamedBelow done replies stored k

pub record KeepsHeld (start : Tree) (done : List Entry) (handed_out : List ℕ)
    (replies : List (Stored × List ℕ)) (left : Left) : Type 0 where
  pub prefix : IsGoodPrefix start done handed_out left.tree
  pub held : HasAllHeld done replies left.seats prefix.k

-- If a crash leaves a tree and seats, the tree is that of a good prefix which has what the replies
-- in the seats name: a client that gets such a reply again after a restart learns of nothing that
-- is lost.
abbrev pub EveryHeldIsKept : Type 0
EveryHeldIsKept =
    (limits : ServerLimits) (run : ℕ) (start : Tree) (seats : Seats) (serving : Serving)
    (history : RunHistory)
    → IsRun (mounted limits run start seats) serving history
    → (serving.waits ≡ true → BeginsSeated run seats) → (event : Event) (left : Left)
    → MayBeLeft serving event left
    → KeepsHeld start (done_with history (executed serving event)) history.handed_out
    (replies_with history serving.world event serving.is_down) left

-- Stamps: a change takes the next one of its run, whether a crash takes it away or not

-- that of a change made in the state of this entry, by how many changes this run had before
abbrev pub stamp_in : (run : ℕ) → Entry → ℕ
stamp_in run entry = next_stamp run entry.state.changes

-- those of the changes rise, and are stamps of the run
pub record AreStamped (run : ℕ) (done : List Entry) : Type 0 where
  pub rise : (i j : ℕ) (one other : Entry) → i < j → slice_get done i ≡ Some one
      → slice_get done j ≡ Some other → before one ≢ one.after
      → stamp_in run one < stamp_in run other
  pub of_run : (i : ℕ) (entry : Entry) → slice_get done i ≡ Some entry → before entry ≢ entry.after
      → (stamp run 0 < stamp_in run entry) × (stamp_in run entry < stamp (run + 1) 0)

-- of all that was executed, what a crash takes away and the one under way included
abbrev pub EveryStamp : Type 0
EveryStamp =
    (limits : ServerLimits) (run : ℕ) (start : Tree) (seats : Seats) (serving : Serving)
    (history : RunHistory)
    → IsRun (mounted limits run start seats) serving history → (event : Event)
    → AreStamped run (done_with history (executed serving event))

-- Exactly once over restarts, on sessions that have a seat: RFC 8881, sections 2.10.6.1 and
-- 2.10.6.5. What a seat holds survives a crash, and a session of an earlier run runs nothing.
use Rattle.std.specs.Prelude.{◌≡◌, ◌≢◌, ◌↔◌, ◌≤◌, ◌<◌, ◌^◌, ◌⊎◌, ℕ, Bool, true, false, List, [], ◌∷◌, ◌++◌, slice_get, option_to_list, find, Option, None, Some, if◌then◌else◌}
use Rattle.std.specs.List.{IsAmong}
use Rattle.model_tree.specs.declared.status.Status.{Status}
use Rattle.model_tree.specs.declared.status.Status.TheVariants as status
use Rattle.model.specs.Operations.Answer.{Answer, Outcome, CreateSessionAnswer}
use Rattle.model_tree.specs.Trees.Keyed.{at}
use Rattle.model.specs.Operations.Operation.{Argument, CreateSessionArguments, SequenceArguments}
use Rattle.model.specs.Wire.Record.{framed}
use Rattle.model.specs.Wire.Rpc.{Success, reply_text}
pub use Rattle.model.specs.Server.Runs.{AreSeats}
use Rattle.model.specs.Server.Runs.{Event, before, effect_of, executed_of, is_done, names_after, Stored, RunHistory, Serving, Left, mounted, executed, done_with, stored_by, stored_of, freed_of, MayHoldSeats, IsRun, settled_by, stored_when_taken}
use Rattle.model_tree.specs.Seats.Seats.{HeldReply, Seat, Seats, run_of, seat_of, has_seat, held_at}
use Rattle.model.specs.declared.holding.Holding.{Holding}
use Rattle.model.specs.declared.holding.Holding.TheVariants as holdings
use Rattle.model.specs.Server.ServedOnce.{numbers_in}
use Rattle.model.specs.Sessions.Session.{Client, Table, is_client, gives_way, begin, Refuses, Replays, Runs}
use Rattle.model.specs.Sessions.SessionRuns.{CountsFrom, OthersBetween}
use Rattle.model_tree.specs.Trees.Tree.{Tree}
use Rattle.model.specs.Server.World.{ServerLimits, InProgress, Entry, Connection, Turned, Busy, one, reply_at, is_unstable}

-- A run that ended in a crash, and the seats that the crash left

pub record Stop (limits : ServerLimits) : Type 0 where
  pub run : ℕ
  pub start : Tree
  pub seats : Seats
  pub serving : Serving
  pub history : RunHistory
  pub event : Event
  pub left : Seats
  pub counted : run < 2 ^ 32
  pub begins : AreSeats run seats
  pub is_run : IsRun (mounted limits run start seats) serving history
  pub leaves : MayHoldSeats serving event left

-- what was under way, of a server that is up or that failed
abbrev pub storing : Serving → RunHistory → Event → (is_down : Bool) → Option Stored
storing serving history event true = history.torn
storing serving history event false = stored_of serving.world event

abbrev pub freeing : Serving → Event → (is_down : Bool) → List (List ℕ)
freeing serving event true = []
freeing serving event false = freed_of serving.world event

-- the replies that seats held or were to hold, and the sessions whose seats were or may be freed

abbrev pub stored_in : {limits : ServerLimits} → Stop limits → List Stored
stored_in stop = stop.history.stored
    ++ option_to_list (storing stop.serving stop.history stop.event stop.serving.is_down)

abbrev pub freed_in : {limits : ServerLimits} → Stop limits → List (List ℕ)
freed_in stop = stop.history.freed ++ freeing stop.serving stop.event stop.serving.is_down

abbrev pub executed_in : {limits : ServerLimits} → Stop limits → List Entry
executed_in stop = done_with stop.history (executed stop.serving stop.event)

-- What is held

-- the i-th reply is held, or one to a later request of its slot
pub record HoldsFrom (seats : Seats) (stored : List Stored) (i : ℕ) (one : Stored) : Type 0 where
  pub later : ℕ
  pub behind : i ≤ later
  pub reply : Stored
  pub stands : slice_get stored later ≡ Some reply
  pub session : reply.session ≡ one.session
  pub slot : reply.slot ≡ one.slot
  pub held : held_at one.session one.slot seats ≡ Some reply.held

-- the session's seat is gone, since it was freed
pub record IsFreed (seats : Seats) (freed : List (List ℕ)) (id : List ℕ) : Type 0 where
  pub gone : has_seat id seats ≡ false
  pub listed : IsAmong freed id

-- how many of its replies were stored when last nothing waited
abbrev pub settled_in : {limits : ServerLimits} → Stop limits → ℕ
settled_in stop = settled_by stop.is_run

-- The i-th is one of those. While nothing waits each one is.
abbrev pub IsSettled : {limits : ServerLimits} → Stop limits → ℕ → Type 0
IsSettled stop i = stop.serving.waits ≡ true → i < settled_in stop

-- Each reply that a seat held, and so each one that was made for a slot of a session with a seat,
-- is held by what a crash leaves, until the next of its slot is, or the seat is freed. One that was
-- stored while something waited has to last from the next flush on.
abbrev pub EveryReplyIsHeld : Type 0
EveryReplyIsHeld =
    (limits : ServerLimits) (stop : Stop limits) (i : ℕ) (one : Stored)
    → slice_get stop.history.stored i ≡ Some one → IsSettled stop i
    → HoldsFrom stop.left (stored_in stop) i one ⊎ IsFreed stop.left (freed_in stop) one.session

-- A reply is taken only while nothing waits: so each reply that was ever taken is among those.
abbrev pub EveryTakenIsSettled : Type 0
EveryTakenIsSettled =
    (limits : ServerLimits) (stop : Stop limits)
    → stored_when_taken stop.is_run ≤ settled_in stop

-- A seat that a run begins with is left as it is, or it is freed.
abbrev pub EverySeatStays : Type 0
EverySeatStays =
    (limits : ServerLimits) (stop : Stop limits) (id : List ℕ) (seat : Seat)
    → seat_of id stop.seats ≡ Some seat
    → (seat_of id stop.left ≡ Some seat) ⊎ IsFreed stop.left (freed_in stop) id

-- The seats that a crash leaves are ones that a later run may begin with.
abbrev pub EveryRunCanFollow : Type 0
EveryRunCanFollow =
    (limits : ServerLimits) (stop : Stop limits) (next : ℕ) → stop.run < next → AreSeats next stop.left

-- A session of an earlier run: what its seat holds is given to the held number and uid; all else is
-- refused, and runs nothing.

abbrev pub IsRetryOf : (uid : ℕ) → SequenceArguments → HeldReply → Type 0
IsRetryOf uid arguments held = (arguments.sequence ≡ held.number) × (uid ≡ held.uid)

abbrev pub dead_refusal : (id : List ℕ) → Seats → Status
dead_refusal id seats = if has_seat id seats then status.DeadSession else status.BadSession

pub record AnswersDead (table : Table) (id : List ℕ) (uid count : ℕ)
    (arguments : SequenceArguments) : Type 0 where
  pub gives : (held : HeldReply) → held_at id arguments.slot table.seats ≡ Some held
      → IsRetryOf uid arguments held → begin uid count arguments table ≡ Replays held.result
  pub refuses : ((held : HeldReply) → held_at id arguments.slot table.seats ≡ Some held
      → IsRetryOf uid arguments held → ⊥)
      → begin uid count arguments table ≡ Refuses (dead_refusal id table.seats)
  pub never : begin uid count arguments table ≡ Runs → ⊥

-- while it is up and nothing waits, the server has the seats that a crash would leave
pub record AnswersBySeats (serving : Serving) (run : ℕ) : Type 0 where
  pub dead : (id : List ℕ) → run_of id < run → (uid count : ℕ) (arguments : SequenceArguments)
      → arguments.session ≡ id → AnswersDead serving.world.table id uid count arguments
  pub seats : serving.waits ≡ false → (left : Left) → IsAmong serving.left left
      → left.seats ≡ serving.world.table.seats

abbrev pub EveryDeadSession : Type 0
EveryDeadSession =
    (limits : ServerLimits) (stop : Stop limits) → stop.serving.is_down ≡ false
    → AnswersBySeats stop.serving stop.run

-- A session has a seat exactly if its CREATE_SESSION returned flag 1. One that is answered again
-- makes no session.

pub record MakesSession (old new : Table) (executed : Option Entry) (answer : CreateSessionAnswer)
    : Type 0 where
  pub entry : Entry
  pub arguments : CreateSessionArguments
  pub is : executed ≡ Some entry
  pub asked : entry.operation ≡ Argument.CreateSession arguments
  pub answered : entry.outcome ≡ Outcome.Done (Answer.CreateSession answer)
  pub made : new.session_serial ≢ old.session_serial

abbrev pub EverySessionSits : Type 0
EverySessionSits =
    (limits : ServerLimits) (stop : Stop limits) → stop.serving.is_down ≡ false → (event : Event)
    → (answer : CreateSessionAnswer)
    → MakesSession stop.serving.world.table (effect_of stop.serving.world event).table
    (executed_of stop.serving.world event) answer
    → (answer.flags ≡ 1)
    ↔ (has_seat answer.session (effect_of stop.serving.world event).table.seats ≡ true)

-- A seat is freed by a DESTROY_SESSION of its session, or by a CREATE_SESSION for which it gives
-- way, that is done.
pub data GoesBy (table : Table) (id : List ℕ) (seat : Seat) : Argument → Type 0 where
  Destroyed : GoesBy table id seat (Argument.DestroySession id)
  GivesWay : (arguments : CreateSessionArguments) (client : Client)
      → find (is_client arguments.client) table.clients ≡ Some client
      → gives_way arguments client table seat ≡ true
      → GoesBy table id seat (Argument.CreateSession arguments)

pub record IsFreedBy (table : Table) (executed : Option Entry) (id : List ℕ)
    (seat : Seat) : Type 0 where
  pub entry : Entry
  pub is : executed ≡ Some entry
  pub done : is_done entry.outcome ≡ true
  pub by : GoesBy table id seat entry.operation

abbrev pub EveryFreeingIsAsked : Type 0
EveryFreeingIsAsked =
    (limits : ServerLimits) (stop : Stop limits) → stop.serving.is_down ≡ false → (event : Event)
    → (id : List ℕ) (seat : Seat) → seat_of id stop.serving.world.table.seats ≡ Some seat
    → has_seat id (effect_of stop.serving.world event).table.seats ≡ false
    → IsFreedBy stop.serving.world.table (executed_of stop.serving.world event) id seat

-- No reply before it is held

-- the seat holds what the reply gives, and the turn executed nothing
pub record IsHeldReply (turned : Turned) (connection : ℕ) (id : List ℕ) (slot : ℕ) : Type 0 where
  pub held : HeldReply
  pub xid : ℕ
  pub stands : held_at id slot turned.world.table.seats ≡ Some held
  pub stored : stored_by turned.world.table turned.keeps turned.holds
      ≡ Some (record { session = id; slot = slot; held = held })
  pub gives : reply_at turned.world connection
      ≡ Some (framed (reply_text xid (Success held.result)))
  pub alone : turned.executed ≡ None

-- a SEQUENCE that is done: from here on the request is its slot's
abbrev pub TakesItsSlot : Entry → SequenceArguments → Type 0
TakesItsSlot entry arguments =
    (entry.operation ≡ Argument.Sequence arguments) × (is_done entry.outcome ≡ true)

-- the slot keeps the reply, if there is one
abbrev pub KeepsOrNone : Turned → (connection : ℕ) → (slot : Option (List ℕ × ℕ)) → Type 0
KeepsOrNone turned connection slot =
    (reply_at turned.world connection ≡ None) ⊎ (turned.keeps ≡ slot)

-- among these operations is a change that has to last
pub record NamesChange (done : List Entry) (names : List ℕ) : Type 0 where
  pub place : ℕ
  pub entry : Entry
  pub named : IsAmong names place
  pub is : slice_get done place ≡ Some entry
  pub changes : before entry ≢ entry.after
  pub lasting : is_unstable entry.operation ≡ false

-- a seat is to hold a reply that names these
abbrev pub IsToBeHeld : Holding → (done : List Entry) → (names : List ℕ) → Type 0
IsToBeHeld holdings.Nothing done names = ⊥
IsToBeHeld holdings.Changes done names = NamesChange done names
IsToBeHeld holdings.All done names = Unit {0}

-- A turn that gives a request of a slot its reply lets the slot keep it, and if the session has a
-- seat which is to hold it, the seat does: for a request that had begun, and for a SEQUENCE that is
-- the only operation.
pub record GivesHeld (holding : Holding) (done : List Entry) (names : List ℕ) (turned : Turned)
    (connection : ℕ) (before : Option InProgress) : Type 0 where
  pub held : (id : List ℕ) (slot : ℕ) → turned.keeps ≡ Some (id, slot)
      → has_seat id turned.world.table.seats ≡ true → IsToBeHeld holding done names
      → IsHeldReply turned connection id slot
  pub kept : (request : InProgress) → before ≡ Some request → request.slot ≢ None
      → KeepsOrNone turned connection request.slot
  pub begun : (entry : Entry) (arguments : SequenceArguments) → turned.executed ≡ Some entry
      → TakesItsSlot entry arguments
      → KeepsOrNone turned connection (Some (arguments.session, arguments.slot))

abbrev pub request_in : Option Connection → Option InProgress
request_in (Some (Busy request)) = Some request
request_in _ = None

abbrev pub EveryReplyIsStored : Type 0
EveryReplyIsStored =
    (limits : ServerLimits) (stop : Stop limits) → stop.serving.is_down ≡ false
    → (connection now : ℕ)
    → GivesHeld limits.settings.holding
    (done_with stop.history (one stop.serving.world connection now).executed)
    (names_after stop.history stop.serving.world connection
    (one stop.serving.world connection now))
    (one stop.serving.world connection now) connection
    (request_in (at connection stop.serving.world.connections))

-- Runs, one after another

pub record Follows {limits : ServerLimits} (old new : Stop limits) : Type 0 where
  pub seats : new.seats ≡ old.left
  pub later : old.run < new.run

abbrev pub AreLives : {limits : ServerLimits} → Stop limits → List (Stop limits) → Type 0
AreLives first [] = Unit {0}
AreLives first (next ∷ lives) = Follows first next × AreLives next lives

-- the numbers that a slot of a session ran in all of them together

abbrev pub numbers_over : {limits : ServerLimits} → (id : List ℕ) → (slot : ℕ) → List (Stop limits)
    → List ℕ
numbers_over id slot [] = []
numbers_over id slot (stop ∷ lives) =
    numbers_in id slot (executed_in stop) ++ numbers_over id slot lives

-- They run from 1 on, each after the one before it, and so one of them runs again only after the
-- 2^32 - 1 others.
abbrev pub EveryNumberOnce : Type 0
EveryNumberOnce =
    (limits : ServerLimits) (first : Stop limits) (lives : List (Stop limits)) → AreLives first lives
    → (id : List ℕ) (slot : ℕ)
    → CountsFrom 0 (numbers_over id slot (first ∷ lives))
    × OthersBetween (numbers_over id slot (first ∷ lives))

-- the last of them, or the first if there is no other
abbrev pub last_of : {limits : ServerLimits} → Stop limits → List (Stop limits) → Stop limits
last_of first [] = first
last_of first (next ∷ lives) = last_of next lives

-- in one of them the session's seat was freed
abbrev pub WasFreed : {limits : ServerLimits} → (id : List ℕ) → List (Stop limits) → Type 0
WasFreed id [] = ⊥
WasFreed id (stop ∷ lives) = IsFreed stop.left (freed_in stop) id ⊎ WasFreed id lives

-- What was held in a run, and was settled at its crash, is held at the crash of each later one, or
-- its seat was freed on the way.
abbrev pub EveryReplyStaysHeld : Type 0
EveryReplyStaysHeld =
    (limits : ServerLimits) (first : Stop limits) (lives : List (Stop limits)) → AreLives first lives
    → (i : ℕ) (one : Stored) → slice_get first.history.stored i ≡ Some one → IsSettled first i
    → HoldsFrom (last_of first lives).left (stored_in first) i one
    ⊎ WasFreed one.session (first ∷ lives)

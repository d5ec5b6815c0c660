-- Exactly once over restarts, of a server on its device: RFC 8881, sections 2.10.6.1 and 2.10.6.5.
-- The seats that a crash leaves hold the replies that were given, and a session of an earlier run
-- runs nothing.
use Rattle.std.specs.Prelude.{ℕ, false, true, ◌↔◌, List, [], ◌∷◌, ◌++◌, length, option_to_list, slice_get, find, if◌then◌else◌, Option, Some, ◌≡◌, ◌<◌, ◌≤◌, ◌⊎◌}
use Rattle.std.specs.List.{list_any}
use Rattle.disk.specs.Moments.{Image, History}
use Rattle.layout.specs.Stands.{Kept}
use Rattle.model.specs.Operations.Answer.{CreateSessionAnswer}
use Rattle.model_tree.specs.Trees.Keyed.{at}
use Rattle.model.specs.Operations.Operation.{Argument, SequenceArguments}
use Rattle.model.specs.Server.Runs.{Event, Stored, effect_of, executed_of, is_done, done_with, names_after, taken_with}
use Rattle.model.specs.Server.Runs as runs
use Rattle.model.specs.Sessions.SeatRuns.{AreSeats, AnswersBySeats, GivesHeld, HoldsFrom, IsFreed, IsFreedBy, MakesSession, storing, freeing, request_in}
use Rattle.model_tree.specs.Seats.Seats.{Seat, Seats, seat_of, has_seat}
use Rattle.model.specs.Server.ServedOnce.{numbers_in}
use Rattle.model.specs.Sessions.Session.{Client, Table, Replays, begin, is_client, is_session, is_done_with}
use Rattle.model.specs.Sessions.SessionRuns.{CountsFrom, OthersBetween}
use Rattle.model.specs.Server.World.{Entry, one}
use Rattle.volume.specs.VolumeState.{VolumeState}
use Rattle.volume.specs.Remounts.{IsFound}
use Rattle.volume.specs.Stands.{StandsFor}
use Rattle.server.specs.Headline.{Stopped, LeftBy, IsMountedAfter, Follows, executed_in}
use Rattle.server.specs.Seen.{Seen, ServerCall, Did, IsServed, Begins, Goes_on, Fails_at, Stays_down, Keeps_on, Flushed, history_of}

-- A run that was stopped

abbrev pub history_in : Stopped → runs.RunHistory
history_in stopped = history_of stopped.first.serving.world stopped.calls

-- The replies that its seats held, and the one that was being stored; and the sessions whose seats
-- were freed, or were being freed

abbrev pub stored_in : Stopped → List Stored
stored_in stopped = (history_in stopped).stored
    ++ option_to_list (storing stopped.old.serving (history_in stopped) stopped.event
    stopped.old.serving.is_down)

abbrev pub freed_in : Stopped → List (List ℕ)
freed_in stopped = (history_in stopped).freed
    ++ freeing stopped.old.serving stopped.event stopped.old.serving.is_down

-- Of the replies that were stored, how many were when last nothing waited: a flush has kept them.
-- Those stored since then may wait for the next one.
abbrev pub settled_by : {first last : Seen} {calls : List ServerCall}
    → IsServed first calls last → ℕ
settled_by Begins = 0
settled_by {first = first} (Goes_on {calls = calls} {new = new} event said before does) =
    if new.serving.waits then settled_by before
    else length (history_of first.serving.world (Did event said ∷ calls)).stored
settled_by (Fails_at event before breaks) = settled_by before
settled_by (Stays_down connection said before gives) = settled_by before
settled_by (Keeps_on before checkpoints) = settled_by before
settled_by {first = first} (Flushed {calls = calls} before flushes) =
    length (history_of first.serving.world calls).stored

-- and how many were when a reply was taken last
abbrev pub stored_when_taken : {first last : Seen} {calls : List ServerCall}
    → IsServed first calls last → ℕ
stored_when_taken Begins = 0
stored_when_taken {first = first} (Goes_on {calls = calls} event said before does) =
    taken_with event (length (history_of first.serving.world calls).stored)
    (stored_when_taken before)
stored_when_taken (Fails_at event before breaks) = stored_when_taken before
stored_when_taken {first = first} (Stays_down {calls = calls} connection said before gives) =
    length (history_of first.serving.world calls).stored
stored_when_taken (Keeps_on before checkpoints) = stored_when_taken before
stored_when_taken (Flushed before flushes) = stored_when_taken before

-- The i-th was stored when last nothing waited. While nothing waits each one was.
abbrev pub IsSettled : Stopped → ℕ → Type 0
IsSettled stopped i = stopped.old.serving.waits ≡ true → i < settled_by stopped.served

-- A reply is taken only while nothing waits: so each reply that was ever taken is among those.
abbrev pub EveryTaken : Type 0
EveryTaken = (stopped : Stopped) → stored_when_taken stopped.served ≤ settled_by stopped.served

-- Seats that its crash left: those that an image of it represents, or that a mount since then
-- serves
pub data LeavesSeats (stopped : Stopped) : Seats → Type 0 where
  OnImage : {image : Image} {nodes run : ℕ} {kept : Kept} → LeftBy stopped image
      → StandsFor stopped.first.volume.sectors nodes run kept image → LeavesSeats stopped kept.seats
  OnMount : {device : History} {from : ℕ} {again : VolumeState} → IsMountedAfter stopped device from
      → IsFound stopped.first.volume.sectors device again → LeavesSeats stopped again.seats

-- the table of its server when the call began within which it was stopped
abbrev pub table_in : Stopped → Table
table_in stopped = stopped.old.serving.world.table

-- The server was up when the call began within which it was stopped.
abbrev pub WasUp : Stopped → Type 0
WasUp stopped = stopped.old.serving.is_down ≡ false

-- A seat that the run began with is left as it was, or it was freed.
abbrev pub EveryStays : Type 0
EveryStays =
    (stopped : Stopped) (left : Seats) → LeavesSeats stopped left → (id : List ℕ) (seat : Seat)
    → seat_of id stopped.start.seats ≡ Some seat
    → ∥ ((seat_of id left ≡ Some seat) ⊎ IsFreed left (freed_in stopped) id) ∥₁

-- What the crash leaves are seats of this run's sessions and of those before: a later run may begin
-- with them.
abbrev pub EveryFollows : Type 0
EveryFollows = (stopped : Stopped) (left : Seats) → LeavesSeats stopped left → (next : ℕ)
    → stopped.run < next → AreSeats next left

-- A session of an earlier run gets what its seat holds and is refused all else, and it runs
-- nothing; and while the server is up and nothing waits, a crash would leave the seats that its
-- replies come from.
abbrev pub EveryDead : Type 0
EveryDead = (stopped : Stopped) → WasUp stopped → AnswersBySeats stopped.old.serving stopped.run

-- A session has a seat exactly if its CREATE_SESSION returned flag 1.
abbrev pub EverySits : Type 0
EverySits = (stopped : Stopped) → WasUp stopped → (event : Event) (answer : CreateSessionAnswer)
    → MakesSession (table_in stopped) (effect_of stopped.old.serving.world event).table
    (executed_of stopped.old.serving.world event) answer
    → (answer.flags ≡ 1)
    ↔ (has_seat answer.session (effect_of stopped.old.serving.world event).table.seats ≡ true)

-- A turn that gives a request of a slot its reply lets the slot keep it, and a seat of the session
-- then holds it, if it is to: every reply, or only those that name a change that has to last.
abbrev pub EveryStored : Type 0
EveryStored = (stopped : Stopped) → WasUp stopped → (connection now : ℕ)
    → GivesHeld stopped.settings.holding
    (done_with (history_in stopped) (one stopped.old.serving.world connection now).executed)
    (names_after (history_in stopped) stopped.old.serving.world connection
    (one stopped.old.serving.world connection now))
    (one stopped.old.serving.world connection now) connection
    (request_in (at connection stopped.old.serving.world.connections))

-- A seat is freed by a DESTROY_SESSION of its session that is done, or by a CREATE_SESSION that is
-- done and for which it gives way.
abbrev pub EveryAsked : Type 0
EveryAsked = (stopped : Stopped) → WasUp stopped → (event : Event) (id : List ℕ) (seat : Seat)
    → seat_of id stopped.old.serving.world.table.seats ≡ Some seat
    → has_seat id (effect_of stopped.old.serving.world event).table.seats ≡ false
    → IsFreedBy stopped.old.serving.world.table (executed_of stopped.old.serving.world event) id
    seat

-- no such session is left, and no seat of it
abbrev pub IsNoMore : List ℕ → Table → Type 0
IsNoMore id table =
    (list_any (is_session id) table.sessions ≡ false) × (has_seat id table.seats ≡ false)

-- What ends has no seat: the session of a DESTROY_SESSION that is done, whichever run made it; each
-- session that was there before and is not after; and if a CREATE_SESSION makes a session, each
-- whose seat its client is done with, also of an earlier run.
pub record FreesEnded (old new : Table) (executed : Option Entry) : Type 0 where
  pub destroyed : (entry : Entry) (id : List ℕ) → executed ≡ Some entry
      → entry.operation ≡ Argument.DestroySession id → is_done entry.outcome ≡ true
      → IsNoMore id new
  pub ended : (id : List ℕ) → list_any (is_session id) old.sessions ≡ true
      → list_any (is_session id) new.sessions ≡ false → has_seat id new.seats ≡ false
  pub replaced : (answer : CreateSessionAnswer) (makes : MakesSession old new executed answer)
      (client : Client) → find (is_client makes.arguments.client) old.clients ≡ Some client
      → (id : List ℕ) (seat : Seat) → seat_of id old.seats ≡ Some seat
      → is_done_with client old seat ≡ true → has_seat id new.seats ≡ false

-- So a session that ends frees its seat.
abbrev pub EveryEnded : Type 0
EveryEnded = (stopped : Stopped) → WasUp stopped → (event : Event)
    → FreesEnded (table_in stopped) (effect_of stopped.old.serving.world event).table
    (executed_of stopped.old.serving.world event)

-- Runs, one after another

-- each follows after the crash of the one before it, and however many mounts that did not serve
abbrev pub AreRuns : Stopped → List Stopped → Type 0
AreRuns first [] = Unit {0}
AreRuns first (next ∷ rest) = Follows first next × AreRuns next rest

-- the last of them, or the first if there is no other
abbrev pub last_of : Stopped → List Stopped → Stopped
last_of first [] = first
last_of first (next ∷ rest) = last_of next rest

-- the numbers that a slot of a session ran in all of them together
abbrev pub numbers_over : (id : List ℕ) → (slot : ℕ) → List Stopped → List ℕ
numbers_over id slot [] = []
numbers_over id slot (stopped ∷ rest) =
    numbers_in id slot (executed_in stopped) ++ numbers_over id slot rest

-- They run from 1 on, each after the one before it, and so one of them runs again only after the
-- 2^32 - 1 others.
abbrev pub EveryOnce : Type 0
EveryOnce = (first : Stopped) (rest : List Stopped) → AreRuns first rest → (id : List ℕ) (slot : ℕ)
    → CountsFrom 0 (numbers_over id slot (first ∷ rest))
    × OthersBetween (numbers_over id slot (first ∷ rest))

-- in one of them the session's seat was freed, and so the next did not begin with it
abbrev pub WasFreed : (id : List ℕ) → Stopped → List Stopped → (left : Seats) → Type 0
WasFreed id first [] left = IsFreed left (freed_in first) id
WasFreed id first (next ∷ rest) left =
    IsFreed next.start.seats (freed_in first) id ⊎ WasFreed id next rest left

-- Each reply that a seat held in the first, and that was settled at its crash, is held by what the
-- crash of the last leaves, or the next one of its slot is, or the seat was freed on the way.
abbrev pub EveryHeld : Type 0
EveryHeld = (first : Stopped) (rest : List Stopped) → AreRuns first rest
    → (left : Seats) → LeavesSeats (last_of first rest) left → (i : ℕ) (one : Stored)
    → slice_get (history_in first).stored i ≡ Some one → IsSettled first i
    → ∥ (HoldsFrom left (stored_in first) i one ⊎ WasFreed one.session first rest left) ∥₁

-- A reply, or one to a later request of its slot, is given when it is asked for again: under the
-- number and by the uid that it is held for
pub record IsGivenAgain (table : Table) (stored : List Stored) (i : ℕ) (one : Stored)
    : Type 0 where
  pub holds : HoldsFrom table.seats stored i one
  pub gives : (count : ℕ) (arguments : SequenceArguments) → arguments.session ≡ one.session
      → arguments.slot ≡ one.slot → arguments.sequence ≡ holds.reply.held.number
      → begin holds.reply.held.uid count arguments table ≡ Replays holds.reply.held.result

-- So it is in each later run, at each moment, unless the seat was freed on the way.
abbrev pub EveryRetried : Type 0
EveryRetried = (first next : Stopped) (rest : List Stopped) → AreRuns first (next ∷ rest)
    → WasUp (last_of next rest) → (i : ℕ) (one : Stored)
    → slice_get (history_in first).stored i ≡ Some one → IsSettled first i
    → ∥ (IsGivenAgain (table_in (last_of next rest)) (stored_in first) i one
    ⊎ WasFreed one.session first (next ∷ rest) (table_in (last_of next rest)).seats) ∥₁

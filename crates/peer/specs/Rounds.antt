-- A round: each key has one step, in order. Each peer that has bytes is given a turn.
use Rattle.std.specs.Prelude.{ℕ, suc, ◌<◌, ◌==◌, List, [], ◌∷◌, Option, Some, None, Ok, ◌≡◌, ◌⊎◌, if◌then◌else◌}
use Rattle.disk.specs.declared.device.Device.{Ghosts}
use Rattle.model.specs.Server.Runs.{Arrives, Turns}
use Rattle.server.specs.Refused.{connection_at, view}
use Rattle.server.specs.Seen.{ServerCall, Did, Failed}
use Rattle.server.specs.declared.server.Server.{Server}
use Rattle.peer.specs.Calls.{Goes}
use Rattle.peer.specs.Steps.{AnyMoment, AreOn, EndsPeer, HasBytes, all_by, count_by, shown_by, turns_by}
use Rattle.peer.specs.declared.pace.Pace.{Pace}
use Rattle.peer.specs.declared.pace.Pace.TheVariants as paces
use Rattle.peer.specs.declared.peer.Peer.{Peer}
use Rattle.peer.specs.declared.peer.Stage.TheVariants as stages
use Rattle.peer.specs.declared.peer.Step.{Step}
use Rattle.peer.specs.declared.peer.Step.TheVariants as steps
use Rattle.peer.specs.declared.stream.Stream as stream

-- Calls

abbrev pub AnyCalls : List ServerCall → Type 0
AnyCalls calls = Unit {0}

-- On the connection of this peer, exactly one of them a turn. If it gathers, the server was shown
-- all of its bytes, in one piece.
abbrev pub HaveOneTurn : {S : Type 0} {h : stream.Ghosts S} → Peer S h → List ServerCall → Type 0
HaveOneTurn peer calls =
    AreOn AnyMoment peer.conn calls × (count_by turns_by calls ≡ 1)
    × (peer.stage ≡ stages.Gathers → all_by shown_by calls ≡ peer.inbox ∷ [])

-- one of them is such
abbrev pub Among : (ServerCall → Type 0) → List ServerCall → Type 0
Among is [] = ⊥
Among is (call ∷ calls) = is call ⊎ Among is calls

abbrev pub IsTurnOf : (connection : ℕ) → ServerCall → Type 0
IsTurnOf connection (Did (Turns number now) said) = number ≡ connection
IsTurnOf connection (Did event said) = ⊥
IsTurnOf connection (Failed event) = ⊥

abbrev pub Shows : (connection : ℕ) → (piece : List ℕ) → ServerCall → Type 0
Shows connection piece (Did (Arrives number shown) said) = (number ≡ connection) × (shown ≡ piece)
Shows connection piece (Did event said) = ⊥
Shows connection piece (Failed event) = ⊥

-- On any connection, among them a turn of this peer's. If it gathers, the server was shown all of
-- its bytes, in one piece.
abbrev pub HaveTurn : {S : Type 0} {h : stream.Ghosts S} → Peer S h → List ServerCall → Type 0
HaveTurn peer calls =
    Among (IsTurnOf peer.conn) calls
    × (peer.stage ≡ stages.Gathers → Among (Shows peer.conn peer.inbox) calls)

-- Steps

-- A peer that stays was given a turn if it had bytes, of which those that waited were shown to the
-- server, and was not to end, unless there was no memory.
pub record StaysOn {D S : Type 0} {g : Ghosts D} {h : stream.Ghosts S} (keeps : Type 0)
    (old new : Server D g) (peer left : Peer S h) (pace : Pace) : Type 0 where
  pub conn : left.conn ≡ peer.conn
  pub turned : HasBytes peer → (pace ≡ paces.Pauses → ⊥)
      → Goes keeps old new (HaveOneTurn peer)
  pub over : peer.stage ≡ stages.Ends → pace ≡ paces.Pauses

-- One that ended had a reason (`Reason`), and the server has its connection no longer.
pub record HasEnded {D S : Type 0} {g : Ghosts D} {h : stream.Ghosts S} (keeps : Type 0)
    (old new : Server D g) (peer : Peer S h) : Type 0 where
  pub left : Peer S h
  pub ends : EndsPeer keeps AnyMoment old new peer left (Ok steps.Ended)
  pub gone : connection_at (view new) peer.conn ≡ None

-- What a key has before its step and after it, by what the step returns: nothing if no peer has the
-- key.
abbrev pub Leaves : {D S : Type 0} {g : Ghosts D} {h : stream.Ghosts S} → (keeps : Type 0)
    → (old new : Server D g) → (before after : Option (Peer S h)) → Option Step → Type 0
Leaves keeps old new before after None = (before ≡ None) × (after ≡ None)
Leaves {S = S} {h = h} keeps old new before after (Some steps.Ended) =
    (peer : Peer S h) × (before ≡ Some peer) × (after ≡ None) × HasEnded keeps old new peer
Leaves {S = S} {h = h} keeps old new before after (Some (steps.Stays pace)) =
    (peer : Peer S h) × (left : Peer S h) × (before ≡ Some peer) × (after ≡ Some left)
    × StaysOn keeps old new peer left pace

-- A step of a key. Each other key keeps what it had.
pub record StepsKey {D S : Type 0} {g : Ghosts D} {h : stream.Ghosts S} (keeps : Type 0)
    (key : ℕ) (old new : Server D g) (before after : ℕ → Option (Peer S h)) (step : Option Step)
    : Type 0 where
  pub goes : Goes keeps old new AnyCalls
  pub here : Leaves keeps old new (before key) (after key) step
  pub others : (other : ℕ) → (other ≡ key → ⊥) → after other ≡ before other

-- Rounds

-- each key below the count has had a step, in order
pub data IsRound {D S : Type 0} {g : Ghosts D} {h : stream.Ghosts S} (keeps : Type 0)
    (first : Server D g) (peers : ℕ → Option (Peer S h))
    : (count : ℕ) → Server D g → (ℕ → Option (Peer S h)) → Type 0 where
  Begins : IsRound keeps first peers 0 first peers
  Steps_on : {count : ℕ} {old new : Server D g} {before after : ℕ → Option (Peer S h)}
      (step : Option Step) → IsRound keeps first peers count old before
      → StepsKey keeps count old new before after step
      → IsRound keeps first peers (suc count) new after

-- what the step of a key returned
abbrev pub step_of : {D S : Type 0} {g : Ghosts D} {h : stream.Ghosts S} {keeps : Type 0}
    {first : Server D g} {peers : ℕ → Option (Peer S h)} {count : ℕ} {last : Server D g}
    {after : ℕ → Option (Peer S h)} → IsRound keeps first peers count last after → (key : ℕ)
    → Option Step
step_of Begins key = None
step_of (Steps_on {count = count} step round steps_key) key =
    if key == count then step else step_of round key

-- a peer that ended within a round
pub record EndedWithin {D S : Type 0} {g : Ghosts D} {h : stream.Ghosts S} (keeps : Type 0)
    (first last : Server D g) (peer : Peer S h) : Type 0 where
  pub old : Server D g
  pub new : Server D g
  pub until : Goes keeps first old AnyCalls
  pub ended : HasEnded keeps old new peer
  pub since : Goes keeps new last AnyCalls

-- In the round a peer was given a turn, or it ended, or its step returned that there was no memory.
abbrev pub HadTurn : {D S : Type 0} {g : Ghosts D} {h : stream.Ghosts S} → (keeps : Type 0)
    → (first last : Server D g) → (peer : Peer S h) → (left : Option (Peer S h)) → Option Step
    → Type 0
HadTurn keeps first last peer left step =
    Goes keeps first last (HaveTurn peer)
    ⊎ ((left ≡ None) × EndedWithin keeps first last peer)
    ⊎ (step ≡ Some (steps.Stays paces.Pauses))

-- It has ended in the round, or its step returned that there was no memory.
abbrev pub HadEnd : {D S : Type 0} {g : Ghosts D} {h : stream.Ghosts S} → (keeps : Type 0)
    → (first last : Server D g) → (peer : Peer S h) → (left : Option (Peer S h)) → Option Step
    → Type 0
HadEnd keeps first last peer left step =
    ((left ≡ None) × EndedWithin keeps first last peer)
    ⊎ (step ≡ Some (steps.Stays paces.Pauses))

-- Each that had bytes when the round began was given a turn, and each that had been dismissed ended,
-- or its step paused.
abbrev pub EveryRound : {D S : Type 0} {g : Ghosts D} {h : stream.Ghosts S} → (keeps : Type 0)
    → (first : Server D g) → (peers : ℕ → Option (Peer S h)) → Type 0
EveryRound {D = D} {S = S} {g = g} {h = h} keeps first peers =
    (count : ℕ) (last : Server D g) (after : ℕ → Option (Peer S h))
    (round : IsRound keeps first peers count last after) (key : ℕ) (peer : Peer S h)
    → key < count → peers key ≡ Some peer
    → (HasBytes peer → HadTurn keeps first last peer (after key) (step_of round key))
    × (peer.stage ≡ stages.Ends → HadEnd keeps first last peer (after key) (step_of round key))

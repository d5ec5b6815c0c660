-- What a step of a peer does: which bytes it takes from its stream and shows the server, which it
-- writes, and why it sleeps or ends.
use Rattle.std.specs.Prelude.{ℕ, ◌+◌, ◌<◌, ◌≤◌, List, [], ◌∷◌, ◌++◌, length, take, ◌≡◌, ◌⊎◌, Option, Some, None, Result, Ok, Err, IfErr, OnOk, true, false}
use Rattle.std.specs.Global.{Vec}
use Rattle.std.specs.Io.KnownBytes.{Appends, Consumes}
use Rattle.std.specs.declared.io.ErrorKind.{ErrorKind}
use Rattle.std.specs.declared.io.ErrorKind.TheVariants as kinds
use Rattle.disk.specs.declared.device.Device.{Ghosts}
use Rattle.model.specs.Server.Runs.{Arrives, Turns, Takes}
use Rattle.model.specs.Server.World.{Closed}
use Rattle.server.specs.Refused.{connection_at, view}
use Rattle.server.specs.Seen.{ServerCall, Did, Failed, Took, Gave}
use Rattle.server.specs.Views.{volume_of, waits_of}
use Rattle.server.specs.declared.server.Server.{Server}
use Rattle.system.specs.declared.refused.Refused.{Refused}
use Rattle.system.specs.declared.refused.Refused.TheVariants as refusals
use Rattle.peer.specs.Calls.{Goes, AreSomeTurns, IsEnd}
use Rattle.peer.specs.Streams.{IsOver}
use Rattle.peer.specs.declared.pace.Pace.{Pace}
use Rattle.peer.specs.declared.pace.Pace.TheVariants as paces
use Rattle.peer.specs.declared.peer.Parting.{Parting}
use Rattle.peer.specs.declared.peer.Parting.TheVariants as partings
use Rattle.peer.specs.declared.peer.Peer.{Peer}
use Rattle.peer.specs.declared.peer.Stage.{Stage}
use Rattle.peer.specs.declared.peer.Stage.TheVariants as stages
use Rattle.peer.specs.declared.peer.Step.{Step}
use Rattle.peer.specs.declared.peer.Step.TheVariants as steps
use Rattle.peer.specs.declared.stream.Stream as stream

-- The calls of a step

abbrev pub AnyMoment : ℕ → Type 0
AnyMoment moment = Unit {0}

-- each is of this connection, a turn at one of these moments, and none is a hang-up
abbrev pub IsOn : (moments : ℕ → Type 0) → (connection : ℕ) → ServerCall → Type 0
IsOn moments connection (Did (Arrives number piece) said) = number ≡ connection
IsOn moments connection (Did (Turns number now) said) = (number ≡ connection) × moments now
IsOn moments connection (Did (Takes number) said) = number ≡ connection
IsOn moments connection (Did event said) = ⊥
IsOn moments connection (Failed event) = ⊥

abbrev pub AreOn : (moments : ℕ → Type 0) → (connection : ℕ) → List ServerCall → Type 0
AreOn moments connection [] = Unit {0}
AreOn moments connection (call ∷ calls) =
    IsOn moments connection call × AreOn moments connection calls

-- the pieces that the server was shown
abbrev pub shown_by : ServerCall → List (List ℕ)
shown_by (Did (Arrives number piece) said) = piece ∷ []
shown_by _ = []

-- the bytes that it took of them
abbrev pub taken_by : ServerCall → List ℕ
taken_by (Did (Arrives number piece) (Took (Some count))) = take count piece
taken_by _ = []

-- the pieces with which it closed the connection
abbrev pub closings_by : ServerCall → ℕ
closings_by (Did (Arrives number piece) (Took None)) = 1
closings_by _ = 0

abbrev pub turns_by : ServerCall → ℕ
turns_by (Did (Turns number now) said) = 1
turns_by _ = 0

-- how often a reply was asked for
abbrev pub takes_by : ServerCall → ℕ
takes_by (Did (Takes number) said) = 1
takes_by _ = 0

-- the bytes of the reply that it gave
abbrev pub given_by : ServerCall → List ℕ
given_by (Did (Takes number) (Gave (Some reply))) = reply
given_by _ = []

-- and so of calls, of which the newest is the first
abbrev pub all_by : {A : Type 0} → (ServerCall → List A) → List ServerCall → List A
all_by by [] = []
all_by by (call ∷ calls) = all_by by calls ++ by call

abbrev pub count_by : (ServerCall → ℕ) → List ServerCall → ℕ
count_by by [] = 0
count_by by (call ∷ calls) = count_by by calls + by call

-- what comes and goes in a step
pub record Tally : Type 0 where
  pub came : List ℕ
  pub shown : List (List ℕ)
  pub taken : List ℕ
  pub closings : ℕ
  pub turns : ℕ
  pub takes : ℕ
  pub given : List ℕ
  pub written : List ℕ

-- the calls are those that it counts
pub record IsTallied (moments : ℕ → Type 0) (connection : ℕ) (tally : Tally)
    (calls : List ServerCall) : Type 0 where
  pub on : AreOn moments connection calls
  pub shown : all_by shown_by calls ≡ tally.shown
  pub taken : all_by taken_by calls ≡ tally.taken
  pub closings : count_by closings_by calls ≡ tally.closings
  pub turns : count_by turns_by calls ≡ tally.turns
  pub takes : count_by takes_by calls ≡ tally.takes
  pub given : all_by given_by calls ≡ tally.given

-- the bytes of a reply, and of none
abbrev pub bytes_of : Option (Vec ℕ) → List ℕ
bytes_of (Some reply) = reply.items
bytes_of None = []

-- what is left of the reply that goes out
abbrev pub unsent : Stage → List ℕ
unsent (stages.Replies reply) = reply
unsent stages.Gathers = []
unsent stages.Runs = []
unsent stages.Made = []
unsent stages.Ends = []

-- Bytes

-- What had waited and what came is what the server took and what waits now; what was left of a
-- reply and what it gave is what was written and what is left now. All in order, by the server's
-- calls.
pub record Carries {D S : Type 0} {g : Ghosts D} {h : stream.Ghosts S} (keeps : Type 0)
    (moments : ℕ → Type 0) (old new : Server D g) (before after : Peer S h) (tally : Tally)
    : Type 0 where
  pub calls : Goes keeps old new (IsTallied moments before.conn tally)
  pub consumed : Consumes (h.coming before.stream) (h.coming after.stream) tally.came
  pub fed : tally.taken ++ after.inbox ≡ before.inbox ++ tally.came
  pub appended : Appends (h.gone before.stream) (h.gone after.stream) tally.written
  pub sent : tally.written ++ unsent after.stage ≡ unsent before.stage ++ tally.given
  pub conn : after.conn ≡ before.conn
  pub ends : after.stage ≡ stages.Ends → before.stage ≡ stages.Ends

-- each piece that the server was shown is all that had waited and all that came
abbrev pub AreAll : (waiting : List ℕ) → List (List ℕ) → Type 0
AreAll waiting [] = Unit {0}
AreAll waiting (piece ∷ pieces) = (piece ≡ waiting) × AreAll waiting pieces

-- there was a turn, or a write, or a reply was asked for; or else a signal came
pub data HasWorked {S : Type 0} {h : stream.Ghosts S} (peer : Peer S h) (tally : Tally)
    : Type 0 where
  Turned : 0 < tally.turns → HasWorked peer tally
  Asked : 0 < tally.takes → HasWorked peer tally
  Wrote : 0 < length tally.written → HasWorked peer tally
  Read_broken : h.read_told peer.stream (Some kinds.Interrupted) ≡ true → HasWorked peer tally
  Write_broken : h.write_told peer.stream (Some kinds.Interrupted) ≡ true → HasWorked peer tally

-- Sleep

-- it gathers, no byte waits, and its last read reported that none had come
pub record WaitsToRead {S : Type 0} {h : stream.Ghosts S} (peer : Peer S h) : Type 0 where
  pub gathers : peer.stage ≡ stages.Gathers
  pub none : peer.inbox ≡ []
  pub noted : peer.can_read ≡ false
  pub told : h.read_told peer.stream (Some kinds.WouldBlock) ≡ true

-- a reply goes out, and its last write reported that there was no room
pub record WaitsToWrite {S : Type 0} {h : stream.Ghosts S} (peer : Peer S h) : Type 0 where
  pub reply : List ℕ
  pub replies : peer.stage ≡ stages.Replies reply
  pub noted : peer.can_write ≡ false
  pub told : h.write_told peer.stream (Some kinds.WouldBlock) ≡ true

-- its reply is made, and something waits for a flush
pub record WaitsForFlush {D S : Type 0} {g : Ghosts D} {h : stream.Ghosts S} (server : Server D g)
    (peer : Peer S h) : Type 0 where
  pub made : peer.stage ≡ stages.Made
  pub waits : waits_of server ≡ true

pub data IsStuck {D S : Type 0} {g : Ghosts D} {h : stream.Ghosts S} (server : Server D g)
    (peer : Peer S h) : Type 0 where
  To_read : WaitsToRead peer → IsStuck server peer
  To_write : WaitsToWrite peer → IsStuck server peer
  To_flush : WaitsForFlush server peer → IsStuck server peer

-- Ends

-- Why a peer ends, by what was tallied since: it was dismissed, or could not be hung up before; its
-- stream ended or failed; or the server closed its connection with these bytes, had done so, or
-- has none.
pub data Reason {D S : Type 0} {g : Ghosts D} {h : stream.Ghosts S} (tally : Tally)
    (server : Server D g) (peer : Peer S h) : Type 0 where
  Dismissed : peer.stage ≡ stages.Ends → Reason tally server peer
  Read_over : (told : Option ErrorKind) → IsOver told → h.read_told peer.stream told ≡ true
      → Reason tally server peer
  Write_over : (told : Option ErrorKind) → IsOver told → h.write_told peer.stream told ≡ true
      → Reason tally server peer
  Closes : 0 < tally.closings → Reason tally server peer
  Was_closed : connection_at (view server) peer.conn ≡ Some Closed → Reason tally server peer
  Has_none : connection_at (view server) peer.conn ≡ None → Reason tally server peer

-- why a peer is not served on
abbrev pub Parts : {D S : Type 0} {g : Ghosts D} {h : stream.Ghosts S} → Tally → Server D g
    → Peer S h → Parting → Type 0
Parts tally server peer partings.Peer = Reason tally server peer
Parts tally server peer partings.Device = (volume_of server).is_down ≡ true
Parts tally server peer partings.Memory = Unit {0}
Parts tally server peer partings.Clock = Unit {0}

-- Bytes that were read wait for the server, or it has some among which a turn may find a whole
-- request. No reply waits or goes out.
abbrev pub HasBytes : {S : Type 0} {h : stream.Ghosts S} → Peer S h → Type 0
HasBytes peer =
    (peer.stage ≡ stages.Runs) ⊎ ((peer.stage ≡ stages.Gathers) × (peer.inbox ≡ [] → ⊥))

-- Of a peer that gathers the server was shown what had waited and what came, all of it in one piece,
-- if that is any byte.
abbrev pub IsFed : {S : Type 0} {h : stream.Ghosts S} → (before : Peer S h) → Tally → Type 0
IsFed before tally =
    before.stage ≡ stages.Gathers → (before.inbox ++ tally.came ≡ [] → ⊥)
    → tally.shown ≡ (before.inbox ++ tally.came) ∷ []

-- why it was not: the server has no such connection, or the device failed
abbrev pub IsUnfed : {D S : Type 0} {g : Ghosts D} {h : stream.Ghosts S} → Server D g → Peer S h
    → Result Pace Parting → Type 0
IsUnfed server peer (Ok pace) = ⊥
IsUnfed server peer (Err partings.Peer) = connection_at (view server) peer.conn ≡ None
IsUnfed server peer (Err partings.Device) = (volume_of server).is_down ≡ true
IsUnfed server peer (Err partings.Memory) = ⊥
IsUnfed server peer (Err partings.Clock) = ⊥

-- bytes came, or its last read reported that none had, an error, or the end of the stream
abbrev pub HasRead : {S : Type 0} {h : stream.Ghosts S} → Peer S h → Tally → Type 0
HasRead {h = h} peer tally =
    (0 < length tally.came)
    ⊎ ((told : Option ErrorKind) × (h.read_told peer.stream told ≡ true))

-- What a step does until it ends the peer: it shows the server each byte once, and gives at most
-- one turn, at one of these moments, and exactly one if the peer has bytes and no error comes. If
-- the peer gathers, it shows all bytes that there are; if the peer has some, it reads none.
pub record Advances {D S : Type 0} {g : Ghosts D} {h : stream.Ghosts S} (keeps : Type 0)
    (moments : ℕ → Type 0) (old new : Server D g) (before after : Peer S h)
    (result : Result Pace Parting) : Type 0 where
  pub tally : Tally
  pub carries : Carries keeps moments old new before after tally
  pub shown : AreAll (before.inbox ++ tally.came) tally.shown
  pub few : tally.turns ≤ 1
  pub turned : HasBytes before → OnOk result (tally.turns ≡ 1)
  pub feeds : IsFed before tally ⊎ IsUnfed new after result
  pub unread : HasBytes before → tally.came ≡ []
  pub works : result ≡ Ok paces.Goes → HasWorked after tally
  pub parts : IfErr result (Parts tally new after)

-- the same, and it reads if the peer gathers and has no byte
pub record Reads {D S : Type 0} {g : Ghosts D} {h : stream.Ghosts S} (keeps : Type 0)
    (moments : ℕ → Type 0) (old new : Server D g) (before after : Peer S h)
    (result : Result Pace Parting) : Type 0 where
  pub advances : Advances keeps moments old new before after result
  pub reads : before.stage ≡ stages.Gathers → before.inbox ≡ [] → HasRead after advances.tally

-- the same of what reads nothing, and shows the server nothing
pub record Runs {D S : Type 0} {g : Ghosts D} {h : stream.Ghosts S} (keeps : Type 0)
    (moments : ℕ → Type 0) (old new : Server D g) (before after : Peer S h)
    (result : Result Pace Parting) : Type 0 where
  pub advances : Advances keeps moments old new before after result
  pub unread : advances.tally.came ≡ []
  pub unshown : advances.tally.shown ≡ []

-- and of what gives no turn, at any moment
pub record GivesNoTurn {D S : Type 0} {g : Ghosts D} {h : stream.Ghosts S} (keeps : Type 0)
    (old new : Server D g) (before after : Peer S h) (result : Result Pace Parting) : Type 0 where
  pub tally : Tally
  pub carries : Carries keeps (λ moment. ⊥) old new before after tally
  pub unread : tally.came ≡ []
  pub unshown : tally.shown ≡ []
  pub unturned : tally.turns ≡ 0
  pub works : result ≡ Ok paces.Goes → HasWorked after tally
  pub parts : IfErr result (Parts tally new after)

-- of its reply it sends a prefix, once
pub record Sends {S : Type 0} {h : stream.Ghosts S} (before after : Peer S h)
    (result : Result Pace Parting) : Type 0 where
  pub written : List ℕ
  pub appended : Appends (h.gone before.stream) (h.gone after.stream) written
  pub sent : written ++ unsent after.stage ≡ unsent before.stage
  pub works : result ≡ Ok paces.Goes → (0 < length written)
      ⊎ (h.write_told after.stream (Some kinds.Interrupted) ≡ true)
  pub over : IfErr result (λ parting. (parting ≡ partings.Peer)
      × ((told : Option ErrorKind) × IsOver told × (h.write_told after.stream told ≡ true)))
  pub same : (after.conn ≡ before.conn) × (after.inbox ≡ before.inbox)
      × (h.coming after.stream ≡ h.coming before.stream)
  pub stays : after.stage ≡ stages.Ends → ⊥

abbrev pub IsReplying : Stage → Type 0
IsReplying stage = (reply : List ℕ) × (stage ≡ stages.Replies reply)

-- By what a step returns: a hang-up, or turns after which there was no memory, or no call
abbrev pub IsEndBy : (moments : ℕ → Type 0) → Result Step Refused → (connection : ℕ)
    → List ServerCall → Type 0
IsEndBy moments (Ok steps.Ended) connection = IsEnd moments connection
IsEndBy moments (Ok (steps.Stays pace)) connection = AreSomeTurns moments connection
IsEndBy moments (Err refused) connection = AreSomeTurns moments connection

-- A peer ends: as far as it came, for this reason, and its connection is hung up then, at one of
-- these moments.
pub record EndsPeer {D S : Type 0} {g : Ghosts D} {h : stream.Ghosts S} (keeps : Type 0)
    (moments : ℕ → Type 0) (old new : Server D g) (before after : Peer S h)
    (result : Result Step Refused) : Type 0 where
  pub between : Server D g
  pub left : Peer S h
  pub tally : Tally
  pub carries : Carries keeps moments old between before left tally
  pub shown : AreAll (before.inbox ++ tally.came) tally.shown
  pub few : tally.turns ≤ 1
  pub feeds : IsFed before tally ⊎ (connection_at (view between) left.conn ≡ None)
  pub unread : HasBytes before → tally.came ≡ []
  pub reads : before.stage ≡ stages.Gathers → before.inbox ≡ [] → HasRead left tally
  pub reason : Reason tally between left
  pub hung : Goes keeps between new (IsEndBy moments result left.conn)
  pub same : (after.stream ≡ left.stream) × (after.inbox ≡ left.inbox) × (after.conn ≡ left.conn)

-- One that ends already, since it was dismissed or could not be hung up before: no byte comes or
-- goes.
pub record EndsAgain {D S : Type 0} {g : Ghosts D} {h : stream.Ghosts S} (keeps : Type 0)
    (moments : ℕ → Type 0) (old new : Server D g) (before after : Peer S h)
    (result : Result Step Refused) : Type 0 where
  pub hung : Goes keeps old new (IsEndBy moments result before.conn)
  pub same : (after.stream ≡ before.stream) × (after.inbox ≡ before.inbox)
      × (after.conn ≡ before.conn)
  pub stage : after.stage ≡ stages.Ends

-- no error came, and there was memory
abbrev pub HadMemory : Result Step Refused → Type 0
HadMemory result = (pace : Pace) × (result ≡ Ok (steps.Stays pace)) × (pace ≡ paces.Pauses → ⊥)

-- a step that leaves a peer to be served on
pub record ServesOn {D S : Type 0} {g : Ghosts D} {h : stream.Ghosts S} (keeps : Type 0)
    (moments : ℕ → Type 0) (old new : Server D g) (before after : Peer S h)
    (result : Result Step Refused) : Type 0 where
  pub tally : Tally
  pub carries : Carries keeps moments old new before after tally
  pub shown : AreAll (before.inbox ++ tally.came) tally.shown
  pub few : tally.turns ≤ 1
  pub turned : HasBytes before → HadMemory result → tally.turns ≡ 1
  pub feeds : IsFed before tally ⊎ (result ≡ Err refusals.Device)
  pub unread : HasBytes before → tally.came ≡ []
  pub reads : before.stage ≡ stages.Gathers → before.inbox ≡ [] → HasRead after tally
  pub works : result ≡ Ok (steps.Stays paces.Goes) → HasWorked after tally

-- a peer that stays does not end with its next step, unless there was no memory
abbrev pub StaysServed : {S : Type 0} {h : stream.Ghosts S} → Peer S h → Step → Type 0
StaysServed after step =
    (pace : Pace) → step ≡ steps.Stays pace → (pace ≡ paces.Pauses → ⊥) → after.stage ≡ stages.Ends
    → ⊥

-- an error is the clock's, or the device's
abbrev pub FailsBy : {D : Type 0} {g : Ghosts D} → Server D g → Refused → Type 0
FailsBy server refused =
    (refused ≡ refusals.Io)
    ⊎ ((refused ≡ refusals.Device) × ((volume_of server).is_down ≡ true))

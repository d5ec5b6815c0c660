-- What the calls of `Peers` that are no steps leave of the peers.
use Rattle.std.specs.Prelude.{ℕ, Bool, ◌||◌, [], Option, Some, None, MatchOption, ◌≡◌}
use Rattle.std.specs.declared.time.Instant.{Instant}
use Rattle.disk.specs.declared.device.Device.{Ghosts}
use Rattle.server.specs.declared.server.Server.{Server}
use Rattle.peer.specs.Calls.{Goes}
use Rattle.peer.specs.Peers.{PeerBegins, IsSame}
use Rattle.peer.specs.Rounds.{AnyCalls}
use Rattle.peer.specs.declared.peer.Peer.{Peer}
use Rattle.peer.specs.declared.peer.Stage.TheVariants as stages
use Rattle.peer.specs.declared.stream.Stream as stream

-- the same peers, whatever calls of the server were made
pub record LeavesPeers {D S : Type 0} {g : Ghosts D} {h : stream.Ghosts S} (keeps : Type 0)
    (old new : Server D g) (before after : ℕ → Option (Peer S h)) : Type 0 where
  pub goes : Goes keeps old new AnyCalls
  pub same : (key : ℕ) → after key ≡ before key

-- One peer changes so, if there is one of this key. Each other key keeps what it had, and no call
-- of the server is made.
pub record ChangesPeer {D S : Type 0} {g : Ghosts D} {h : stream.Ghosts S} (key : ℕ)
    (change : Peer S h → Peer S h → Type 0) (old new : Server D g)
    (before after : ℕ → Option (Peer S h)) : Type 0 where
  pub uncalled : new ≡ old
  pub here : MatchOption (before key) (after key ≡ None) (λ peer.
      (left : Peer S h) × (after key ≡ Some left) × change peer left)
  pub others : (other : ℕ) → (other ≡ key → ⊥) → after other ≡ before other

-- its stream may be read again, or written to
pub record IsWoken {S : Type 0} {h : stream.Ghosts S} (can_read can_write : Bool)
    (before after : Peer S h) : Type 0 where
  pub read : after.can_read ≡ (before.can_read || can_read)
  pub write : after.can_write ≡ (before.can_write || can_write)
  pub same : IsSame before after
  pub stage : after.stage ≡ before.stage
  pub answered : after.answered ≡ before.answered

-- it ends with its next step: of the bytes that it has none is served any more
pub record IsDismissed {S : Type 0} {h : stream.Ghosts S} (before after : Peer S h) : Type 0 where
  pub stage : after.stage ≡ stages.Ends
  pub same : IsSame before after
  pub answered : after.answered ≡ before.answered
  pub can_read : after.can_read ≡ before.can_read
  pub can_write : after.can_write ≡ before.can_write

-- One peer more, by this stream, of which nothing has come yet. Its key was free, and each other
-- key keeps what it had.
pub record AddsPeer {D S : Type 0} {g : Ghosts D} {h : stream.Ghosts S} (keeps : Type 0)
    (key : ℕ) (stream : S) (now : Instant) (old new : Server D g)
    (before after : ℕ → Option (Peer S h)) : Type 0 where
  pub goes : Goes keeps old new AnyCalls
  pub peer : Peer S h
  pub free : before key ≡ None
  pub here : after key ≡ Some peer
  pub others : (other : ℕ) → (other ≡ key → ⊥) → after other ≡ before other
  pub begins : PeerBegins peer
  pub by : peer.stream ≡ stream
  pub empty : peer.inbox ≡ []
  pub heard : peer.heard ≡ now

-- A peer between two steps.
use Rattle.std.specs.Prelude.{ℕ, ◌-◌, ◌*◌, ◌≤◌, List, [], ◌≡◌, None, true, false, if◌then◌else◌}
use Rattle.std.specs.Time.{instant_nanos}
use Rattle.std.specs.declared.time.Instant.{Instant}
use Rattle.peer.specs.declared.peer.Peer.{Peer}
use Rattle.peer.specs.declared.peer.Stage.{Stage}
use Rattle.peer.specs.declared.peer.Stage.TheVariants as stages
use Rattle.peer.specs.declared.stream.Stream as stream

-- one to which nothing has come yet
pub record PeerBegins {S : Type 0} {h : stream.Ghosts S} (peer : Peer S h) : Type 0 where
  pub gathers : peer.stage ≡ stages.Gathers
  pub can_read : peer.can_read ≡ true
  pub can_write : peer.can_write ≡ true
  pub no_half : peer.has_half ≡ false
  pub none_answered : peer.answered ≡ None

-- what stays the same, except in a step
pub record IsSame {S : Type 0} {h : stream.Ghosts S} (before after : Peer S h) : Type 0 where
  pub conn : after.conn ≡ before.conn
  pub stream : after.stream ≡ before.stream
  pub inbox : after.inbox ≡ before.inbox
  pub keeping : after.keeping ≡ before.keeping
  pub has_half : after.has_half ≡ before.has_half
  pub heard : after.heard ≡ before.heard

-- for how long it has been quiet, and may be while another one waits for its place, in seconds: ten
-- minutes within the bytes of a record, and one otherwise

abbrev pub quiet_nanos : {S : Type 0} {h : stream.Ghosts S} → Peer S h → Instant → ℕ
quiet_nanos peer now = instant_nanos now - instant_nanos peer.heard

abbrev pub patience : {S : Type 0} {h : stream.Ghosts S} → Peer S h → ℕ
patience peer = if peer.has_half then 600 else 60

-- it waits for bytes, or for its stream to take those of a reply
abbrev pub WaitsFor : Stage → (inbox : List ℕ) → Type 0
WaitsFor stages.Gathers inbox = inbox ≡ []
WaitsFor (stages.Replies reply) inbox = Unit {0}
WaitsFor stages.Runs inbox = ⊥
WaitsFor stages.Made inbox = ⊥
WaitsFor stages.Ends inbox = ⊥

-- and has done so for that long
pub record IsSpare {S : Type 0} {h : stream.Ghosts S} (peer : Peer S h) (now : Instant)
    : Type 0 where
  pub waits : WaitsFor peer.stage peer.inbox
  pub long : patience peer * 1_000_000_000 ≤ quiet_nanos peer now

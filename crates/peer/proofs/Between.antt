-- What calls that are no steps leave of the peers in a slab.
use Rattle.std.proofs.Common.{◌≡◌, ℕ, List, [], Option, None, Some, MatchOption, ap, refl, sym, subst, ◌∙◌}
use Rattle.slab.specs.Slab.{Slab, Updates, get, with_value}
use Rattle.std.specs.Prelude.{slice_index_or}
use Rattle.std.specs.declared.time.Instant.{Instant}
use Rattle.disk.specs.declared.device.Device.{Ghosts}
use Rattle.server.specs.Seen.{ServerCall}
use Rattle.server.specs.declared.server.Server.{Server}
use Rattle.peer.specs.Between.{AddsPeer, ChangesPeer, LeavesPeers}
use Rattle.peer.specs.Calls.{Goes}
use Rattle.peer.specs.Peers.{PeerBegins}
use Rattle.peer.specs.declared.peer.Peer.{Peer}
use Rattle.peer.specs.declared.stream.Stream as stream
use Rattle.peer.proofs.Made.{not_called}
use Rattle.peer.proofs.Rounds.{any_calls}
use Rattle.peer.proofs.Served.{IsChanged}
use Rattle.peer.proofs.Serving.{changed_at, changed_by}

same_slots : {S : Type 0} {h : stream.Ghosts S} (slab after : Slab (Peer S h)) → after ≡ record slab { capacity = after.capacity } → (key : ℕ) → get after key ≡ get slab key
same_slots {S = S} {h = h} slab after same key = ap (λ (slots : List (Option (Peer S h))). slice_index_or slots key None) (ap (λ (s : Slab (Peer S h)). s.slots) same)

module _ {D S : Type 0} {g : Ghosts D} {h : stream.Ghosts S} {keeps : Type 0} where
  -- the slab is as it was
  pub leaves_all : {old new : Server D g} {kind : List ServerCall → Type 0} (peers : ℕ → Option (Peer S h)) → Goes keeps old new kind → LeavesPeers keeps old new peers peers
  leaves_all {kind = kind} peers goes = record { goes = any_calls kind goes; same = λ key. refl }

  -- or has more room
  pub leaves_room : {old new : Server D g} {kind : List ServerCall → Type 0} (slab after : Slab (Peer S h)) → after ≡ record slab { capacity = after.capacity } → Goes keeps old new kind
      → LeavesPeers keeps old new (get slab) (get after)
  leaves_room {kind = kind} slab after same goes = record { goes = any_calls kind goes; same = same_slots slab after same }

  pub leaves_uncalled : (server : Server D g) (slab after : Slab (Peer S h)) → after ≡ record slab { capacity = after.capacity } → LeavesPeers keeps server server (get slab) (get after)
  leaves_uncalled server slab after same = leaves_room {old = server} {new = server} slab after same (not_called server)

  -- one more, after the slab has room
  pub adds : {old new : Server D g} {kind : List ServerCall → Type 0} (slab room after : Slab (Peer S h)) (key : ℕ) (stream : S) (now : Instant) (peer : Peer S h)
      → room ≡ record slab { capacity = room.capacity } → get room key ≡ None → Updates room after key (Some peer)
      → PeerBegins peer → peer.stream ≡ stream → peer.inbox ≡ [] → peer.heard ≡ now → Goes keeps old new kind
      → AddsPeer keeps key stream now old new (get slab) (get after)
  adds {kind = kind} slab room after key stream now peer same free updates begins by empty heard goes =
      let is : IsChanged (get room) (get after) key (Some peer) = changed_by room after key (Some peer) updates in
      record {
        goes = any_calls kind goes;
        peer = peer;
        free = sym (same_slots slab room same key) ∙ free;
        here = is.here;
        others = λ other apart. is.others other apart ∙ same_slots slab room same other;
        begins = begins;
        by = by;
        empty = empty;
        heard = heard;
      }

-- a peer that was lent
pub changes : {D S : Type 0} {g : Ghosts D} {h : stream.Ghosts S} (server : Server D g) (slab : Slab (Peer S h)) (key : ℕ) (before after : Peer S h) (change : Peer S h → Peer S h → Type 0)
    → Some before ≡ get slab key → change before after → ChangesPeer key change server server (get slab) (get (with_value slab key after))
changes {S = S} {h = h} server slab key before after change was is =
    let lent : IsChanged (get slab) (get (with_value slab key after)) key (Some after) = changed_at slab key before after was in
    record {
      uncalled = refl;
      here = subst (λ (slot : Option (Peer S h)). MatchOption slot (get (with_value slab key after) key ≡ None) (λ peer.
          (left : Peer S h) × (get (with_value slab key after) key ≡ Some left) × change peer left)) was (after, lent.here, is);
      others = lent.others;
    }

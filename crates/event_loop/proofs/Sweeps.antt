-- Calls that give no peer a step, and what the steps after them make of a round.
use Rattle.std.proofs.Common.{◌≡◌, ◌≢◌, ℕ, Bool, Option, Some, None, MatchOption, inl, inr, ap, refl, sym, subst, ◌∙◌}
use Rattle.std.proofs.lemmas.Bool.{cases_eq}
use Rattle.std.proofs.lemmas.Option.{same_Some}
use Rattle.disk.specs.declared.device.Device.{Ghosts}
use Rattle.server.specs.declared.server.Server.{Server}
use Rattle.slab.specs.Slab.{get}
use Rattle.std.specs.declared.time.Instant.{Instant}
use Rattle.peer.proofs.Rounds.{any_then}
use Rattle.peer.specs.Between.{AddsPeer, ChangesPeer, IsDismissed, IsWoken, LeavesPeers}
use Rattle.peer.specs.Peers.{IsSame}
use Rattle.peer.specs.Served.{ServesFurther, ServesOneMore}
use Rattle.peer.specs.declared.peer.Peer.{Peer}
use Rattle.peer.specs.declared.peers.Peers.{Peers}
use Rattle.peer.specs.declared.stream.Stream as stream
use Rattle.event_loop.specs.Runs.{GoesAny, HadRound, HadTurns, IsFound, KeepsPeers, MeetsPeers, RunsOn}
use Rattle.event_loop.proofs.AnyCalls.{goes_none}
use Rattle.event_loop.proofs.Runs.{runs_further, runs_joined, runs_none, runs_then}

-- One peer

module _ {S : Type 0} {h : stream.Ghosts S} where
  same_peer : (peer : Peer S h) → IsSame peer peer
  same_peer peer = record { conn = refl; stream = refl; inbox = refl; keeping = refl; has_half = refl; heard = refl }

  same_then : (one two three : Peer S h) → IsSame one two → IsSame two three → IsSame one three
  same_then one two three first then = record {
    conn = then.conn ∙ first.conn;
    stream = then.stream ∙ first.stream;
    inbox = then.inbox ∙ first.inbox;
    keeping = then.keeping ∙ first.keeping;
    has_half = then.has_half ∙ first.has_half;
    heard = then.heard ∙ first.heard;
  }

  found_same : (way : Type 0) (peer : Peer S h) → IsFound way peer peer
  found_same way peer = record { same = same_peer peer; stage = inl refl }

  -- found by calls of which none dismissed it, and then by others
  found_then : (none way : Type 0) (one two three : Peer S h) → (none → ⊥) → IsFound none one two → IsFound way two three → IsFound way one three
  found_then none way one two three never first then = record {
    same = same_then one two three first.same then.same;
    stage = elim first.stage [
      | inl is ↦ elim then.stage [ inl same ↦ inl (same ∙ is) | inr ends ↦ inr ends ]
      | inr ends ↦ absurd (never ends.0)
    ];
  }

-- All peers

-- a peer that was there is there, as it will be found
abbrev AreFound : {S : Type 0} {h : stream.Ghosts S} → (way : Option ℕ) → (before after : ℕ → Option (Peer S h)) → Type 0
AreFound {S = S} {h = h} way before after =
    (key : ℕ) (peer : Peer S h) → before key ≡ Some peer → (left : Peer S h) × (after key ≡ Some left) × IsFound (way ≡ Some key) peer left

module _ {S : Type 0} {h : stream.Ghosts S} (before after : ℕ → Option (Peer S h)) where
  all_same : ((key : ℕ) → after key ≡ before key) → AreFound None before after
  all_same same key peer held = (peer, same key ∙ held, found_same (None ≡ Some key) peer)

  -- one changes
  module _ (key : ℕ) (change : Peer S h → Peer S h → Type 0) (others : (other : ℕ) → (other ≡ key → ⊥) → after other ≡ before other) (way : Option ℕ)
      (found : (peer left : Peer S h) → change peer left → IsFound (way ≡ Some key) peer left) where
    found_here : (slot : Option (Peer S h)) (peer : Peer S h) → MatchOption slot (after key ≡ None) (λ peer. (left : Peer S h) × (after key ≡ Some left) × change peer left) → slot ≡ Some peer
        → (left : Peer S h) × (after key ≡ Some left) × IsFound (way ≡ Some key) peer left
    found_here None peer here held = let never : ⊥ = cc in absurd never
    found_here (Some was) peer here held =
        (here.0, here.1, found peer here.0 (subst (λ (p : Peer S h). change p here.0) (same_Some was peer held) here.2))

    one_changed : MatchOption (before key) (after key ≡ None) (λ peer. (left : Peer S h) × (after key ≡ Some left) × change peer left) → AreFound way before after
    one_changed here other peer held = elim (cases_eq other key) [
      | inl same ↦
          let at_key : (left : Peer S h) × (after key ≡ Some left) × IsFound (way ≡ Some key) peer left = found_here (before key) peer here (sym (ap before same) ∙ held) in
          subst (λ (k : ℕ). (left : Peer S h) × (after k ≡ Some left) × IsFound (way ≡ Some k) peer left) (sym same) at_key
      | inr apart ↦ (peer, others other apart ∙ held, found_same (way ≡ Some other) peer)
    ]

changed_goes : {D : Type 0} {g : Ghosts D} {keeps : Type 0} (old new : Server D g) → new ≡ old → GoesAny keeps old new
changed_goes {D = D} {g = g} {keeps = keeps} old new same = subst (λ (server : Server D g). GoesAny keeps old server) (sym same) (goes_none old)

no_way : (key : ℕ) → (None ≡ Some key) → ⊥
no_way key is = cc

module _ {D S : Type 0} {g : Ghosts D} {h : stream.Ghosts S} {keeps : Type 0} where
  pub keeps_none : (all : Peers D S g h) → KeepsPeers keeps None all all
  keeps_none all = record { calls = runs_none all; goes = goes_none all.server; found = all_same (get all.peers) (get all.peers) (λ key. refl) }

  -- first these, then those
  pub keeps_then : {way : Option ℕ} {old between new : Peers D S g h} → KeepsPeers keeps None old between → KeepsPeers keeps way between new → KeepsPeers keeps way old new
  keeps_then {way = way} {old = old} {between = between} {new = new} one two = record {
    calls = runs_then one.calls two.calls;
    goes = any_then one.goes two.goes;
    found = λ key peer held.
        let first = one.found key peer held in
        let then = two.found key first.0 first.1 in
        (then.0, then.1, found_then (None ≡ Some key) (way ≡ Some key) peer first.0 then.0 (no_way key) first.2 then.2);
  }

  -- One call

  pub keeps_same : (old new : Peers D S g h) → ServesFurther keeps old.server new.server (get old.peers) (get new.peers)
      → LeavesPeers keeps old.server new.server (get old.peers) (get new.peers) → KeepsPeers keeps None old new
  keeps_same old new further leaves = record { calls = runs_further old new further; goes = leaves.goes; found = all_same (get old.peers) (get new.peers) leaves.same }

  pub keeps_woken : (old new : Peers D S g h) (key : ℕ) (can_read can_write : Bool) → ServesFurther keeps old.server new.server (get old.peers) (get new.peers)
      → ChangesPeer key (IsWoken can_read can_write) old.server new.server (get old.peers) (get new.peers) → KeepsPeers keeps None old new
  keeps_woken old new key can_read can_write further wakes = record {
    calls = runs_further old new further;
    goes = changed_goes old.server new.server wakes.uncalled;
    found = one_changed (get old.peers) (get new.peers) key (IsWoken can_read can_write) wakes.others None
        (λ peer left woken. record { same = woken.same; stage = inl woken.stage }) wakes.here;
  }

  pub keeps_dismissed : (old new : Peers D S g h) (key : ℕ) → ServesFurther keeps old.server new.server (get old.peers) (get new.peers)
      → ChangesPeer key IsDismissed old.server new.server (get old.peers) (get new.peers) → KeepsPeers keeps (Some key) old new
  keeps_dismissed old new key further dismisses = record {
    calls = runs_further old new further;
    goes = changed_goes old.server new.server dismisses.uncalled;
    found = one_changed (get old.peers) (get new.peers) key IsDismissed dismisses.others (Some key)
        (λ peer left dismissed. record { same = dismissed.same; stage = inr (refl, dismissed.stage) }) dismisses.here;
  }

  pub keeps_joined : (old new : Peers D S g h) (key : ℕ) (stream : S) (now : Instant) → ServesOneMore keeps old.server new.server stream (get old.peers) (get new.peers)
      → AddsPeer keeps key stream now old.server new.server (get old.peers) (get new.peers) → KeepsPeers keeps None old new
  keeps_joined old new key stream now one adds = record {
    calls = runs_joined old new stream one;
    goes = adds.goes;
    found = λ other peer held.
        let apart : other ≢ key = λ same. let clash : None ≡ Some peer = sym adds.free ∙ (sym (ap (get old.peers) same) ∙ held) in let never : ⊥ = cc in never in
        (peer, adds.others other apart ∙ held, found_same (None ≡ Some other) peer);
  }

  pub meets : {old new : Peers D S g h} → KeepsPeers keeps None old new → MeetsPeers keeps old new
  meets kept = (None, kept)

  -- A round

  pub round_of : {old met new : Peers D S g h} → MeetsPeers keeps old met → HadTurns keeps met new → HadRound keeps old new
  round_of {met = met} meets had = record { way = meets.0; met = met; kept = meets.1; between = had.between; round = had.round; goes = had.goes }

  -- and calls before it and since
  pub round_then : {old between new : Peers D S g h} → HadRound keeps old between → RunsOn keeps between new → HadRound keeps old new
  round_then had more = record { way = had.way; met = had.met; kept = had.kept; between = had.between; round = had.round; goes = runs_then had.goes more }

  pub round_since : {old between new : Peers D S g h} → KeepsPeers keeps None old between → HadRound keeps between new → HadRound keeps old new
  round_since kept had = record { way = had.way; met = had.met; kept = keeps_then kept had.kept; between = had.between; round = had.round; goes = had.goes }

-- What the peers of a server were served, after a step of one, one more that came, and an end.
use Rattle.std.proofs.Common.{◌≡◌, ◌≢◌, ℕ, inl, inr, true, false, List, [], ◌∷◌, ◌++◌, Option, None, Some, is_some, refl, sym, ap, subst, ◌∙◌, append-nil, eq-eqb, ne_eqb}
use Rattle.std.proofs.lemmas.Bool.{cases_eq}
use Rattle.std.proofs.lemmas.Option.{same_Some}
use Rattle.std.specs.Io.KnownBytes.{Appends, Consumes}
use Rattle.disk.specs.declared.device.Device.{Ghosts}
use Rattle.model_tree.specs.Trees.Keyed.{at}
use Rattle.model_tree.proofs.Trees.KeyedLaws.{at-first, at-rest}
use Rattle.model.specs.Server.Runs.{Arrives, Turns, HangsUp, Connects, Takes}
use Rattle.model.specs.Server.World.{World, can_connect}
use Rattle.server.specs.Seen.{ServerCall, Did, Failed, Done, world_after}
use Rattle.server.specs.declared.server.Server.{Server}
use Rattle.peer.specs.Calls.{AreTurns, IsTurn, IsEndAt, IsEnd}
use Rattle.peer.specs.Peers.{PeerBegins}
use Rattle.peer.specs.Served.{IsLeft, IsThere, WasServed, HasPeer, AreServed, since}
use Rattle.peer.specs.Steps.{AnyMoment, IsOn, AreOn, all_by, taken_by, given_by, unsent, Tally, IsTallied, Carries}
use Rattle.peer.specs.declared.peer.Peer.{Peer}
use Rattle.peer.specs.declared.peer.Stage.{Stage}
use Rattle.peer.specs.declared.peer.Stage.TheVariants as stages
use Rattle.peer.specs.declared.stream.Stream as stream
use Rattle.peer.proofs.Places.{IsAsBefore, apart_from, calls_keep, calls_leave, connected, event_keeps, event_leaves}
use Rattle.peer.proofs.Tallies.{all-append, appends_none, appends_then, consumes_none, consumes_then, in_order}

-- The calls on a connection since it was made

own : (moments : ℕ → Type 0) (connection : ℕ) (call : ServerCall) (calls : List ServerCall) → IsOn moments connection call → since connection (call ∷ calls) ≡ call ∷ since connection calls
own moments connection (Did (Arrives number piece) said) calls on = rw (eq-eqb number connection on) refl
own moments connection (Did (Turns number now) said) calls on = rw (eq-eqb number connection on.0) refl
own moments connection (Did (Takes number) said) calls on = rw (eq-eqb number connection on) refl
own moments connection (Did (HangsUp number) said) calls on = absurd on
own moments connection (Did (Connects number) said) calls on = absurd on
own moments connection (Failed event) calls on = absurd on

since-own : (moments : ℕ → Type 0) (connection : ℕ) (more calls : List ServerCall) → AreOn moments connection more → since connection (more ++ calls) ≡ more ++ since connection calls
since-own moments connection [] calls on = refl
since-own moments connection (call ∷ more) calls on =
    own moments connection call (more ++ calls) on.0 ∙ ap (λ (rest : List ServerCall). call ∷ rest) (since-own moments connection more calls on.1)

another : (moments : ℕ → Type 0) (connection other : ℕ) (call : ServerCall) (calls : List ServerCall) → IsOn moments connection call → other ≢ connection
    → since other (call ∷ calls) ≡ since other calls
another moments connection other (Did (Arrives number piece) said) calls on apart = rw (ne_eqb number other (λ same. apart (sym same ∙ on))) refl
another moments connection other (Did (Turns number now) said) calls on apart = rw (ne_eqb number other (λ same. apart (sym same ∙ on.0))) refl
another moments connection other (Did (Takes number) said) calls on apart = rw (ne_eqb number other (λ same. apart (sym same ∙ on))) refl
another moments connection other (Did (HangsUp number) said) calls on apart = absurd on
another moments connection other (Did (Connects number) said) calls on apart = absurd on
another moments connection other (Failed event) calls on apart = absurd on

since-other : (moments : ℕ → Type 0) (connection other : ℕ) (more calls : List ServerCall) → AreOn moments connection more → other ≢ connection
    → since other (more ++ calls) ≡ since other calls
since-other moments connection other [] calls on apart = refl
since-other moments connection other (call ∷ more) calls on apart =
    another moments connection other call (more ++ calls) on.0 apart ∙ since-other moments connection other more calls on.1 apart

-- turns are on their connection, and take and give nothing

is_on : (connection now : ℕ) (call : ServerCall) → IsTurn connection now call → IsOn AnyMoment connection call
is_on connection now (Did (Turns number moment) said) is = (is.0, tt)
is_on connection now (Did (Arrives number piece) said) is = absurd is
is_on connection now (Did (HangsUp number) said) is = absurd is
is_on connection now (Did (Connects number) said) is = absurd is
is_on connection now (Did (Takes number) said) is = absurd is
is_on connection now (Failed event) is = absurd is

pub are_on : (connection now : ℕ) (calls : List ServerCall) → AreTurns connection now calls → AreOn AnyMoment connection calls
are_on connection now [] are = tt
are_on connection now (call ∷ calls) are = (is_on connection now call are.0, are_on connection now calls are.1)

takes_none : (connection now : ℕ) (call : ServerCall) → IsTurn connection now call → taken_by call ≡ []
takes_none connection now (Did (Turns number moment) said) is = refl
takes_none connection now (Did (Arrives number piece) said) is = absurd is
takes_none connection now (Did (HangsUp number) said) is = absurd is
takes_none connection now (Did (Connects number) said) is = absurd is
takes_none connection now (Did (Takes number) said) is = absurd is
takes_none connection now (Failed event) is = absurd is

gives_none : (connection now : ℕ) (call : ServerCall) → IsTurn connection now call → given_by call ≡ []
gives_none connection now (Did (Turns number moment) said) is = refl
gives_none connection now (Did (Arrives number piece) said) is = absurd is
gives_none connection now (Did (HangsUp number) said) is = absurd is
gives_none connection now (Did (Connects number) said) is = absurd is
gives_none connection now (Did (Takes number) said) is = absurd is
gives_none connection now (Failed event) is = absurd is

none_by : (by : ServerCall → List ℕ) (connection now : ℕ) → ((call : ServerCall) → IsTurn connection now call → by call ≡ [])
    → (calls : List ServerCall) → AreTurns connection now calls → all_by by calls ≡ []
none_by by connection now none [] are = refl
none_by by connection now none (call ∷ calls) are =
    ap (λ (part : List ℕ). part ++ by call) (none_by by connection now none calls are.1) ∙ none call are.0

-- What is left of replies

left_unsent : (stage : Stage) (rest : List ℕ) → (stage ≡ stages.Ends → ⊥) → IsLeft stage rest → rest ≡ unsent stage
left_unsent stages.Gathers rest stays left = left
left_unsent stages.Runs rest stays left = left
left_unsent stages.Made rest stays left = left
left_unsent (stages.Replies reply) rest stays left = left
left_unsent stages.Ends rest stays left = absurd (stays refl)

unsent_left : (stage : Stage) (rest : List ℕ) → rest ≡ unsent stage → IsLeft stage rest
unsent_left stages.Gathers rest is = is
unsent_left stages.Runs rest is = is
unsent_left stages.Made rest is = is
unsent_left (stages.Replies reply) rest is = is
unsent_left stages.Ends rest is = tt

-- One peer

module _ {S : Type 0} {h : stream.Ghosts S} (streams : List (ℕ × S)) where
  -- calls of others are nothing to it
  same_calls : (calls new : List ServerCall) (peer : Peer S h) → since peer.conn new ≡ since peer.conn calls → WasServed streams calls peer
      → WasServed streams new peer
  same_calls calls new peer same was = record {
    began = was.began;
    came = was.came;
    written = was.written;
    rest = was.rest;
    came_by = was.came_by;
    read = was.read;
    fed = ap (λ (mine : List ServerCall). all_by taken_by mine ++ peer.inbox) same ∙ was.fed;
    wrote = was.wrote;
    sent = was.sent ∙ ap (all_by given_by) (sym same);
    left = was.left;
  }

  -- its own calls, which take or give these bytes
  grown : (moments : ℕ → Type 0) (by : ServerCall → List ℕ) (calls more : List ServerCall) (before after : Peer S h) (bytes : List ℕ) → after.conn ≡ before.conn
      → AreOn moments before.conn more → all_by by more ≡ bytes
      → all_by by (since after.conn (more ++ calls)) ≡ all_by by (since before.conn calls) ++ bytes
  grown moments by calls more before after bytes conn on is =
      ap (λ (connection : ℕ). all_by by (since connection (more ++ calls))) conn
      ∙ (ap (all_by by) (since-own moments before.conn more calls on)
      ∙ (all-append by more (since before.conn calls) ∙ ap (λ (rest : List ℕ). all_by by (since before.conn calls) ++ rest) is))

  pub stepped : {D : Type 0} {g : Ghosts D} {keeps : Type 0} (moments : ℕ → Type 0) {old new : Server D g} (calls more : List ServerCall) (before after : Peer S h) (tally : Tally)
      → (before.stage ≡ stages.Ends → ⊥) → Carries keeps moments old new before after tally → IsTallied moments before.conn tally more
      → WasServed streams calls before → WasServed streams (more ++ calls) after
  stepped moments calls more before after tally stays carries are was = record {
    began = was.began;
    came = was.came ++ tally.came;
    written = was.written ++ tally.written;
    rest = unsent after.stage;
    came_by = ap (λ (connection : ℕ). at connection streams) carries.conn ∙ was.came_by;
    read = consumes_then (h.coming was.began) (h.coming before.stream) (h.coming after.stream) was.came tally.came was.read carries.consumed;
    fed = ap (λ (part : List ℕ). part ++ after.inbox) (grown moments taken_by calls more before after tally.taken carries.conn are.on are.taken)
        ∙ in_order (all_by taken_by (since before.conn calls)) tally.taken [] before.inbox after.inbox was.came tally.came was.fed carries.fed;
    wrote = appends_then (h.gone was.began) (h.gone before.stream) (h.gone after.stream) was.written tally.written was.wrote carries.appended;
    sent = in_order was.written tally.written [] (unsent before.stage) (unsent after.stage) (all_by given_by (since before.conn calls)) tally.given
        (ap (λ (rest : List ℕ). was.written ++ rest) (sym (left_unsent before.stage was.rest stays was.left)) ∙ was.sent) carries.sent
        ∙ sym (grown moments given_by calls more before after tally.given carries.conn are.on are.given);
    left = unsent_left after.stage (unsent after.stage) refl;
  }

  -- it ends, but stays, and its turns take and give nothing
  pub turned_on : (calls more : List ServerCall) (before after : Peer S h) (now : ℕ) → AreTurns before.conn now more
      → (after.stream ≡ before.stream) × (after.inbox ≡ before.inbox) × (after.conn ≡ before.conn) → after.stage ≡ stages.Ends
      → WasServed streams calls before → WasServed streams (more ++ calls) after
  turned_on calls more before after now are same ends was =
      let on : AreOn AnyMoment before.conn more = are_on before.conn now more are in
      record {
        began = was.began;
        came = was.came;
        written = was.written;
        rest = was.rest;
        came_by = ap (λ (connection : ℕ). at connection streams) same.2 ∙ was.came_by;
        read = subst (λ (s : S). Consumes (h.coming was.began) (h.coming s) was.came) (sym same.0) was.read;
        fed = ap (λ (part : List ℕ). part ++ after.inbox)
            (grown AnyMoment taken_by calls more before after [] same.2 on (none_by taken_by before.conn now (takes_none before.conn now) more are)
            ∙ append-nil (all_by taken_by (since before.conn calls)))
            ∙ (ap (λ (inbox : List ℕ). all_by taken_by (since before.conn calls) ++ inbox) same.1 ∙ was.fed);
        wrote = subst (λ (s : S). Appends (h.gone was.began) (h.gone s) was.written) (sym same.0) was.wrote;
        sent = was.sent ∙ sym (grown AnyMoment given_by calls more before after [] same.2 on (none_by given_by before.conn now (gives_none before.conn now) more are)
            ∙ append-nil (all_by given_by (since before.conn calls)));
        left = subst (λ (stage : Stage). IsLeft stage was.rest) (sym ends) tt;
      }

-- All peers

-- one key has another peer or none, and each other key has what it had
pub record IsChanged {S : Type 0} {h : stream.Ghosts S} (old new : ℕ → Option (Peer S h)) (key : ℕ) (slot : Option (Peer S h)) : Type 0 where
  pub here : new key ≡ slot
  pub others : (other : ℕ) → other ≢ key → new other ≡ old other

-- a peer that was there, or comes from one that was
record WasAt {S : Type 0} {h : stream.Ghosts S} (old : ℕ → Option (Peer S h)) (key : ℕ) (peer : Peer S h) : Type 0 where
  was : Peer S h
  held : old key ≡ Some was
  conn : peer.conn ≡ was.conn

module _ {S : Type 0} {h : stream.Ghosts S} (start : World) (streams : List (ℕ × S)) (old new : ℕ → Option (Peer S h)) (key : ℕ) (before : Peer S h)
    (there : old key ≡ Some before) (calls more : List ServerCall) (are : AreServed start streams old calls) where
  -- what another peer was served
  others_served : (peer : Peer S h) (other : ℕ) → old other ≡ Some peer → other ≢ key → since peer.conn (more ++ calls) ≡ since peer.conn calls
      → WasServed streams (more ++ calls) peer
  others_served peer other held apart same = same_calls streams calls (more ++ calls) peer same (are.each other peer held)

  others_apart : (peer : Peer S h) (other : ℕ) → old other ≡ Some peer → other ≢ key → peer.conn ≢ before.conn
  others_apart peer other held apart same = apart (are.apart other key peer before held there same)

  -- the peer of another connection has another key, and is there still
  others_kept : ((other : ℕ) → other ≢ key → new other ≡ old other) → (connection : ℕ) → connection ≢ before.conn → is_some (at connection streams) ≡ true
      → IsThere connection (world_after start calls) → HasPeer new connection
  others_kept others connection apart came still =
      let had : HasPeer old connection = are.kept connection came still in
      let other_key : had.key ≢ key = λ same.
      let is : had.peer ≡ before = same_Some had.peer before (sym had.held ∙ (ap old same ∙ there)) in
      apart (sym had.on ∙ ap (λ (p : Peer S h). p.conn) is) in
      record { key = had.key; peer = had.peer; held = others had.key other_key ∙ had.held; on = had.on }

  -- a step, by its calls
  module _ (moments : ℕ → Type 0) (after : Peer S h) (is : IsChanged old new key (Some after)) (conn : after.conn ≡ before.conn) (on : AreOn moments before.conn more)
      (steps : WasServed streams calls before → WasServed streams (more ++ calls) after) where
    at_key : (other : ℕ) (peer : Peer S h) → new other ≡ Some peer → other ≡ key → after ≡ peer
    at_key other peer found same = same_Some after peer (sym is.here ∙ (ap new (sym same) ∙ found))

    was_at : (other : ℕ) (peer : Peer S h) → new other ≡ Some peer → WasAt old other peer
    was_at other peer found = elim (cases_eq other key) [
      | inl same ↦ record {
        was = before;
        held = ap old same ∙ there;
        conn = ap (λ (p : Peer S h). p.conn) (sym (at_key other peer found same)) ∙ conn;
      }
      | inr apart ↦ record { was = peer; held = sym (is.others other apart) ∙ found; conn = refl }
    ]

    pub step_served : AreServed start streams new (more ++ calls)
    step_served = record {
      each = λ other peer found. elim (cases_eq other key) [
        | inl same ↦ subst (WasServed streams (more ++ calls)) (at_key other peer found same) (steps (are.each key before there))
        | inr apart ↦
            let held : old other ≡ Some peer = sym (is.others other apart) ∙ found in
            others_served peer other held apart (since-other moments before.conn peer.conn more calls on (others_apart peer other held apart))
      ];
      there = λ other peer found.
          let at_old : WasAt old other peer = was_at other peer found in
          subst (λ (connection : ℕ). IsThere connection (world_after start (more ++ calls))) (sym at_old.conn)
          (calls_keep moments start at_old.was.conn before.conn more calls on (are.there other at_old.was at_old.held));
      apart = λ one other peer another found too same.
          let first : WasAt old one peer = was_at one peer found in
          let second : WasAt old other another = was_at other another too in
          are.apart one other first.was second.was first.held second.held (sym first.conn ∙ (same ∙ second.conn));
      kept = λ connection came still. elim (cases_eq connection before.conn) [
        | inl mine ↦ record { key = key; peer = after; held = is.here; on = conn ∙ sym mine }
        | inr other ↦
            others_kept is.others connection other came
            (ap is_some (sym (calls_leave moments start connection before.conn more calls on other)) ∙ still)
      ];
    }

  -- an end, by its calls
  module _ (is : IsChanged old new key None) where
    was_there : (other : ℕ) (peer : Peer S h) → new other ≡ Some peer → (other ≢ key) × (old other ≡ Some peer)
    was_there other peer found =
        let apart : other ≢ key = λ same. let clash : None ≡ Some peer = sym is.here ∙ (ap new (sym same) ∙ found) in let never : ⊥ = cc in never in
        (apart, sym (is.others other apart) ∙ found)

    pub end_served : ((connection : ℕ) → connection ≢ before.conn → since connection (more ++ calls) ≡ since connection calls)
        → ((connection : ℕ) → connection ≢ before.conn → IsAsBefore start connection more calls)
        → at before.conn (world_after start (more ++ calls)).connections ≡ None
        → AreServed start streams new (more ++ calls)
    end_served same places gone = record {
      each = λ other peer found.
          let held = was_there other peer found in
          others_served peer other held.1 held.0 (same peer.conn (others_apart peer other held.1 held.0));
      there = λ other peer found.
          let held = was_there other peer found in
          ap is_some (places peer.conn (others_apart peer other held.1 held.0)) ∙ are.there other peer held.1;
      apart = λ one other peer another found too conns.
          are.apart one other peer another (was_there one peer found).1 (was_there other another too).1 conns;
      kept = λ connection came still.
          let apart : connection ≢ before.conn = λ mine.
          let clash : false ≡ true = sym (ap is_some gone) ∙ (ap (λ (c : ℕ). is_some (at c (world_after start (more ++ calls)).connections)) (sym mine) ∙ still) in
          let never : ⊥ = cc in
          never in
          others_kept is.others connection apart came (ap is_some (sym (places connection apart)) ∙ still);
    }

-- the calls of an end are nothing to others

end_at_since : (connection other now : ℕ) (more calls : List ServerCall) → IsEndAt connection now more → other ≢ connection → since other (more ++ calls) ≡ since other calls
end_at_since connection other now more calls (inr turns) apart = since-other AnyMoment connection other more calls (are_on connection now more turns) apart
end_at_since connection other now [] calls (inl up) apart = absurd up
end_at_since connection other now (call ∷ more) calls (inl up) apart =
    subst (λ (c : ServerCall). since other (c ∷ (more ++ calls)) ≡ since other calls) (sym up.0)
    (rw (ne_eqb connection other (λ same. apart (sym same))) (since-other AnyMoment connection other more calls (are_on connection now more up.1) apart))

pub end_since : (moments : ℕ → Type 0) (connection other : ℕ) (more calls : List ServerCall) → IsEnd moments connection more → other ≢ connection
    → since other (more ++ calls) ≡ since other calls
end_since moments connection other more calls (inl none) apart = ap (λ (more : List ServerCall). since other (more ++ calls)) none
end_since moments connection other more calls (inr (now, shows, ends)) apart = end_at_since connection other now more calls ends apart

end_at_leaves : (start : World) (connection other now : ℕ) (more calls : List ServerCall) → IsEndAt connection now more → other ≢ connection → IsAsBefore start other more calls
end_at_leaves start connection other now more calls (inr turns) apart = calls_leave AnyMoment start other connection more calls (are_on connection now more turns) apart
end_at_leaves start connection other now [] calls (inl up) apart = absurd up
end_at_leaves start connection other now (call ∷ more) calls (inl up) apart =
    subst (λ (c : ServerCall). IsAsBefore start other (c ∷ more) calls) (sym up.0)
    (event_leaves (world_after start (more ++ calls)) other (HangsUp connection) apart
    ∙ calls_leave AnyMoment start other connection more calls (are_on connection now more up.1) apart)

pub end_leaves : (moments : ℕ → Type 0) (start : World) (connection other : ℕ) (more calls : List ServerCall) → IsEnd moments connection more → other ≢ connection
    → IsAsBefore start other more calls
end_leaves moments start connection other more calls (inl none) apart = subst (λ (more : List ServerCall). IsAsBefore start other more calls) (sym none) refl
end_leaves moments start connection other more calls (inr (now, shows, ends)) apart = end_at_leaves start connection other now more calls ends apart

-- One more peer

module _ {S : Type 0} {h : stream.Ghosts S} (start : World) (streams : List (ℕ × S)) (old new : ℕ → Option (Peer S h)) (key : ℕ) (peer : Peer S h)
    (free : old key ≡ None) (is : IsChanged old new key (Some peer)) (begins : PeerBegins peer) (empty : peer.inbox ≡ [])
    (calls : List ServerCall) (can : can_connect (world_after start calls) peer.conn ≡ true) (are : AreServed start streams old calls) where
  abbrev more : List (ℕ × S)
  more = (peer.conn, peer.stream) ∷ streams

  abbrev now : List ServerCall
  now = Did (Connects peer.conn) Done ∷ calls

  new_served : WasServed more now peer
  new_served = record {
    began = peer.stream;
    came = [];
    written = [];
    rest = [];
    came_by = at-first peer.conn peer.conn peer.stream streams refl;
    read = consumes_none (h.coming peer.stream);
    fed = rw (eq-eqb peer.conn peer.conn refl) empty;
    wrote = appends_none (h.gone peer.stream);
    sent = rw (eq-eqb peer.conn peer.conn refl) refl;
    left = subst (λ (stage : Stage). IsLeft stage []) (sym begins.gathers) refl;
  }

  apart_new : (other : ℕ) (one : Peer S h) → old other ≡ Some one → one.conn ≢ peer.conn
  apart_new other one held = apart_from (world_after start calls) peer.conn one.conn can (are.there other one held)

  old_served : (other : ℕ) (one : Peer S h) → old other ≡ Some one → WasServed more now one
  old_served other one held =
      let apart : one.conn ≢ peer.conn = apart_new other one held in
      let was : WasServed streams now one = same_calls streams calls now one (rw (ne_eqb peer.conn one.conn (λ same. apart (sym same))) refl) (are.each other one held) in
      record {
        began = was.began;
        came = was.came;
        written = was.written;
        rest = was.rest;
        came_by = at-rest peer.conn one.conn peer.stream streams apart ∙ was.came_by;
        read = was.read;
        fed = was.fed;
        wrote = was.wrote;
        sent = was.sent;
        left = was.left;
      }

  at_new : (other : ℕ) (one : Peer S h) → new other ≡ Some one → other ≡ key → peer ≡ one
  at_new other one found same = same_Some peer one (sym is.here ∙ (ap new (sym same) ∙ found))

  pub more_served : AreServed start more new now
  more_served = record {
    each = λ other one found. elim (cases_eq other key) [
      | inl same ↦ subst (WasServed more now) (at_new other one found same) new_served
      | inr apart ↦ old_served other one (sym (is.others other apart) ∙ found)
    ];
    there = λ other one found. elim (cases_eq other key) [
      | inl same ↦ subst (λ (p : Peer S h). IsThere p.conn (world_after start now)) (at_new other one found same) (connected (world_after start calls) peer.conn can)
      | inr apart ↦ event_keeps (world_after start calls) one.conn (Connects peer.conn) tt (are.there other one (sym (is.others other apart) ∙ found))
    ];
    apart = λ one other p q found too conns. elim (cases_eq one key) [
      | inl first ↦ elim (cases_eq other key) [
        | inl second ↦ first ∙ sym second
        | inr apart ↦ absurd (apart_new other q (sym (is.others other apart) ∙ too)
            (sym conns ∙ ap (λ (p : Peer S h). p.conn) (sym (at_new one p found first))))
      ]
      | inr off ↦ elim (cases_eq other key) [
        | inl second ↦ absurd (apart_new one p (sym (is.others one off) ∙ found)
            (conns ∙ ap (λ (p : Peer S h). p.conn) (sym (at_new other q too second))))
        | inr apart ↦ are.apart one other p q (sym (is.others one off) ∙ found) (sym (is.others other apart) ∙ too) conns
      ]
    ];
    kept = λ connection came still. elim (cases_eq connection peer.conn) [
      | inl mine ↦ record { key = key; peer = peer; held = is.here; on = sym mine }
      | inr apart ↦
          let had : HasPeer old connection =
          are.kept connection (ap is_some (sym (at-rest peer.conn connection peer.stream streams apart)) ∙ came)
          (ap is_some (sym (event_leaves (world_after start calls) connection (Connects peer.conn) apart)) ∙ still) in
          let other_key : had.key ≢ key = λ same. let clash : None ≡ Some had.peer = sym free ∙ (ap old (sym same) ∙ had.held) in let never : ⊥ = cc in never in
          record { key = had.key; peer = had.peer; held = is.others had.key other_key ∙ had.held; on = had.on }
    ];
  }

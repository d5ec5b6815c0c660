-- What a step of a peer carries, part by part.
use Rattle.std.proofs.Common.{◌≡◌, ℕ, List, [], ◌∷◌, ◌++◌, take, drop, Option, Some, None, Result, Ok, Err, IfOk, IfErr, OnOk, Bool, true, false, not, ◌<◌, ◌⊎◌, if◌then◌else◌, inl, inr, refl, ap, sym, subst, ◌∙◌, append-nil, length, length-append, arith}
use Rattle.std.proofs.lemmas.List.{take-append-drop}
use Rattle.std.specs.Global.{Vec}
use Rattle.std.specs.Io.KnownBytes.{Appends, Consumes, Keeps}
use Rattle.std.specs.declared.io.ErrorKind.{ErrorKind}
use Rattle.std.specs.declared.io.ErrorKind.TheVariants as kinds
use Rattle.disk.specs.declared.device.Device.{Ghosts}
use Rattle.model.specs.Server.Runs.{Arrives, Turns, Takes}
use Rattle.server.specs.Refused.{RefusesTurn, connection_at, view}
use Rattle.server.specs.Seen.{Did, Said, Took}
use Rattle.server.specs.Views.{gave}
use Rattle.server.specs.declared.fault.ServerFault.{ServerFault}
use Rattle.server.specs.declared.fault.ServerFault.TheVariants as faults
use Rattle.server.specs.declared.server.Server.{Server}
use Rattle.system.specs.declared.refused.Refused.{Refused}
use Rattle.system.specs.declared.refused.Refused.TheVariants as refusals
use Rattle.peer.specs.Calls.{Goes, IsNone, IsOne, RefusesBytes, RefusesOutput}
use Rattle.peer.specs.Partings.{parting_of}
use Rattle.peer.specs.Steps.{AreAll, Tally, IsTallied, Carries, HasWorked, Turned, Asked, Wrote, Read_broken, Write_broken, Reason, Dismissed, Read_over, Write_over, Closes, Was_closed, Has_none, Parts, HasBytes, IsFed, IsUnfed, HasRead, Advances, Reads, Runs, GivesNoTurn, Sends, ServesOn, EndsPeer, EndsAgain, IsEndBy, WaitsToWrite, IsStuck, To_write, unsent}
use Rattle.peer.specs.Streams.{IsOver}
use Rattle.peer.specs.declared.pace.Pace.{Pace}
use Rattle.peer.specs.declared.pace.Pace.TheVariants as paces
use Rattle.peer.specs.declared.peer.Parting.{Parting}
use Rattle.peer.specs.declared.peer.Parting.TheVariants as partings
use Rattle.peer.specs.declared.peer.Peer.{Peer}
use Rattle.peer.specs.declared.peer.Stage.TheVariants as stages
use Rattle.peer.specs.declared.peer.Step.{Step}
use Rattle.peer.specs.declared.peer.Step.TheVariants as steps
use Rattle.peer.specs.declared.stream.Stream as stream
use Rattle.peer.proofs.Made.{failed_call, not_called, untouched}
use Rattle.peer.proofs.Tallies.{appends_kept, appends_none, appends_then, consumes_none, consumes_then, in_order, joined, nothing, tallies_any, tallies_then, tally_closes, tally_given, tally_none, tally_taken, tally_turn}

-- Peers with bytes

on_ok : {E : Type 0} (result : Result Pace E) (A B : Type 0) → (A → B) → OnOk result A → OnOk result B
on_ok (Ok pace) A B map is = map is
on_ok (Err parting) A B map is = tt

on_any : {E : Type 0} (result : Result Pace E) (A : Type 0) → A → OnOk result A
on_any (Ok pace) A is = is
on_any (Err parting) A is = tt

-- none of one that gathers and has read nothing, of one that gives its reply, and of one that ends
pub dry_has_none : {S : Type 0} {h : stream.Ghosts S} (peer : Peer S h) → peer.stage ≡ stages.Gathers → peer.inbox ≡ [] → HasBytes peer → ⊥
dry_has_none peer gathers empty (inl runs) = let never : ⊥ = cc in never
dry_has_none peer gathers empty (inr has) = has.1 empty

pub made_has_none : {S : Type 0} {h : stream.Ghosts S} (peer : Peer S h) → peer.stage ≡ stages.Made → HasBytes peer → ⊥
made_has_none peer made (inl runs) = let never : ⊥ = cc in never
made_has_none peer made (inr has) = let gathers = has.0 in let never : ⊥ = cc in never

pub replying_has_none : {S : Type 0} {h : stream.Ghosts S} (peer : Peer S h) (reply : List ℕ) → peer.stage ≡ stages.Replies reply → HasBytes peer → ⊥
replying_has_none peer reply replies (inl runs) = let never : ⊥ = cc in never
replying_has_none peer reply replies (inr has) = let gathers = has.0 in let never : ⊥ = cc in never

pub ending_has_none : {S : Type 0} {h : stream.Ghosts S} (peer : Peer S h) → peer.stage ≡ stages.Ends → HasBytes peer → ⊥
ending_has_none peer ends (inl runs) = let never : ⊥ = cc in never
ending_has_none peer ends (inr has) = let gathers = has.0 in let never : ⊥ = cc in never

-- What the server is shown

-- of one without bytes, to which none come, there is nothing to show
none_to_feed : {S : Type 0} {h : stream.Ghosts S} (peer : Peer S h) (tally : Tally) → (HasBytes peer → ⊥) → tally.came ≡ [] → IsFed peer tally
none_to_feed peer tally none unread gathers some =
    absurd (none (inr (gathers, λ empty. some (ap (λ (came : List ℕ). peer.inbox ++ came) unread ∙ append-nil peer.inbox ∙ empty))))

-- nor of one that does not gather
runs_fed : {S : Type 0} {h : stream.Ghosts S} (peer : Peer S h) (tally : Tally) → peer.stage ≡ stages.Runs → IsFed peer tally
runs_fed peer tally runs gathers some = let never : ⊥ = cc in absurd never

or_else : {A B C : Type 0} → (B → C) → A ⊎ B → A ⊎ C
or_else map (inl a) = inl a
or_else map (inr b) = inr (map b)

-- Part after part

pub carries_then : {D S : Type 0} {g : Ghosts D} {h : stream.Ghosts S} {keeps : Type 0} {moments : ℕ → Type 0} {old between new : Server D g} (before mid after : Peer S h) (a b : Tally)
    → Carries keeps moments old between before mid a → Carries keeps moments between new mid after b → Carries keeps moments old new before after (joined a b)
carries_then {h = h} {keeps = keeps} {moments = moments} {between = between} {new = new} before mid after a b one two = record {
  calls = tallies_then moments before.conn a b one.calls (subst (λ (conn : ℕ). Goes keeps between new (IsTallied moments conn b)) one.conn two.calls);
  consumed = consumes_then (h.coming before.stream) (h.coming mid.stream) (h.coming after.stream) a.came b.came one.consumed two.consumed;
  fed = in_order a.taken b.taken before.inbox mid.inbox after.inbox a.came b.came one.fed two.fed;
  appended = appends_then (h.gone before.stream) (h.gone mid.stream) (h.gone after.stream) a.written b.written one.appended two.appended;
  sent = in_order a.written b.written (unsent before.stage) (unsent mid.stage) (unsent after.stage) a.given b.given one.sent two.sent;
  conn = two.conn ∙ one.conn;
  ends = λ is. one.ends (two.ends is);
}

-- at moments that are all among these
pub carries_any : {D S : Type 0} {g : Ghosts D} {h : stream.Ghosts S} {keeps : Type 0} {old new : Server D g} (few many : ℕ → Type 0) (before after : Peer S h) (tally : Tally)
    → ((now : ℕ) → few now → many now) → Carries keeps few old new before after tally → Carries keeps many old new before after tally
carries_any few many before after tally shows carries = record {
  calls = tallies_any few many before.conn tally shows carries.calls;
  consumed = carries.consumed;
  fed = carries.fed;
  appended = carries.appended;
  sent = carries.sent;
  conn = carries.conn;
  ends = carries.ends;
}

-- no call is made: bytes may have come, which wait
pub carries_none : {D S : Type 0} {g : Ghosts D} {h : stream.Ghosts S} {keeps : Type 0} {moments : ℕ → Type 0} {old new : Server D g} (before after : Peer S h) (came : List ℕ)
    → Goes keeps old new IsNone → Consumes (h.coming before.stream) (h.coming after.stream) came → after.inbox ≡ before.inbox ++ came
    → h.gone after.stream ≡ h.gone before.stream → unsent after.stage ≡ unsent before.stage → after.conn ≡ before.conn
    → (after.stage ≡ stages.Ends → before.stage ≡ stages.Ends) → Carries keeps moments old new before after (record nothing { came = came })
carries_none {h = h} before after came none consumed waits gone left conn ends = record {
  calls = tally_none before.conn came [] none;
  consumed = consumed;
  fed = waits;
  appended = rw gone (appends_none (h.gone before.stream));
  sent = left ∙ sym (append-nil (unsent before.stage));
  conn = conn;
  ends = ends;
}

-- nothing at all is done
pub carries_same : {D S : Type 0} {g : Ghosts D} {h : stream.Ghosts S} {keeps : Type 0} {moments : ℕ → Type 0} {old new : Server D g} (before : Peer S h)
    → Goes keeps old new IsNone → Carries keeps moments old new before before nothing
carries_same {h = h} before none =
    carries_none before before [] none (consumes_none (h.coming before.stream)) (sym (append-nil before.inbox)) refl refl refl (λ is. is)

-- Why a peer parts

-- what was tallied before takes no reason away
reason_after : {D S : Type 0} {g : Ghosts D} {h : stream.Ghosts S} (a b : Tally) (server : Server D g) (peer : Peer S h)
    → Reason b server peer → Reason (joined a b) server peer
reason_after a b server peer (Dismissed is) = Dismissed is
reason_after a b server peer (Read_over told over is) = Read_over told over is
reason_after a b server peer (Write_over told over is) = Write_over told over is
reason_after a b server peer (Closes some) = Closes (omega arith)
reason_after a b server peer (Was_closed is) = Was_closed is
reason_after a b server peer (Has_none is) = Has_none is

parts_after : {D S : Type 0} {g : Ghosts D} {h : stream.Ghosts S} (a b : Tally) (server : Server D g) (peer : Peer S h) (parting : Parting)
    → Parts b server peer parting → Parts (joined a b) server peer parting
parts_after a b server peer partings.Peer parts = reason_after a b server peer parts
parts_after a b server peer partings.Device parts = parts
parts_after a b server peer partings.Memory parts = tt
parts_after a b server peer partings.Clock parts = tt

pub parted_after : {D S : Type 0} {g : Ghosts D} {h : stream.Ghosts S} (a b : Tally) (server : Server D g) (peer : Peer S h) (result : Result Pace Parting)
    → IfErr result (Parts b server peer) → IfErr result (Parts (joined a b) server peer)
parted_after a b server peer (Ok pace) parts = tt
parted_after a b server peer (Err parting) parts = parts_after a b server peer parting parts

-- a turn that is refused
pub turn_parts : {D S : Type 0} {g : Ghosts D} {h : stream.Ghosts S} (old new : Server D g) (peer : Peer S h) (tally : Tally) (fault : ServerFault)
    → RefusesTurn (view old) (view new) peer.conn fault → Parts tally new peer (parting_of fault)
turn_parts old new peer tally faults.NoConnection refuses = Has_none (rw refuses.1.0 refuses.0)
turn_parts old new peer tally faults.Closed refuses = Was_closed (rw refuses.1.0 refuses.0)
turn_parts old new peer tally faults.Memory refuses = tt
turn_parts old new peer tally faults.Device refuses = refuses.2
turn_parts old new peer tally faults.Full refuses = absurd refuses

-- a reply that is refused
pub output_parts : {D S : Type 0} {g : Ghosts D} {h : stream.Ghosts S} (old new : Server D g) (peer : Peer S h) (tally : Tally) (fault : ServerFault)
    → RefusesOutput old new peer.conn fault → Parts tally new peer (parting_of fault)
output_parts old new peer tally fault refuses =
    subst (λ (fault : ServerFault). Parts tally new peer (parting_of fault)) (sym refuses.told)
    (let none : connection_at (view new) peer.conn ≡ None = rw refuses.same.0 refuses.none in Has_none none)

-- Steps

-- bytes that are refused
pub refused_bytes : {D S : Type 0} {g : Ghosts D} {h : stream.Ghosts S} {keeps : Type 0} {moments : ℕ → Type 0} {old new : Server D g} (peer : Peer S h) (fault : ServerFault)
    → RefusesBytes keeps old new peer.conn peer.inbox fault → Advances keeps moments old new peer peer (Err (parting_of fault))
refused_bytes {h = h} peer faults.Closed refuses =
    let tally : Tally = record nothing { shown = peer.inbox ∷ []; closings = 1 } in
    record {
      tally = tally;
      carries = record {
        calls = tally_closes peer.conn peer.inbox refuses;
        consumed = consumes_none (h.coming peer.stream);
        fed = sym (append-nil peer.inbox);
        appended = appends_none (h.gone peer.stream);
        sent = sym (append-nil (unsent peer.stage));
        conn = refl;
        ends = λ is. is;
      };
      shown = (sym (append-nil peer.inbox), tt);
      few = omega arith;
      turned = λ has. tt;
      feeds = inl (λ gathers some. ap (λ (piece : List ℕ). piece ∷ []) (sym (append-nil peer.inbox)));
      unread = λ has. refl;
      works = λ is. let never : ⊥ = cc in absurd never;
      parts = Closes (omega arith);
    }
refused_bytes {new = new} peer faults.NoConnection refuses =
    let none : connection_at (view new) peer.conn ≡ None = rw refuses.1.0 refuses.0 in
    record {
      tally = nothing;
      carries = carries_same peer (untouched refuses.1);
      shown = tt;
      few = omega arith;
      turned = λ has. tt;
      feeds = inr none;
      unread = λ has. refl;
      works = λ is. let never : ⊥ = cc in absurd never;
      parts = Has_none none;
    }
refused_bytes peer faults.Device refuses = record {
  tally = nothing;
  carries = carries_same peer (failed_call refuses.0);
  shown = tt;
  few = omega arith;
  turned = λ has. tt;
  feeds = inr refuses.0;
  unread = λ has. refl;
  works = λ is. let never : ⊥ = cc in absurd never;
  parts = refuses.0;
}
refused_bytes peer faults.Memory refuses = absurd refuses
refused_bytes peer faults.Full refuses = absurd refuses

works_after : {S : Type 0} {h : stream.Ghosts S} (a b : Tally) (peer : Peer S h) → HasWorked peer b → HasWorked peer (joined a b)
works_after a b peer (Turned some) = Turned (omega arith)
works_after a b peer (Asked some) = Asked (omega arith)
works_after a b peer (Wrote some) = Wrote (simp length-append (omega arith))
works_after a b peer (Read_broken is) = Read_broken is
works_after a b peer (Write_broken is) = Write_broken is

-- only calls are made: no byte comes, and none is written
carries_calls : {D S : Type 0} {g : Ghosts D} {h : stream.Ghosts S} {keeps : Type 0} {moments : ℕ → Type 0} {old new : Server D g} (before after : Peer S h)
    (shown : List (List ℕ)) (taken : List ℕ) (turns takes : ℕ) → Goes keeps old new (IsTallied moments before.conn (record nothing { shown = shown; taken = taken; turns = turns; takes = takes }))
    → taken ++ after.inbox ≡ before.inbox → after.stream ≡ before.stream → after.conn ≡ before.conn → unsent after.stage ≡ unsent before.stage
    → (after.stage ≡ stages.Ends → ⊥) → Carries keeps moments old new before after (record nothing { shown = shown; taken = taken; turns = turns; takes = takes })
carries_calls {h = h} before after shown taken turns takes calls fed same conn left stays = record {
  calls = calls;
  consumed = rw same (consumes_none (h.coming before.stream));
  fed = fed ∙ sym (append-nil before.inbox);
  appended = rw same (appends_none (h.gone before.stream));
  sent = left ∙ sym (append-nil (unsent before.stage));
  conn = conn;
  ends = λ is. absurd (stays is);
}

-- bytes that are taken, and what follows
pub bytes_then : {D S : Type 0} {g : Ghosts D} {h : stream.Ghosts S} {keeps : Type 0} {moments : ℕ → Type 0} {old between new : Server D g} (before mid after : Peer S h) (count : ℕ)
    (result : Result Pace Parting) → Goes keeps old between (IsOne (Did (Arrives before.conn before.inbox) (Took (Some count))))
    → mid.inbox ≡ drop count before.inbox → mid.stream ≡ before.stream → mid.conn ≡ before.conn
    → unsent mid.stage ≡ unsent before.stage → mid.stage ≡ stages.Runs
    → Runs keeps moments between new mid after result → Advances keeps moments old new before after result
bytes_then {keeps = keeps} {moments = moments} {old = old} {between = between} {new = new} before mid after count result one inbox same conn left runs_now runs =
    let first : Tally = record nothing { shown = before.inbox ∷ []; taken = take count before.inbox } in
    let rest : Tally = runs.advances.tally in
    let took : Carries keeps moments old between before mid first =
    carries_calls before mid (before.inbox ∷ []) (take count before.inbox) 0 0 (tally_taken before.conn before.inbox count one)
    (rw inbox (take-append-drop count before.inbox)) same conn left (λ is. let never : ⊥ = cc in never) in
    let all : before.inbox ≡ before.inbox ++ rest.came = sym (append-nil before.inbox) ∙ ap (λ came. before.inbox ++ came) (sym runs.unread) in
    record {
      tally = joined first rest;
      carries = carries_then before mid after first rest took runs.advances.carries;
      shown = subst (λ (shown : List (List ℕ)). AreAll (before.inbox ++ rest.came) (before.inbox ∷ shown)) (sym runs.unshown) (all, tt);
      few = omega (arith, runs.advances.few);
      turned = λ has. on_ok result (rest.turns ≡ 1) ((joined first rest).turns ≡ 1) (λ once. omega (arith, once)) (runs.advances.turned (inl runs_now));
      feeds = inl (λ gathers some. ap (λ (shown : List (List ℕ)). before.inbox ∷ shown) runs.unshown ∙ ap (λ (piece : List ℕ). piece ∷ []) all);
      unread = λ has. runs.unread;
      works = λ is. works_after first rest after (runs.advances.works is);
      parts = parted_after first rest new after result runs.advances.parts;
    }

turn_carries : {D S : Type 0} {g : Ghosts D} {h : stream.Ghosts S} {keeps : Type 0} {moments : ℕ → Type 0} {old new : Server D g} (before after : Peer S h) (now : ℕ) (said : Said)
    → moments now → Goes keeps old new (IsOne (Did (Turns before.conn now) said))
    → after.stream ≡ before.stream → after.inbox ≡ before.inbox → after.conn ≡ before.conn → unsent after.stage ≡ unsent before.stage
    → (after.stage ≡ stages.Ends → ⊥) → Carries keeps moments old new before after (record nothing { turns = 1 })
turn_carries before after now said shows one same inbox conn left stays =
    carries_calls before after [] [] 1 0 (tally_turn before.conn now said shows one) inbox same conn left stays

-- a turn, and the reply that it made
pub reply_then : {D S : Type 0} {g : Ghosts D} {h : stream.Ghosts S} {keeps : Type 0} {moments : ℕ → Type 0} {old between new : Server D g} (before mid after : Peer S h) (now : ℕ) (said : Said)
    (result : Result Pace Parting) → moments now → Goes keeps old between (IsOne (Did (Turns before.conn now) said))
    → mid.stream ≡ before.stream → mid.inbox ≡ before.inbox → mid.conn ≡ before.conn → unsent mid.stage ≡ unsent before.stage
    → (mid.stage ≡ stages.Ends → ⊥) → before.stage ≡ stages.Runs
    → GivesNoTurn keeps between new mid after result → Runs keeps moments old new before after result
reply_then {h = h} {keeps = keeps} {moments = moments} {old = old} {between = between} {new = new} before mid after now said result shows one same inbox conn left stays runs_now gives =
    let first : Tally = record nothing { turns = 1 } in
    let rest : Tally = gives.tally in
    let advances : Advances keeps moments old new before after result = record {
      tally = joined first rest;
      carries = carries_then before mid after first rest (turn_carries before mid now said shows one same inbox conn left stays)
          (carries_any (λ (now : ℕ). ⊥) moments mid after rest (λ now never. absurd never) gives.carries);
      shown = subst (λ (shown : List (List ℕ)). AreAll (before.inbox ++ rest.came) shown) (sym gives.unshown) tt;
      few = omega (arith, gives.unturned);
      turned = λ has. on_any result ((joined first rest).turns ≡ 1) (omega (arith, gives.unturned));
      feeds = inl (runs_fed before (joined first rest) runs_now);
      unread = λ has. gives.unread;
      works = λ is. Turned (omega arith);
      parts = parted_after first rest new after result gives.parts;
    } in
    record { advances = advances; unread = gives.unread; unshown = gives.unshown }

-- a turn, and nothing else
pub turn_alone : {D S : Type 0} {g : Ghosts D} {h : stream.Ghosts S} {keeps : Type 0} {moments : ℕ → Type 0} {old new : Server D g} (before after : Peer S h) (now : ℕ) (said : Said)
    → moments now → Goes keeps old new (IsOne (Did (Turns before.conn now) said))
    → after.stream ≡ before.stream → after.inbox ≡ before.inbox → after.conn ≡ before.conn → unsent after.stage ≡ unsent before.stage
    → (after.stage ≡ stages.Ends → ⊥) → before.stage ≡ stages.Runs → Runs keeps moments old new before after (Ok paces.Goes)
turn_alone {keeps = keeps} {moments = moments} {old = old} {new = new} before after now said shows one same inbox conn left stays runs_now =
    let tally : Tally = record nothing { turns = 1 } in
    let advances : Advances keeps moments old new before after (Ok paces.Goes) = record {
      tally = tally;
      carries = turn_carries before after now said shows one same inbox conn left stays;
      shown = tt;
      few = omega arith;
      turned = λ has. refl;
      feeds = inl (runs_fed before tally runs_now);
      unread = λ has. refl;
      works = λ is. Turned (omega arith);
      parts = tt;
    } in
    record { advances = advances; unread = refl; unshown = refl }

-- no turn, as it is refused or the clock fails
pub no_turn : {D S : Type 0} {g : Ghosts D} {h : stream.Ghosts S} {keeps : Type 0} {moments : ℕ → Type 0} {old new : Server D g} (before : Peer S h) (parting : Parting)
    → before.stage ≡ stages.Runs → Goes keeps old new IsNone → Parts nothing new before parting → Runs keeps moments old new before before (Err parting)
no_turn {keeps = keeps} {moments = moments} {old = old} {new = new} before parting runs_now none parts =
    let advances : Advances keeps moments old new before before (Err parting) = record {
      tally = nothing;
      carries = carries_same before none;
      shown = tt;
      few = omega arith;
      turned = λ has. tt;
      feeds = inl (runs_fed before nothing runs_now);
      unread = λ has. refl;
      works = λ is. let never : ⊥ = cc in absurd never;
      parts = parts;
    } in
    record { advances = advances; unread = refl; unshown = refl }

-- Replies

over_parts : {D S : Type 0} {g : Ghosts D} {h : stream.Ghosts S} (tally : Tally) (server : Server D g) (peer : Peer S h) (result : Result Pace Parting)
    → IfErr result (λ parting. (parting ≡ partings.Peer)
    × ((told : Option ErrorKind) × IsOver told × (h.write_told peer.stream told ≡ true)))
    → IfErr result (Parts tally server peer)
over_parts tally server peer (Ok pace) over = tt
over_parts tally server peer (Err parting) over =
    subst (Parts tally server peer) (sym over.0) (Write_over over.1.0 over.1.1 over.1.2)

-- nothing of it could be sent
pub sends_none : {S : Type 0} {h : stream.Ghosts S} (before after : Peer S h) (result : Result Pace Parting)
    → Keeps (h.gone before.stream) (h.gone after.stream) → unsent after.stage ≡ unsent before.stage
    → (result ≡ Ok paces.Goes → h.write_told after.stream (Some kinds.Interrupted) ≡ true)
    → IfErr result (λ parting. (parting ≡ partings.Peer)
    × ((told : Option ErrorKind) × IsOver told × (h.write_told after.stream told ≡ true)))
    → (after.conn ≡ before.conn) × (after.inbox ≡ before.inbox) × (h.coming after.stream ≡ h.coming before.stream)
    → (after.stage ≡ stages.Ends → ⊥) → Sends before after result
sends_none {h = h} before after result kept left broken over same stays = record {
  written = [];
  appended = appends_kept (h.gone before.stream) (h.gone after.stream) kept;
  sent = left;
  works = λ is. inr (broken is);
  over = over;
  same = same;
  stays = stays;
}

-- a reply of which a prefix goes out
pub sends_on : {D S : Type 0} {g : Ghosts D} {h : stream.Ghosts S} {keeps : Type 0} {moments : ℕ → Type 0} (server : Server D g) (before after : Peer S h)
    (result : Result Pace Parting) → (HasBytes before → ⊥) → Sends before after result → Advances keeps moments server server before after result
sends_on {h = h} server before after result none sends =
    let tally : Tally = record nothing { written = sends.written } in
    record {
      tally = tally;
      carries = record {
        calls = tally_none before.conn [] sends.written (not_called server);
        consumed = rw sends.same.2 (consumes_none (h.coming before.stream));
        fed = sends.same.1 ∙ sym (append-nil before.inbox);
        appended = sends.appended;
        sent = sends.sent ∙ sym (append-nil (unsent before.stage));
        conn = sends.same.0;
        ends = λ is. absurd (sends.stays is);
      };
      shown = tt;
      few = omega arith;
      turned = λ has. absurd (none has);
      feeds = inl (none_to_feed before tally none refl);
      unread = λ has. refl;
      works = λ is. elim (sends.works is) [ inl some ↦ Wrote some | inr broken ↦ Write_broken broken ];
      parts = over_parts tally server after result sends.over;
    }

-- it sleeps until the stream has room
pub stuck_on_write : {D S : Type 0} {g : Ghosts D} {h : stream.Ghosts S} (server : Server D g) (peer : Peer S h) (result : Result Pace Parting)
    → IfOk result (λ pace. pace ≡ paces.Sleeps → WaitsToWrite peer) → IfOk result (λ pace. pace ≡ paces.Sleeps → IsStuck server peer)
stuck_on_write server peer (Ok pace) stuck = λ is. To_write (stuck is)
stuck_on_write server peer (Err parting) stuck = tt

-- a reply that was taken, and begins to go out
pub gives_then : {D S : Type 0} {g : Ghosts D} {h : stream.Ghosts S} {keeps : Type 0} {old new : Server D g} (before mid after : Peer S h) (reply : Vec ℕ)
    (result : Result Pace Parting) → Goes keeps old new (IsOne (Did (Takes before.conn) (gave (Some reply))))
    → mid.stream ≡ before.stream → mid.inbox ≡ before.inbox → mid.conn ≡ before.conn
    → unsent before.stage ≡ [] → unsent mid.stage ≡ reply.items
    → Sends mid after result → GivesNoTurn keeps old new before after result
gives_then {S = S} {h = h} {new = new} before mid after reply result one same inbox conn none left sends =
    let tally : Tally = record nothing { takes = 1; given = reply.items; written = sends.written } in
    record {
      tally = tally;
      carries = record {
        calls = tally_given before.conn (Some reply) sends.written one;
        consumed = rw (sends.same.2, same) (consumes_none (h.coming before.stream));
        fed = sends.same.1 ∙ inbox ∙ sym (append-nil before.inbox);
        appended = subst (λ (stream : S). Appends (h.gone stream) (h.gone after.stream) sends.written) same sends.appended;
        sent = sends.sent ∙ left ∙ ap (λ prefix. prefix ++ reply.items) (sym none);
        conn = sends.same.0 ∙ conn;
        ends = λ is. absurd (sends.stays is);
      };
      unread = refl;
      unshown = refl;
      unturned = refl;
      works = λ is. Asked (omega arith);
      parts = over_parts tally new after result sends.over;
    }

-- none was there, or it is refused
pub gives_none : {D S : Type 0} {g : Ghosts D} {h : stream.Ghosts S} {keeps : Type 0} {old new : Server D g} (before after : Peer S h)
    → Goes keeps old new (IsOne (Did (Takes before.conn) (gave None)))
    → after.stream ≡ before.stream → after.inbox ≡ before.inbox → after.conn ≡ before.conn → unsent after.stage ≡ unsent before.stage
    → (after.stage ≡ stages.Ends → ⊥) → GivesNoTurn keeps old new before after (Ok paces.Goes)
gives_none before after one same inbox conn left stays = record {
  tally = record nothing { takes = 1 };
  carries = carries_calls before after [] [] 0 1 (tally_given before.conn None [] one) inbox same conn left stays;
  unread = refl;
  unshown = refl;
  unturned = refl;
  works = λ is. Asked (omega arith);
  parts = tt;
}

pub refuses_reply : {D S : Type 0} {g : Ghosts D} {h : stream.Ghosts S} {keeps : Type 0} {old new : Server D g} (before after : Peer S h) (fault : ServerFault)
    → RefusesOutput old new before.conn fault
    → after.stream ≡ before.stream → after.inbox ≡ before.inbox → after.conn ≡ before.conn → unsent after.stage ≡ unsent before.stage
    → (after.stage ≡ stages.Ends → ⊥) → GivesNoTurn keeps old new before after (Err (parting_of fault))
refuses_reply {h = h} {old = old} {new = new} before after fault refuses same inbox conn left stays = record {
  tally = nothing;
  carries =
      carries_none before after [] (untouched refuses.same) (rw same (consumes_none (h.coming before.stream))) (inbox ∙ sym (append-nil before.inbox))
      (ap h.gone same) left conn (λ is. absurd (stays is));
  unread = refl;
  unshown = refl;
  unturned = refl;
  works = λ is. let never : ⊥ = cc in absurd never;
  parts = output_parts old new after nothing fault (rw conn refuses);
}

-- nothing is asked for yet
pub gives_later : {D S : Type 0} {g : Ghosts D} {h : stream.Ghosts S} {keeps : Type 0} (server : Server D g) (peer : Peer S h)
    → GivesNoTurn keeps server server peer peer (Ok paces.Sleeps)
gives_later server peer = record {
  tally = nothing;
  carries = carries_same peer (not_called server);
  unread = refl;
  unshown = refl;
  unturned = refl;
  works = λ is. let never : ⊥ = cc in absurd never;
  parts = tt;
}

-- a step that gives no turn
pub gives_on : {D S : Type 0} {g : Ghosts D} {h : stream.Ghosts S} {keeps : Type 0} {moments : ℕ → Type 0} {old new : Server D g} (before after : Peer S h)
    (result : Result Pace Parting) → (HasBytes before → ⊥) → GivesNoTurn keeps old new before after result → Advances keeps moments old new before after result
gives_on {moments = moments} before after result none gives = record {
  tally = gives.tally;
  carries = carries_any (λ (now : ℕ). ⊥) moments before after gives.tally (λ now never. absurd never) gives.carries;
  shown = subst (λ (shown : List (List ℕ)). AreAll (before.inbox ++ gives.tally.came) shown) (sym gives.unshown) tt;
  few = omega (arith, gives.unturned);
  turned = λ has. absurd (none has);
  feeds = inl (none_to_feed before gives.tally none gives.unread);
  unread = λ has. gives.unread;
  works = gives.works;
  parts = gives.parts;
}

-- Reads

-- what came is shown with what is shown then
fed_since : {D S : Type 0} {g : Ghosts D} {h : stream.Ghosts S} (before mid after : Peer S h) (server : Server D g) (rest : Tally) (result : Result Pace Parting) → before.inbox ≡ []
    → mid.stage ≡ before.stage → IsFed mid rest ⊎ IsUnfed server after result → IsFed before (joined (record nothing { came = mid.inbox }) rest) ⊎ IsUnfed server after result
fed_since before mid after server rest result empty stage (inl fed) =
    inl (λ gathers some.
    fed (stage ∙ gathers) (λ none. some (ap (λ (waiting : List ℕ). waiting ++ (mid.inbox ++ rest.came)) empty ∙ none))
    ∙ ap (λ (waiting : List ℕ). (waiting ++ (mid.inbox ++ rest.came)) ∷ []) (sym empty))
fed_since before mid after server rest result empty stage (inr unfed) = inr unfed

-- what came is handed over
pub reads_then : {D S : Type 0} {g : Ghosts D} {h : stream.Ghosts S} {keeps : Type 0} {moments : ℕ → Type 0} {old new : Server D g} (before mid after : Peer S h)
    (result : Result Pace Parting) → Consumes (h.coming before.stream) (h.coming mid.stream) mid.inbox → before.stage ≡ stages.Gathers → before.inbox ≡ []
    → 0 < length mid.inbox → h.gone mid.stream ≡ h.gone before.stream → mid.stage ≡ before.stage → mid.conn ≡ before.conn
    → Advances keeps moments old new mid after result → Reads keeps moments old new before after result
reads_then {keeps = keeps} {moments = moments} {old = old} {new = new} before mid after result consumed gathers empty some gone stage conn advances =
    let first : Tally = record nothing { came = mid.inbox } in
    let rest : Tally = advances.tally in
    let read : Carries keeps moments old old before mid first =
    carries_none before mid mid.inbox (not_called old) consumed (rw empty refl) gone (ap unsent stage) conn (λ is. sym stage ∙ is) in
    let all : Advances keeps moments old new before after result = record {
      tally = joined first rest;
      carries = carries_then before mid after first rest read advances.carries;
      shown = rw empty advances.shown;
      few = omega (arith, advances.few);
      turned = λ has. absurd (dry_has_none before gathers empty has);
      feeds = fed_since before mid after new rest result empty stage advances.feeds;
      unread = λ has. absurd (dry_has_none before gathers empty has);
      works = λ is. works_after first rest after (advances.works is);
      parts = parted_after first rest new after result advances.parts;
    } in
    record { advances = all; reads = λ gathers empty. inl (simp length-append (omega (arith, some))) }

-- a step that makes no call, and to which no byte comes
pub quiet : {D S : Type 0} {g : Ghosts D} {h : stream.Ghosts S} {keeps : Type 0} {moments : ℕ → Type 0} (server : Server D g) (before after : Peer S h)
    (result : Result Pace Parting) → Consumes (h.coming before.stream) (h.coming after.stream) [] → after.inbox ≡ before.inbox
    → h.gone after.stream ≡ h.gone before.stream → after.stage ≡ before.stage → after.conn ≡ before.conn
    → (HasBytes before → ⊥) → (before.stage ≡ stages.Gathers → HasRead after nothing) → (result ≡ Ok paces.Goes → HasWorked after nothing)
    → IfErr result (Parts nothing server after) → Reads keeps moments server server before after result
quiet {keeps = keeps} {moments = moments} server before after result consumed waits gone stage conn none reads works parts =
    let advances : Advances keeps moments server server before after result = record {
      tally = nothing;
      carries = carries_none before after [] (not_called server) consumed (waits ∙ sym (append-nil before.inbox)) gone (ap unsent stage) conn (λ is. sym stage ∙ is);
      shown = tt;
      few = omega arith;
      turned = λ has. absurd (none has);
      feeds = inl (none_to_feed before nothing none refl);
      unread = λ has. refl;
      works = works;
      parts = parts;
    } in
    record { advances = advances; reads = λ gathers empty. reads gathers }

-- one that does not gather need not read
pub reads_as : {D S : Type 0} {g : Ghosts D} {h : stream.Ghosts S} {keeps : Type 0} {moments : ℕ → Type 0} {old new : Server D g} (before after : Peer S h)
    (result : Result Pace Parting) → (before.stage ≡ stages.Gathers → ⊥) → Advances keeps moments old new before after result → Reads keeps moments old new before after result
reads_as before after result other advances = record { advances = advances; reads = λ gathers empty. absurd (other gathers) }

-- The whole step

-- of a step that leaves the peer to be served on, by what it returns
pub serves_as : {D S : Type 0} {g : Ghosts D} {h : stream.Ghosts S} {keeps : Type 0} {moments : ℕ → Type 0} {old new : Server D g} (before after : Peer S h) (result : Result Pace Parting) (answer : Result Step Refused)
    → Reads keeps moments old new before after result → ((pace : Pace) → answer ≡ Ok (steps.Stays pace) → (pace ≡ paces.Pauses → ⊥) → result ≡ Ok pace)
    → (IsUnfed new after result → answer ≡ Err refusals.Device) → ServesOn keeps moments old new before after answer
serves_as {keeps = keeps} {moments = moments} {old = old} {new = new} before after result answer reads told failed =
    let advances : Advances keeps moments old new before after result = reads.advances in
    record {
      tally = advances.tally;
      carries = advances.carries;
      shown = advances.shown;
      few = advances.few;
      turned = λ has had. subst (λ (r : Result Pace Parting). OnOk r (advances.tally.turns ≡ 1)) (told had.0 had.1 had.2) (advances.turned has);
      feeds = or_else failed advances.feeds;
      unread = advances.unread;
      reads = reads.reads;
      works = λ is. advances.works (told paces.Goes is (λ e. let never : ⊥ = cc in never));
    }

pub ok_pace : (a b : Pace) → (let one : Result Step Refused = Ok (steps.Stays a) in one ≡ Ok (steps.Stays b)) → (let two : Result Pace Parting = Ok a in two ≡ Ok b)
ok_pace a b is = cc

pub err_pace : (refused : Refused) (pace : Pace) (A : Type 0) → (let one : Result Step Refused = Err refused in one ≡ Ok (steps.Stays pace)) → A
err_pace refused pace A is = let never : ⊥ = cc in absurd never

pub paused : (pace : Pace) (A : Type 0) → (let one : Result Step Refused = Ok (steps.Stays paces.Pauses) in one ≡ Ok (steps.Stays pace)) → (pace ≡ paces.Pauses → ⊥) → A
paused pace A is awake = let same : pace ≡ paces.Pauses = cc in absurd (awake same)

pub ends_peer : {D S : Type 0} {g : Ghosts D} {h : stream.Ghosts S} {keeps : Type 0} {moments : ℕ → Type 0} {old between new : Server D g} (before left after : Peer S h) (result : Result Step Refused)
    → Reads keeps moments old between before left (Err partings.Peer) → Goes keeps between new (IsEndBy moments result left.conn)
    → (after.stream ≡ left.stream) × (after.inbox ≡ left.inbox) × (after.conn ≡ left.conn)
    → EndsPeer keeps moments old new before after result
ends_peer {between = between} before left after result reads hung same = record {
  between = between;
  left = left;
  tally = reads.advances.tally;
  carries = reads.advances.carries;
  shown = reads.advances.shown;
  few = reads.advances.few;
  feeds = reads.advances.feeds;
  unread = reads.advances.unread;
  reads = reads.reads;
  reason = reads.advances.parts;
  hung = hung;
  same = same;
}

pub ends_again : {D S : Type 0} {g : Ghosts D} {h : stream.Ghosts S} {keeps : Type 0} {moments : ℕ → Type 0} {old between new : Server D g} (before left after : Peer S h) (result : Result Step Refused)
    → left ≡ before → between ≡ old → Goes keeps between new (IsEndBy moments result left.conn)
    → (after.stream ≡ left.stream) × (after.inbox ≡ left.inbox) × (after.conn ≡ left.conn) → after.stage ≡ stages.Ends
    → EndsAgain keeps moments old new before after result
ends_again {D = D} {g = g} {h = h} {keeps = keeps} {moments = moments} {between = between} {new = new} before left after result same_peer same hung kept stage = record {
  hung = subst (λ (server : Server D g). Goes keeps server new (IsEndBy moments result before.conn)) same
      (subst (λ (peer : Peer _ h). Goes keeps between new (IsEndBy moments result peer.conn)) same_peer hung);
  same = subst (λ (peer : Peer _ h). (after.stream ≡ peer.stream) × (after.inbox ≡ peer.inbox) × (after.conn ≡ peer.conn)) same_peer kept;
  stage = stage;
}

-- if it goes on at once, a signal came
pub interrupted : (told : Option ErrorKind → Bool) (kind : ErrorKind) (waits : Bool) (pace : Pace) (left : Result Pace Parting) → left ≡ Ok pace
    → kind ≡ (if waits then kinds.WouldBlock else kinds.Interrupted) → pace ≡ (if not waits then paces.Goes else paces.Sleeps)
    → told (Some kind) ≡ true → left ≡ Ok paces.Goes → told (Some kinds.Interrupted) ≡ true
interrupted told kind true pace left leaves is paced was goes = let never : ⊥ = cc in absurd never
interrupted told kind false pace left leaves is paced was goes = subst (λ (kind : ErrorKind). told (Some kind) ≡ true) is was

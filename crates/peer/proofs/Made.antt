-- Calls after calls, and what one call of the server comes to.
use Rattle.std.proofs.Common.{◌≡◌, ◌↔◌, ℕ, List, [], ◌∷◌, ◌++◌, Option, Some, None, Result, Ok, Err, IfOk, IfErr, OnOk, OnErr, IsErrOf, Bool, true, false, inl, inr, refl, ap, sym, subst}
use Rattle.std.specs.Global.{Vec}
use Rattle.disk.specs.declared.device.Device.{Ghosts}
use Rattle.model.specs.Server.Runs.{Event, Arrives, Turns, HangsUp, Takes, Left}
use Rattle.server.specs.Connections.{turn_view}
use Rattle.server.specs.Refused.{IsUntouched, HasTurned, RefusesTurn, RefusesHangUp, connection_at, view}
use Rattle.server.specs.Seen.{Seen, Said, ServerCall, Did, Done, Took, Turned, Does, IsReady, IsSeenReady, IsServed, IsTurned, Stays}
use Rattle.server.specs.Seen as served
use Rattle.server.specs.Views.{Serves, ServesAs, Turning, server_failures, files_of, gave, seen_with, volume_of, waits_of, world_of}
use Rattle.server.specs.declared.fault.ServerFault.{ServerFault}
use Rattle.server.specs.declared.fault.ServerFault.TheVariants as faults
use Rattle.server.specs.declared.server.Server.{Server}
use Rattle.server.specs.declared.turn.Turn.{Turn}
use Rattle.peer.specs.Calls.{MakesCalls, Goes, IsNone, IsOne, AreTurns, IsHangUp, IsEndAt, IsEnd, AreSomeTurns, HasGone, RefusesBytes, RefusesOutput}

-- Calls after calls

pub follows : (first between : Seen) (calls : List ServerCall) → IsServed first calls between
    → (more : List ServerCall) (new : Seen) → IsServed between more new → IsServed first (more ++ calls) new
follows first between calls before [] new served.Begins = before
follows first between calls before (call ∷ more) new (served.Goes_on event said after does) =
    served.IsServed.Goes_on event said (follows first between calls before more _ after) does
follows first between calls before (call ∷ more) new (served.Fails_at event after breaks) =
    served.IsServed.Fails_at event (follows first between calls before more _ after) breaks
follows first between calls before (call ∷ more) new (served.Stays_down connection said after gives) =
    served.IsServed.Stays_down connection said (follows first between calls before more _ after) gives
follows first between calls before more new (served.Keeps_on after keeps) =
    served.IsServed.Keeps_on (follows first between calls before more _ after) keeps
follows first between calls before more new (served.Flushed after flushes) =
    served.IsServed.Flushed (follows first between calls before more _ after) flushes

-- first these, then those
pub goes_on : {D : Type 0} {g : Ghosts D} {keeps : Type 0} {old between new : Server D g} {first then kind : List ServerCall → Type 0}
    → ((calls more : List ServerCall) → first calls → then more → kind (more ++ calls))
    → Goes keeps old between first → Goes keeps between new then → Goes keeps old new kind
goes_on {old = old} {between = between} {new = new} {first = first} {then = then} {kind = kind} both before after = record {
  up = λ up. before.up (after.up up);
  made = λ keeps up recent is.
      let one : MakesCalls old between recent first = before.made keeps (after.up up) recent is in
      let two : MakesCalls between new one.after then = after.made keeps up one.after one.ready in
      record {
        after = two.after;
        calls = two.calls ++ one.calls;
        ready = two.ready;
        are = both one.calls two.calls one.are two.are;
        served = follows _ _ one.calls one.served two.calls _ two.served;
      };
}

-- calls of one kind are calls of another
pub goes_as : {D : Type 0} {g : Ghosts D} {keeps : Type 0} {old new : Server D g} {first kind : List ServerCall → Type 0}
    → ((calls : List ServerCall) → first calls → kind calls) → Goes keeps old new first → Goes keeps old new kind
goes_as {old = old} {new = new} {first = first} shows goes = record {
  up = goes.up;
  made = λ keeps up recent is.
      let one : MakesCalls old new recent first = goes.made keeps up recent is in
      record { after = one.after; calls = one.calls; ready = one.ready; are = shows one.calls one.are; served = one.served };
}

-- One call

-- a call, whether or not it defers
abbrev pub MakesCall : {D : Type 0} {g : Ghosts D} → (old new : Server D g) → Event → Said → Type 0
MakesCall old new event said = (recent : List Left) → IsReady (volume_of old) recent → (after : List Left) × Does (seen_with old recent) event said (seen_with new after)

pub makes : {D : Type 0} {g : Ghosts D} (defers : Bool) (old new : Server D g) (event : Event) (said : Said) → ServesAs defers old new event said
    → MakesCall old new event said
makes defers old new event said serves = λ recent is. let done = serves recent is in (done.0, done.1)

pub one_call : {D : Type 0} {g : Ghosts D} {keeps : Type 0} {old new : Server D g} (event : Event) (said : Said)
    → ((volume_of new).is_down ≡ false → (volume_of old).is_down ≡ false)
    → (keeps → (volume_of new).is_down ≡ false → MakesCall old new event said)
    → Goes keeps old new (IsOne (Did event said))
one_call {old = old} {new = new} event said up serves = record {
  up = up;
  made = λ keeps is_up recent is.
      let done = serves keeps is_up recent is in
      record {
        after = done.0;
        calls = Did event said ∷ [];
        ready = done.1.ready;
        are = refl;
        served = served.IsServed.Goes_on event said served.Begins done.1;
      };
}

-- none, if nothing changed
pub untouched : {D : Type 0} {g : Ghosts D} {keeps : Type 0} {old new : Server D g}
    → IsUntouched (view old) (view new) → Goes keeps old new IsNone
untouched {old = old} {new = new} same = record {
  up = λ up. rw (sym same.1) up;
  made = λ keeps up recent is.
      let seen : seen_with old recent ≡ seen_with new recent = rw (same.0, same.1, same.3) refl in
      record {
        after = recent;
        calls = [];
        ready = rw same.1 is;
        are = refl;
        served = subst (λ (after : Seen). IsServed (seen_with old recent) [] after) seen served.Begins;
      };
}

-- nothing is claimed of a server that is down
pub failed_call : {D : Type 0} {g : Ghosts D} {keeps : Type 0} {old new : Server D g} {kind : List ServerCall → Type 0}
    → (volume_of new).is_down ≡ true → Goes keeps old new kind
failed_call down = record {
  up = λ up. let never : ⊥ = cc in absurd never;
  made = λ keeps up. let never : ⊥ = cc in absurd never;
}

pub not_called : {D : Type 0} {g : Ghosts D} {keeps : Type 0} (server : Server D g) → Goes keeps server server IsNone
not_called server = untouched {old = server} {new = server} (refl, refl, refl, refl)

pub same_volume : {D : Type 0} {g : Ghosts D} (old new : Server D g) → files_of new ≡ files_of old → volume_of new ≡ volume_of old
unfolding files_of volume_of
same_volume old new files = ap (λ it. it.volume) files

same_waits : {D : Type 0} {g : Ghosts D} (old new : Server D g) → files_of new ≡ files_of old → waits_of new ≡ waits_of old
unfolding files_of waits_of
same_waits old new files = ap (λ it. it.waits) files

pub still_up : {D : Type 0} {g : Ghosts D} (old new : Server D g) → files_of new ≡ files_of old
    → (volume_of new).is_down ≡ false → (volume_of old).is_down ≡ false
still_up old new files up = rw (sym (same_volume old new files)) up

-- What each call returns

pub fed : {D : Type 0} {g : Ghosts D} {keeps : Type 0} (old new : Server D g) (connection : ℕ) (piece : List ℕ) (result : Result ℕ ServerFault)
    → files_of new ≡ files_of old
    → (keeps → IfOk result (λ count. Serves old new (Arrives connection piece) (Took (Some count))))
    → IfOk result (λ count. Goes keeps old new (IsOne (Did (Arrives connection piece) (Took (Some count)))))
fed old new connection piece (Ok count) files serves =
    one_call {old = old} {new = new} (Arrives connection piece) (Took (Some count)) (still_up old new files) (λ keeps up. makes false old new (Arrives connection piece) (Took (Some count)) (serves keeps))
fed old new connection piece (Err fault) files serves = tt

pub untouched_by : {D : Type 0} {g : Ghosts D} (old new : Server D g) → world_of new ≡ world_of old → files_of new ≡ files_of old → server_failures new ≡ server_failures old
    → IsUntouched (view old) (view new)
untouched_by old new world files failures = (world, same_volume old new files, failures, same_waits old new files)

pub refuses_bytes : {D : Type 0} {g : Ghosts D} {keeps : Type 0} (old new : Server D g) (connection : ℕ) (piece : List ℕ) (result : Result ℕ ServerFault)
    → (keeps → IsErrOf result faults.Closed → Serves old new (Arrives connection piece) (Took None))
    → (IsErrOf result faults.Device ↔ ((volume_of old).is_down ≡ true))
    → (IsErrOf result faults.NoConnection → connection_at (view old) connection ≡ None)
    → IfErr result (λ fault. (fault ≡ faults.Full → ⊥) × (fault ≡ faults.Memory → ⊥))
    → IfErr result (λ fault. (fault ≡ faults.Closed → ⊥) → world_of new ≡ world_of old)
    → files_of new ≡ files_of old → server_failures new ≡ server_failures old
    → IfErr result (RefusesBytes keeps old new connection piece)
refuses_bytes old new connection piece (Ok count) closes down none only same files failures = tt
refuses_bytes old new connection piece (Err faults.Closed) closes down none only same files failures =
    one_call {old = old} {new = new} (Arrives connection piece) (Took None) (still_up old new files) (λ keeps up. makes false old new (Arrives connection piece) (Took None) (closes keeps refl))
refuses_bytes old new connection piece (Err faults.NoConnection) closes down none only same files failures =
    (none refl, untouched_by old new (same (λ e. let never : ⊥ = cc in never)) files failures)
refuses_bytes old new connection piece (Err faults.Device) closes down none only same files failures =
    let is : (volume_of new).is_down ≡ true = rw (same_volume old new files) (down.0 refl) in
    (is, untouched_by old new (same (λ e. let never : ⊥ = cc in never)) files failures)
refuses_bytes old new connection piece (Err faults.Memory) closes down none only same files failures = absurd (only.1 refl)
refuses_bytes old new connection piece (Err faults.Full) closes down none only same files failures = absurd (only.0 refl)

pub turned : {D : Type 0} {g : Ghosts D} {keeps : Type 0} (defers : Bool) (old new : Server D g) (connection now : ℕ) (result : Result Turn ServerFault)
    → OnOk result (HasTurned keeps (view old) (view new) connection now)
    → (keeps → IfOk result (λ turn. ServesAs defers old new (Turns connection now) (Turned (turn_view turn))))
    → IfOk result (λ turn. Goes keeps old new (IsOne (Did (Turns connection now) (Turned (turn_view turn)))))
turned defers old new connection now (Ok turn) has serves =
    one_call {old = old} {new = new} (Turns connection now) (Turned (turn_view turn)) (λ up. has.up)
    (λ keeps up. makes defers old new (Turns connection now) (Turned (turn_view turn)) (serves keeps))
turned defers old new connection now (Err fault) has serves = tt

pub gives : {D : Type 0} {g : Ghosts D} {keeps : Type 0} (old new : Server D g) (connection : ℕ) (result : Result (Option (Vec ℕ)) ServerFault)
    → files_of new ≡ files_of old → waits_of old ≡ false
    → (keeps → (volume_of old).is_down ≡ false → waits_of old ≡ false → IfOk result (λ output. Serves old new (Takes connection) (gave output)))
    → IfOk result (λ output. Goes keeps old new (IsOne (Did (Takes connection) (gave output))))
gives old new connection (Ok output) files none serves =
    one_call {old = old} {new = new} (Takes connection) (gave output) (still_up old new files)
    (λ keeps up. makes false old new (Takes connection) (gave output) (serves keeps (still_up old new files up) none))
gives old new connection (Err fault) files none serves = tt

pub refuses_output : {D : Type 0} {g : Ghosts D} (old new : Server D g) (connection : ℕ) (result : Result (Option (Vec ℕ)) ServerFault)
    → (IsErrOf result faults.NoConnection ↔ (connection_at (view old) connection ≡ None))
    → IfErr result (λ fault. fault ≡ faults.NoConnection)
    → OnErr result (world_of new ≡ world_of old)
    → files_of new ≡ files_of old → server_failures new ≡ server_failures old
    → IfErr result (RefusesOutput old new connection)
refuses_output old new connection (Ok output) none only same files failures = tt
refuses_output old new connection (Err fault) none only same files failures =
    record { told = only; none = none.0 (ap Err only); same = untouched_by old new same files failures }

-- a turn that is refused is none
pub refused_turn : {D : Type 0} {g : Ghosts D} {keeps : Type 0} {old new : Server D g} (connection : ℕ) (fault : ServerFault)
    → RefusesTurn (view old) (view new) connection fault → Goes keeps old new IsNone
refused_turn connection faults.NoConnection refuses = untouched refuses.1
refused_turn connection faults.Closed refuses = untouched refuses.1
refused_turn connection faults.Memory refuses = untouched refuses
refused_turn connection faults.Device refuses = failed_call refuses.2
refused_turn connection faults.Full refuses = absurd refuses

-- A hang-up

turns_then : (connection now : ℕ) (first old new : Seen) (calls : List ServerCall) → IsServed first calls old → AreTurns connection now calls
    → IsTurned connection now old new → (more : List ServerCall) × IsServed first more new × AreTurns connection now more
turns_then connection now first old new calls before are Stays = (calls, before, are)
turns_then connection now first old new calls before are (served.Goes_on {between = between} {said = said} busy does more) =
    turns_then connection now first between new (Did (Turns connection now) said ∷ calls)
    (served.IsServed.Goes_on (Turns connection now) said before does) ((refl, refl), are) more

ready_then : (connection now : ℕ) (old new : Seen) → IsTurned connection now old new → IsSeenReady old → IsSeenReady new
ready_then connection now old new Stays ready = ready
ready_then connection now old new (served.Goes_on {between = between} busy does more) ready = ready_then connection now between new more does.ready

-- one that was done
pub hung_up : {D : Type 0} {g : Ghosts D} {keeps : Type 0} {old new : Server D g} (connection now : ℕ)
    → (volume_of old).is_down ≡ false
    → (keeps → Turning old connection now (λ between. (after : List Left) × Does between (HangsUp connection) Done (seen_with new after)))
    → Goes keeps old new (IsHangUp connection now)
hung_up {old = old} {new = new} connection now up turning = record {
  up = λ _. up;
  made = λ keeps is_up recent is.
      let turned = turning keeps recent is in
      let calls = turns_then connection now (seen_with old recent) (seen_with old recent) turned.0 [] served.Begins tt turned.1 in
      record {
        after = turned.2.0;
        calls = Did (HangsUp connection) Done ∷ calls.0;
        ready = turned.2.1.ready;
        are = (refl, calls.2);
        served = served.IsServed.Goes_on (HangsUp connection) Done calls.1 turned.2.1;
      };
}

-- and one that ended within its turns, as memory ran out
pub turned_only : {D : Type 0} {g : Ghosts D} {keeps : Type 0} {old new : Server D g} (connection now : ℕ)
    → (volume_of old).is_down ≡ false
    → (keeps → Turning old connection now (λ between. (after : List Left) × (between ≡ seen_with new after)))
    → Goes keeps old new (AreTurns connection now)
turned_only {old = old} {new = new} connection now up turning = record {
  up = λ _. up;
  made = λ keeps is_up recent is.
      let turned = turning keeps recent is in
      let calls = turns_then connection now (seen_with old recent) (seen_with old recent) turned.0 [] served.Begins tt turned.1 in
      let ready = ready_then connection now (seen_with old recent) turned.0 turned.1 is in
      record {
        after = turned.2.0;
        calls = calls.0;
        ready = subst IsSeenReady turned.2.1 ready;
        are = calls.2;
        served = subst (λ (seen : Seen). IsServed (seen_with old recent) calls.0 seen) turned.2.1 calls.1;
      };
}

up_by : (down : Bool) → (down ≡ true → ⊥) → down ≡ false
up_by true never = absurd (never refl)
up_by false never = refl

-- what a hang-up returns: the server was up
pub hangs_up : {D : Type 0} {g : Ghosts D} {keeps : Type 0} (old new : Server D g) (connection now : ℕ) (result : Result Unit ServerFault)
    → ((volume_of old).is_down ≡ true → IsErrOf result faults.Device × IsUntouched (view old) (view new))
    → (keeps → OnOk result (Turning old connection now (λ between. (after : List Left) × Does between (HangsUp connection) Done (seen_with new after))))
    → OnOk result (Goes keeps old new (IsHangUp connection now))
hangs_up old new connection now (Ok done) down turning =
    hung_up {old = old} {new = new} connection now (up_by _ (λ is. let told = (down is).0 in let never : ⊥ = cc in never)) turning
hangs_up old new connection now (Err fault) down turning = tt

-- and in any case
pub hangs_by : {D : Type 0} {g : Ghosts D} {keeps : Type 0} (old new : Server D g) (connection now : ℕ) (result : Result Unit ServerFault)
    → ((volume_of old).is_down ≡ true → IsErrOf result faults.Device × IsUntouched (view old) (view new))
    → (keeps → OnOk result (Turning old connection now (λ between. (after : List Left) × Does between (HangsUp connection) Done (seen_with new after))))
    → (keeps → IsErrOf result faults.Memory → Turning old connection now (λ between. (after : List Left) × (between ≡ seen_with new after)))
    → IfErr result (RefusesHangUp (view old) (view new) connection) → Goes keeps old new (IsEndAt connection now)
hangs_by old new connection now (Ok done) down turning stops refused =
    goes_as {first = IsHangUp connection now} {kind = IsEndAt connection now}
    (λ (calls : List ServerCall) (is : IsHangUp connection now calls). inl is) (hangs_up old new connection now (Ok done) down turning)
hangs_by old new connection now (Err faults.Memory) down turning stops refused =
    goes_as {first = AreTurns connection now} {kind = IsEndAt connection now}
    (λ (calls : List ServerCall) (are : AreTurns connection now calls). inr are)
    (turned_only {old = old} {new = new} connection now (up_by _ (λ was. let told = (down was).0 in let never : ⊥ = cc in never))
    (λ keeps. stops keeps refl))
hangs_by old new connection now (Err faults.NoConnection) down turning stops refused =
    goes_as {first = IsNone} {kind = IsEndAt connection now}
    (λ (calls : List ServerCall) (is : calls ≡ []). inr (subst (AreTurns connection now) (sym is) tt)) (untouched refused.1)
hangs_by old new connection now (Err faults.Device) down turning stops refused = failed_call refused.1
hangs_by old new connection now (Err faults.Closed) down turning stops refused = absurd refused
hangs_by old new connection now (Err faults.Full) down turning stops refused = absurd refused

-- one that was refused
pub turns_by : {D : Type 0} {g : Ghosts D} {keeps : Type 0} (old new : Server D g) (connection now : ℕ) (result : Result Unit ServerFault)
    → ((volume_of old).is_down ≡ true → IsErrOf result faults.Device × IsUntouched (view old) (view new))
    → (keeps → IsErrOf result faults.Memory → Turning old connection now (λ between. (after : List Left) × (between ≡ seen_with new after)))
    → IfErr result (RefusesHangUp (view old) (view new) connection) → OnErr result (Goes keeps old new (AreTurns connection now))
turns_by old new connection now (Ok done) down stops refused = tt
turns_by old new connection now (Err faults.Memory) down stops refused =
    turned_only {old = old} {new = new} connection now (up_by _ (λ was. let told = (down was).0 in let never : ⊥ = cc in never)) (λ keeps. stops keeps refl)
turns_by old new connection now (Err faults.NoConnection) down stops refused =
    goes_as {first = IsNone} {kind = AreTurns connection now}
    (λ (calls : List ServerCall) (is : calls ≡ []). subst (AreTurns connection now) (sym is) tt) (untouched refused.1)
turns_by old new connection now (Err faults.Device) down stops refused = failed_call refused.1
turns_by old new connection now (Err faults.Closed) down stops refused = absurd refused
turns_by old new connection now (Err faults.Full) down stops refused = absurd refused

-- at one of these moments, or at none
pub ends_at : {D : Type 0} {g : Ghosts D} {keeps : Type 0} {old new : Server D g} {moments : ℕ → Type 0} (connection now : ℕ)
    → moments now → Goes keeps old new (IsEndAt connection now) → Goes keeps old new (IsEnd moments connection)
ends_at {moments = moments} connection now shows goes =
    goes_as {first = IsEndAt connection now} {kind = IsEnd moments connection}
    (λ (calls : List ServerCall) (is : IsEndAt connection now calls). inr (now, shows, is)) goes

pub ends_by_none : {D : Type 0} {g : Ghosts D} {keeps : Type 0} {old new : Server D g} {moments : ℕ → Type 0} (connection : ℕ)
    → Goes keeps old new IsNone → Goes keeps old new (IsEnd moments connection)
ends_by_none {moments = moments} connection none =
    goes_as {first = IsNone} {kind = IsEnd moments connection} (λ (calls : List ServerCall) (is : IsNone calls). inl is) none

pub turns_at : {D : Type 0} {g : Ghosts D} {keeps : Type 0} {old new : Server D g} {moments : ℕ → Type 0} (connection now : ℕ)
    → moments now → Goes keeps old new (AreTurns connection now) → Goes keeps old new (AreSomeTurns moments connection)
turns_at {moments = moments} connection now shows goes =
    goes_as {first = AreTurns connection now} {kind = AreSomeTurns moments connection}
    (λ (calls : List ServerCall) (are : AreTurns connection now calls). inr (now, shows, are)) goes

pub turns_by_none : {D : Type 0} {g : Ghosts D} {keeps : Type 0} {old new : Server D g} {moments : ℕ → Type 0} (connection : ℕ)
    → Goes keeps old new IsNone → Goes keeps old new (AreSomeTurns moments connection)
turns_by_none {moments = moments} connection none =
    goes_as {first = IsNone} {kind = AreSomeTurns moments connection} (λ (calls : List ServerCall) (is : IsNone calls). inl is) none

pub gone_by : {D : Type 0} {g : Ghosts D} (old new : Server D g) (connection : ℕ) (result : Result Unit ServerFault)
    → OnOk result (connection_at (view new) connection ≡ None)
    → IfErr result (RefusesHangUp (view old) (view new) connection) → HasGone result (connection_at (view new) connection)
gone_by old new connection (Ok done) gone refused = gone
gone_by old new connection (Err faults.NoConnection) gone refused = rw refused.1.0 refused.0
gone_by old new connection (Err faults.Memory) gone refused = tt
gone_by old new connection (Err faults.Device) gone refused = tt
gone_by old new connection (Err faults.Closed) gone refused = absurd refused
gone_by old new connection (Err faults.Full) gone refused = absurd refused

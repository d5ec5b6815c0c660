-- What is counted of calls, and bytes that come and go.
use Rattle.std.proofs.Common.{◌≡◌, ℕ, ◌+◌, List, [], ◌∷◌, ◌++◌, take, Option, Some, None, refl, ap, sym, subst, ◌∙◌, append_assoc, append-nil, arith}
use Rattle.std.specs.Global.{Vec}
use Rattle.std.specs.Io.KnownBytes.{Appends, Consumes, Keeps}
use Rattle.disk.specs.declared.device.Device.{Ghosts}
use Rattle.model.specs.Server.Runs.{Arrives, Turns, HangsUp, Connects, Takes}
use Rattle.server.specs.Seen.{ServerCall, Did, Failed, Said, Took}
use Rattle.server.specs.Views.{gave}
use Rattle.server.specs.declared.server.Server.{Server}
use Rattle.peer.specs.Calls.{Goes, IsNone, IsOne}
use Rattle.peer.specs.Steps.{IsOn, AreOn, all_by, count_by, shown_by, taken_by, closings_by, turns_by, takes_by, given_by, bytes_of, Tally, IsTallied}
use Rattle.peer.proofs.Made.{goes_as, goes_on}

-- Calls

on-append : (moments : ℕ → Type 0) (connection : ℕ) (more calls : List ServerCall) → AreOn moments connection more → AreOn moments connection calls
    → AreOn moments connection (more ++ calls)
on-append moments connection [] calls more rest = rest
on-append moments connection (call ∷ more) calls more_on rest = (more_on.0, on-append moments connection more calls more_on.1 rest)

-- at moments that are all among these
on-any : (few many : ℕ → Type 0) (connection : ℕ) → ((now : ℕ) → few now → many now) → (call : ServerCall) → IsOn few connection call → IsOn many connection call
on-any few many connection shows (Did (Arrives number piece) said) on = on
on-any few many connection shows (Did (Turns number now) said) on = (on.0, shows now on.1)
on-any few many connection shows (Did (Takes number) said) on = on
on-any few many connection shows (Did (HangsUp number) said) on = absurd on
on-any few many connection shows (Did (Connects number) said) on = absurd on
on-any few many connection shows (Failed event) on = absurd on

are-on-any : (few many : ℕ → Type 0) (connection : ℕ) → ((now : ℕ) → few now → many now) → (calls : List ServerCall) → AreOn few connection calls
    → AreOn many connection calls
are-on-any few many connection shows [] on = tt
are-on-any few many connection shows (call ∷ calls) on =
    (on-any few many connection shows call on.0, are-on-any few many connection shows calls on.1)

pub all-append : {A : Type 0} (by : ServerCall → List A) (more calls : List ServerCall) → all_by by (more ++ calls) ≡ all_by by calls ++ all_by by more
all-append by [] calls = sym (append-nil (all_by by calls))
all-append by (call ∷ more) calls =
    ap (λ prefix. prefix ++ by call) (all-append by more calls) ∙ append_assoc (all_by by calls) (all_by by more) (by call)

count-append : (by : ServerCall → ℕ) (more calls : List ServerCall) → count_by by (more ++ calls) ≡ count_by by calls + count_by by more
count-append by [] calls = omega arith
count-append by (call ∷ more) calls = let rest = count-append by more calls in omega (arith, rest)

-- one tally and then another
abbrev pub joined : Tally → Tally → Tally
joined a b = record {
  came = a.came ++ b.came;
  shown = a.shown ++ b.shown;
  taken = a.taken ++ b.taken;
  closings = a.closings + b.closings;
  turns = a.turns + b.turns;
  takes = a.takes + b.takes;
  given = a.given ++ b.given;
  written = a.written ++ b.written;
}

abbrev pub nothing : Tally
nothing = record { came = []; shown = []; taken = []; closings = 0; turns = 0; takes = 0; given = []; written = [] }

tallied_both : (moments : ℕ → Type 0) (connection : ℕ) (a b : Tally) (calls more : List ServerCall) → IsTallied moments connection a calls → IsTallied moments connection b more
    → IsTallied moments connection (joined a b) (more ++ calls)
tallied_both moments connection a b calls more one two = record {
  on = on-append moments connection more calls two.on one.on;
  shown = rw (all-append shown_by more calls, one.shown, two.shown) refl;
  taken = rw (all-append taken_by more calls, one.taken, two.taken) refl;
  closings = rw (count-append closings_by more calls, one.closings, two.closings) refl;
  turns = rw (count-append turns_by more calls, one.turns, two.turns) refl;
  takes = rw (count-append takes_by more calls, one.takes, two.takes) refl;
  given = rw (all-append given_by more calls, one.given, two.given) refl;
}

pub tallies_then : {D : Type 0} {g : Ghosts D} {keeps : Type 0} {old between new : Server D g} (moments : ℕ → Type 0) (connection : ℕ) (a b : Tally)
    → Goes keeps old between (IsTallied moments connection a) → Goes keeps between new (IsTallied moments connection b)
    → Goes keeps old new (IsTallied moments connection (joined a b))
tallies_then moments connection a b before after =
    goes_on {first = IsTallied moments connection a} {then = IsTallied moments connection b} {kind = IsTallied moments connection (joined a b)}
    (tallied_both moments connection a b) before after

-- at moments that are all among these
pub tallies_any : {D : Type 0} {g : Ghosts D} {keeps : Type 0} {old new : Server D g} (few many : ℕ → Type 0) (connection : ℕ) (tally : Tally)
    → ((now : ℕ) → few now → many now) → Goes keeps old new (IsTallied few connection tally) → Goes keeps old new (IsTallied many connection tally)
tallies_any few many connection tally shows goes =
    goes_as {first = IsTallied few connection tally} {kind = IsTallied many connection tally}
    (λ (calls : List ServerCall) (is : IsTallied few connection tally calls).
    record {
      on = are-on-any few many connection shows calls is.on;
      shown = is.shown;
      taken = is.taken;
      closings = is.closings;
      turns = is.turns;
      takes = is.takes;
      given = is.given;
    }) goes

-- no call, or one; what comes from the stream and goes to it is no call's

pub tally_none : {D : Type 0} {g : Ghosts D} {keeps : Type 0} {moments : ℕ → Type 0} {old new : Server D g} (connection : ℕ) (came written : List ℕ)
    → Goes keeps old new IsNone → Goes keeps old new (IsTallied moments connection (record nothing { came = came; written = written }))
tally_none {moments = moments} connection came written none =
    goes_as {first = IsNone} {kind = IsTallied moments connection (record nothing { came = came; written = written })}
    (λ (calls : List ServerCall) (is : calls ≡ []). subst (IsTallied moments connection (record nothing { came = came; written = written })) (sym is)
    (record { on = tt; shown = refl; taken = refl; closings = refl; turns = refl; takes = refl; given = refl })) none

pub tally_taken : {D : Type 0} {g : Ghosts D} {keeps : Type 0} {moments : ℕ → Type 0} {old new : Server D g} (connection : ℕ) (piece : List ℕ) (count : ℕ)
    → Goes keeps old new (IsOne (Did (Arrives connection piece) (Took (Some count))))
    → Goes keeps old new (IsTallied moments connection (record nothing { shown = piece ∷ []; taken = take count piece }))
tally_taken {moments = moments} connection piece count one =
    goes_as {first = IsOne (Did (Arrives connection piece) (Took (Some count)))}
    {kind = IsTallied moments connection (record nothing { shown = piece ∷ []; taken = take count piece })}
    (λ (calls : List ServerCall) (is : calls ≡ Did (Arrives connection piece) (Took (Some count)) ∷ []).
    subst (IsTallied moments connection (record nothing { shown = piece ∷ []; taken = take count piece })) (sym is)
    (record { on = (refl, tt); shown = refl; taken = refl; closings = refl; turns = refl; takes = refl; given = refl })) one

pub tally_closes : {D : Type 0} {g : Ghosts D} {keeps : Type 0} {moments : ℕ → Type 0} {old new : Server D g} (connection : ℕ) (piece : List ℕ)
    → Goes keeps old new (IsOne (Did (Arrives connection piece) (Took None)))
    → Goes keeps old new (IsTallied moments connection (record nothing { shown = piece ∷ []; closings = 1 }))
tally_closes {moments = moments} connection piece one =
    goes_as {first = IsOne (Did (Arrives connection piece) (Took None))}
    {kind = IsTallied moments connection (record nothing { shown = piece ∷ []; closings = 1 })}
    (λ (calls : List ServerCall) (is : calls ≡ Did (Arrives connection piece) (Took None) ∷ []).
    subst (IsTallied moments connection (record nothing { shown = piece ∷ []; closings = 1 })) (sym is)
    (record { on = (refl, tt); shown = refl; taken = refl; closings = refl; turns = refl; takes = refl; given = refl })) one

pub tally_turn : {D : Type 0} {g : Ghosts D} {keeps : Type 0} {moments : ℕ → Type 0} {old new : Server D g} (connection now : ℕ) (said : Said)
    → moments now → Goes keeps old new (IsOne (Did (Turns connection now) said)) → Goes keeps old new (IsTallied moments connection (record nothing { turns = 1 }))
tally_turn {moments = moments} connection now said shows one =
    goes_as {first = IsOne (Did (Turns connection now) said)} {kind = IsTallied moments connection (record nothing { turns = 1 })}
    (λ (calls : List ServerCall) (is : calls ≡ Did (Turns connection now) said ∷ []).
    subst (IsTallied moments connection (record nothing { turns = 1 })) (sym is)
    (record { on = ((refl, shows), tt); shown = refl; taken = refl; closings = refl; turns = refl; takes = refl; given = refl })) one

gives-output : (connection : ℕ) (output : Option (Vec ℕ)) → given_by (Did (Takes connection) (gave output)) ≡ bytes_of output
gives-output connection None = refl
gives-output connection (Some reply) = refl

pub tally_given : {D : Type 0} {g : Ghosts D} {keeps : Type 0} {moments : ℕ → Type 0} {old new : Server D g} (connection : ℕ) (output : Option (Vec ℕ)) (written : List ℕ)
    → Goes keeps old new (IsOne (Did (Takes connection) (gave output)))
    → Goes keeps old new (IsTallied moments connection (record nothing { takes = 1; given = bytes_of output; written = written }))
tally_given {moments = moments} connection output written one =
    goes_as {first = IsOne (Did (Takes connection) (gave output))}
    {kind = IsTallied moments connection (record nothing { takes = 1; given = bytes_of output; written = written })}
    (λ (calls : List ServerCall) (is : calls ≡ Did (Takes connection) (gave output) ∷ []).
    subst (IsTallied moments connection (record nothing { takes = 1; given = bytes_of output; written = written })) (sym is)
    (record { on = (refl, tt); shown = refl; taken = refl; closings = refl; turns = refl; takes = refl; given = gives-output connection output })) one

-- Bytes that are known

pub consumes_none : (known : Option (List ℕ)) → Consumes known known []
consumes_none None = tt
consumes_none (Some known) = refl

pub consumes_kept : (old new : Option (List ℕ)) → Keeps old new → Consumes old new []
consumes_kept None new keeps = tt
consumes_kept (Some old) None keeps = absurd keeps
consumes_kept (Some old) (Some new) keeps = sym keeps

pub consumes_then : (old between new : Option (List ℕ)) (first more : List ℕ) → Consumes old between first → Consumes between new more → Consumes old new (first ++ more)
consumes_then None between new first more one two = tt
consumes_then (Some old) None new first more one two = absurd one
consumes_then (Some old) (Some between) None first more one two = absurd two
consumes_then (Some old) (Some between) (Some new) first more one two =
    one ∙ ap (λ rest. first ++ rest) two ∙ sym (append_assoc first more new)

pub appends_none : (known : Option (List ℕ)) → Appends known known []
appends_none None = tt
appends_none (Some known) = sym (append-nil known)

pub appends_kept : (old new : Option (List ℕ)) → Keeps old new → Appends old new []
appends_kept None new keeps = tt
appends_kept (Some old) None keeps = absurd keeps
appends_kept (Some old) (Some new) keeps = keeps ∙ sym (append-nil old)

pub appends_then : (old between new : Option (List ℕ)) (first more : List ℕ) → Appends old between first → Appends between new more → Appends old new (first ++ more)
appends_then None between new first more one two = tt
appends_then (Some old) None new first more one two = absurd one
appends_then (Some old) (Some between) None first more one two = absurd two
appends_then (Some old) (Some between) (Some new) first more one two =
    two ∙ ap (λ prefix. prefix ++ more) one ∙ append_assoc old first more

-- what goes in and what comes out, first and then
pub in_order : (a b x y z p q : List ℕ) → a ++ y ≡ x ++ p → b ++ z ≡ y ++ q → (a ++ b) ++ z ≡ x ++ (p ++ q)
in_order a b x y z p q one two =
    append_assoc a b z ∙ ap (λ rest. a ++ rest) two ∙ sym (append_assoc a y q) ∙ ap (λ prefix. prefix ++ q) one ∙ append_assoc x p q

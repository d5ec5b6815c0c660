-- What holds of the seats together with the tables of clients and sessions, and that each call on
-- them keeps it.
use Rattle.std.proofs.Common.{◌≡◌, ℕ, zero, suc, ◌+◌, ◌-◌, ◌/◌, ◌^◌, ◌<◌, ◌≤◌, ◌⊎◌, inl, inr, Bool, true, false, not, cond, ◌==◌, nat_lt, nat_le, List, [], ◌∷◌, ◌++◌, map, filter, length, take, option_to_list, slice_get, find, Option, None, Some, is_some, refl, sym, ap, ◌∙◌, subst, arith, bytes_eq, length-set, append-nil, leb-true, ltb-true, eqb-true, eq-eqb, get_or, get_or-set_same, get_or-set_other, replicate}
use Rattle.std.specs.Int.{w64, to_be_bytes, from_be_bytes}
use Rattle.std.specs.List.{AllByRecursion, IsAmong}
use Rattle.std.proofs.lemmas.Bool.{true≢false, and_parts}
use Rattle.std.proofs.lemmas.List.{length-replicate}
use Rattle.std.proofs.lemmas.Nat.{from_be_bytes-to_be_bytes_8}
use Rattle.std.proofs.lemmas.Slice.Eq.{bytes_eq-Decides}
use Rattle.model_tree.specs.declared.status.Status.{Status}
use Rattle.model.specs.Operations.Answer.{CreateSessionAnswer}
use Rattle.model.specs.Operations.Operation.{CreateSessionArguments, SequenceArguments}
use Rattle.model_tree.specs.Refusals.Refusal.{first_refusal}
use Rattle.model.specs.Server.Runs.{Stored, held_of_session, kept_in, kept_at, stored_as, stored_by, freed_between}
use Rattle.model.specs.Sessions.SeatRuns.{HoldsFrom, IsFreed}
use Rattle.model_tree.specs.Seats.Seats.{HeldReply, Seat, Seats, is_seat_of, seat_of, has_seat, held_in, held_at, freed, seated, holding, run_of, SeatsApart}
use Rattle.model.specs.Sessions.Session.{SessionLimits, Client, Slot, Running, Kept, Session, Table, session_id, is_session, slot_at, no_slot, is_running_state, slots_given, with_slot, is_client, client_number, is_of_clients, replaced_by, staying, gives_way, seats_staying, persists, limits_for, fore_channel, new_session, new_seat, create_refusals, create_unless, create_again, create_by, create_session, CreateSessionOutcome, next_number, destroy_by, is_running, started, finished_slot, held_reply, held_by, finish}
use Rattle.model.proofs.Server.Headline.{slice_get-append, slice_get-within}
use Rattle.model.proofs.Sessions.AllOf.{all-mono, all-fewer, all-mapped, all-more, all-both, all-found, all_true, only_found}
use Rattle.model.proofs.Sessions.SeatLaws.{has_freed, apart_freed, was_there, had_seat, stays_or_goes, seated_other, seated_new, apart_seated, has_holding, apart_holding, held_here, held_other, holding_was, seat_holds, holds_there, among_left, among_right, freed_listed}
use Rattle.model_tree.proofs.Facts.BytesLaws.{bytes_apart, bytes_differ}
use Rattle.model.proofs.Sessions.SlotLaw.{SameSessions, RunsOn, session_id-serial, id_of, serial_left}
use Rattle.model.proofs.Sessions.StoringTurns.{same_seats, nothing_stored}
use Rattle.model.proofs.Sessions.TableCalls.{Holds, either, found_passes, found_given}
use Rattle.model.proofs.Sessions.TableLaws.{Clients, Sessions, given_by, given_serial}

-- Ids determine their run

abbrev pub in_run : ℕ → ℕ
in_run client = client / 2 ^ 32

client_of_id : (client serial : ℕ) → client < 2 ^ 64 → from_be_bytes w64 (take 8 (session_id client serial)) ≡ client
unfolding session_id
client_of_id client serial small =
    let prefix : take 8 (to_be_bytes w64 client ++ to_be_bytes w64 serial) ≡ to_be_bytes w64 client = refl in
    ap (from_be_bytes w64) prefix ∙ from_be_bytes-to_be_bytes_8 client small

small_client : (run client : ℕ) → run < 2 ^ 32 → in_run client ≡ run → client < 2 ^ 64
small_client run client small is = omega (arith, small, is)

pub id_of_run : (run client serial : ℕ) → run < 2 ^ 32 → in_run client ≡ run → run_of (session_id client serial) ≡ run
id_of_run run client serial small is = ap in_run (client_of_id client serial (small_client run client small is)) ∙ is

-- no later session of this run has this id
pub record IsPast (run made : ℕ) (id : List ℕ) : Type 0 where
  pub never : (client serial : ℕ) → in_run client ≡ run → made < serial → serial < 2 ^ 64 → session_id client serial ≡ id → ⊥

pub past_later : (run made : ℕ) (id : List ℕ) → IsPast run made id → IsPast run (made + 1) id
past_later run made id past = record { never = λ client serial of_run above small same. past.never client serial of_run (omega arith) small same }

pub past_earlier : (run made : ℕ) (id : List ℕ) → run < 2 ^ 32 → run_of id < run → IsPast run made id
past_earlier run made id small earlier = record {
  never = λ client serial of_run above fits same.
      let is : run_of id ≡ run = ap run_of (sym same) ∙ id_of_run run client serial small of_run in
      omega (arith, earlier, is);
}

past_made : (run made client serial : ℕ) → serial ≤ made → made < 2 ^ 64 → IsPast run made (session_id client serial)
past_made run made client serial before small = record {
  never = λ other later of_run above fits same.
      let equal = session_id-serial other later client serial fits (omega arith) same in
      omega (arith, equal, above, before);
}

-- The invariant

abbrev pub id_in : Session → List ℕ
id_in session = session_id session.client session.serial

-- its seat and the session have equally many slots
abbrev pub SeatFits : Seats → Session → Type 0
SeatFits seats session = (seat : Seat) → seat_of (id_in session) seats ≡ Some seat → length seat.slots ≡ length session.slots

abbrev pub IsKept : Seats → List Stored → List (List ℕ) → ℕ → Stored → Type 0
IsKept seats stored gone i one = HoldsFrom seats stored i one ⊎ IsFreed seats gone one.session

-- what a seat of a session of this run holds was stored
abbrev pub HeldWas : (run : ℕ) → Seats → List Stored → Type 0
HeldWas run seats stored = (id : List ℕ) (place : ℕ) (held : HeldReply) → run_of id ≡ run → held_at id place seats ≡ Some held
    → IsAmong stored (record { session = id; slot = place; held = held })

pub record Seated (run : ℕ) (table : Table) (stored : List Stored) (gone : List (List ℕ)) : Type 0 where
  pub of_run : AllByRecursion (λ (session : Session). in_run session.client ≡ run) table.sessions
  pub apart : SeatsApart table.seats
  pub past : (id : List ℕ) → has_seat id table.seats ≡ true → IsPast run table.session_serial id
  pub fits : AllByRecursion (SeatFits table.seats) table.sessions
  pub theirs : HeldWas run table.seats stored
  pub old : (i : ℕ) (one : Stored) → slice_get stored i ≡ Some one → IsPast run table.session_serial one.session
  pub kept : (i : ℕ) (one : Stored) → slice_get stored i ≡ Some one → IsKept table.seats stored gone i one

-- Nothing more was stored; and more may have been freed

abbrev AllKept : Seats → List Stored → List (List ℕ) → Type 0
AllKept seats stored gone = (i : ℕ) (one : Stored) → slice_get stored i ≡ Some one → IsKept seats stored gone i one

more_freed : (seats : Seats) (stored : List Stored) (gone more : List (List ℕ)) (i : ℕ) (one : Stored) → IsKept seats stored gone i one → IsKept seats stored (gone ++ more) i one
more_freed seats stored gone more i one (inl holds) = inl holds
more_freed seats stored gone more i one (inr freed) = inr (record { gone = freed.gone; listed = among_left gone more one.session freed.listed })

pub seated_more : (run : ℕ) (table : Table) (stored : List Stored) (gone more : List (List ℕ)) → Seated run table stored gone → Seated run table stored (gone ++ more)
seated_more run table stored gone more is = record {
  of_run = is.of_run;
  apart = is.apart;
  past = is.past;
  fits = is.fits;
  theirs = is.theirs;
  old = is.old;
  kept = λ i one at. more_freed table.seats stored gone more i one (is.kept i one at);
}

-- The sessions are as they were, or some of them change their slots, and the seats stay

pub seated_same : (run : ℕ) (old new : Table) (stored : List Stored) (gone : List (List ℕ)) → SameSessions old new → Seated run old stored gone → Seated run new stored gone
seated_same run old new stored gone same is = record {
  of_run = subst (AllByRecursion (λ (session : Session). in_run session.client ≡ run)) (sym same.sessions) is.of_run;
  apart = subst SeatsApart (sym same.seats) is.apart;
  past = λ id has. subst (λ (n : ℕ). IsPast run n id) (sym same.serial) (is.past id (ap (has_seat id) (sym same.seats) ∙ has));
  fits =
      subst (AllByRecursion (SeatFits new.seats)) (sym same.sessions)
      (subst (λ (s : Seats). AllByRecursion (SeatFits s) old.sessions) (sym same.seats) is.fits);
  theirs = subst (λ (s : Seats). HeldWas run s stored) (sym same.seats) is.theirs;
  old = λ i one at. subst (λ (n : ℕ). IsPast run n one.session) (sym same.serial) (is.old i one at);
  kept = λ i one at. subst (λ (s : Seats). IsKept s stored gone i one) (sym same.seats) (is.kept i one at);
}

module _ (f : Session → Session) (clients : (x : Session) → (f x).client ≡ x.client) (serials : (x : Session) → (f x).serial ≡ x.serial)
    (slots : (x : Session) → length (f x).slots ≡ length x.slots) where
  same_id : (session : Session) → id_in (f session) ≡ id_in session
  same_id session = ap (λ (c : ℕ). session_id c (f session).serial) (clients session) ∙ ap (session_id session.client) (serials session)

  mapped_runs : (run : ℕ) (sessions : List Session) → AllByRecursion (λ (session : Session). in_run session.client ≡ run) sessions
      → AllByRecursion (λ (session : Session). in_run session.client ≡ run) (map f sessions)
  mapped_runs run sessions of_run =
      all-mapped (λ (session : Session). in_run session.client ≡ run) (λ (session : Session). in_run session.client ≡ run) f sessions
      (λ session of. ap in_run (clients session) ∙ of) of_run

  mapped_fits : (seats : Seats) (sessions : List Session) → AllByRecursion (SeatFits seats) sessions → AllByRecursion (SeatFits seats) (map f sessions)
  mapped_fits seats sessions fits =
      all-mapped (SeatFits seats) (SeatFits seats) f sessions
      (λ session fit seat there. fit seat (ap (λ (id : List ℕ). seat_of id seats) (sym (same_id session)) ∙ there) ∙ sym (slots session)) fits

  pub seated_mapped : (run : ℕ) (table : Table) (stored : List Stored) (gone : List (List ℕ)) → Seated run table stored gone
      → Seated run (record table { sessions = map f table.sessions }) stored gone
  seated_mapped run table stored gone is = record {
    of_run = mapped_runs run table.sessions is.of_run;
    apart = is.apart;
    past = is.past;
    fits = mapped_fits table.seats table.sessions is.fits;
    theirs = is.theirs;
    old = is.old;
    kept = is.kept;
  }

pub seated_fewer : (run : ℕ) (table : Table) (stored : List Stored) (gone : List (List ℕ)) (keeps : Session → Bool) → Seated run table stored gone
    → Seated run (record table { sessions = filter keeps table.sessions }) stored gone
seated_fewer run table stored gone keeps is = record {
  of_run = all-fewer (λ (session : Session). in_run session.client ≡ run) keeps table.sessions is.of_run;
  apart = is.apart;
  past = is.past;
  fits = all-fewer (SeatFits table.seats) keeps table.sessions is.fits;
  theirs = is.theirs;
  old = is.old;
  kept = is.kept;
}

-- Seats are freed

module _ (run : ℕ) (table : Table) (stored : List Stored) (gone : List (List ℕ)) (goes : Seat → Bool) (is : Seated run table stored gone) where
  abbrev left : Seats
  left = freed goes table.seats

  still_kept : (i : ℕ) (one : Stored) → IsKept table.seats stored gone i one → IsKept left stored (gone ++ freed_between table.seats left) i one
  still_kept i one (inl holds) =
      let seat = seat_holds one.session one.slot table.seats holds.reply.held holds.held in
      elim (stays_or_goes goes one.session table.seats seat.0 is.apart seat.1) [
        | inl stays ↦ inl (holds_there table.seats left stored i one holds (ap (held_in one.slot) (stays ∙ sym seat.1)))
        | inr went ↦ inr (record {
          gone = went;
          listed = among_right gone (freed_between table.seats left) one.session (freed_listed one.session table.seats left seat.0 seat.1 went);
        })
      ]
  still_kept i one (inr freed_before) = inr (record {
    gone = has_freed goes one.session table.seats is.apart freed_before.gone;
    listed = among_left gone (freed_between table.seats left) one.session freed_before.listed;
  })

  -- what the seats that are left hold was held before
  held_before : (id : List ℕ) (place : ℕ) (held : HeldReply) → held_at id place left ≡ Some held → held_at id place table.seats ≡ Some held
  held_before id place held there =
      let seat = seat_holds id place left held there in
      ap (held_in place) (was_there goes id table.seats seat.0 is.apart seat.1 ∙ sym seat.1) ∙ there

  pub seated_less : Seated run (record table { seats = left }) stored (gone ++ freed_between table.seats left)
  seated_less = record {
    of_run = is.of_run;
    apart = apart_freed goes table.seats is.apart;
    past = λ id has. is.past id (had_seat goes id table.seats is.apart has);
    fits = all-mono (SeatFits table.seats) (SeatFits left) table.sessions
        (λ session fits seat there. fits seat (was_there goes (id_in session) table.seats seat is.apart there)) is.fits;
    theirs = λ id place held of_run there. is.theirs id place held of_run (held_before id place held there);
    old = is.old;
    kept = λ i one at. still_kept i one (is.kept i one at);
  }

-- DESTROY_SESSION

pub seated_destroyed : (run : ℕ) (id : List ℕ) (table : Table) (stored : List Stored) (gone : List (List ℕ)) → Seated run table stored gone → (known : Option Session)
    → Seated run (destroy_by id table known).1 stored (gone ++ freed_between table.seats (destroy_by id table known).1.seats)
seated_destroyed run id table stored gone is None =
    either (λ (r : Option Status × Table). Seated run r.1 stored (gone ++ freed_between table.seats r.1.seats)) (has_seat id table.seats) _ _
    (λ has. seated_less run table stored gone (is_seat_of id) is)
    (λ none. seated_more run table stored gone (freed_between table.seats table.seats) is)
seated_destroyed run id table stored gone is (Some session) =
    either (λ (r : Option Status × Table). Seated run r.1 stored (gone ++ freed_between table.seats r.1.seats)) (is_running session) _ _
    (λ runs. seated_more run table stored gone (freed_between table.seats table.seats) is)
    (λ rests. seated_less run (record table { sessions = filter (λ x. not (is_session id x)) table.sessions }) stored gone (is_seat_of id)
    (seated_fewer run table stored gone (λ x. not (is_session id x)) is))

-- CREATE_SESSION

abbrev pub IsBelow : ℕ → Session → Type 0
IsBelow made session = session.serial ≤ made

below_given : (made : ℕ) (session : Session) → given_serial made session ≡ true → session.serial ≤ made
below_given made session is = leb-true session.serial made (and_parts (nat_lt 0 session.serial) (nat_le session.serial made) is).1

pub all_below : (limits : SessionLimits) (made : ℕ) (sessions : List Session) → Sessions limits made sessions → AllByRecursion (IsBelow made) sessions
all_below limits made sessions holds =
    all-mono (λ (session : Session). given_serial made session ≡ true) (IsBelow made) sessions (below_given made) (all_true (given_serial made) sessions holds.given)

pub client_in_run : (limits : SessionLimits) (run serial : ℕ) (clients : List Client) → Clients limits run serial clients → (number : ℕ) (client : Client)
    → find (is_client number) clients ≡ Some client → in_run client.number ≡ run
client_in_run limits run serial clients holds number client found =
    let given = found_given (is_client number) (given_by run serial) clients client holds.given found in
    let parts = and_parts (nat_lt (client_number run 0) client.number) (nat_le client.number (client_number run serial)) given in
    let above = ltb-true (client_number run 0) client.number parts.0 in
    let below = leb-true client.number (client_number run serial) parts.1 in
    let small = holds.small in
    omega (arith, above, below, small)

has_none : (o : Bool) → (o ≡ true → ⊥) → o ≡ false
has_none true never = absurd (never refl)
has_none false never = refl

-- one more session
module _ (run : ℕ) (table : Table) (stored : List Stored) (gone : List (List ℕ)) (is : Seated run table stored gone) (new : Session)
    (next : new.serial ≡ table.session_serial + 1) (of_run : in_run new.client ≡ run) (small : table.session_serial + 1 < 2 ^ 64)
    (below : AllByRecursion (IsBelow table.session_serial) table.sessions) where
  not_past : IsPast run table.session_serial (id_in new) → ⊥
  not_past past = past.never new.client new.serial of_run (omega (arith, next)) (omega (arith, next, small)) refl

  pub new_has_none : has_seat (id_in new) table.seats ≡ false
  new_has_none = has_none (has_seat (id_in new) table.seats) (λ has. not_past (is.past (id_in new) has))

  not_new : (id : List ℕ) → IsPast run table.session_serial id → bytes_eq (id_in new) id ≡ false
  not_new id past = bytes_apart (id_in new) id (λ same. not_past (subst (IsPast run table.session_serial) (sym same) past))

  pub seated_added : Seated run (record table { session_serial = table.session_serial + 1; sessions = table.sessions ++ new ∷ [] }) stored gone
  seated_added = record {
    of_run = all-more (λ (session : Session). in_run session.client ≡ run) table.sessions new is.of_run of_run;
    apart = is.apart;
    past = λ id has. past_later run table.session_serial id (is.past id has);
    fits = all-more (SeatFits table.seats) table.sessions new is.fits
        (λ seat there. absurd (true≢false (sym (ap is_some there) ∙ new_has_none)));
    theirs = is.theirs;
    old = λ i one at. past_later run table.session_serial one.session (is.old i one at);
    kept = is.kept;
  }

  module _ (seat : Seat) (named : seat.session ≡ id_in new) (slots : length seat.slots ≡ length new.slots)
      (empty : (place : ℕ) → held_in place (Some seat) ≡ None) where
    abbrev with_it : Seats
    with_it = seated seat table.seats

    none : has_seat seat.session table.seats ≡ false
    none = ap (λ (id : List ℕ). has_seat id table.seats) named ∙ new_has_none

    not_its : (id : List ℕ) → IsPast run table.session_serial id → bytes_eq seat.session id ≡ false
    not_its id past = ap (λ (name : List ℕ). bytes_eq name id) named ∙ not_new id past

    same_seat_of : (id : List ℕ) → IsPast run table.session_serial id → seat_of id with_it ≡ seat_of id table.seats
    same_seat_of id past = seated_other seat id table.seats (not_its id past)

    still_kept_with : (i : ℕ) (one : Stored) → IsPast run table.session_serial one.session → IsKept table.seats stored gone i one → IsKept with_it stored gone i one
    still_kept_with i one past (inl holds) = inl (holds_there table.seats with_it stored i one holds (ap (held_in one.slot) (same_seat_of one.session past)))
    still_kept_with i one past (inr freed_before) =
        inr (record { gone = ap is_some (same_seat_of one.session past) ∙ freed_before.gone; listed = freed_before.listed })

    past_with : (id : List ℕ) → has_seat id with_it ≡ true → IsPast run (table.session_serial + 1) id
    past_with id has = by_test (bytes_eq seat.session id) refl
      where
        by_test : (b : Bool) → bytes_eq seat.session id ≡ b → IsPast run (table.session_serial + 1) id
        by_test true same =
            let it : id_in new ≡ id = sym named ∙ (bytes_eq-Decides seat.session id).0 same in
            subst (IsPast run (table.session_serial + 1)) it (past_made run (table.session_serial + 1) new.client new.serial (omega (arith, next)) small)
        by_test false apart = past_later run table.session_serial id (is.past id (sym (ap is_some (seated_other seat id table.seats apart)) ∙ has))

    fits_old : (session : Session) → SeatFits table.seats session × IsBelow table.session_serial session → SeatFits with_it session
    fits_old session both found there =
        let past = past_made run table.session_serial session.client session.serial both.1 (omega (arith, small)) in
        both.0 found (sym (same_seat_of (id_in session) past) ∙ there)

    fits_new : SeatFits with_it new
    fits_new found there =
        let it : found ≡ seat = seated_new seat table.seats found none (ap (λ (id : List ℕ). seat_of id with_it) named ∙ there) in
        ap (λ (s : Seat). length s.slots) it ∙ slots

    held_with : (id : List ℕ) (place : ℕ) (held : HeldReply) → run_of id ≡ run → held_at id place with_it ≡ Some held → IsAmong stored (record { session = id; slot = place; held = held })
    held_with id place held its there = by_test (bytes_eq seat.session id) refl
      where
        by_test : (b : Bool) → bytes_eq seat.session id ≡ b → IsAmong stored (record { session = id; slot = place; held = held })
        by_test false apart = is.theirs id place held its (ap (held_in place) (sym (seated_other seat id table.seats apart)) ∙ there)
        by_test true same =
            let name : seat.session ≡ id = (bytes_eq-Decides seat.session id).0 same in
            let found = seat_holds id place with_it held there in
            let it : found.0 ≡ seat = seated_new seat table.seats found.0 none (ap (λ (i : List ℕ). seat_of i with_it) name ∙ found.1) in
            let empty_one : Some held ≡ None = sym there ∙ (ap (held_in place) found.1 ∙ (ap (λ (s : Seat). held_in place (Some s)) it ∙ empty place)) in
            absurd (cc)

    pub seated_with : Seated run (record table { session_serial = table.session_serial + 1; sessions = table.sessions ++ new ∷ []; seats = with_it }) stored gone
    seated_with = record {
      of_run = all-more (λ (session : Session). in_run session.client ≡ run) table.sessions new is.of_run of_run;
      apart = apart_seated seat table.seats is.apart none;
      past = past_with;
      fits = all-more (SeatFits with_it) table.sessions new
          (all-mono (λ (session : Session). SeatFits table.seats session × IsBelow table.session_serial session) (SeatFits with_it) table.sessions fits_old
          (all-both (SeatFits table.seats) (IsBelow table.session_serial) table.sessions is.fits below))
          fits_new;
      theirs = held_with;
      old = λ i one at. past_later run table.session_serial one.session (is.old i one at);
      kept = λ i one at. still_kept_with i one (is.old i one at) (is.kept i one at);
    }

-- a new seat frees none
freed_same : (seat : Seat) (old new : Seats) → has_seat seat.session old ≡ false → freed_between old (seated seat new) ≡ freed_between old new
freed_same seat [] new _ = refl
freed_same seat (None ∷ old) new none = freed_same seat old new none
freed_same seat (Some other ∷ old) new none = by_test (freed_same seat old new) (bytes_eq other.session seat.session) refl none
  where
    by_test : (has_seat seat.session old ≡ false → freed_between old (seated seat new) ≡ freed_between old new) → (b : Bool) → bytes_eq other.session seat.session ≡ b
        → is_some (cond b (Some other) (seat_of seat.session old)) ≡ false
        → cond (has_seat other.session (seated seat new)) (freed_between old (seated seat new)) (other.session ∷ freed_between old (seated seat new))
        ≡ cond (has_seat other.session new) (freed_between old new) (other.session ∷ freed_between old new)
    by_test rest true same none = absurd (true≢false none)
    by_test rest false apart none =
        ap (λ (b : Bool). cond b (freed_between old (seated seat new)) (other.session ∷ freed_between old (seated seat new)))
        (ap is_some (seated_other seat other.session new (bytes_apart seat.session other.session (λ same. bytes_differ other.session seat.session apart (sym same)))))
        ∙ ap (λ (l : List (List ℕ)). cond (has_seat other.session new) l (other.session ∷ l)) (rest none)

none_in : (count place : ℕ) → (let all : List (Option HeldReply) = replicate count None in get_or all place None ≡ None)
none_in zero place = refl
none_in (suc count) zero = refl
none_in (suc count) (suc place) = none_in count place

module _ (limits : SessionLimits) (stored : List Stored) (gone : List (List ℕ)) (arguments : CreateSessionArguments) (client : Client) (table : Table)
    (holds : Holds limits table) (is : Seated table.run table stored gone) (number : ℕ) (found : find (is_client number) table.clients ≡ Some client) where
  abbrev freed_first : Table
  freed_first = record table { sessions = staying client table; seats = seats_staying arguments client table }

  its_run : in_run client.number ≡ table.run
  its_run = client_in_run limits table.run table.client_serial table.clients holds.0 number client found

  abbrev gone_first : List (List ℕ)
  gone_first = gone ++ freed_between table.seats (seats_staying arguments client table)

  freed_is : Seated table.run freed_first stored gone_first
  freed_is =
      seated_less table.run (record table { sessions = staying client table }) stored gone (gives_way arguments client table)
      (seated_fewer table.run table stored gone (λ x. not (is_of_clients (replaced_by client table) x)) is)

  first_below : AllByRecursion (IsBelow table.session_serial) (staying client table)
  first_below =
      all-fewer (IsBelow table.session_serial) (λ x. not (is_of_clients (replaced_by client table) x)) table.sessions
      (all_below limits table.session_serial table.sessions holds.1)

  abbrev made : Session
  made = new_session limits arguments client table

  abbrev its_seat : Seat
  its_seat = new_seat limits arguments client table

  abbrev after_it : Seats → Table
  after_it seats = record freed_first { session_serial = table.session_serial + 1; sessions = staying client table ++ made ∷ []; seats = seats }

  created_by_seat : table.session_serial < 2 ^ 64 - 1 → (b : Bool)
      → (let seats : Seats = cond b (seated its_seat (seats_staying arguments client table)) (seats_staying arguments client table) in
      Seated table.run (after_it seats) stored (gone ++ freed_between table.seats seats))
  created_by_seat room true =
      let small : table.session_serial + 1 < 2 ^ 64 = omega (arith, room) in
      let none : has_seat its_seat.session table.seats ≡ false
      = new_has_none table.run table stored gone is made refl its_run small (all_below limits table.session_serial table.sessions holds.1) in
      let count : length its_seat.slots ≡ length made.slots =
      length-replicate (fore_channel (limits_for limits (persists arguments client table)) arguments.fore).max_requests None
      ∙ sym (length-replicate (fore_channel (limits_for limits (persists arguments client table)) arguments.fore).max_requests no_slot) in
      subst (λ (l : List (List ℕ)). Seated table.run (after_it (seated its_seat (seats_staying arguments client table))) stored (gone ++ l))
      (sym (freed_same its_seat table.seats (seats_staying arguments client table) none))
      (seated_with table.run freed_first stored gone_first freed_is made refl its_run small first_below its_seat refl count
      (λ place. none_in (slots_given limits arguments client table) place))
  created_by_seat room false =
      let small : table.session_serial + 1 < 2 ^ 64 = omega (arith, room) in
      seated_added table.run freed_first stored gone_first freed_is made refl its_run small first_below

  pub seated_created : (refusal : Option Status) → first_refusal (create_refusals limits arguments client table) ≡ refusal
      → (let new : Table = (create_unless limits arguments client table refusal).table in
      Seated table.run new stored (gone ++ freed_between table.seats new.seats))
  seated_created (Some reason) e = seated_more table.run table stored gone (freed_between table.seats table.seats) is
  seated_created None e =
      let done = created_by_seat (serial_left limits arguments client table e) (persists arguments client table) in
      record { of_run = done.of_run; apart = done.apart; past = done.past; fits = done.fits; theirs = done.theirs; old = done.old; kept = done.kept }

  abbrev CreatedSo : CreateSessionOutcome → Type 0
  CreatedSo outcome = Seated table.run outcome.table stored (gone ++ freed_between table.seats outcome.table.seats)

  pub seated_again : (kept : Option CreateSessionAnswer) → CreatedSo (create_again limits arguments client table kept)
  seated_again None = seated_created (first_refusal (create_refusals limits arguments client table)) refl
  seated_again (Some answer) =
      either CreatedSo (next_number arguments.sequence == client.sequence) _ _
      (λ same. seated_more table.run table stored gone (freed_between table.seats table.seats) is)
      (λ other. seated_created (first_refusal (create_refusals limits arguments client table)) refl)

pub seated_create : (limits : SessionLimits) (stored : List Stored) (gone : List (List ℕ)) (uid : ℕ) (arguments : CreateSessionArguments) (table : Table)
    → Holds limits table → Seated table.run table stored gone
    → (let new : Table = (create_session limits uid arguments table).table in Seated table.run new stored (gone ++ freed_between table.seats new.seats))
unfolding create_session
seated_create limits stored gone uid arguments table holds is = by_client (find (is_client arguments.client) table.clients) refl
  where
    by_client : (known : Option Client) → find (is_client arguments.client) table.clients ≡ known
        → (let new : Table = (create_by limits uid arguments table known).table in Seated table.run new stored (gone ++ freed_between table.seats new.seats))
    by_client None found = seated_more table.run table stored gone (freed_between table.seats table.seats) is
    by_client (Some client) found =
        either (λ (o : CreateSessionOutcome). Seated table.run o.table stored (gone ++ freed_between table.seats o.table.seats)) (client.principal == uid) _ _
        (λ own. seated_again limits stored gone arguments client table holds is arguments.client found client.kept)
        (λ other. seated_more table.run table stored gone (freed_between table.seats table.seats) is)

-- A slot keeps its reply, and a seat holds it

find-mapped : {A : Type 0} (test : A → Bool) (f : A → A) (xs : List A) (x : A) → ((y : A) → test (f y) ≡ test y) → find test xs ≡ Some x → find test (map f xs) ≡ Some (f x)
find-mapped test f [] x same found = absurd (cc)
find-mapped {A} test f (y ∷ xs) x same found = by_test (λ later. find-mapped test f xs x same later) (test y) refl found
  where
    by_test : (find test xs ≡ Some x → find test (map f xs) ≡ Some (f x)) → (b : Bool) → test y ≡ b → cond b (Some y) (find test xs) ≡ Some x
        → cond (test (f y)) (Some (f y)) (find test (map f xs)) ≡ Some (f x)
    by_test rest true is here =
        let one : y ≡ x = cc in
        ap (λ (b : Bool). cond b (Some (f y)) (find test (map f xs))) (same y ∙ is) ∙ ap (λ (z : A). Some (f z)) one
    by_test rest false is later = ap (λ (b : Bool). cond b (Some (f y)) (find test (map f xs))) (same y ∙ is) ∙ rest later

pub get-last : {A : Type 0} (xs : List A) (x : A) → slice_get (xs ++ x ∷ []) (length xs) ≡ Some x
get-last [] x = refl
get-last (y ∷ xs) x = get-last xs x

last-place : {A : Type 0} (xs : List A) (x : A) (i : ℕ) (y : A) → slice_get (xs ++ x ∷ []) i ≡ Some y → (slice_get xs i ≡ Some y) ⊎ ((i ≡ length xs) × (y ≡ x))
last-place [] x zero y e = let same : y ≡ x = cc in inr (refl, same)
last-place [] x (suc i) y e = absurd (cc)
last-place (z ∷ xs) x zero y e = inl e
last-place (z ∷ xs) x (suc i) y e = elim (last-place xs x i y e) [
  | inl there ↦ inl there
  | inr last ↦ inr (ap suc last.0, last.1)
]

module _ (id : List ℕ) (place : ℕ) (reply : List ℕ) where
  abbrev finishing : Session → Session
  finishing session = cond (is_session id session) (finished_slot place reply session) session

  by_name : {A : Type 0} (told : Session → A) → ((session : Session) → told (finished_slot place reply session) ≡ told session) → (session : Session)
      → told (finishing session) ≡ told session
  by_name told same session = by_test (is_session id session)
    where
      by_test : (b : Bool) → told (cond b (finished_slot place reply session) session) ≡ told session
      by_test true = same session
      by_test false = refl

  slots_still : (session : Session) → length (finishing session).slots ≡ length session.slots
  slots_still = by_name (λ (s : Session). length s.slots) (λ s. length-set s.slots place (record (slot_at s place) { state = Kept reply }))

  finishing_runs : (run : ℕ) (sessions : List Session) → AllByRecursion (λ (session : Session). in_run session.client ≡ run) sessions
      → AllByRecursion (λ (session : Session). in_run session.client ≡ run) (map finishing sessions)
  finishing_runs = mapped_runs finishing (by_name (λ (s : Session). s.client) (λ s. refl)) (by_name (λ (s : Session). s.serial) (λ s. refl)) slots_still

  finishing_fits : (seats : Seats) (sessions : List Session) → AllByRecursion (SeatFits seats) sessions → AllByRecursion (SeatFits seats) (map finishing sessions)
  finishing_fits = mapped_fits finishing (by_name (λ (s : Session). s.client) (λ s. refl)) (by_name (λ (s : Session). s.serial) (λ s. refl)) slots_still

  finishing_still : (session : Session) → is_session id (finishing session) ≡ is_session id session
  finishing_still session = by_name (is_session id) (λ s. refl) session

  -- no seat holds it
  pub finished_unheld : (run : ℕ) (table : Table) (stored : List Stored) (gone : List (List ℕ)) → Seated run table stored gone → Seated run (finish id place false reply table) stored gone
  unfolding finish
  finished_unheld run table stored gone is = record {
    of_run = finishing_runs run table.sessions is.of_run;
    apart = is.apart;
    past = is.past;
    fits = finishing_fits table.seats table.sessions is.fits;
    theirs = is.theirs;
    old = is.old;
    kept = is.kept;
  }

  -- one of a session that has no seat stores nothing
  pub finished_unseated : (run : ℕ) (table : Table) (stored : List Stored) (gone : List (List ℕ)) → has_seat id table.seats ≡ false → Seated run table stored gone
      → Seated run (finish id place true reply table) (stored ++ option_to_list (stored_by (finish id place true reply table) (Some (id, place)) true)) gone
  unfolding finish
  finished_unseated run table stored gone none is =
      let new = finish id place true reply table in
      let seats = sym (same_seats id place reply table none) in
      let all : stored ≡ stored ++ option_to_list (stored_by new (Some (id, place)) true)
      = sym (append-nil stored) ∙ ap (λ (o : Option Stored). stored ++ option_to_list o) (sym (nothing_stored id place reply table none)) in
      subst (λ (l : List Stored). Seated run new l gone) all (record {
        of_run = finishing_runs run table.sessions is.of_run;
        apart = subst SeatsApart seats is.apart;
        past = λ name has. is.past name (ap (has_seat name) seats ∙ has);
        fits = subst (λ (s : Seats). AllByRecursion (SeatFits s) new.sessions) seats (finishing_fits table.seats table.sessions is.fits);
        theirs = subst (λ (s : Seats). HeldWas run s stored) seats is.theirs;
        old = is.old;
        kept = λ i one at. subst (λ (s : Seats). IsKept s stored gone i one) seats (is.kept i one at);
      })

  module _ (run : ℕ) (table : Table) (stored : List Stored) (gone : List (List ℕ)) (is : Seated run table stored gone) (session : Session)
      (found : find (is_session id) table.sessions ≡ Some session) (within : place < length session.slots) where
    abbrev pub its_held : HeldReply
    its_held = held_reply reply (slot_at session place)

    abbrev pub its_stored : Stored
    its_stored = record { session = id; slot = place; held = its_held }

    abbrev pub its_seats : Seats
    its_seats = holding id place its_held table.seats

    pub seats_are : (finish id place true reply table).seats ≡ its_seats
    unfolding finish
    seats_are = ap (held_by id place reply table.seats) found

    pub kept_is : kept_at id place (finish id place true reply table) ≡ Some its_held
    unfolding finish
    kept_is =
        let named : is_session id session ≡ true = found_passes (is_session id) table.sessions session found in
        let there : find (is_session id) (map finishing table.sessions) ≡ Some (finishing session)
        = find-mapped (is_session id) finishing table.sessions session finishing_still found in
        ap (held_of_session place) there
        ∙ (ap (λ (b : Bool). held_of_session place (Some (cond b (finished_slot place reply session) session))) named
        ∙ ap (λ (slot : Slot). kept_in slot slot.state)
        (get_or-set_same session.slots place (record (slot_at session place) { state = Kept reply }) no_slot within))

    module _ (has : has_seat id table.seats ≡ true) where
      pub stored_is : stored_by (finish id place true reply table) (Some (id, place)) true ≡ Some its_stored
      stored_is =
          ap (λ (b : Bool). cond b (stored_as id place (kept_at id place (finish id place true reply table))) None)
          (ap (has_seat id) seats_are ∙ (has_holding id place its_held id table.seats ∙ has))
          ∙ ap (stored_as id place) kept_is

      abbrev all_stored : List Stored
      all_stored = stored ++ its_stored ∷ []

      the_seat : (seat : Seat) × (seat_of id table.seats ≡ Some seat) × (place < length seat.slots)
      the_seat = by_option (seat_of id table.seats) refl
        where
          by_option : (o : Option Seat) → seat_of id table.seats ≡ o → (seat : Seat) × (seat_of id table.seats ≡ Some seat) × (place < length seat.slots)
          by_option None none = absurd (true≢false (sym has ∙ ap is_some none))
          by_option (Some seat) there =
              let fits = all-found (SeatFits table.seats) (is_session id) table.sessions session is.fits found in
              let named = id_of id session (found_passes (is_session id) table.sessions session found) in
              let as_many : length seat.slots ≡ length session.slots = fits seat (ap (λ (i : List ℕ). seat_of i table.seats) named ∙ there) in
              (seat, there, omega (arith, as_many, within))

      pub held_now : held_at id place its_seats ≡ Some its_held
      held_now = held_here id place its_held table.seats the_seat.0 the_seat.1 the_seat.2

      -- of what was stored before, this is the next one of its slot, or it is of another
      kept_before : (i : ℕ) (one : Stored) → slice_get stored i ≡ Some one → IsKept table.seats stored gone i one → IsKept its_seats all_stored gone i one
      kept_before i one at (inr freed_before) =
          inr (record { gone = has_holding id place its_held one.session table.seats ∙ freed_before.gone; listed = freed_before.listed })
      kept_before i one at (inl holds) = by_tests (bytes_eq one.session id) (one.slot == place) refl refl
        where
          next_one : one.session ≡ id → one.slot ≡ place → IsKept its_seats all_stored gone i one
          next_one named here = inl (record {
            later = length stored;
            behind = let inside = slice_get-within stored i one at in omega (arith, inside);
            reply = its_stored;
            stands = get-last stored its_stored;
            session = sym named;
            slot = sym here;
            held = ap (λ (n : List ℕ). held_at n one.slot its_seats) named ∙ (ap (λ (p : ℕ). held_at id p its_seats) here ∙ held_now);
          })

          other_one : (one.session ≡ id → one.slot ≡ place → ⊥) → IsKept its_seats all_stored gone i one
          other_one other = inl (record {
            later = holds.later;
            behind = holds.behind;
            reply = holds.reply;
            stands = slice_get-append stored (its_stored ∷ []) holds.later (slice_get-within stored holds.later holds.reply holds.stands) ∙ holds.stands;
            session = holds.session;
            slot = holds.slot;
            held = held_other id place its_held one.session one.slot table.seats other ∙ holds.held;
          })

          by_tests : (b p : Bool) → bytes_eq one.session id ≡ b → (one.slot == place) ≡ p → IsKept its_seats all_stored gone i one
          by_tests true true named here = next_one ((bytes_eq-Decides one.session id).0 named) (eqb-true one.slot place here)
          by_tests true false named apart = other_one (λ same here. true≢false (sym (eq-eqb one.slot place here) ∙ apart))
          by_tests false p apart here = other_one (λ same at. bytes_differ one.session id apart same)

      kept_now : (i : ℕ) (one : Stored) → slice_get all_stored i ≡ Some one → IsKept its_seats all_stored gone i one
      kept_now i one at = elim (last-place stored its_stored i one at) [
        | inl before ↦ kept_before i one before (is.kept i one before)
        | inr last ↦ inl (record {
          later = length stored;
          behind = let here = last.0 in omega (arith, here);
          reply = its_stored;
          stands = get-last stored its_stored;
          session = sym (ap (λ (s : Stored). s.session) last.1);
          slot = sym (ap (λ (s : Stored). s.slot) last.1);
          held = ap (λ (s : Stored). held_at s.session s.slot its_seats) last.1 ∙ held_now;
        })
      ]

      old_now : (i : ℕ) (one : Stored) → slice_get all_stored i ≡ Some one → IsPast run table.session_serial one.session
      old_now i one at = elim (last-place stored its_stored i one at) [
        | inl before ↦ is.old i one before
        | inr last ↦ subst (λ (s : Stored). IsPast run table.session_serial s.session) (sym last.1) (is.past id has)
      ]

      -- what the seats hold now was held before, or it is this reply
      held_all : HeldWas run its_seats all_stored
      held_all name at held of_run there = by_tests (bytes_eq name id) (at == place) refl refl
        where
          before : (name ≡ id → at ≡ place → ⊥) → IsAmong all_stored (record { session = name; slot = at; held = held })
          before other =
              among_left stored (its_stored ∷ []) (record { session = name; slot = at; held = held })
              (is.theirs name at held of_run (sym (held_other id place its_held name at table.seats other) ∙ there))

          by_tests : (b p : Bool) → bytes_eq name id ≡ b → (at == place) ≡ p → IsAmong all_stored (record { session = name; slot = at; held = held })
          by_tests true true named here =
              let its_name : name ≡ id = (bytes_eq-Decides name id).0 named in
              let its_place : at ≡ place = eqb-true at place here in
              let both : Some its_held ≡ Some held
              = sym held_now ∙ (ap (λ (n : List ℕ). held_at n place its_seats) (sym its_name) ∙ (ap (λ (p : ℕ). held_at name p its_seats) (sym its_place) ∙ there)) in
              let its : its_held ≡ held = cc in
              let same : its_stored ≡ record { session = name; slot = at; held = held } = cc in
              subst (IsAmong all_stored) same (among_right stored (its_stored ∷ []) its_stored (0, (omega arith, refl)))
          by_tests true false named apart = before (λ same here. true≢false (sym (eq-eqb at place here) ∙ apart))
          by_tests false p apart here = before (λ same at. bytes_differ name id apart same)

      finished_with : Seated run (finish id place true reply table) all_stored gone
      unfolding finish
      finished_with =
          let new = finish id place true reply table in
          let seats = sym seats_are in
          record {
            of_run = finishing_runs run table.sessions is.of_run;
            apart = subst SeatsApart seats (apart_holding id place its_held table.seats is.apart);
            past = λ name there. is.past name (sym (has_holding id place its_held name table.seats) ∙ (ap (has_seat name) seats ∙ there));
            fits = subst (λ (s : Seats). AllByRecursion (SeatFits s) new.sessions) seats
                (all-mono (SeatFits table.seats) (SeatFits its_seats) new.sessions
                (λ other fits seat there.
                let was = holding_was id place its_held (id_in other) table.seats seat there in
                was.2 ∙ fits was.0 was.1) (finishing_fits table.seats table.sessions is.fits));
            theirs = subst (λ (s : Seats). HeldWas run s all_stored) seats held_all;
            old = old_now;
            kept = λ i one at. subst (λ (s : Seats). IsKept s all_stored gone i one) seats (kept_now i one at);
          }

      pub finished_seated : Seated run (finish id place true reply table) (stored ++ option_to_list (stored_by (finish id place true reply table) (Some (id, place)) true)) gone
      finished_seated =
          subst (λ (o : Option Stored). Seated run (finish id place true reply table) (stored ++ option_to_list o) gone) (sym stored_is) finished_with

-- SEQUENCE

pub seated_started : (run uid : ℕ) (arguments : SequenceArguments) (table : Table) (stored : List Stored) (gone : List (List ℕ)) → Seated run table stored gone
    → Seated run (started uid arguments table) stored gone
unfolding started
seated_started run uid arguments table stored gone is =
    seated_mapped (λ session. cond (is_session arguments.session session) (with_slot arguments.slot slot session) session)
    (by_test (λ (s : Session). s.client) (λ s. refl)) (by_test (λ (s : Session). s.serial) (λ s. refl))
    (by_test (λ (s : Session). length s.slots) (λ s. length-set s.slots arguments.slot slot)) run table stored gone is
  where
    slot : Slot
    slot = record { last = arguments.sequence; uid = uid; state = Running }

    by_test : {A : Type 0} (told : Session → A) → ((session : Session) → told (with_slot arguments.slot slot session) ≡ told session) → (session : Session)
        → told (cond (is_session arguments.session session) (with_slot arguments.slot slot session) session) ≡ told session
    by_test {A} told same session = by_name_is (is_session arguments.session session)
      where
        by_name_is : (b : Bool) → told (cond b (with_slot arguments.slot slot session) session) ≡ told session
        by_name_is true = same session
        by_name_is false = refl

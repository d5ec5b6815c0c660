-- A slot's numbers run in their order over every list of calls.
use Rattle.std.proofs.Common.{◌≡◌, ◌≢◌, ℕ, ◌+◌, ◌-◌, ◌%◌, ◌^◌, ◌<◌, ◌≤◌, ◌⊎◌, inl, inr, zero, suc, Bool, true, false, not, cond, ◌&&◌, ◌==◌, nat_lt, nat_le, List, [], ◌∷◌, ◌++◌, map, filter, length, get_or, set, take, drop, replicate, Option, None, Some, refl, sym, ap, ◌∙◌, subst, arith, find, leb-false, ltb-true, eqb-true, eq-eqb, lit<, option_to_list, slice_get, bytes_eq, get_or-set_same, get_or-set_other, length-set}
use borrow.Author.Tests.{eqb-false}
use Rattle.std.proofs.lemmas.List.{get_or-replicate, length-replicate}
use Rattle.std.proofs.lemmas.Slice.Eq.{bytes_eq-Decides}
use Rattle.std.proofs.lemmas.Nat.{from_be_bytes-to_be_bytes_8}
use Rattle.std.specs.List.{AllByRecursion}
use Rattle.std.specs.Int.{w64, to_be_bytes, from_be_bytes}
use Rattle.std.proofs.lemmas.Bool.{and_parts}
use Rattle.model_tree.specs.Seats.Seats.{HeldReply, Seat, Seats, is_seat_of, seat_of, has_seat, freed}
use Rattle.model_tree.specs.declared.status.Status.{Status}
use Rattle.model_tree.specs.declared.status.Status.TheVariants as status
use Rattle.model_tree.specs.Refusals.Refusal.{Refusals, first_refusal}
use Rattle.model.specs.Operations.Operation.{ExchangeIdArguments, CreateSessionArguments, SequenceArguments}
use Rattle.model.specs.Operations.Answer.{CreateSessionAnswer}
use Rattle.model.specs.Sessions.Session.{SessionLimits, Client, Slot, Session, Table, Begun, Refuses, Replays, Runs, Free, Running, Kept, SlotState, is_running_state, session_id, is_session, slot_at, no_slot, empty_table, has_state, without_unconfirmed, without_client, is_full_of_clients, new_record, exchange_by, exchange_id, is_confirmed_of, exchange_flags, has_only, create_refusals, create_unless, create_again, create_by, create_session, new_session, staying, is_of_clients, replaced_by, is_full_of_sessions, fore_channel, CreateSessionOutcome, next_number, destroy_by, destroy_session, is_running, destroy_client_by, destroy_client_id, is_client, reclaim_by, reclaim_complete, begin_new, begin_slot, begin_by, begin, with_slot, started, finished_slot, finish, without_where, limits_for, persists, begin_held, begin_dead, yielding}
use Rattle.model.specs.Sessions.SessionRuns.{Call, Exchanges, Creates, Destroys, DestroysClient, Reclaims, Begins, Finishes, after, runs_on, number_on, started_by, numbers_on, CountsFrom, OthersBetween, EverySlot}
use Rattle.model_tree.proofs.Facts.BooleanLaws.{second_of_neither}
use Rattle.model.proofs.Operations.RefusalLaws.{none_earlier}
use Rattle.model.proofs.Sessions.Yielding.{yielding_is}

-- Of both branches

both : {A : Type 0} (P : A → Type 0) (b : Bool) (x y : A) → P x → P y → P (cond b x y)
both P true x y p q = p
both P false x y p q = q

-- All of a list

All-filter : {A : Type 0} (P : A → Type 0) (test : A → Bool) (xs : List A) → AllByRecursion P xs → AllByRecursion P (filter test xs)
All-filter P test [] h = tt
All-filter {A} P test (x ∷ xs) h = both (AllByRecursion P) (test x) (x ∷ filter test xs) (filter test xs) (h.0, All-filter P test xs h.1) (All-filter P test xs h.1)

All-append : {A : Type 0} (P : A → Type 0) (xs : List A) (x : A) → AllByRecursion P xs → P x → AllByRecursion P (xs ++ x ∷ [])
All-append P [] x h p = (p, tt)
All-append P (y ∷ xs) x h p = (h.0, All-append P xs x h.1 p)

All-map : {A : Type 0} (P Q : A → Type 0) (f : A → A) (xs : List A) → ((x : A) → P x → Q (f x)) → AllByRecursion P xs → AllByRecursion Q (map f xs)
All-map P Q f [] step h = tt
All-map P Q f (x ∷ xs) step h = (step x h.0, All-map P Q f xs step h.1)

All-mono : {A : Type 0} (P Q : A → Type 0) (xs : List A) → ((x : A) → P x → Q x) → AllByRecursion P xs → AllByRecursion Q xs
All-mono P Q [] step h = tt
All-mono P Q (x ∷ xs) step h = (step x h.0, All-mono P Q xs step h.1)

found_from : {A : Type 0} (P : A → Type 0) (test : A → Bool) (x y : A) (xs : List A) (b : Bool) → test y ≡ b → P y
    → ((x : A) → find test xs ≡ Some x → P x × (test x ≡ true))
    → cond b (Some y) (find test xs) ≡ Some x → P x × (test x ≡ true)
found_from P test x y xs true e p later h = let same : y ≡ x = cc in (subst P same p, subst (λ z. test z ≡ true) same e)
found_from P test x y xs false e p later h = later x h

found : {A : Type 0} (P : A → Type 0) (test : A → Bool) (xs : List A) → AllByRecursion P xs → (x : A) → find test xs ≡ Some x → P x × (test x ≡ true)
found P test [] h x e = cc
found P test (y ∷ xs) h x e = found_from P test x y xs (test y) refl h.0 (found P test xs h.1) e

-- What a table has

-- each session of this id has this last number on the slot
abbrev pub HasLast : List ℕ → ℕ → ℕ → Session → Type 0
HasLast id slot last session = is_session id session ≡ true → slot < length session.slots → (slot_at session slot).last ≡ last

-- the session was made, with a serial up to this one
abbrev pub IsMade : ℕ → Session → Type 0
IsMade made session = session.serial ≤ made

-- no later session has this id
pub IsOld : List ℕ → ℕ → Type 0
IsOld id made = (client serial : ℕ) → made < serial → serial < 2 ^ 64 → session_id client serial ≡ id → ⊥

pub record Stands (id : List ℕ) (slot last : ℕ) (table : Table) : Type 0 where
  pub made : AllByRecursion (IsMade table.session_serial) table.sessions
  pub small : table.session_serial < 2 ^ 64
  pub each : AllByRecursion (HasLast id slot last) table.sessions
  pub new_or_old : (last ≡ 0) ⊎ IsOld id table.session_serial

-- The calls that do not change the sessions

pub record SameSessions (old new : Table) : Type 0 where
  pub sessions : new.sessions ≡ old.sessions
  pub serial : new.session_serial ≡ old.session_serial
  pub seats : new.seats ≡ old.seats

pub Stands-same : (id : List ℕ) (slot last : ℕ) (old new : Table) → SameSessions old new → Stands id slot last old → Stands id slot last new
Stands-same id slot last old new same stands = record {
  made = rw same.serial (rw same.sessions stands.made);
  small = rw same.serial stands.small;
  each = rw same.sessions stands.each;
  new_or_old = rw same.serial stands.new_or_old;
}

abbrev pub SameIn : {A : Type 0} → Table → A × Table → Type 0
SameIn table outcome = SameSessions table outcome.1

new_record_same : (limits : SessionLimits) (uid : ℕ) (arguments : ExchangeIdArguments) (table cleared : Table) → SameSessions table cleared → SameIn table (new_record limits uid arguments table cleared)
new_record_same limits uid arguments table cleared same =
    let first = without_unconfirmed arguments.owner cleared in
    let room : SameSessions table (yielding limits first) =
    yielding_is (SameSessions table) limits first (record { sessions = same.sessions; serial = same.serial; seats = same.seats })
    (λ number. record { sessions = same.sessions; serial = same.serial; seats = same.seats }) in
    both (SameIn table) (is_full_of_clients limits (yielding limits first)) _ _
    (record { sessions = refl; serial = refl; seats = refl }) (record { sessions = room.sessions; serial = room.serial; seats = room.seats })

exchange_by_same : (limits : SessionLimits) (has_opens : ℕ → Bool) (uid : ℕ) (arguments : ExchangeIdArguments) (table : Table) (known : Option Client)
    → SameIn table (exchange_by limits has_opens uid arguments table known)
exchange_by_same limits has_opens uid arguments table None = new_record_same limits uid arguments table table (record { sessions = refl; serial = refl; seats = refl })
exchange_by_same limits has_opens uid arguments table (Some client) =
    both (SameIn table) (client.principal == uid) _ _
    (both (SameIn table) (bytes_eq client.verifier arguments.verifier) _ _
    (record { sessions = refl; serial = refl; seats = refl })
    (new_record_same limits uid arguments table table (record { sessions = refl; serial = refl; seats = refl })))
    (both (SameIn table) (has_state has_opens table client.number) _ _
    (record { sessions = refl; serial = refl; seats = refl })
    (new_record_same limits uid arguments table (without_client client.number table) (record { sessions = refl; serial = refl; seats = refl })))

pub exchange_same : (limits : SessionLimits) (has_opens : ℕ → Bool) (uid : ℕ) (arguments : ExchangeIdArguments) (table : Table) → SameIn table (exchange_id limits has_opens uid arguments table)
unfolding exchange_id
exchange_same limits has_opens uid arguments table =
    both (SameIn table) (has_only exchange_flags arguments.flags) _ _
    (exchange_by_same limits has_opens uid arguments table (find (is_confirmed_of arguments.owner) table.clients))
    (record { sessions = refl; serial = refl; seats = refl })

destroy_client_by_same : (has_opens : ℕ → Bool) (number : ℕ) (table : Table) (known : Option Client) → SameIn table (destroy_client_by has_opens number table known)
destroy_client_by_same has_opens number table None = record { sessions = refl; serial = refl; seats = refl }
destroy_client_by_same has_opens number table (Some client) =
    both (SameIn table) (has_state has_opens table number) _ _ (record { sessions = refl; serial = refl; seats = refl }) (record { sessions = refl; serial = refl; seats = refl })

pub destroy_client_same : (has_opens : ℕ → Bool) (number : ℕ) (table : Table) → SameIn table (destroy_client_id has_opens number table)
unfolding destroy_client_id
destroy_client_same has_opens number table = destroy_client_by_same has_opens number table (find (is_client number) table.clients)

reclaim_by_same : (number : ℕ) (table : Table) (known : Option Client) → SameIn table (reclaim_by number table known)
reclaim_by_same number table None = record { sessions = refl; serial = refl; seats = refl }
reclaim_by_same number table (Some client) =
    both (SameIn table) client.has_reclaimed _ _ (record { sessions = refl; serial = refl; seats = refl }) (record { sessions = refl; serial = refl; seats = refl })

pub reclaim_same : (number : ℕ) (table : Table) → SameIn table (reclaim_complete number table)
unfolding reclaim_complete
reclaim_same number table = reclaim_by_same number table (find (is_client number) table.clients)

-- DESTROY_SESSION takes sessions away

Stands-fewer : (id : List ℕ) (slot last : ℕ) (table : Table) (gone : Session → Bool) → Stands id slot last table
    → Stands id slot last (record table { sessions = without_where gone table.sessions })
Stands-fewer id slot last table gone stands = record {
  made = All-filter (IsMade table.session_serial) (λ x. not (gone x)) table.sessions stands.made;
  small = stands.small;
  each = All-filter (HasLast id slot last) (λ x. not (gone x)) table.sessions stands.each;
  new_or_old = stands.new_or_old;
}

-- what the seats are does not matter
Stands-seats : (id : List ℕ) (slot last : ℕ) (table : Table) (seats : Seats) → Stands id slot last table → Stands id slot last (record table { seats = seats })
Stands-seats id slot last table seats stands = record { made = stands.made; small = stands.small; each = stands.each; new_or_old = stands.new_or_old }

destroy_by_stands : (id : List ℕ) (slot last : ℕ) (name : List ℕ) (table : Table) (known : Option Session) → Stands id slot last table
    → Stands id slot last (destroy_by name table known).1
destroy_by_stands id slot last name table None stands =
    both (λ (outcome : Option Status × Table). Stands id slot last outcome.1) (has_seat name table.seats) _ _
    (Stands-seats id slot last table (freed (is_seat_of name) table.seats) stands) stands
destroy_by_stands id slot last name table (Some session) stands =
    both (λ (outcome : Option Status × Table). Stands id slot last outcome.1) (is_running session) _ _ stands
    (Stands-seats id slot last _ (freed (is_seat_of name) table.seats) (Stands-fewer id slot last table (is_session name) stands))

pub destroy_stands : (id : List ℕ) (slot last : ℕ) (name : List ℕ) (table : Table) → Stands id slot last table → Stands id slot last (destroy_session name table).1
unfolding destroy_session
destroy_stands id slot last name table stands = destroy_by_stands id slot last name table (find (is_session name) table.sessions) stands

-- CREATE_SESSION adds one, of a new id

last_passes : (tests : Refusals) (test : Bool) (reason : Status) → first_refusal (tests ++ (test, reason) ∷ []) ≡ None → test ≡ false
last_passes [] test reason e = (none_earlier test reason None e).0
last_passes (first ∷ tests) test reason e =
    last_passes tests test reason (none_earlier first.0 first.1 (first_refusal (tests ++ (test, reason) ∷ [])) e).1

pub serial_left : (limits : SessionLimits) (arguments : CreateSessionArguments) (client : Client) (table : Table)
    → first_refusal (create_refusals limits arguments client table) ≡ None → table.session_serial < 2 ^ 64 - 1
serial_left limits arguments client table e =
    leb-false (2 ^ 64 - 1) table.session_serial
    (second_of_neither (nat_le limits.sessions (length (staying client table))) (nat_le (2 ^ 64 - 1) table.session_serial)
    (last_passes (take 4 (create_refusals limits arguments client table)) (is_full_of_sessions limits client table) status.Delay e))

-- the serial's bytes determine the serial
pub session_id-serial : (client serial client' serial' : ℕ) → serial < 2 ^ 64 → serial' < 2 ^ 64 → session_id client serial ≡ session_id client' serial' → serial ≡ serial'
unfolding session_id
session_id-serial client serial client' serial' small small' e =
    let tails : to_be_bytes w64 serial ≡ to_be_bytes w64 serial' = ap (drop 8) e in
    sym (from_be_bytes-to_be_bytes_8 serial small) ∙ ap (from_be_bytes w64) tails ∙ from_be_bytes-to_be_bytes_8 serial' small'

All-made_before : (made : ℕ) (sessions : List Session) → AllByRecursion (IsMade made) sessions → AllByRecursion (IsMade (made + 1)) sessions
All-made_before made sessions h = All-mono (IsMade made) (IsMade (made + 1)) sessions (λ session below. omega arith) h

pub id_of : (id : List ℕ) (session : Session) → is_session id session ≡ true → session_id session.client session.serial ≡ id
id_of id session e = (bytes_eq-Decides (session_id session.client session.serial) id).0 e

IsOld-later : (id : List ℕ) (made : ℕ) → IsOld id made → IsOld id (made + 1)
unfolding IsOld
IsOld-later id made old client serial above small = old client serial (omega arith) small

fresh_slot : (slots slot : ℕ) → slot < length (replicate slots no_slot) → (get_or (replicate slots no_slot) slot no_slot).last ≡ 0
fresh_slot slots slot h =
    let within : slot < slots = rw (length-replicate slots no_slot) at h in
    ap (λ (at : Slot). at.last) (get_or-replicate slots slot no_slot no_slot within)

-- of a new session each slot's last number is 0, and if it is of an old id it is not made
new_has_last : (id : List ℕ) (slot last : ℕ) (made : ℕ) (session : Session) (slots : ℕ) → (last ≡ 0) ⊎ IsOld id made → made < session.serial → session.serial < 2 ^ 64
    → session.slots ≡ replicate slots no_slot → HasLast id slot last session
unfolding IsOld
new_has_last id slot last made session slots (inl none) above small fresh named within =
    let below : slot < length (replicate slots no_slot) = subst (λ (all : List Slot). slot < length all) fresh within in
    ap (λ (all : List Slot). (get_or all slot no_slot).last) fresh ∙ fresh_slot slots slot below ∙ sym none
new_has_last id slot last made session slots (inr old) above small fresh named within =
    absurd (old session.client session.serial above small (id_of id session named))

new_or_old_later : (id : List ℕ) (last made : ℕ) → (last ≡ 0) ⊎ IsOld id made → (last ≡ 0) ⊎ IsOld id (made + 1)
new_or_old_later id last made (inl none) = inl none
new_or_old_later id last made (inr old) = inr (IsOld-later id made old)

create_unless_stands : (limits : SessionLimits) (id : List ℕ) (slot last : ℕ) (arguments : CreateSessionArguments) (client : Client) (table : Table) (refusal : Option Status)
    → first_refusal (create_refusals limits arguments client table) ≡ refusal → Stands id slot last table
    → Stands id slot last (create_unless limits arguments client table refusal).table
create_unless_stands limits id slot last arguments client table (Some reason) e stands = stands
create_unless_stands limits id slot last arguments client table None e stands =
    let left = serial_left limits arguments client table e in
    let fewer = Stands-fewer id slot last table (is_of_clients (replaced_by client table)) stands in
    let session = new_session limits arguments client table in
    let made = table.session_serial in
    record {
      made = All-append (IsMade (made + 1)) (staying client table) session (All-made_before made (staying client table) fewer.made) (omega arith);
      small = omega arith;
      each = All-append (HasLast id slot last) (staying client table) session fewer.each
          (new_has_last id slot last made session (fore_channel (limits_for limits (persists arguments client table)) arguments.fore).max_requests stands.new_or_old (omega arith) (omega arith) refl);
      new_or_old = new_or_old_later id last made stands.new_or_old;
    }

abbrev pub StandsIn : List ℕ → ℕ → ℕ → CreateSessionOutcome → Type 0
StandsIn id slot last outcome = Stands id slot last outcome.table

create_again_stands : (limits : SessionLimits) (id : List ℕ) (slot last : ℕ) (arguments : CreateSessionArguments) (client : Client) (table : Table) (kept : Option CreateSessionAnswer)
    → Stands id slot last table → StandsIn id slot last (create_again limits arguments client table kept)
create_again_stands limits id slot last arguments client table None stands =
    create_unless_stands limits id slot last arguments client table _ refl stands
create_again_stands limits id slot last arguments client table (Some answer) stands =
    both (StandsIn id slot last) (next_number arguments.sequence == client.sequence) _ _ stands
    (create_unless_stands limits id slot last arguments client table _ refl stands)

create_by_stands : (limits : SessionLimits) (id : List ℕ) (slot last uid : ℕ) (arguments : CreateSessionArguments) (table : Table) (known : Option Client)
    → Stands id slot last table → StandsIn id slot last (create_by limits uid arguments table known)
create_by_stands limits id slot last uid arguments table None stands = stands
create_by_stands limits id slot last uid arguments table (Some client) stands =
    both (StandsIn id slot last) (client.principal == uid) _ _
    (create_again_stands limits id slot last arguments client table client.kept stands) stands

pub create_stands : (limits : SessionLimits) (id : List ℕ) (slot last uid : ℕ) (arguments : CreateSessionArguments) (table : Table)
    → Stands id slot last table → StandsIn id slot last (create_session limits uid arguments table)
unfolding create_session
create_stands limits id slot last uid arguments table stands =
    create_by_stands limits id slot last uid arguments table (find (is_client arguments.client) table.clients) stands

-- A slot that is put, if the session has it, and if it is another

put_last : (session : Session) (place slot : ℕ) (new : Slot) (last : ℕ) → slot ≡ place → new.last ≡ last → slot < length session.slots
    → (slot_at (with_slot place new session) slot).last ≡ last
put_last session place slot new last same is within =
    let here : place < length session.slots = omega arith in
    ap (λ (n : ℕ). (get_or (set session.slots place new) n no_slot).last) same
    ∙ ap (λ (at : Slot). at.last) (get_or-set_same session.slots place new no_slot here) ∙ is

put_other : (session : Session) (place slot : ℕ) (new : Slot) → slot ≢ place → (slot_at (with_slot place new session) slot).last ≡ (slot_at session slot).last
put_other session place slot new other = ap (λ (at : Slot). at.last) (get_or-set_other session.slots place slot new no_slot other)

put_length : (session : Session) (place : ℕ) (new : Slot) → length (with_slot place new session).slots ≡ length session.slots
put_length session place new = length-set session.slots place new

-- The reply to what ran leaves each slot's number

finished_by : (session : Session) (place slot : ℕ) (reply : List ℕ) (b : Bool) → (slot == place) ≡ b → slot < length session.slots
    → (slot_at (finished_slot place reply session) slot).last ≡ (slot_at session slot).last
finished_by session place slot reply true e within =
    let same : slot ≡ place = eqb-true slot place e in
    put_last session place slot (record (slot_at session place) { state = Kept reply }) (slot_at session slot).last same
    (ap (λ (n : ℕ). (slot_at session n).last) (sym same)) within
finished_by session place slot reply false e within =
    put_other session place slot (record (slot_at session place) { state = Kept reply }) (eqb-false slot place e)

abbrev Has : List ℕ → ℕ → ℕ → ℕ → Session → Type 0
Has id slot last made session = IsMade made session × HasLast id slot last session

finished_has : (id : List ℕ) (slot last made : ℕ) (name : List ℕ) (place : ℕ) (reply : List ℕ) (session : Session) → HasLast id slot last session
    → HasLast id slot last (cond (is_session name session) (finished_slot place reply session) session)
finished_has id slot last made name place reply session has =
    both (HasLast id slot last) (is_session name session) (finished_slot place reply session) session
    (λ named within.
    let inside : slot < length session.slots = rw (put_length session place (record (slot_at session place) { state = Kept reply })) at within in
    finished_by session place slot reply (slot == place) refl inside ∙ has named inside)
    has

made_still : (made : ℕ) (test : Session → Bool) (change : Session → Session) → ((session : Session) → (change session).serial ≡ session.serial)
    → (session : Session) → IsMade made session → IsMade made (cond (test session) (change session) session)
made_still made test change same session is =
    both (IsMade made) (test session) (change session) session (subst (λ (n : ℕ). n ≤ made) (sym (same session)) is) is

pub finish_stands : (id : List ℕ) (slot last : ℕ) (name : List ℕ) (place : ℕ) (holds : Bool) (reply : List ℕ) (table : Table) → Stands id slot last table
    → Stands id slot last (finish name place holds reply table)
unfolding finish
finish_stands id slot last name place holds reply table stands = record {
  made = All-map (IsMade table.session_serial) (IsMade table.session_serial) _ table.sessions
      (made_still table.session_serial (is_session name) (finished_slot place reply) (λ session. refl)) stands.made;
  small = stands.small;
  each = All-map (HasLast id slot last) (HasLast id slot last) _ table.sessions
      (finished_has id slot last table.session_serial name place reply) stands.each;
  new_or_old = stands.new_or_old;
}

-- What SEQUENCE looked at if the slot runs

pub cond_runs : (b : Bool) (x y : Begun) → (y ≡ Runs → ⊥) → cond b x y ≡ Runs → (b ≡ true) × (x ≡ Runs)
cond_runs true x y never e = (refl, e)
cond_runs false x y never e = absurd (never e)

pub cond_never : (b : Bool) (x y : Begun) → (x ≡ Runs → ⊥) → (y ≡ Runs → ⊥) → cond b x y ≡ Runs → ⊥
cond_never true x y no_x no_y e = no_x e
cond_never false x y no_x no_y e = no_y e

pub refuses_not : (reason : Status) → Refuses reason ≡ Runs → ⊥
refuses_not reason e = cc

pub replays_not : (reply : List ℕ) → Replays reply ≡ Runs → ⊥
replays_not reply e = cc

new_runs : (count : ℕ) (arguments : SequenceArguments) (session : Session) (slot : Slot) → begin_new count arguments session slot ≡ Runs
    → arguments.sequence ≡ next_number slot.last
new_runs count arguments session slot e =
    eqb-true arguments.sequence (next_number slot.last)
    (cond_runs (arguments.sequence == next_number slot.last) _ (Refuses status.SeqMisordered) (refuses_not status.SeqMisordered) e).0

slot_runs : (uid count : ℕ) (arguments : SequenceArguments) (session : Session) (slot : Slot) (state : SlotState)
    → begin_slot uid count arguments session slot state ≡ Runs → arguments.sequence ≡ next_number slot.last
slot_runs uid count arguments session slot Free e = new_runs count arguments session slot e
slot_runs uid count arguments session slot Running e =
    absurd (cond_never (arguments.sequence == slot.last) (Refuses status.Delay) (Refuses status.SeqMisordered) (refuses_not status.Delay) (refuses_not status.SeqMisordered) e)
slot_runs uid count arguments session slot (Kept reply) e = kept_runs (arguments.sequence == slot.last) e
  where
    kept_runs : (b : Bool) → cond b (cond (uid == slot.uid) (Replays reply) (Refuses status.SeqFalseRetry)) (begin_new count arguments session slot) ≡ Runs
        → arguments.sequence ≡ next_number slot.last
    kept_runs true e = absurd (cond_never (uid == slot.uid) (Replays reply) (Refuses status.SeqFalseRetry) (replays_not reply) (refuses_not status.SeqFalseRetry) e)
    kept_runs false e = new_runs count arguments session slot e

slot_rests : (uid count : ℕ) (arguments : SequenceArguments) (session : Session) (slot : Slot) (state : SlotState)
    → begin_slot uid count arguments session slot state ≡ Runs → is_running_state state ≡ false
slot_rests uid count arguments session slot Free e = refl
slot_rests uid count arguments session slot Running e =
    absurd (cond_never (arguments.sequence == slot.last) (Refuses status.Delay) (Refuses status.SeqMisordered) (refuses_not status.Delay) (refuses_not status.SeqMisordered) e)
slot_rests uid count arguments session slot (Kept reply) e = refl

pub record RunsOn (arguments : SequenceArguments) (known : Option Session) : Type 0 where
  pub session : Session
  pub is : known ≡ Some session
  pub within : arguments.slot < length session.slots
  pub rests : is_running_state (slot_at session arguments.slot).state ≡ false
  pub next : arguments.sequence ≡ next_number (slot_at session arguments.slot).last

held_never : (uid : ℕ) (arguments : SequenceArguments) (held : Option HeldReply) → begin_held uid arguments held ≡ Runs → ⊥
held_never uid arguments None e = refuses_not status.DeadSession e
held_never uid arguments (Some held) e =
    cond_never (arguments.sequence == held.number && uid == held.uid) (Replays held.result) (Refuses status.DeadSession) (replays_not held.result) (refuses_not status.DeadSession) e

-- a session of an earlier run runs nothing
pub dead_never : (uid : ℕ) (arguments : SequenceArguments) (seat : Option Seat) → begin_dead uid arguments seat ≡ Runs → ⊥
dead_never uid arguments None e = refuses_not status.BadSession e
dead_never uid arguments (Some seat) e = held_never uid arguments (get_or seat.slots arguments.slot None) e

by_runs : (uid count : ℕ) (arguments : SequenceArguments) (seats : Seats) (known : Option Session) → begin_by uid count arguments seats known ≡ Runs → RunsOn arguments known
by_runs uid count arguments seats None e = absurd (dead_never uid arguments (seat_of arguments.session seats) e)
by_runs uid count arguments seats (Some session) e =
    let tested = cond_runs (nat_lt arguments.slot (length session.slots)) _ (Refuses status.BadSlot) (refuses_not status.BadSlot) e in
    record {
      session = session;
      is = refl;
      within = ltb-true arguments.slot (length session.slots) tested.0;
      rests = slot_rests uid count arguments session (slot_at session arguments.slot) (slot_at session arguments.slot).state tested.1;
      next = slot_runs uid count arguments session (slot_at session arguments.slot) (slot_at session arguments.slot).state tested.1;
    }

pub begin_runs : (uid count : ℕ) (arguments : SequenceArguments) (table : Table) → begin uid count arguments table ≡ Runs
    → RunsOn arguments (find (is_session arguments.session) table.sessions)
unfolding begin
begin_runs uid count arguments table e = by_runs uid count arguments table.seats _ e

-- A slot that runs

started_slot : ℕ → SequenceArguments → Slot
started_slot uid arguments = record { last = arguments.sequence; uid = uid; state = Running }

-- on the slot itself the number that runs is the last from then on
started_here : (id : List ℕ) (slot last uid : ℕ) (arguments : SequenceArguments) (session : Session) → arguments.session ≡ id → arguments.slot ≡ slot → HasLast id slot last session
    → HasLast id slot arguments.sequence (cond (is_session arguments.session session) (with_slot arguments.slot (started_slot uid arguments) session) session)
unfolding started_slot
started_here id slot last uid arguments session same_id same_slot has = by_name (is_session arguments.session session) refl
  where
    by_name : (b : Bool) → is_session arguments.session session ≡ b
        → HasLast id slot arguments.sequence (cond b (with_slot arguments.slot (started_slot uid arguments) session) session)
    by_name true e named within =
        let inside : slot < length session.slots = rw (put_length session arguments.slot (started_slot uid arguments)) at within in
        put_last session arguments.slot slot (started_slot uid arguments) arguments.sequence (sym same_slot) refl inside
    by_name false e named within = absurd (differ (sym e ∙ ap (λ (name : List ℕ). is_session name session) same_id ∙ named))
      where
        differ : false ≡ true → ⊥
        differ e = cc

-- on another slot, or in another session, nothing changes
started_there : (id : List ℕ) (slot last uid : ℕ) (arguments : SequenceArguments) (session : Session) → (arguments.session ≡ id → arguments.slot ≡ slot → ⊥) → HasLast id slot last session
    → HasLast id slot last (cond (is_session arguments.session session) (with_slot arguments.slot (started_slot uid arguments) session) session)
unfolding started_slot
started_there id slot last uid arguments session other has = by_name (is_session arguments.session session) refl
  where
    by_name : (b : Bool) → is_session arguments.session session ≡ b
        → HasLast id slot last (cond b (with_slot arguments.slot (started_slot uid arguments) session) session)
    by_name true e named within =
        let inside : slot < length session.slots = rw (put_length session arguments.slot (started_slot uid arguments)) at within in
        let same_id : arguments.session ≡ id = sym (id_of arguments.session session e) ∙ id_of id session named in
        put_other session arguments.slot slot (started_slot uid arguments) (λ same. other same_id (sym same)) ∙ has named inside
    by_name false e named within = has named within

-- What a call does to a slot: its number runs next, or nothing changes there

abbrev pub Goes : List ℕ → ℕ → ℕ → Table → Option ℕ → Type 0
Goes id slot last new None = Stands id slot last new
Goes id slot last new (Some number) = (number ≡ next_number last) × Stands id slot number new

-- a session that is there makes its id an old one
old_id : (id : List ℕ) (made : ℕ) (session : Session) → made < 2 ^ 64 → IsMade made session → is_session id session ≡ true → IsOld id made
unfolding IsOld
old_id id made session small is named client serial above fits same =
    let equal = session_id-serial client serial session.client session.serial fits (omega arith) (same ∙ sym (id_of id session named)) in
    omega arith

runs_here : (id : List ℕ) (slot last uid : ℕ) (arguments : SequenceArguments) (table : Table) → RunsOn arguments (find (is_session arguments.session) table.sessions)
    → arguments.session ≡ id → arguments.slot ≡ slot → Stands id slot last table
    → (arguments.sequence ≡ next_number last) × Stands id slot arguments.sequence (started uid arguments table)
unfolding started started_slot
runs_here id slot last uid arguments table runs same_id same_slot stands =
    let pairs : AllByRecursion (Has id slot last table.session_serial) table.sessions = zipped table.sessions stands.made stands.each in
    let there = found (Has id slot last table.session_serial) (is_session arguments.session) table.sessions pairs runs.session runs.is in
    let named : is_session id runs.session ≡ true = ap (λ (name : List ℕ). is_session name runs.session) (sym same_id) ∙ there.1 in
    let within : slot < length runs.session.slots = subst (λ (n : ℕ). n < length runs.session.slots) same_slot runs.within in
    let was : (slot_at runs.session arguments.slot).last ≡ last = ap (λ (n : ℕ). (slot_at runs.session n).last) same_slot ∙ there.0.1 named within in (
      runs.next ∙ ap next_number was,
      record {
        made = All-map (IsMade table.session_serial) (IsMade table.session_serial) _ table.sessions
            (made_still table.session_serial (is_session arguments.session) (with_slot arguments.slot (started_slot uid arguments)) (λ session. refl)) stands.made;
        small = stands.small;
        each = All-map (HasLast id slot last) (HasLast id slot arguments.sequence) _ table.sessions
            (λ session has. started_here id slot last uid arguments session same_id same_slot has) stands.each;
        new_or_old = inr (old_id id table.session_serial runs.session stands.small there.0.0 named);
      },
    )
  where
    zipped : (sessions : List Session) → AllByRecursion (IsMade table.session_serial) sessions → AllByRecursion (HasLast id slot last) sessions
        → AllByRecursion (Has id slot last table.session_serial) sessions
    zipped [] made each = tt
    zipped (session ∷ sessions) made each = ((made.0, each.0), zipped sessions made.1 each.1)

runs_there : (id : List ℕ) (slot last uid : ℕ) (arguments : SequenceArguments) (table : Table) → (arguments.session ≡ id → arguments.slot ≡ slot → ⊥) → Stands id slot last table
    → Stands id slot last (started uid arguments table)
unfolding started started_slot
runs_there id slot last uid arguments table other stands = record {
  made = All-map (IsMade table.session_serial) (IsMade table.session_serial) _ table.sessions
      (made_still table.session_serial (is_session arguments.session) (with_slot arguments.slot (started_slot uid arguments)) (λ session. refl)) stands.made;
  small = stands.small;
  each = All-map (HasLast id slot last) (HasLast id slot last) _ table.sessions
      (λ session has. started_there id slot last uid arguments session other has) stands.each;
  new_or_old = stands.new_or_old;
}

runs_go : (id : List ℕ) (slot last uid : ℕ) (arguments : SequenceArguments) (table : Table) → RunsOn arguments (find (is_session arguments.session) table.sessions)
    → Stands id slot last table → (b : Bool) → (bytes_eq arguments.session id && arguments.slot == slot) ≡ b
    → Goes id slot last (started uid arguments table) (cond b (Some arguments.sequence) None)
runs_go id slot last uid arguments table runs stands true e =
    let tests = and_parts (bytes_eq arguments.session id) (arguments.slot == slot) e in
    runs_here id slot last uid arguments table runs ((bytes_eq-Decides arguments.session id).0 tests.0) (eqb-true arguments.slot slot tests.1) stands
runs_go id slot last uid arguments table runs stands false e =
    runs_there id slot last uid arguments table (λ same_id same_slot. apart same_id same_slot e) stands
  where
    apart : arguments.session ≡ id → arguments.slot ≡ slot → (bytes_eq arguments.session id && arguments.slot == slot) ≡ false → ⊥
    apart same_id same_slot e =
        let one : bytes_eq arguments.session id ≡ true = (bytes_eq-Decides arguments.session id).1 same_id in
        let two : (arguments.slot == slot) ≡ true = eq-eqb arguments.slot slot same_slot in
        let joined : (bytes_eq arguments.session id && arguments.slot == slot) ≡ true = rw one two in
        cc

pub begins_go : (id : List ℕ) (slot last uid count : ℕ) (arguments : SequenceArguments) (table : Table) → Stands id slot last table
    → (begun : Begun) → begin uid count arguments table ≡ begun
    → Goes id slot last (started_by uid arguments table begun) (number_on id slot arguments begun)
begins_go id slot last uid count arguments table stands (Refuses reason) e = stands
begins_go id slot last uid count arguments table stands (Replays reply) e = stands
begins_go id slot last uid count arguments table stands Runs e =
    runs_go id slot last uid arguments table (begin_runs uid count arguments table e) stands _ refl

call_goes : (limits : SessionLimits) (id : List ℕ) (slot last : ℕ) (call : Call) (table : Table) → Stands id slot last table
    → Goes id slot last (after limits call table) (runs_on id slot call table)
call_goes limits id slot last (Exchanges has_opens uid arguments) table stands = Stands-same id slot last table _ (exchange_same limits has_opens uid arguments table) stands
call_goes limits id slot last (Creates uid arguments) table stands = create_stands limits id slot last uid arguments table stands
call_goes limits id slot last (Destroys session) table stands = destroy_stands id slot last session table stands
call_goes limits id slot last (DestroysClient has_opens number) table stands = Stands-same id slot last table _ (destroy_client_same has_opens number table) stands
call_goes limits id slot last (Reclaims number) table stands = Stands-same id slot last table _ (reclaim_same number table) stands
call_goes limits id slot last (Begins uid count arguments) table stands = begins_go id slot last uid count arguments table stands _ refl
call_goes limits id slot last (Finishes session place holds reply) table stands = finish_stands id slot last session place holds reply table stands

counts_by : (last : ℕ) (id : List ℕ) (slot : ℕ) (new : Table) (number : Option ℕ) (numbers : List ℕ) → Goes id slot last new number
    → ((at : ℕ) → Stands id slot at new → CountsFrom at numbers) → CountsFrom last (option_to_list number ++ numbers)
counts_by last id slot new None numbers goes rest = rest last goes
counts_by last id slot new (Some number) numbers goes rest = (goes.0, rest number goes.1)

counts : (limits : SessionLimits) (id : List ℕ) (slot last : ℕ) (calls : List Call) (table : Table) → Stands id slot last table → CountsFrom last (numbers_on limits id slot calls table)
counts limits id slot last [] table stands = tt
counts limits id slot last (call ∷ calls) table stands =
    counts_by last id slot (after limits call table) (runs_on id slot call table) (numbers_on limits id slot calls (after limits call table))
    (call_goes limits id slot last call table stands)
    (λ at there. counts limits id slot at calls (after limits call table) there)

pub every_count : (limits : SessionLimits) (run : ℕ) (calls : List Call) (id : List ℕ) (slot : ℕ) → CountsFrom 0 (numbers_on limits id slot calls (empty_table run))
every_count limits run calls id slot =
    counts limits id slot 0 calls (empty_table run) (record { made = tt; small = lit< tt; each = tt; new_or_old = inl refl })

-- From the order to the time between

step_on : (last x i number : ℕ) → x ≡ (last + 1) % 2 ^ 32 → number ≡ (x + i + 1) % 2 ^ 32 → number ≡ (last + suc i + 1) % 2 ^ 32
step_on last x i number first later = omega arith

place_of : (last : ℕ) (numbers : List ℕ) → CountsFrom last numbers → (i number : ℕ) → slice_get numbers i ≡ Some number → number ≡ (last + i + 1) % 2 ^ 32
place_of last [] counts i number e = cc
place_of last (x ∷ numbers) counts zero number e =
    let same : x ≡ number = cc in
    let first : x ≡ (last + 1) % 2 ^ 32 = counts.0 in
    omega arith
place_of last (x ∷ numbers) counts (suc i) number e = step_on last x i number counts.0 (place_of x numbers counts.1 i number e)

some_before : (numbers : List ℕ) (k j number : ℕ) → k < j → slice_get numbers j ≡ Some number → (here : ℕ) × (slice_get numbers k ≡ Some here)
some_before [] k j number less e = let never : ⊥ = cc in absurd never
some_before (x ∷ numbers) zero j number less e = (x, refl)
some_before (x ∷ numbers) (suc k) zero number less e = absurd (omega arith)
some_before (x ∷ numbers) (suc k) (suc j) number less e = some_before numbers k j number (omega arith) e

far_apart : (i j number : ℕ) → i < j → number ≡ (0 + i + 1) % 2 ^ 32 → number ≡ (0 + j + 1) % 2 ^ 32 → i + 2 ^ 32 ≤ j
far_apart i j number less at_i at_j = omega arith

reached : (i number other : ℕ) → other < 2 ^ 32 → number ≡ (0 + i + 1) % 2 ^ 32 → (0 + (i + (other + 2 ^ 32 - number) % 2 ^ 32) + 1) % 2 ^ 32 ≡ other
reached i number other small at_i = omega arith

distance : (number other : ℕ) → number < 2 ^ 32 → other < 2 ^ 32 → other ≢ number → 0 < (other + 2 ^ 32 - number) % 2 ^ 32
distance number other small small' differ = omega arith

pub others_between : (numbers : List ℕ) → CountsFrom 0 numbers → OthersBetween numbers
others_between numbers counts i j number less at_i at_j other small differ =
    let first = place_of 0 numbers counts i number at_i in
    let second = place_of 0 numbers counts j number at_j in
    let far = far_apart i j number less first second in
    let k = i + (other + 2 ^ 32 - number) % 2 ^ 32 in
    let before : k < j = omega arith in
    let there = some_before numbers k j number before at_j in
    let above = distance number other (omega arith) small differ in
    let is : there.0 ≡ other = place_of 0 numbers counts k there.0 there.1 ∙ reached i number other small first in
    (k, omega arith, before, there.1 ∙ ap Some is)

pub every_slot : EverySlot
every_slot limits run calls id slot =
    let order = every_count limits run calls id slot in
    (order, others_between (numbers_on limits id slot calls (empty_table run)) order)

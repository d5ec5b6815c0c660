-- Each call keeps what holds of the tables of clients and sessions.
use Rattle.std.proofs.Common.{◌≡◌, ℕ, ◌-◌, ◌^◌, ◌<◌, ◌≤◌, Bool, true, false, not, cond, ◌==◌, nat_lt, nat_le, List, [], ◌∷◌, map, filter, length, min, replicate, Option, None, Some, Result, refl, sym, ap, ◌∙◌, arith, find, leb-false, leb-true, eqb-true, eq-eqb, length-set}
use Rattle.std.specs.Prelude.{count_by}
use Rattle.std.specs.List.{list_all, AllByRecursion}
use Rattle.std.proofs.Math.Nat.{min-le_right}
use Rattle.std.proofs.lemmas.Bool.{and_parts, or_parts}
use Rattle.std.proofs.lemmas.List.{length-replicate}
use Rattle.std.proofs.lemmas.List.Sums.{length-filter}
use Rattle.model_tree.specs.Seats.Seats.{has_seat}
use Rattle.model_tree.specs.declared.status.Status.{Status}
use Rattle.model_tree.specs.declared.status.Status.TheVariants as status
use Rattle.model_tree.specs.Refusals.Refusal.{first_refusal}
use Rattle.model.specs.Operations.Operation.{ExchangeIdArguments, CreateSessionArguments, SequenceArguments}
use Rattle.model.specs.Operations.Answer.{CreateSessionAnswer, ExchangeIdAnswer}
use Rattle.model.specs.Sessions.Session.{SessionLimits, Client, Slot, Session, Table, Begun, Refuses, Replays, Runs, Running, Kept, slot_at, no_slot, empty_table, without_unconfirmed, without_client, is_full_of_clients, new_record, exchange_by, exchange_id, is_confirmed_of, is_unconfirmed_of, is_unconfirmed_client, yielding, exchange_flags, has_only, has_state, is_client, is_session, create_session_answer, create_refusals, create_unless, create_again, create_by, create_session, new_session, staying, is_full_of_sessions, is_too_small, is_of_clients, replaced_by, session_flags, is_running, CreateSessionOutcome, next_number, destroy_by, destroy_session, destroy_client_by, destroy_client_id, reclaim_by, reclaim_complete, begin, with_slot, started, finish, limits_for, persists}
use Rattle.model.specs.Sessions.SessionRuns.{Call, Exchanges, Creates, Destroys, DestroysClient, Reclaims, Begins, Finishes, after, started_by}
use Rattle.model.specs.Sessions.SessionTables.{has_serial, IsTable, after_calls, EveryTable}
use Rattle.model.proofs.Sessions.SlotLaw.{session_id-serial, id_of}
use Rattle.model.proofs.Sessions.TableLaws.{size-without, all_mono, keep_all, Clients, Sessions, given_serial, fewer_clients, further_client, confirmed_clients, changed_clients, fewer_sessions, further_session, changed_sessions}
use Rattle.model.proofs.Sessions.Yielding.{yielding_is}
use Rattle.model_tree.proofs.Facts.Counting.{size, size-filter, size_changed, map-same}
use Rattle.model.proofs.Operations.RefusalLaws.{none_earlier}

abbrev pub Holds : SessionLimits → Table → Type 0
Holds limits table = Clients limits table.run table.client_serial table.clients × Sessions limits table.session_serial table.sessions

-- of both branches
pub either : {A : Type 0} (P : A → Type 0) (b : Bool) (x y : A) → (b ≡ true → P x) → (b ≡ false → P y) → P (cond b x y)
either P true x y p q = p refl
either P false x y p q = q refl

pub found_passes : {A : Type 0} (p : A → Bool) (xs : List A) (y : A) → find p xs ≡ Some y → p y ≡ true
found_passes p [] y found = absurd (cc)
found_passes {A = A} p (x ∷ xs) y found = by_test (found_passes p xs y) (p x) refl found
  where
    by_test : (find p xs ≡ Some y → p y ≡ true) → (b : Bool) → p x ≡ b → cond b (Some x) (find p xs) ≡ Some y → p y ≡ true
    by_test later true is found = let same : x ≡ y = cc in ap p (sym same) ∙ is
    by_test later false is found = later found

-- EXCHANGE_ID

-- its records, of which none is an unconfirmed one of the owner, and its sessions
abbrev HasRoomFor : SessionLimits → List ℕ → Table → Type 0
HasRoomFor limits owner table =
    Clients limits table.run table.client_serial table.clients × ((size (is_unconfirmed_of owner) table.clients ≡ 0) × Sessions limits table.session_serial table.sessions)

new_record_holds : (limits : SessionLimits) (uid : ℕ) (arguments : ExchangeIdArguments) (table cleared : Table) → Holds limits table → Holds limits cleared
    → Holds limits (new_record limits uid arguments table cleared).1
new_record_holds limits uid arguments table cleared before holds =
    let first = without_unconfirmed arguments.owner cleared in
    let kept : Clients limits first.run first.client_serial first.clients =
    fewer_clients limits cleared.run cleared.client_serial cleared.clients (λ x. not (is_unconfirmed_of arguments.owner x)) holds.0 in
    let none = size-without (is_unconfirmed_of arguments.owner) cleared.clients in
    let room = yielding limits first in
    let is : HasRoomFor limits arguments.owner room =
    yielding_is (HasRoomFor limits arguments.owner) limits first (kept, (none, holds.1)) (λ number. (
      fewer_clients limits first.run first.client_serial first.clients (λ x. not (is_unconfirmed_client number x)) kept,
      (
        omega (arith, none, size-filter (is_unconfirmed_of arguments.owner) (λ x. not (is_unconfirmed_client number x)) first.clients),
        holds.1,
      ),
    )) in
    either (λ (r : Result ExchangeIdAnswer Status × Table). Holds limits r.1) (is_full_of_clients limits room) _ _
    (λ full. before)
    (λ free.
    let parts = or_parts (nat_le limits.clients (length room.clients)) (nat_le (2 ^ 32 - 1) room.client_serial) free in (
      further_client limits uid arguments room is.0 is.1.0
          (leb-false limits.clients (length room.clients) parts.0) (leb-false (2 ^ 32 - 1) room.client_serial parts.1),
      is.1.1,
    ))

exchange_by_holds : (limits : SessionLimits) (has_opens : ℕ → Bool) (uid : ℕ) (arguments : ExchangeIdArguments) (table : Table) (known : Option Client)
    → Holds limits table → Holds limits (exchange_by limits has_opens uid arguments table known).1
exchange_by_holds limits has_opens uid arguments table None holds = new_record_holds limits uid arguments table table holds holds
exchange_by_holds limits has_opens uid arguments table (Some client) holds =
    let P : Result ExchangeIdAnswer Status × Table → Type 0 = λ r. Holds limits r.1 in
    either P (client.principal == uid) _ _
    (λ same. either P _ _ _
    (λ verifier. (fewer_clients limits table.run table.client_serial table.clients (λ x. not (is_unconfirmed_of arguments.owner x)) holds.0, holds.1))
    (λ other. new_record_holds limits uid arguments table table holds holds))
    (λ other. either P _ _ _
    (λ busy. holds)
    (λ idle. new_record_holds limits uid arguments table (without_client client.number table) holds
    (fewer_clients limits table.run table.client_serial table.clients (λ x. not (is_client client.number x)) holds.0, holds.1)))

exchange_holds : (limits : SessionLimits) (has_opens : ℕ → Bool) (uid : ℕ) (arguments : ExchangeIdArguments) (table : Table) → Holds limits table
    → Holds limits (exchange_id limits has_opens uid arguments table).1
unfolding exchange_id
exchange_holds limits has_opens uid arguments table holds =
    either (λ (r : Result ExchangeIdAnswer Status × Table). Holds limits r.1) (has_only exchange_flags arguments.flags) _ _
    (λ known. exchange_by_holds limits has_opens uid arguments table (find (is_confirmed_of arguments.owner) table.clients) holds)
    (λ unknown. holds)

-- CREATE_SESSION

few_slots : (limits : SessionLimits) (asked : ℕ) (b : Bool) → length (replicate (min asked (limits_for limits b).slots) no_slot) ≤ limits.slots
few_slots limits asked false =
    omega (arith, length-replicate (min asked limits.slots) no_slot, min-le_right asked limits.slots)
few_slots limits asked true =
    omega (arith, length-replicate (min asked (min limits.seat_slots limits.slots)) no_slot, min-le_right asked (min limits.seat_slots limits.slots), min-le_right limits.seat_slots limits.slots)

created_holds : (limits : SessionLimits) (arguments : CreateSessionArguments) (client : Client) (table : Table) → Holds limits table
    → find (is_client client.number) table.clients ≡ Some client → (first : Option Status)
    → first_refusal (create_refusals limits arguments client table) ≡ first → Holds limits (create_unless limits arguments client table first).table
created_holds limits arguments client table holds found (Some reason) is = holds
created_holds limits arguments client table holds found None none =
    let slots = few_slots limits arguments.fore.max_requests (persists arguments client table) in
    let behind_number = none_earlier (not (arguments.sequence == client.sequence)) status.SeqMisordered _ none in
    let behind_flags = none_earlier (not (has_only session_flags arguments.flags)) status.Inval _ behind_number.1 in
    let behind_size = none_earlier (is_too_small limits arguments.fore) status.TooSmall _ behind_flags.1 in
    let behind_slots = none_earlier _ status.Delay _ behind_size.1 in
    let behind_room = none_earlier (is_full_of_sessions limits client table) status.Delay None behind_slots.1 in
    let parts = or_parts (nat_le limits.sessions (length (staying client table))) (nat_le (2 ^ 64 - 1) table.session_serial) behind_room.0 in (
      confirmed_clients client (create_session_answer limits arguments client table) limits table.run table.client_serial table.clients holds.0 found,
      further_session limits table.session_serial (staying client table) (new_session limits arguments client table)
          (fewer_sessions limits table.session_serial table.sessions (λ x. not (is_of_clients (replaced_by client table) x)) holds.1)
          refl slots (leb-false limits.sessions (length (staying client table)) parts.0) (leb-false (2 ^ 64 - 1) table.session_serial parts.1),
    )

create_again_holds : (limits : SessionLimits) (arguments : CreateSessionArguments) (client : Client) (table : Table) → Holds limits table
    → find (is_client client.number) table.clients ≡ Some client → (kept : Option CreateSessionAnswer)
    → Holds limits (create_again limits arguments client table kept).table
create_again_holds limits arguments client table holds found None =
    created_holds limits arguments client table holds found (first_refusal (create_refusals limits arguments client table)) refl
create_again_holds limits arguments client table holds found (Some answer) =
    either (λ (o : CreateSessionOutcome). Holds limits o.table) (next_number arguments.sequence == client.sequence) _ _
    (λ same. holds)
    (λ other. created_holds limits arguments client table holds found (first_refusal (create_refusals limits arguments client table)) refl)

create_by_holds : (limits : SessionLimits) (uid : ℕ) (arguments : CreateSessionArguments) (table : Table) → Holds limits table
    → (known : Option Client) → find (is_client arguments.client) table.clients ≡ known
    → Holds limits (create_by limits uid arguments table known).table
create_by_holds limits uid arguments table holds None is = holds
create_by_holds limits uid arguments table holds (Some client) is =
    let named = eqb-true client.number arguments.client (found_passes (is_client arguments.client) table.clients client is) in
    let found : find (is_client client.number) table.clients ≡ Some client = ap (λ (n : ℕ). find (is_client n) table.clients) named ∙ is in
    either (λ (o : CreateSessionOutcome). Holds limits o.table) (client.principal == uid) _ _
    (λ own. create_again_holds limits arguments client table holds found client.kept)
    (λ other. holds)

create_holds : (limits : SessionLimits) (uid : ℕ) (arguments : CreateSessionArguments) (table : Table) → Holds limits table
    → Holds limits (create_session limits uid arguments table).table
unfolding create_session
create_holds limits uid arguments table holds = create_by_holds limits uid arguments table holds (find (is_client arguments.client) table.clients) refl

-- The calls that end something, or mark it

destroy_holds : (limits : SessionLimits) (id : List ℕ) (table : Table) (known : Option Session) → Holds limits table → Holds limits (destroy_by id table known).1
destroy_holds limits id table None holds =
    either (λ (r : Option Status × Table). Holds limits r.1) (has_seat id table.seats) _ _ (λ seated. holds) (λ none. holds)
destroy_holds limits id table (Some session) holds =
    either (λ (r : Option Status × Table). Holds limits r.1) (is_running session) _ _
    (λ runs. holds)
    (λ rests. (holds.0, fewer_sessions limits table.session_serial table.sessions (λ x. not (is_session id x)) holds.1))

destroy_client_holds : (limits : SessionLimits) (has_opens : ℕ → Bool) (number : ℕ) (table : Table) (known : Option Client) → Holds limits table
    → Holds limits (destroy_client_by has_opens number table known).1
destroy_client_holds limits has_opens number table None holds = holds
destroy_client_holds limits has_opens number table (Some client) holds =
    either (λ (r : Option Status × Table). Holds limits r.1) (has_state has_opens table number) _ _
    (λ busy. holds)
    (λ idle. (fewer_clients limits table.run table.client_serial table.clients (λ x. not (is_client number x)) holds.0, holds.1))

abbrev pub marked : ℕ → Client → Client
marked number client = cond (is_client number client) (record client { has_reclaimed = true }) client

pub mark_same : {A : Type 0} (told : Client → A) → ((c : Client) → told (record c { has_reclaimed = true }) ≡ told c) → (number : ℕ) (c : Client)
    → told (marked number c) ≡ told c
mark_same told same number c = by_test (is_client number c)
  where
    by_test : (b : Bool) → told (cond b (record c { has_reclaimed = true }) c) ≡ told c
    by_test true = same c
    by_test false = refl

reclaim_holds : (limits : SessionLimits) (number : ℕ) (table : Table) (known : Option Client) → Holds limits table → Holds limits (reclaim_by number table known).1
reclaim_holds limits number table None holds = holds
reclaim_holds limits number table (Some client) holds =
    either (λ (r : Option Status × Table). Holds limits r.1) client.has_reclaimed _ _
    (λ done. holds)
    (λ first. (
      changed_clients (marked number) (mark_same (λ c. c.number) (λ c. refl) number) (mark_same (λ c. c.owner) (λ c. refl) number)
          (mark_same (λ c. c.is_confirmed) (λ c. refl) number) limits table.run table.client_serial table.clients holds.0,
      holds.1,
    ))

-- Slots

module _ (id : List ℕ) (place : ℕ) (slot : Session → Slot) where
  abbrev pub slotted : Session → Session
  slotted session = cond (is_session id session) (with_slot place (slot session) session) session

  pub slot_serial : (session : Session) → (slotted session).serial ≡ session.serial
  slot_serial session = by_test (is_session id session)
    where
      by_test : (b : Bool) → (cond b (with_slot place (slot session) session) session).serial ≡ session.serial
      by_test true = refl
      by_test false = refl

  slot_count : (session : Session) → length (slotted session).slots ≡ length session.slots
  slot_count session = by_test (is_session id session)
    where
      by_test : (b : Bool) → length (cond b (with_slot place (slot session) session) session).slots ≡ length session.slots
      by_test true = length-set session.slots place (slot session)
      by_test false = refl

  slotted_holds : (limits : SessionLimits) (serial : ℕ) (sessions : List Session) → Sessions limits serial sessions → Sessions limits serial (map slotted sessions)
  slotted_holds limits serial sessions old = changed_sessions slotted slot_serial slot_count limits serial sessions old

started_holds : (limits : SessionLimits) (uid : ℕ) (arguments : SequenceArguments) (table : Table) (begun : Begun) → Holds limits table
    → Holds limits (started_by uid arguments table begun)
unfolding started
started_holds limits uid arguments table (Refuses reason) holds = holds
started_holds limits uid arguments table (Replays reply) holds = holds
started_holds limits uid arguments table Runs holds = (
  holds.0,
  slotted_holds arguments.session arguments.slot (λ _. record { last = arguments.sequence; uid = uid; state = Running })
      limits table.session_serial table.sessions holds.1,
)

finish_holds : (limits : SessionLimits) (id : List ℕ) (place : ℕ) (seat : Bool) (reply : List ℕ) (table : Table) → Holds limits table
    → Holds limits (finish id place seat reply table)
unfolding finish
finish_holds limits id place seat reply table holds =
    (holds.0, slotted_holds id place (λ session. record (slot_at session place) { state = Kept reply }) limits table.session_serial table.sessions holds.1)

-- Every call, and every list of them

pub call_holds : (limits : SessionLimits) (call : Call) (table : Table) → Holds limits table → Holds limits (after limits call table)
unfolding destroy_session destroy_client_id reclaim_complete
call_holds limits (Exchanges has_opens uid arguments) table holds = exchange_holds limits has_opens uid arguments table holds
call_holds limits (Creates uid arguments) table holds = create_holds limits uid arguments table holds
call_holds limits (Destroys session) table holds = destroy_holds limits session table (find (is_session session) table.sessions) holds
call_holds limits (DestroysClient has_opens number) table holds = destroy_client_holds limits has_opens number table (find (is_client number) table.clients) holds
call_holds limits (Reclaims number) table holds = reclaim_holds limits number table (find (is_client number) table.clients) holds
call_holds limits (Begins uid count arguments) table holds = started_holds limits uid arguments table (begin uid count arguments table) holds
call_holds limits (Finishes session slot seat reply) table holds = finish_holds limits session slot seat reply table holds

calls_hold : (limits : SessionLimits) (calls : List Call) (table : Table) → Holds limits table → Holds limits (after_calls limits calls table)
calls_hold limits [] table holds = holds
calls_hold limits (call ∷ calls) table holds = calls_hold limits calls (after limits call table) (call_holds limits call table holds)

pub begins : (limits : SessionLimits) (run : ℕ) → Holds limits (empty_table run)
begins limits run = (
  record { confirmed = λ owner. omega arith; unconfirmed = λ owner. omega arith; differ = λ number. omega arith; given = refl; small = omega arith; few = omega arith },
  record { serials = λ number. omega arith; given = refl; small = omega arith; few = omega arith; slots = refl },
)

-- What that says

all_given : {A : Type 0} (p : A → Bool) (xs : List A) → list_all p xs ≡ true → AllByRecursion (λ x. p x ≡ true) xs
all_given p [] all = tt
all_given p (x ∷ xs) all = let parts = and_parts (p x) (list_all p xs) all in (parts.0, all_given p xs parts.1)

pub found_given : {A : Type 0} (p q : A → Bool) (xs : List A) (y : A) → list_all q xs ≡ true → find p xs ≡ Some y → q y ≡ true
found_given p q [] y all found = absurd (cc)
found_given p q (x ∷ xs) y all found =
    let parts = and_parts (q x) (list_all q xs) all in
    by_test (found_given p q xs y parts.1) (p x) parts.0 found
  where
    by_test : (find p xs ≡ Some y → q y ≡ true) → (b : Bool) → q x ≡ true → cond b (Some x) (find p xs) ≡ Some y → q y ≡ true
    by_test later true here found = let same : x ≡ y = cc in ap q (sym same) ∙ here
    by_test later false here found = later found

none_found : {A : Type 0} (p : A → Bool) (xs : List A) → find p xs ≡ None → size p xs ≡ 0
none_found p [] none = refl
none_found {A = A} p (x ∷ xs) none = by_test (none_found p xs) (p x) none
  where
    by_test : (find p xs ≡ None → size p xs ≡ 0) → (b : Bool) → cond b (Some x) (find p xs) ≡ None → length (cond b (x ∷ filter p xs) (filter p xs)) ≡ 0
    by_test later true none = absurd (cc)
    by_test later false none = later none

pub ids_differ : (limits : SessionLimits) (serial : ℕ) (sessions : List Session) → Sessions limits serial sessions → (id : List ℕ) → size (is_session id) sessions ≤ 1
ids_differ limits serial sessions holds id = by_found (find (is_session id) sessions) refl
  where
    small : (session : Session) → given_serial serial session ≡ true → session.serial < 2 ^ 64
    small session given =
        let parts = and_parts (nat_lt 0 session.serial) (nat_le session.serial serial) given in
        let most = holds.small in
        omega (arith, leb-true session.serial serial parts.1, most)

    by_found : (found : Option Session) → find (is_session id) sessions ≡ found → size (is_session id) sessions ≤ 1
    by_found None none = omega (arith, none_found (is_session id) sessions none)
    by_found (Some one) found =
        let named = found_passes (is_session id) sessions one found in
        let one_small = small one (found_given (is_session id) (given_serial serial) sessions one holds.given found) in
        let same : (x : Session) → given_serial serial x ≡ true → true ≡ true → is_session id x ≡ true → has_serial one.serial x ≡ true =
        λ x given kept is. eq-eqb x.serial one.serial
        (session_id-serial x.client x.serial one.client one.serial (small x given) one_small (id_of id x is ∙ sym (id_of id one named))) in
        let fewer = size_changed (is_session id) (has_serial one.serial) (λ _. true) (λ x. x) sessions
        (all_mono _ _ sessions same (all_given (given_serial serial) sessions holds.given)) in
        let before = holds.serials one.serial in
        let all : size (is_session id) (map (λ (x : Session). x) (filter (λ _. true) sessions)) ≡ size (is_session id) sessions =
        ap (size (is_session id)) (map-same (filter (λ _. true) sessions) ∙ keep_all sessions) in
        omega (arith, fewer, before, all)

counted : {A : Type 0} (p : A → Bool) (xs : List A) → size p xs ≤ 1 → count_by p xs ≤ 1
counted p xs few = omega (arith, few, length-filter p xs)

is_table : (limits : SessionLimits) (table : Table) → Holds limits table → IsTable limits table
is_table limits table holds = record {
  clients = record {
    confirmed = λ owner. counted (is_confirmed_of owner) table.clients (holds.0.confirmed owner);
    unconfirmed = λ owner. counted (is_unconfirmed_of owner) table.clients (holds.0.unconfirmed owner);
    differ = λ number. counted (is_client number) table.clients (holds.0.differ number);
    given = holds.0.given;
    serial = holds.0.small;
    few = holds.0.few;
  };
  sessions = record {
    differ = λ id. counted (is_session id) table.sessions (ids_differ limits table.session_serial table.sessions holds.1 id);
    serials = λ serial. counted (has_serial serial) table.sessions (holds.1.serials serial);
    given = holds.1.given;
    serial = holds.1.small;
    few = holds.1.few;
    slots = holds.1.slots;
  };
}

pub every_table : EveryTable
every_table limits run calls = is_table limits (after_calls limits calls (empty_table run)) (calls_hold limits calls (empty_table run) (begins limits run))

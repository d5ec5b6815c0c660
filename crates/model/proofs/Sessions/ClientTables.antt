-- Each call on the tables of clients and sessions leaves a confirmed record to each client that has
-- a session or an open, and leaves each session that runs.
use Rattle.std.proofs.Common.{◌≡◌, ℕ, ◌≤◌, Bool, true, false, not, cond, ◌&&◌, ◌||◌, ◌==◌, List, [], ◌∷◌, ◌++◌, map, filter, find, Option, None, Some, Result, refl, sym, ap, ◌∙◌, bytes_eq, eqb-true, eq-eqb}
use Rattle.std.specs.List.{list_all, list_any}
use Rattle.std.proofs.lemmas.Bool.{true≢false, and_parts, and_from, not-false, not-true, or_parts}
use Rattle.model_tree.specs.Seats.Seats.{has_seat}
use Rattle.model_tree.specs.declared.status.Status.{Status}
use Rattle.model_tree.specs.declared.status.Status.TheVariants as status
use Rattle.model.specs.Operations.Answer.{ExchangeIdAnswer, CreateSessionAnswer}
use Rattle.model.specs.Operations.Operation.{ExchangeIdArguments, CreateSessionArguments, SequenceArguments}
use Rattle.model.specs.Sessions.OpenClients.{is_confirmed_client, has_record}
use Rattle.model.specs.Sessions.Opens.{Opens, Open}
use Rattle.model_tree.specs.Refusals.Refusal.{first_refusal}
use Rattle.model.specs.Sessions.Session.{SessionLimits, Client, Slot, Running, Kept, Session, Table, slot_at, is_session, is_client, is_of_client, is_running, is_unconfirmed_of, is_confirmed_of, confirmed_with, is_replaced_by, replaced_by, is_of_clients, staying, without_unconfirmed, without_client, is_full_of_clients, with_new_client, new_client, new_record, exchange_by, exchange_id, exchange_flags, has_only, has_state, new_session, create_session_answer, create_refusals, create_unless, create_again, create_by, create_session, CreateSessionOutcome, next_number, destroy_by, destroy_session, destroy_client_by, destroy_client_id, reclaim_by, reclaim_complete, with_slot, started, finish, yielding, is_unconfirmed_client, with_clients, without_where}
use Rattle.model.specs.Sessions.SlotsHeld.{is_slot_running}
use Rattle.model.specs.Sessions.StateIds.{has_opens, without_clients}
use Rattle.model.proofs.Sessions.SlotLaw.{exchange_same, destroy_client_same, reclaim_same, id_of}
use Rattle.model.proofs.Sessions.SlotRuns.{any-map, any-none, any-append, any-filter, any-found, at_rest, told_by}
use Rattle.model.proofs.Sessions.TableCalls.{either, found_passes, marked, mark_same, slotted}
use Rattle.model.proofs.Sessions.TableLaws.{all-filter, all-append, all-map, confirms, stays}
use Rattle.model_tree.proofs.Facts.Counting.{size}
use Rattle.model_tree.proofs.Facts.BooleanLaws.{and_false}
use Rattle.model.proofs.Operations.RefusalLaws.{none_earlier}
use Rattle.model.proofs.Sessions.Yielding.{yielding_is}

-- Tests over lists

find-kept : {A : Type 0} (p keeps : A → Bool) (xs : List A) (y : A) → find p xs ≡ Some y → keeps y ≡ true → find p (filter keeps xs) ≡ Some y
find-kept p keeps [] y found kept = absurd (cc)
find-kept {A} p keeps (x ∷ xs) y found kept = by_test (λ later. find-kept p keeps xs y later kept) (p x) refl (keeps x) refl found
  where
    by_test : (find p xs ≡ Some y → find p (filter keeps xs) ≡ Some y) → (b : Bool) → p x ≡ b → (k : Bool) → keeps x ≡ k
        → cond b (Some x) (find p xs) ≡ Some y → find p (cond k (x ∷ filter keeps xs) (filter keeps xs)) ≡ Some y
    by_test later true is true stays found = ap (λ b. cond b (Some x) (find p (filter keeps xs))) is ∙ found
    by_test later true is false goes found = let same : x ≡ y = cc in absurd (true≢false (sym kept ∙ (ap keeps (sym same) ∙ goes)))
    by_test later false is true stays found = ap (λ b. cond b (Some x) (find p (filter keeps xs))) is ∙ later found
    by_test later false is false goes found = later found

find-append : {A : Type 0} (p : A → Bool) (xs ys : List A) (y : A) → find p xs ≡ Some y → find p (xs ++ ys) ≡ Some y
find-append p [] ys y found = absurd (cc)
find-append {A} p (x ∷ xs) ys y found = by_test (find-append p xs ys y) (p x) found
  where
    by_test : (find p xs ≡ Some y → find p (xs ++ ys) ≡ Some y) → (b : Bool) → cond b (Some x) (find p xs) ≡ Some y
        → cond b (Some x) (find p (xs ++ ys)) ≡ Some y
    by_test later true found = found
    by_test later false found = later found

find-map : {A : Type 0} (p : A → Bool) (f : A → A) (xs : List A) (y : A) → ((x : A) → p (f x) ≡ p x) → find p xs ≡ Some y → find p (map f xs) ≡ Some (f y)
find-map p f [] y same found = absurd (cc)
find-map {A} p f (x ∷ xs) y same found =
    ap (λ b. cond b (Some (f x)) (find p (map f xs))) (same x) ∙ by_test (find-map p f xs y same) (p x) found
  where
    by_test : (find p xs ≡ Some y → find p (map f xs) ≡ Some (f y)) → (b : Bool) → cond b (Some x) (find p xs) ≡ Some y
        → cond b (Some (f x)) (find p (map f xs)) ≡ Some (f y)
    by_test later true found = let is : x ≡ y = cc in ap (λ z. Some (f z)) is
    by_test later false found = later found

-- if each passes one test and none another
all-step : {A : Type 0} (p bad q : A → Bool) (xs : List A) → ((x : A) → p x ≡ true → bad x ≡ false → q x ≡ true) → list_all p xs ≡ true
    → list_any bad xs ≡ false → list_all q xs ≡ true
all-step p bad q [] step all none = refl
all-step p bad q (x ∷ xs) step all none =
    let here = and_parts (p x) (list_all p xs) all in
    let apart = or_parts (bad x) (list_any bad xs) none in
    and_from (q x) (list_all q xs) (step x here.0 apart.0) (all-step p bad q xs step here.1 apart.1)

pub all-kept : {A : Type 0} (p keeps q : A → Bool) (xs : List A) → ((x : A) → p x ≡ true → keeps x ≡ true → q x ≡ true) → list_all p xs ≡ true
    → list_all q (filter keeps xs) ≡ true
all-kept p keeps q [] step all = refl
all-kept {A} p keeps q (x ∷ xs) step all =
    let here = and_parts (p x) (list_all p xs) all in by_test (keeps x) refl here.0 (all-kept p keeps q xs step here.1)
  where
    by_test : (k : Bool) → keeps x ≡ k → p x ≡ true → list_all q (filter keeps xs) ≡ true
        → list_all q (cond k (x ∷ filter keeps xs) (filter keeps xs)) ≡ true
    by_test true kept passes later = and_from (q x) (list_all q (filter keeps xs)) (step x passes kept) later
    by_test false goes passes later = later

any-stays : {A : Type 0} (p : A → Bool) (f : A → A) (xs : List A) → ((x : A) → p x ≡ true → p (f x) ≡ true) → list_any p xs ≡ true → list_any p (map f xs) ≡ true
any-stays p f [] step some = some
any-stays {A} p f (x ∷ xs) step some = by_test (p x) refl some (any-stays p f xs step)
  where
    or_true : (a : Bool) → (a || true) ≡ true
    or_true true = refl
    or_true false = refl

    by_test : (b : Bool) → p x ≡ b → (b || list_any p xs) ≡ true → (list_any p xs ≡ true → list_any p (map f xs) ≡ true)
        → (p (f x) || list_any p (map f xs)) ≡ true
    by_test true is some later = ap (λ b. b || list_any p (map f xs)) (step x is)
    by_test false is some later = ap (λ b. p (f x) || b) (later some) ∙ or_true (p (f x))

found-none : {A : Type 0} (p bad : A → Bool) (xs : List A) (y : A) → find p xs ≡ Some y → list_any bad xs ≡ false → bad y ≡ false
found-none p bad [] y found none = absurd (cc)
found-none {A} p bad (x ∷ xs) y found none =
    let parts = or_parts (bad x) (list_any bad xs) none in
    by_test (p x) found parts.0 (λ later. found-none p bad xs y later parts.1)
  where
    by_test : (b : Bool) → cond b (Some x) (find p xs) ≡ Some y → bad x ≡ false → (find p xs ≡ Some y → bad y ≡ false) → bad y ≡ false
    by_test true found here later = let same : x ≡ y = cc in ap bad (sym same) ∙ here
    by_test false found here later = later found

-- The invariant: of each session and each open the client has a confirmed record

abbrev pub is_of_known : Table → ℕ × Open → Bool
is_of_known table entry = has_record table entry.1.client

pub record Lives (table : Table) (opens : Opens) : Type 0 where
  pub of_opens : list_all (is_of_known table) opens.known ≡ true
  pub of_sessions : list_all (λ (session : Session). has_record table session.client) table.sessions ≡ true

-- a session that runs stays, of the same client
pub record StaysFor (id : List ℕ) (number : ℕ) (table : Table) : Type 0 where
  pub session : Session
  pub stands : find (is_session id) table.sessions ≡ Some session
  pub client : session.client ≡ number

abbrev pub KeepsRunning : Table → Table → Type 0
KeepsRunning old new = (id : List ℕ) (place : ℕ) (session : Session) → is_slot_running id place old ≡ true
    → find (is_session id) old.sessions ≡ Some session → StaysFor id session.client new

same_running : (old new : Table) → new.sessions ≡ old.sessions → KeepsRunning old new
same_running old new same id place session runs found =
    record { session = session; stands = ap (find (is_session id)) same ∙ found; client = refl }

-- Calls that leave the sessions as they are: those that are gone had neither session nor open

record Ends (opens : Opens) (old new : Table) : Type 0 where
  gone : ℕ → Bool
  clients : (number : ℕ) → has_record old number ≡ true → gone number ≡ false → has_record new number ≡ true
  idle : list_any (λ (session : Session). gone session.client) old.sessions ≡ false
  closed : list_any (λ (entry : ℕ × Open). gone entry.1.client) opens.known ≡ false

ends_lives : (opens : Opens) (old new : Table) → Lives old opens → new.sessions ≡ old.sessions → Ends opens old new → Lives new opens
ends_lives opens old new lives same ends = record {
  of_opens = all-step (is_of_known old) (λ entry. ends.gone entry.1.client) (is_of_known new) opens.known (λ entry. ends.clients entry.1.client) lives.of_opens ends.closed;
  of_sessions = ap (list_all (λ (session : Session). has_record new session.client)) same
      ∙ all-step (λ session. has_record old session.client) (λ session. ends.gone session.client) (λ session. has_record new session.client) old.sessions
      (λ session. ends.clients session.client) lives.of_sessions ends.idle;
}

nobody : (opens : Opens) (old new : Table) → ((number : ℕ) → has_record old number ≡ true → has_record new number ≡ true) → Ends opens old new
nobody opens old new clients = record {
  gone = λ _. false;
  clients = λ number is none. clients number is;
  idle = any-none (λ _. false) old.sessions (λ session. refl);
  closed = any-none (λ _. false) opens.known (λ entry. refl);
}

-- An unconfirmed record that goes or comes

without_unconfirmed_same : (owner : List ℕ) (table : Table) (number : ℕ) → has_record (without_unconfirmed owner table) number ≡ has_record table number
without_unconfirmed_same owner table number =
    any-filter (is_confirmed_client number) (λ client. not (is_unconfirmed_of owner client)) (λ _. false) table.clients
    (λ client leaves good. unconfirmed client (not-false (is_unconfirmed_of owner client) leaves))
    (any-none (λ _. false) table.clients (λ client. refl))
  where
    unconfirmed : (client : Client) → is_unconfirmed_of owner client ≡ true → is_confirmed_client number client ≡ false
    unconfirmed client is =
        let mark : client.is_confirmed ≡ false = not-true client.is_confirmed (and_parts (not client.is_confirmed) (bytes_eq client.owner owner) is).0 in
        ap (λ b. is_client number client && b) mark ∙ and_false (is_client number client)

yielding_same : (limits : SessionLimits) (table : Table) (number : ℕ) → has_record (yielding limits table) number ≡ has_record table number
yielding_same limits table number = yielding_is (λ (t : Table). has_record t number ≡ has_record table number) limits table refl without
  where
    unconfirmed : (gone : ℕ) (client : Client) → is_unconfirmed_client gone client ≡ true → is_confirmed_client number client ≡ false
    unconfirmed gone client is =
        let mark : client.is_confirmed ≡ false = not-true client.is_confirmed (and_parts (not client.is_confirmed) (is_client gone client) is).0 in
        ap (λ b. is_client number client && b) mark ∙ and_false (is_client number client)

    without : (gone : ℕ) → has_record (with_clients (without_where (is_unconfirmed_client gone) table.clients) table) number ≡ has_record table number
    without gone =
        any-filter (is_confirmed_client number) (λ client. not (is_unconfirmed_client gone client)) (λ _. false) table.clients
        (λ client leaves good. unconfirmed gone client (not-false (is_unconfirmed_client gone client) leaves))
        (any-none (λ _. false) table.clients (λ client. refl))

further_same : (uid : ℕ) (arguments : ExchangeIdArguments) (table : Table) (number : ℕ)
    → has_record (with_new_client uid arguments table) number ≡ has_record table number
further_same uid arguments table number =
    any-append (is_confirmed_client number) table.clients (new_client uid arguments table) (and_false (is_client number (new_client uid arguments table)))

without_client_same : (gone : ℕ) (table : Table) (number : ℕ) → (number == gone) ≡ false → has_record (without_client gone table) number ≡ has_record table number
without_client_same gone table number apart =
    any-filter (is_confirmed_client number) (λ client. not (is_client gone client)) (λ _. false) table.clients
    (λ client leaves good. other client (not-false (is_client gone client) leaves))
    (any-none (λ _. false) table.clients (λ client. refl))
  where
    other : (client : Client) → is_client gone client ≡ true → is_confirmed_client number client ≡ false
    other client is = by_test (client.number == number) refl
      where
        by_test : (b : Bool) → (client.number == number) ≡ b → (b && client.is_confirmed) ≡ false
        by_test false is = refl
        by_test true same =
            absurd (true≢false (sym (eq-eqb number gone (sym (eqb-true client.number number same) ∙ eqb-true client.number gone is)) ∙ apart))

-- EXCHANGE_ID

module _ (limits : SessionLimits) (opens : Opens) (uid : ℕ) (arguments : ExchangeIdArguments) (table : Table) where
  record_ends : (cleared : Table) → Ends opens table cleared → Ends opens table (new_record limits uid arguments table cleared).1
  record_ends cleared ends =
      let first = without_unconfirmed arguments.owner cleared in
      let room = yielding limits first in
      either (λ (r : Result ExchangeIdAnswer Status × Table). Ends opens table r.1) (is_full_of_clients limits room) _ _
      (λ full. nobody opens table table (λ number is. is))
      (λ free. record {
        gone = ends.gone;
        clients = λ number is stays.
            further_same uid arguments room number
            ∙ (yielding_same limits first number ∙ (without_unconfirmed_same arguments.owner cleared number ∙ ends.clients number is stays));
        idle = ends.idle;
        closed = ends.closed;
      })

  same_ends : Ends opens table table
  same_ends = nobody opens table table (λ number is. is)

  by_ends : (known : Option Client) → Ends opens table (exchange_by limits (has_opens opens) uid arguments table known).1
  by_ends None = record_ends table same_ends
  by_ends (Some client) =
      let P : Result ExchangeIdAnswer Status × Table → Type 0 = λ r. Ends opens table r.1 in
      either P (client.principal == uid) _ _
      (λ same. either P _ _ _
      (λ verifier. nobody opens table (without_unconfirmed arguments.owner table)
      (λ number is. without_unconfirmed_same arguments.owner table number ∙ is))
      (λ other. record_ends table same_ends))
      (λ other. either P _ _ _
      (λ busy. same_ends)
      (λ idle. record_ends (without_client client.number table) (destroyed idle)))
    where
      destroyed : has_state (has_opens opens) table client.number ≡ false → Ends opens table (without_client client.number table)
      destroyed idle =
          let parts = or_parts (list_any (is_of_client client.number) table.sessions) (has_opens opens client.number) idle in
          record {
            gone = λ number. number == client.number;
            clients = λ number is apart. without_client_same client.number table number apart ∙ is;
            idle = parts.0;
            closed = parts.1;
          }

  exchange_ends : Ends opens table (exchange_id limits (has_opens opens) uid arguments table).1
  unfolding exchange_id
  exchange_ends =
      either (λ (r : Result ExchangeIdAnswer Status × Table). Ends opens table r.1) (has_only exchange_flags arguments.flags) _ _
      (λ known. by_ends (find (is_confirmed_of arguments.owner) table.clients))
      (λ unknown. same_ends)

  pub exchange_lives : Lives table opens → Lives (exchange_id limits (has_opens opens) uid arguments table).1 opens
  exchange_lives lives =
      ends_lives opens table (exchange_id limits (has_opens opens) uid arguments table).1 lives
      (exchange_same limits (has_opens opens) uid arguments table).sessions exchange_ends

  pub exchange_running : KeepsRunning table (exchange_id limits (has_opens opens) uid arguments table).1
  exchange_running =
      same_running table (exchange_id limits (has_opens opens) uid arguments table).1 (exchange_same limits (has_opens opens) uid arguments table).sessions

-- DESTROY_CLIENTID and RECLAIM_COMPLETE

module _ (opens : Opens) (number : ℕ) (table : Table) where
  destroy_ends : (known : Option Client) → Ends opens table (destroy_client_by (has_opens opens) number table known).1
  destroy_ends None = nobody opens table table (λ other is. is)
  destroy_ends (Some client) =
      either (λ (r : Option Status × Table). Ends opens table r.1) (has_state (has_opens opens) table number) _ _
      (λ busy. nobody opens table table (λ other is. is))
      (λ idle.
      let parts = or_parts (list_any (is_of_client number) table.sessions) (has_opens opens number) idle in
      record {
        gone = λ other. other == number;
        clients = λ other is apart. without_client_same number table other apart ∙ is;
        idle = parts.0;
        closed = parts.1;
      })

  pub destroy_client_lives : Lives table opens → Lives (destroy_client_id (has_opens opens) number table).1 opens
  unfolding destroy_client_id
  destroy_client_lives lives =
      ends_lives opens table (destroy_client_id (has_opens opens) number table).1 lives (destroy_client_same (has_opens opens) number table).sessions
      (destroy_ends (find (is_client number) table.clients))

  pub destroy_client_running : KeepsRunning table (destroy_client_id (has_opens opens) number table).1
  destroy_client_running =
      same_running table (destroy_client_id (has_opens opens) number table).1 (destroy_client_same (has_opens opens) number table).sessions

  reclaim_ends : (known : Option Client) → Ends opens table (reclaim_by number table known).1
  reclaim_ends None = nobody opens table table (λ other is. is)
  reclaim_ends (Some client) =
      either (λ (r : Option Status × Table). Ends opens table r.1) client.has_reclaimed _ _
      (λ done. nobody opens table table (λ other is. is))
      (λ first. nobody opens table _ (λ other is.
      any-map (is_confirmed_client other) (is_confirmed_client other) (marked number) table.clients
      (mark_same (is_confirmed_client other) (λ c. refl) number) ∙ is))

  pub reclaim_lives : Lives table opens → Lives (reclaim_complete number table).1 opens
  unfolding reclaim_complete
  reclaim_lives lives =
      ends_lives opens table (reclaim_complete number table).1 lives (reclaim_same number table).sessions
      (reclaim_ends (find (is_client number) table.clients))

  pub reclaim_running : KeepsRunning table (reclaim_complete number table).1
  reclaim_running = same_running table (reclaim_complete number table).1 (reclaim_same number table).sessions

-- Slots

slot_client : (id : List ℕ) (place : ℕ) (slot : Session → Slot) (session : Session) → (slotted id place slot session).client ≡ session.client
slot_client id place slot session = by_test (is_session id session)
  where
    by_test : (b : Bool) → (cond b (with_slot place (slot session) session) session).client ≡ session.client
    by_test true = refl
    by_test false = refl

slot_id : (id : List ℕ) (place : ℕ) (slot : Session → Slot) (other : List ℕ) (session : Session)
    → is_session other (slotted id place slot session) ≡ is_session other session
slot_id id place slot other session = by_test (is_session id session)
  where
    by_test : (b : Bool) → is_session other (cond b (with_slot place (slot session) session) session) ≡ is_session other session
    by_test true = refl
    by_test false = refl

module _ (id : List ℕ) (place : ℕ) (slot : Session → Slot) (table : Table) where
  abbrev slots : Table
  slots = record table { sessions = map (slotted id place slot) table.sessions }

  slotted_lives : (opens : Opens) → Lives table opens → Lives slots opens
  slotted_lives opens lives = record {
    of_opens = lives.of_opens;
    of_sessions = all-map (λ session. has_record table session.client) (slotted id place slot) table.sessions
        (λ session is. ap (has_record table) (slot_client id place slot session) ∙ is) lives.of_sessions;
  }

  slotted_stays : (other : List ℕ) (session : Session) → find (is_session other) table.sessions ≡ Some session → StaysFor other session.client slots
  slotted_stays other session found = record {
    session = slotted id place slot session;
    stands = find-map (is_session other) (slotted id place slot) table.sessions session (slot_id id place slot other) found;
    client = slot_client id place slot session;
  }

module _ (uid : ℕ) (arguments : SequenceArguments) (table : Table) where
  abbrev begins : Session → Slot
  begins session = record { last = arguments.sequence; uid = uid; state = Running }

  pub started_lives : (opens : Opens) → Lives table opens → Lives (started uid arguments table) opens
  unfolding started
  started_lives opens lives = slotted_lives arguments.session arguments.slot begins table opens lives

  pub started_stays : (id : List ℕ) (session : Session) → find (is_session id) table.sessions ≡ Some session → StaysFor id session.client (started uid arguments table)
  unfolding started
  started_stays id session found = slotted_stays arguments.session arguments.slot begins table id session found

module _ (name : List ℕ) (here : ℕ) (holds : Bool) (reply : List ℕ) (table : Table) where
  abbrev keeps : Session → Slot
  keeps session = record (slot_at session here) { state = Kept reply }

  pub finish_lives : (opens : Opens) → Lives table opens → Lives (finish name here holds reply table) opens
  unfolding finish
  finish_lives opens lives =
      let slotted = slotted_lives name here keeps table opens lives in
      record { of_opens = slotted.of_opens; of_sessions = slotted.of_sessions }

  pub finish_stays : (id : List ℕ) (session : Session) → find (is_session id) table.sessions ≡ Some session → StaysFor id session.client (finish name here holds reply table)
  unfolding finish
  finish_stays id session found =
      let slotted = slotted_stays name here keeps table id session found in
      record { session = slotted.session; stands = slotted.stands; client = slotted.client }

-- Sessions that end

module _ (table : Table) (one_each : (id : List ℕ) → size (is_session id) table.sessions ≤ 1) where
  -- the one that is found runs
  runs : (id : List ℕ) (place : ℕ) (session : Session) → is_slot_running id place table ≡ true → find (is_session id) table.sessions ≡ Some session
      → is_running session ≡ true
  runs id place session on found = by_test (is_running session) refl
    where
      by_test : (b : Bool) → is_running session ≡ b → b ≡ true
      by_test true is = refl
      by_test false rests =
          absurd (true≢false (sym on ∙ (told_by id place table.sessions session (one_each id) found ∙ at_rest session.slots place rests)))

  -- DESTROY_SESSION

  by_lives : (name : List ℕ) (known : Option Session) (opens : Opens) → Lives table opens → Lives (destroy_by name table known).1 opens
  by_lives name None opens lives =
      either (λ (r : Option Status × Table). Lives r.1 opens) (has_seat name table.seats) _ _
      (λ seated. record { of_opens = lives.of_opens; of_sessions = lives.of_sessions }) (λ none. lives)
  by_lives name (Some session) opens lives =
      either (λ (r : Option Status × Table). Lives r.1 opens) (is_running session) _ _ (λ busy. lives)
      (λ idle. record {
        of_opens = lives.of_opens;
        of_sessions = all-filter (λ session. has_record table session.client) (λ session. not (is_session name session)) table.sessions lives.of_sessions;
      })

  pub destroy_lives : (name : List ℕ) (opens : Opens) → Lives table opens → Lives (destroy_session name table).1 opens
  unfolding destroy_session
  destroy_lives name opens lives = by_lives name (find (is_session name) table.sessions) opens lives

  by_running : (name : List ℕ) (known : Option Session) → find (is_session name) table.sessions ≡ known → KeepsRunning table (destroy_by name table known).1
  by_running name None is =
      either (λ (r : Option Status × Table). KeepsRunning table r.1) (has_seat name table.seats) _ _
      (λ seated. same_running table _ refl) (λ none. same_running table table refl)
  by_running name (Some ended) is =
      either (λ (r : Option Status × Table). KeepsRunning table r.1) (is_running ended) _ _ (λ busy. same_running table table refl)
      (λ idle id place session on found. record {
        session = session;
        stands = find-kept (is_session id) (λ session. not (is_session name session)) table.sessions session found
            (stays_there idle id place session on found (is_session name session) refl);
        client = refl;
      })
    where
      some_session : (a b : Session) → Some a ≡ Some b → a ≡ b
      some_session a b same = cc

      stays_there : is_running ended ≡ false → (id : List ℕ) (place : ℕ) (session : Session) → is_slot_running id place table ≡ true
          → find (is_session id) table.sessions ≡ Some session → (b : Bool) → is_session name session ≡ b → not b ≡ true
      stays_there idle id place session on found false other = refl
      stays_there idle id place session on found true named =
          let same : id ≡ name = sym (id_of id session (found_passes (is_session id) table.sessions session found)) ∙ id_of name session named in
          let one : session ≡ ended = some_session session ended (sym found ∙ (ap (λ (n : List ℕ). find (is_session n) table.sessions) same ∙ is)) in
          absurd (true≢false (sym (runs id place session on found) ∙ (ap is_running one ∙ idle)))

  pub destroy_running : (name : List ℕ) → KeepsRunning table (destroy_session name table).1
  unfolding destroy_session
  destroy_running name = by_running name (find (is_session name) table.sessions) refl

  -- CREATE_SESSION

  fewer_opens : (opens : Opens) (clients : List ℕ) → Lives table opens → Lives table (without_clients clients opens)
  fewer_opens opens clients lives = record {
    of_opens = all-filter (is_of_known table) (λ (entry : ℕ × Open). not (list_any (λ client. entry.1.client == client) clients)) opens.known lives.of_opens;
    of_sessions = lives.of_sessions;
  }

  module _ (limits : SessionLimits) (arguments : CreateSessionArguments) (client : Client) where
    abbrev answer : CreateSessionAnswer
    answer = create_session_answer limits arguments client table

    -- those whose records give way
    abbrev gone : ℕ → Bool
    gone number = list_any (λ other. number == other) (replaced_by client table)

    abbrev clients : List Client
    clients = map (confirms client answer) (filter (stays client answer) table.clients)

    none_replaced : (number : ℕ) (all : List Client) → list_any (λ other. number == other) (map (λ (c : Client). c.number) (filter (is_replaced_by client) all)) ≡ false
        → list_any (λ x. is_replaced_by client x && is_client number x) all ≡ false
    none_replaced number [] none = refl
    none_replaced number (x ∷ xs) none = by_test (none_replaced number xs) (is_replaced_by client x) none
      where
        apart : (number == x.number) ≡ false → is_client number x ≡ false
        apart other = by_number (x.number == number) refl
          where
            by_number : (b : Bool) → (x.number == number) ≡ b → b ≡ false
            by_number false is = refl
            by_number true is = absurd (true≢false (sym (eq-eqb number x.number (sym (eqb-true x.number number is))) ∙ other))

        by_test : (list_any (λ other. number == other) (map (λ (c : Client). c.number) (filter (is_replaced_by client) xs)) ≡ false
            → list_any (λ y. is_replaced_by client y && is_client number y) xs ≡ false) → (b : Bool)
            → list_any (λ other. number == other) (map (λ (c : Client). c.number) (cond b (x ∷ filter (is_replaced_by client) xs) (filter (is_replaced_by client) xs))) ≡ false
            → ((b && is_client number x) || list_any (λ y. is_replaced_by client y && is_client number y) xs) ≡ false
        by_test later true none =
            let parts = or_parts (number == x.number) _ none in
            ap (λ b. b || list_any (λ y. is_replaced_by client y && is_client number y) xs) (apart parts.0) ∙ later parts.1
        by_test later false none = later none

    keeps_record : (number : ℕ) → has_record table number ≡ true → gone number ≡ false → list_any (is_confirmed_client number) clients ≡ true
    keeps_record number is stays_known =
        any-stays (is_confirmed_client number) (confirms client answer) (filter (stays client answer) table.clients)
        (λ x known. confirmed_too x (is_client client.number x) known)
        (any-filter (is_confirmed_client number) (stays client answer) (λ x. is_replaced_by client x && is_client number x) table.clients left
        (none_replaced number table.clients stays_known) ∙ is)
      where
        confirmed_too : (x : Client) (b : Bool) → is_confirmed_client number x ≡ true → is_confirmed_client number (cond b (confirmed_with answer x) x) ≡ true
        confirmed_too x true known = and_from (is_client number x) true (and_parts (is_client number x) x.is_confirmed known).0 refl
        confirmed_too x false known = known

        left : (x : Client) → stays client answer x ≡ false → (is_replaced_by client x && is_client number x) ≡ false → is_confirmed_client number x ≡ false
        left x leaves other =
            let apart : is_client number x ≡ false = ap (λ b. b && is_client number x) (sym (not-false (is_replaced_by client x) leaves)) ∙ other in
            ap (λ b. b && x.is_confirmed) apart

    record_stands : find (is_client client.number) table.clients ≡ Some client → list_any (is_confirmed_client client.number) clients ≡ true
    record_stands found =
        let named : is_client client.number client ≡ true = eq-eqb client.number client.number refl in
        let kept : stays client answer client ≡ true
        = ap (λ b. not (is_confirmed_of client.owner client && not b)) named ∙ ap not (and_false (is_confirmed_of client.owner client)) in
        any-found (is_client client.number) (is_confirmed_client client.number) (confirms client answer) (filter (stays client answer) table.clients) client
        (find-kept (is_client client.number) (stays client answer) table.clients client found kept)
        (ap (λ b. is_confirmed_client client.number (cond b (confirmed_with answer client) client)) named ∙ ap (λ b. b && true) named)

    abbrev LivesBehind : Opens → CreateSessionOutcome → Type 0
    LivesBehind opens outcome = Lives outcome.table (without_clients outcome.ended_clients opens)

    created_lives : (opens : Opens) → find (is_client client.number) table.clients ≡ Some client → Lives table opens → (first : Option Status)
        → LivesBehind opens (create_unless limits arguments client table first)
    created_lives opens found lives (Some reason) = fewer_opens opens [] lives
    created_lives opens found lives None = record {
      of_opens = all-kept (is_of_known table) (λ (entry : ℕ × Open). not (gone entry.1.client))
          (λ (entry : ℕ × Open). list_any (is_confirmed_client entry.1.client) clients) opens.known
          (λ entry known stays_open. keeps_record entry.1.client known (not-true (gone entry.1.client) stays_open)) lives.of_opens;
      of_sessions = all-append (λ (session : Session). list_any (is_confirmed_client session.client) clients) (staying client table)
          (new_session limits arguments client table)
          (all-kept (λ session. has_record table session.client) (λ session. not (is_of_clients (replaced_by client table) session))
          (λ (session : Session). list_any (is_confirmed_client session.client) clients) table.sessions
          (λ session known stays_there. keeps_record session.client known (not-true (gone session.client) stays_there)) lives.of_sessions)
          (record_stands found);
    }

    again_lives : (opens : Opens) → find (is_client client.number) table.clients ≡ Some client → Lives table opens → (kept : Option CreateSessionAnswer)
        → LivesBehind opens (create_again limits arguments client table kept)
    again_lives opens found lives None = created_lives opens found lives (first_refusal (create_refusals limits arguments client table))
    again_lives opens found lives (Some before) =
        either (LivesBehind opens) (next_number arguments.sequence == client.sequence) _ _
        (λ same. fewer_opens opens [] lives)
        (λ other. created_lives opens found lives (first_refusal (create_refusals limits arguments client table)))

    created_running : (first : Option Status) → first_refusal (create_refusals limits arguments client table) ≡ first
        → KeepsRunning table (create_unless limits arguments client table first).table
    created_running (Some reason) is = same_running table table refl
    created_running None is =
        let one = none_earlier (not (arguments.sequence == client.sequence)) status.SeqMisordered _ is in
        let two = none_earlier _ status.Inval _ one.1 in
        let three = none_earlier _ status.TooSmall _ two.1 in
        let four = none_earlier (list_any bad table.sessions) status.Delay _ three.1 in
        λ id place session on found. record {
          session = session;
          stands = find-append (is_session id) (staying client table) (new_session limits arguments client table ∷ []) session
              (find-kept (is_session id) (λ session. not (is_of_clients (replaced_by client table) session)) table.sessions session found
              (not_of (is_of_clients (replaced_by client table) session) (runs id place session on found)
              (found-none (is_session id) bad table.sessions session found four.0)));
          client = refl;
        }
      where
        bad : Session → Bool
        bad session = is_of_clients (replaced_by client table) session && is_running session

        not_of : (b : Bool) {running : Bool} → running ≡ true → (b && running) ≡ false → not b ≡ true
        not_of true on none = absurd (true≢false (sym on ∙ none))
        not_of false on none = refl

    again_running : (kept : Option CreateSessionAnswer) → KeepsRunning table (create_again limits arguments client table kept).table
    again_running None = created_running (first_refusal (create_refusals limits arguments client table)) refl
    again_running (Some before) =
        either (λ (o : CreateSessionOutcome). KeepsRunning table o.table) (next_number arguments.sequence == client.sequence) _ _
        (λ same. same_running table table refl)
        (λ other. created_running (first_refusal (create_refusals limits arguments client table)) refl)

  module _ (limits : SessionLimits) (uid : ℕ) (arguments : CreateSessionArguments) where
    create_by_lives : (opens : Opens) → Lives table opens → (known : Option Client) → find (is_client arguments.client) table.clients ≡ known
        → Lives (create_by limits uid arguments table known).table (without_clients (create_by limits uid arguments table known).ended_clients opens)
    create_by_lives opens lives None is = fewer_opens opens [] lives
    create_by_lives opens lives (Some client) is =
        let named = eqb-true client.number arguments.client (found_passes (is_client arguments.client) table.clients client is) in
        let found : find (is_client client.number) table.clients ≡ Some client = ap (λ (n : ℕ). find (is_client n) table.clients) named ∙ is in
        either (LivesBehind limits arguments client opens) (client.principal == uid) _ _
        (λ own. again_lives limits arguments client opens found lives client.kept)
        (λ other. fewer_opens opens [] lives)

    create_by_running : (known : Option Client) → KeepsRunning table (create_by limits uid arguments table known).table
    create_by_running None = same_running table table refl
    create_by_running (Some client) =
        either (λ (o : CreateSessionOutcome). KeepsRunning table o.table) (client.principal == uid) _ _
        (λ own. again_running limits arguments client client.kept)
        (λ other. same_running table table refl)

    pub create_lives : (opens : Opens) → Lives table opens
        → Lives (create_session limits uid arguments table).table (without_clients (create_session limits uid arguments table).ended_clients opens)
    unfolding create_session
    create_lives opens lives = create_by_lives opens lives (find (is_client arguments.client) table.clients) refl

    pub create_running : KeepsRunning table (create_session limits uid arguments table).table
    unfolding create_session
    create_running = create_by_running (find (is_client arguments.client) table.clients)

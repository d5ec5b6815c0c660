-- Which slots run, after each call on the table of sessions.
use Rattle.std.proofs.Common.{◌≡◌, ℕ, zero, suc, ◌<◌, ◌≤◌, inl, inr, Bool, true, false, not, cond, ◌&&◌, ◌||◌, ◌==◌, nat_lt, List, [], ◌∷◌, ◌++◌, map, filter, length, get_or, set, replicate, find, Option, None, Some, refl, sym, ap, ◌∙◌, subst, arith, bytes_eq, eqb-true, eq-eqb, ltb-true, get_or-set_same, get_or-set_other}
use Rattle.std.specs.List.{list_any}
use Rattle.std.proofs.lemmas.Bool.{cases_eq, and_parts, not-false, or_parts}
use Rattle.std.proofs.lemmas.Slice.Eq.{bytes_eq-Decides}
use Rattle.model_tree.specs.Seats.Seats.{Seats, seat_of, has_seat}
use Rattle.model_tree.specs.declared.status.Status.{Status}
use Rattle.model_tree.specs.declared.status.Status.TheVariants as status
use Rattle.model.specs.Operations.Answer.{CreateSessionAnswer}
use Rattle.model.specs.Operations.Operation.{CreateSessionArguments, SequenceArguments}
use Rattle.model_tree.specs.Refusals.Refusal.{first_refusal}
use Rattle.model.specs.Sessions.Session.{SessionLimits, Client, Slot, SlotState, Free, Running, Kept, Session, Table, Refuses, Runs, no_slot, slot_at, is_session, is_client, is_running, is_running_state, with_slot, destroy_by, destroy_session, create_session, create_by, create_again, create_unless, create_refusals, CreateSessionOutcome, is_of_clients, replaced_by, staying, next_number, new_session, fore_channel, begin, begin_by, begin_slot, started, finish, limits_for, persists}
use Rattle.model.specs.Sessions.SlotsHeld.{runs_at, is_slot_running, is_on}
use Rattle.model.proofs.Sessions.SlotLaw.{id_of, cond_runs, cond_never, refuses_not, dead_never}
use Rattle.model.proofs.Sessions.TableCalls.{either, found_passes}
use Rattle.model_tree.proofs.Facts.Counting.{size}
use Rattle.model_tree.proofs.Facts.BooleanLaws.{and_false, or_false}
use Rattle.model.proofs.Operations.RefusalLaws.{none_earlier}

-- Tests over lists

pub any-map : {A : Type 0} (p q : A → Bool) (f : A → A) (xs : List A) → ((x : A) → p (f x) ≡ q x) → list_any p (map f xs) ≡ list_any q xs
any-map p q f [] same = refl
any-map p q f (x ∷ xs) same = ap (λ b. b || list_any p (map f xs)) (same x) ∙ ap (λ b. q x || b) (any-map p q f xs same)

pub any-none : {A : Type 0} (p : A → Bool) (xs : List A) → ((x : A) → p x ≡ false) → list_any p xs ≡ false
any-none p [] none = refl
any-none p (x ∷ xs) none = ap (λ b. b || list_any p xs) (none x) ∙ any-none p xs none

pub any-append : {A : Type 0} (p : A → Bool) (xs : List A) (y : A) → p y ≡ false → list_any p (xs ++ y ∷ []) ≡ list_any p xs
any-append p [] y none = or_false (p y) ∙ none
any-append p (x ∷ xs) y none = ap (λ b. p x || b) (any-append p xs y none)

-- those that are left out do not pass
pub any-filter : {A : Type 0} (p keeps bad : A → Bool) (xs : List A) → ((x : A) → keeps x ≡ false → bad x ≡ false → p x ≡ false) → list_any bad xs ≡ false
    → list_any p (filter keeps xs) ≡ list_any p xs
any-filter p keeps bad [] each none = refl
any-filter {A} p keeps bad (x ∷ xs) each none =
    let parts = or_parts (bad x) (list_any bad xs) none in
    by_test (keeps x) refl parts.0 (any-filter p keeps bad xs each parts.1)
  where
    by_test : (b : Bool) → keeps x ≡ b → bad x ≡ false → list_any p (filter keeps xs) ≡ list_any p xs
        → list_any p (cond b (x ∷ filter keeps xs) (filter keeps xs)) ≡ (p x || list_any p xs)
    by_test true is good same = ap (λ b. p x || b) same
    by_test false is good same = same ∙ sym (ap (λ b. b || list_any p xs) (each x is good))

-- those that are kept do not pass
any-kept : {A : Type 0} (p keeps : A → Bool) (xs : List A) → ((x : A) → keeps x ≡ true → p x ≡ false) → list_any p (filter keeps xs) ≡ false
any-kept p keeps [] none = refl
any-kept {A} p keeps (x ∷ xs) none = by_test (keeps x) refl (any-kept p keeps xs none)
  where
    by_test : (b : Bool) → keeps x ≡ b → list_any p (filter keeps xs) ≡ false → list_any p (cond b (x ∷ filter keeps xs) (filter keeps xs)) ≡ false
    by_test true is same = ap (λ b. b || list_any p (filter keeps xs)) (none x is) ∙ same
    by_test false is same = same

-- what is found passes after the change
pub any-found : {A : Type 0} (p q : A → Bool) (f : A → A) (xs : List A) (y : A) → find p xs ≡ Some y → q (f y) ≡ true → list_any q (map f xs) ≡ true
any-found p q f [] y found passes = absurd (cc)
any-found {A} p q f (x ∷ xs) y found passes = by_test (λ later. any-found p q f xs y later passes) (p x) found
  where
    or_true : (a : Bool) → (a || true) ≡ true
    or_true true = refl
    or_true false = refl

    by_test : (find p xs ≡ Some y → list_any q (map f xs) ≡ true) → (b : Bool) → cond b (Some x) (find p xs) ≡ Some y
        → (q (f x) || list_any q (map f xs)) ≡ true
    by_test later true is = let same : x ≡ y = cc in ap (λ b. b || list_any q (map f xs)) (ap (λ z. q (f z)) same ∙ passes)
    by_test later false is = ap (λ b. q (f x) || b) (later is) ∙ or_true (q (f x))

-- Slots and sessions

pub at_rest : (slots : List Slot) (place : ℕ) → list_any (λ slot. is_running_state slot.state) slots ≡ false → is_running_state (get_or slots place no_slot).state ≡ false
at_rest [] zero none = refl
at_rest [] (suc place) none = refl
at_rest (slot ∷ slots) zero none = (or_parts (is_running_state slot.state) (list_any (λ slot. is_running_state slot.state) slots) none).0
at_rest (slot ∷ slots) (suc place) none =
    at_rest slots place (or_parts (is_running_state slot.state) (list_any (λ slot. is_running_state slot.state) slots) none).1

fresh_rests : (count place : ℕ) → is_running_state (get_or (replicate count no_slot) place no_slot).state ≡ false
fresh_rests zero zero = refl
fresh_rests zero (suc place) = refl
fresh_rests (suc count) zero = refl
fresh_rests (suc count) (suc place) = fresh_rests count place

kept_rests : (slots : List Slot) (place : ℕ) (new : Slot) → is_running_state new.state ≡ false → is_running_state (get_or (set slots place new) place no_slot).state ≡ false
kept_rests [] zero new rests = refl
kept_rests [] (suc place) new rests = refl
kept_rests (slot ∷ slots) zero new rests = rests
kept_rests (slot ∷ slots) (suc place) new rests = kept_rests slots place new rests

not_here : (id : List ℕ) (place : ℕ) (session : Session) → is_session id session ≡ false → runs_at id place session ≡ false
not_here id place session other = ap (λ b. b && is_running_state (slot_at session place).state) other

rests_here : (id : List ℕ) (place : ℕ) (session : Session) → is_running_state (slot_at session place).state ≡ false → runs_at id place session ≡ false
rests_here id place session rests = ap (λ b. is_session id session && b) rests ∙ and_false (is_session id session)

other_id : (name id : List ℕ) (session : Session) → is_session name session ≡ true → bytes_eq name id ≡ false → is_session id session ≡ false
other_id name id session named apart = ap (λ bytes. bytes_eq bytes id) (id_of name session named) ∙ apart

-- a changed slot is this one, or another of the session, or of another session
abbrev changed_at : (name : List ℕ) → (place : ℕ) → (Session → Slot) → Session → Session
changed_at name place new session = cond (is_session name session) (with_slot place (new session) session) session

elsewhere : (name : List ℕ) (here : ℕ) (new : Session → Slot) (id : List ℕ) (place : ℕ) → is_on (Some (name, here)) id place ≡ false
    → (session : Session) → runs_at id place (changed_at name here new session) ≡ runs_at id place session
elsewhere name here new id place apart session = by_name (is_session name session) refl
  where
    not_id : here ≡ place → bytes_eq name id ≡ false
    not_id same = by_test (bytes_eq name id) (ap (λ b. bytes_eq name id && b) (sym (eq-eqb here place same)) ∙ apart)
      where
        by_test : (b : Bool) → (b && true) ≡ false → b ≡ false
        by_test true is = is
        by_test false is = refl

    by_name : (b : Bool) → is_session name session ≡ b → runs_at id place (cond b (with_slot here (new session) session) session) ≡ runs_at id place session
    by_name false is = refl
    by_name true is = elim (cases_eq place here) [
      | inl same ↦
          let other : is_session id session ≡ false = other_id name id session is (not_id (sym same)) in
          ap (λ b. b && is_running_state (slot_at (with_slot here (new session) session) place).state) other ∙ sym (not_here id place session other)
      | inr apart ↦ ap (λ (slot : Slot). is_session id session && is_running_state slot.state)
          (get_or-set_other session.slots here place (new session) no_slot apart)
    ]

is_here : (name : List ℕ) (here : ℕ) (id : List ℕ) (place : ℕ) → is_on (Some (name, here)) id place ≡ true → (name ≡ id) × (here ≡ place)
is_here name here id place is =
    let parts = and_parts (bytes_eq name id) (here == place) is in
    ((bytes_eq-Decides name id).0 parts.0, eqb-true here place parts.1)

-- Tables of the same sessions, and what ends

abbrev pub RunsSame : Table → Table → Type 0
RunsSame old new = (id : List ℕ) (place : ℕ) → is_slot_running id place new ≡ is_slot_running id place old

pub same_sessions : (old new : Table) → new.sessions ≡ old.sessions → RunsSame old new
same_sessions old new same id place = ap (list_any (runs_at id place)) same

-- a finished slot rests
pub finished : (name : List ℕ) (here : ℕ) (holds : Bool) (reply : List ℕ) (table : Table) (id : List ℕ) (place : ℕ)
    → is_slot_running id place (finish name here holds reply table) ≡ (is_slot_running id place table && not (is_on (Some (name, here)) id place))
unfolding finish
finished name here holds reply table id place = by_place (is_on (Some (name, here)) id place) refl
  where
    new : Session → Slot
    new session = record (slot_at session here) { state = Kept reply }

    rests : (session : Session) → runs_at name here (changed_at name here new session) ≡ false
    rests session = by_name (is_session name session) refl
      where
        by_name : (b : Bool) → is_session name session ≡ b → runs_at name here (cond b (with_slot here (new session) session) session) ≡ false
        by_name false is = not_here name here session is
        by_name true is = rests_here name here (with_slot here (new session) session) (kept_rests session.slots here (new session) refl)

    none_here : is_on (Some (name, here)) id place ≡ true → (session : Session) → runs_at id place (changed_at name here new session) ≡ false
    none_here is session =
        let same = is_here name here id place is in
        subst (λ (i : List ℕ). runs_at i place (changed_at name here new session) ≡ false) same.0
        (subst (λ (p : ℕ). runs_at name p (changed_at name here new session) ≡ false) same.1 (rests session))

    by_place : (b : Bool) → is_on (Some (name, here)) id place ≡ b
        → list_any (runs_at id place) (map (changed_at name here new) table.sessions) ≡ (list_any (runs_at id place) table.sessions && not b)
    by_place true is =
        any-map (runs_at id place) (λ _. false) (changed_at name here new) table.sessions (none_here is)
        ∙ (any-none (λ _. false) table.sessions (λ x. refl) ∙ sym (and_false (list_any (runs_at id place) table.sessions)))
    by_place false is =
        any-map (runs_at id place) (runs_at id place) (changed_at name here new) table.sessions (elsewhere name here new id place is)
        ∙ sym (and_all (list_any (runs_at id place) table.sessions))
      where
        and_all : (a : Bool) → (a && true) ≡ a
        and_all true = refl
        and_all false = refl

-- CREATE_SESSION ends no session that runs, and a new one rests

created_same : (limits : SessionLimits) (arguments : CreateSessionArguments) (client : Client) (table : Table) (first : Option Status)
    → first_refusal (create_refusals limits arguments client table) ≡ first → RunsSame table (create_unless limits arguments client table first).table
created_same limits arguments client table (Some reason) is id place = refl
created_same limits arguments client table None is id place =
    let one = none_earlier (not (arguments.sequence == client.sequence)) status.SeqMisordered _ is in
    let two = none_earlier _ status.Inval _ one.1 in
    let three = none_earlier _ status.TooSmall _ two.1 in
    let four = none_earlier (list_any bad table.sessions) status.Delay _ three.1 in
    any-append (runs_at id place) (staying client table) (new_session limits arguments client table)
    (rests_here id place (new_session limits arguments client table) (fresh_rests (fore_channel (limits_for limits (persists arguments client table)) arguments.fore).max_requests place))
    ∙ any-filter (runs_at id place) (λ x. not (is_of_clients (replaced_by client table) x)) bad table.sessions ends four.0
  where
    bad : Session → Bool
    bad session = is_of_clients (replaced_by client table) session && is_running session

    ends : (session : Session) → not (is_of_clients (replaced_by client table) session) ≡ false → bad session ≡ false → runs_at id place session ≡ false
    ends session leaves rests =
        let idle : is_running session ≡ false = ap (λ b. b && is_running session) (sym (not-false _ leaves)) ∙ rests in
        rests_here id place session (at_rest session.slots place idle)

create_same : (limits : SessionLimits) (uid : ℕ) (arguments : CreateSessionArguments) (table : Table) (known : Option Client)
    → RunsSame table (create_by limits uid arguments table known).table
create_same limits uid arguments table None = λ id place. refl
create_same limits uid arguments table (Some client) =
    either (λ (o : CreateSessionOutcome). RunsSame table o.table) (client.principal == uid) _ _ (λ own. again client.kept) (λ other id place. refl)
  where
    again : (kept : Option CreateSessionAnswer) → RunsSame table (create_again limits arguments client table kept).table
    again None = created_same limits arguments client table (first_refusal (create_refusals limits arguments client table)) refl
    again (Some answer) =
        either (λ (o : CreateSessionOutcome). RunsSame table o.table) (next_number arguments.sequence == client.sequence) _ _
        (λ same id place. refl)
        (λ other. created_same limits arguments client table (first_refusal (create_refusals limits arguments client table)) refl)

pub created_runs : (limits : SessionLimits) (uid : ℕ) (arguments : CreateSessionArguments) (table : Table)
    → RunsSame table (create_session limits uid arguments table).table
unfolding create_session
created_runs limits uid arguments table = create_same limits uid arguments table (find (is_client arguments.client) table.clients)

-- If one session has an id, that session determines what runs

none_of : (id : List ℕ) (place : ℕ) (sessions : List Session) → size (is_session id) sessions ≡ 0 → list_any (runs_at id place) sessions ≡ false
none_of id place [] none = refl
none_of id place (session ∷ sessions) none = by_test (none_of id place sessions) (is_session id session) refl none
  where
    by_test : (size (is_session id) sessions ≡ 0 → list_any (runs_at id place) sessions ≡ false) → (b : Bool) → is_session id session ≡ b
        → length (cond b (session ∷ filter (is_session id) sessions) (filter (is_session id) sessions)) ≡ 0
        → (runs_at id place session || list_any (runs_at id place) sessions) ≡ false
    by_test later true is some = absurd (omega (arith, some))
    by_test later false is rest = ap (λ b. b || list_any (runs_at id place) sessions) (not_here id place session is) ∙ later rest

pub told_by : (id : List ℕ) (place : ℕ) (sessions : List Session) (first : Session) → size (is_session id) sessions ≤ 1 → find (is_session id) sessions ≡ Some first
    → list_any (runs_at id place) sessions ≡ is_running_state (slot_at first place).state
told_by id place [] first few found = absurd (cc)
told_by id place (session ∷ sessions) first few found = by_test (told_by id place sessions first) (is_session id session) refl few found
  where
    by_test : (size (is_session id) sessions ≤ 1 → find (is_session id) sessions ≡ Some first
        → list_any (runs_at id place) sessions ≡ is_running_state (slot_at first place).state)
        → (b : Bool) → is_session id session ≡ b → length (cond b (session ∷ filter (is_session id) sessions) (filter (is_session id) sessions)) ≤ 1
        → cond b (Some session) (find (is_session id) sessions) ≡ Some first
        → (runs_at id place session || list_any (runs_at id place) sessions) ≡ is_running_state (slot_at first place).state
    by_test later true is few found =
        let same : session ≡ first = cc in
        let rest : list_any (runs_at id place) sessions ≡ false = none_of id place sessions (omega (arith, few)) in
        ap (λ b. runs_at id place session || b) rest
        ∙ (or_false (runs_at id place session)
        ∙ (ap (λ b. b && is_running_state (slot_at session place).state) is ∙ ap (λ (s : Session). is_running_state (slot_at s place).state) same))
    by_test later false is few found =
        ap (λ b. b || list_any (runs_at id place) sessions) (not_here id place session is) ∙ later few found

-- DESTROY_SESSION ends no session that runs
module _ (table : Table) (one_each : (id : List ℕ) → size (is_session id) table.sessions ≤ 1) where
  destroy_same : (name : List ℕ) (known : Option Session) → find (is_session name) table.sessions ≡ known → RunsSame table (destroy_by name table known).1
  destroy_same name None found =
      either (λ (r : Option Status × Table). RunsSame table r.1) (has_seat name table.seats) _ _ (λ seated id place. refl) (λ none id place. refl)
  destroy_same name (Some session) found =
      either (λ (r : Option Status × Table). RunsSame table r.1) (is_running session) _ _ (λ runs id place. refl) (λ rests. ended rests)
    where
      keeps : Session → Bool
      keeps x = not (is_session name x)

      ended : is_running session ≡ false → (id : List ℕ) (place : ℕ) → list_any (runs_at id place) (filter keeps table.sessions) ≡ list_any (runs_at id place) table.sessions
      ended rests id place = by_id (bytes_eq name id) refl
        where
          by_id : (b : Bool) → bytes_eq name id ≡ b → list_any (runs_at id place) (filter keeps table.sessions) ≡ list_any (runs_at id place) table.sessions
          by_id false apart =
              any-filter (runs_at id place) keeps (λ _. false) table.sessions
              (λ x leaves good. not_here id place x (other_id name id x (not-false (is_session name x) leaves) apart))
              (any-none (λ _. false) table.sessions (λ x. refl))
          by_id true is =
              let same : name ≡ id = (bytes_eq-Decides name id).0 is in
              let before : list_any (runs_at name place) table.sessions ≡ false =
              told_by name place table.sessions session (one_each name) found ∙ at_rest session.slots place rests in
              let after : list_any (runs_at name place) (filter keeps table.sessions) ≡ false =
              any-kept (runs_at name place) keeps table.sessions (λ x kept. not_here name place x (is_not (is_session name x) kept)) in
              subst (λ (i : List ℕ). list_any (runs_at i place) (filter keeps table.sessions) ≡ list_any (runs_at i place) table.sessions) same (after ∙ sym before)
            where
              is_not : (b : Bool) → not b ≡ true → b ≡ false
              is_not true is = sym is
              is_not false is = refl

  pub destroyed_runs : (name : List ℕ) → RunsSame table (destroy_session name table).1
  unfolding destroy_session
  destroyed_runs name = destroy_same name (find (is_session name) table.sessions) refl

  -- SEQUENCE: a slot that rests runs from then on

  -- if it runs, the slot was at rest
  record Rested (arguments : SequenceArguments) (known : Option Session) : Type 0 where
    pub session : Session
    pub is : known ≡ Some session
    pub within : arguments.slot < length session.slots
    pub rests : is_running_state (slot_at session arguments.slot).state ≡ false

  slot_rests : (uid count : ℕ) (arguments : SequenceArguments) (session : Session) (slot : Slot) (state : SlotState)
      → begin_slot uid count arguments session slot state ≡ Runs → is_running_state state ≡ false
  slot_rests uid count arguments session slot Free e = refl
  slot_rests uid count arguments session slot Running e =
      absurd (cond_never (arguments.sequence == slot.last) (Refuses status.Delay) (Refuses status.SeqMisordered) (refuses_not status.Delay) (refuses_not status.SeqMisordered) e)
  slot_rests uid count arguments session slot (Kept reply) e = refl

  rested : (uid count : ℕ) (arguments : SequenceArguments) (seats : Seats) (known : Option Session) → begin_by uid count arguments seats known ≡ Runs → Rested arguments known
  rested uid count arguments seats None e = absurd (dead_never uid arguments (seat_of arguments.session seats) e)
  rested uid count arguments seats (Some session) e =
      let tested = cond_runs (nat_lt arguments.slot (length session.slots)) _ (Refuses status.BadSlot) (refuses_not status.BadSlot) e in
      record {
        session = session;
        is = refl;
        within = ltb-true arguments.slot (length session.slots) tested.0;
        rests = slot_rests uid count arguments session (slot_at session arguments.slot) (slot_at session arguments.slot).state tested.1;
      }

  module _ (uid count : ℕ) (arguments : SequenceArguments) (e : begin uid count arguments table ≡ Runs) where
    of : Rested arguments (find (is_session arguments.session) table.sessions)
    unfolding begin
    of = rested uid count arguments table.seats (find (is_session arguments.session) table.sessions) e

    new : Session → Slot
    new session = record { last = arguments.sequence; uid = uid; state = Running }

    -- it rested
    pub rested_before : (id : List ℕ) (place : ℕ) → is_on (Some (arguments.session, arguments.slot)) id place ≡ true → is_slot_running id place table ≡ false
    rested_before id place is =
        let same = is_here arguments.session arguments.slot id place is in
        let before : is_slot_running arguments.session arguments.slot table ≡ false =
        told_by arguments.session arguments.slot table.sessions of.session (one_each arguments.session) of.is ∙ of.rests in
        subst (λ (i : List ℕ). is_slot_running i place table ≡ false) same.0
        (subst (λ (p : ℕ). is_slot_running arguments.session p table ≡ false) same.1 before)

    runs_now : is_slot_running arguments.session arguments.slot (started uid arguments table) ≡ true
    unfolding started new
    runs_now =
        let named = found_passes (is_session arguments.session) table.sessions of.session of.is in
        any-found (is_session arguments.session) (runs_at arguments.session arguments.slot) (changed_at arguments.session arguments.slot new) table.sessions of.session of.is
        (ap (λ b. runs_at arguments.session arguments.slot (cond b (with_slot arguments.slot (new of.session) of.session) of.session)) named
        ∙ (ap (λ b. b && is_running_state (slot_at (with_slot arguments.slot (new of.session) of.session) arguments.slot).state) named
        ∙ ap (λ (slot : Slot). is_running_state slot.state) (get_or-set_same of.session.slots arguments.slot (new of.session) no_slot of.within)))

    pub started_runs : (id : List ℕ) (place : ℕ) → is_slot_running id place (started uid arguments table)
        ≡ (is_on (Some (arguments.session, arguments.slot)) id place || is_slot_running id place table)
    unfolding started new
    started_runs id place = by_place (is_on (Some (arguments.session, arguments.slot)) id place) refl
      where
        by_place : (b : Bool) → is_on (Some (arguments.session, arguments.slot)) id place ≡ b
            → is_slot_running id place (started uid arguments table) ≡ (b || is_slot_running id place table)
        by_place true is =
            let same = is_here arguments.session arguments.slot id place is in
            subst (λ (i : List ℕ). is_slot_running i place (started uid arguments table) ≡ true) same.0
            (subst (λ (p : ℕ). is_slot_running arguments.session p (started uid arguments table) ≡ true) same.1 runs_now)
        by_place false is =
            any-map (runs_at id place) (runs_at id place) (changed_at arguments.session arguments.slot new) table.sessions
            (elsewhere arguments.session arguments.slot new id place is)

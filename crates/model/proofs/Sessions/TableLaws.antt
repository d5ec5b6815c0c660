-- The tables of clients and sessions over every list of calls.
use Rattle.std.proofs.Common.{◌≡◌, ℕ, ◌+◌, ◌-◌, ◌^◌, ◌<◌, ◌≤◌, Bool, true, false, not, cond, ◌&&◌, ◌==◌, nat_lt, nat_le, List, [], ◌∷◌, ◌++◌, map, filter, length, Some, refl, sym, ap, ◌∙◌, subst, arith, find, leb-true, lt-ltb, le-leb, eqb-true, bytes_eq}
use Rattle.std.specs.List.{list_all, AllByRecursion}
use Rattle.std.specs.Cmp.Lexicographic.{bytes_decides}
use Rattle.std.proofs.lemmas.Bool.{and_parts, and_from, false≢true}
use Rattle.std.proofs.lemmas.List.{length-append, length-map}
use Rattle.std.proofs.lemmas.List.Elements.{filter-append}
use Rattle.model.specs.Operations.Operation.{ExchangeIdArguments}
use Rattle.model.specs.Operations.Answer.{CreateSessionAnswer}
use Rattle.model.specs.Sessions.Session.{SessionLimits, Client, Session, Table, client_number, new_client, is_confirmed_of, is_unconfirmed_of, is_client, is_replaced_by, confirmed_with}
use Rattle.model.specs.Sessions.SessionTables.{has_serial, has_few_slots}
use Rattle.model_tree.proofs.Facts.Counting.{size, size-le, size_changed, always, size-filter}

-- How many pass

pub keep_all : {A : Type 0} (xs : List A) → filter (λ _. true) xs ≡ xs
keep_all [] = refl
keep_all (x ∷ xs) = ap (λ l. x ∷ l) (keep_all xs)

size-map : {A : Type 0} (p t : A → Bool) (f : A → A) (xs : List A) → ((x : A) → p (f x) ≡ true → t x ≡ true) → size p (map f xs) ≤ size t xs
size-map {A = A} p t f xs each =
    subst (λ (l : List A). size p (map f l) ≤ size t xs) (keep_all xs)
    (size_changed p t (λ _. true) f xs (always _ (λ x kept. each x) xs))

size-append : {A : Type 0} (p : A → Bool) (xs : List A) (x : A) → size p (xs ++ x ∷ []) ≡ size p xs + size p (x ∷ [])
size-append p xs x = ap length (filter-append p xs (x ∷ [])) ∙ length-append (filter p xs) (filter p (x ∷ []))

size-none : {A : Type 0} (p q : A → Bool) (xs : List A) → ((x : A) → p x ≡ true → q x ≡ false) → list_all p xs ≡ true → size q xs ≡ 0
size-none p q [] apart all = refl
size-none p q (x ∷ xs) apart all =
    let parts = and_parts (p x) (list_all p xs) all in
    rw (apart x parts.0) (size-none p q xs apart parts.1)

pub size-without : {A : Type 0} (p : A → Bool) (xs : List A) → size p (filter (λ x. not (p x)) xs) ≡ 0
size-without p [] = refl
size-without p (x ∷ xs) = by_test (size-without p xs) (p x) refl
  where
    by_test : size p (filter (λ y. not (p y)) xs) ≡ 0 → (b : Bool) → p x ≡ b
        → size p (cond (not b) (x ∷ filter (λ y. not (p y)) xs) (filter (λ y. not (p y)) xs)) ≡ 0
    by_test later true is = later
    by_test later false is = rw is later

-- the one that passes

none_passes : {A : Type 0} (p : A → Bool) (xs : List A) → size p xs ≤ 0 → AllByRecursion (λ x. p x ≡ true → ⊥) xs
none_passes p [] none = tt
none_passes p (x ∷ xs) none = by_test (none_passes p xs) (p x) refl none
  where
    no : false ≡ true → ⊥
    no same = cc

    by_test : (size p xs ≤ 0 → AllByRecursion (λ y. p y ≡ true → ⊥) xs) → (b : Bool) → p x ≡ b
        → length (cond b (x ∷ filter p xs) (filter p xs)) ≤ 0 → AllByRecursion (λ y. p y ≡ true → ⊥) (x ∷ xs)
    by_test later true is none = absurd (omega arith)
    by_test later false is none = (λ same. no (sym is ∙ same), later none)

pub all_mono : {A : Type 0} (P Q : A → Type 0) (xs : List A) → ((x : A) → P x → Q x) → AllByRecursion P xs → AllByRecursion Q xs
all_mono P Q [] step h = tt
all_mono P Q (x ∷ xs) step h = (step x h.0, all_mono P Q xs step h.1)

only_found : {A : Type 0} (p : A → Bool) (xs : List A) (y : A) → size p xs ≤ 1 → find p xs ≡ Some y → AllByRecursion (λ x. p x ≡ true → x ≡ y) xs
only_found p [] y one found = tt
only_found {A = A} p (x ∷ xs) y one found = by_test (only_found p xs y) (p x) refl one found
  where
    no : false ≡ true → ⊥
    no same = cc

    by_test : (size p xs ≤ 1 → find p xs ≡ Some y → AllByRecursion (λ z. p z ≡ true → z ≡ y) xs) → (b : Bool) → p x ≡ b
        → length (cond b (x ∷ filter p xs) (filter p xs)) ≤ 1 → cond b (Some x) (find p xs) ≡ Some y
        → AllByRecursion (λ z. p z ≡ true → z ≡ y) (x ∷ xs)
    by_test later true is one found =
        let same : x ≡ y = cc in
        (λ _. same, all_mono (λ z. p z ≡ true → ⊥) (λ z. p z ≡ true → z ≡ y) xs (λ z never passes. absurd (never passes)) (none_passes p xs (omega arith)))
    by_test later false is one found = (λ same. absurd (no (sym is ∙ same)), later one found)

-- All pass

pub all-filter : {A : Type 0} (p q : A → Bool) (xs : List A) → list_all p xs ≡ true → list_all p (filter q xs) ≡ true
all-filter p q [] all = refl
all-filter p q (x ∷ xs) all =
    let parts = and_parts (p x) (list_all p xs) all in
    by_kept (q x) parts.0 (all-filter p q xs parts.1)
  where
    by_kept : (b : Bool) → p x ≡ true → list_all p (filter q xs) ≡ true → list_all p (cond b (x ∷ filter q xs) (filter q xs)) ≡ true
    by_kept true here later = and_from (p x) (list_all p (filter q xs)) here later
    by_kept false here later = later

pub all-append : {A : Type 0} (p : A → Bool) (xs : List A) (x : A) → list_all p xs ≡ true → p x ≡ true → list_all p (xs ++ x ∷ []) ≡ true
all-append p [] x all here = and_from (p x) true here refl
all-append p (y ∷ xs) x all here =
    let parts = and_parts (p y) (list_all p xs) all in
    and_from (p y) (list_all p (xs ++ x ∷ [])) parts.0 (all-append p xs x parts.1 here)

pub all-map : {A : Type 0} (p : A → Bool) (f : A → A) (xs : List A) → ((x : A) → p x ≡ true → p (f x) ≡ true) → list_all p xs ≡ true → list_all p (map f xs) ≡ true
all-map p f [] step all = refl
all-map p f (x ∷ xs) step all =
    let parts = and_parts (p x) (list_all p xs) all in
    and_from (p (f x)) (list_all p (map f xs)) (step x parts.0) (all-map p f xs step parts.1)

pub all-weaker : {A : Type 0} (p q : A → Bool) (xs : List A) → ((x : A) → p x ≡ true → q x ≡ true) → list_all p xs ≡ true → list_all q xs ≡ true
all-weaker p q [] step all = refl
all-weaker p q (x ∷ xs) step all =
    let parts = and_parts (p x) (list_all p xs) all in
    and_from (q x) (list_all q xs) (step x parts.0) (all-weaker p q xs step parts.1)

-- Clients

abbrev pub given_by : (run serial : ℕ) → Client → Bool
given_by run serial client = nat_lt (client_number run 0) client.number && nat_le client.number (client_number run serial)

pub record Clients (limits : SessionLimits) (run serial : ℕ) (clients : List Client) : Type 0 where
  pub confirmed : (owner : List ℕ) → size (is_confirmed_of owner) clients ≤ 1
  pub unconfirmed : (owner : List ℕ) → size (is_unconfirmed_of owner) clients ≤ 1
  pub differ : (number : ℕ) → size (is_client number) clients ≤ 1
  pub given : list_all (given_by run serial) clients ≡ true
  pub small : serial < 2 ^ 32
  pub few : length clients ≤ limits.clients

pub fewer_clients : (limits : SessionLimits) (run serial : ℕ) (clients : List Client) (q : Client → Bool) → Clients limits run serial clients
    → Clients limits run serial (filter q clients)
fewer_clients limits run serial clients q old = record {
  confirmed = λ owner. let before = old.confirmed owner in omega (arith, before, size-filter (is_confirmed_of owner) q clients);
  unconfirmed = λ owner. let before = old.unconfirmed owner in omega (arith, before, size-filter (is_unconfirmed_of owner) q clients);
  differ = λ number. let before = old.differ number in omega (arith, before, size-filter (is_client number) q clients);
  given = all-filter (given_by run serial) q clients old.given;
  small = old.small;
  few = let before = old.few in omega (arith, before, size-le q clients);
}

-- a new record, if its owner has no unconfirmed one

given_later : (run serial : ℕ) (client : Client) → given_by run serial client ≡ true → given_by run (serial + 1) client ≡ true
given_later run serial client is =
    let parts = and_parts (nat_lt (client_number run 0) client.number) (nat_le client.number (client_number run serial)) is in
    and_from (nat_lt (client_number run 0) client.number) (nat_le client.number (client_number run (serial + 1))) parts.0
    (le-leb client.number (client_number run (serial + 1)) (omega (arith, leb-true client.number (client_number run serial) parts.1)))

not_next : (run serial number : ℕ) (client : Client) → client_number run (serial + 1) ≡ number → given_by run serial client ≡ true → is_client number client ≡ false
not_next run serial number client next is =
    let parts = and_parts (nat_lt (client_number run 0) client.number) (nat_le client.number (client_number run serial)) is in
    by_test (client.number == number) refl (leb-true client.number (client_number run serial) parts.1)
  where
    by_test : (b : Bool) → (client.number == number) ≡ b → client.number ≤ client_number run serial → b ≡ false
    by_test true same le = absurd (omega (arith, le, next, eqb-true client.number number same))
    by_test false same le = refl

pub further_client : (limits : SessionLimits) (uid : ℕ) (arguments : ExchangeIdArguments) (table : Table)
    → Clients limits table.run table.client_serial table.clients → size (is_unconfirmed_of arguments.owner) table.clients ≡ 0
    → length table.clients < limits.clients → table.client_serial < 2 ^ 32 - 1
    → Clients limits table.run (table.client_serial + 1) (table.clients ++ new_client uid arguments table ∷ [])
further_client limits uid arguments table old none room left =
    let run = table.run in
    let serial = table.client_serial in
    let clients = table.clients in
    let new = new_client uid arguments table in
    record {
      confirmed = λ owner. let before = old.confirmed owner in omega (arith, before, size-append (is_confirmed_of owner) clients new);
      unconfirmed = λ owner. by_owner owner (bytes_eq arguments.owner owner) refl;
      differ = λ number. by_number number (new.number == number) refl;
      given = all-append (given_by run (serial + 1)) clients new
          (all-weaker (given_by run serial) (given_by run (serial + 1)) clients (given_later run serial) old.given)
          (and_from (nat_lt (client_number run 0) new.number) (nat_le new.number (client_number run (serial + 1)))
          (lt-ltb (client_number run 0) new.number (omega arith)) (le-leb new.number (client_number run (serial + 1)) (omega arith)));
      small = omega arith;
      few = omega (arith, length-append clients (new ∷ []));
    }
  where
    by_owner : (owner : List ℕ) (b : Bool) → bytes_eq arguments.owner owner ≡ b
        → size (is_unconfirmed_of owner) (table.clients ++ new_client uid arguments table ∷ []) ≤ 1
    by_owner owner true same =
        let owner_is : arguments.owner ≡ owner = (bytes_decides arguments.owner owner).0 same in
        let before : size (is_unconfirmed_of owner) table.clients ≡ 0 = subst (λ (o : List ℕ). size (is_unconfirmed_of o) table.clients ≡ 0) owner_is none in
        let last : size (is_unconfirmed_of owner) (new_client uid arguments table ∷ []) ≤ 1 = size-le (is_unconfirmed_of owner) (new_client uid arguments table ∷ []) in
        omega (arith, before, last, size-append (is_unconfirmed_of owner) table.clients (new_client uid arguments table))
    by_owner owner false other =
        let before = old.unconfirmed owner in
        let last : size (is_unconfirmed_of owner) (new_client uid arguments table ∷ []) ≡ 0 = rw other refl in
        omega (arith, before, last, size-append (is_unconfirmed_of owner) table.clients (new_client uid arguments table))

    by_number : (number : ℕ) (b : Bool) → (client_number table.run (table.client_serial + 1) == number) ≡ b
        → size (is_client number) (table.clients ++ new_client uid arguments table ∷ []) ≤ 1
    by_number number true same =
        let next = eqb-true (client_number table.run (table.client_serial + 1)) number same in
        let before : size (is_client number) table.clients ≡ 0 =
        size-none (given_by table.run table.client_serial) (is_client number) table.clients (λ c. not_next table.run table.client_serial number c next) old.given in
        let last = size-le (is_client number) (new_client uid arguments table ∷ []) in
        omega (arith, before, last, size-append (is_client number) table.clients (new_client uid arguments table))
    by_number number false other =
        let before = old.differ number in
        let last : size (is_client number) (new_client uid arguments table ∷ []) ≡ 0 = rw other refl in
        omega (arith, before, last, size-append (is_client number) table.clients (new_client uid arguments table))

-- a record that is confirmed, in place of the other one of its owner

module _ (client : Client) (answer : CreateSessionAnswer) where
  abbrev pub confirms : Client → Client
  confirms x = cond (is_client client.number x) (confirmed_with answer x) x

  abbrev pub stays : Client → Bool
  stays x = not (is_replaced_by client x)

  own_one : (owner : List ℕ) → client.owner ≡ owner → (x : Client) (b : Bool) → is_client client.number x ≡ b → stays x ≡ true
      → is_confirmed_of owner (cond b (confirmed_with answer x) x) ≡ true → b ≡ true
  own_one owner owner_is x true named kept confirmed = refl
  own_one owner owner_is x false named kept confirmed =
      let own : is_confirmed_of client.owner x ≡ true = ap (λ (o : List ℕ). is_confirmed_of o x) owner_is ∙ confirmed in
      let gone : stays x ≡ false = rw (own, named) refl in
      sym gone ∙ kept

  other_one : (owner : List ℕ) → bytes_eq client.owner owner ≡ false → (x : Client) (b : Bool) → is_client client.number x ≡ b
      → (is_client client.number x ≡ true → x ≡ client) → is_confirmed_of owner (cond b (confirmed_with answer x) x) ≡ true
      → is_confirmed_of owner x ≡ true
  other_one owner other x true named same confirmed =
      let is = ap (λ (c : Client). bytes_eq c.owner owner) (same named) in
      absurd (false≢true (sym other ∙ (sym is ∙ confirmed)))
  other_one owner other x false named same confirmed = confirmed

  unconfirmed_before : (owner : List ℕ) (x : Client) (b : Bool) → is_unconfirmed_of owner (cond b (confirmed_with answer x) x) ≡ true
      → is_unconfirmed_of owner x ≡ true
  unconfirmed_before owner x true is = absurd (false≢true is)
  unconfirmed_before owner x false is = is

  same_number : (p : ℕ → Bool) (x : Client) (b : Bool) → p (cond b (confirmed_with answer x) x).number ≡ p x.number
  same_number p x true = refl
  same_number p x false = refl

  pub confirmed_clients : (limits : SessionLimits) (run serial : ℕ) (clients : List Client) → Clients limits run serial clients
      → find (is_client client.number) clients ≡ Some client
      → Clients limits run serial (map confirms (filter stays clients))
  confirmed_clients limits run serial clients old found = record {
    confirmed = λ owner. by_owner owner (bytes_eq client.owner owner) refl;
    unconfirmed = λ owner.
        let before = old.unconfirmed owner in
        omega (
          arith,
          before,
          size_changed (is_unconfirmed_of owner) (is_unconfirmed_of owner) stays confirms clients
              (always _ (λ x kept. unconfirmed_before owner x (is_client client.number x)) clients),
        );
    differ = λ number.
        let before = old.differ number in
        omega (
          arith,
          before,
          size_changed (is_client number) (is_client number) stays confirms clients
              (always _ (λ x kept is. sym (same_number (λ n. n == number) x (is_client client.number x)) ∙ is) clients),
        );
    given = all-map (given_by run serial) confirms (filter stays clients)
        (λ x is. same_number (λ n. nat_lt (client_number run 0) n && nat_le n (client_number run serial)) x (is_client client.number x) ∙ is)
        (all-filter (given_by run serial) stays clients old.given);
    small = old.small;
    few = let before = old.few in omega (arith, before, length-map (filter stays clients) confirms, size-le stays clients);
  }
    where
      by_owner : (owner : List ℕ) (b : Bool) → bytes_eq client.owner owner ≡ b
          → size (is_confirmed_of owner) (map confirms (filter stays clients)) ≤ 1
      by_owner owner true same =
          let before = old.differ client.number in
          omega (
            arith,
            before,
            size_changed (is_confirmed_of owner) (is_client client.number) stays confirms clients
                (always _ (λ x. own_one owner ((bytes_decides client.owner owner).0 same) x (is_client client.number x) refl) clients),
          )
      by_owner owner false other =
          let before = old.confirmed owner in
          omega (
            arith,
            before,
            size_changed (is_confirmed_of owner) (is_confirmed_of owner) stays confirms clients
                (all_mono _ _ clients (λ x only kept. other_one owner other x (is_client client.number x) refl only)
                (only_found (is_client client.number) clients client (old.differ client.number) found)),
          )

-- a record that is changed in what no test looks at

module _ (f : Client → Client) (numbers : (x : Client) → (f x).number ≡ x.number) (owners : (x : Client) → (f x).owner ≡ x.owner)
    (marks : (x : Client) → (f x).is_confirmed ≡ x.is_confirmed) where
  pub changed_clients : (limits : SessionLimits) (run serial : ℕ) (clients : List Client) → Clients limits run serial clients
      → Clients limits run serial (map f clients)
  changed_clients limits run serial clients old = record {
    confirmed = λ owner.
        let before = old.confirmed owner in
        omega (
          arith,
          before,
          size-map (is_confirmed_of owner) (is_confirmed_of owner) f clients
              (λ x is. sym (rw (marks x, owners x) refl) ∙ is),
        );
    unconfirmed = λ owner.
        let before = old.unconfirmed owner in
        omega (
          arith,
          before,
          size-map (is_unconfirmed_of owner) (is_unconfirmed_of owner) f clients
              (λ x is. sym (rw (marks x, owners x) refl) ∙ is),
        );
    differ = λ number.
        let before = old.differ number in
        omega (arith, before, size-map (is_client number) (is_client number) f clients (λ x is. ap (λ n. n == number) (sym (numbers x)) ∙ is));
    given = all-map (given_by run serial) f clients
        (λ x is. ap (λ n. nat_lt (client_number run 0) n && nat_le n (client_number run serial)) (numbers x) ∙ is) old.given;
    small = old.small;
    few = let before = old.few in omega (arith, before, length-map clients f);
  }

-- Sessions

abbrev pub given_serial : (serial : ℕ) → Session → Bool
given_serial serial session = nat_lt 0 session.serial && nat_le session.serial serial

pub record Sessions (limits : SessionLimits) (serial : ℕ) (sessions : List Session) : Type 0 where
  pub serials : (number : ℕ) → size (has_serial number) sessions ≤ 1
  pub given : list_all (given_serial serial) sessions ≡ true
  pub small : serial < 2 ^ 64
  pub few : length sessions ≤ limits.sessions
  pub slots : list_all (has_few_slots limits) sessions ≡ true

pub fewer_sessions : (limits : SessionLimits) (serial : ℕ) (sessions : List Session) (q : Session → Bool) → Sessions limits serial sessions
    → Sessions limits serial (filter q sessions)
fewer_sessions limits serial sessions q old = record {
  serials = λ number. let before = old.serials number in omega (arith, before, size-filter (has_serial number) q sessions);
  given = all-filter (given_serial serial) q sessions old.given;
  small = old.small;
  few = let before = old.few in omega (arith, before, size-le q sessions);
  slots = all-filter (has_few_slots limits) q sessions old.slots;
}

later_serial : (serial : ℕ) (session : Session) → given_serial serial session ≡ true → given_serial (serial + 1) session ≡ true
later_serial serial session is =
    let parts = and_parts (nat_lt 0 session.serial) (nat_le session.serial serial) is in
    and_from (nat_lt 0 session.serial) (nat_le session.serial (serial + 1)) parts.0
    (le-leb session.serial (serial + 1) (omega (arith, leb-true session.serial serial parts.1)))

not_next_serial : (serial number : ℕ) (session : Session) → serial + 1 ≡ number → given_serial serial session ≡ true → has_serial number session ≡ false
not_next_serial serial number session next is =
    let parts = and_parts (nat_lt 0 session.serial) (nat_le session.serial serial) is in
    by_test (session.serial == number) refl (leb-true session.serial serial parts.1)
  where
    by_test : (b : Bool) → (session.serial == number) ≡ b → session.serial ≤ serial → b ≡ false
    by_test true same le = absurd (omega (arith, le, next, eqb-true session.serial number same))
    by_test false same le = refl

pub further_session : (limits : SessionLimits) (serial : ℕ) (sessions : List Session) (new : Session) → Sessions limits serial sessions
    → new.serial ≡ serial + 1 → length new.slots ≤ limits.slots → length sessions < limits.sessions → serial < 2 ^ 64 - 1
    → Sessions limits (serial + 1) (sessions ++ new ∷ [])
further_session limits serial sessions new old next slots room left = record {
  serials = λ number. by_number number (new.serial == number) refl;
  given = all-append (given_serial (serial + 1)) sessions new
      (all-weaker (given_serial serial) (given_serial (serial + 1)) sessions (later_serial serial) old.given)
      (and_from (nat_lt 0 new.serial) (nat_le new.serial (serial + 1))
      (lt-ltb 0 new.serial (omega (arith, next))) (le-leb new.serial (serial + 1) (omega (arith, next))));
  small = omega arith;
  few = omega (arith, length-append sessions (new ∷ []));
  slots = all-append (has_few_slots limits) sessions new old.slots (le-leb (length new.slots) limits.slots slots);
}
  where
    by_number : (number : ℕ) (b : Bool) → (new.serial == number) ≡ b → size (has_serial number) (sessions ++ new ∷ []) ≤ 1
    by_number number true same =
        let is = eqb-true new.serial number same in
        let before : size (has_serial number) sessions ≡ 0 =
        size-none (given_serial serial) (has_serial number) sessions (λ s. not_next_serial serial number s (sym next ∙ is)) old.given in
        let last = size-le (has_serial number) (new ∷ []) in
        omega (arith, before, last, size-append (has_serial number) sessions new)
    by_number number false other =
        let before = old.serials number in
        let last : size (has_serial number) (new ∷ []) ≡ 0 = rw other refl in
        omega (arith, before, last, size-append (has_serial number) sessions new)

module _ (f : Session → Session) (serials : (x : Session) → (f x).serial ≡ x.serial) (slots : (x : Session) → length (f x).slots ≡ length x.slots) where
  pub changed_sessions : (limits : SessionLimits) (serial : ℕ) (sessions : List Session) → Sessions limits serial sessions
      → Sessions limits serial (map f sessions)
  changed_sessions limits serial sessions old = record {
    serials = λ number.
        let before = old.serials number in
        omega (arith, before, size-map (has_serial number) (has_serial number) f sessions (λ x is. ap (λ n. n == number) (sym (serials x)) ∙ is));
    given = all-map (given_serial serial) f sessions (λ x is. ap (λ n. nat_lt 0 n && nat_le n serial) (serials x) ∙ is) old.given;
    small = old.small;
    few = let before = old.few in omega (arith, before, length-map sessions f);
    slots = all-map (has_few_slots limits) f sessions (λ x is. ap (λ n. nat_le n limits.slots) (slots x) ∙ is) old.slots;
  }

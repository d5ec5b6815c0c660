-- EXCHANGE_ID by its cases.
use Rattle.std.proofs.Common.{◌≡◌, ℕ, ◌+◌, Bool, true, false, cond, not, ◌&&◌, ◌==◌, nat_le, List, [], ◌∷◌, filter, length, refl, Option, None, Some, Result, Ok, Err, sym, ap, ◌∙◌, find, bytes_eq, if◌then◌else◌}
use Rattle.std.proofs.lemmas.List.Elements.{filter_agree}
use Rattle.model_tree.specs.declared.status.Status.{Status}
use Rattle.model_tree.specs.declared.status.Status.TheVariants as status
use Rattle.model.specs.Operations.Operation.{ExchangeIdArguments}
use Rattle.model.specs.Operations.Answer.{ExchangeIdAnswer}
use Rattle.model.specs.Sessions.Session.{Client, Table, SessionLimits, exchange_id, exchange_by, new_record, exchange_answer, exchange_flags, has_only, is_confirmed_of, is_unconfirmed, is_unconfirmed_of, is_unconfirmed_client, without_this, yielding, is_client, is_full_of_clients, without_unconfirmed, without_client, with_clients, with_new_client, has_state, client_number, use_non_pnfs, confirmed_flag}
use Rattle.model_tree.proofs.Facts.BooleanLaws.{and_true, and_false}
use Rattle.std.specs.Option.{option_map}
use Rattle.session.specs.Rooms.{is_dropped, stays, records_staying, may_yield, yielded_for, is_full_beside}
use Rattle.session.specs.Views.{cleared_of}
use Rattle.session.proofs.Lists.{filter_twice}

-- A new record

none_more : (u : Bool) → not u ≡ (not u && true && true)
none_more true = refl
none_more false = refl

one_more : (u d : Bool) → (u && d) ≡ (u && d && true)
one_more true true = refl
one_more true false = refl
one_more false d = refl

first_records : (owner : List ℕ) (dropped : Option ℕ) (table : Table) → (without_unconfirmed owner (cleared_of dropped table)).clients ≡ records_staying owner dropped None table.clients
first_records owner None table =
    filter_agree (λ client. not (is_unconfirmed_of owner client)) (stays owner None None) (λ client. none_more (is_unconfirmed_of owner client)) table.clients
first_records owner (Some number) table =
    filter_twice (λ client. not (is_unconfirmed_of owner client)) (λ client. not (is_client number client)) table.clients
    ∙ filter_agree (λ client. not (is_unconfirmed_of owner client) && not (is_client number client)) (stays owner (Some number) None)
    (λ client. one_more (not (is_unconfirmed_of owner client)) (not (is_client number client))) table.clients

first_is : (owner : List ℕ) (dropped : Option ℕ) (table : Table) → without_unconfirmed owner (cleared_of dropped table) ≡ with_clients (records_staying owner dropped None table.clients) table
first_is owner None table = ap (λ (clients : List Client). with_clients clients table) (first_records owner None table)
first_is owner (Some number) table = ap (λ (clients : List Client). with_clients clients table) (first_records owner (Some number) table)

-- The record that is yielded

find_left_cons : {A : Type 0} (p : A → Bool) (b : Bool) (x : A) (ys : List A) (rest : Option A) → find p ys ≡ rest → find p (cond b (x ∷ ys) ys) ≡ cond (p x && b) (Some x) rest
find_left_cons p true x ys rest e =
    ap (λ r. cond (p x) (Some x) r) e ∙ ap (λ c. cond c (Some x) rest) (sym (and_true (p x)))
find_left_cons p false x ys rest e = e ∙ ap (λ c. cond c (Some x) rest) (sym (and_false (p x)))

find_left : {A : Type 0} (p q : A → Bool) (xs : List A) → find p (filter q xs) ≡ find (λ x. p x && q x) xs
find_left p q [] = refl
find_left p q (x ∷ xs) = find_left_cons p (q x) x (filter q xs) (find (λ y. p y && q y) xs) (find_left p q xs)

reorder : (u s d : Bool) → (not u && (s && d && true)) ≡ (s && d && not u)
reorder true true true = refl
reorder true true false = refl
reorder true false d = refl
reorder false true true = refl
reorder false true false = refl
reorder false false d = refl

module _ (limits : SessionLimits) where
  module _ (owner : List ℕ) (dropped : Option ℕ) (table : Table) where
    abbrev first : List Client
    first = records_staying owner dropped None table.clients

    abbrev with_staying : Option ℕ → Table
    with_staying yielded = with_clients (records_staying owner dropped yielded table.clients) table

    without_it : (number : ℕ) → filter (λ client. not (is_unconfirmed_client number client)) first ≡ records_staying owner dropped (Some number) table.clients
    without_it number =
        filter_twice (λ client. not (is_unconfirmed_client number client)) (stays owner dropped None) table.clients
        ∙ filter_agree (λ client. not (is_unconfirmed_client number client) && stays owner dropped None client) (stays owner dropped (Some number))
        (λ client. reorder (is_unconfirmed_client number client) (not (is_unconfirmed_of owner client)) (not (is_dropped dropped client))) table.clients

    by_known : (known : Option Client) → without_this known (with_clients first table) ≡ with_staying (option_map (λ (client : Client). client.number) known)
    by_known None = refl
    by_known (Some client) = ap (λ (clients : List Client). with_clients clients table) (without_it client.number)

    by_test : (b : Bool) → cond b (without_this (find is_unconfirmed first) (with_clients first table)) (with_clients first table)
        ≡ with_staying (cond b (option_map (λ (client : Client). client.number) (find (may_yield owner dropped) table.clients)) None)
    by_test false = refl
    by_test true =
        by_known (find is_unconfirmed first)
        ∙ ap (λ (known : Option Client). with_staying (option_map (λ (client : Client). client.number) known)) (find_left is_unconfirmed (stays owner dropped None) table.clients)

    room_is : yielding limits (without_unconfirmed owner (cleared_of dropped table)) ≡ with_staying (yielded_for limits.clients owner dropped table)
    room_is = ap (yielding limits) (first_is owner dropped table) ∙ by_test (table.settings.yields_when_full && nat_le limits.clients (length first))

  -- a new record in this room
  abbrev in_room : ℕ → ExchangeIdArguments → Table → Table → Result ExchangeIdAnswer Status × Table
  in_room uid arguments table room =
      if is_full_of_clients limits room then (Err status.Delay, table)
      else (Ok (exchange_answer table.settings.name (client_number room.run (room.client_serial + 1)) 1 use_non_pnfs), with_new_client uid arguments room)

  module _ (uid : ℕ) (arguments : ExchangeIdArguments) (dropped yielded : Option ℕ) (table : Table) (is : yielded ≡ yielded_for limits.clients arguments.owner dropped table) where
    abbrev its_room : Table
    its_room = with_clients (records_staying arguments.owner dropped yielded table.clients) table

    in_its_room : new_record limits uid arguments table (cleared_of dropped table) ≡ in_room uid arguments table its_room
    in_its_room = ap (in_room uid arguments table)
        (room_is arguments.owner dropped table ∙ ap (λ (y : Option ℕ). with_clients (records_staying arguments.owner dropped y table.clients) table) (sym is))

    abbrev by_room : Bool → Result ExchangeIdAnswer Status × Table
    by_room full =
        cond full (Err status.Delay, table)
        (Ok (exchange_answer table.settings.name (client_number table.run (table.client_serial + 1)) 1 use_non_pnfs), with_new_client uid arguments its_room)

    pub new_full : is_full_beside limits.clients (records_staying arguments.owner dropped yielded table.clients) table.client_serial ≡ true
        → new_record limits uid arguments table (cleared_of dropped table) ≡ (Err status.Delay, table)
    new_full full = in_its_room ∙ ap by_room full

    pub new_made : is_full_beside limits.clients (records_staying arguments.owner dropped yielded table.clients) table.client_serial ≡ false
        → new_record limits uid arguments table (cleared_of dropped table)
        ≡ (
          Ok (exchange_answer table.settings.name (client_number table.run (table.client_serial + 1)) 1 use_non_pnfs),
          with_new_client uid arguments (with_clients (records_staying arguments.owner dropped yielded table.clients) table),
        )
    new_made left = in_its_room ∙ ap by_room left

  -- The cases of EXCHANGE_ID

  pub exchange_inval : (has_opens : ℕ → Bool) (uid : ℕ) (arguments : ExchangeIdArguments) (table : Table) → has_only exchange_flags arguments.flags ≡ false → exchange_id limits has_opens uid arguments table ≡ (Err status.Inval, table)
  unfolding exchange_id
  exchange_inval has_opens uid arguments table e =
      ap (λ b. cond b (exchange_by limits has_opens uid arguments table (find (is_confirmed_of arguments.owner) table.clients)) (Err status.Inval, table)) e

  exchange_known : (has_opens : ℕ → Bool) (uid : ℕ) (arguments : ExchangeIdArguments) (table : Table) (known : Option Client) → has_only exchange_flags arguments.flags ≡ true → find (is_confirmed_of arguments.owner) table.clients ≡ known
      → exchange_id limits has_opens uid arguments table ≡ exchange_by limits has_opens uid arguments table known
  unfolding exchange_id
  exchange_known has_opens uid arguments table known e found =
      ap (λ b. cond b (exchange_by limits has_opens uid arguments table (find (is_confirmed_of arguments.owner) table.clients)) (Err status.Inval, table)) e
      ∙ ap (exchange_by limits has_opens uid arguments table) found

  pub exchange_unknown : (has_opens : ℕ → Bool) (uid : ℕ) (arguments : ExchangeIdArguments) (table : Table) → has_only exchange_flags arguments.flags ≡ true → find (is_confirmed_of arguments.owner) table.clients ≡ None
      → exchange_id limits has_opens uid arguments table ≡ new_record limits uid arguments table table
  exchange_unknown has_opens uid arguments table e found = exchange_known has_opens uid arguments table None e found

  -- of another principal
  abbrev by_other : (ℕ → Bool) → ℕ → ExchangeIdArguments → Table → Client → Bool → Result ExchangeIdAnswer Status × Table
  by_other has_opens uid arguments table client busy =
      if busy then (Err status.ClidInUse, table) else new_record limits uid arguments table (without_client client.number table)

  -- of the same principal
  abbrev by_same : ℕ → ExchangeIdArguments → Table → Client → Bool → Result ExchangeIdAnswer Status × Table
  by_same uid arguments table client same =
      if same then (Ok (exchange_answer table.settings.name client.number client.sequence (confirmed_flag + use_non_pnfs)), without_unconfirmed arguments.owner table)
      else new_record limits uid arguments table table

  pub exchange_other : (has_opens : ℕ → Bool) (uid : ℕ) (arguments : ExchangeIdArguments) (table : Table) (client : Client) (busy : Bool) → has_only exchange_flags arguments.flags ≡ true → find (is_confirmed_of arguments.owner) table.clients ≡ Some client
      → (client.principal == uid) ≡ false → has_state has_opens table client.number ≡ busy
      → exchange_id limits has_opens uid arguments table ≡ (if busy then (Err status.ClidInUse, table) else new_record limits uid arguments table (without_client client.number table))
  exchange_other has_opens uid arguments table client busy e found other state =
      exchange_known has_opens uid arguments table (Some client) e found
      ∙ ap (λ b. cond b (by_same uid arguments table client (bytes_eq client.verifier arguments.verifier)) (by_other has_opens uid arguments table client (has_state has_opens table client.number))) other
      ∙ ap (by_other has_opens uid arguments table client) state

  pub exchange_same : (has_opens : ℕ → Bool) (uid : ℕ) (arguments : ExchangeIdArguments) (table : Table) (client : Client) (same : Bool) → has_only exchange_flags arguments.flags ≡ true → find (is_confirmed_of arguments.owner) table.clients ≡ Some client
      → (client.principal == uid) ≡ true → bytes_eq client.verifier arguments.verifier ≡ same
      → exchange_id limits has_opens uid arguments table
      ≡ (if same then (Ok (exchange_answer table.settings.name client.number client.sequence (confirmed_flag + use_non_pnfs)), without_unconfirmed arguments.owner table) else new_record limits uid arguments table table)
  exchange_same has_opens uid arguments table client same e found principal verifier =
      exchange_known has_opens uid arguments table (Some client) e found
      ∙ ap (λ b. cond b (by_same uid arguments table client (bytes_eq client.verifier arguments.verifier)) (by_other has_opens uid arguments table client (has_state has_opens table client.number))) principal
      ∙ ap (by_same uid arguments table client) verifier

-- What a new record or session finds if others give way to it.
use Rattle.std.specs.Prelude.{◌==◌, ◌≡◌, ◌<◌, ◌≤◌, ℕ, ◌+◌, ◌*◌, ◌-◌, ◌^◌, Bool, true, false, not, ◌&&◌, ◌||◌, if◌then◌else◌, nat_le, List, [], ◌∷◌, ◌++◌, length, map, filter, Option, None, Some, Result, Ok, Err}
use Rattle.model_tree.specs.declared.status.Status.TheVariants as status
use Rattle.model.specs.Operations.Operation.{ExchangeIdArguments, CreateSessionArguments}
use Rattle.model_tree.specs.Refusals.Refusal.{Refusals}
use Rattle.std.specs.List.{list_any, find}
use Rattle.std.specs.Option.{option_map}
use Rattle.model.specs.Sessions.Session as model
use Rattle.model.specs.Sessions.Session.{SessionLimits, is_client, is_unconfirmed, is_unconfirmed_of, is_unconfirmed_client, is_replaced_by, is_of_clients, client_number, is_running, is_too_small, has_only, session_flags, replaced_by, is_full_of_sessions}
use Rattle.session.specs.Views.{clients_of, roll_of}
use Rattle.session.specs.declared.client.Client.{Client}
use Rattle.session.specs.declared.clients.Clients.{Clients}
use Rattle.model.specs.declared.not_done.NotDone.{NotDone}
use Rattle.model.specs.declared.not_done.NotDone.TheVariants as refusal

abbrev pub is_dropped : Option ℕ → model.Client → Bool
is_dropped None client = false
is_dropped (Some number) client = is_client number client

abbrev pub is_yielded : Option ℕ → model.Client → Bool
is_yielded None client = false
is_yielded (Some number) client = is_unconfirmed_client number client

-- the record stays if a new one of the owner id is made, and the confirmed record `dropped` and the
-- unconfirmed one `yielded` go
abbrev pub stays : List ℕ → (dropped yielded : Option ℕ) → model.Client → Bool
stays owner dropped yielded client =
    not (is_unconfirmed_of owner client) && not (is_dropped dropped client)
    && not (is_yielded yielded client)

abbrev pub records_staying : List ℕ → (dropped yielded : Option ℕ) → List model.Client
    → List model.Client
records_staying owner dropped yielded clients = filter (stays owner dropped yielded) clients

-- an unconfirmed record that would stay if none were yielded
abbrev pub may_yield : List ℕ → (dropped : Option ℕ) → model.Client → Bool
may_yield owner dropped client = is_unconfirmed client && stays owner dropped None client

-- whose record is yielded to a new one of this owner id, if there are at most `most`
abbrev pub yielded_for : (most : ℕ) → List ℕ → (dropped : Option ℕ) → model.Table → Option ℕ
yielded_for most owner dropped table =
    if table.settings.yields_when_full
    && nat_le most (length (records_staying owner dropped None table.clients))
    then option_map (λ client. client.number) (find (may_yield owner dropped) table.clients)
    else None

-- no place or no serial is left
abbrev pub is_full_beside : (most : ℕ) → List model.Client → ℕ → Bool
is_full_beside most staying serial =
    nat_le most (length staying) || nat_le (2 ^ 32 - 1) serial

abbrev pub record_of : ℕ → ExchangeIdArguments → ℕ → model.Client
record_of uid arguments number = record {
  number = number;
  owner = arguments.owner;
  verifier = arguments.verifier;
  principal = uid;
  is_confirmed = false;
  has_reclaimed = false;
  sequence = 1;
  kept = None;
}

-- a new record: its number, or why there is none, and the records after it
abbrev pub Adds : (most uid : ℕ) → ExchangeIdArguments → (dropped yielded : Option ℕ) → Clients
    → Clients → Result ℕ NotDone → Type 0
Adds most uid arguments dropped yielded old new (Ok number) =
    (is_full_beside most (records_staying arguments.owner dropped yielded (clients_of old)) old.serial ≡ false)
    × (number ≡ client_number old.run (old.serial + 1))
    × (roll_of new ≡ (
      old.run,
      old.serial + 1,
      records_staying arguments.owner dropped yielded (clients_of old) ++ record_of uid arguments number
          ∷ [],
    ))
Adds most uid arguments dropped yielded old new (Err (refusal.Status reason)) =
    (is_full_beside most (records_staying arguments.owner dropped yielded (clients_of old)) old.serial ≡ true)
    × (reason ≡ status.Delay) × (roll_of new ≡ roll_of old)
Adds most uid arguments dropped yielded old new (Err refusal.Memory) =
    (is_full_beside most (records_staying arguments.owner dropped yielded (clients_of old)) old.serial ≡ false)
    × (roll_of new ≡ roll_of old)

-- the client's number is one that this run gave
abbrev pub IsOfRun : Clients → Client → Type 0
IsOfRun clients client =
    (clients.run * 2 ^ 32 < client.number) × (client.number ≤ clients.run * 2 ^ 32 + clients.serial)

-- the numbers of the clients that a session of `client` ends
abbrev pub ended_by : model.Client → List model.Client → List ℕ
ended_by client clients = map (λ other. other.number) (filter (is_replaced_by client) clients)

abbrev pub reclaimed : model.Client → model.Client
reclaimed known = record known { has_reclaimed = true }

-- why CREATE_SESSION fails if the record's next number is `next`: by its arguments, and then for
-- lack of room
abbrev pub argument_refusals : SessionLimits → ℕ → CreateSessionArguments → Refusals
argument_refusals limits next arguments =
    (not (arguments.sequence == next), status.SeqMisordered)
    ∷ (not (has_only session_flags arguments.flags), status.Inval)
    ∷ (is_too_small limits arguments.fore, status.TooSmall)
    ∷ []

-- a session that gives way to one of `client` runs a request
abbrev pub ends_running : model.Client → model.Table → Bool
ends_running client table =
    list_any (λ session. is_of_clients (replaced_by client table) session && is_running session)
    table.sessions

abbrev pub room_refusals : SessionLimits → model.Client → model.Table → Refusals
room_refusals limits client table =
    (ends_running client table, status.Delay)
    ∷ (is_full_of_sessions limits client table, status.Delay)
    ∷ []

-- Exactly once, over every list of calls in one run of the server: RFC 8881, section 2.10.6.1.
use Rattle.std.specs.Prelude.{◌≡◌, ◌≢◌, ℕ, ◌^◌, ◌<◌, Bool, List, [], ◌∷◌, slice_get, option_to_list, Option, None, Some, ◌++◌, ◌&&◌, ◌==◌, if◌then◌else◌, bytes_eq}
use Rattle.model.specs.Operations.Operation.{ExchangeIdArguments, CreateSessionArguments, SequenceArguments}
use Rattle.model.specs.Sessions.Session.{SessionLimits, Table, empty_table, exchange_id, create_session, destroy_session, destroy_client_id, reclaim_complete, begin, Begun, Refuses, Replays, Runs, started, finish, next_number}

-- A call, with what it is given: the caller's uid, which clients have opens, a COMPOUND's number of
-- operations. `Begins` is SEQUENCE, and `Finishes` is the reply of a request that ran.
pub data Call : Type 0 where
  Exchanges : (has_opens : ℕ → Bool) → (uid : ℕ) → ExchangeIdArguments → Call
  Creates : (uid : ℕ) → CreateSessionArguments → Call
  Destroys : (session : List ℕ) → Call
  DestroysClient : (has_opens : ℕ → Bool) → (number : ℕ) → Call
  Reclaims : (number : ℕ) → Call
  Begins : (uid : ℕ) → (count : ℕ) → SequenceArguments → Call
  Finishes : (session : List ℕ) → (slot : ℕ) → (holds : Bool) → (reply : List ℕ) → Call

abbrev pub started_by : ℕ → SequenceArguments → Table → Begun → Table
started_by uid arguments table (Refuses reason) = table
started_by uid arguments table (Replays reply) = table
started_by uid arguments table Runs = started uid arguments table

-- the table that a call leaves
abbrev pub after : SessionLimits → Call → Table → Table
after limits (Exchanges has_opens uid arguments) table =
    (exchange_id limits has_opens uid arguments table).1
after limits (Creates uid arguments) table = (create_session limits uid arguments table).table
after limits (Destroys session) table = (destroy_session session table).1
after limits (DestroysClient has_opens number) table = (destroy_client_id has_opens number table).1
after limits (Reclaims number) table = (reclaim_complete number table).1
after limits (Begins uid count arguments) table =
    started_by uid arguments table (begin uid count arguments table)
after limits (Finishes session slot holds reply) table = finish session slot holds reply table

-- the number that runs on this slot of the session of this id
abbrev pub number_on : List ℕ → ℕ → SequenceArguments → Begun → Option ℕ
number_on id slot arguments (Refuses reason) = None
number_on id slot arguments (Replays reply) = None
number_on id slot arguments Runs =
    if bytes_eq arguments.session id && arguments.slot == slot
    then Some arguments.sequence
    else None

abbrev pub runs_on : List ℕ → ℕ → Call → Table → Option ℕ
runs_on id slot (Exchanges has_opens uid arguments) table = None
runs_on id slot (Creates uid arguments) table = None
runs_on id slot (Destroys session) table = None
runs_on id slot (DestroysClient has_opens number) table = None
runs_on id slot (Reclaims number) table = None
runs_on id slot (Begins uid count arguments) table =
    number_on id slot arguments (begin uid count arguments table)
runs_on id slot (Finishes session place holds reply) table = None

-- the numbers that run there, in their order, when these calls are made
abbrev pub numbers_on : SessionLimits → List ℕ → ℕ → List Call → Table → List ℕ
numbers_on limits id slot [] table = []
numbers_on limits id slot (call ∷ calls) table =
    option_to_list (runs_on id slot call table)
    ++ numbers_on limits id slot calls (after limits call table)

-- each number is the one that follows the one before it
abbrev pub CountsFrom : ℕ → List ℕ → Type 0
CountsFrom last [] = Unit {0}
CountsFrom last (number ∷ numbers) = (number ≡ next_number last) × CountsFrom number numbers

-- between two times that a number runs, each other number does
abbrev pub OthersBetween : List ℕ → Type 0
OthersBetween numbers = (i j number : ℕ) → i < j
    → slice_get numbers i ≡ Some number → slice_get numbers j ≡ Some number
    → (other : ℕ) → other < 2 ^ 32 → other ≢ number
    → (k : ℕ) × (i < k) × (k < j) × (slice_get numbers k ≡ Some other)

-- A slot's numbers run in their order from 1 on, and so a number runs again only after the 2^32 - 1
-- others.
abbrev pub EverySlot : Type 0
EverySlot = (limits : SessionLimits) (run : ℕ) (calls : List Call) (id : List ℕ) (slot : ℕ)
    → CountsFrom 0 (numbers_on limits id slot calls (empty_table run))
    × OthersBetween (numbers_on limits id slot calls (empty_table run))

-- Stateids of opens, and the map of opens behind them: RFC 8881, sections 8.2.2 to 8.2.4,
-- 16.2.3.1.2, 18.2 (CLOSE) and 18.16 (OPEN). Seqids compare as plain numbers, after they wrapped
-- too; which of two refusals comes first is this server's profile.
use Rattle.std.specs.Prelude.{ℕ, ◌+◌, ◌-◌, ◌^◌, Bool, true, not, ◌&&◌, ◌||◌, ◌==◌, nat_lt, nat_le, List, [], ◌∷◌, ◌++◌, length, take, drop, replicate, find, filter, Option, None, Some, option_and_then, is_none, if◌then◌else◌, bit_or, bit_and, bytes_eq}
use Rattle.std.specs.List.{list_any}
use Rattle.std.specs.Int.{w32, w64, to_be_bytes, from_be_bytes}
use Rattle.model_tree.specs.declared.status.Status.{Status}
use Rattle.model_tree.specs.declared.status.Status.TheVariants as status
use Rattle.model.specs.Operations.Context.{Context, Place, current_number}
use Rattle.model_tree.specs.Trees.Keyed.{at, with, without}
use Rattle.model.specs.Sessions.Opens.{Opens, Open}
use Rattle.model.specs.Operations.Operation.{StateId}
use Rattle.model_tree.specs.Refusals.Refusal.{Refusals}

-- OPEN4_SHARE_ACCESS_READ and OPEN4_SHARE_ACCESS_WRITE, bits of an open's access
abbrev pub read_access : ℕ
read_access = 1

abbrev pub write_access : ℕ
write_access = 2

-- Special stateids (section 8.2.3)

abbrev pub zeros : List ℕ
zeros = replicate 12 0

-- all zero: READ, WRITE and SETATTR without an open
abbrev pub is_anonymous : StateId → Bool
is_anonymous state = state.seqid == 0 && bytes_eq state.other zeros

-- seqid 1 before zeros: the current stateid
abbrev pub is_current : StateId → Bool
is_current state = state.seqid == 1 && bytes_eq state.other zeros

-- what CLOSE returns: no operation accepts it
abbrev pub closed_state : StateId
closed_state = record { seqid = 2 ^ 32 - 1; other = zeros }

-- An open's stateid: 4 bytes of the run, 8 of the open's serial
abbrev pub open_stateid : (run serial seqid : ℕ) → StateId
open_stateid run serial seqid = record {
  seqid = seqid;
  other = to_be_bytes w32 run ++ to_be_bytes w64 serial;
}

-- The open that a stateid names

-- it is the anonymous one, it is refused, or it names the open of this serial
pub data Found : Type 0 where
  Anonymous : Found
  Refused : Status → Found
  Names : (serial : ℕ) → Open → Found

-- the current stateid is carried whole
abbrev pub carried : Option Place → Option StateId
carried current = option_and_then (λ place. place.state) current

abbrev pub meant : Context → StateId → Option StateId
meant context state = if is_current state then carried context.current else Some state

-- an open of another run has no serial here
abbrev pub open_named : Opens → (run : ℕ) → (other : List ℕ) → Option Open
open_named opens run other =
    if bytes_eq (take 4 other) (to_be_bytes w32 run) && length other == 12
    then at (from_be_bytes w64 (drop 4 other)) opens.known else None

-- seqid 0 means the newest; a lower one is old, a higher one was never given
abbrev pub by_seqid : StateId → Open → Found
by_seqid state known =
    if state.seqid == 0 || state.seqid == known.seqid
    then Names (from_be_bytes w64 (drop 4 state.other)) known
    else (if nat_lt state.seqid known.seqid
    then Refused status.OldStateId
    else Refused status.BadStateId)

-- it has to be an open of the session's client on the current file
abbrev pub by_open : Context → StateId → Option Open → Found
by_open context state None = Refused status.BadStateId
by_open context state (Some known) =
    if known.client == context.client && known.number == current_number context
    then by_seqid state known
    else Refused status.BadStateId

abbrev pub by_meaning : Opens → Context → Option StateId → Found
by_meaning opens context None = Refused status.BadStateId
by_meaning opens context (Some state) =
    if is_anonymous state
    then Anonymous
    else by_open context state (open_named opens context.run state.other)

unfoldable pub found : Opens → Context → StateId → Found
found opens context state = by_meaning opens context (meant context state)

-- The verdicts of operations

-- READ needs an open with read access, WRITE and a set size one with write access; the anonymous
-- stateid passes
abbrev pub access_refusals : (access : ℕ) → Found → Refusals
access_refusals access Anonymous = []
access_refusals access (Refused reason) = (true, reason) ∷ []
access_refusals access (Names serial known) =
    (bit_and known.access access == 0, status.OpenMode) ∷ []

abbrev pub state_refusals : Opens → Context → (access : ℕ) → StateId → Refusals
state_refusals opens context access state = access_refusals access (found opens context state)

-- CLOSE accepts no anonymous one
abbrev pub close_refusals : Found → Refusals
close_refusals Anonymous = (true, status.BadStateId) ∷ []
close_refusals (Refused reason) = (true, reason) ∷ []
close_refusals (Names serial known) = []

-- The map

-- an open of the same client and owner on the same file
abbrev pub is_like : Open → ℕ × Open → Bool
is_like asked entry =
    entry.1.client == asked.client
    && (bytes_eq entry.1.owner asked.owner && entry.1.number == asked.number)

abbrev pub open_like : Opens → Open → Option (ℕ × Open)
open_like opens asked = find (is_like asked) opens.known

-- after 2^32 - 1 comes 1: 0 means the newest
abbrev pub next_seqid : ℕ → ℕ
next_seqid seqid = if seqid == 2 ^ 32 - 1 then 1 else seqid + 1

-- opening it again adds the access
abbrev pub upgraded : (access : ℕ) → Open → Open
upgraded access known =
    record known { access = bit_or known.access access; seqid = next_seqid known.seqid }

abbrev pub new_open : (client : ℕ) → (owner : List ℕ) → (number access : ℕ) → Open
new_open client owner number access = record {
  client = client;
  owner = owner;
  number = number;
  access = access;
  seqid = 1;
}

-- A full table, or no serial left, gives DELAY; but an open that joins another needs neither
abbrev pub is_table_full : (most : ℕ) → Opens → Open → Bool
is_table_full most opens asked =
    is_none (open_like opens asked)
    && (nat_le most (length opens.known) || nat_le (2 ^ 64 - 1) opens.given)

-- an open with its serial, and the opens that include it
pub record Opened : Type 0 where
  pub serial : ℕ
  pub state : Open
  pub opens : Opens

-- if none is joined, the next serial is given
abbrev pub opened_by : Opens → Open → Option (ℕ × Open) → Opened
opened_by opens asked (Some entry) = record {
  serial = entry.0;
  state = upgraded asked.access entry.1;
  opens = record opens { known = with opens.known entry.0 (upgraded asked.access entry.1) };
}
opened_by opens asked None = record {
  serial = opens.given + 1;
  state = asked;
  opens = record { given = opens.given + 1; known = with opens.known (opens.given + 1) asked };
}

unfoldable pub opened : Opens → Open → Opened
opened opens asked = opened_by opens asked (open_like opens asked)

-- CLOSE ends one
abbrev pub without_open : (serial : ℕ) → Opens → Opens
without_open serial opens = record opens { known = without opens.known serial }

-- a file that is removed ends its opens
abbrev pub without_number : (number : ℕ) → Opens → Opens
without_number number opens =
    record opens {
      known = filter (λ (entry : ℕ × Open). not (entry.1.number == number))
          opens.known;
    }

-- the opens of a client end with it
abbrev pub has_opens : Opens → (client : ℕ) → Bool
has_opens opens client = list_any (λ (entry : ℕ × Open). entry.1.client == client) opens.known

abbrev pub without_clients : List ℕ → Opens → Opens
without_clients clients opens = record opens {
  known =
      filter (λ (entry : ℕ × Open). not (list_any (λ client. entry.1.client == client) clients))
      opens.known;
}

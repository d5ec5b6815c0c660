-- What the opens of the code represent.
use Rattle.std.specs.Prelude.{ℕ, ◌≡◌, ◌<◌, List, map, drop, find, length, slice_index_or, Some, false}
use Rattle.std.specs.Int.{w64, from_be_bytes}
use Rattle.std.specs.Option.{option_map}
use Rattle.std.specs.Vec.{vec_len, vec_capacity}
use Rattle.model.specs.Operations.Context.{Context, current_number}
use Rattle.model_tree.specs.Trees.Keyed.{at}
use Rattle.model.specs.Sessions.Opens as model
use Rattle.model.specs.Operations.Operation.{StateId}
use Rattle.model.specs.Sessions.StateIds as states
use Rattle.model.specs.Sessions.StateIds.{carried, is_like, is_table_full, open_named, open_stateid}
use Rattle.wire.specs.SmallViews.{state_view}
use Rattle.opens.specs.declared.found.Found.{Found}
use Rattle.opens.specs.declared.found.Found.TheVariants as found
use Rattle.opens.specs.declared.found.StateIdContext.{StateIdContext}
use Rattle.opens.specs.declared.open.Entry.{Entry}
use Rattle.opens.specs.declared.open.Open.{Open}
use Rattle.opens.specs.declared.opens.Opens.{Opens}

abbrev pub open_of : Open → model.Open
open_of known = record {
  client = known.client;
  owner = known.owner.items;
  number = known.number;
  access = known.access.0;
  seqid = known.seqid;
}

abbrev pub entry_of : Entry → ℕ × model.Open
entry_of entry = (entry.serial, open_of entry.state)

unfoldable pub opens_of : Opens → model.Opens
opens_of opens = record { given = opens.given; known = map entry_of opens.list.items }

abbrev pub found_of : Found → states.Found
found_of found.Anonymous = states.Anonymous
found_of (found.Refused status) = states.Refused status
found_of (found.Names entry) = states.Names entry.now.serial (open_of entry.now.state)

-- the entry at this place is the first open of the same client and owner on the same file
pub record IsLike (asked : model.Open) (entries : List Entry) (place : ℕ) : Type 0 where
  pub within : place < length entries
  pub first : (d : Entry) → find (is_like asked) (map entry_of entries)
      ≡ Some (entry_of (slice_index_or entries place d))

-- the entry is the open of a serial
pub record IsAt (serial : ℕ) (opens : model.Opens) (entry : Entry) : Type 0 where
  pub known : at serial opens.known ≡ Some (open_of entry.state)
  pub serial_is : entry.serial ≡ serial

-- there is memory for one more open
unfoldable pub HasMemory : Opens → Type 0
HasMemory opens = vec_len opens.list < vec_capacity opens.list

-- some number of opens has room for this one
abbrev pub CanOpen : model.Opens → model.Open → Type 0
CanOpen opens asked = (most : ℕ) × (is_table_full most opens asked ≡ false)

-- the serial in a stateid's twelve bytes
abbrev pub serial_in : List ℕ → ℕ
serial_in other = from_be_bytes w64 (drop 4 other)

-- the entry is the open that a stateid's twelve bytes name
pub record IsNamed (run : ℕ) (other : List ℕ) (opens : model.Opens) (entry : Entry) : Type 0 where
  pub known : open_named opens run other ≡ Some (open_of entry.state)
  pub serial_is : serial_in other ≡ entry.serial

-- the stateid of an open that was made or joined
abbrev pub opened_stateid : (run : ℕ) → states.Opened → StateId
opened_stateid run opened = open_stateid run opened.serial opened.state.seqid

-- the context of the operation that a stateid is an argument of
pub record StandsAt (id_context : StateIdContext) (context : Context) : Type 0 where
  pub client : context.client ≡ id_context.client
  pub run : context.run ≡ id_context.run
  pub number : current_number context ≡ id_context.number
  pub state : carried context.current ≡ option_map state_view id_context.state

-- A record that is sent over a stream, and a record that is read from it: RFC 5531, section 11.
use Rattle.std.specs.Prelude.{⊤, ◌≡◌, ◌⊎◌, ℕ, ◌+◌, ◌<◌, ◌≤◌, Bool, true, List, [], ◌++◌, length, take, drop, Option, None, Some, Result, Ok, Err}
use Rattle.std.specs.Int.{w32, from_be_bytes}
use Rattle.std.specs.Io.KnownBytes.{Appends, Consumes}
use Rattle.model.specs.Wire.Record as spec
use Rattle.model.specs.Wire.Record.{Gathered, Prefix, Partial, Refused, Whole, prefix, fragment, framed}
use Rattle.rpc.specs.Assembly.{record_limits, Finds}
use Rattle.rpc.specs.declared.fragment.Fragment.TheVariants as found
use Rattle.rpc.specs.declared.fragment.TheConstants.{MAX_RECORD_BYTES}
use Rattle.client.specs.declared.fault.ClientFault.{ClientFault}
use Rattle.client.specs.declared.fault.ClientFault.TheVariants as faults
use Rattle.client.specs.declared.receive.Fetched.{Fetched}
use Rattle.client.specs.declared.receive.Fetched.TheVariants as fetched
use Rattle.client.specs.declared.receive.Received.{Received}
use Rattle.client.specs.declared.receive.Received.TheVariants as received
use Rattle.client.specs.declared.receive.TheConstants.{ROOM}

-- what is known of a stream: the bytes that its writer holds, and those that its reader has left
pub record Stream : Type 0 where
  pub written : Option (List ℕ)
  pub unread : Option (List ℕ)

abbrev pub stream : (written unread : Option (List ℕ)) → Stream
stream written unread = record { written = written; unread = unread }

-- Steps

-- the writer took a prefix of these bytes, perhaps all of them
pub record Sends (old new : Option (List ℕ)) (bytes : List ℕ) (is_whole : Bool) : Type 0 where
  pub sent : List ℕ
  pub unsent : List ℕ
  pub parts : bytes ≡ sent ++ unsent
  pub writes : Appends old new sent
  pub whole : is_whole ≡ true → unsent ≡ []

-- the header of a fragment; none if the reader gave too few bytes
abbrev pub IsHeader : (read : List ℕ) → Option ℕ → Type 0
IsHeader read None = length read < 4
IsHeader read (Some header) = (length read ≡ 4) × (header ≡ from_be_bytes w32 read)

pub record ReadsHeader (old new : Option (List ℕ)) (header : Option ℕ) : Type 0 where
  pub read : List ℕ
  pub reads : Consumes old new read
  pub is : IsHeader read header

-- what the bytes read are, after fragments that hold `size` bytes; what the fragment holds is in
-- the room after theirs
abbrev pub IsFetched : (size : ℕ) → (read room : List ℕ) → Gathered → Fetched → Type 0
IsFetched size read room gathered fetched.Ended = fragment record_limits gathered read ≡ spec.Waits
IsFetched size read room gathered fetched.Refused =
    (4 ≤ length read)
    × ((fault : spec.RecordFault) × (fragment record_limits gathered read ≡ spec.Refuses fault))
IsFetched size read room gathered (fetched.Brings more is_last) =
    (length read ≡ 4 + more) × (drop 4 read ≡ take more (drop (4 + size) room))
    × ((rest : List ℕ) → Finds gathered (read ++ rest) (found.Brings more is_last))

pub record Fetches (old new : Option (List ℕ)) (size fragments : ℕ) (before room : List ℕ)
    (fetched : Fetched) : Type 0 where
  pub read : List ℕ
  pub reads : Consumes old new read
  pub is : (gathered : Gathered) → length gathered.bytes ≡ size → gathered.fragments ≡ fragments
      → IsFetched size read room gathered fetched
  pub prefix : take (4 + size) room ≡ take (4 + size) before
  pub long : length room ≡ length before

-- what the bytes read are: the whole record is in the room after the place of its header
abbrev pub IsReceived : (read room : List ℕ) → Received → Type 0
IsReceived read room received.Ended = prefix record_limits read ≡ Partial
IsReceived read room received.Refused =
    (fault : spec.RecordFault) × (prefix record_limits read ≡ Refused fault)
IsReceived read room (received.Whole size) =
    (size ≤ MAX_RECORD_BYTES) × (prefix record_limits read ≡ Whole (take size (drop 4 room)) [])

pub record Receives (old new : Option (List ℕ)) (room : List ℕ) (came : Received) : Type 0 where
  pub read : List ℕ
  pub reads : Consumes old new read
  pub is : IsReceived read room came
  pub long : length room ≡ ROOM

-- These bytes are sent, and then bytes are read: none unless all were sent.
pub record Passes (bytes : List ℕ) (before after : Stream) (read : List ℕ) : Type 0 where
  pub sent : List ℕ
  pub unsent : List ℕ
  pub parts : bytes ≡ sent ++ unsent
  pub writes : Appends before.written after.written sent
  pub reads : Consumes before.unread after.unread read
  pub order : (unsent ≡ []) ⊎ (read ≡ [])

-- what came is one whole record, returned with a header for one fragment; Io if it is none yet,
-- Garbled if it is too long
abbrev pub Comes : Prefix → (received : List ℕ) → Result ⊤ ClientFault → Type 0
Comes Partial received r = r ≡ Err faults.Io
Comes (Refused fault) received r = r ≡ Err faults.Garbled
Comes (Whole bytes rest) received r = (r ≡ Ok tt) × (rest ≡ []) × (received ≡ framed bytes)

pub record Talks (bytes : List ℕ) (before after : Stream) (received : List ℕ)
    (result : Result ⊤ ClientFault) : Type 0 where
  pub read : List ℕ
  pub passes : Passes bytes before after read
  pub comes : Comes (prefix record_limits read) received result

-- Memory if there is none for the reply, and then nothing is written or read
abbrev pub Converses : (bytes : List ℕ) → (before after : Stream) → (received : List ℕ)
    → Result ⊤ ClientFault → Type 0
Converses bytes before after received r =
    ((r ≡ Err faults.Memory) × (after ≡ before)) ⊎ Talks bytes before after received r

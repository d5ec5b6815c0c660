-- Record marking on a stream of bytes: RFC 5531, section 11. A fragment is a header of 4 bytes,
-- whose top bit says that it is the record's last and whose other 31 bits are its size, followed by
-- that many bytes.
use Rattle.std.specs.Prelude.{◌≡◌, ℕ, zero, suc, ◌+◌, ◌%◌, ◌^◌, ◌<◌, ◌≤◌, Bool, true, false, List, [], ◌∷◌, ◌++◌, length, take, drop, fold, Option, None, Some, nat_lt, nat_le, if◌then◌else◌}
use Rattle.std.specs.List.{flat_map}
use Rattle.std.specs.Int.{w32, to_be_bytes, from_be_bytes}
use Rattle.xdr.specs.Laws.{IsBytes}

-- the bytes of a record, and its fragments
pub record RecordLimits : Type 0 where
  pub bytes : ℕ
  pub fragments : ℕ

-- why a header is refused
pub data RecordFault : Type 0 where
  RecordTooBig : RecordFault
  TooManyFragments : RecordFault

-- the fragments of a record so far: their bytes joined, and how many they are
pub record Gathered : Type 0 where
  pub bytes : List ℕ
  pub fragments : ℕ

abbrev pub nothing_gathered : Gathered
nothing_gathered = record { bytes = []; fragments = 0 }

-- One fragment

-- at the start of some bytes: no whole fragment, a header that is refused, or a fragment and the
-- bytes after it
pub data Fragment : Type 0 where
  Waits : Fragment
  Refuses : RecordFault → Fragment
  Brings : (bytes : List ℕ) → (is_last : Bool) → (rest : List ℕ) → Fragment

-- a header is refused as soon as it is there: first for the record's size, then for the number of
-- fragments
unfoldable pub behind_header : RecordLimits → Gathered → (header : ℕ) → List ℕ → Fragment
behind_header limits gathered header bytes =
    let size = header % 2 ^ 31 in
    if nat_lt limits.bytes (length gathered.bytes + size) then Refuses RecordTooBig
    else (if nat_le limits.fragments gathered.fragments then Refuses TooManyFragments
    else (if nat_lt (length bytes) size then Waits
    else Brings (take size bytes) (nat_le (2 ^ 31) header) (drop size bytes)))

unfoldable pub fragment : RecordLimits → Gathered → List ℕ → Fragment
fragment limits gathered bytes =
    if nat_lt (length bytes) 4 then Waits
    else behind_header limits gathered (from_be_bytes w32 (take 4 bytes)) (drop 4 bytes)

-- One record

-- at the start of some bytes: no whole record, a header that is refused, or a record and the bytes
-- after it
pub data Prefix : Type 0 where
  Partial : Prefix
  Refused : RecordFault → Prefix
  Whole : (bytes : List ℕ) → (rest : List ℕ) → Prefix

abbrev pub gathered_with : Gathered → List ℕ → Gathered
gathered_with gathered bytes = record {
  bytes = gathered.bytes ++ bytes;
  fragments = gathered.fragments + 1;
}

-- `further` looks for the fragment after this one
abbrev pub behind_fragment : (Gathered → List ℕ → Prefix) → Gathered → Fragment → Prefix
behind_fragment further gathered Waits = Partial
behind_fragment further gathered (Refuses fault) = Refused fault
behind_fragment further gathered (Brings bytes true rest) = Whole (gathered.bytes ++ bytes) rest
behind_fragment further gathered (Brings bytes false rest) =
    further (gathered_with gathered bytes) rest

-- `fuel` is at least the number of the bytes: each fragment takes some
unfoldable pub prefix_from : RecordLimits → (fuel : ℕ) → Gathered → List ℕ → Prefix
prefix_from limits zero gathered bytes = Partial
prefix_from limits (suc fuel) gathered bytes =
    behind_fragment (prefix_from limits fuel) gathered (fragment limits gathered bytes)

abbrev pub prefix : RecordLimits → List ℕ → Prefix
prefix limits bytes = prefix_from limits (length bytes) nothing_gathered bytes

-- A stream

-- its whole records, and the bytes after them, which begin no whole one; if a header is refused,
-- none are kept
pub record Stream : Type 0 where
  pub records : List (List ℕ)
  pub rest : List ℕ
  pub fault : Option RecordFault

abbrev pub behind_prefix : (List ℕ → Stream) → List ℕ → Prefix → Stream
behind_prefix further bytes Partial = record { records = []; rest = bytes; fault = None }
behind_prefix further bytes (Refused fault) = record { records = []; rest = []; fault = Some fault }
behind_prefix further bytes (Whole one rest) =
    record (further rest) { records = one ∷ (further rest).records }

unfoldable pub records_from : RecordLimits → (fuel : ℕ) → List ℕ → Stream
records_from limits zero bytes = record { records = []; rest = bytes; fault = None }
records_from limits (suc fuel) bytes =
    behind_prefix (records_from limits fuel) bytes (prefix limits bytes)

abbrev pub records : RecordLimits → List ℕ → Stream
records limits bytes = records_from limits (length bytes) bytes

-- how a record is sent: one fragment
unfoldable pub framed : List ℕ → List ℕ
framed bytes = to_be_bytes w32 (2 ^ 31 + length bytes) ++ bytes

-- However it is cut

-- a further piece comes: what follows a refused header is ignored
abbrev pub fed_by : RecordLimits → List ℕ → Stream → Option RecordFault → Stream
fed_by limits piece stream (Some fault) = stream
fed_by limits piece stream None =
    let more = records limits (stream.rest ++ piece) in
    record more { records = stream.records ++ more.records }

abbrev pub fed : RecordLimits → Stream → List ℕ → Stream
fed limits stream piece = fed_by limits piece stream stream.fault

abbrev pub no_stream : Stream
no_stream = record { records = []; rest = []; fault = None }

-- a stream that comes in pieces is the stream that comes at once
abbrev pub EveryCut : Type 0
EveryCut = (limits : RecordLimits) (pieces : List (List ℕ))
    → fold (fed limits) no_stream pieces ≡ records limits (flat_map (λ piece. piece) pieces)

-- a record that is sent is read back, whatever follows
abbrev pub SentIsRead : Type 0
SentIsRead = (limits : RecordLimits) (bytes rest : List ℕ)
    → length bytes ≤ limits.bytes → length bytes < 2 ^ 31 → 0 < limits.fragments
    → prefix limits (framed bytes ++ rest) ≡ Whole bytes rest

-- A record as it may be sent: fragments, of which the last one has the top bit

abbrev pub top_bit : (is_last : Bool) → ℕ
top_bit true = 2 ^ 31
top_bit false = 0

unfoldable pub fragment_text : (is_last : Bool) → List ℕ → List ℕ
fragment_text is_last bytes = to_be_bytes w32 (top_bit is_last + length bytes) ++ bytes

abbrev pub record_text : (earlier : List (List ℕ)) → (last : List ℕ) → List ℕ
record_text [] last = fragment_text true last
record_text (bytes ∷ earlier) last = fragment_text false bytes ++ record_text earlier last

abbrev pub joined : (earlier : List (List ℕ)) → (last : List ℕ) → List ℕ
joined [] last = last
joined (bytes ∷ earlier) last = bytes ++ joined earlier last

-- However a record is fragmented within the limits, it is read as its fragments joined, whatever
-- follows.
abbrev pub EveryFragmenting : Type 0
EveryFragmenting = (limits : RecordLimits) (earlier : List (List ℕ)) (last rest : List ℕ)
    → length (joined earlier last) ≤ limits.bytes → length (joined earlier last) < 2 ^ 31
    → length earlier < limits.fragments
    → prefix limits (record_text earlier last ++ rest) ≡ Whole (joined earlier last) rest

-- What is read is a record so sent, with the bytes after it: nothing else is taken for one.
pub record IsSent (limits : RecordLimits) (bytes one rest : List ℕ) : Type 0 where
  pub earlier : List (List ℕ)
  pub last : List ℕ
  pub sent : bytes ≡ record_text earlier last ++ rest
  pub whole : one ≡ joined earlier last
  pub size : length one ≤ limits.bytes
  pub number : length earlier < limits.fragments

abbrev pub OnlySent : Type 0
OnlySent =
    (limits : RecordLimits) (bytes one rest : List ℕ) → IsBytes bytes
    → prefix limits bytes ≡ Whole one rest → IsSent limits bytes one rest

-- What an assembler keeps of a connection's next record (RFC 5531, section 11), and how a piece of
-- the stream changes it.
use Rattle.std.specs.Prelude.{◌≡◌, ℕ, ◌+◌, ◌-◌, ◌≤◌, ◌<◌, Bool, true, false, List, [], ◌++◌, length, take, drop, Option, Some, None, if◌then◌else◌}
use Rattle.model.specs.Wire.Record as spec
use Rattle.model.specs.Wire.Record.{RecordLimits, Gathered, Prefix, Partial, Refused, Whole, prefix, fragment}
use Rattle.model.specs.Wire.Rpc.{read_call, is_call_read}
use Rattle.model.specs.Server.World.{Connection, Quiet, Waiting, Closed, arrives_at, taken_at}
use Rattle.rpc.specs.declared.fault.RecordFault.{RecordFault}
use Rattle.rpc.specs.declared.fault.RecordFault.TheVariants as faults
use Rattle.rpc.specs.declared.fragment.Fragment.{Fragment}
use Rattle.rpc.specs.declared.fragment.TheConstants.{MAX_FRAGMENTS, MAX_RECORD_BYTES}
use Rattle.rpc.specs.declared.fragment.Fragment.TheVariants as found
use Rattle.rpc.specs.declared.scan.Scan.{Scan}
use Rattle.rpc.specs.declared.scan.Scan.TheVariants as scans
use Rattle.rpc.specs.declared.receive.Progress.{Progress}
use Rattle.rpc.specs.declared.receive.Progress.TheVariants as progress
use Rattle.rpc.specs.declared.state.State.{State}
use Rattle.rpc.specs.declared.state.State.TheVariants as states

-- the most of a record's bytes and fragments: numbers, so that a constant of the code that is
-- changed is refused
abbrev pub record_limits : RecordLimits
record_limits = record { bytes = 16384; fragments = 64 }

pub data Assembly : Type 0 where
  -- what has come of the next record, headers included
  Gathers : (bytes : List ℕ) → Assembly
  -- a whole record that holds a call, its fragments joined
  Holds : (request : List ℕ) → Assembly
  -- refused for good
  Refuses : RecordFault → Assembly

-- what the bytes in its buffer are
abbrev pub assembly_of : State → List ℕ → Assembly
assembly_of states.Gathers bytes = Gathers bytes
assembly_of (states.Holds start) bytes = Holds (drop start bytes)
assembly_of (states.Refuses fault) bytes = Refuses fault

-- without the record that it holds
abbrev pub released : Assembly → Assembly
released (Gathers bytes) = Gathers bytes
released (Holds request) = Gathers []
released (Refuses fault) = Refuses fault

-- the connection that an assembler represents
abbrev pub connection_of : Assembly → Connection
connection_of (Gathers bytes) = Quiet bytes
connection_of (Holds request) = Waiting request
connection_of (Refuses fault) = Closed

-- Refusals

abbrev pub fault_of : spec.RecordFault → RecordFault
fault_of spec.RecordTooBig = faults.RecordTooBig
fault_of spec.TooManyFragments = faults.TooManyFragments

-- why the bytes that have come are refused: by a header, or as a whole record that is no call
abbrev pub fault_in : Prefix → Option RecordFault
fault_in Partial = None
fault_in (Refused fault) = Some (fault_of fault)
fault_in (Whole request rest) =
    if is_call_read (read_call request) then None else Some faults.NotACall

-- why a piece is refused, now or before
abbrev pub fault_at : (piece : List ℕ) → Assembly → Option RecordFault
fault_at piece (Gathers bytes) = fault_in (prefix record_limits (bytes ++ piece))
fault_at piece (Holds request) = None
fault_at piece (Refuses fault) = Some fault

-- the piece is refused for good, for this reason
pub record RefusesPiece (piece : List ℕ) (old new : Assembly) (fault : RecordFault) : Type 0 where
  pub reason : fault_at piece old ≡ Some fault
  pub lasts : new ≡ Refuses fault
  pub none_taken : taken_at record_limits piece (connection_of old) ≡ None
  pub closes : arrives_at record_limits piece (connection_of old) ≡ Closed

-- no more has come than a part of a record, and a whole one holds a call
abbrev pub is_partial : Prefix → Bool
is_partial Partial = true
is_partial (Refused fault) = false
is_partial (Whole request rest) = false

abbrev pub is_sound : Assembly → Bool
is_sound (Gathers bytes) = is_partial (prefix record_limits bytes)
is_sound (Holds request) = is_call_read (read_call request)
is_sound (Refuses fault) = true

-- what may come of one record: its bytes, a header for each fragment, and one that is not whole
abbrev pub max_received : ℕ
max_received = 16644

abbrev pub IsWithin : State → List ℕ → Type 0
IsWithin states.Gathers bytes = Unit {0}
IsWithin (states.Holds start) bytes = start ≤ length bytes
IsWithin (states.Refuses fault) bytes = Unit {0}

-- the buffer has room for what may come
pub record IsSoundBuffer (state : State) (bytes : List ℕ) (spare : ℕ) : Type 0 where
  pub sound : is_sound (assembly_of state bytes) ≡ true
  pub within : IsWithin state bytes
  pub room : max_received ≤ length bytes + spare

-- Steps

-- what the bytes begin with, by its size
abbrev pub Finds : Gathered → List ℕ → Fragment → Type 0
Finds gathered bytes found.Waits = fragment record_limits gathered bytes ≡ spec.Waits
Finds gathered bytes found.TooBig =
    (4 ≤ length bytes) × (fragment record_limits gathered bytes ≡ spec.Refuses spec.RecordTooBig)
Finds gathered bytes found.TooMany =
    (4 ≤ length bytes)
    × (fragment record_limits gathered bytes ≡ spec.Refuses spec.TooManyFragments)
Finds gathered bytes (found.Brings size is_last) =
    (4 + size ≤ length bytes) × (length gathered.bytes + size ≤ MAX_RECORD_BYTES)
    × (gathered.fragments < MAX_FRAGMENTS)
    × (fragment record_limits gathered bytes
    ≡ spec.Brings (take size (drop 4 bytes)) is_last (drop size (drop 4 bytes)))

-- the end of the record that the bytes begin with
abbrev pub scan_of : List ℕ → Prefix → Scan
scan_of bytes Partial = scans.Partial
scan_of bytes (Refused fault) = scans.Refused (fault_of fault)
scan_of bytes (Whole request rest) = scans.Whole (length bytes - length rest)

-- the bytes are one whole record
abbrev pub IsWhole : List ℕ → Type 0
IsWhole bytes = (request : List ℕ) × (prefix record_limits bytes ≡ Whole request [])

-- how a piece changes the bytes before
abbrev pub Receives : (old piece : List ℕ) → Progress → (new : List ℕ) → Type 0
Receives old piece progress.More new =
    (prefix record_limits (old ++ piece) ≡ Partial) × (new ≡ old ++ piece)
Receives old piece (progress.Whole taken start) new =
    (rest : List ℕ) × (prefix record_limits (old ++ piece) ≡ Whole (drop start new) rest)
    × (taken ≡ length piece - length rest)
    × (is_call_read (read_call (drop start new)) ≡ true) × (start ≤ length new)
Receives old piece (progress.Refused fault) new =
    fault_in (prefix record_limits (old ++ piece)) ≡ Some fault

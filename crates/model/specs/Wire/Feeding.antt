-- A stream as it is fed to a connection: pieces come, of which prefixes are taken, and a whole
-- request is released before the next record begins (RFC 5531, section 11). However that is done,
-- it gives the records of the bytes that were taken.
use Rattle.std.specs.Prelude.{◌≡◌, ◌⊎◌, ◌<◌, ◌^◌, ℕ, false, List, [], ◌∷◌, ◌++◌, take, Option, None, Some}
use Rattle.xdr.specs.Laws.{IsBytes}
use Rattle.model.specs.Wire.Record.{RecordLimits, RecordFault, Stream, records}
use Rattle.model.specs.Wire.Rpc.{read_call, is_call_read}
use Rattle.model.specs.Server.World.{Connection, Quiet, Waiting, Busy, Replied, Closed, arrives_at, taken_at}

pub data FeedStep : Type 0 where
  Feeds : (piece : List ℕ) → FeedStep
  Releases : FeedStep

-- the connection, the bytes that were taken, and the requests that were released
pub record Feeding : Type 0 where
  pub connection : Connection
  pub taken : List ℕ
  pub released : List (List ℕ)

abbrev pub nothing_fed : Feeding
nothing_fed = record { connection = Quiet []; taken = []; released = [] }

-- the prefix of a piece that is taken; the whole of one that is refused
abbrev pub prefix_taken : (piece : List ℕ) → Option ℕ → List ℕ
prefix_taken piece (Some n) = take n piece
prefix_taken piece None = piece

-- a whole request is released
abbrev pub let_go : Connection → Connection
let_go (Waiting request) = Quiet []
let_go connection = connection

abbrev pub gone : Connection → List (List ℕ)
gone (Waiting request) = request ∷ []
gone connection = []

abbrev pub after_step : RecordLimits → Feeding → FeedStep → Feeding
after_step limits feeding (Feeds piece) = record feeding {
  connection = arrives_at limits piece feeding.connection;
  taken = feeding.taken ++ prefix_taken piece (taken_at limits piece feeding.connection);
}
after_step limits feeding Releases = record feeding {
  connection = let_go feeding.connection;
  released = feeding.released ++ gone feeding.connection;
}

abbrev pub after_steps : RecordLimits → Feeding → List FeedStep → Feeding
after_steps limits feeding [] = feeding
after_steps limits feeding (step ∷ steps) =
    after_steps limits (after_step limits feeding step) steps

abbrev pub AreBytes : List FeedStep → Type 0
AreBytes [] = Unit {0}
AreBytes (Feeds piece ∷ steps) = IsBytes piece × AreBytes steps
AreBytes (Releases ∷ steps) = AreBytes steps

-- The law

-- After these requests the stream is refused: by a header, or because the next record is no call.
pub record IsRefusedBehind (stream : Stream) (requests : List (List ℕ)) : Type 0 where
  pub more : List (List ℕ)
  pub behind : stream.records ≡ requests ++ more
  pub why : ((fault : RecordFault) × (stream.fault ≡ Some fault) × (more ≡ []))
      ⊎ ((request : List ℕ) × (rest : List (List ℕ)) × (more ≡ request ∷ rest)
      × (is_call_read (read_call request) ≡ false))

abbrev pub IsFed : RecordLimits → Connection → (taken : List ℕ) → (released : List (List ℕ))
    → Type 0
IsFed limits (Quiet bytes) taken released =
    records limits taken ≡ record { records = released; rest = bytes; fault = None }
IsFed limits (Waiting request) taken released =
    records limits taken ≡ record { records = released ++ request ∷ []; rest = []; fault = None }
IsFed limits Closed taken released = IsRefusedBehind (records limits taken) released
IsFed limits (Busy request) taken released = ⊥
IsFed limits (Replied reply) taken released = ⊥

abbrev pub EveryFeeding : Type 0
EveryFeeding =
    (limits : RecordLimits) (steps : List FeedStep) → limits.bytes < 2 ^ 31 → AreBytes steps
    → let fed = after_steps limits nothing_fed steps in
    IsFed limits fed.connection fed.taken fed.released

-- What a stateid that OPEN returned means at each later moment of its run, and in every other run:
-- RFC 8881, sections 8.2.2 to 8.2.4, 18.2 (CLOSE) and 18.16 (OPEN).
use Rattle.std.specs.Prelude.{ℕ, ◌+◌, ◌^◌, ◌≡◌, ◌≢◌, ◌<◌, ◌⊎◌, false, true, List, [], ◌∷◌, ◌++◌, length, Option, Some, None, option_to_list, if◌then◌else◌, bytes_eq}
use Rattle.model_tree.specs.Seats.Seats.{Seats}
use Rattle.model_tree.specs.declared.status.Status.TheVariants as status
use Rattle.model.specs.Operations.Answer.{Answer, Outcome, OpenAnswer}
use Rattle.model.specs.Operations.Context.{current_number}
use Rattle.model_tree.specs.Trees.Keyed.{at}
use Rattle.model.specs.Operations.Open.{asked_open}
use Rattle.model.specs.Sessions.Opens.{Open}
use Rattle.model.specs.Operations.Operation.{Argument, OpenArguments, StateId}
use Rattle.model.specs.Server.Runs.{Event, Serving, RunHistory, IsRun, Happens, executed, mounted}
use Rattle.model.specs.Sessions.StateIdLaws.{IsOwn, IsGiven}
use Rattle.model.specs.Sessions.StateIds.{Refused, Names, by_seqid, found, is_like, upgraded, open_stateid}
use Rattle.model.specs.Operations.Step.{State}
use Rattle.model_tree.specs.Trees.Tree.{Tree}
use Rattle.model.specs.Server.World.{ServerLimits, Entry}

-- The open of a stateid

-- in this run an OPEN was executed and answered, and left the server in this state
pub record WasAnswered (run : ℕ) (entry : Entry) (arguments : OpenArguments)
    (answer : OpenAnswer) (new : Serving) : Type 0 where
  pub limits : ServerLimits
  pub start : Tree
  pub seats : Seats
  pub old : Serving
  pub history : RunHistory
  pub event : Event
  pub begun : IsRun (mounted limits run start seats) old history
  pub happens : Happens old event new
  pub executes : executed old event ≡ Some entry
  pub operation : entry.operation ≡ Argument.Open arguments
  pub outcome : entry.outcome ≡ Outcome.Done (Answer.Open answer)

-- its open as it was then, of the client, the owner and the file that the OPEN asked for
pub record IsOpenOf (run : ℕ) (asked : Open) (state : StateId)
    (serial : ℕ) (known : Open) : Type 0 where
  pub given : IsGiven run serial
  pub counted : 0 < known.seqid
  pub is : state ≡ open_stateid run serial known.seqid
  pub like : is_like asked (serial, known) ≡ true

-- What is executed from then on

-- the access that an OPEN asked for, if it was answered with a stateid of the same open
abbrev pub access_by : (other : List ℕ) → Outcome → Argument → Option ℕ
access_by other (Outcome.Done (Answer.Open answer)) (Argument.Open arguments) =
    if bytes_eq answer.state.other other then Some arguments.access else None
access_by other _ _ = None

-- of all that joined the open, in their order
abbrev pub accesses_in : (other : List ℕ) → List Entry → List ℕ
accesses_in other [] = []
accesses_in other (entry ∷ done) =
    option_to_list (access_by other entry.outcome entry.operation) ++ accesses_in other done

abbrev pub joined_by : (accesses : List ℕ) → Open → Open
joined_by [] known = known
joined_by (access ∷ accesses) known = joined_by accesses (upgraded access known)

abbrev pub OpenStandsIn : Serving → (serial : ℕ) → Open → Type 0
OpenStandsIn serving serial known = at serial serving.world.opens.known ≡ Some known

abbrev pub HasEnded : Serving → (serial : ℕ) → Type 0
HasEnded serving serial = at serial serving.world.opens.known ≡ None

-- What an operation that is executed at that moment finds, if these joined the open since
pub record Verdicts (later : Serving) (state : StateId) (serial : ℕ) (known : Open)
    (accesses : List ℕ) (used : State) : Type 0 where
  -- if none joined it, its open
  pub newest : IsOwn used.context known → accesses ≡ [] → OpenStandsIn later serial known
      → found used.opens used.context state ≡ Names serial known
  -- if some did, it is old, unless seqids began again at 1
  pub old : IsOwn used.context known → 0 < length accesses
      → known.seqid + length accesses < 2 ^ 32
      → OpenStandsIn later serial (joined_by accesses known)
      → found used.opens used.context state ≡ Refused status.OldStateId
  -- in any case its seqid decides, compared with that of the open
  pub own : IsOwn used.context known → OpenStandsIn later serial (joined_by accesses known)
      → found used.opens used.context state ≡ by_seqid state (joined_by accesses known)
  -- for another client or on another file, and once the open has ended, it is bad
  pub other : (known.client ≢ used.context.client) ⊎ (known.number ≢ current_number used.context)
      → found used.opens used.context state ≡ Refused status.BadStateId
  pub ended : HasEnded later serial
      → found used.opens used.context state ≡ Refused status.BadStateId

-- The open is as those that joined it since have made it, or it has ended, and then it never comes
-- back.
pub record GoesOnAs (run : ℕ) (asked : Open) (state : StateId) (new later : Serving)
    (since : List Entry) : Type 0 where
  pub serial : ℕ
  pub known : Open
  pub is : IsOpenOf run asked state serial known
  pub stood : OpenStandsIn new serial known
  pub now : OpenStandsIn later serial (joined_by (accesses_in state.other since) known)
      ⊎ HasEnded later serial
  pub stays : HasEnded later serial → (last : Serving) (more : RunHistory) → IsRun later last more
      → HasEnded last serial
  pub verdicts : (event : Event) (used : Entry) → executed later event ≡ Some used
      → Verdicts later state serial known (accesses_in state.other since) used.state

-- at each later moment of the run at which the server is up: what is down executes nothing
abbrev pub EveryStateIdGoesOn : Type 0
EveryStateIdGoesOn = (run : ℕ) (entry : Entry) (arguments : OpenArguments) (answer : OpenAnswer)
    (new later : Serving) (since : RunHistory) → run < 2 ^ 32
    → WasAnswered run entry arguments answer new → IsRun new later since → later.is_down ≡ false
    → GoesOnAs run (asked_open entry.state arguments) answer.state new later since.done

-- those that join it keep its client, owner and file, and raise its seqid by one each, until it
-- begins again at 1
pub record IsJoinedBy (accesses : List ℕ) (known : Open) : Type 0 where
  pub client : (joined_by accesses known).client ≡ known.client
  pub owner : (joined_by accesses known).owner ≡ known.owner
  pub number : (joined_by accesses known).number ≡ known.number
  pub seqid : known.seqid + length accesses < 2 ^ 32
      → (joined_by accesses known).seqid ≡ known.seqid + length accesses

abbrev pub JoinsAreCounted : Type 0
JoinsAreCounted = (accesses : List ℕ) (known : Open) → IsJoinedBy accesses known

-- In every other run it is bad for each operation that is executed, whoever asks, on whatever file.
abbrev pub EveryOtherRunRefuses : Type 0
EveryOtherRunRefuses = (run other : ℕ) (entry : Entry) (arguments : OpenArguments)
    (answer : OpenAnswer) (new : Serving) (limits : ServerLimits) (start : Tree)
    (seats : Seats) (serving : Serving) (history : RunHistory) (event : Event) (used : Entry)
    → run < 2 ^ 32 → other < 2 ^ 32 → other ≢ run → WasAnswered run entry arguments answer new
    → IsRun (mounted limits other start seats) serving history → executed serving event ≡ Some used
    → found used.state.opens used.state.context answer.state ≡ Refused status.BadStateId

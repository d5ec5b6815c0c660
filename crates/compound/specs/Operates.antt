-- One operation that was read, with the room that the reply has for its result, by the definition.
use Rattle.std.specs.Prelude.{◌≡◌, ℕ, ◌+◌, ◌≤◌, ◌<◌, ◌^◌, Bool, true, false, List, ◌++◌, length, Some, ⊤}
use Rattle.std.specs.Int.{w32}
use Rattle.fs.specs.FileSystem.{FileSystem}
use Rattle.layout.specs.declared.versions.VersionNumber.{VersionNumber}
use Rattle.model.specs.Operations.Answer as model
use Rattle.model.specs.Operations.Context.{at_node, saving, restored, without_stateid}
use Rattle.model.specs.Operations.Open.{at_opened}
use Rattle.model.specs.Sessions.Opens.{Opens}
use Rattle.model.specs.Operations.Operation.{Argument, operation_of}
use Rattle.model.specs.Sessions.Session.{Table}
use Rattle.model_tree.specs.Trees.Tree.{Tree}
use Rattle.model.specs.Wire.WireAnswers as answers
use Rattle.model.specs.Server.World as turns
use Rattle.model.specs.Server.World.{World, InProgress, HasRun, run, in_room, outcome_text, reply_with}
use Rattle.session.specs.Views.{reply_kept}
use Rattle.wire.specs.Numbers.{number_of}
use Rattle.wire.specs.OutcomeView.{outcome_view}
use Rattle.wire.specs.declared.outcome.Outcome.{Outcome}
use Rattle.wire.specs.SmallViews.{state_view}
use Rattle.xdr.specs.Forms.{counted}
use Rattle.xdr.specs.Grammar.{number}
use Rattle.compound.specs.Runs.{with_rest}
use Rattle.compound.specs.States.{SharedState, HasState, with_state, shared}
use Rattle.compound.specs.Views.{slot_of}
use Rattle.compound.specs.declared.executed.Effect.{Effect}
use Rattle.compound.specs.declared.executed.Effect.TheVariants as effect
use Rattle.compound.specs.declared.executed.Executed.{Executed}
use Rattle.compound.specs.declared.executed.Executed.TheVariants as execution
use Rattle.compound.specs.declared.results.TheConstants.{AROUND_RESULTS, MAX_REPLY_BYTES}

abbrev pub left_by_effect : Effect → InProgress → InProgress
left_by_effect effect.Stays request = request
left_by_effect (effect.Moves number) request =
    record request { context = at_node request.context number }
left_by_effect effect.Saves request = record request { context = saving request.context }
left_by_effect effect.Restores request = record request { context = restored request.context }
left_by_effect (effect.Opens number state) request =
    record request { context = at_opened request.context number (state_view state) }
left_by_effect effect.Closes request = record request { context = without_stateid request.context }
left_by_effect (effect.Joins slot client) request =
    record request {
      context = record request.context { client = client };
      slot = Some (slot_of slot);
    }

-- the operation runs, and its result is there if the reply has room for it
abbrev pub run_in_room : World → InProgress → (now : ℕ) → Argument → HasRun
run_in_room world request now operation =
    in_room world request (operation_of operation) (run world request now operation)

-- in each such world, whatever follows it, the operation comes to this, before its room is tested
abbrev pub RunsTo : (now : ℕ) → (old new : SharedState) → (request left : InProgress) → Argument
    → model.Outcome → Type 0
RunsTo now old new request left operation outcome =
    (world : World) (rest : List ℕ) → HasState world old
    → run world (with_rest request rest) now operation
    ≡ turns.Gives outcome (with_state world new) (with_rest left rest)

-- in each such world, whatever follows it, the operation gives this
abbrev pub GivesIn : (now : ℕ) → (old new : SharedState) → (request left : InProgress) → Argument
    → model.Outcome → Type 0
GivesIn now old new request left operation outcome =
    (world : World) (rest : List ℕ) → HasState world old
    → run_in_room world (with_rest request rest) now operation
    ≡ turns.Gives outcome (with_state world new) (with_rest left rest)

-- a result's number, the status OK, and these values after it
abbrev pub encoded_text : (operation : ℕ) → (values : List ℕ) → List ℕ
encoded_text operation values = number w32 operation ++ (number w32 0 ++ values)

-- this answer of the operation is encoded so after its status
pub record EncodesAnswer (operation : ℕ) (values : List ℕ) (answer : model.Answer) : Type 0 where
  pub number_is : (answers.encoded_answer answer).number ≡ operation
  pub values_are : (answers.encoded_answer answer).text ≡ values

abbrev pub Operates : (now : ℕ) → (old new : SharedState) → InProgress → Argument → Executed
    → Type 0
Operates now old new request operation (execution.Gives outcome left) =
    GivesIn now old new request (left_by_effect left request) operation (outcome_view outcome)
Operates now old new request operation (execution.GivesValues kind values) =
    (answer : model.Answer) × EncodesAnswer (number_of kind) values.items answer
    × GivesIn now old new request request operation (model.Done answer)
Operates now old new request operation (execution.Replays slot) =
    (reply : List ℕ) × (new ≡ old) × (reply_kept slot.session slot.slot old.table ≡ Some reply)
    × ((world : World) (rest : List ℕ) → HasState world old
    → run_in_room world (with_rest request rest) now operation
    ≡ turns.Replays reply slot.session slot.slot)

-- all stays as it was, except its COMPOUND
abbrev pub OnlyReads : FileSystem → InProgress → Argument → Executed → Type 0
OnlyReads files request operation done = (now : ℕ) (table : Table) (opens : Opens)
    → Operates now (shared files table opens) (shared files table opens) request operation done

-- the file system and the opens stay as they were
abbrev pub ChangesTable : (old new : Table) → InProgress → Argument → Executed → Type 0
ChangesTable old new request operation done = (now : ℕ) (files : FileSystem) (opens : Opens)
    → Operates now (shared files old opens) (shared files new opens) request operation done

-- the file system, whose volume has this version, and the opens stay as they were
abbrev pub ChangesTableIn : VersionNumber → (old new : Table) → Opens → InProgress → Argument
    → Executed → Type 0
ChangesTableIn version old new opens request operation done = (now : ℕ) (files : FileSystem)
    → files.volume.version ≡ version
    → Operates now (shared files old opens) (shared files new opens) request operation done

-- the clients, the sessions and the opens stay as they were
abbrev pub ChangesTree : (old new : FileSystem) → (now : ℕ) → InProgress → Argument → Executed
    → Type 0
ChangesTree old new now request operation done = (table : Table) (opens : Opens)
    → Operates now (shared old table opens) (shared new table opens) request operation done

-- the clients and the sessions stay as they were
abbrev pub ChangesTreeAndOpens : (old new : FileSystem) → (before after : Opens) → (now : ℕ)
    → InProgress → Argument → Executed → Type 0
ChangesTreeAndOpens old new before after now request operation done = (table : Table)
    → Operates now (shared old table before) (shared new table after) request operation done

-- the world after it, and the tree
abbrev pub world_by : World → HasRun → World
world_by world (turns.Gives outcome after left) = after
world_by world (turns.Replays reply session slot) = world

abbrev pub tree_by : World → HasRun → Tree
tree_by world ran = (world_by world ran).tree

-- an OK result has room in the reply, whatever follows the operation
abbrev pub HasRoom : InProgress → model.Outcome → Type 0
HasRoom request (model.Done answer) =
    length (reply_with request (model.Done answer)) ≤ MAX_REPLY_BYTES
HasRoom request (model.Refused operation reason) = ⊤

-- the OK result of this answer, which is encoded in few bytes
pub record IsShortOutcome (answer : model.Answer) (outcome : Outcome) : Type 0 where
  pub is : outcome_view outcome ≡ model.Done answer
  pub fits : answers.outcome.Fits (outcome_view outcome)
  pub small : length (outcome_text (outcome_view outcome)) < 2 ^ 63

-- a reply has room for these bytes after the results so far
abbrev pub HasRoomFor : InProgress → (text : List ℕ) → Type 0
HasRoomFor request text =
    AROUND_RESULTS + length (counted request.tag) + length request.results + length text
    ≤ MAX_REPLY_BYTES

-- a result can be encoded, in few bytes
pub record IsEncoded (request : InProgress) (outcome : model.Outcome) : Type 0 where
  pub fits : answers.outcome.Fits outcome
  pub small : length (outcome_text outcome) < 2 ^ 63
  pub room : HasRoom request outcome

-- an operation that ran has a result of its own, and the reply has room for it
abbrev pub HasResult : InProgress → Executed → Type 0
HasResult request (execution.Gives outcome left) = IsEncoded request (outcome_view outcome)
HasResult request (execution.GivesValues kind values) =
    HasRoomFor request (encoded_text (number_of kind) values.items)
HasResult request (execution.Replays slot) = ⊥

-- it only reads, and has a result
pub record Reads (files : FileSystem) (request : InProgress) (operation : Argument)
    (done : Executed) : Type 0 where
  pub answered : HasResult request done
  pub gives : OnlyReads files request operation done

-- or its slot keeps the whole reply
abbrev pub IsAnswered : InProgress → Executed → Type 0
IsAnswered request (execution.Gives outcome left) = IsEncoded request (outcome_view outcome)
IsAnswered request (execution.GivesValues kind values) =
    HasRoomFor request (encoded_text (number_of kind) values.items)
IsAnswered request (execution.Replays slot) = ⊤

-- what is sent again is there
abbrev pub IsReplyKept : Table → Executed → Type 0
IsReplyKept table (execution.Gives outcome left) = Unit {0}
IsReplyKept table (execution.GivesValues kind values) = Unit {0}
IsReplyKept table (execution.Replays slot) =
    (reply : List ℕ) × (reply_kept slot.session slot.slot table ≡ Some reply)

-- the operations that come only first in a COMPOUND
abbrev pub comes_first : Argument → Bool
comes_first (Argument.ExchangeId arguments) = true
comes_first (Argument.CreateSession arguments) = true
comes_first (Argument.DestroySession id) = true
comes_first (Argument.DestroyClientId client) = true
comes_first (Argument.Sequence arguments) = true
comes_first _ = false

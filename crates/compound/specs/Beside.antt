-- What the operations of a COMPOUND see of a file system, and of what is open beside it.
use Rattle.std.specs.Prelude.{◌≡◌, ℕ, Bool, List, length, nat_le, Some, Result, Ok, Err}
use Rattle.fs.specs.FileSystem.{FileSystem}
use Rattle.fs.specs.Opening.{has_room_for, set_by}
use Rattle.fs.specs.declared.opening.OpenEffect.{OpenEffect}
use Rattle.fs.specs.declared.opening.OpenRoom.{OpenRoom}
use Rattle.fs.specs.Operations.{does_on}
use Rattle.model.specs.Operations.Answer.{Answer, Done}
use Rattle.model.specs.Operations.Context.{without_stateid}
use Rattle.model.specs.Sessions.Opens.{Open, Opens}
use Rattle.model.specs.Operations.Open.{at_opened, no_change_info}
use Rattle.model.specs.Operations.Operation.{Argument, ChangeInfo, CloseArguments, OpenType, StateId}
use Rattle.model_tree.specs.Refusals.Refusal.{first_refusal}
use Rattle.model.specs.Operations.Step.{State, answered, refused}
use Rattle.model.specs.Sessions.StateIds.{Found, Names, close_refusals, closed_state, opened, without_open}
use Rattle.model.specs.Server.World.{InProgress, reply_with}
use Rattle.model_tree.specs.declared.status.Status.{Status}
use Rattle.opens.specs.Views.{opened_stateid}
use Rattle.compound.specs.Operates.{RunsTo}
use Rattle.compound.specs.States.{SharedState}
use Rattle.compound.specs.Trees.{IsHere}
use Rattle.compound.specs.declared.results.TheConstants.{MAX_REPLY_BYTES}

-- a state of the request on this file system, with these opens
pub record IsBeside (fs : FileSystem) (opens : Opens) (request : InProgress) (state : State) : Type
    0 where
  pub here : IsHere fs request state
  pub opens_is : state.opens ≡ opens

-- CLOSE

abbrev pub closed_answer : Answer
closed_answer = Answer.Close closed_state

-- a stateid with this meaning names the open of a serial, or is refused
abbrev pub EndsOpen : Found → Result ℕ Status → Type 0
EndsOpen meaning (Ok serial) = (known : Open) × (meaning ≡ Names serial known)
EndsOpen meaning (Err reason) = first_refusal (close_refusals meaning) ≡ Some reason

-- the open of this serial ends by the definition, or the definition refuses it with this
abbrev pub Closes : FileSystem → Opens → InProgress → CloseArguments → Result ℕ Status → Type 0
Closes fs opens request arguments (Ok serial) =
    (state : State) (now : ℕ) → IsBeside fs opens request state
    → does_on fs state now (Argument.Close arguments)
    ≡ answered
    (record {
      tree = fs.volume.tree;
      changes = fs.changes;
      opens = without_open serial opens;
      context = without_stateid request.context;
    }) closed_answer
Closes fs opens request arguments (Err reason) =
    (state : State) (now : ℕ) → IsBeside fs opens request state
    → does_on fs state now (Argument.Close arguments)
    ≡ refused state (Argument.Close arguments) reason

-- OPEN

-- what it returns, of its directory and of the attributes that were set
abbrev pub opened_answer : StateId → ChangeInfo → (was_set : List ℕ) → Answer
opened_answer state change was_set =
    Answer.Open (record { state = state; change = change; flags = 0; was_set = was_set })

-- whether the reply has room for it, which depends only on what was set
abbrev pub has_opened_room : InProgress → (was_set : List ℕ) → Bool
has_opened_room request was_set =
    nat_le (length (reply_with request (Done (opened_answer closed_state no_change_info was_set))))
    MAX_REPLY_BYTES

-- and for each effect that an OPEN by a name may have
abbrev pub HasOpenRoom : InProgress → OpenType → OpenRoom → Type 0
HasOpenRoom request how room =
    (effect : OpenEffect) → has_room_for room effect ≡ has_opened_room request (set_by effect how)

-- an operation comes to this open, with this change of its directory and these attributes set
abbrev pub ComesToOpen : (now : ℕ) → (old new : SharedState) → InProgress → (asked : Open)
    → ChangeInfo
    → (was_set : List ℕ) → Argument → Type 0
ComesToOpen now old new request asked change was_set operation =
    let state = opened_stateid request.context.run (opened old.opens asked) in
    RunsTo now old new request
    (record request { context = at_opened request.context asked.number state }) operation
    (Done (opened_answer state change was_set))

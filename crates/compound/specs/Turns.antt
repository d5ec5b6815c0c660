-- How a turn is made of an operation that ran, and of what follows its result.
use Rattle.std.specs.Prelude.{◌≡◌, ℕ, Bool, true, false, List, Option, Some, None}
use Rattle.model.specs.Operations.Answer as model
use Rattle.model.specs.Wire.Record.{framed}
use Rattle.model.specs.Wire.Rpc.{Success, reply_text}
use Rattle.model_tree.specs.Seats.SeatEdits.{edited_all, edits_view}
use Rattle.model.specs.Sessions.Session.{Table}
use Rattle.model.specs.Server.World as turns
use Rattle.model.specs.Server.World.{World, InProgress, Entry, Turned, behind, kept_by, with_connection, with_table}
use Rattle.model_tree.specs.declared.seat_edits.SeatEdits.{SeatEdits}
use Rattle.session.specs.Views.{reply_kept}
use Rattle.wire.specs.Numbers.{number_of}
use Rattle.wire.specs.OutcomeView.{outcome_view}
use Rattle.compound.specs.Operates.{EncodesAnswer, left_by_effect}
use Rattle.compound.specs.Runs.{noted, with_rest}
use Rattle.compound.specs.Views.{Asked}
use Rattle.compound.specs.States.{SharedState, HasState, with_state}
use Rattle.compound.specs.Steps.{stepped_on, turn_of_step, connection_by}
use Rattle.compound.specs.declared.executed.Executed.{Executed}
use Rattle.compound.specs.declared.executed.Executed.TheVariants as execution
use Rattle.compound.specs.declared.step.Stepped.{Stepped}

-- a kept reply is sent again
abbrev pub repeated : World → (number : ℕ) → InProgress → (reply session : List ℕ) → (slot : ℕ)
    → Turned
repeated world number request reply session slot = record {
  turn = turns.Answered;
  world =
      with_connection world number
      (turns.Replied (framed (reply_text request.xid (Success reply))));
  executed = None;
  keeps = None;
  holds = false;
  replays = Some (session, slot);
}

-- on each connection of each such world, a turn of the request comes to this result, after which it
-- is left so
abbrev pub TurnsTo : (now : ℕ) → (old new : SharedState) → (request left : InProgress)
    → model.Outcome → Type 0
TurnsTo now old new request left outcome =
    (world : World) (number : ℕ) → HasState world old
    → (executed : Option Entry)
    × (stepped_on world number now request
    ≡ behind (with_state world new) number left outcome executed)

-- the same, if the next operation did this, ends at the beginning of these bytes, and made a change
-- that has to last or made none
abbrev pub TurnsExecuted : (now : ℕ) → (old new : SharedState) → InProgress → (rest : List ℕ)
    → (altered : Bool) → Executed → Type 0
TurnsExecuted now old new request rest altered (execution.Gives outcome left) =
    TurnsTo now old new request (noted altered (with_rest (left_by_effect left request) rest))
    (outcome_view outcome)
TurnsExecuted now old new request rest altered (execution.GivesValues kind values) =
    (answer : model.Answer) × EncodesAnswer (number_of kind) values.items answer
    × TurnsTo now old new request (noted altered (with_rest request rest)) (model.Done answer)
TurnsExecuted now old new request rest altered (execution.Replays slot) =
    (reply : List ℕ) × (new ≡ old) × (reply_kept slot.session slot.slot old.table ≡ Some reply)
    × ((world : World) (number : ℕ) → HasState world old
    → stepped_on world number now request
    ≡ repeated world number request reply slot.session slot.slot)

-- on each connection of each world with this table, this is what a result makes of the request
abbrev pub ResultLeaves : (old new : Table) → Asked → InProgress → model.Outcome → Stepped → Type 0
ResultLeaves old new asked request outcome done =
    (world : World) (number : ℕ) (executed : Option Entry) → world.table ≡ old
    → ((behind world number request outcome executed).turn ≡ turn_of_step done)
    × ((behind world number request outcome executed).world
    ≡ with_connection (with_table world new) number (connection_by asked done))

-- the edits of the seats by which one holds the reply, or none
abbrev pub AreOfReply : (slot : Option (List ℕ × ℕ)) → (result : List ℕ) → Table → Option SeatEdits
    → Type 0
AreOfReply slot result table None = Unit {0}
AreOfReply slot result table (Some edits) =
    edited_all (edits_view edits) table.seats ≡ (kept_by slot true result table).seats

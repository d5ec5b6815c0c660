-- Progress: the reply to a call is there once its connection has had a turn for each operation of
-- the call and one more, whatever else happens between.
use Rattle.std.specs.Prelude.{ℕ, suc, ◌+◌, ◌<◌, ◌≤◌, ◌≡◌, true, List, Some}
use Rattle.model_tree.specs.Trees.Keyed.{at}
use Rattle.model.specs.Wire.Rpc.{CallRead, NoCall, OtherVersion, Calls, Request, Answers, Runs, read_call, is_call_read, request_of}
use Rattle.model.specs.Server.RuledOut.{request_at}
use Rattle.model.specs.Server.Runs.{Event, effect_of}
use Rattle.model.specs.Server.World.{World, InProgress, Waiting, Replied, one}
use Rattle.client.specs.Whole.{IsElsewhere}

-- how often a connection has a turn, with whatever else happens between
pub data HasTurns (number : ℕ) : (turns : ℕ) → World → World → Type 0 where
  Rests : {world : World} → HasTurns number 0 world world
  Beside : {turns : ℕ} {world last : World} (event : Event) → IsElsewhere number event
      → HasTurns number turns (effect_of world event) last
      → HasTurns number turns world last
  Takes_turn : {turns : ℕ} {world last : World} (now : ℕ)
      → HasTurns number turns (one world number now).world last
      → HasTurns number (suc turns) world last

-- the reply is there, to be taken
abbrev pub HasReply : World → (number : ℕ) → Type 0
HasReply world number = (reply : List ℕ) × (at number world.connections ≡ Some (Replied reply))

-- the operations of a call; 0 if no COMPOUND is run
abbrev pub operations_by : Request → ℕ
operations_by (Answers reply) = 0
operations_by (Runs cred compound) = compound.count

abbrev pub operations_of : CallRead → ℕ
operations_of NoCall = 0
operations_of (OtherVersion xid) = 0
operations_of (Calls call) = operations_by (request_of call)

-- of a call that has come and waits for its first turn
abbrev pub EveryCallIsAnswered : Type 0
EveryCallIsAnswered = (world last : World) (number turns : ℕ) (bytes : List ℕ)
    → at number world.connections ≡ Some (Waiting bytes) → is_call_read (read_call bytes) ≡ true
    → operations_of (read_call bytes) + 1 ≤ turns → HasTurns number turns world last
    → HasReply last number

-- and of a request, begun or not, some of whose operations are left
abbrev pub EveryRequestIsAnswered : Type 0
EveryRequestIsAnswered = (world last : World) (number turns : ℕ) (request : InProgress)
    → request_at world (at number world.connections) ≡ Some request
    → request.answered < request.count → request.count + 1 ≤ request.answered + turns
    → HasTurns number turns world last → HasReply last number

-- An exchange: the record that a client sends arrives, in pieces or at once, its operations are run
-- one a turn, whatever else happens between, and from the reply the client returns the outcomes.
use Rattle.std.specs.Prelude.{◌≡◌, ◌<◌, ◌^◌, ⊤, ℕ, List, [], ◌∷◌, length, None, Some}
use Rattle.std.specs.List.{AllByRecursion}
use Rattle.model_tree.specs.declared.acl.Cred.{Cred}
use Rattle.model_tree.specs.declared.status.Status.{Status}
use Rattle.model.specs.Operations.Answer.{Outcome}
use Rattle.model_tree.specs.Trees.Keyed.{at}
use Rattle.model.specs.Operations.Operation.{Argument}
use Rattle.model.specs.Server.RuledOut.{IsOutcome, request_at}
use Rattle.model.specs.Server.Runs.{Event, Arrives, Turns, HangsUp, Connects, Takes, effect_of}
use Rattle.model.specs.Wire.WireAnswers.{outcome}
use Rattle.model.specs.Wire.WireArguments.{argument}
use Rattle.model.specs.Server.World.{World, InProgress, Busy, Replied, next_operation, one, arrives}
use Rattle.client.specs.Client.{Client}
use Rattle.client.specs.Replies.{Gives, reply_to}
use Rattle.client.specs.Requests.{credential_text, call_text, record_text, new_record}
use Rattle.client.specs.Joined.{CanBeSent, IsWhole, IsWithin}

-- an event of another connection, or bytes, which a connection that has a request does not take
abbrev pub IsElsewhere : (number : ℕ) → Event → Type 0
IsElsewhere number (Arrives connection piece) = ⊤
IsElsewhere number (Turns connection now) = connection ≡ number → ⊥
IsElsewhere number (HangsUp connection) = connection ≡ number → ⊥
IsElsewhere number (Connects connection) = ⊤
IsElsewhere number (Takes connection) = connection ≡ number → ⊥

-- The turns of a connection, with whatever else happens between: the outcomes of the operations of
-- its request, one a turn, and the reply, there with the last of them, or in a turn of its own if a
-- seat holds it first. A reply that a slot keeps has no outcome of its own.
pub data IsAnsweredBy (number : ℕ) : World → List Outcome → (reply : List ℕ) → Type 0 where
  Elsewhere : {world : World} {outcomes : List Outcome} {reply : List ℕ} (event : Event)
      → IsElsewhere number event → IsAnsweredBy number (effect_of world event) outcomes reply
      → IsAnsweredBy number world outcomes reply
  Goes_on : {world : World} {outcomes : List Outcome} {reply : List ℕ} (now : ℕ)
      (request after : InProgress) (first : Outcome)
      → request_at world (at number world.connections) ≡ Some request
      → at number (one world number now).world.connections ≡ Some (Busy after)
      → IsOutcome world request (next_operation request) first (one world number now).executed
      (one world number now).world.tree
      → IsAnsweredBy number (one world number now).world outcomes reply
      → IsAnsweredBy number world (first ∷ outcomes) reply
  Ends : {world : World} {reply : List ℕ} (now : ℕ) (request : InProgress) (last : Outcome)
      → request_at world (at number world.connections) ≡ Some request
      → at number (one world number now).world.connections ≡ Some (Replied reply)
      → (one world number now).replays ≡ None
      → IsOutcome world request (next_operation request) last (one world number now).executed
      (one world number now).world.tree
      → IsAnsweredBy number world (last ∷ []) reply
  Holds : {world : World} {reply : List ℕ} (now : ℕ) (request : InProgress) (last : Status)
      → at number world.connections ≡ Some (Busy request) → request.ended ≡ Some last
      → at number (one world number now).world.connections ≡ Some (Replied reply)
      → IsAnsweredBy number world [] reply

-- The client's record holds these operations, arrives, and gets these outcomes. What is sent and
-- what is replied can be encoded, and the reply is one fragment.
pub record IsExchange (client : Client) (cred : Cred) (operations : List Argument) (xid : ℕ)
    (world : World) (number : ℕ) (outcomes : List Outcome) (reply : List ℕ) : Type 0 where
  pub sent : client.sent
      ≡ Some (new_record xid (credential_text cred) client.tag operations)
  pub can : CanBeSent xid cred client.tag operations
  pub fits : AllByRecursion argument.Fits operations
  pub within : IsWithin world (call_text xid (credential_text cred) client.tag operations)
  -- the last piece of it
  pub piece : List ℕ
  pub whole : IsWhole (record_text xid (credential_text cred) client.tag operations) world number
      piece
  pub answered : IsAnsweredBy number (arrives world number piece) outcomes reply
  pub short : length reply < 2 ^ 31
  pub told : AllByRecursion outcome.Fits outcomes

-- the client returns these outcomes, and no others
abbrev pub EveryExchange : Type 0
EveryExchange =
    (client : Client) (cred : Cred) (operations : List Argument) (xid : ℕ) (world : World)
    (number : ℕ) (outcomes : List Outcome) (reply : List ℕ)
    → IsExchange client cred operations xid world number outcomes reply
    → (last : Status) × (reply_to client reply ≡ Gives outcomes last)

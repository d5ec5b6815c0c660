-- A record that a client sends again, since no reply came: on a new connection of the same run, or
-- of a later one. A reply that a slot keeps, or a seat holds over a crash, is sent again, and nothing
-- runs.
use Rattle.std.specs.Prelude.{◌≡◌, ℕ, suc, List, ◌∷◌, length, find, None, Some}
use Rattle.model_tree.specs.Seats.Seats.{held_at}
use Rattle.model_tree.specs.declared.acl.Cred.{Cred}
use Rattle.model_tree.specs.declared.status.Status.{Status}
use Rattle.model.specs.Operations.Answer.{Outcome}
use Rattle.model.specs.Operations.Operation.{Argument, SequenceArguments}
use Rattle.model.specs.Server.World.{World, Replied, Turned, arrives, one, with_connection}
use Rattle.model.specs.Sessions.Session.{Table, Replays, begin, is_session}
use Rattle.model.specs.Wire.Record.{framed}
use Rattle.model.specs.Wire.Rpc.{Success, reply_text}
use Rattle.model.specs.Wire.WireArguments.{argument}
use Rattle.client.specs.Client.{Client}
use Rattle.client.specs.Joined.{CanBeSent, IsWhole, IsWithin}
use Rattle.client.specs.Replies.{Gives, reply_to}
use Rattle.client.specs.Requests.{call_text, credential_text, record_text}
use Rattle.client.specs.Whole.{IsExchange}

-- A record that begins with this SEQUENCE has come again, with this piece of it, and SEQUENCE finds
-- the result of its COMPOUND.
pub record IsResent (xid : ℕ) (cred : Cred) (tag : List ℕ) (sequence : SequenceArguments)
    (others : List Argument) (world : World) (number : ℕ) (piece result : List ℕ) : Type 0 where
  pub can : CanBeSent xid cred tag (Argument.Sequence sequence ∷ others)
  pub fits : argument.Fits (Argument.Sequence sequence)
  pub within : IsWithin world
      (call_text xid (credential_text cred) tag (Argument.Sequence sequence ∷ others))
  pub whole : IsWhole
      (record_text xid (credential_text cred) tag (Argument.Sequence sequence ∷ others)) world
      number piece
  pub found : begin cred.uid (suc (length others)) sequence world.table ≡ Replays result

-- Its turn runs nothing: it replies with this result, and nothing else changes.
pub record IsReplayed (xid : ℕ) (world : World) (number : ℕ) (result : List ℕ) (turned : Turned)
    : Type 0 where
  pub runs_nothing : turned.executed ≡ None
  pub replies : turned.world
      ≡ with_connection world number (Replied (framed (reply_text xid (Success result))))

abbrev pub EveryResendIsReplayed : Type 0
EveryResendIsReplayed =
    (xid : ℕ) (cred : Cred) (tag : List ℕ) (sequence : SequenceArguments) (others : List Argument)
    (world : World) (number now : ℕ) (piece result : List ℕ)
    → IsResent xid cred tag sequence others world number piece result
    → let there = arrives world number piece in
    IsReplayed xid there number result (one there number now)

-- A crash ended the session. Its seat holds the result under this number, for this user.
pub record IsHeld (uid : ℕ) (sequence : SequenceArguments) (table : Table) (result : List ℕ)
    : Type 0 where
  pub ended : find (is_session sequence.session) table.sessions ≡ None
  pub held : held_at sequence.session sequence.slot table.seats
      ≡ Some (record { number = sequence.sequence; uid = uid; result = result })

abbrev pub EveryHeldIsFound : Type 0
EveryHeldIsFound =
    (uid count : ℕ) (sequence : SequenceArguments) (table : Table) (result : List ℕ)
    → IsHeld uid sequence table result → begin uid count sequence table ≡ Replays result

-- So of a record that got its reply once, in this run or in one that a crash ended, the client that
-- sends it again returns the outcomes of the first time, and no others.
abbrev pub EveryOutcomeIsToldAgain : Type 0
EveryOutcomeIsToldAgain =
    (client : Client) (cred : Cred) (sequence : SequenceArguments) (others : List Argument)
    (xid : ℕ) (first : World) (place : ℕ) (outcomes : List Outcome) (result : List ℕ)
    (later : World) (number now : ℕ) (piece : List ℕ)
    → let reply = framed (reply_text xid (Success result)) in
    IsExchange client cred (Argument.Sequence sequence ∷ others) xid first place outcomes reply
    → IsResent xid cred client.tag sequence others later number piece result
    → let there = arrives later number piece in
    IsReplayed xid there number result (one there number now)
    × ((last : Status) × (reply_to client reply ≡ Gives outcomes last))

-- The two ends of a connection: the record that a client sends is the COMPOUND that the server's
-- definition runs, and from the reply that this makes the client returns its results.
use Rattle.std.specs.Prelude.{◌≡◌, ◌<◌, ◌≤◌, ◌^◌, ℕ, List, ◌++◌, length, Some}
use Rattle.xdr.specs.Laws.{IsBytes}
use Rattle.model_tree.specs.declared.acl.Cred.{Cred}
use Rattle.model_tree.specs.declared.status.Status.{Status}
use Rattle.model.specs.Operations.Answer.{Outcome}
use Rattle.model_tree.specs.Trees.Keyed.{at}
use Rattle.model.specs.Operations.Operation.{Argument}
use Rattle.model.specs.Wire.Record.{Partial, prefix, framed}
use Rattle.model.specs.Wire.Results.{compound_result, AreResults}
use Rattle.model.specs.Wire.Rpc.{Compound, Success, reply_text}
use Rattle.model.specs.Server.RuledOut.{request_at}
use Rattle.model_tree.specs.Refusals.Status.{code_of}
use Rattle.model.specs.Wire.WireTypes.{system_credential}
use Rattle.model.specs.Server.World.{World, InProgress, Quiet, arrives, in_progress, result_of}
use Rattle.client.specs.Client.{Sent}
use Rattle.client.specs.Replies.{Gives, ending, reply_read}
use Rattle.client.specs.Requests.{credential_of, credential_text, operations_text, call_text, record_text}

-- The request

abbrev pub compound_sent : (tag : List ℕ) → List Argument → Compound
compound_sent tag operations = record {
  tag = tag;
  count = length operations;
  operations = operations_text operations;
}

-- what a client may send: a caller, a tag and operations that are there, in bytes
pub record CanBeSent (xid : ℕ) (cred : Cred) (tag : List ℕ) (operations : List Argument)
    : Type 0 where
  pub xid_fits : xid < 2 ^ 32
  pub cred_fits : system_credential.Fits (credential_of cred)
  pub cred_short : length (credential_text cred) ≤ 400
  pub cred_bytes : IsBytes (credential_text cred)
  pub tag_short : length tag ≤ 255
  pub some : 0 < length operations
  pub counted : length operations < 2 ^ 32
  pub bytes : IsBytes (call_text xid (credential_text cred) tag operations)

-- and its record is within the limits of the server
pub record IsWithin (world : World) (bytes : List ℕ) : Type 0 where
  pub size : length bytes ≤ world.limits.records.bytes
  pub short : length bytes < 2 ^ 31
  pub fragments : 0 < world.limits.records.fragments

-- With this piece the bytes that came on a connection are these; the pieces before it wait there.
pub record IsWhole (bytes : List ℕ) (world : World) (number : ℕ) (piece : List ℕ) : Type 0 where
  pub so_far : List ℕ
  pub has : at number world.connections ≡ Some (Quiet so_far)
  pub joins : so_far ++ piece ≡ bytes

-- a piece that ends no record waits
abbrev pub EveryPieceWaits : Type 0
EveryPieceWaits =
    (world : World) (number : ℕ) (so_far piece : List ℕ)
    → at number world.connections ≡ Some (Quiet so_far)
    → prefix world.limits.records (so_far ++ piece) ≡ Partial
    → at number (arrives world number piece).connections ≡ Some (Quiet (so_far ++ piece))

-- once the record is whole, the request that goes on is this caller's, with these operations
abbrev pub EveryRecordIsAsked : Type 0
EveryRecordIsAsked =
    (world : World) (number xid : ℕ) (cred : Cred) (tag : List ℕ) (operations : List Argument)
    (piece : List ℕ)
    → CanBeSent xid cred tag operations
    → IsWithin world (call_text xid (credential_text cred) tag operations)
    → IsWhole (record_text xid (credential_text cred) tag operations) world number piece
    → let after = arrives world number piece in
    request_at after (at number after.connections)
    ≡ Some (in_progress after xid cred (compound_sent tag operations))

-- The reply

-- A request that ends gets this reply; if its results are those of the operations that the client
-- sent, the client returns them, and no others.
abbrev pub EveryReplyIsTold : Type 0
EveryReplyIsTold =
    (tag : List ℕ) (sent : Sent) (request : InProgress) (outcomes : List Outcome) (last : Status)
    → request.xid ≡ sent.xid → request.tag ≡ tag → sent.xid < 2 ^ 32
    → AreResults request outcomes → ending sent.operations outcomes ≡ Some last
    → compound_result.Fits (code_of last, (request.tag, outcomes))
    → let reply = reply_text request.xid (Success (result_of request last)) in
    length reply < 2 ^ 31
    → reply_read tag sent (framed reply) ≡ Gives outcomes last

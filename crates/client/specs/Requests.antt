-- What a client sends: a COMPOUND of minor version 1 in one record, after a SEQUENCE if it needs
-- one.
use Rattle.std.specs.Prelude.{ℕ, ◌+◌, ◌%◌, ◌^◌, Bool, true, false, not, List, [], ◌∷◌, ◌++◌, map, length, Option, None, Some, if◌then◌else◌}
use Rattle.std.specs.List.{flat_map}
use Rattle.std.specs.Option.{option_map}
use Rattle.model_tree.specs.declared.acl.Cred.{Cred}
use Rattle.model.specs.Operations.Operation.{Argument, SystemCredential, operation_of}
use Rattle.model.specs.Wire.Record.{framed}
use Rattle.model.specs.Wire.Rpc.{compound_head}
use Rattle.model.specs.Wire.RpcGrammar.{CallHead, call_head}
use Rattle.model.specs.Wire.WireTypes.{system_credential}
use Rattle.model.specs.Wire.WireArguments.{argument}
use Rattle.model.specs.Server.World.{stands_alone}
use Rattle.client.specs.Client.{Client, Session, Sent}

-- The call

-- AUTH_SYS of this caller, with the stamp 0 and no machine name
abbrev pub credential_of : Cred → SystemCredential
credential_of cred = record {
  stamp = 0;
  machine_name = [];
  uid = cred.uid;
  gid = cred.gid;
  gids = cred.gids;
}

abbrev pub credential_text : Cred → List ℕ
credential_text cred = system_credential.encoding (credential_of cred)

-- the procedure COMPOUND, 1, of NFS, 100003, version 4; the credential is AUTH_SYS, 1, and the
-- verifier AUTH_NONE, 0
abbrev pub compound_call : (xid : ℕ) → (credential : List ℕ) → CallHead
compound_call xid credential =
    record {
      xid = xid;
      program = 100003;
      version = 4;
      procedure = 1;
      credential = (1, credential);
      verifier = (0, []);
    }

-- up to the operations, of which there are `count`
unfoldable pub head_text : (xid : ℕ) → (credential tag : List ℕ) → (count : ℕ) → List ℕ
head_text xid credential tag count =
    call_head.encoding (compound_call xid credential) ++ compound_head.encoding (tag, (1, count))

unfoldable pub operations_text : List Argument → List ℕ
operations_text operations = flat_map argument.encoding operations

unfoldable pub call_text : (xid : ℕ) → (credential tag : List ℕ) → List Argument → List ℕ
call_text xid credential tag operations =
    head_text xid credential tag (length operations) ++ operations_text operations

-- the record as it is sent
unfoldable pub record_text : (xid : ℕ) → (credential tag : List ℕ) → List Argument → List ℕ
record_text xid credential tag operations = framed (call_text xid credential tag operations)

-- a client that sent nothing
abbrev pub new_client : Cred → (tag : List ℕ) → (xid : ℕ) → Client
new_client cred tag xid = record {
  credential = credential_text cred;
  tag = tag;
  xid = xid;
  session = None;
  sent = None;
}

-- The operations of a record

-- SEQUENCE on slot 0, of which the reply is to be kept
abbrev pub sequence_of : Session → Argument
sequence_of session =
    Argument.Sequence
    (record {
      session = session.id;
      sequence = session.number;
      slot = 0;
      highest_slot = 0;
      cache_this = true;
    })

-- EXCHANGE_ID, CREATE_SESSION, DESTROY_SESSION and DESTROY_CLIENTID need no SEQUENCE if sent by
-- themselves
abbrev pub is_alone : List Argument → Bool
is_alone [] = false
is_alone (operation ∷ []) = stands_alone (operation_of operation)
is_alone (operation ∷ further ∷ rest) = false

-- behind the SEQUENCE of a session, if there is one
abbrev pub behind : Option Session → List Argument → List Argument
behind None operations = operations
behind (Some session) operations = sequence_of session ∷ operations

abbrev pub behind_sequence : Option Session → List Argument → Option (List Argument)
behind_sequence None operations = None
behind_sequence (Some session) operations = Some (behind (Some session) operations)

-- none if there is no session yet that they need
abbrev pub in_record : Option Session → List Argument → Option (List Argument)
in_record session operations =
    if is_alone operations then Some operations else behind_sequence session operations

-- The step

-- the record of these operations, which waits for its reply
abbrev pub new_record : (xid : ℕ) → (credential tag : List ℕ) → List Argument → Sent
new_record xid credential tag operations = record {
  xid = xid;
  operations = map operation_of operations;
  bytes = record_text xid credential tag operations;
  is_answered = false;
  is_counted = false;
}

abbrev pub with_record : Client → List Argument → Client
with_record client operations = record client {
  xid = (client.xid + 1) % 2 ^ 32;
  sent = Some (new_record client.xid client.credential client.tag operations);
}

abbrev pub waits : Option Sent → Bool
waits None = false
waits (Some sent) = not sent.is_answered

-- the client with the record of these operations; none if it has to wait
unfoldable pub requested : Client → List Argument → Option Client
requested client operations =
    if waits client.sent
    then None
    else option_map (with_record client) (in_record client.session operations)

abbrev pub bytes_kept : Option Sent → Option (List ℕ)
bytes_kept None = None
bytes_kept (Some sent) = Some sent.bytes

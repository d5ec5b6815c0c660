-- An exchange worked out by hand: the first request of a session with one slot, which is PUTROOTFH
-- behind its SEQUENCE. The definitions compute to it.
use Rattle.std.specs.Prelude.{◌≡◌, ℕ, true, false, List, [], ◌∷◌, None, Some}
use Rattle.model_tree.specs.declared.acl.Cred.{Cred}
use Rattle.model_tree.specs.declared.status.Status.TheVariants as status
use Rattle.model.specs.Operations.Answer.{Answer, Outcome}
use Rattle.model_tree.specs.Trees.Fresh.{fresh_tree}
use Rattle.model_tree.specs.Trees.Limits.{limits_of}
use Rattle.model.specs.Operations.Operation.{Argument}
use Rattle.model.specs.Wire.Rpc.{words}
use Rattle.model_tree.specs.Seats.Seats.{no_seats}
use Rattle.model.specs.Sessions.Session.{Table, no_slot, plain_settings}
use Rattle.model.specs.Server.World.{World, ServerLimits, Quiet, mounted_world}
use Rattle.client.specs.Client.{Client, Session}
use Rattle.client.specs.Requests.{call_text, credential_text, new_client, requested, sequence_of, with_record}
use Rattle.client.specs.Replies.{Gives, reply_to}
use Rattle.client.specs.Whole.{IsExchange}

abbrev pub caller : Cred
caller = record { uid = 7; gid = 7; gids = [] }

-- the session is the first one of the client 4294967297
abbrev pub session : Session
session = record { id = words (1 ∷ 1 ∷ 0 ∷ 1 ∷ []); number = 1 }

-- the client that knows it, before the request and after it
abbrev pub asking : Client
asking = record (new_client caller [] 5) { session = Some session }

abbrev pub operations : List Argument
operations = sequence_of session ∷ Argument.PutRootFh ∷ []

abbrev pub client : Client
client = with_record asking operations

-- the call of it: its head with the procedure 1, AUTH_SYS and AUTH_NONE, the tag, the minor
-- version, and two operations, of which 53 is SEQUENCE and 24 PUTROOTFH
abbrev pub call : List ℕ
call = words
    (5 ∷ 0 ∷ 2 ∷ 100003 ∷ 4 ∷ 1 ∷ 1 ∷ 20 ∷ 0 ∷ 0 ∷ 7 ∷ 7 ∷ 0 ∷ 0 ∷ 0 ∷ 0 ∷ 1 ∷ 2 ∷ 53 ∷ 1 ∷ 1 ∷ 0 ∷ 1
    ∷ 1 ∷ 0 ∷ 0 ∷ 1 ∷ 24 ∷ [])

-- the server, on a fresh volume in its first run, with that session and one connection
abbrev pub limits : ServerLimits
limits = record {
  volume = limits_of 256 16;
  sessions = record {
    clients = 1;
    sessions = 1;
    slots = 1;
    seat_slots = 1;
    operations = 8;
    record_bytes = 1024;
  };
  records = record { bytes = 1024; fragments = 1 };
  connections = 2;
  settings = plain_settings;
  reply_bytes = 1024;
}

abbrev pub table : Table
table = record {
  run = 1;
  settings = plain_settings;
  client_serial = 1;
  session_serial = 1;
  clients =
      record {
        number = 4294967297;
        owner = 1 ∷ [];
        verifier = words (0 ∷ 1 ∷ []);
        principal = 7;
        is_confirmed = true;
        has_reclaimed = false;
        sequence = 2;
        kept = None;
      }
      ∷ [];
  sessions =
      record { client = 4294967297; serial = 1; max_operations = 8; slots = no_slot ∷ [] } ∷ [];
  seats = no_seats;
}

abbrev pub world : World
world =
    record (mounted_world limits 1 fresh_tree no_seats) {
      table = table;
      connections = (0, Quiet []) ∷ [];
    }

-- the outcomes in the reply
abbrev pub outcomes : List Outcome
outcomes =
    Outcome.Done
    (Answer.Sequence
    (record {
      session = session.id;
      sequence = 1;
      slot = 0;
      highest_slot = 0;
      target_highest_slot = 0;
      flags = 0;
    }))
    ∷ Outcome.Done Answer.PutRootFh ∷ []

-- a fragment of 88 bytes: the xid, accepted with AUTH_NONE, then status, tag and two results
abbrev pub reply : List ℕ
reply = words
    (0x80000058 ∷ 5 ∷ 1 ∷ 0 ∷ 0 ∷ 0 ∷ 0 ∷ 0 ∷ 0 ∷ 2 ∷ 53 ∷ 0 ∷ 1 ∷ 1 ∷ 0 ∷ 1 ∷ 1 ∷ 0 ∷ 0 ∷ 0 ∷ 0
    ∷ 24 ∷ 0 ∷ [])

pub record ExchangeExample : Type 0 where
  pub call_is : call_text 5 (credential_text caller) [] operations ≡ call
  pub asks : requested asking (Argument.PutRootFh ∷ []) ≡ Some client
  -- between its two turns another connection is made
  pub exchanges : IsExchange client caller operations 5 world 0 outcomes reply
  pub tells : reply_to client reply ≡ Gives outcomes status.Ok

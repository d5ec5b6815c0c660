-- What a reply says of a record, and what the client knows from it: RFC 8881, sections 2.10.6.1,
-- 16.2 and 18.36; RFC 5531, section 9.
use Rattle.std.specs.Prelude.{ℕ, ◌+◌, ◌%◌, ◌^◌, Bool, true, false, not, ◌&&◌, ◌||◌, ◌==◌, List, [], ◌∷◌, length, fold, Option, None, Some, Result, Ok, Err, bytes_eq, if◌then◌else◌}
use Rattle.std.specs.Option.{option_map}
use Rattle.std.specs.Int.{w32}
use Rattle.xdr.specs.declared.refusal.Refusal.{Refusal}
use Rattle.xdr.specs.Grammar.{number_at}
use Rattle.model_tree.specs.declared.status.Status.{Status}
use Rattle.model_tree.specs.declared.status.Status.TheVariants as status
use Rattle.model_tree.specs.Refusals.Status.{code_of}
use Rattle.model.specs.Operations.Answer.{Answer, Outcome, Done, Refused}
use Rattle.model.specs.Operations.OperationNumber.{OP_SEQUENCE}
use Rattle.model.specs.Wire.Results.{compound_result}
use Rattle.model.specs.Wire.Rpc.{Reply, Success, is_empty}
use Rattle.model.specs.Wire.RpcGrammar.{read_reply}
use Rattle.model.specs.Wire.WireAnswers.{encoded_outcome}
use Rattle.client.specs.Client.{Client, Session, Sent}

-- The results of the operations of a record

-- its operation's number
abbrev pub outcome_number : Outcome → ℕ
outcome_number one = (encoded_outcome one).number

abbrev pub status_of : Outcome → Status
status_of (Done answer) = status.Ok
status_of (Refused operation reason) = reason

abbrev pub is_ok : Outcome → Bool
is_ok (Done answer) = true
is_ok (Refused operation reason) = false

-- The status of the last of these results, if they are the results of a prefix of the operations of
-- these numbers: each succeeded except perhaps the last, and if that one did, there are results for
-- all operations.
abbrev pub ending : (operations : List ℕ) → List Outcome → Option Status
ending [] results = None
ending (operation ∷ operations) [] = None
ending (operation ∷ operations) (last ∷ []) =
    if outcome_number last == operation && (not (is_ok last) || is_empty operations)
    then Some (status_of last)
    else None
ending (operation ∷ operations) (one ∷ next ∷ results) =
    if outcome_number one == operation && is_ok one then ending operations (next ∷ results) else
    None

-- What a record of bytes is

pub data ReplyRead : Type 0 where
  -- no reply to the record
  NoReply : ReplyRead
  -- the call was denied, or not accepted
  Rejects : ReplyRead
  -- the results, of which the last has this status
  Gives : List Outcome → Status → ReplyRead

abbrev pub gives_by : List Outcome → (code : ℕ) → Option Status → ReplyRead
gives_by results code None = NoReply
gives_by results code (Some last) = if code_of last == code then Gives results last else NoReply

-- after an accepted reply's head: nothing may follow the results
abbrev pub result_by : (tag operations : List ℕ)
    → Result ((ℕ × (List ℕ × List Outcome)) × List ℕ) Refusal → ReplyRead
result_by tag operations (Err fault) = NoReply
result_by tag operations (Ok read) =
    if is_empty read.1 && bytes_eq read.0.1.0 tag
    then gives_by read.0.1.1 read.0.0 (ending operations read.0.1.1)
    else NoReply

-- the result that a reply has; none if the call was denied or not accepted
abbrev pub result_in : Reply → Option (List ℕ)
result_in (Success result) = Some result
result_in _ = None

abbrev pub told_by : Option (ℕ × Reply) → Option (ℕ × Option (List ℕ))
told_by None = None
told_by (Some read) = Some (read.0, result_in read.1)

abbrev pub results_by : (tag : List ℕ) → Sent → Option (List ℕ) → ReplyRead
results_by tag sent None = Rejects
results_by tag sent (Some result) = result_by tag sent.operations (compound_result.read result)

-- a reply to another record is none to this one
abbrev pub reply_by : (tag : List ℕ) → Sent → Option (ℕ × Option (List ℕ)) → ReplyRead
reply_by tag sent None = NoReply
reply_by tag sent (Some told) = if told.0 == sent.xid then results_by tag sent told.1 else NoReply

abbrev pub message_by : (tag : List ℕ) → Sent → Option (List ℕ) → ReplyRead
message_by tag sent None = NoReply
message_by tag sent (Some message) = reply_by tag sent (told_by (read_reply message))

-- the bytes after the header of a record of one fragment
abbrev pub behind_header : Result (ℕ × List ℕ) Refusal → Option (List ℕ)
behind_header (Err fault) = None
behind_header (Ok read) = if read.0 == 2 ^ 31 + length read.1 then Some read.1 else None

unfoldable pub message_of : List ℕ → Option (List ℕ)
message_of bytes = behind_header (number_at w32 bytes)

-- what the bytes, a record of one fragment with its header, are as a reply to what was sent
unfoldable pub reply_read : (tag : List ℕ) → Sent → List ℕ → ReplyRead
reply_read tag sent bytes = message_by tag sent (message_of bytes)

-- What the client knows then

-- a session that CREATE_SESSION returned: its numbers begin at 1, unless it is the one that the
-- client has
abbrev pub joined : Option Session → (id : List ℕ) → Session
joined None id = record { id = id; number = 1 }
joined (Some session) id =
    if bytes_eq session.id id then session else record { id = id; number = 1 }

abbrev pub session_after : Option Session → Outcome → Option Session
session_after session (Done (Answer.CreateSession answer)) = Some (joined session answer.session)
session_after session _ = session

-- the record's own SEQUENCE succeeded
abbrev pub is_run : List Outcome → Bool
is_run (Done (Answer.Sequence answer) ∷ rest) = true
is_run _ = false

-- it is to be sent again: DELAY at the SEQUENCE
abbrev pub is_delay : Status → Bool
is_delay status.Delay = true
is_delay _ = false

abbrev pub is_delayed : List Outcome → Bool
is_delayed (Refused operation reason ∷ rest) = operation == OP_SEQUENCE && is_delay reason
is_delayed _ = false

abbrev pub next_request : Session → Session
next_request session = record session { number = (session.number + 1) % 2 ^ 32 }

-- the number of the next request grows with the first reply that says that SEQUENCE succeeded
abbrev pub counted : Sent → List Outcome → Option Session → Option Session
counted sent results session =
    if is_run results && not sent.is_counted then option_map next_request session else session

abbrev pub session_known : Sent → List Outcome → Option Session → Option Session
session_known sent results session = fold session_after (counted sent results session) results

abbrev pub sent_known : Sent → List Outcome → Sent
sent_known sent results =
    record sent { is_answered = true; is_counted = sent.is_counted || is_run results }

abbrev pub session_learnt : Option Sent → List Outcome → Option Session → Option Session
session_learnt None results session = session
session_learnt (Some sent) results session = session_known sent results session

abbrev pub sent_learnt : Option Sent → List Outcome → Option Sent
sent_learnt None results = None
sent_learnt (Some sent) results = Some (sent_known sent results)

abbrev pub with_results : Client → Sent → List Outcome → Client
with_results client sent results =
    if is_delayed results then client
    else record client {
      session = session_known sent results client.session;
      sent = Some (sent_known sent results);
    }

abbrev pub reply_to_sent : (tag : List ℕ) → Option Sent → List ℕ → ReplyRead
reply_to_sent tag None bytes = NoReply
reply_to_sent tag (Some sent) bytes = reply_read tag sent bytes

-- what the bytes are to the client's last record: no bytes are a reply to a client that sent none
abbrev pub reply_to : Client → List ℕ → ReplyRead
reply_to client bytes = reply_to_sent client.tag client.sent bytes

abbrev pub answered_sent : Sent → Sent
answered_sent sent = record sent { is_answered = true }

abbrev pub replied_sent : Client → Sent → ReplyRead → Client
replied_sent client sent NoReply = client
replied_sent client sent Rejects = record client { sent = Some (answered_sent sent) }
replied_sent client sent (Gives results last) = with_results client sent results

-- the client after a reply to its record
abbrev pub replied_by : Client → Option Sent → ReplyRead → Client
replied_by client None read = client
replied_by client (Some sent) read = replied_sent client sent read

unfoldable pub replied : Client → ReplyRead → Client
replied client read = replied_by client client.sent read

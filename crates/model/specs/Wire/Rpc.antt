-- Calls and replies, with the order of a call's tests: RFC 5531, sections 8.2, 9 and appendix A;
-- the COMPOUND around the operations: RFC 8881, section 16.2.
use Rattle.std.specs.Prelude.{ℕ, Bool, true, false, not, ◌==◌, List, [], ◌∷◌, ◌++◌, Option, None, Some, Result, Ok, Err, option_map, if◌then◌else◌}
use Rattle.std.specs.Int.{w32}
use Rattle.xdr.specs.declared.refusal.Refusal.{Refusal}
use Rattle.xdr.specs.Grammar.{Grammar, ◌&◌, number, unsigned_int}
use Rattle.xdr.specs.Forms.{opaque, counted}
use Rattle.model_tree.specs.declared.acl.Cred.{Cred}
use Rattle.model_tree.specs.declared.status.Status.{Status}
use Rattle.model_tree.specs.declared.status.Status.TheVariants as status
use Rattle.model_tree.specs.Refusals.Status.{code_of}
use Rattle.model.specs.Operations.Operation.{SystemCredential}
use Rattle.model.specs.Wire.WireTypes.{system_credential}

-- Calls (section 9)

-- a credential or a verifier: its flavour, and a body of at most 400 bytes
abbrev pub opaque_auth : Grammar (ℕ × List ℕ)
opaque_auth = unsigned_int & opaque 400

-- what follows the RPC version of a call, the verifier's body left out
pub record Call : Type 0 where
  pub xid : ℕ
  pub program : ℕ
  pub version : ℕ
  pub procedure : ℕ
  pub flavour : ℕ
  pub credential : List ℕ
  -- the procedure's arguments
  pub body : List ℕ

abbrev pub call_start : Grammar (ℕ × (ℕ × ℕ))
call_start = unsigned_int & unsigned_int & unsigned_int

abbrev pub call_header : Grammar (ℕ × (ℕ × (ℕ × ((ℕ × List ℕ) × (ℕ × List ℕ)))))
call_header = unsigned_int & unsigned_int & unsigned_int & opaque_auth & opaque_auth

-- a record that is no call, a call of another RPC version, of which nothing more is read, or a call
pub data CallRead : Type 0 where
  NoCall : CallRead
  OtherVersion : (xid : ℕ) → CallRead
  Calls : Call → CallRead

abbrev pub call_of : (xid : ℕ) → (ℕ × (ℕ × (ℕ × ((ℕ × List ℕ) × (ℕ × List ℕ))))) → List ℕ → Call
call_of xid header body = record {
  xid = xid;
  program = header.0;
  version = header.1.0;
  procedure = header.1.1.0;
  flavour = header.1.1.1.0.0;
  credential = header.1.1.1.0.1;
  body = body;
}

abbrev pub behind_version : (xid : ℕ)
    → Result ((ℕ × (ℕ × (ℕ × ((ℕ × List ℕ) × (ℕ × List ℕ))))) × List ℕ) Refusal → CallRead
behind_version xid (Ok header) = Calls (call_of xid header.0 header.1)
behind_version xid (Err fault) = NoCall

abbrev pub behind_start : Result ((ℕ × (ℕ × ℕ)) × List ℕ) Refusal → CallRead
behind_start (Ok start) =
    if not (start.0.1.0 == 0) then NoCall
    else (if start.0.1.1 == 2
    then behind_version start.0.0 (call_header.read start.1)
    else OtherVersion start.0.0)
behind_start (Err fault) = NoCall

-- the message type (0 is a call) is tested before the version
unfoldable pub read_call : List ℕ → CallRead
read_call bytes = behind_start (call_start.read bytes)

abbrev pub is_call_read : CallRead → Bool
is_call_read NoCall = false
is_call_read (OtherVersion xid) = true
is_call_read (Calls call) = true

-- Replies (section 9)

pub data Reply : Type 0 where
  -- denied: RPC versions 2 to 2 are spoken; the caller's authentication is refused, with its
  -- auth_stat
  VersionRefused : Reply
  AuthRefused : (auth_stat : ℕ) → Reply
  -- accepted: no such program; versions 4 to 4 of it; no such procedure; its arguments are not read
  ProgramUnavailable : Reply
  ProgramMismatch : Reply
  ProcedureUnavailable : Reply
  GarbageArguments : Reply
  Success : (result : List ℕ) → Reply

abbrev pub words : List ℕ → List ℕ
words [] = []
words (word ∷ rest) = number w32 word ++ words rest

-- the verifier of an accepted reply is AUTH_NONE, of length 0
abbrev pub reply_body : Reply → List ℕ
reply_body VersionRefused = words (1 ∷ 0 ∷ 2 ∷ 2 ∷ [])
reply_body (AuthRefused auth_stat) = words (1 ∷ 1 ∷ auth_stat ∷ [])
reply_body ProgramUnavailable = words (0 ∷ 0 ∷ 0 ∷ 1 ∷ [])
reply_body ProgramMismatch = words (0 ∷ 0 ∷ 0 ∷ 2 ∷ 4 ∷ 4 ∷ [])
reply_body ProcedureUnavailable = words (0 ∷ 0 ∷ 0 ∷ 3 ∷ [])
reply_body GarbageArguments = words (0 ∷ 0 ∷ 0 ∷ 4 ∷ [])
reply_body (Success result) = words (0 ∷ 0 ∷ 0 ∷ 0 ∷ []) ++ result

unfoldable pub reply_text : (xid : ℕ) → Reply → List ℕ
reply_text xid reply = words (xid ∷ 1 ∷ []) ++ reply_body reply

-- AUTH_SYS (appendix A)

abbrev pub credential_by : Result (SystemCredential × List ℕ) Refusal → Option SystemCredential
credential_by (Err fault) = None
credential_by (Ok (known, [])) = Some known
credential_by (Ok (known, byte ∷ bytes)) = None

-- the credential, if the body is exactly its encoding
abbrev pub credential_in : (body : List ℕ) → Option SystemCredential
credential_in body = credential_by (system_credential.read body)

abbrev pub encoded_cred : SystemCredential → Cred
encoded_cred known = record { uid = known.uid; gid = known.gid; gids = known.gids }

-- the caller that it names
abbrev pub cred_of : (body : List ℕ) → Option Cred
cred_of body = option_map encoded_cred (credential_in body)

-- COMPOUND (RFC 8881, section 16.2)

abbrev pub tag_limit : ℕ
tag_limit = 255

-- the tag, the minor version and the number of operations
abbrev pub compound_head : Grammar (List ℕ × (ℕ × ℕ))
compound_head = opaque tag_limit & unsigned_int & unsigned_int

-- `operations` are the bytes of all of them
pub record Compound : Type 0 where
  pub tag : List ℕ
  pub count : ℕ
  pub operations : List ℕ

-- status, tag, number of results, and the results
unfoldable pub compound_text : Status → (tag : List ℕ) → (count : ℕ) → (results : List ℕ) → List ℕ
compound_text status tag count results =
    number w32 (code_of status) ++ (counted tag ++ (number w32 count ++ results))

-- The tests of a call, in their order: answered at once, or a COMPOUND of this caller

pub data Request : Type 0 where
  Answers : Reply → Request
  Runs : Cred → Compound → Request

abbrev pub no_results : Status → (tag : List ℕ) → Request
no_results status tag = Answers (Success (compound_text status tag 0 []))

abbrev pub is_empty : List ℕ → Bool
is_empty [] = true
is_empty (byte ∷ bytes) = false

-- only minor version 1 is served, and that is tested before the count
abbrev pub by_head : Cred → Result ((List ℕ × (ℕ × ℕ)) × List ℕ) Refusal → Request
by_head cred (Err fault) = Answers GarbageArguments
by_head cred (Ok head) =
    if not (head.0.1.0 == 1) then no_results status.MinorVersMismatch head.0.0
    else (if not (head.0.1.1 == 0)
    then Runs cred (record { tag = head.0.0; count = head.0.1.1; operations = head.1 })
    else (if is_empty head.1 then no_results status.Ok head.0.0 else Answers GarbageArguments))

-- AUTH_TOOWEAK 5, AUTH_BADCRED 1
abbrev pub by_cred : Call → Option Cred → Request
by_cred call None = Answers (AuthRefused 1)
by_cred call (Some cred) = by_head cred (compound_head.read call.body)

abbrev pub compound_request : Call → Request
compound_request call =
    if call.flavour == 0 then Answers (AuthRefused 5)
    else (if call.flavour == 1
    then by_cred call (cred_of call.credential)
    else Answers (AuthRefused 1))

-- NFSPROC4_NULL ignores the credential
abbrev pub null_request : Call → Request
null_request call = if is_empty call.body then Answers (Success []) else Answers GarbageArguments

unfoldable pub request_of : Call → Request
request_of call =
    if not (call.program == 100003) then Answers ProgramUnavailable
    else (if not (call.version == 4) then Answers ProgramMismatch
    else (if call.procedure == 0 then null_request call
    else (if call.procedure == 1 then compound_request call else Answers ProcedureUnavailable)))

-- Calls and replies as grammars: RFC 5531, section 9. What follows the header of a call, and of a
-- reply with a result, are the bytes to the end of the record: a procedure's arguments, or its
-- result.
use Rattle.std.specs.Prelude.{◌≡◌, ◌≢◌, ◌↔◌, ℕ, List, [], ◌++◌, Option, None, Some, Result, Ok, Err, option_map, if◌then◌else◌}
use Rattle.xdr.specs.declared.refusal.Refusal.{Refusal}
use Rattle.xdr.specs.Grammar.{Grammar, ◌&◌, of, void, unsigned_int}
use Rattle.xdr.specs.Forms.{always}
use Rattle.xdr.specs.Laws.{IsBytes}
use Rattle.xdr.specs.Union.{Encoded, arm, on, no_other, union}
use Rattle.model.specs.Operations.Operation.{SystemCredential}
use Rattle.model.specs.Wire.Rpc.{Call, OtherVersion, Calls, read_call, call_start, opaque_auth, Reply, reply_text, is_empty, credential_in}
use Rattle.model.specs.Wire.Rpc as rpc
use Rattle.model.specs.Wire.WireTypes.{system_credential}

-- Calls

-- the header of a call of RPC version 2
pub record CallHead : Type 0 where
  pub xid : ℕ
  pub program : ℕ
  pub version : ℕ
  pub procedure : ℕ
  pub credential : ℕ × List ℕ  -- the flavour, and the body
  pub verifier : ℕ × List ℕ

abbrev pub call_head : Grammar CallHead
call_head = of
    (λ (p : ℕ × (Unit {0} × (Unit {0} × (ℕ × (ℕ × (ℕ × ((ℕ × List ℕ) × (ℕ × List ℕ)))))))). record {
      xid = p.0;
      program = p.1.1.1.0;
      version = p.1.1.1.1.0;
      procedure = p.1.1.1.1.1.0;
      credential = p.1.1.1.1.1.1.0;
      verifier = p.1.1.1.1.1.1.1;
    })
    (λ h. (h.xid, (tt, (tt, (h.program, (h.version, (h.procedure, (h.credential, h.verifier))))))))
    (unsigned_int & always 0 unsigned_int & always 2 unsigned_int & unsigned_int & unsigned_int
    & unsigned_int & opaque_auth & opaque_auth)

abbrev pub call_with : CallHead → (body : List ℕ) → Call
call_with head body = record {
  xid = head.xid;
  program = head.program;
  version = head.version;
  procedure = head.procedure;
  flavour = head.credential.0;
  credential = head.credential.1;
  body = body;
}

-- the record is the encoding of a call's header, followed by its arguments
pub record IsCall (bytes : List ℕ) (call : Call) : Type 0 where
  pub head : CallHead
  pub fits : call_head.Fits head
  pub encoded : bytes ≡ call_head.encoding head ++ call.body
  pub call_is : call ≡ call_with head call.body

-- it begins a call of another RPC version
pub record IsOtherCall (bytes : List ℕ) (xid : ℕ) : Type 0 where
  pub version : ℕ
  pub rest : List ℕ
  pub fits : call_start.Fits (xid, (0, version))
  pub other : version ≢ 2
  pub encoded : bytes ≡ call_start.encoding (xid, (0, version)) ++ rest

-- Replies

-- reject_stat: RPC versions 2 to 2 are spoken; the caller's authentication is refused, with its
-- auth_stat
pub data Denial : Type 0 where
  OtherRpc : Denial
  Unauthenticated : (auth_stat : ℕ) → Denial

abbrev pub encoded_denial : Denial → Encoded
encoded_denial OtherRpc = arm 0 (always 2 unsigned_int & always 2 unsigned_int) (tt, tt)
encoded_denial (Unauthenticated stat) = arm 1 unsigned_int stat

abbrev pub denial : Grammar Denial
denial = union encoded_denial
    (on 0 (always 2 unsigned_int & always 2 unsigned_int) (λ _. OtherRpc)
    (on 1 unsigned_int Unauthenticated no_other))

-- accept_stat: a result follows; no such program; versions 4 to 4 of it; no such procedure; its
-- arguments are not read
pub data Acceptance : Type 0 where
  Tells : Acceptance
  NoProgram : Acceptance
  OtherProgram : Acceptance
  NoProcedure : Acceptance
  NoArguments : Acceptance

abbrev pub encoded_acceptance : Acceptance → Encoded
encoded_acceptance Tells = arm 0 void tt
encoded_acceptance NoProgram = arm 1 void tt
encoded_acceptance OtherProgram = arm 2 (always 4 unsigned_int & always 4 unsigned_int) (tt, tt)
encoded_acceptance NoProcedure = arm 3 void tt
encoded_acceptance NoArguments = arm 4 void tt

abbrev pub acceptance : Grammar Acceptance
acceptance = union encoded_acceptance
    (on 0 void (λ _. Tells)
    (on 1 void (λ _. NoProgram)
    (on 2 (always 4 unsigned_int & always 4 unsigned_int) (λ _. OtherProgram)
    (on 3 void (λ _. NoProcedure)
    (on 4 void (λ _. NoArguments) no_other)))))

-- the verifier of an accepted reply is AUTH_NONE, of length 0
abbrev pub accepted : Grammar Acceptance
accepted = of
    (λ (p : Unit {0} × (Unit {0} × Acceptance)). p.1.1) (λ a. (tt, (tt, a)))
    (always 0 unsigned_int & always 0 unsigned_int & acceptance)

-- reply_stat
pub data Verdict : Type 0 where
  Accepts : Acceptance → Verdict
  Denies : Denial → Verdict

abbrev pub encoded_verdict : Verdict → Encoded
encoded_verdict (Accepts of) = arm 0 accepted of
encoded_verdict (Denies of) = arm 1 denial of

abbrev pub verdict : Grammar Verdict
verdict = union encoded_verdict (on 0 accepted Accepts (on 1 denial Denies no_other))

-- the number of the call, the message type of a reply, and the verdict
pub record ReplyHead : Type 0 where
  pub xid : ℕ
  pub verdict : Verdict

abbrev pub reply_head : Grammar ReplyHead
reply_head = of
    (λ (p : ℕ × (Unit {0} × Verdict)). record { xid = p.0; verdict = p.1.1 })
    (λ h. (h.xid, (tt, h.verdict)))
    (unsigned_int & always 1 unsigned_int & verdict)

-- a reply's verdict, and its result

abbrev pub verdict_of : Reply → Verdict
verdict_of rpc.VersionRefused = Denies OtherRpc
verdict_of (rpc.AuthRefused stat) = Denies (Unauthenticated stat)
verdict_of rpc.ProgramUnavailable = Accepts NoProgram
verdict_of rpc.ProgramMismatch = Accepts OtherProgram
verdict_of rpc.ProcedureUnavailable = Accepts NoProcedure
verdict_of rpc.GarbageArguments = Accepts NoArguments
verdict_of (rpc.Success result) = Accepts Tells

abbrev pub result_of : Reply → List ℕ
result_of (rpc.Success result) = result
result_of _ = []

abbrev pub head_of : (xid : ℕ) → Reply → ReplyHead
head_of xid reply = record { xid = xid; verdict = verdict_of reply }

-- what a record is read as: nothing may follow a reply without a result

abbrev pub alone : Reply → (rest : List ℕ) → Option Reply
alone reply rest = if is_empty rest then Some reply else None

abbrev pub reply_of : Verdict → (rest : List ℕ) → Option Reply
reply_of (Accepts Tells) rest = Some (rpc.Success rest)
reply_of (Accepts NoProgram) rest = alone rpc.ProgramUnavailable rest
reply_of (Accepts OtherProgram) rest = alone rpc.ProgramMismatch rest
reply_of (Accepts NoProcedure) rest = alone rpc.ProcedureUnavailable rest
reply_of (Accepts NoArguments) rest = alone rpc.GarbageArguments rest
reply_of (Denies OtherRpc) rest = alone rpc.VersionRefused rest
reply_of (Denies (Unauthenticated stat)) rest = alone (rpc.AuthRefused stat) rest

abbrev pub reply_by : Result (ReplyHead × List ℕ) Refusal → Option (ℕ × Reply)
reply_by (Ok head) = option_map (λ reply. (head.0.xid, reply)) (reply_of head.0.verdict head.1)
reply_by (Err fault) = None

unfoldable pub read_reply : List ℕ → Option (ℕ × Reply)
read_reply bytes = reply_by (reply_head.read bytes)

-- The laws

-- a record is read as a call exactly if it is the call's encoding
pub record ReadsCalls : Type 0 where
  pub call : (bytes : List ℕ) (call : Call) → IsBytes bytes → (read_call bytes ≡ Calls call)
      ↔ IsCall bytes call
  pub other : (bytes : List ℕ) (xid : ℕ) → IsBytes bytes → (read_call bytes ≡ OtherVersion xid)
      ↔ IsOtherCall bytes xid

-- and so for replies, each of which has one encoding
abbrev pub ReadsReplies : Type 0
ReadsReplies = (bytes : List ℕ) (xid : ℕ) (reply : Reply) → IsBytes bytes
    → (read_reply bytes ≡ Some (xid, reply))
    ↔ (reply_head.Fits (head_of xid reply) × (bytes ≡ reply_text xid reply))

-- a credential of AUTH_SYS is read exactly if the body is its encoding
abbrev pub ReadsCredentials : Type 0
ReadsCredentials = (body : List ℕ) (known : SystemCredential) → IsBytes body
    → (credential_in body ≡ Some known)
    ↔ (system_credential.Fits known × (body ≡ system_credential.encoding known))

-- The types of the code as the values of the definitions.
use Rattle.std.specs.Prelude.{◌≡◌, ℕ, ◌+◌, ◌^◌, List, [], ◌∷◌, ◌++◌}
use Rattle.std.specs.Int.{w32}
use Rattle.xdr.specs.Grammar.{number}
use Rattle.xdr.specs.Forms.{counted}
use Rattle.model_tree.specs.declared.status.Status.{Status}
use Rattle.model_tree.specs.Refusals.Status.{code_of}
use Rattle.model.specs.Wire.Rpc as spec
use Rattle.rpc.specs.declared.call.Call.{Call}
use Rattle.rpc.specs.declared.call.CallRead.{CallRead}
use Rattle.rpc.specs.declared.call.CallRead.TheVariants as reads
use Rattle.rpc.specs.declared.call.Start.{Start}
use Rattle.rpc.specs.declared.call.Auth.{Auth}
use Rattle.rpc.specs.declared.call.Header.{Header}
use Rattle.rpc.specs.declared.reply.AuthStat.{AuthStat}
use Rattle.rpc.specs.declared.reply.CompoundResult.{CompoundResult}
use Rattle.rpc.specs.declared.reply.AuthStat.TheVariants as stats
use Rattle.rpc.specs.declared.reply.Reply.{Reply}
use Rattle.rpc.specs.declared.reply.Reply.TheVariants as replies
use Rattle.rpc.specs.declared.compound.Compound.{Compound}
use Rattle.rpc.specs.declared.request.Head.{Head}
use Rattle.rpc.specs.declared.request.Request.{Request}
use Rattle.rpc.specs.declared.request.Request.TheVariants as requests

-- Calls

abbrev pub start_view : Start → ℕ × (ℕ × ℕ)
start_view start = (start.xid, (start.message_type, start.rpc_version))

abbrev pub auth_view : Auth → ℕ × List ℕ
auth_view auth = (auth.flavour, auth.body.now)

abbrev pub header_view : Header → ℕ × (ℕ × (ℕ × ((ℕ × List ℕ) × (ℕ × List ℕ))))
header_view header = (
  header.program,
  (header.version, (header.procedure, (auth_view header.credential, auth_view header.verifier))),
)

abbrev pub call_view : Call → spec.Call
call_view call = record {
  xid = call.xid;
  program = call.program;
  version = call.version;
  procedure = call.procedure;
  flavour = call.flavour;
  credential = call.credential.now;
  body = call.body.now;
}

abbrev pub call_read_view : CallRead → spec.CallRead
call_read_view (reads.OtherVersion xid) = spec.OtherVersion xid
call_read_view (reads.Calls call) = spec.Calls (call_view call)

-- Replies

-- auth_stat of RFC 5531, section 9
abbrev pub auth_stat_of : AuthStat → ℕ
auth_stat_of stats.BadCredential = 1
auth_stat_of stats.TooWeak = 5

-- a COMPOUND's result
abbrev pub result_text : CompoundResult → List ℕ
result_text compound =
    spec.compound_text compound.status compound.tag.bytes.now compound.count compound.results.now

abbrev pub reply_view : Reply → spec.Reply
reply_view replies.VersionRefused = spec.VersionRefused
reply_view (replies.AuthRefused stat) = spec.AuthRefused (auth_stat_of stat)
reply_view replies.ProgramUnavailable = spec.ProgramUnavailable
reply_view replies.ProgramMismatch = spec.ProgramMismatch
reply_view replies.ProcedureUnavailable = spec.ProcedureUnavailable
reply_view replies.GarbageArguments = spec.GarbageArguments
reply_view (replies.Success result) = spec.Success result.now
reply_view (replies.Compound compound) = spec.Success (result_text compound)

-- a successful reply up to its result
abbrev pub success_head : (xid : ℕ) → List ℕ
success_head xid = spec.words (xid ∷ 1 ∷ 0 ∷ 0 ∷ 0 ∷ 0 ∷ [])

-- a COMPOUND's result up to the results of its operations
abbrev pub compound_prefix : Status → (tag : List ℕ) → (count : ℕ) → List ℕ
compound_prefix status tag count = number w32 (code_of status) ++ (counted tag ++ number w32 count)

-- the header of a record of `size` bytes, as it is sent: one fragment
abbrev pub frame_header : (size : ℕ) → List ℕ
frame_header size = number w32 (2 ^ 31 + size)

-- a reply up to the bytes that it has as they are, and those bytes
abbrev pub prefix_of : (xid : ℕ) → Reply → List ℕ
prefix_of xid replies.VersionRefused = spec.words (xid ∷ 1 ∷ 1 ∷ 0 ∷ 2 ∷ 2 ∷ [])
prefix_of xid (replies.AuthRefused stat) = spec.words (xid ∷ 1 ∷ 1 ∷ 1 ∷ auth_stat_of stat ∷ [])
prefix_of xid replies.ProgramUnavailable = spec.words (xid ∷ 1 ∷ 0 ∷ 0 ∷ 0 ∷ 1 ∷ [])
prefix_of xid replies.ProgramMismatch = spec.words (xid ∷ 1 ∷ 0 ∷ 0 ∷ 0 ∷ 2 ∷ 4 ∷ 4 ∷ [])
prefix_of xid replies.ProcedureUnavailable = spec.words (xid ∷ 1 ∷ 0 ∷ 0 ∷ 0 ∷ 3 ∷ [])
prefix_of xid replies.GarbageArguments = spec.words (xid ∷ 1 ∷ 0 ∷ 0 ∷ 0 ∷ 4 ∷ [])
prefix_of xid (replies.Success result) = success_head xid
prefix_of xid (replies.Compound compound) =
    success_head xid ++ compound_prefix compound.status compound.tag.bytes.now compound.count

abbrev pub tail_of : Reply → List ℕ
tail_of replies.VersionRefused = []
tail_of (replies.AuthRefused stat) = []
tail_of replies.ProgramUnavailable = []
tail_of replies.ProgramMismatch = []
tail_of replies.ProcedureUnavailable = []
tail_of replies.GarbageArguments = []
tail_of (replies.Success result) = result.now
tail_of (replies.Compound compound) = compound.results.now

-- Requests

abbrev pub head_view : Head → List ℕ × (ℕ × ℕ)
head_view head = (head.tag.bytes.now, (head.minor, head.count))

abbrev pub compound_view : Compound → spec.Compound
compound_view compound = record {
  tag = compound.tag.bytes.now;
  count = compound.count;
  operations = compound.operations.now;
}

abbrev pub request_view : Request → spec.Request
request_view (requests.Answers reply) = spec.Answers (reply_view reply)
request_view (requests.Runs cred compound) = spec.Runs cred (compound_view compound)

-- a call that is answered at once is answered without bytes that are given
abbrev pub IsBrief : Request → Type 0
IsBrief (requests.Answers reply) = tail_of reply ≡ []
IsBrief (requests.Runs cred compound) = Unit {0}

-- The types of the code as the values of the definitions.
use Rattle.std.specs.Prelude.{◌≡◌, ◌≢◌, ◌⊎◌, ℕ, ◌<◌, List, [], ◌∷◌, ◌++◌, length, map, Option, None, Some, Result, Ok, Err}
use Rattle.std.specs.Global.{Vec}
use Rattle.std.specs.Borrow.{Bor}
use Rattle.xdr.specs.declared.refusal.Refusal.{Refusal}
use Rattle.xdr.specs.declared.refusal.Refusal.TheVariants.{Memory}
use Rattle.xdr.specs.Forms.{each_at}
use Rattle.model_tree.specs.declared.status.Status.{Status}
use Rattle.model_tree.specs.declared.status.Status.TheVariants as status
use Rattle.model.specs.Operations.Answer as answers
use Rattle.model.specs.Wire.RpcGrammar as rpc
use Rattle.model.specs.Wire.WireAnswers.{outcome}
use Rattle.wire.specs.declared.outcome.Outcome.{Outcome}
use Rattle.wire.specs.OutcomeView.{outcome_view}
use Rattle.client.specs.declared.sent.Session.{Session}
use Rattle.client.specs.declared.sent.Sent.{Sent}
use Rattle.client.specs.declared.fault.ClientFault.{ClientFault}
use Rattle.client.specs.declared.fault.ClientFault.TheVariants as faults
use Rattle.client.specs.declared.head.Acceptance.{Acceptance}
use Rattle.client.specs.declared.head.Acceptance.TheVariants as acceptances
use Rattle.client.specs.declared.head.Denial.{Denial}
use Rattle.client.specs.declared.head.Denial.TheVariants as denials
use Rattle.client.specs.declared.head.Verdict.{Verdict}
use Rattle.client.specs.declared.head.Verdict.TheVariants as verdicts
use Rattle.client.specs.declared.head.Head.{Head}
use Rattle.client.specs.declared.head.Message.{Message}
use Rattle.client.specs.declared.results.CompoundResult.{CompoundResult}
use Rattle.client.specs.declared.reply.ReplyRead.{ReplyRead}
use Rattle.client.specs.declared.reply.ReplyRead.TheVariants as reads
use Rattle.client.specs.Client as spec
use Rattle.client.specs.Replies as replies

abbrev pub session_of : Session → spec.Session
session_of session = record { id = session.id; number = session.number }

abbrev pub sent_of : Sent → spec.Sent
sent_of sent = record {
  xid = sent.xid;
  operations = sent.operations.items;
  bytes = sent.bytes.items;
  is_answered = sent.is_answered;
  is_counted = sent.is_counted;
}

-- Replies

abbrev pub acceptance_view : Acceptance → rpc.Acceptance
acceptance_view acceptances.Tells = rpc.Tells
acceptance_view acceptances.NoProgram = rpc.NoProgram
acceptance_view acceptances.OtherProgram = rpc.OtherProgram
acceptance_view acceptances.NoProcedure = rpc.NoProcedure
acceptance_view acceptances.NoArguments = rpc.NoArguments

abbrev pub denial_view : Denial → rpc.Denial
denial_view denials.OtherRpc = rpc.OtherRpc
denial_view (denials.Unauthenticated stat) = rpc.Unauthenticated stat

abbrev pub verdict_view : Verdict → rpc.Verdict
verdict_view (verdicts.Accepts acceptance) = rpc.Accepts (acceptance_view acceptance)
verdict_view (verdicts.Denies denial) = rpc.Denies (denial_view denial)

abbrev pub head_view : Head → rpc.ReplyHead
head_view head = record { xid = head.xid; verdict = verdict_view head.verdict }

abbrev pub told_result : Option (Bor (List ℕ)) → Option (List ℕ)
told_result None = None
told_result (Some result) = Some result.now

-- a reply's xid, and its result
abbrev pub message_view : Message → ℕ × Option (List ℕ)
message_view message = (message.xid, told_result message.result)

abbrev pub result_view : CompoundResult → ℕ × (List ℕ × List answers.Outcome)
result_view result = (result.code, (result.tag.now, map outcome_view result.results.items))

-- what a loop over `count` results has read, and what is left
abbrev pub ReadsOutcomes : (count : ℕ) → List ℕ → Result (Vec Outcome × List ℕ) Refusal → Type 0
ReadsOutcomes count old (Ok x) =
    each_at outcome.read count old ≡ Ok (map outcome_view x.0.items, x.1)
ReadsOutcomes count old (Err e) = (e ≡ Memory) ⊎ (each_at outcome.read count old ≡ Err e)

abbrev pub read_view : ReplyRead → replies.ReplyRead
read_view reads.NoReply = replies.NoReply
read_view reads.Rejects = replies.Rejects
read_view (reads.Gives results last) = replies.Gives (map outcome_view results.items) last

-- a record that has its reply has a result
abbrev pub HasResult : ReplyRead → Type 0
HasResult reads.NoReply = Unit {0}
HasResult reads.Rejects = Unit {0}
HasResult (reads.Gives results last) = 0 < length results.items

-- the status of a failed operation, its place, and the results before it
pub record IsLast (results before : List answers.Outcome) (index : ℕ) (reason : Status)
    (last : Status) : Type 0 where
  pub refused : answers.Outcome
  pub parts : results ≡ before ++ refused ∷ []
  pub place : index ≡ length before
  pub same : reason ≡ last

-- what an error says of the results that were read
abbrev pub IsStatus : List answers.Outcome → (last : Status) → ClientFault → Type 0
IsStatus results last (faults.Status index reason before) =
    IsLast results (map outcome_view before.items) index reason last
IsStatus results last _ = ⊥

-- the error for what was read
abbrev pub Refuses : replies.ReplyRead → ClientFault → Type 0
Refuses replies.NoReply e = e ≡ faults.Garbled
Refuses replies.Rejects e = e ≡ faults.Rpc
Refuses (replies.Gives results last) e = (last ≢ status.Ok) × IsStatus results last e

-- the results for what was read: every operation succeeded
abbrev pub AnswersOk : replies.ReplyRead → List answers.Outcome → Type 0
AnswersOk read results = read ≡ replies.Gives results status.Ok

-- what the client knows after a call of `reply`: all that the reply says, unless there was no
-- memory for it
abbrev pub known : spec.Client → replies.ReplyRead → Result (Vec Outcome) ClientFault → spec.Client
known client read (Ok results) = replies.replied client read
known client read (Err faults.Memory) = client
known client read (Err faults.Io) = replies.replied client read
known client read (Err faults.Rpc) = replies.replied client read
known client read (Err (faults.Status index reason before)) = replies.replied client read
known client read (Err faults.Garbled) = replies.replied client read
known client read (Err faults.Pending) = replies.replied client read

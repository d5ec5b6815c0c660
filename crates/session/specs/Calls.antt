-- What the calls on a table return, and the table that they leave.
use Rattle.std.specs.Prelude.{◌≡◌, ℕ, ◌+◌, List, Some, Result, Ok, Err}
use Rattle.std.specs.List.{find}
use Rattle.model_tree.specs.declared.status.Status.{Status}
use Rattle.model.specs.Operations.Answer as answer
use Rattle.model.specs.Operations.Operation.{SequenceArguments}
use Rattle.model.specs.Sessions.Session as model
use Rattle.model.specs.Sessions.Session.{is_session, begin, started, sequence_answer}
use Rattle.wire.specs.Short.{IsRefusal}
use Rattle.wire.specs.AnswerViews.{sequence_view}
use Rattle.session.specs.Views.{reply_kept, exchanged_answer}
use Rattle.session.specs.declared.exchange.ExchangedId.{ExchangedId}
use Rattle.model.specs.declared.not_done.NotDone.{NotDone}
use Rattle.model.specs.declared.not_done.NotDone.TheVariants as refusal
use Rattle.session.specs.declared.sequence.Begun.{Begun}
use Rattle.session.specs.declared.sequence.Begun.TheVariants as begun

-- a status that refuses, or no memory
abbrev pub Refuses : NotDone → Type 0
Refuses (refusal.Status reason) = IsRefusal reason
Refuses refusal.Memory = Unit {0}

-- EXCHANGE_ID returns what it should, and leaves that table. If memory runs out, which happens only
-- for a new record, the table stays.
abbrev pub Exchanged : Result answer.ExchangeIdAnswer Status × model.Table → model.Table
    → model.Table → Result ExchangedId NotDone → Type 0
Exchanged wanted old new (Ok known) = wanted ≡ (Ok (exchanged_answer new.settings.name known), new)
Exchanged wanted old new (Err (refusal.Status reason)) = wanted ≡ (Err reason, new)
Exchanged wanted old new (Err refusal.Memory) =
    (wanted.1.client_serial ≡ old.client_serial + 1) × (new ≡ old)

-- the result of a SEQUENCE that runs, and its client
abbrev pub IsBegun : SequenceArguments → model.Session → ℕ → answer.SequenceAnswer → Type 0
IsBegun arguments session client answered =
    (client ≡ session.client) × (answered ≡ sequence_answer arguments session)

-- SEQUENCE runs, replays the reply that is kept or refuses, and only a slot that runs changes.
abbrev pub BeginsSequence : ℕ → ℕ → SequenceArguments → model.Table → model.Table
    → Result Begun Status
    → Type 0
BeginsSequence uid count arguments old new (Ok begun.Replays) =
    (reply : List ℕ) × (begin uid count arguments old ≡ model.Replays reply)
    × (reply_kept arguments.session arguments.slot old ≡ Some reply) × (new ≡ old)
BeginsSequence uid count arguments old new (Ok (begun.Runs client answered)) =
    (session : model.Session) × (find (is_session arguments.session) old.sessions ≡ Some session)
    × IsBegun arguments session client (sequence_view answered)
    × (begin uid count arguments old ≡ model.Runs) × (new ≡ started uid arguments old)
BeginsSequence uid count arguments old new (Err reason) =
    (begin uid count arguments old ≡ model.Refuses reason) × (new ≡ old)

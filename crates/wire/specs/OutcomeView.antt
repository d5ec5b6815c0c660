-- Results as the values of the definitions.
use Rattle.std.specs.Prelude.{ℕ, List, ◌++◌}
use Rattle.std.specs.Int.{w32}
use Rattle.xdr.specs.Grammar.{number}
use Rattle.model_tree.specs.declared.status.Status.{Status}
use Rattle.model_tree.specs.Refusals.Status.{code_of}
use Rattle.model.specs.Operations.Answer as spec
use Rattle.model.specs.Wire.WireAnswers.{encoded_answer, behind_refusal}
use Rattle.wire.specs.declared.outcome.Answer.{Answer}
use Rattle.wire.specs.declared.outcome.Answer.TheVariants as answer
use Rattle.wire.specs.declared.outcome.Outcome.{Outcome}
use Rattle.wire.specs.declared.outcome.Outcome.TheVariants as outcomes
use Rattle.wire.specs.SmallViews.{state_view, attributes_view, change_view}
use Rattle.wire.specs.AnswerViews.{access_view, create_view, open_view, read_view, read_dir_view, rename_view, write_view, exchange_id_view, create_session_view, sequence_view}

abbrev pub answer_view : Answer → spec.Answer
answer_view (answer.Access a) = spec.Answer.Access (access_view a)
answer_view (answer.Close a) = spec.Answer.Close (state_view a)
answer_view (answer.Commit a) = spec.Answer.Commit a
answer_view (answer.Create a) = spec.Answer.Create (create_view a)
answer_view (answer.GetAttr a) = spec.Answer.GetAttr (attributes_view a)
answer_view (answer.GetFh a) = spec.Answer.GetFh a.now
answer_view answer.Lookup = spec.Answer.Lookup
answer_view answer.LookupParent = spec.Answer.LookupParent
answer_view (answer.Open a) = spec.Answer.Open (open_view a)
answer_view answer.PutFh = spec.Answer.PutFh
answer_view answer.PutRootFh = spec.Answer.PutRootFh
answer_view (answer.Read a) = spec.Answer.Read (read_view a)
answer_view (answer.ReadDir a) = spec.Answer.ReadDir (read_dir_view a)
answer_view (answer.Remove a) = spec.Answer.Remove (change_view a)
answer_view (answer.Rename a) = spec.Answer.Rename (rename_view a)
answer_view answer.RestoreFh = spec.Answer.RestoreFh
answer_view answer.SaveFh = spec.Answer.SaveFh
answer_view (answer.SetAttr a) = spec.Answer.SetAttr a
answer_view (answer.Write a) = spec.Answer.Write (write_view a)
answer_view (answer.ExchangeId a) = spec.Answer.ExchangeId (exchange_id_view a)
answer_view (answer.CreateSession a) = spec.Answer.CreateSession (create_session_view a)
answer_view answer.DestroySession = spec.Answer.DestroySession
answer_view (answer.Sequence a) = spec.Answer.Sequence (sequence_view a)
answer_view answer.DestroyClientId = spec.Answer.DestroyClientId
answer_view answer.ReclaimComplete = spec.Answer.ReclaimComplete

abbrev pub outcome_view : Outcome → spec.Outcome
outcome_view (outcomes.Done a) = spec.Done (answer_view a)
outcome_view (outcomes.Refused operation status) = spec.Refused operation status

-- number, status OK and values
abbrev pub done_text : spec.Answer → List ℕ
done_text a = number w32 (encoded_answer a).number ++ (number w32 0 ++ (encoded_answer a).text)

-- number, status, and what follows it
abbrev pub refused_text : ℕ → Status → List ℕ
refused_text operation status =
    number w32 operation ++ (number w32 (code_of status) ++ behind_refusal operation)

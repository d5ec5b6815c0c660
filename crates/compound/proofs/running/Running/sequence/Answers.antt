use Rattle.std.proofs.Common.{ap, ◌∙◌}
use Rattle.model.specs.Operations.Answer.{Answer, Done, Refused}
use Rattle.model.specs.Operations.Operation.{Argument}
use Rattle.model.specs.Server.World.{in_room}
use Rattle.model.specs.Sessions.Session.{Table}
use Rattle.session.specs.Views.{table_of}
use Rattle.wire.specs.AnswerViews as answers
use Rattle.wire.specs.ArgumentViews.{sequence_view}
use Rattle.compound.specs.Runs.{with_rest}
use Rattle.compound.specs.States.{shared}
use Rattle.compound.specs.Views.{in_progress_of}
use Rattle.compound.proofs.OwnResults.{result_answered}
use Rattle.compound.proofs.Rooms.{gives_refusal}
use Rattle.compound.proofs.Sequencing.{ran_sequence, begun_ok, begun_err, taken_on}
use Rattle.compound.proofs.Tables.{table_runs}
use Rattle.compound.proofs.running.Running.sequence.Goals as goal

pub returns-in-Ok-Runs-clause-gives : goal.returns-in-Ok-Runs-clause-gives
unfolding in_progress_of
returns-in-Ok-Runs-clause-gives c = λ now fs opens.
    let request = in_progress_of c.args.self.now in
    let arguments = sequence_view c.args.arguments.now in
    let e = rw c.in-Ok-Runs.field-0-is at c.in-Ok-Runs.ensures.answered in
    c.answer_first.ensures.gives now (shared fs (table_of c.args.table.now) opens) (shared fs (table_of c.begin.new.self) opens) (Argument.Sequence arguments)
    (table_runs now fs opens (table_of c.args.table.now) (table_of c.begin.new.self) request (taken_on request arguments c.in-Ok-Runs.client) (Argument.Sequence arguments) (Done (Answer.Sequence (answers.sequence_view c.in-Ok-Runs.answer)))
    (λ world rest on. ran_sequence world (with_rest request rest) now arguments _ _ on e.3
    ∙ begun_ok world (with_rest request rest) arguments _ _ e.0 _ _ on.table_is e.1 e.2.0 e.2.1 e.4))

pub returns-in-Ok-Replays-clause-gives : goal.returns-in-Ok-Replays-clause-gives
unfolding in_progress_of
returns-in-Ok-Replays-clause-gives c = λ now fs opens.
    let request = in_progress_of c.args.self.now in
    let arguments = sequence_view c.args.arguments.now in
    let e = rw c.in-Ok-Replays.field-0-is at c.in-Ok-Replays.ensures.answered in (
      e.0,
      ap (λ (known : Table). shared fs known opens) e.3,
      e.2,
      λ world rest on. ap (in_room world (with_rest request rest) 53) (ran_sequence world (with_rest request rest) now arguments _ _ on e.1),
    )

pub returns-in-Err-clause-gives : goal.returns-in-Err-clause-gives
unfolding in_progress_of
returns-in-Err-clause-gives c = λ now fs opens.
    let request = in_progress_of c.args.self.now in
    let arguments = sequence_view c.args.arguments.now in
    let e = c.in-Err.ensures.answered in
    c.refuse.ensures.gives now (shared fs (table_of c.args.table.now) opens) (shared fs (table_of c.begin.new.self) opens) (Argument.Sequence arguments)
    (gives_refusal now (shared fs (table_of c.args.table.now) opens) (shared fs (table_of c.begin.new.self) opens) request (Argument.Sequence arguments) 53 c.in-Err.status
    (table_runs now fs opens (table_of c.args.table.now) (table_of c.begin.new.self) request request (Argument.Sequence arguments) (Refused 53 c.in-Err.status)
    (λ world rest on. ran_sequence world (with_rest request rest) now arguments _ _ on e.0
    ∙ begun_err world (with_rest request rest) arguments _ _ _ on.table_is e.1)))

pub returns-in-Ok-Runs-clause-answered : goal.returns-in-Ok-Runs-clause-answered
returns-in-Ok-Runs-clause-answered c = result_answered (in_progress_of c.args.self.now) _ c.answer_first.ensures.answered

pub returns-in-Err-clause-answered : goal.returns-in-Err-clause-answered
returns-in-Err-clause-answered c = result_answered (in_progress_of c.args.self.now) _ c.refuse.ensures.answered

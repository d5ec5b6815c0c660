use Rattle.std.proofs.Common.{false, sym}
use Rattle.model.specs.Operations.Answer.{Refused}
use Rattle.model.specs.Operations.Operation.{Argument}
use Rattle.session.specs.Views.{table_of}
use Rattle.compound.specs.Runs.{with_rest}
use Rattle.compound.specs.States.{shared}
use Rattle.compound.specs.Views.{in_progress_of}
use Rattle.compound.proofs.Rooms.{gives_refusal}
use Rattle.compound.proofs.Sequencing.{ran_reclaim, reclaim_refused}
use Rattle.compound.proofs.Tables.{table_runs}
use Rattle.compound.proofs.running.Running.reclaim_all.Goals as goal

pub returns-in-Err-clause-gives : goal.returns-in-Err-clause-gives
unfolding in_progress_of
returns-in-Err-clause-gives c = λ now fs opens.
    let request = in_progress_of c.args.self.now in
    let old = table_of c.args.table.now in
    let kind = Argument.ReclaimComplete false in
    c.refuse.ensures.gives now (shared fs old opens) (shared fs old opens) kind
    (gives_refusal now (shared fs old opens) (shared fs old opens) request kind 58 c.in-Err.status
    (table_runs now fs opens old old request request kind (Refused 58 c.in-Err.status)
    (λ world rest on. ran_reclaim world (with_rest request rest) now _ _ on (reclaim_refused request.context.client old c.in-Err.status (sym c.in-Err.ensures.answered)))))

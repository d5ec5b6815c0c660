use Rattle.std.proofs.Common.{false, sym, ◌∙◌}
use Rattle.model.specs.Operations.Answer.{Answer, Done}
use Rattle.model.specs.Operations.Operation.{Argument}
use Rattle.model.specs.Sessions.Session.{reclaim_complete}
use Rattle.session.specs.Views.{table_of}
use Rattle.compound.specs.Runs.{with_rest}
use Rattle.compound.specs.States.{shared}
use Rattle.compound.specs.Views.{in_progress_of}
use Rattle.compound.proofs.Rooms.{gives_in_room, refused_in_room}
use Rattle.compound.proofs.Sequencing.{ran_reclaim, reclaim_none}
use Rattle.compound.proofs.Tables.{table_runs}
use Rattle.compound.proofs.running.Running.reclaim_in_room.Goals as goal

pub returns-then-not-has_reclaim_room-clause-gives : goal.returns-then-not-has_reclaim_room-clause-gives
unfolding in_progress_of
returns-then-not-has_reclaim_room-clause-gives c = λ now fs opens.
    let request = in_progress_of c.args.self.now in
    let old = table_of c.args.table.now in
    let new = (reclaim_complete request.context.client old).1 in
    let kind = Argument.ReclaimComplete false in
    c.refuse.ensures.gives now (shared fs old opens) (shared fs old opens) kind
    (refused_in_room now (shared fs old opens) (shared fs new opens) request request kind Answer.ReclaimComplete (sym c.if-not-has_reclaim_room.true ∙ c.has_reclaim_room.ensures.room)
    (table_runs now fs opens old new request request kind (Done Answer.ReclaimComplete)
    (λ world rest on. ran_reclaim world (with_rest request rest) now _ _ on (reclaim_none request.context.client old c.requires))))

pub returns-clause-gives : goal.returns-clause-gives
unfolding in_progress_of
returns-clause-gives c = λ now fs opens.
    let request = in_progress_of c.args.self.now in
    let old = table_of c.args.table.now in
    let new = table_of c.reclaim_complete.new.self in
    let kind = Argument.ReclaimComplete false in
    gives_in_room now (shared fs old opens) (shared fs new opens) request request kind Answer.ReclaimComplete (sym c.if-not-has_reclaim_room.false ∙ c.has_reclaim_room.ensures.room)
    (table_runs now fs opens old new request request kind (Done Answer.ReclaimComplete)
    (λ world rest on. ran_reclaim world (with_rest request rest) now _ _ on c.in-Ok.ensures.answered))

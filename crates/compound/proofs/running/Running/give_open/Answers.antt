use Rattle.std.proofs.Common.{◌≡◌, true, length, nat_le, sym, subst}
use Rattle.model.specs.Operations.Answer.{Outcome, Done}
use Rattle.model.specs.Operations.Open.{at_opened}
use Rattle.model.specs.Sessions.Opens.{Opens}
use Rattle.model.specs.Operations.Operation.{StateId}
use Rattle.model.specs.Sessions.StateIds.{opened}
use Rattle.model.specs.Server.World.{reply_with}
use Rattle.opens.specs.Views.{opened_stateid, open_of, opens_of}
use Rattle.wire.specs.SmallViews.{change_view, state_view}
use Rattle.compound.specs.Beside.{opened_answer}
use Rattle.compound.specs.Operates.{GivesIn, HasRoom, RunsTo}
use Rattle.compound.specs.Views.{in_progress_of}
use Rattle.compound.proofs.Changing.{is_short}
use Rattle.compound.proofs.OpenNamedLaws.{opened_room}
use Rattle.compound.proofs.Rooms.{gives_in_room}
use Rattle.compound.proofs.running.Running.give_open.Goals as goal

pub returns-clause-gives : goal.returns-clause-gives
unfolding in_progress_of
returns-clause-gives c = λ now old new operation same runs.
    let request = in_progress_of c.args.self.now in
    let asked = open_of c.args.asked in
    let change = change_view c.args.done.change in
    let made = opened (opens_of c.args.opens.now) asked in
    subst (λ (outcome : Outcome). GivesIn now old new request (record request { context = at_opened request.context asked.number (state_view c.open-state.result) }) operation outcome)
    (sym c.opened.ensures.is)
    (subst (λ (state : StateId). GivesIn now old new request (record request { context = at_opened request.context asked.number state }) operation (Done (opened_answer state change c.args.done.was_set)))
    (sym c.open-state.ensures.state)
    (gives_in_room now old new request (record request { context = at_opened request.context asked.number (opened_stateid request.context.run made) }) operation
    (opened_answer (opened_stateid request.context.run made) change c.args.done.was_set)
    (opened_room request request.context.run made.serial made.state.seqid change c.args.done.was_set true c.requires.short)
    (subst (λ (opens : Opens). let state = opened opens asked in RunsTo now old new request (record request { context = at_opened request.context asked.number (opened_stateid request.context.run state) }) operation
    (Done (opened_answer (opened_stateid request.context.run state) change c.args.done.was_set))) same runs)))

pub returns-clause-answered : goal.returns-clause-answered
unfolding in_progress_of
returns-clause-answered c =
    let request = in_progress_of c.args.self.now in
    let change = change_view c.args.done.change in
    let made = opened (opens_of c.args.opens.now) (open_of c.args.asked) in
    record {
      fits = c.opened.ensures.fits;
      small = c.opened.ensures.small;
      room = subst (HasRoom request) (sym c.opened.ensures.is)
          (is_short request (opened_answer (state_view c.open-state.result) change c.args.done.was_set)
          (subst (λ (state : StateId). true ≡ nat_le (length (reply_with request (Done (opened_answer state change c.args.done.was_set)))) 16368) (sym c.open-state.ensures.state)
          (opened_room request request.context.run made.serial made.state.seqid change c.args.done.was_set true c.requires.short)));
    }

use Rattle.std.proofs.Common.{sym, subst}
use Rattle.fs.specs.Views.{fs_of}
use Rattle.model.specs.Operations.Answer.{Outcome}
use Rattle.model.specs.Operations.Context.{without_stateid}
use Rattle.model.specs.Sessions.Opens.{Opens}
use Rattle.model.specs.Operations.Operation.{Argument}
use Rattle.model.specs.Sessions.StateIds.{without_open}
use Rattle.opens.specs.Views.{opens_of}
use Rattle.wire.specs.ArgumentViews.{close_view}
use Rattle.wire.specs.OutcomeView.{outcome_view}
use Rattle.compound.specs.Beside.{closed_answer}
use Rattle.compound.specs.Operates.{GivesIn, HasRoom}
use Rattle.compound.specs.States.{shared}
use Rattle.compound.specs.Views.{in_progress_of}
use Rattle.compound.proofs.BesideLaws.{refused_beside}
use Rattle.compound.proofs.Changing.{done_runs, is_short}
use Rattle.compound.proofs.CloseLaws.{on_tree}
use Rattle.compound.proofs.Rooms.{gives_in_room, refused_in_room}
use Rattle.compound.proofs.reading.Reading.close.Goals as goal

pub returns-in-Err : goal.returns-in-Err
returns-in-Err g c = record {
  answered = c.refuse.ensures.answered;
  gives = λ now table.
      let opens = opens_of c.args.opens.now in
      let fs = fs_of c.args.self.now.fs.now in
      let request = in_progress_of c.args.self.now.running.now in
      let arguments = close_view c.args.arguments.now in
      c.refuse.ensures.gives now (shared fs table opens) (shared fs table opens) (Argument.Close arguments)
      (refused_beside now fs request (Argument.Close arguments) (on_tree now request arguments) table opens c.in-Err.status
      (λ state there. c.in-Err.ensures.step state now there));
}

pub returns-then-not-has_closed_room : goal.returns-then-not-has_closed_room
returns-then-not-has_closed_room g c = record {
  answered = c.refuse-then-not-has_closed_room.ensures.answered;
  gives = λ now table.
      let opens = opens_of c.args.opens.now in
      let fs = fs_of c.args.self.now.fs.now in
      let request = in_progress_of c.args.self.now.running.now in
      let arguments = close_view c.args.arguments.now in
      let left = without_open c.in-Ok.serial opens in
      c.refuse-then-not-has_closed_room.ensures.gives now (shared fs table opens) (shared fs table opens) (Argument.Close arguments)
      (refused_in_room now (shared fs table opens) (shared fs table left) request (record request { context = without_stateid request.context }) (Argument.Close arguments) closed_answer
      c.if-not-has_closed_room.ensures
      (done_runs now fs request (Argument.Close arguments) (on_tree now request arguments) fs table opens left (without_stateid request.context) closed_answer
      (λ state there known. c.in-Ok.ensures.step state now (record { here = there; opens_is = known }))));
}

pub returns : goal.returns
returns g c = record {
  answered = let request = in_progress_of c.args.self.now.running.now in
      record {
        fits = c.closed.ensures.fits;
        small = c.closed.ensures.small;
        room = subst (HasRoom request) (sym c.closed.ensures.is) (is_short request closed_answer c.if-not-has_closed_room.ensures);
      };
  gives = λ now table.
      let opens = opens_of c.args.opens.now in
      let fs = fs_of c.args.self.now.fs.now in
      let request = in_progress_of c.args.self.now.running.now in
      let arguments = close_view c.args.arguments.now in
      let left = without_open c.in-Ok.serial opens in
      let after = record request { context = without_stateid request.context } in
      subst (λ (known : Opens). GivesIn now (shared fs table opens) (shared fs table known) request after (Argument.Close arguments) (outcome_view c.closed.result)) (sym c.close.ensures)
      (subst (λ (outcome : Outcome). GivesIn now (shared fs table opens) (shared fs table left) request after (Argument.Close arguments) outcome) (sym c.closed.ensures.is)
      (gives_in_room now (shared fs table opens) (shared fs table left) request after (Argument.Close arguments) closed_answer
      c.if-not-has_closed_room.ensures
      (done_runs now fs request (Argument.Close arguments) (on_tree now request arguments) fs table opens left (without_stateid request.context) closed_answer
      (λ state there known. c.in-Ok.ensures.step state now (record { here = there; opens_is = known })))));
}

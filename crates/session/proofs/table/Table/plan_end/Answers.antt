use Rattle.std.proofs.Common.{sym, ap, ◌∙◌, subst}
use Rattle.std.specs.Result.{result_err}
use Rattle.model_tree.specs.Seats.Seats.{is_seat_of, freed, AreOfRuns}
use Rattle.model_tree.specs.Seats.SeatViews.{seats_view}
use Rattle.model.specs.Sessions.Session.{Table}
use Rattle.session.specs.Views.{table_of}
use Rattle.session.proofs.EditLaws.{freed_one}
use Rattle.session.proofs.Giving.{given_freed, given_runs}
use Rattle.session.proofs.Holding.{destroyed}
use Rattle.session.proofs.table.Table.plan_end.Goals as goal

pub returns-clause-planned : goal.returns-clause-planned
unfolding table_of
returns-clause-planned c =
    let old = c.args.self.now in
    let id = c.args.id.now in
    let seats = seats_view old.seats in
    let done = sym c.check_end.ensures.answered ∙ ap result_err c.in_ok-check_end.was in
    let freeing = c.in_ok-edit_seat.ensures.edited ∙ freed_one id seats in
    record {
      done = done;
      seats = freeing;
      left = ap (λ (table : Table). table.seats) (destroyed id (table_of old) done) ∙ sym freeing;
      edits = λ slots. record {
        can = c.in_ok-edit_seat.ensures.can slots;
        of_runs = subst (AreOfRuns old.clients.run) (sym freeing) (given_runs old.clients.run old.sessions.serial (freed (is_seat_of id) seats) (given_freed (is_seat_of id) old.clients.run old.sessions.serial seats old.given));
      };
    }

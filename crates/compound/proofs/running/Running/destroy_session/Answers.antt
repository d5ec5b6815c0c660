use Rattle.std.proofs.Common.{refl, sym, ap, subst, ◌∙◌}
use Rattle.fs.specs.Views.{fs_of, fs_failures}
use Rattle.model.specs.Operations.Answer.{Answer, Done, Refused}
use Rattle.model.specs.Operations.Operation.{Argument}
use Rattle.model_tree.specs.Seats.SeatEdits.{edited_all, edits_view}
use Rattle.model.specs.Sessions.Session.{destroy_session}
use Rattle.session.specs.Views.{table_of}
use Rattle.volume.proofs.ServeLaws.{is_err_of}
use Rattle.volume.specs.Changes as ends
use Rattle.volume.specs.SeatUpdates.{slots_by}
use Rattle.compound.specs.Operates.{GivesIn, Operates}
use Rattle.compound.specs.States.{shared}
use Rattle.compound.specs.Views.{in_progress_of}
use Rattle.compound.proofs.Storing.{seated_as, seated_still, seats_change}
use Rattle.compound.proofs.Tables.{destroy_done, destroy_runs, destroy_refuses, edits_fit, same_tree}
use Rattle.compound.proofs.Outcomes.{if_not, on_err}
use Rattle.compound.proofs.OwnResults.{result_answered, result_kept}
use Rattle.compound.proofs.QuietLaws.{leaves_all}
use Rattle.opens.specs.Views.{opens_of}
use Rattle.compound.proofs.running.Running.destroy_session.Goals as goal

pub put_seats-requires-clause-edits : goal.put_seats-requires-clause-edits
unfolding in_progress_of
put_seats-requires-clause-edits g c keeps =
    let fs = fs_of c.args.engine.now.fs.now in
    edits_fit _ _ fs (table_of c.args.engine.now.table.now) (edits_view c.in-Ok.edits) refl (c.requires.ready.agrees keeps) (c.in-Ok.ensures.planned.edits (slots_by fs.volume.version))

pub returns-in_ok-put_seats-in-Ok : goal.returns-in_ok-put_seats-in-Ok
unfolding in_progress_of
returns-in_ok-put_seats-in-Ok g c = record {
  same = record { fs = refl; table = refl; opens = refl };
  state = record {
    gives = λ keeps.
        let now = c.args.engine.now.moment in
        let opens = opens_of c.args.engine.now.opens.now in
        let fs = fs_of c.args.engine.now.fs.now in
        let new = fs_of c.put_seats.new.fs in
        let old = table_of c.args.engine.now.table.now in
        let table = table_of c.end_session.new.self in
        let request = in_progress_of c.args.self.now in
        let id = c.args.id.now in
        let planned = c.in-Ok.ensures.planned in
        c.answer_first-done.ensures.gives now (shared fs old opens) (shared new table opens) (Argument.DestroySession id)
        (destroy_runs now fs new old table opens request id (destroy_done id old table planned.done (c.end_session.ensures planned.done)) (c.in_ok-put_seats-in-Ok.ensures.same keeps));
    answered = result_answered (in_progress_of c.args.self.now) _ c.answer_first-done.ensures.answered;
    kept = result_kept (in_progress_of c.args.self.now) _ _ c.answer_first-done.ensures.answered;
    table = tt;
    opens = tt;
    volume =
        let now = c.args.engine.now.moment in
        let opens = opens_of c.args.engine.now.opens.now in
        let fs = fs_of c.args.engine.now.fs.now in
        let old = table_of c.args.engine.now.table.now in
        let request = in_progress_of c.args.self.now in
        let id = c.args.id.now in
        let planned = c.in-Ok.ensures.planned in
        let table = (destroy_session id old).1 in
        let gives : GivesIn now (shared fs old opens) (shared fs table opens) request request (Argument.DestroySession id) (Done Answer.DestroySession) =
        subst (Operates now (shared fs old opens) (shared fs table opens) request (Argument.DestroySession id)) c.answer_first-done.ensures.is
        (c.answer_first-done.ensures.gives now (shared fs old opens) (shared fs table opens) (Argument.DestroySession id)
        (destroy_runs now fs fs old table opens request id (destroy_done id old table planned.done refl) (same_tree fs))) in
        seats_change g.D.Device.keeps_word (shared fs old opens) table opens request request now (Argument.DestroySession id) (Done Answer.DestroySession) refl gives _ _ _ ends.Done
        (seated_as g.D.Device.keeps_word fs _ _ _ ends.Done (edited_all (edits_view c.in-Ok.edits) fs.volume.seats) table.seats
        (λ keeps. planned.left ∙ ap (edited_all (edits_view c.in-Ok.edits)) (c.requires.ready.agrees keeps).seats) (rw c.in_ok-put_seats-in-Ok.was at c.put_seats.ensures.volume));
  };
}

pub returns-in_err-put_seats-in-Ok : goal.returns-in_err-put_seats-in-Ok
unfolding in_progress_of
returns-in_err-put_seats-in-Ok g c = record {
  same = record { fs = refl; table = refl; opens = refl };
  state = record {
    gives = λ keeps. if_not _ _ _ c.from_residual.ensures.1;
    answered = if_not _ _ _ c.from_residual.ensures.1;
    kept = if_not _ _ _ c.from_residual.ensures.1;
    table = on_err _ refl;
    opens = on_err _ refl;
    volume =
        let now = c.args.engine.now.moment in
        let opens = opens_of c.args.engine.now.opens.now in
        let fs = fs_of c.args.engine.now.fs.now in
        let old = table_of c.args.engine.now.table.now in
        let request = in_progress_of c.args.self.now in
        let id = c.args.id.now in
        let planned = c.in-Ok.ensures.planned in
        let table = (destroy_session id old).1 in
        let gives : GivesIn now (shared fs old opens) (shared fs table opens) request request (Argument.DestroySession id) (Done Answer.DestroySession) =
        subst (Operates now (shared fs old opens) (shared fs table opens) request (Argument.DestroySession id)) c.answer_first-done.ensures.is
        (c.answer_first-done.ensures.gives now (shared fs old opens) (shared fs table opens) (Argument.DestroySession id)
        (destroy_runs now fs fs old table opens request id (destroy_done id old table planned.done refl) (same_tree fs))) in
        rw (is_err_of c.from_residual.result c.in_err-put_seats-in-Ok.field-0.0 c.from_residual.ensures.1)
        (seats_change g.D.Device.keeps_word (shared fs old opens) table opens request request now (Argument.DestroySession id) (Done Answer.DestroySession) refl gives _ _ _ _
        (seated_as g.D.Device.keeps_word fs _ _ _ _ (edited_all (edits_view c.in-Ok.edits) fs.volume.seats) table.seats
        (λ keeps. planned.left ∙ ap (edited_all (edits_view c.in-Ok.edits)) (c.requires.ready.agrees keeps).seats) (rw c.in_err-put_seats-in-Ok.was at c.put_seats.ensures.volume)));
  };
}

pub returns-in-Err-Status : goal.returns-in-Err-Status
unfolding in_progress_of
returns-in-Err-Status g c = record {
  same = record { fs = refl; table = refl; opens = refl };
  state = record {
    gives = λ keeps.
        let now = c.args.engine.now.moment in
        let opens = opens_of c.args.engine.now.opens.now in
        let fs = fs_of c.args.engine.now.fs.now in
        let old = table_of c.args.engine.now.table.now in
        let is = rw c.in-Err-Status.field-0-is at c.in-Err-Status.ensures.planned in
        c.refuse.ensures.gives now (shared fs old opens) (shared fs old opens) (Argument.DestroySession c.args.id.now)
        (destroy_refuses now fs old opens (in_progress_of c.args.self.now) c.args.id.now c.in-Err-Status.status is);
    answered = result_answered (in_progress_of c.args.self.now) _ c.refuse.ensures.answered;
    kept = result_kept (in_progress_of c.args.self.now) _ _ c.refuse.ensures.answered;
    table = tt;
    opens = tt;
    volume =
        let now = c.args.engine.now.moment in
        let opens = opens_of c.args.engine.now.opens.now in
        let fs = fs_of c.args.engine.now.fs.now in
        let old = table_of c.args.engine.now.table.now in
        let request = in_progress_of c.args.self.now in
        let is = rw c.in-Err-Status.field-0-is at c.in-Err-Status.ensures.planned in
        seats_change g.D.Device.keeps_word (shared fs old opens) old opens request request now (Argument.DestroySession c.args.id.now) (Refused 44 c.in-Err-Status.status) refl
        (destroy_refuses now fs old opens request c.args.id.now c.in-Err-Status.status is) fs _ _ ends.Done
        (seated_still g.D.Device.keeps_word fs (fs_failures c.args.engine.now.fs.now) old.seats c.requires.ready.up (λ keeps. (c.requires.ready.agrees keeps).seats));
  };
}

pub returns-in-Err-Memory : goal.returns-in-Err-Memory
returns-in-Err-Memory g c = record {
  same = record { fs = refl; table = refl; opens = refl };
  state = record {
    gives = λ keeps. tt;
    answered = tt;
    kept = tt;
    table = refl;
    opens = refl;
    volume = leaves_all g.D.Device.keeps_word _ _ _ _ _ refl refl;
  };
}

use Rattle.std.proofs.Common.{[], refl, sym, ap, subst, ◌∙◌}
use Rattle.fs.specs.Views.{fs_of, fs_failures}
use Rattle.model.specs.Operations.Answer.{Answer, Done, Refused}
use Rattle.model.specs.Sessions.Opens.{Opens}
use Rattle.model.specs.Operations.Operation.{Argument}
use Rattle.model_tree.specs.Seats.SeatEdits.{AreEdits, edited_all, edits_view}
use Rattle.model.specs.Sessions.Session.{CreateSessionOutcome, SessionLimits, Table, create_session}
use Rattle.model.specs.Sessions.StateIds.{without_clients}
use Rattle.opens.specs.Views.{opens_of}
use Rattle.session.specs.Limits.{limits_of}
use Rattle.session.specs.Plans.{IsPlanned}
use Rattle.session.specs.Views.{table_of}
use Rattle.volume.proofs.ServeLaws.{is_err_of}
use Rattle.volume.specs.Changes as ends
use Rattle.wire.specs.AnswerViews as answers
use Rattle.wire.specs.ArgumentViews.{create_session_view}
use Rattle.compound.specs.Operates.{GivesIn, Operates, RunsTo}
use Rattle.compound.specs.Profile.{served_by}
use Rattle.compound.specs.States.{shared}
use Rattle.compound.specs.Views.{in_progress_of}
use Rattle.compound.proofs.Storing.{seated_as, seated_still, seats_change}
use Rattle.compound.proofs.Tables.{create_runs, create_refuses, edits_fit, none_ended, same_tree, seat_slots_are}
use Rattle.compound.proofs.Outcomes.{if_not, on_err}
use Rattle.compound.proofs.OwnResults.{result_answered, result_kept}
use Rattle.compound.proofs.QuietLaws.{leaves_all}
use Rattle.compound.proofs.running.Running.create_session.Goals as goal

-- A new session

pub put_seats-requires-clause-edits : goal.put_seats-requires-clause-edits
unfolding in_progress_of
put_seats-requires-clause-edits g c keeps =
    let fs = fs_of c.args.engine.now.fs.now in
    let old = table_of c.args.engine.now.table.now in
    let request = in_progress_of c.args.self.now in
    let arguments = create_session_view c.args.arguments.now in
    let limits = limits_of c.limits_by-limits.result in
    let served = c.limits_by-limits.ensures ∙ ap served_by c.version.ensures.version in
    let wanted = create_session limits request.context.cred.uid arguments old in
    let plan = c.in-Ok-New.plan in
    let both : IsPlanned wanted old plan × AreEdits old.run limits.seat_slots (edits_view plan.edits) old.seats = rw c.in-Ok-New.field-0-is at c.in-Ok-New.ensures.planned in
    edits_fit _ _ fs old (edits_view plan.edits) (ap (λ (l : SessionLimits). l.seat_slots) served ∙ seat_slots_are fs.volume.version) (c.requires.ready.agrees keeps) both.1

pub returns-in_ok-put_seats-in-Ok-New : goal.returns-in_ok-put_seats-in-Ok-New
unfolding in_progress_of
returns-in_ok-put_seats-in-Ok-New g c = record {
  same = record { fs = refl; table = refl; opens = refl };
  state = record {
    gives = λ keeps.
        let now = c.args.engine.now.moment in
        let fs = fs_of c.args.engine.now.fs.now in
        let new = fs_of c.put_seats.new.fs in
        let old = table_of c.args.engine.now.table.now in
        let table = table_of c.add_session-created.new.self in
        let before = opens_of c.args.engine.now.opens.now in
        let request = in_progress_of c.args.self.now in
        let arguments = create_session_view c.args.arguments.now in
        let limits = limits_of c.limits_by-limits.result in
        let served = c.limits_by-limits.ensures ∙ ap served_by c.version.ensures.version in
        let wanted = create_session limits request.context.cred.uid arguments old in
        let plan = c.in-Ok-New.plan in
        let known = answers.create_session_view plan.answer in
        let both : IsPlanned wanted old plan × AreEdits old.run limits.seat_slots (edits_view plan.edits) old.seats = rw c.in-Ok-New.field-0-is at c.in-Ok-New.ensures.planned in
        let planned = both.0 in
        let made = c.add_session-created.ensures wanted (subst (λ (t : Table). IsPlanned wanted t plan) (sym c.plan_session.ensures.same) planned) in
        let ended = c.add_session-created.result.ended.items in
        let runs = create_runs limits now fs new old table before request arguments known ended served planned.answer made.1 made.2 (c.in_ok-put_seats-in-Ok-New.ensures.same keeps) in
        c.answer_first-done.ensures.gives now (shared fs old before) (shared new table (opens_of c.remove_clients.new.self)) (Argument.CreateSession arguments)
        (subst (λ (opens : Opens). RunsTo now (shared fs old before) (shared new table opens) request request (Argument.CreateSession arguments) (Done (Answer.CreateSession known)))
        (sym (c.remove_clients.ensures ∙ ap (λ clients. without_clients clients before) c.deref.ensures.value)) runs);
    answered = result_answered (in_progress_of c.args.self.now) _ c.answer_first-done.ensures.answered;
    kept = result_kept (in_progress_of c.args.self.now) _ _ c.answer_first-done.ensures.answered;
    table = tt;
    opens = tt;
    volume =
        let now = c.args.engine.now.moment in
        let fs = fs_of c.args.engine.now.fs.now in
        let old = table_of c.args.engine.now.table.now in
        let before = opens_of c.args.engine.now.opens.now in
        let request = in_progress_of c.args.self.now in
        let arguments = create_session_view c.args.arguments.now in
        let limits = limits_of c.limits_by-limits.result in
        let served = c.limits_by-limits.ensures ∙ ap served_by c.version.ensures.version in
        let wanted = create_session limits request.context.cred.uid arguments old in
        let plan = c.in-Ok-New.plan in
        let known = answers.create_session_view plan.answer in
        let both : IsPlanned wanted old plan × AreEdits old.run limits.seat_slots (edits_view plan.edits) old.seats = rw c.in-Ok-New.field-0-is at c.in-Ok-New.ensures.planned in
        let planned = both.0 in
        let opens = without_clients plan.ended.items before in
        let gives : GivesIn now (shared fs old before) (shared fs wanted.table opens) request request (Argument.CreateSession arguments) (Done (Answer.CreateSession known)) =
        subst (Operates now (shared fs old before) (shared fs wanted.table opens) request (Argument.CreateSession arguments)) c.answer_first-done.ensures.is
        (c.answer_first-done.ensures.gives now (shared fs old before) (shared fs wanted.table opens) (Argument.CreateSession arguments)
        (create_runs limits now fs fs old wanted.table before request arguments known plan.ended.items served planned.answer planned.ended refl (same_tree fs))) in
        seats_change g.D.Device.keeps_word (shared fs old before) wanted.table opens request request now (Argument.CreateSession arguments) (Done (Answer.CreateSession known)) refl gives _ _ _ ends.Done
        (seated_as g.D.Device.keeps_word fs _ _ _ ends.Done (edited_all (edits_view plan.edits) fs.volume.seats) wanted.table.seats
        (λ keeps. planned.seats ∙ ap (edited_all (edits_view plan.edits)) (c.requires.ready.agrees keeps).seats) (rw c.in_ok-put_seats-in-Ok-New.was at c.put_seats.ensures.volume));
  };
}

pub returns-in_err-put_seats-in-Ok-New : goal.returns-in_err-put_seats-in-Ok-New
unfolding in_progress_of
returns-in_err-put_seats-in-Ok-New g c = record {
  same = record { fs = refl; table = refl; opens = refl };
  state = record {
    gives = λ keeps. if_not _ _ _ c.from_residual.ensures.1;
    answered = if_not _ _ _ c.from_residual.ensures.1;
    kept = if_not _ _ _ c.from_residual.ensures.1;
    table = on_err _ c.plan_session.ensures.same;
    opens = on_err _ refl;
    volume =
        let now = c.args.engine.now.moment in
        let fs = fs_of c.args.engine.now.fs.now in
        let old = table_of c.args.engine.now.table.now in
        let before = opens_of c.args.engine.now.opens.now in
        let request = in_progress_of c.args.self.now in
        let arguments = create_session_view c.args.arguments.now in
        let limits = limits_of c.limits_by-limits.result in
        let served = c.limits_by-limits.ensures ∙ ap served_by c.version.ensures.version in
        let wanted = create_session limits request.context.cred.uid arguments old in
        let plan = c.in-Ok-New.plan in
        let known = answers.create_session_view plan.answer in
        let both : IsPlanned wanted old plan × AreEdits old.run limits.seat_slots (edits_view plan.edits) old.seats = rw c.in-Ok-New.field-0-is at c.in-Ok-New.ensures.planned in
        let planned = both.0 in
        let opens = without_clients plan.ended.items before in
        let gives : GivesIn now (shared fs old before) (shared fs wanted.table opens) request request (Argument.CreateSession arguments) (Done (Answer.CreateSession known)) =
        subst (Operates now (shared fs old before) (shared fs wanted.table opens) request (Argument.CreateSession arguments)) c.answer_first-done.ensures.is
        (c.answer_first-done.ensures.gives now (shared fs old before) (shared fs wanted.table opens) (Argument.CreateSession arguments)
        (create_runs limits now fs fs old wanted.table before request arguments known plan.ended.items served planned.answer planned.ended refl (same_tree fs))) in
        rw (is_err_of c.from_residual.result c.in_err-put_seats-in-Ok-New.field-0.0 c.from_residual.ensures.1)
        (seats_change g.D.Device.keeps_word (shared fs old before) wanted.table opens request request now (Argument.CreateSession arguments) (Done (Answer.CreateSession known)) refl gives _ _ _ _
        (seated_as g.D.Device.keeps_word fs _ _ _ _ (edited_all (edits_view plan.edits) fs.volume.seats) wanted.table.seats
        (λ keeps. planned.seats ∙ ap (edited_all (edits_view plan.edits)) (c.requires.ready.agrees keeps).seats) (rw c.in_err-put_seats-in-Ok-New.was at c.put_seats.ensures.volume)));
  };
}

-- A kept result is sent again

pub returns-in-Ok-Again : goal.returns-in-Ok-Again
unfolding in_progress_of
returns-in-Ok-Again g c = record {
  same = record { fs = refl; table = refl; opens = refl };
  state = record {
    gives = λ keeps.
        let now = c.args.engine.now.moment in
        let fs = fs_of c.args.engine.now.fs.now in
        let old = table_of c.args.engine.now.table.now in
        let before = opens_of c.args.engine.now.opens.now in
        let request = in_progress_of c.args.self.now in
        let arguments = create_session_view c.args.arguments.now in
        let limits = limits_of c.limits_by-limits.result in
        let served = c.limits_by-limits.ensures ∙ ap served_by c.version.ensures.version in
        let kind = Argument.CreateSession arguments in
        let known = answers.create_session_view c.in-Ok-Again.answer in
        let is = rw c.in-Ok-Again.field-0-is at c.in-Ok-Again.ensures.planned in
        let runs = create_runs limits now fs fs old old before request arguments known [] served (ap (λ (o : CreateSessionOutcome). o.answer) is) (ap (λ (o : CreateSessionOutcome). o.ended_clients) is)
        (ap (λ (o : CreateSessionOutcome). o.table) is) (same_tree fs) in
        subst (λ (t : Table). Operates now (shared fs old before) (shared fs t before) request kind c.answer_first.result) (sym c.plan_session.ensures.same)
        (c.answer_first.ensures.gives now (shared fs old before) (shared fs old before) kind
        (subst (λ (opens : Opens). RunsTo now (shared fs old before) (shared fs old opens) request request kind (Done (Answer.CreateSession known))) (none_ended before) runs));
    answered = result_answered (in_progress_of c.args.self.now) _ c.answer_first.ensures.answered;
    kept = result_kept (in_progress_of c.args.self.now) _ _ c.answer_first.ensures.answered;
    table = tt;
    opens = tt;
    volume =
        let now = c.args.engine.now.moment in
        let fs = fs_of c.args.engine.now.fs.now in
        let old = table_of c.args.engine.now.table.now in
        let before = opens_of c.args.engine.now.opens.now in
        let request = in_progress_of c.args.self.now in
        let arguments = create_session_view c.args.arguments.now in
        let limits = limits_of c.limits_by-limits.result in
        let served = c.limits_by-limits.ensures ∙ ap served_by c.version.ensures.version in
        let kind = Argument.CreateSession arguments in
        let known = answers.create_session_view c.in-Ok-Again.answer in
        let is = rw c.in-Ok-Again.field-0-is at c.in-Ok-Again.ensures.planned in
        let opens = without_clients [] before in
        let gives : GivesIn now (shared fs old before) (shared fs old opens) request request kind (Done (Answer.CreateSession known)) =
        subst (Operates now (shared fs old before) (shared fs old opens) request kind) c.answer_first.ensures.is
        (c.answer_first.ensures.gives now (shared fs old before) (shared fs old opens) kind
        (create_runs limits now fs fs old old before request arguments known [] served (ap (λ (o : CreateSessionOutcome). o.answer) is) (ap (λ (o : CreateSessionOutcome). o.ended_clients) is)
        (ap (λ (o : CreateSessionOutcome). o.table) is) (same_tree fs))) in
        seats_change g.D.Device.keeps_word (shared fs old before) old opens request request now kind (Done (Answer.CreateSession known)) refl gives fs _ _ ends.Done
        (seated_still g.D.Device.keeps_word fs (fs_failures c.args.engine.now.fs.now) old.seats c.requires.ready.up (λ keeps. (c.requires.ready.agrees keeps).seats));
  };
}

-- Refused

pub returns-in-Err-Status : goal.returns-in-Err-Status
unfolding in_progress_of
returns-in-Err-Status g c = record {
  same = record { fs = refl; table = refl; opens = refl };
  state = record {
    gives = λ keeps.
        let now = c.args.engine.now.moment in
        let fs = fs_of c.args.engine.now.fs.now in
        let old = table_of c.args.engine.now.table.now in
        let before = opens_of c.args.engine.now.opens.now in
        let request = in_progress_of c.args.self.now in
        let arguments = create_session_view c.args.arguments.now in
        let limits = limits_of c.limits_by-limits.result in
        let served = c.limits_by-limits.ensures ∙ ap served_by c.version.ensures.version in
        let kind = Argument.CreateSession arguments in
        let is = rw c.in-Err-Status.field-0-is at c.in-Err-Status.ensures.planned in
        subst (λ (t : Table). Operates now (shared fs old before) (shared fs t before) request kind c.refuse.result) (sym c.plan_session.ensures.same)
        (c.refuse.ensures.gives now (shared fs old before) (shared fs old before) kind (create_refuses limits now fs old before request arguments c.in-Err-Status.status served is));
    answered = result_answered (in_progress_of c.args.self.now) _ c.refuse.ensures.answered;
    kept = result_kept (in_progress_of c.args.self.now) _ _ c.refuse.ensures.answered;
    table = tt;
    opens = tt;
    volume =
        let now = c.args.engine.now.moment in
        let fs = fs_of c.args.engine.now.fs.now in
        let old = table_of c.args.engine.now.table.now in
        let before = opens_of c.args.engine.now.opens.now in
        let request = in_progress_of c.args.self.now in
        let arguments = create_session_view c.args.arguments.now in
        let limits = limits_of c.limits_by-limits.result in
        let served = c.limits_by-limits.ensures ∙ ap served_by c.version.ensures.version in
        let is = rw c.in-Err-Status.field-0-is at c.in-Err-Status.ensures.planned in
        seats_change g.D.Device.keeps_word (shared fs old before) old before request request now (Argument.CreateSession arguments) (Refused 43 c.in-Err-Status.status) refl
        (create_refuses limits now fs old before request arguments c.in-Err-Status.status served is) fs _ _ ends.Done
        (seated_still g.D.Device.keeps_word fs (fs_failures c.args.engine.now.fs.now) old.seats c.requires.ready.up (λ keeps. (c.requires.ready.agrees keeps).seats));
  };
}

pub returns-in-Err-Memory : goal.returns-in-Err-Memory
returns-in-Err-Memory g c = record {
  same = record { fs = refl; table = refl; opens = refl };
  state = record {
    gives = λ keeps. tt;
    answered = tt;
    kept = tt;
    table = c.plan_session.ensures.same;
    opens = refl;
    volume = leaves_all g.D.Device.keeps_word _ _ _ _ _ refl refl;
  };
}

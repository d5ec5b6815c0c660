use Rattle.std.proofs.Common.{Some, Ok, refl, sym, ap, ◌∙◌}
use Rattle.std.specs.Option.{option_map, option_copied}
use Rattle.std.proofs.lemmas.Result.{err_from_is_err_and}
use Rattle.std.specs.Result.{result_err}
use Rattle.model_tree.specs.Seats.Seats.{seat_of}
use Rattle.model_tree.specs.Seats.SeatViews.{seats_view}
use Rattle.model.specs.Sessions.Session.{begin, begin_by, started, Session as Known}
use Rattle.wire.specs.ArgumentViews.{sequence_view}
use Rattle.session.specs.Views.{table_of, table_by, roll_of, seating_of, session_of, reply_kept, kept_reply_in}
use Rattle.session.proofs.Beginning.{refuses, replays, runs, replays_kept, dead_refuses, dead_replays}
use Rattle.session.proofs.table.Table.begin.Goals as goal

pub returns-in_err-check_dead-clause-answered : goal.returns-in_err-check_dead-clause-answered
unfolding begin table_of
returns-in_err-check_dead-clause-answered c =
    let arguments = sequence_view c.args.arguments.now in
    let seats = seats_view c.args.self.now.seats in
    let found = sym c.find.ensures ∙ ap (λ r. option_map session_of (option_copied r)) c.in_default.is in
    let refused = dead_refuses c.args.uid arguments c.in_err-check_dead.field-0.0 (seat_of arguments.session seats) (sym c.check_dead.ensures.answered ∙ ap result_err c.in_err-check_dead.was) in
    let p = err_from_is_err_and c.from_residual.result c.from_residual.ensures.1 in
    rw (p.1, p.2) (ap (begin_by c.args.uid c.args.count arguments seats) found ∙ refused, refl)

pub returns-in_default-clause-answered : goal.returns-in_default-clause-answered
unfolding begin table_of reply_kept
returns-in_default-clause-answered c =
    let arguments = sequence_view c.args.arguments.now in
    let seats = seats_view c.args.self.now.seats in
    let found = sym c.find.ensures ∙ ap (λ r. option_map session_of (option_copied r)) c.in_default.is in
    let replays = dead_replays c.args.uid arguments (seat_of arguments.session seats) (sym c.check_dead.ensures.answered ∙ ap result_err c.in_ok-check_dead.was) in (
      replays.0,
      ap (begin_by c.args.uid c.args.count arguments seats) found ∙ replays.1,
      ap (kept_reply_in arguments.session arguments.slot seats) found ∙ replays.2,
      refl,
    )

pub returns-in_err-next-clause-answered : goal.returns-in_err-next-clause-answered
unfolding begin table_of
returns-in_err-next-clause-answered c =
    let arguments = sequence_view c.args.arguments.now in
    let session : Known = session_of c.in-Some.session.now in
    let found = sym c.find.ensures ∙ ap (λ r. option_map session_of (option_copied r)) c.in-Some.is in
    let p = err_from_is_err_and c.from_residual-in_err-next.result c.from_residual-in_err-next.ensures.1 in
    rw (p.1, p.2) (
      ap (begin_by c.args.uid c.args.count arguments (seats_view c.args.self.now.seats)) found
          ∙ refuses (begin_by c.args.uid c.args.count arguments (seats_view c.args.self.now.seats) (Some session)) c.in_err-next.field-0.0 (sym c.next.ensures.next ∙ c.in_err-next.was),
      refl,
    )

pub returns-in-Replays-clause-answered : goal.returns-in-Replays-clause-answered
unfolding begin table_of reply_kept
returns-in-Replays-clause-answered c =
    let arguments = sequence_view c.args.arguments.now in
    let session : Known = session_of c.in-Some.session.now in
    let found = sym c.find.ensures ∙ ap (λ r. option_map session_of (option_copied r)) c.in-Some.is in
    let next = replays (begin_by c.args.uid c.args.count arguments (seats_view c.args.self.now.seats) (Some session)) (sym c.next.ensures.next ∙ c.in_ok-next.was ∙ ap Ok c.in-Replays.is) in (
      next.0,
      ap (begin_by c.args.uid c.args.count arguments (seats_view c.args.self.now.seats)) found ∙ next.1,
      ap (kept_reply_in c.args.arguments.now.session c.args.arguments.now.slot (seats_view c.args.self.now.seats)) found ∙ replays_kept c.args.uid c.args.count arguments (seats_view c.args.self.now.seats) session next.0 next.1,
      refl,
    )

pub returns-clause-answered : goal.returns-clause-answered
unfolding begin table_of started
returns-clause-answered c =
    let arguments = sequence_view c.args.arguments.now in
    let session : Known = session_of c.in-Some.session.now in
    let found = sym c.find.ensures ∙ ap (λ r. option_map session_of (option_copied r)) c.in-Some.is in
    let next = runs (begin_by c.args.uid c.args.count arguments (seats_view c.args.self.now.seats) (Some session)) (sym c.next.ensures.next ∙ c.in_ok-next.was ∙ ap Ok c.in-Runs.is) in (
      session,
      found,
      (
        refl,
        ap (λ highest. record {
          session = c.args.arguments.now.session;
          sequence = c.args.arguments.now.sequence;
          slot = c.args.arguments.now.slot;
          highest_slot = highest;
          target_highest_slot = highest;
          flags = 0;
        }) c.highest_slot-highest_slot.ensures,
      ),
      ap (begin_by c.args.uid c.args.count arguments (seats_view c.args.self.now.seats)) found ∙ next,
      ap (λ book. table_by (roll_of c.args.self.now.clients) book (seating_of c.args.self.now)) c.start.ensures,
    )

use Rattle.std.proofs.Common.{ap, ◌∙◌}
use Rattle.session.specs.Views.{table_of, table_by, roll_of, seating_of}
use Rattle.session.proofs.table.Table.plan_session.Goals as goal
use Rattle.session.proofs.table.Table.plan_session.Goals.{in-New+in_ok-reserve, in_default}

pub returns-in_err-reserve-clause-same : goal.returns-in_err-reserve-clause-same
unfolding table_of
returns-in_err-reserve-clause-same c = ap (λ book. table_by (roll_of c.args.self.now.clients) book (seating_of c.args.self.now)) c.reserve.ensures.same

pub returns-clause-same : goal.returns-clause-same
unfolding table_of
returns-clause-same c =
    elim c.match-creation.branch [
      | in-New+in_ok-reserve w ↦ ap table_of w.self-is ∙ ap (λ book. table_by (roll_of c.args.self.now.clients) book (seating_of c.args.self.now)) w.reserve.ensures.same
      | in_default w ↦ ap table_of w.self-is
    ]

use Rattle.std.proofs.lemmas.Result.{err_from_is_err_and}
use Rattle.wire.specs.ArgumentViews.{exchange_id_view}
use Rattle.session.specs.Limits.{limits_of}
use Rattle.session.specs.Views.{table_of, book_of, seating_of, exchanged_answer}
use Rattle.session.proofs.Adding.{added_err, added_ok}
use Rattle.session.proofs.table.Table.add_client.Goals as goal

pub returns-in_err-number-clause-answered : goal.returns-in_err-number-clause-answered
unfolding table_of
returns-in_err-number-clause-answered c =
    let p = err_from_is_err_and c.from_residual.result c.from_residual.ensures.1 in
    rw (p.1, p.2)
    (added_err (limits_of c.args.limits) c.args.uid (exchange_id_view c.args.arguments.now) c.args.dropped c.yielded_for-yielded.result c.args.self.now.clients c.add.new.self (book_of c.args.self.now.sessions) (seating_of c.args.self.now)
    c.yielded_for-yielded.ensures c.in_err-number.field-0.0 c.in_err-number.ensures)

pub returns-clause-answered : goal.returns-clause-answered
unfolding table_of
returns-clause-answered c =
    let name = c.args.self.now.settings.name.bytes.items in
    added_ok (limits_of c.args.limits) c.args.uid (exchange_id_view c.args.arguments.now) c.args.dropped c.yielded_for-yielded.result c.args.self.now.clients c.add.new.self (book_of c.args.self.now.sessions) (seating_of c.args.self.now)
    c.yielded_for-yielded.ensures c.in_ok-number.number (exchanged_answer name c.answer.result) c.in_ok-number.ensures (c.answer.ensures name)

use Rattle.std.proofs.Common.{◌≡◌, ℕ, ◌==◌, true, false, List, Result, Ok, sym, ap, ◌∙◌, subst, rules, tests, bytes_eq}
use Rattle.std.specs.Option.{option_map, option_copied}
use Rattle.model_tree.specs.declared.status.Status.{Status}
use Rattle.model.specs.Operations.Answer.{ExchangeIdAnswer as Answered}
use Rattle.model.specs.Sessions.Session.{exchange_answer, exchange_flags, has_only, is_unconfirmed_of, without_where, Client as Known, Table}
use Rattle.wire.specs.ArgumentViews.{exchange_id_view}
use Rattle.session.specs.Calls.{Exchanged}
use Rattle.session.specs.Limits.{limits_of}
use Rattle.session.specs.Views.{table_of, table_by, book_of, seating_of, client_of, clients_of, among, exchanged_answer}
use Rattle.session.proofs.Exchanging.{exchange_inval, exchange_unknown, exchange_other, exchange_same}
use Rattle.session.proofs.table.Table.exchange_id.Goals as goal

pub returns-then-not-may_be_asked-clause-answered : goal.returns-then-not-may_be_asked-clause-answered
unfolding table_of
returns-then-not-may_be_asked-clause-answered c =
    let flags : has_only exchange_flags c.args.arguments.now.flags ≡ false = search (rules, tests) in
    exchange_inval (limits_of c.args.limits) (among c.args.with_opens.now) c.args.uid (exchange_id_view c.args.arguments.now) (table_of c.args.self.now) flags

pub returns-in_default-clause-answered : goal.returns-in_default-clause-answered
unfolding table_of
returns-in_default-clause-answered c =
    let flags : has_only exchange_flags c.args.arguments.now.flags ≡ true = search (rules, tests) in
    let found = sym c.confirmed.ensures ∙ ap (λ r. option_map client_of (option_copied r)) c.in_default.is in
    subst (λ (wanted : Result Answered Status × Table). Exchanged wanted (table_of c.args.self.now) (table_of c.add_client.new.self) c.add_client.result)
    (sym (exchange_unknown (limits_of c.args.limits) (among c.args.with_opens.now) c.args.uid (exchange_id_view c.args.arguments.now) (table_of c.args.self.now) flags found)) c.add_client.ensures.answered

pub returns-then-has_state-clause-answered : goal.returns-then-has_state-clause-answered
unfolding table_of
returns-then-has_state-clause-answered c =
    let flags : has_only exchange_flags c.args.arguments.now.flags ≡ true = search (rules, tests) in
    let found = sym c.confirmed.ensures ∙ ap (λ r. option_map client_of (option_copied r)) c.in-Some.is in
    let other : (c.in-Some.client.now.principal == c.args.uid) ≡ false = search (rules, tests) in
    exchange_other (limits_of c.args.limits) (among c.args.with_opens.now) c.args.uid (exchange_id_view c.args.arguments.now) (table_of c.args.self.now) (client_of c.in-Some.client.now) true flags found other
    (sym c.has_state.ensures ∙ c.if-has_state.true)

pub returns-then-client-uid-clause-answered : goal.returns-then-client-uid-clause-answered
unfolding table_of
returns-then-client-uid-clause-answered c =
    let flags : has_only exchange_flags c.args.arguments.now.flags ≡ true = search (rules, tests) in
    let found = sym c.confirmed.ensures ∙ ap (λ r. option_map client_of (option_copied r)) c.in-Some.is in
    let other : (c.in-Some.client.now.principal == c.args.uid) ≡ false = search (rules, tests) in
    subst (λ (wanted : Result Answered Status × Table). Exchanged wanted (table_of c.args.self.now) (table_of c.add_client-then-client-uid.new.self) c.add_client-then-client-uid.result)
    (sym (exchange_other (limits_of c.args.limits) (among c.args.with_opens.now) c.args.uid (exchange_id_view c.args.arguments.now) (table_of c.args.self.now) (client_of c.in-Some.client.now) false flags found other
    (sym c.has_state.ensures ∙ c.if-has_state.false)))
    c.add_client-then-client-uid.ensures.answered

pub returns-then-ne-clause-answered : goal.returns-then-ne-clause-answered
unfolding table_of
returns-then-ne-clause-answered c =
    let flags : has_only exchange_flags c.args.arguments.now.flags ≡ true = search (rules, tests) in
    let found = sym c.confirmed.ensures ∙ ap (λ r. option_map client_of (option_copied r)) c.in-Some.is in
    let same : (c.in-Some.client.now.principal == c.args.uid) ≡ true = search (rules, tests) in
    let verifier : bytes_eq c.in-Some.client.now.verifier c.args.arguments.now.verifier ≡ false = search (rules, tests) in
    subst (λ (wanted : Result Answered Status × Table). Exchanged wanted (table_of c.args.self.now) (table_of c.add_client-then-ne.new.self) c.add_client-then-ne.result)
    (sym (exchange_same (limits_of c.args.limits) (among c.args.with_opens.now) c.args.uid (exchange_id_view c.args.arguments.now) (table_of c.args.self.now) (client_of c.in-Some.client.now) false flags found same verifier))
    c.add_client-then-ne.ensures.answered

pub returns-clause-answered : goal.returns-clause-answered
unfolding table_of
returns-clause-answered c =
    let flags : has_only exchange_flags c.args.arguments.now.flags ≡ true = search (rules, tests) in
    let found = sym c.confirmed.ensures ∙ ap (λ r. option_map client_of (option_copied r)) c.in-Some.is in
    let same : (c.in-Some.client.now.principal == c.args.uid) ≡ true = search (rules, tests) in
    let verifier : bytes_eq c.in-Some.client.now.verifier c.args.arguments.now.verifier ≡ true = search (rules, tests) in
    let name = c.args.self.now.settings.name.bytes.items in
    let told = ap (exchange_answer name c.in-Some.client.now.number c.in-Some.client.now.sequence) (sym (c.union-flags.ensures tt)) in
    exchange_same (limits_of c.args.limits) (among c.args.with_opens.now) c.args.uid (exchange_id_view c.args.arguments.now) (table_of c.args.self.now) (client_of c.in-Some.client.now) true flags found same verifier
    ∙ ap (λ (a : Answered). (Ok a, table_by (c.args.self.now.clients.run, c.args.self.now.clients.serial, without_where (is_unconfirmed_of c.args.arguments.now.owner.now) (clients_of c.args.self.now.clients)) (book_of c.args.self.now.sessions) (seating_of c.args.self.now))) (told ∙ sym (c.answer-answer.ensures name))
    ∙ ap (λ (roll : ℕ × ℕ × List Known). (Ok (exchanged_answer name c.answer-answer.result), table_by roll (book_of c.args.self.now.sessions) (seating_of c.args.self.now))) (sym c.remove_unconfirmed.ensures)

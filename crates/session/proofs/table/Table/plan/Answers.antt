use Rattle.std.proofs.Common.{◌≡◌, ◌==◌, ◌+◌, ◌*◌, ◌^◌, ◌<◌, ◌≤◌, true, false, sym, ap, ◌∙◌, subst, rules, tests, arith}
use Rattle.std.specs.Option.{option_map, option_copied}
use Rattle.std.specs.Result.{result_err}
use Rattle.std.proofs.lemmas.Result.{err_from_is_err_and}
use Rattle.model.specs.Sessions.Session.{Client as Known, CreateSessionOutcome, create_unless, is_client}
use Rattle.wire.specs.ArgumentViews.{create_session_view}
use Rattle.wire.specs.AnswerViews.{create_session_view as answer_view}
use Rattle.session.specs.Plans.{IsPlanned}
use Rattle.session.specs.Limits.{limits_of}
use Rattle.session.specs.Views.{table_of, client_of}
use Rattle.session.proofs.Lists.{find_all}
use Rattle.session.proofs.Creating.{create_unknown, create_other, create_same, repeats, counts, refused_by_arguments, refused_by_room, serial_left}
use Rattle.session.proofs.table.Table.plan.Goals as goal

pub returns-in_default-clause-planned : goal.returns-in_default-clause-planned
unfolding table_of
returns-in_default-clause-planned c =
    let found = sym c.find.ensures ∙ ap (λ r. option_map client_of (option_copied r)) c.in_default.is in
    let e = create_unknown (limits_of c.args.limits) c.args.uid (create_session_view c.args.arguments.now) (table_of c.args.self.now) found in
    e

pub returns-then-client-uid-clause-planned : goal.returns-then-client-uid-clause-planned
unfolding table_of
returns-then-client-uid-clause-planned c =
    let found = sym c.find.ensures ∙ ap (λ r. option_map client_of (option_copied r)) c.in-Some.is in
    let other : (c.in-Some.client.now.principal == c.args.uid) ≡ false = search (rules, tests) in
    let e = create_other (limits_of c.args.limits) c.args.uid (create_session_view c.args.arguments.now) (table_of c.args.self.now) (client_of c.in-Some.client.now) found other in
    e

pub returns-in-Some-repeated-clause-planned : goal.returns-in-Some-repeated-clause-planned
unfolding table_of
returns-in-Some-repeated-clause-planned c =
    let arguments = create_session_view c.args.arguments.now in
    let client : Known = client_of c.in-Some.client.now in
    let found = sym c.find.ensures ∙ ap (λ r. option_map client_of (option_copied r)) c.in-Some.is in
    let same : (c.in-Some.client.now.principal == c.args.uid) ≡ true = search (rules, tests) in
    let e = create_same (limits_of c.args.limits) c.args.uid arguments (table_of c.args.self.now) client found same
    ∙ repeats (limits_of c.args.limits) answer_view arguments client (table_of c.args.self.now) c.in-Some.client.now.kept c.in-Some-repeated.answer (sym c.repeated.ensures ∙ c.in-Some-repeated.is) in
    e

pub returns-in_err-check_arguments-clause-planned : goal.returns-in_err-check_arguments-clause-planned
unfolding table_of
returns-in_err-check_arguments-clause-planned c =
    let arguments = create_session_view c.args.arguments.now in
    let client : Known = client_of c.in-Some.client.now in
    let found = sym c.find.ensures ∙ ap (λ r. option_map client_of (option_copied r)) c.in-Some.is in
    let same : (c.in-Some.client.now.principal == c.args.uid) ≡ true = search (rules, tests) in
    let refused = refused_by_arguments (limits_of c.args.limits) arguments client (table_of c.args.self.now) c.in_err-check_arguments.field-0.0 (sym c.check_arguments.ensures.first ∙ ap result_err c.in_err-check_arguments.was) in
    let e = create_same (limits_of c.args.limits) c.args.uid arguments (table_of c.args.self.now) client found same
    ∙ counts (limits_of c.args.limits) answer_view arguments client (table_of c.args.self.now) c.in-Some.client.now.kept (sym c.repeated.ensures ∙ c.in_default-repeated.is)
    ∙ ap (create_unless (limits_of c.args.limits) arguments client (table_of c.args.self.now)) refused in
    let p = err_from_is_err_and c.from_residual.result c.from_residual.ensures.1 in
    rw (p.1, p.2) e

pub returns-in_err-check_room-clause-planned : goal.returns-in_err-check_room-clause-planned
unfolding table_of
returns-in_err-check_room-clause-planned c =
    let arguments = create_session_view c.args.arguments.now in
    let client : Known = client_of c.in-Some.client.now in
    let found = sym c.find.ensures ∙ ap (λ r. option_map client_of (option_copied r)) c.in-Some.is in
    let same : (c.in-Some.client.now.principal == c.args.uid) ≡ true = search (rules, tests) in
    let refused = refused_by_room (limits_of c.args.limits) arguments client (table_of c.args.self.now) (sym c.check_arguments.ensures.first ∙ ap result_err c.in_ok-check_arguments.was)
    ∙ sym c.check_room.ensures.first ∙ ap result_err c.in_err-check_room.was in
    let e = create_same (limits_of c.args.limits) c.args.uid arguments (table_of c.args.self.now) client found same
    ∙ counts (limits_of c.args.limits) answer_view arguments client (table_of c.args.self.now) c.in-Some.client.now.kept (sym c.repeated.ensures ∙ c.in_default-repeated.is)
    ∙ ap (create_unless (limits_of c.args.limits) arguments client (table_of c.args.self.now)) refused in
    let p = err_from_is_err_and c.from_residual-in_err-check_room.result c.from_residual-in_err-check_room.ensures.1 in
    rw (p.1, p.2) e

pub returns-in_err-plan-clause-planned : goal.returns-in_err-plan-clause-planned
unfolding table_of
returns-in_err-plan-clause-planned c =
    let arguments = create_session_view c.args.arguments.now in
    let client : Known = client_of c.in-Some.client.now in
    let found = sym c.find.ensures ∙ ap (λ r. option_map client_of (option_copied r)) c.in-Some.is in
    let same : (c.in-Some.client.now.principal == c.args.uid) ≡ true = search (rules, tests) in
    let room = refused_by_room (limits_of c.args.limits) arguments client (table_of c.args.self.now) (sym c.check_arguments.ensures.first ∙ ap result_err c.in_ok-check_arguments.was)
    ∙ sym c.check_room.ensures.first ∙ ap result_err c.in_ok-check_room.was in
    let e = create_same (limits_of c.args.limits) c.args.uid arguments (table_of c.args.self.now) client found same
    ∙ counts (limits_of c.args.limits) answer_view arguments client (table_of c.args.self.now) c.in-Some.client.now.kept (sym c.repeated.ensures ∙ c.in_default-repeated.is)
    ∙ ap (create_unless (limits_of c.args.limits) arguments client (table_of c.args.self.now)) room in
    let p = err_from_is_err_and c.from_residual-in_err-plan.result c.from_residual-in_err-plan.ensures.1 in
    rw (p.1, p.2) (ap (λ (o : CreateSessionOutcome). o.table.session_serial) e)

pub plan_new-requires-clause-serial : goal.plan_new-requires-clause-serial
unfolding table_of
plan_new-requires-clause-serial c =
    let left = serial_left (limits_of c.args.limits) (client_of c.in-Some.client.now) (table_of c.args.self.now) (sym c.check_room.ensures.first ∙ ap result_err c.in_ok-check_room.was) in
    omega arith

pub plan_new-requires-clause-known : goal.plan_new-requires-clause-known
unfolding table_of
plan_new-requires-clause-known c =
    let clients = c.args.self.now.clients in
    let client : Known = client_of c.in-Some.client.now in
    let found = sym c.find.ensures ∙ ap (λ r. option_map client_of (option_copied r)) c.in-Some.is in (
      find_all client_of (is_client c.args.arguments.now.client) (λ (known : Known). clients.run * 2 ^ 32 < known.number) clients.list.items clients.of_run client found,
      find_all client_of (is_client c.args.arguments.now.client) (λ (known : Known). known.number ≤ clients.run * 2 ^ 32 + clients.serial) clients.list.items clients.made client found,
    )

pub returns-clause-planned : goal.returns-clause-planned
unfolding table_of
returns-clause-planned c =
    let arguments = create_session_view c.args.arguments.now in
    let client : Known = client_of c.in-Some.client.now in
    let found = sym c.find.ensures ∙ ap (λ r. option_map client_of (option_copied r)) c.in-Some.is in
    let same : (c.in-Some.client.now.principal == c.args.uid) ≡ true = search (rules, tests) in
    let room = refused_by_room (limits_of c.args.limits) arguments client (table_of c.args.self.now) (sym c.check_arguments.ensures.first ∙ ap result_err c.in_ok-check_arguments.was)
    ∙ sym c.check_room.ensures.first ∙ ap result_err c.in_ok-check_room.was in
    let e = create_same (limits_of c.args.limits) c.args.uid arguments (table_of c.args.self.now) client found same
    ∙ counts (limits_of c.args.limits) answer_view arguments client (table_of c.args.self.now) c.in-Some.client.now.kept (sym c.repeated.ensures ∙ c.in_default-repeated.is)
    ∙ ap (create_unless (limits_of c.args.limits) arguments client (table_of c.args.self.now)) room in (
      subst (λ (wanted : CreateSessionOutcome). IsPlanned wanted (table_of c.args.self.now) c.in_ok-plan.plan) (sym e) c.in_ok-plan.ensures.planned,
      c.in_ok-plan.ensures.edits,
    )

use Rattle.std.proofs.Common.{◌*◌, ◌^◌, ◌<◌, not, sym, ap, ◌∙◌, rules, tests}
use Rattle.std.proofs.lemmas.Fn.{filter_same}
use Rattle.session.proofs.Lists.{changed_at, untouched}
use Rattle.session.proofs.Kept.{rises_filtered, all_filtered, up_to_filtered}
use Rattle.model.specs.Sessions.Session.{is_client, changed_where, confirmed_with}
use Rattle.session.specs.declared.client.Client.{Client}
use Rattle.session.specs.Views.{client_of, among}
use Rattle.session.proofs.Ending.{number_of, one_client, ended_out}
use Rattle.wire.specs.AnswerViews.{create_session_view}
use Rattle.session.proofs.clients.Clients.confirm.Goals as goal

pub invariant_of-self : goal.invariant_of-self
invariant_of-self c =
    let kept = filter_same _ (λ (client : Client). not (among c.args.ended.now client.number)) _ (λ x b f' k. search (rules, tests)) _ _ c.retain.ensures.filtered in
    record {
      run_fits = c.args.self.now.run_fits;
      serial_fits = c.args.self.now.serial_fits;
      rising = rises_filtered number_of _ _ _ kept c.args.self.now.rising;
      of_run = all_filtered (λ (client : Client). c.args.self.now.run * 2 ^ 32 < client.number) _ _ _ kept c.args.self.now.of_run;
      made = up_to_filtered number_of _ _ _ _ kept c.args.self.now.made;
    }

pub returns-in-Some : goal.returns-in-Some
returns-in-Some c client same ended =
    let kept = filter_same _ (λ (client : Client). not (among c.args.ended.now client.number)) _ (λ x b f' k. search (rules, tests)) _ _ c.retain.ensures.filtered in
    ap (λ records. (c.args.self.now.run, c.args.self.now.serial, records))
    (changed_at client_of number_of (is_client c.args.number) (confirmed_with (create_session_view c.args.answer)) c.retain.new.self.items c.in-Some.at c.index_mut.result.now c.confirm.new.self
    (rises_filtered number_of _ _ _ kept c.args.self.now.rising) (one_client c.args.number c.retain.new.self.items) (sym c.position.ensures ∙ c.in-Some.is) c.index_mut.ensures.value c.confirm.ensures
    ∙ ap (changed_where (is_client c.args.number) (confirmed_with (create_session_view c.args.answer)))
    (ended_out client c.args.self.now.list.items c.retain.new.self.items c.args.ended.now c.args.self.now.rising ended kept))

pub returns-in_default : goal.returns-in_default
returns-in_default c client same ended =
    let kept = filter_same _ (λ (client : Client). not (among c.args.ended.now client.number)) _ (λ x b f' k. search (rules, tests)) _ _ c.retain.ensures.filtered in
    ap (λ records. (c.args.self.now.run, c.args.self.now.serial, records))
    (sym (untouched client_of (is_client c.args.number) (confirmed_with (create_session_view c.args.answer)) c.retain.new.self.items (sym c.position.ensures ∙ c.in_default.is))
    ∙ ap (changed_where (is_client c.args.number) (confirmed_with (create_session_view c.args.answer)))
    (ended_out client c.args.self.now.list.items c.retain.new.self.items c.args.ended.now c.args.self.now.rising ended kept))

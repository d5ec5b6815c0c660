use Rattle.std.proofs.Common.{ℕ, ◌+◌, ◌*◌, ◌^◌, ◌<◌, List, [], ◌∷◌, ◌++◌, filter, sym, ap, ◌∙◌, arith, rules, tests}
use Rattle.std.proofs.lemmas.Fn.{filter_same}
use Rattle.session.proofs.Lists.{kept_view, pushed, pushed_view}
use Rattle.session.proofs.Kept.{rises_filtered, all_filtered, up_to_filtered, rises_pushed, all_pushed, up_to_pushed}
use Rattle.model.specs.Sessions.Session.{Client as Known}
use Rattle.session.specs.declared.client.Client.{Client}
use Rattle.session.specs.Views.{client_of, clients_of}
use Rattle.session.specs.Rooms.{stays, records_staying, record_of}
use Rattle.session.proofs.Ending.{number_of}
use Rattle.wire.specs.ArgumentViews.{exchange_id_view}
use Rattle.session.proofs.clients.Clients.add.Goals as goal

pub invariant_of-self-2 : goal.invariant_of-self-2
invariant_of-self-2 c =
    let staying = λ (client : Client). stays c.args.arguments.now.owner.now c.args.dropped c.args.yielded (client_of client) in
    let kept = filter_same _ staying _ (λ x b f' k. search (rules, tests)) _ _ c.retain.ensures.filtered ∙ ap (filter staying) c.reserve.ensures.items in
    let grown = pushed c.push.result c.retain.new.self.items c.push.new.self.items _ c.push.ensures.items (sym c.is_err.ensures.value ∙ c.if-is_err.false) in
    record {
      run_fits = c.args.self.now.run_fits;
      serial_fits = search (rules, tests);
      rising = rises_pushed number_of (c.args.self.now.run * 2 ^ 32 + c.args.self.now.serial) _ _ _ grown (rises_filtered number_of _ _ _ kept c.args.self.now.rising) (up_to_filtered number_of _ _ _ _ kept c.args.self.now.made) (omega arith);
      of_run = all_pushed (λ (client : Client). c.args.self.now.run * 2 ^ 32 < client.number) _ _ _ grown (all_filtered (λ (client : Client). c.args.self.now.run * 2 ^ 32 < client.number) _ _ _ kept c.args.self.now.of_run) (omega arith);
      made = up_to_pushed number_of (c.args.self.now.run * 2 ^ 32 + c.args.self.now.serial) _ _ _ _ grown (up_to_filtered number_of _ _ _ _ kept c.args.self.now.made) (omega arith) (omega arith);
    }

pub returns : goal.returns
returns c =
    let staying = λ (client : Client). stays c.args.arguments.now.owner.now c.args.dropped c.args.yielded (client_of client) in
    let kept = filter_same _ staying _ (λ x b f' k. search (rules, tests)) _ _ c.retain.ensures.filtered ∙ ap (filter staying) c.reserve.ensures.items in
    let grown = pushed c.push.result c.retain.new.self.items c.push.new.self.items _ c.push.ensures.items (sym c.is_err.ensures.value ∙ c.if-is_err.false) in
    let number = c.stamp-number.result in
    let made = record (record_of c.args.uid (exchange_id_view c.args.arguments.now) number) { owner = c.in_ok-from_slice.field-0.items } in
    let seen =
    pushed_view client_of c.retain.new.self.items c.push.new.self.items _ grown
    ∙ ap (λ (records : List Known). records ++ made ∷ []) (kept_view (stays c.args.arguments.now.owner.now c.args.dropped c.args.yielded) client_of _ _ kept) in (
      search (rules, tests),
      omega arith,
      ap (λ records. (c.args.self.now.run, c.args.self.now.serial + 1, records))
          (seen
          ∙ ap (λ (owner : List ℕ). records_staying c.args.arguments.now.owner.now c.args.dropped c.args.yielded (clients_of c.args.self.now)
          ++ record (record_of c.args.uid (exchange_id_view c.args.arguments.now) number) { owner = owner } ∷ [])
          c.in_ok-from_slice.ensures.items),
    )

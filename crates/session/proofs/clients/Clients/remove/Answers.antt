use Rattle.std.proofs.Common.{◌*◌, ◌^◌, ◌<◌, not, ap, rules, tests}
use Rattle.std.proofs.lemmas.Fn.{filter_same}
use Rattle.session.proofs.Lists.{kept_view}
use Rattle.session.proofs.Kept.{rises_filtered, all_filtered, up_to_filtered}
use Rattle.model.specs.Sessions.Session.{is_client}
use Rattle.session.specs.declared.client.Client.{Client}
use Rattle.session.specs.Views.{client_of}
use Rattle.session.proofs.Ending.{number_of}
use Rattle.session.proofs.clients.Clients.remove.Goals as goal

pub invariant_of-self : goal.invariant_of-self
invariant_of-self c =
    let kept = filter_same _ (λ (client : Client). not (is_client c.args.number (client_of client))) _ (λ x b f' k. search (rules, tests)) _ _ c.retain.ensures.filtered in
    record {
      run_fits = c.args.self.now.run_fits;
      serial_fits = c.args.self.now.serial_fits;
      rising = rises_filtered number_of _ _ _ kept c.args.self.now.rising;
      of_run = all_filtered (λ (client : Client). c.args.self.now.run * 2 ^ 32 < client.number) _ _ _ kept c.args.self.now.of_run;
      made = up_to_filtered number_of _ _ _ _ kept c.args.self.now.made;
    }

pub returns : goal.returns
returns c =
    let kept = filter_same _ (λ (client : Client). not (is_client c.args.number (client_of client))) _ (λ x b f' k. search (rules, tests)) _ _ c.retain.ensures.filtered in
    ap (λ records. (c.args.self.now.run, c.args.self.now.serial, records)) (kept_view (λ client. not (is_client c.args.number client)) client_of _ _ kept)

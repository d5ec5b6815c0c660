use Rattle.std.proofs.Common.{not, ap, rules, tests}
use Rattle.std.proofs.lemmas.Fn.{filter_same}
use Rattle.session.proofs.Lists.{kept_view}
use Rattle.session.proofs.Kept.{rises_filtered, up_to_filtered}
use Rattle.model.specs.Sessions.Session.{is_session}
use Rattle.session.specs.declared.session.Session.{Session}
use Rattle.session.specs.Views.{session_of}
use Rattle.session.proofs.sessions.Sessions.remove.Goals as goal

pub invariant_of-self : goal.invariant_of-self
invariant_of-self c =
    let kept = filter_same _ (λ (session : Session). not (is_session c.args.id.now (session_of session))) _ (λ x b f' k. search (rules, tests)) _ _ c.retain.ensures.filtered in
    record {
      rising = rises_filtered (λ (session : Session). session.serial) _ _ _ kept c.args.self.now.rising;
      made = up_to_filtered (λ (session : Session). session.serial) _ _ _ _ kept c.args.self.now.made;
      small = c.args.self.now.small;
    }

pub returns : goal.returns
returns c =
    let kept = filter_same _ (λ (session : Session). not (is_session c.args.id.now (session_of session))) _ (λ x b f' k. search (rules, tests)) _ _ c.retain.ensures.filtered in
    ap (λ sessions. (c.args.self.now.serial, sessions)) (kept_view (λ session. not (is_session c.args.id.now session)) session_of _ _ kept)

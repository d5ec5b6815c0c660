use Rattle.std.proofs.Common.{not, [], ◌∷◌, ◌++◌, map, sym, ap, ◌∙◌, arith, rules, tests}
use Rattle.std.proofs.lemmas.List.{map_push}
use Rattle.std.proofs.lemmas.Fn.{filter_same}
use Rattle.session.proofs.Lists.{kept_view, pushed}
use Rattle.session.proofs.Kept.{rises_filtered, up_to_filtered, rises_pushed, up_to_pushed}
use Rattle.model.specs.Sessions.Session.{is_of_clients}
use Rattle.session.specs.declared.session.Session.{Session}
use Rattle.session.specs.Views.{session_of}
use Rattle.session.proofs.Serials.{serial_of}
use Rattle.session.proofs.sessions.Sessions.add.Goals as goal

pub invariant_of-self : goal.invariant_of-self
invariant_of-self c =
    let staying = λ (session : Session). not (is_of_clients c.args.ended.now (session_of session)) in
    let kept = filter_same _ staying _ (λ x b f' k. search (rules, tests)) _ _ c.retain.ensures.filtered in
    let grown = pushed c.push.result c.retain.new.self.items c.push.new.self.items _ c.push.ensures.items (sym c.is_err.ensures.value ∙ c.if-is_err.false) in
    record {
      rising = rises_pushed serial_of c.args.self.now.serial _ _ _ grown (rises_filtered serial_of _ _ _ kept c.args.self.now.rising) (up_to_filtered serial_of _ _ _ _ kept c.args.self.now.made) (omega arith);
      made = up_to_pushed serial_of c.args.self.now.serial _ _ _ _ grown (up_to_filtered serial_of _ _ _ _ kept c.args.self.now.made) (omega arith) (omega arith);
      small = search rules;
    }

pub returns : goal.returns
returns c =
    let staying = λ (session : Session). not (is_of_clients c.args.ended.now (session_of session)) in
    let kept = filter_same _ staying _ (λ x b f' k. search (rules, tests)) _ _ c.retain.ensures.filtered in
    let grown = pushed c.push.result c.retain.new.self.items c.push.new.self.items _ c.push.ensures.items (sym c.is_err.ensures.value ∙ c.if-is_err.false) in
    ap (λ sessions. (c.args.session.serial, sessions))
    (ap (map session_of) grown ∙ map_push session_of c.retain.new.self.items c.args.session
    ∙ ap (λ sessions. sessions ++ session_of c.args.session ∷ []) (kept_view (λ session. not (is_of_clients c.args.ended.now session)) session_of _ _ kept))

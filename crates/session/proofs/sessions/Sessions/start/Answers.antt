use Rattle.std.proofs.Common.{sym, ap, ◌∙◌}
use Rattle.session.proofs.Lists.{changed_at, untouched}
use Rattle.model.specs.Sessions.Session.{is_session, with_slot}
use Rattle.session.specs.Slots.{running_slot}
use Rattle.session.specs.Views.{session_of}
use Rattle.session.proofs.Serials.{one_session, serial_of}
use Rattle.session.proofs.sessions.Sessions.start.Goals as goal

pub returns-in-Some : goal.returns-in-Some
returns-in-Some c =
    let old = c.args.self.now in
    let id = c.args.arguments.now.session in
    ap (λ sessions. (old.serial, sessions))
    (changed_at session_of serial_of (is_session id) (with_slot c.args.arguments.now.slot (running_slot c.args.arguments.now.sequence c.args.uid)) old.list.items c.in-Some.at c.index_mut.result.now c.start.new.self
    old.rising (one_session id old.serial old.list.items old.small old.made) (sym c.position.ensures ∙ c.in-Some.is) c.index_mut.ensures.value c.start.ensures)

pub returns-in_default : goal.returns-in_default
returns-in_default c =
    ap (λ sessions. (c.args.self.now.serial, sessions))
    (sym (untouched session_of (is_session c.args.arguments.now.session) (with_slot c.args.arguments.now.slot (running_slot c.args.arguments.now.sequence c.args.uid)) c.args.self.now.list.items (sym c.position.ensures ∙ c.in_default.is)))

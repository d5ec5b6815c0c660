use Rattle.std.proofs.Common.{sym, ap, ◌∙◌}
use Rattle.session.proofs.Lists.{changed_at, untouched}
use Rattle.model.specs.Sessions.Session.{is_session, finished_slot}
use Rattle.session.specs.Views.{session_of}
use Rattle.session.proofs.Serials.{one_session, serial_of}
use Rattle.session.proofs.sessions.Sessions.keep.Goals as goal

pub returns-in-Some : goal.returns-in-Some
returns-in-Some c =
    let old = c.args.self.now in
    ap (λ sessions. (old.serial, sessions))
    (changed_at session_of serial_of (is_session c.args.id.now) (finished_slot c.args.slot c.args.reply.items) old.list.items c.in-Some.at c.index_mut.result.now c.keep.new.self
    old.rising (one_session c.args.id.now old.serial old.list.items old.small old.made) (sym c.position.ensures ∙ c.in-Some.is) c.index_mut.ensures.value c.keep.ensures)

pub returns-in-None : goal.returns-in-None
returns-in-None c =
    ap (λ sessions. (c.args.self.now.serial, sessions))
    (sym (untouched session_of (is_session c.args.id.now) (finished_slot c.args.slot c.args.reply.items) c.args.self.now.list.items (sym c.position.ensures ∙ c.in-None.is)))

use Rattle.std.proofs.Common.{refl, sym, ap, ◌∙◌}
use Rattle.session.proofs.Lists.{changed_at, untouched}
use Rattle.model.specs.Sessions.Session.{is_client}
use Rattle.session.specs.Views.{client_of}
use Rattle.session.specs.Rooms.{reclaimed}
use Rattle.session.proofs.Ending.{number_of, one_client}
use Rattle.session.proofs.clients.Clients.reclaim.Goals as goal

pub returns-in-Some : goal.returns-in-Some
returns-in-Some c =
    ap (λ records. (c.args.self.now.run, c.args.self.now.serial, records))
    (changed_at client_of number_of (is_client c.args.number) reclaimed c.args.self.now.list.items c.in-Some.at c.index_mut.result.now _
    c.args.self.now.rising (one_client c.args.number c.args.self.now.list.items) (sym c.position.ensures ∙ c.in-Some.is) c.index_mut.ensures.value refl)

pub returns-in_default : goal.returns-in_default
returns-in_default c =
    ap (λ records. (c.args.self.now.run, c.args.self.now.serial, records))
    (sym (untouched client_of (is_client c.args.number) reclaimed c.args.self.now.list.items (sym c.position.ensures ∙ c.in_default.is)))

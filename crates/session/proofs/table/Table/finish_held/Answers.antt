use Rattle.std.proofs.Common.{ℕ, List, find, ap, ◌∙◌}
use Rattle.model_tree.specs.Seats.SeatViews.{seats_view}
use Rattle.model.specs.Sessions.Session.{Session, is_session}
use Rattle.session.specs.Views.{table_of, sessions_of}
use Rattle.session.proofs.Giving.{given_held, given_moved}
use Rattle.session.proofs.table.Table.finish_held.Goals as goal

pub invariant_of-self : goal.invariant_of-self
unfolding table_of
invariant_of-self c =
    let old = c.args.self.now in
    record {
      counted = old.counted;
      given = given_moved old.clients.run old.sessions.serial _ _ _ (ap (λ (book : ℕ × List Session). book.0) c.keep-former.ensures) (c.edit_seats.ensures ∙ c.requires.planned)
          (given_held c.args.id.now c.args.slot c.args.reply.items _ _ (seats_view old.seats) (find (is_session c.args.id.now) (sessions_of old.sessions)) old.given);
    }

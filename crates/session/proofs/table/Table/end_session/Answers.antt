use Rattle.std.proofs.Common.{ℕ, List, sym, ap, ◌∙◌}
use Rattle.model_tree.specs.Seats.Seats.{is_seat_of, freed}
use Rattle.model_tree.specs.Seats.SeatViews.{seats_view}
use Rattle.model.specs.Sessions.Session.{Session, is_session, without_where}
use Rattle.session.specs.Views.{settings_of, table_of, table_by, roll_of, sessions_of}
use Rattle.session.proofs.Giving.{given_freed, given_moved}
use Rattle.session.proofs.Holding.{destroyed}
use Rattle.session.proofs.table.Table.end_session.Goals as goal

pub invariant_of-self : goal.invariant_of-self
unfolding table_of
invariant_of-self c =
    let old = c.args.self.now in
    let gone = is_seat_of c.args.id.now in
    record {
      counted = old.counted;
      given = given_moved old.clients.run old.sessions.serial _ (freed gone (seats_view old.seats)) _ (ap (λ (book : ℕ × List Session). book.0) c.remove.ensures) (c.edit_seats.ensures ∙ c.requires) (given_freed gone _ _ _ old.given);
    }

pub returns : goal.returns
unfolding table_of
returns c done =
    let old = c.args.self.now in
    ap (λ (book : ℕ × List Session). table_by (roll_of old.clients) book (settings_of old.settings, seats_view c.edit_seats.new.seats)) c.remove.ensures
    ∙ ap (λ seats. table_by (roll_of old.clients) (old.sessions.serial, without_where (is_session c.args.id.now) (sessions_of old.sessions)) (settings_of old.settings, seats)) (c.edit_seats.ensures ∙ c.requires)
    ∙ sym (destroyed c.args.id.now (table_of old) done)

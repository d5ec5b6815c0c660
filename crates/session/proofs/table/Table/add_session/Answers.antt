use Rattle.std.proofs.Common.{◌≡◌, ◌≤◌, ℕ, List, [], ◌∷◌, ◌++◌, sym, ap, ◌∙◌, subst, arith}
use Rattle.model_tree.specs.Seats.Seats.{Seats}
use Rattle.model_tree.specs.Seats.SeatEdits.{edited_all, edits_view}
use Rattle.model_tree.specs.Seats.SeatViews.{seats_view}
use Rattle.model.specs.Sessions.Session.{Client as Known, Session, is_client, is_of_clients, is_replaced_by, confirmed_with, changed_where, without_where}
use Rattle.wire.specs.AnswerViews.{create_session_view}
use Rattle.session.specs.Given.{AreGiven}
use Rattle.session.specs.Views.{settings_of, table_of, table_by, roll_of, book_of, clients_of, sessions_of, session_of}
use Rattle.session.proofs.Giving.{given_moved}
use Rattle.session.proofs.table.Table.add_session.Goals as goal

pub add-requires-clause-later : goal.add-requires-clause-later
unfolding table_of
add-requires-clause-later c = let next = c.requires.planned.1.opens.serial in omega (arith, next)

pub invariant_of-self : goal.invariant_of-self
unfolding table_of
invariant_of-self c =
    let old = c.args.self.now in
    let opens = c.requires.planned.1.opens in
    let run : c.confirm.new.self.run ≡ old.clients.run =
    ap (λ (roll : ℕ × ℕ × List Known). roll.0) (c.confirm.ensures opens.client opens.named (c.deref.ensures.value ∙ opens.ends)) in
    record {
      counted = subst (λ (n : ℕ). 1 ≤ n) (sym run) old.counted;
      given = subst (λ (n : ℕ). AreGiven n c.add.new.self.serial (seats_view c.edit_seats.new.seats)) (sym run)
          (given_moved old.clients.run c.args.plan.session.serial c.add.new.self.serial _ _ (ap (λ (book : ℕ × List Session). book.0) c.add.ensures) c.edit_seats.ensures opens.given);
    }

pub returns : goal.returns
unfolding table_of
returns c wanted planned =
    let old = c.args.self.now in
    let opens = planned.opens in
    let session = c.args.plan.session in
    let roll = c.confirm.ensures opens.client opens.named (c.deref.ensures.value ∙ opens.ends) in
    let clients : List Known =
    changed_where (is_client session.client) (confirmed_with (create_session_view c.args.plan.answer)) (without_where (is_replaced_by opens.client) (clients_of old.clients)) in
    let seats : Seats = edited_all (edits_view c.args.plan.edits) (seats_view old.seats) in (
      planned.answer,
      planned.ended,
      opens.table
          ∙ ap (λ (ended : List ℕ). table_by (old.clients.run, old.clients.serial, clients) (session.serial, without_where (is_of_clients ended) (sessions_of old.sessions) ++ session_of session ∷ []) (settings_of old.settings, seats))
          (sym c.deref-2.ensures.value)
          ∙ ap (λ (book : ℕ × List Session). table_by (old.clients.run, old.clients.serial, clients) book (settings_of old.settings, seats)) (sym c.add.ensures)
          ∙ ap (λ (roll : ℕ × ℕ × List Known). table_by roll (book_of c.add.new.self) (settings_of old.settings, seats)) (sym roll)
          ∙ ap (λ (seats : Seats). table_by (roll_of c.confirm.new.self) (book_of c.add.new.self) (settings_of old.settings, seats)) (sym c.edit_seats.ensures),
    )

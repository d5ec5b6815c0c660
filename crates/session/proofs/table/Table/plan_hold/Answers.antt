use Rattle.std.proofs.Common.{◌≡◌, ℕ, false, List, find, sym, ap, ◌∙◌, subst, rules, tests}
use Rattle.std.specs.Option.{option_map, option_copied}
use Rattle.std.proofs.lemmas.List.{length-map}
use Rattle.std.proofs.lemmas.Result.{IfOk-weaker}
use Rattle.model_tree.specs.declared.seat_edits.SeatEdits.{SeatEdits}
use Rattle.model_tree.specs.Seats.Seats.{AreOfRuns, seat_of, holding}
use Rattle.model_tree.specs.Seats.SeatEdits.{SeatEdit, AreEdits, edited_all}
use Rattle.model_tree.specs.Seats.SeatViews.{place_view, seats_view}
use Rattle.model.specs.Sessions.Session.{Session, is_session, held_by, held_reply, slot_at}
use Rattle.session.specs.Plans.{IsHoldPlanned}
use Rattle.session.specs.Seating.{has_held_slot}
use Rattle.session.specs.Views.{table_of, session_of, sessions_of}
use Rattle.session.proofs.EditLaws.{stay_all, can_stay, held_one}
use Rattle.session.proofs.Giving.{given_held, given_runs}
use Rattle.session.proofs.Holding.{holding_outside}
use Rattle.session.proofs.table.Table.plan_hold.Goals as goal

pub returns-in_default : goal.returns-in_default
unfolding table_of
returns-in_default c =
    let old = c.args.self.now in
    let id = c.args.id.now in
    let seats = seats_view old.seats in
    let found = sym c.find.ensures ∙ ap (λ r. option_map session_of (option_copied r)) c.in_default.is in
    let same = ap (held_by id c.args.slot c.args.reply.now seats) found in
    let places = old.seats.places.items in
    let places_len = c.len.result in
    let all = c.len.ensures ∙ old.seats.places.ok.0 ∙ sym (length-map places place_view) in
    IfOk-weaker c.idle_edits.result _ (IsHoldPlanned id c.args.slot c.args.reply.now (table_of old))
    (λ (edits : SeatEdits) is. record {
      seats = ap (λ edits. edited_all edits seats) is ∙ stay_all places_len seats ∙ sym same;
      edits = λ slots. subst (λ (edits : List SeatEdit). AreEdits old.clients.run slots edits seats) (sym is)
          (record { can = can_stay slots places_len seats all; of_runs = subst (AreOfRuns old.clients.run) (sym (stay_all places_len seats)) (given_runs old.clients.run old.sessions.serial seats old.given) });
    })
    c.idle_edits.ensures

pub returns-then-not-has_held_slot : goal.returns-then-not-has_held_slot
unfolding table_of
returns-then-not-has_held_slot c =
    let old = c.args.self.now in
    let id = c.args.id.now in
    let seats = seats_view old.seats in
    let session : Session = session_of c.in-Some.session.now in
    let found = sym c.find.ensures ∙ ap (λ r. option_map session_of (option_copied r)) c.in-Some.is in
    let outside : has_held_slot c.args.slot (seat_of id seats) ≡ false = search (rules, tests) in
    let held = held_reply c.args.reply.now (slot_at session c.args.slot) in
    let same = ap (held_by id c.args.slot c.args.reply.now seats) found ∙ holding_outside id c.args.slot held seats old.given.apart outside in
    let places = old.seats.places.items in
    let places_len = c.len-then-not-has_held_slot.result in
    let all = c.len-then-not-has_held_slot.ensures ∙ old.seats.places.ok.0 ∙ sym (length-map places place_view) in
    IfOk-weaker c.idle_edits-then-not-has_held_slot.result _ (IsHoldPlanned id c.args.slot c.args.reply.now (table_of old))
    (λ (edits : SeatEdits) is. record {
      seats = ap (λ edits. edited_all edits seats) is ∙ stay_all places_len seats ∙ sym same;
      edits = λ slots. subst (λ (edits : List SeatEdit). AreEdits old.clients.run slots edits seats) (sym is)
          (record { can = can_stay slots places_len seats all; of_runs = subst (AreOfRuns old.clients.run) (sym (stay_all places_len seats)) (given_runs old.clients.run old.sessions.serial seats old.given) });
    })
    c.idle_edits-then-not-has_held_slot.ensures

pub returns : goal.returns
unfolding table_of
returns c =
    let old = c.args.self.now in
    let id = c.args.id.now in
    let seats = seats_view old.seats in
    let session : Session = session_of c.in-Some.session.now in
    let found = sym c.find.ensures ∙ ap (λ r. option_map session_of (option_copied r)) c.in-Some.is in
    let holds = ap (held_by id c.args.slot c.args.reply.now seats) found in
    let told = ap (λ (p : ℕ × ℕ). holding id c.args.slot (record { number = p.0; uid = p.1; result = c.in_ok-result.result.items }) seats) c.last-number.ensures
    ∙ ap (λ (result : List ℕ). holding id c.args.slot (held_reply result (slot_at session c.args.slot)) seats) c.in_ok-result.ensures.items in
    IfOk-weaker c.edit_seat.result _ (IsHoldPlanned id c.args.slot c.args.reply.now (table_of old))
    (λ (edits : SeatEdits) one.
    let is = one.edited ∙ held_one id c.args.slot _ seats ∙ told ∙ sym holds in
    record {
      seats = is;
      edits = λ slots. record {
        can = one.can slots;
        of_runs = subst (AreOfRuns old.clients.run) (sym is)
            (given_runs old.clients.run old.sessions.serial _ (given_held id c.args.slot c.args.reply.now old.clients.run old.sessions.serial seats (find (is_session id) (sessions_of old.sessions)) old.given));
      };
    })
    c.edit_seat.ensures

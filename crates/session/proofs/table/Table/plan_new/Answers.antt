use Rattle.std.proofs.Common.{ℕ, ◌+◌, ◌<◌, Bool, if◌then◌else◌, List, IfSome, is_some, Ok, refl, sym, ap, ◌∙◌, subst}
use Rattle.std.proofs.lemmas.List.{length-map}
use Rattle.model.specs.Operations.Operation.{Channel, CreateSessionArguments}
use Rattle.model.specs.Operations.Answer.{CreateSessionAnswer}
use Rattle.model_tree.specs.Seats.Seats.{Seats}
use Rattle.model_tree.specs.Seats.SeatEdits.{SeatEdit, CanEditAll, edited_all}
use Rattle.model_tree.specs.Seats.SeatViews.{place_view, seats_view}
use Rattle.model.specs.Sessions.Session.{Client, Session, Table, limits_for, fore_channel, gives_way}
use Rattle.wire.specs.ArgumentViews.{create_session_view}
use Rattle.wire.specs.SmallViews.{channel_view}
use Rattle.session.specs.Given.{AreGiven}
use Rattle.session.specs.Limits.{limits_of}
use Rattle.session.specs.Seating.{edits_with, gives_way_if, place_for, seat_with}
use Rattle.session.specs.Views.{table_of, client_of}
use Rattle.session.proofs.Giving.{given_moved, given_runs, run_told, serial_told}
use Rattle.session.proofs.Opening.{answer_at, seat_at, seat_few, created_is, seats_is, table_is}
use Rattle.session.proofs.Taking.{can_edit, found_first, given_edited, place_within}
use Rattle.session.proofs.table.Table.plan_new.Goals as goal

pub plan_seats-requires-clause-place : goal.plan_seats-requires-clause-place
unfolding table_of
plan_seats-requires-clause-place c =
    let old = c.args.self.now in
    place_within (create_session_view c.args.arguments.now) (client_of c.args.client.now) (table_of old) c.place_for-place.result
    (c.place_for-place.ensures
    ∙ ap (λ (lacks : Bool). place_for lacks (create_session_view c.args.arguments.now) (client_of c.args.client.now) (table_of old)) c.lacks_seat-lacks.ensures)

pub returns-clause-planned : goal.returns-clause-planned
unfolding table_of
returns-clause-planned c =
    let old = c.args.self.now in
    let table : Table = table_of old in
    let arguments : CreateSessionArguments = create_session_view c.args.arguments.now in
    let client : Client = client_of c.args.client.now in
    let seats : Seats = seats_view old.seats in
    let serial = old.sessions.serial in
    let run = old.clients.run in
    let place = c.place_for-place.result in
    let placed = c.place_for-place.ensures ∙ ap (λ (lacks : Bool). place_for lacks arguments client table) c.lacks_seat-lacks.ensures in
    let fore : Channel = channel_view c.fore_channel-fore.result in
    let channel = c.fore_channel-fore.ensures ∙ ap (λ (b : Bool). fore_channel (limits_for (limits_of c.args.limits) b) arguments.fore) c.is_some.ensures in
    let flags = c.answered_flags.ensures ∙ ap (λ (b : Bool). if b then 1 else 0) c.is_some-2.ensures in
    let wanted : CreateSessionAnswer = answer_at arguments serial client.number (is_some place) fore in
    let answered =
    ap (λ (id : List ℕ). record wanted { session = id; flags = c.answered_flags.result }) c.session_id-id.ensures
    ∙ ap (λ (n : ℕ). record wanted { flags = n }) flags in
    let made = c.in_ok-session.ensures in
    let gone = gives_way arguments client table in
    let seat = seat_at (limits_of c.args.limits) arguments client table place placed fore channel in
    let edits = c.in_ok-edits.ensures
    ∙ ap (λ (lacks : Bool). edits_with (gives_way_if lacks client table) place (seat_with client c.session_id-id.result fore.max_requests) seats) c.lacks_seat-lacks.ensures
    ∙ ap (λ (id : List ℕ). edits_with gone place (seat_with client id fore.max_requests) seats) c.session_id-id.ensures in
    let after = ap (λ (edits : List SeatEdit). edited_all edits seats) edits ∙ sym (seats_is (limits_of c.args.limits) arguments client table place placed fore channel) in
    let found = found_first arguments client table place placed in
    let of_run = run_told run client.number old.clients.serial (serial + 1) old.clients.run_fits old.clients.serial_fits c.requires.known.0 c.requires.known.1 in
    let next = serial_told client.number (serial + 1) c.requires.serial in
    let given = subst (λ (edits : List SeatEdit). AreGiven run (serial + 1) (edited_all edits seats)) (sym edits)
    (given_edited gone seat run serial seats place found old.counted of_run next old.given) in
    let later = ap (λ (s : Session). s.serial) made in
    let named = sym (ap (λ (s : Session). s.client) made) in
    record {
      answer = ap Ok (created_is (limits_of c.args.limits) arguments client table place placed fore channel ∙ sym answered);
      ended = sym c.in_ok-ended.ensures;
      seats = sym after;
      opens = record {
        client = client;
        named = named;
        ends = c.in_ok-ended.ensures;
        serial = later;
        given = given_moved run (serial + 1) _ _ _ later refl given;
        table = table_is (limits_of c.args.limits) arguments client table place placed fore channel _ _ _ _ _ _ named later answered c.in_ok-ended.ensures made after;
      };
    }

pub returns-clause-edits : goal.returns-clause-edits
unfolding table_of
returns-clause-edits c =
    let old = c.args.self.now in
    let table : Table = table_of old in
    let arguments : CreateSessionArguments = create_session_view c.args.arguments.now in
    let client : Client = client_of c.args.client.now in
    let seats : Seats = seats_view old.seats in
    let limits = limits_of c.args.limits in
    let serial = old.sessions.serial in
    let run = old.clients.run in
    let place = c.place_for-place.result in
    let placed = c.place_for-place.ensures ∙ ap (λ (lacks : Bool). place_for lacks arguments client table) c.lacks_seat-lacks.ensures in
    let fore : Channel = channel_view c.fore_channel-fore.result in
    let channel = c.fore_channel-fore.ensures ∙ ap (λ (b : Bool). fore_channel (limits_for limits b) arguments.fore) c.is_some.ensures in
    let gone = gives_way arguments client table in
    let seat = seat_at limits arguments client table place placed fore channel in
    let edits = c.in_ok-edits.ensures
    ∙ ap (λ (lacks : Bool). edits_with (gives_way_if lacks client table) place (seat_with client c.session_id-id.result fore.max_requests) seats) c.lacks_seat-lacks.ensures
    ∙ ap (λ (id : List ℕ). edits_with gone place (seat_with client id fore.max_requests) seats) c.session_id-id.ensures in
    let found = found_first arguments client table place placed in
    let of_run = run_told run client.number old.clients.serial (serial + 1) old.clients.run_fits old.clients.serial_fits c.requires.known.0 c.requires.known.1 in
    let next = serial_told client.number (serial + 1) c.requires.serial in
    let given = subst (λ (edits : List SeatEdit). AreGiven run (serial + 1) (edited_all edits seats)) (sym edits)
    (given_edited gone seat run serial seats place found old.counted of_run next old.given) in
    record {
      can = subst (λ (edits : List SeatEdit). CanEditAll limits.seat_slots edits seats) (sym edits)
          (can_edit gone seat limits.seat_slots seats place (seat_few limits arguments client table place placed fore channel) found);
      of_runs = given_runs run (serial + 1) _ given;
    }

-- The seats stay ones of runs and serials that were given, whatever changes them.
use Rattle.std.proofs.Common.{◌≡◌, ℕ, ◌+◌, ◌*◌, ◌/◌, ◌^◌, ◌<◌, ◌≤◌, Bool, true, false, List, drop, ◌++◌, Option, None, Some, is_some, refl, sym, ap, ◌∙◌, subst, arith, bytes_eq}
use Rattle.std.specs.Int.{w64, to_be_bytes, from_be_bytes}
use Rattle.std.proofs.lemmas.Bool.{false_from_ne_true}
use Rattle.std.proofs.lemmas.Nat.{from_be_bytes-to_be_bytes_8}
use Rattle.std.proofs.lemmas.Slice.Eq.{bytes_eq-Decides}
use Rattle.model_tree.specs.Seats.Seats.{HeldReply, Seat, Seats, AreOfRuns, run_of, has_seat, freed, seated, holding}
use Rattle.model.specs.Sessions.Session.{Session, session_id, slot_at, held_reply, held_by}
use Rattle.model.proofs.Sessions.SeatLaws.{apart_freed, had_seat, has_holding, apart_holding, seated_other, apart_seated}
use Rattle.model.proofs.Sessions.SeatTables.{id_of_run}
use Rattle.session.specs.Given.{WasMade, AreGiven, serial_in}

pub given_freed : (gone : Seat → Bool) (run serial : ℕ) (seats : Seats) → AreGiven run serial seats → AreGiven run serial (freed gone seats)
given_freed gone run serial seats given = record {
  apart = apart_freed gone seats given.apart;
  made = λ id has. given.made id (had_seat gone id seats given.apart has);
}

pub given_holding : (id : List ℕ) (place : ℕ) (held : HeldReply) (run serial : ℕ) (seats : Seats) → AreGiven run serial seats → AreGiven run serial (holding id place held seats)
given_holding id place held run serial seats given = record {
  apart = apart_holding id place held seats given.apart;
  made = λ other has. given.made other (sym (has_holding id place held other seats) ∙ has);
}

pub given_moved : (run serial now : ℕ) (seats left : Seats) → now ≡ serial → left ≡ seats → AreGiven run serial seats → AreGiven run now left
given_moved run serial now seats left same is given = subst (λ (n : ℕ). AreGiven run n left) (sym same) (subst (AreGiven run serial) (sym is) given)

pub given_held : (id : List ℕ) (place : ℕ) (reply : List ℕ) (run serial : ℕ) (seats : Seats) (found : Option Session) → AreGiven run serial seats → AreGiven run serial (held_by id place reply seats found)
given_held id place reply run serial seats None given = given
given_held id place reply run serial seats (Some session) given = given_holding id place (held_reply reply (slot_at session place)) run serial seats given

pub given_later : (run serial later : ℕ) (seats : Seats) → serial ≤ later → AreGiven run serial seats → AreGiven run later seats
given_later run serial later seats above given = record {
  apart = given.apart;
  made = λ id has.
      let was = given.made id has in
      record { first = was.first; last = was.last; given = λ here. let before = was.given here in omega (arith, before) };
}

pub given_runs : (run serial : ℕ) (seats : Seats) → AreGiven run serial seats → AreOfRuns run seats
given_runs run serial seats given = record {
  apart = given.apart;
  made = λ id has. let was = given.made id has in (was.first, was.last);
}

-- A new seat

module _ (run serial : ℕ) (new : Seat) (counted : 1 ≤ run) (of_run : run_of new.session ≡ run) (next : serial_in new.session ≡ serial + 1) where
  none_yet : (seats : Seats) → AreGiven run serial seats → has_seat new.session seats ≡ false
  none_yet seats given = false_from_ne_true (has_seat new.session seats) (λ has.
      let before = (given.made new.session has).given of_run in
      omega (arith, before, next))

  made_now : WasMade run (serial + 1) new.session
  made_now = record { first = omega (arith, counted, of_run); last = omega (arith, of_run); given = λ here. omega (arith, next) }

  pub given_seated : (seats : Seats) → AreGiven run serial seats → AreGiven run (serial + 1) (seated new seats)
  given_seated seats given = record {
    apart = apart_seated new seats given.apart (none_yet seats given);
    made = λ id has. by_test id has (bytes_eq new.session id) refl;
  }
    where
      by_test : (id : List ℕ) → has_seat id (seated new seats) ≡ true → (b : Bool) → bytes_eq new.session id ≡ b → WasMade run (serial + 1) id
      by_test id has true same = subst (WasMade run (serial + 1)) ((bytes_eq-Decides new.session id).0 same) made_now
      by_test id has false other = (given_later run serial (serial + 1) seats (omega arith) given).made id (sym (ap is_some (seated_other new id seats other)) ∙ has)

-- Its id

pub serial_told : (client serial : ℕ) → serial < 2 ^ 64 → serial_in (session_id client serial) ≡ serial
unfolding session_id
serial_told client serial small =
    let back : drop 8 (to_be_bytes w64 client ++ to_be_bytes w64 serial) ≡ to_be_bytes w64 serial = refl in
    ap (from_be_bytes w64) back ∙ from_be_bytes-to_be_bytes_8 serial small

pub run_told : (run client made serial : ℕ) → run < 2 ^ 32 → made < 2 ^ 32 → run * 2 ^ 32 < client → client ≤ run * 2 ^ 32 + made → run_of (session_id client serial) ≡ run
run_told run client made serial small few above within =
    let is : client / 2 ^ 32 ≡ run = omega (arith, above, within, few) in
    id_of_run run client serial small is

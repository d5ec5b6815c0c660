-- Replies that no seat holds, and sessions that end.
use Rattle.std.proofs.Common.{◌≡◌, ℕ, zero, suc, ◌≤◌, Bool, true, false, cond, not, nat_lt, List, [], ◌∷◌, length, filter, find, set, Option, None, Some, refl, sym, ap, ◌∙◌, subst, arith, bytes_eq, ltb-false}
use Rattle.std.proofs.lemmas.Slice.Eq.{bytes_eq-Decides}
use Rattle.model_tree.specs.declared.status.Status.{Status}
use Rattle.model_tree.specs.declared.status.Status.TheVariants as status
use Rattle.model_tree.specs.Seats.Seats.{HeldReply, Seat, Seats, SeatsApart, seat_of, has_seat, with_held, holding}
use Rattle.model.specs.Sessions.Session.{Session, Table, is_session, is_running, without_where, without_seat, with_sessions, destroy_by, destroy_session}
use Rattle.model.proofs.Sessions.SeatLaws.{holding_none}
use Rattle.session.specs.Seating.{has_held_slot}

-- a seat without the slot

set_outside : {A : Type 0} (xs : List A) (i : ℕ) (y : A) → length xs ≤ i → set xs i y ≡ xs
set_outside [] i y past = refl
set_outside (x ∷ xs) zero y past = absurd (omega arith)
set_outside (x ∷ xs) (suc i) y past = ap (λ rest. x ∷ rest) (set_outside xs i y (omega arith))

module _ (id : List ℕ) (place : ℕ) (held : HeldReply) where
  same_seat : (seat : Seat) → nat_lt place (length seat.slots) ≡ false → with_held place held seat ≡ seat
  same_seat seat outside = ap (λ (slots : List (Option HeldReply)). record seat { slots = slots }) (set_outside seat.slots place (Some held) (ltb-false place (length seat.slots) outside))

  pub holding_outside : (seats : Seats) → SeatsApart seats → has_held_slot place (seat_of id seats) ≡ false → holding id place held seats ≡ seats
  holding_outside [] apart outside = refl
  holding_outside (None ∷ seats) apart outside = ap (λ (rest : Seats). None ∷ rest) (holding_outside seats apart outside)
  holding_outside (Some seat ∷ seats) apart outside = by_test (bytes_eq seat.session id) refl outside (holding_outside seats apart.1)
    where
      by_test : (b : Bool) → bytes_eq seat.session id ≡ b → has_held_slot place (cond b (Some seat) (seat_of id seats)) ≡ false
          → (has_held_slot place (seat_of id seats) ≡ false → holding id place held seats ≡ seats)
          → (Some (cond b (with_held place held seat) seat) ∷ holding id place held seats) ≡ (Some seat ∷ seats)
      by_test true is outside later =
          ap (λ (s : Seat). Some s ∷ holding id place held seats) (same_seat seat outside)
          ∙ ap (λ (rest : Seats). Some seat ∷ rest)
          (holding_none id place held seats (subst (λ (other : List ℕ). has_seat other seats ≡ false) ((bytes_eq-Decides seat.session id).0 is) apart.0))
      by_test false is outside later = ap (λ (rest : Seats). Some seat ∷ rest) (later outside)

-- DESTROY_SESSION

no_other : {A : Type 0} (test : A → Bool) (xs : List A) → find test xs ≡ None → filter (λ x. not (test x)) xs ≡ xs
no_other test [] e = refl
no_other {A} test (x ∷ xs) e = by_test (test x) e (no_other test xs)
  where
    by_test : (b : Bool) → cond b (Some x) (find test xs) ≡ None → (find test xs ≡ None → filter (λ y. not (test y)) xs ≡ xs)
        → cond (not b) (x ∷ filter (λ y. not (test y)) xs) (filter (λ y. not (test y)) xs) ≡ (x ∷ xs)
    by_test true e rest = absurd (cc)
    by_test false e rest = ap (λ (others : List A). x ∷ others) (rest e)

-- one that is done
module _ (id : List ℕ) (table : Table) where
  abbrev pub ended : Table
  ended = without_seat id (with_sessions (without_where (is_session id) table.sessions) table)

  destroyed_by : (known : Option Session) → find (is_session id) table.sessions ≡ known → (destroy_by id table known).0 ≡ None → (destroy_by id table known).1 ≡ ended
  destroyed_by None missing done = by_test (has_seat id table.seats) done
    where
      by_test : (b : Bool) → (cond {A = Option Status × Table} b (None, without_seat id table) (Some status.BadSession, table)).0 ≡ None
          → (cond {A = Option Status × Table} b (None, without_seat id table) (Some status.BadSession, table)).1 ≡ ended
      by_test true done = ap (λ (sessions : List Session). without_seat id (with_sessions sessions table)) (sym (no_other (is_session id) table.sessions missing))
      by_test false done = absurd (cc)
  destroyed_by (Some session) found done = by_test (is_running session) done
    where
      by_test : (b : Bool) → (cond {A = Option Status × Table} b (Some status.Delay, table) (None, ended)).0 ≡ None → (cond {A = Option Status × Table} b (Some status.Delay, table) (None, ended)).1 ≡ ended
      by_test true done = absurd (cc)
      by_test false done = refl

  pub destroyed : (destroy_session id table).0 ≡ None → (destroy_session id table).1 ≡ ended
  unfolding destroy_session
  destroyed done = destroyed_by (find (is_session id) table.sessions) refl done

-- How edits change seats: none, and one of one session's seat.
use Rattle.std.proofs.Common.{◌≡◌, ℕ, zero, suc, ◌<◌, Bool, true, false, cond, List, [], ◌∷◌, length, map, replicate, get_or, set, position, Option, None, Some, is_some, refl, sym, ap, ◌∙◌, subst, arith, bytes_eq}
use Rattle.std.proofs.lemmas.Bool.{true≢false, false_from_ne_true, and_parts}
use Rattle.std.proofs.lemmas.List.Quantifiers.{position-Some}
use Rattle.std.proofs.lemmas.Slice.Eq.{bytes_eq-Decides}
use Rattle.model_tree.specs.Seats.Seats.{HeldReply, Seat, Seats, SeatsApart, is_seat_of, seat_of, has_seat, freed, with_held, holding}
use Rattle.model_tree.specs.Seats.SeatEdits.{SeatEdit, Stays, Frees, Takes, Holds, edited_seat, edited_all, stays, all_stay, CanEdit, CanEditAll}
use Rattle.session.specs.Seating.{EditsOne, is_place_of, edited_if}
use Rattle.session.proofs.Lists.{position-None}

-- None

same_place : (edit : SeatEdit) (place : Option Seat) → stays edit ≡ true → edited_seat edit place ≡ place
same_place Stays place e = refl
same_place Frees place e = absurd (true≢false (sym e))
same_place (Takes seat) place e = absurd (true≢false (sym e))
same_place (Holds slot held) place e = absurd (true≢false (sym e))

cons_same : (a b : Option Seat) (xs ys : Seats) → a ≡ b → xs ≡ ys → (a ∷ xs) ≡ (b ∷ ys)
cons_same a b xs ys e h = cc

-- if all stay, nothing changes
pub idle : (edits : List SeatEdit) (seats : Seats) → all_stay edits ≡ true → edited_all edits seats ≡ seats
idle [] seats e = refl
idle (edit ∷ edits) [] e = refl
idle (edit ∷ edits) (place ∷ seats) e =
    let parts = and_parts (stays edit) (all_stay edits) e in
    cons_same (edited_seat edit place) place (edited_all edits seats) seats (same_place edit place parts.0) (idle edits seats parts.1)

pub stay_all : (count : ℕ) (seats : Seats) → edited_all (replicate count Stays) seats ≡ seats
stay_all zero seats = refl
stay_all (suc count) [] = refl
stay_all (suc count) (place ∷ seats) = ap (λ (rest : Seats). place ∷ rest) (stay_all count seats)

pub can_stay : (slots count : ℕ) (seats : Seats) → count ≡ length seats → CanEditAll slots (replicate count Stays) seats
can_stay slots zero seats e = tt
can_stay slots (suc count) [] e = absurd (omega (arith, e))
can_stay slots (suc count) (place ∷ seats) e = (tt, can_stay slots count seats (omega (arith, e)))

-- One

module _ (id : List ℕ) where
  is_there : (seats : Seats) (i : ℕ) → i < length seats → is_place_of id (get_or seats i None) ≡ true → has_seat id seats ≡ true
  is_there [] i within here = absurd (omega arith)
  is_there (None ∷ seats) zero within here = absurd (true≢false (sym here))
  is_there (None ∷ seats) (suc i) within here = is_there seats i (omega arith) here
  is_there (Some seat ∷ seats) zero within here = ap (λ (b : Bool). is_some (cond b (Some seat) (seat_of id seats))) here
  is_there (Some seat ∷ seats) (suc i) within here = by_test (bytes_eq seat.session id) (is_there seats i (omega arith) here)
    where
      by_test : (b : Bool) → has_seat id seats ≡ true → is_some (cond b (Some seat) (seat_of id seats)) ≡ true
      by_test true later = refl
      by_test false later = later

  -- no other place is of the session
  none_later : (seat : Seat) (seats : Seats) → has_seat seat.session seats ≡ false → bytes_eq seat.session id ≡ true → has_seat id seats ≡ false
  none_later seat seats none is = subst (λ (other : List ℕ). has_seat other seats ≡ false) ((bytes_eq-Decides seat.session id).0 is) none

  other_first : (seat : Seat) (seats : Seats) → has_seat seat.session seats ≡ false → has_seat id seats ≡ true → bytes_eq seat.session id ≡ false
  other_first seat seats none later = false_from_ne_true (bytes_eq seat.session id) (λ is. true≢false (sym later ∙ none_later seat seats none is))

  pub seat_there : (seats : Seats) (i : ℕ) → SeatsApart seats → i < length seats → is_place_of id (get_or seats i None) ≡ true → seat_of id seats ≡ get_or seats i None
  seat_there [] i apart within here = absurd (omega arith)
  seat_there (None ∷ seats) zero apart within here = absurd (true≢false (sym here))
  seat_there (None ∷ seats) (suc i) apart within here = seat_there seats i apart (omega arith) here
  seat_there (Some seat ∷ seats) zero apart within here = ap (λ (b : Bool). cond b (Some seat) (seat_of id seats)) here
  seat_there (Some seat ∷ seats) (suc i) apart within here =
      ap (λ (b : Bool). cond b (Some seat) (seat_of id seats)) (other_first seat seats apart.0 (is_there seats i (omega arith) here))
      ∙ seat_there seats i apart.1 (omega arith) here

  module _ (edit : SeatEdit) where
    untouched : (seats : Seats) → has_seat id seats ≡ false → map (edited_if id edit) seats ≡ seats
    untouched [] none = refl
    untouched (None ∷ seats) none = ap (λ (rest : Seats). None ∷ rest) (untouched seats none)
    untouched (Some seat ∷ seats) none = by_test (bytes_eq seat.session id) none (untouched seats)
      where
        by_test : (b : Bool) → is_some (cond b (Some seat) (seat_of id seats)) ≡ false → (has_seat id seats ≡ false → map (edited_if id edit) seats ≡ seats)
            → (cond b (edited_seat edit (Some seat)) (Some seat) ∷ map (edited_if id edit) seats) ≡ (Some seat ∷ seats)
        by_test true none rest = absurd (true≢false none)
        by_test false none rest = ap (λ (others : Seats). Some seat ∷ others) (rest none)

    edits_there : (count : ℕ) (seats : Seats) (i : ℕ) → count ≡ length seats → SeatsApart seats → i < length seats → is_place_of id (get_or seats i None) ≡ true
        → edited_all (set (replicate count Stays) i edit) seats ≡ map (edited_if id edit) seats
    edits_there count [] i e apart within here = absurd (omega arith)
    edits_there zero (place ∷ seats) i e apart within here = absurd (omega (arith, e))
    edits_there (suc count) (None ∷ seats) zero e apart within here = absurd (true≢false (sym here))
    edits_there (suc count) (None ∷ seats) (suc i) e apart within here =
        ap (λ (rest : Seats). None ∷ rest) (edits_there count seats i (omega (arith, e)) apart (omega arith) here)
    edits_there (suc count) (Some seat ∷ seats) zero e apart within here =
        ap (λ (rest : Seats). edited_seat edit (Some seat) ∷ rest) (stay_all count seats ∙ sym (untouched seats (none_later seat seats apart.0 here)))
        ∙ ap (λ (b : Bool). cond b (edited_seat edit (Some seat)) (Some seat) ∷ map (edited_if id edit) seats) (sym here)
    edits_there (suc count) (Some seat ∷ seats) (suc i) e apart within here =
        ap (λ (rest : Seats). Some seat ∷ rest) (edits_there count seats i (omega (arith, e)) apart.1 (omega arith) here)
        ∙ ap (λ (b : Bool). cond b (edited_seat edit (Some seat)) (Some seat) ∷ map (edited_if id edit) seats) (sym (other_first seat seats apart.0 (is_there seats i (omega arith) here)))

    can_there : (slots count : ℕ) (seats : Seats) (i : ℕ) → count ≡ length seats → i < length seats → CanEdit slots edit (get_or seats i None)
        → CanEditAll slots (set (replicate count Stays) i edit) seats
    can_there slots count [] i e within can = absurd (omega arith)
    can_there slots zero (place ∷ seats) i e within can = absurd (omega (arith, e))
    can_there slots (suc count) (place ∷ seats) zero e within can = (can, can_stay slots count seats (omega (arith, e)))
    can_there slots (suc count) (place ∷ seats) (suc i) e within can = (tt, can_there slots count seats i (omega (arith, e)) (omega arith) can)

    -- the place is found, or there is none
    pub edits_found : (count : ℕ) (seats : Seats) (i : ℕ) → count ≡ length seats → SeatsApart seats → position (is_place_of id) seats ≡ Some i
        → ((slots : ℕ) (seat : Seat) → seat_of id seats ≡ Some seat → CanEdit slots edit (Some seat)) → EditsOne id edit seats (set (replicate count Stays) i edit)
    edits_found count seats i e apart found can =
        let at = position-Some (is_place_of id) seats i None found in
        record {
          edited = edits_there count seats i e apart at.0 at.1;
          can = λ slots. can_there slots count seats i e at.0 (by_place slots (get_or seats i None) (seat_there seats i apart at.0 at.1) at.1);
        }
      where
        by_place : (slots : ℕ) (place : Option Seat) → seat_of id seats ≡ place → is_place_of id place ≡ true → CanEdit slots edit place
        by_place slots None is here = absurd (true≢false (sym here))
        by_place slots (Some seat) is here = can slots seat is

    pub edits_none : (count : ℕ) (seats : Seats) → count ≡ length seats → position (is_place_of id) seats ≡ None → EditsOne id edit seats (replicate count Stays)
    edits_none count seats e missing = record {
      edited = stay_all count seats ∙ sym (untouched seats (false_from_ne_true (has_seat id seats) (λ has. none_placed seats (position-None (is_place_of id) seats missing) has)));
      can = λ slots. can_stay slots count seats e;
    }
      where
        none_placed : (seats : Seats) → ((k : ℕ) (d : Option Seat) → k < length seats → is_place_of id (get_or seats k d) ≡ false) → has_seat id seats ≡ true → ⊥
        none_placed [] fails has = true≢false (sym has)
        none_placed (None ∷ seats) fails has = none_placed seats (λ k d h. fails (suc k) d (omega arith)) has
        none_placed (Some seat ∷ seats) fails has =
            none_placed seats (λ k d h. fails (suc k) d (omega arith))
            (sym (ap (λ (b : Bool). is_some (cond b (Some seat) (seat_of id seats))) (fails 0 None (omega arith))) ∙ has)

  -- Its result

  pub freed_one : (seats : Seats) → map (edited_if id Frees) seats ≡ freed (is_seat_of id) seats
  freed_one [] = refl
  freed_one (None ∷ seats) = ap (λ (rest : Seats). None ∷ rest) (freed_one seats)
  freed_one (Some seat ∷ seats) = ap (λ (rest : Seats). cond (bytes_eq seat.session id) None (Some seat) ∷ rest) (freed_one seats)

  pub held_one : (place : ℕ) (held : HeldReply) (seats : Seats) → map (edited_if id (Holds place held)) seats ≡ holding id place held seats
  held_one place held [] = refl
  held_one place held (None ∷ seats) = ap (λ (rest : Seats). None ∷ rest) (held_one place held seats)
  held_one place held (Some seat ∷ seats) =
      cons_same _ (Some (cond (bytes_eq seat.session id) (with_held place held seat) seat)) _ _ (by_test (bytes_eq seat.session id)) (held_one place held seats)
    where
      by_test : (b : Bool) → cond b (Some (with_held place held seat)) (Some seat) ≡ Some (cond b (with_held place held seat) seat)
      by_test true = refl
      by_test false = refl

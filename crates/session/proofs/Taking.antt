-- The place of a new seat, once those that give way are freed.
use Rattle.std.proofs.Common.{◌≡◌, ℕ, zero, suc, ◌+◌, ◌<◌, ◌≤◌, Bool, true, false, cond, ◌&&◌, [], ◌∷◌, length, map, get_or, set, position, Option, None, Some, IfSome, is_some, refl, sym, ap, ◌∙◌, subst, arith}
use Rattle.std.proofs.lemmas.Bool.{true≢false}
use Rattle.std.proofs.lemmas.List.Quantifiers.{position-Some}
use Rattle.model.specs.Operations.Operation.{CreateSessionArguments}
use Rattle.model_tree.specs.Seats.Seats.{Seat, Seats, run_of, freed, has_free, seated}
use Rattle.model_tree.specs.Seats.SeatEdits.{Stays, Frees, Takes, edited_seat, edited_all, CanEditAll}
use Rattle.model.specs.Sessions.Session.{Client, Table, asks_seat, lacks_seat, gives_way, seats_staying, persists}
use Rattle.session.specs.Seating.{freeing, is_left_free, place_for, edits_with}
use Rattle.session.specs.Given.{AreGiven, serial_in}
use Rattle.session.proofs.Giving.{given_freed, given_later, given_seated}
use Rattle.session.proofs.Lists.{position-None}

module _ (gone : Seat → Bool) where
  freeing_one : (seat : Seat) (b : Bool) → edited_seat (cond b Frees Stays) (Some seat) ≡ cond b None (Some seat)
  freeing_one seat true = refl
  freeing_one seat false = refl

  cons_same : (a b : Option Seat) (xs ys : Seats) → a ≡ b → xs ≡ ys → (a ∷ xs) ≡ (b ∷ ys)
  cons_same a b xs ys e h = cc

  pub freeing_all : (seats : Seats) → edited_all (map (freeing gone) seats) seats ≡ freed gone seats
  freeing_all [] = refl
  freeing_all (None ∷ seats) = ap (λ (rest : Seats). None ∷ rest) (freeing_all seats)
  freeing_all (Some seat ∷ seats) =
      cons_same (edited_seat (cond (gone seat) Frees Stays) (Some seat)) (cond (gone seat) None (Some seat)) _ _ (freeing_one seat (gone seat)) (freeing_all seats)

  can_free_one : (slots : ℕ) (seat : Seat) (b : Bool) (seats : Seats) → CanEditAll slots (map (freeing gone) seats) seats
      → CanEditAll slots (cond b Frees Stays ∷ map (freeing gone) seats) (Some seat ∷ seats)
  can_free_one slots seat true seats can = (tt, can)
  can_free_one slots seat false seats can = (tt, can)

  can_free : (slots : ℕ) (seats : Seats) → CanEditAll slots (map (freeing gone) seats) seats
  can_free slots [] = tt
  can_free slots (None ∷ seats) = (tt, can_free slots seats)
  can_free slots (Some seat ∷ seats) = can_free_one slots seat (gone seat) seats (can_free slots seats)

  module _ (new : Seat) where
    taking_there : (seats : Seats) (i : ℕ) → i < length seats → is_left_free gone (get_or seats i None) ≡ true
        → ((k : ℕ) → k < i → is_left_free gone (get_or seats k None) ≡ false)
        → edited_all (set (map (freeing gone) seats) i (Takes new)) seats ≡ seated new (freed gone seats)
    taking_there [] i within here before = absurd (omega arith)
    taking_there (None ∷ seats) zero within here before = ap (λ (rest : Seats). Some new ∷ rest) (freeing_all seats)
    taking_there (None ∷ seats) (suc i) within here before = absurd (true≢false (before 0 (omega arith)))
    taking_there (Some seat ∷ seats) zero within here before =
        ap (λ (rest : Seats). Some new ∷ rest) (freeing_all seats)
        ∙ sym (ap (λ (b : Bool). seated new (cond b None (Some seat) ∷ freed gone seats)) here)
    taking_there (Some seat ∷ seats) (suc i) within here before =
        let stays = before 0 (omega arith) in
        ap (λ (b : Bool). edited_seat (cond b Frees Stays) (Some seat) ∷ edited_all (set (map (freeing gone) seats) i (Takes new)) seats) stays
        ∙ ap (λ (rest : Seats). Some seat ∷ rest) (taking_there seats i (omega arith) here (λ k h. before (suc k) (omega arith)))
        ∙ sym (ap (λ (b : Bool). seated new (cond b None (Some seat) ∷ freed gone seats)) stays)

    can_take : (slots : ℕ) → length new.slots ≤ slots → (seats : Seats) (i : ℕ) → i < length seats → CanEditAll slots (set (map (freeing gone) seats) i (Takes new)) seats
    can_take slots few [] i within = absurd (omega arith)
    can_take slots few (None ∷ seats) zero within = (few, can_free slots seats)
    can_take slots few (None ∷ seats) (suc i) within = (tt, can_take slots few seats i (omega arith))
    can_take slots few (Some seat ∷ seats) zero within = (few, can_free slots seats)
    can_take slots few (Some seat ∷ seats) (suc i) within = by_test (gone seat) (can_take slots few seats i (omega arith))
      where
        by_test : (b : Bool) → CanEditAll slots (set (map (freeing gone) seats) i (Takes new)) seats
            → CanEditAll slots (cond b Frees Stays ∷ set (map (freeing gone) seats) i (Takes new)) (Some seat ∷ seats)
        by_test true can = (tt, can)
        by_test false can = (tt, can)

    -- by the place that was found, if a place has room for the slots that the seat then has
    pub can_edit : (slots : ℕ) (seats : Seats) (place : Option ℕ) → (is_some place ≡ true → length new.slots ≤ slots)
        → ((i : ℕ) → place ≡ Some i → position (is_left_free gone) seats ≡ Some i) → CanEditAll slots (edits_with gone place new seats) seats
    can_edit slots seats None few found = can_free slots seats
    can_edit slots seats (Some i) few found = can_take slots (few refl) seats i (position-Some (is_left_free gone) seats i None (found i refl)).0

    pub taken : (seats : Seats) (i : ℕ) → position (is_left_free gone) seats ≡ Some i → edited_all (edits_with gone (Some i) new seats) seats ≡ seated new (freed gone seats)
    taken seats i found =
        let at = position-Some (is_left_free gone) seats i None found in
        taking_there seats i at.0 at.1 at.2

    -- they are given, if the new one is
    pub given_edited : (run serial : ℕ) (seats : Seats) (place : Option ℕ) → ((i : ℕ) → place ≡ Some i → position (is_left_free gone) seats ≡ Some i)
        → 1 ≤ run → run_of new.session ≡ run → serial_in new.session ≡ serial + 1 → AreGiven run serial seats → AreGiven run (serial + 1) (edited_all (edits_with gone place new seats) seats)
    given_edited run serial seats None found counted of_run next given =
        subst (AreGiven run (serial + 1)) (sym (freeing_all seats)) (given_later run serial (serial + 1) (freed gone seats) (omega arith) (given_freed gone run serial seats given))
    given_edited run serial seats (Some i) found counted of_run next given =
        subst (AreGiven run (serial + 1)) (sym (taken seats i (found i refl))) (given_seated run serial new counted of_run next (freed gone seats) (given_freed gone run serial seats given))

  -- Whether a place is free

  free_there : (seats : Seats) (i : ℕ) → i < length seats → is_left_free gone (get_or seats i None) ≡ true → has_free (freed gone seats) ≡ true
  free_there [] i within here = absurd (omega arith)
  free_there (None ∷ seats) i within here = refl
  free_there (Some seat ∷ seats) zero within here = ap (λ (b : Bool). has_free (cond b None (Some seat) ∷ freed gone seats)) here
  free_there (Some seat ∷ seats) (suc i) within here = by_test (gone seat) (free_there seats i (omega arith) here)
    where
      by_test : (b : Bool) → has_free (freed gone seats) ≡ true → has_free (cond b None (Some seat) ∷ freed gone seats) ≡ true
      by_test true later = refl
      by_test false later = later

  none_free : (seats : Seats) → ((k : ℕ) (d : Option Seat) → k < length seats → is_left_free gone (get_or seats k d) ≡ false) → has_free (freed gone seats) ≡ false
  none_free [] fails = refl
  none_free (None ∷ seats) fails = absurd (true≢false (fails 0 None (omega arith)))
  none_free (Some seat ∷ seats) fails =
      ap (λ (b : Bool). has_free (cond b None (Some seat) ∷ freed gone seats)) (fails 0 None (omega arith))
      ∙ none_free seats (λ k d h. fails (suc k) d (omega arith))

  pub free_found : (seats : Seats) (place : Option ℕ) → position (is_left_free gone) seats ≡ place → has_free (freed gone seats) ≡ is_some place
  free_found seats None missing = none_free seats (position-None (is_left_free gone) seats missing)
  free_found seats (Some i) found = let at = position-Some (is_left_free gone) seats i None found in free_there seats i at.0 at.1

-- The place of a new session's seat

module _ (arguments : CreateSessionArguments) (client : Client) (table : Table) where
  abbrev gone : Seat → Bool
  gone = gives_way arguments client table

  abbrev the_place : Option ℕ
  the_place = place_for (lacks_seat arguments client table) arguments client table

  abbrev first : Option ℕ
  first = position (is_left_free gone) table.seats

  place_found : (b : Bool) (i : ℕ) → cond b first None ≡ Some i → first ≡ Some i
  place_found true i e = e
  place_found false i e = absurd (cc)

  pub found_first : (place : Option ℕ) → place ≡ the_place → (i : ℕ) → place ≡ Some i → first ≡ Some i
  found_first place is i e = place_found (asks_seat arguments table) i (sym is ∙ e)

  both_asked : (asked : Bool) (place : Option ℕ) → (asked && is_some place) ≡ is_some (cond asked place None)
  both_asked true place = refl
  both_asked false place = refl

  pub persists_is : (place : Option ℕ) → place ≡ the_place → persists arguments client table ≡ is_some place
  persists_is place is =
      ap (λ (b : Bool). asks_seat arguments table && b) (free_found gone table.seats first refl)
      ∙ both_asked (asks_seat arguments table) first
      ∙ ap is_some (sym is)

  pub seats_are : (new : Seat) (place : Option ℕ) → place ≡ the_place
      → edited_all (edits_with gone place new table.seats) table.seats ≡ cond (is_some place) (seated new (seats_staying arguments client table)) (seats_staying arguments client table)
  seats_are new None is = freeing_all gone table.seats
  seats_are new (Some i) is = taken gone new table.seats i (found_first (Some i) is i refl)

  place_inside : (b : Bool) (place : Option ℕ) → place ≡ first → IfSome (cond b place None) (λ at. at < length table.seats)
  place_inside true None is = tt
  place_inside true (Some i) is = (position-Some (is_left_free gone) table.seats i None (sym is)).0
  place_inside false place is = tt

  pub place_within : (place : Option ℕ) → place ≡ the_place → IfSome place (λ at. at < length table.seats)
  place_within place is =
      let P : Option ℕ → Type 0 = λ o. IfSome o (λ at. at < length table.seats) in
      subst P (sym is) (place_inside (asks_seat arguments table) first refl)

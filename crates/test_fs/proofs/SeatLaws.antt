-- A session of run 1 may take the first place of a mounted volume, if the other places are freed.
use Rattle.std.proofs.Common.{◌≡◌, ◌<◌, ◌≤◌, ℕ, Bool, true, false, cond, List, [], ◌∷◌, length, Some, None, is_some, bytes_eq, refl, sym, ap, ◌∙◌, arith}
use Rattle.std.proofs.lemmas.Bool.{true≢false}
use Rattle.std.proofs.lemmas.Slice.Eq.{bytes_eq-Decides}
use Rattle.model_tree.specs.Seats.Seats.{AreOfRuns, Seat, Seats, run_of}
use Rattle.model_tree.specs.Seats.SeatEdits.{AreEdits, Frees, Takes}

one_seat : (run : ℕ) (seat : Seat) → 0 < run → run_of seat.session ≡ 1 → AreOfRuns run (Some seat ∷ None ∷ None ∷ None ∷ None ∷ [])
one_seat run seat mounted one = record {
  apart = (refl, tt);
  made = λ id has. by_test id (bytes_eq seat.session id) refl has;
}
  where
    by_test : (id : List ℕ) (b : Bool) → bytes_eq seat.session id ≡ b → is_some (cond b (Some seat) None) ≡ true → (1 ≤ run_of id) × (run_of id ≤ run)
    by_test id true is has =
        let its : run_of id ≡ 1 = ap run_of (sym ((bytes_eq-Decides seat.session id).0 is)) ∙ one in
        (omega (arith, its), omega (arith, its))
    by_test id false is has = absurd (true≢false (sym has))

pub takes_first : (run slots : ℕ) (seat : Seat) (seats : Seats) → 0 < run → length seat.slots ≤ slots → length seats ≡ 5 → run_of seat.session ≡ 1
    → AreEdits run slots (Takes seat ∷ Frees ∷ Frees ∷ Frees ∷ Frees ∷ []) seats
takes_first run slots seat (a ∷ b ∷ c ∷ d ∷ e ∷ []) mounted few five one = record {
  can = (few, (tt, (tt, (tt, (tt, tt)))));
  of_runs = one_seat run seat mounted one;
}
takes_first run slots seat [] mounted few five one = absurd (omega (arith, five))
takes_first run slots seat (a ∷ []) mounted few five one = absurd (omega (arith, five))
takes_first run slots seat (a ∷ b ∷ []) mounted few five one = absurd (omega (arith, five))
takes_first run slots seat (a ∷ b ∷ c ∷ []) mounted few five one = absurd (omega (arith, five))
takes_first run slots seat (a ∷ b ∷ c ∷ d ∷ []) mounted few five one = absurd (omega (arith, five))
takes_first run slots seat (a ∷ b ∷ c ∷ d ∷ e ∷ f ∷ seats) mounted few five one = absurd (omega (arith, five))

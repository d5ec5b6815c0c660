-- The seats that a run may have, by the run and by the serial that it gave last.
use Rattle.std.specs.Prelude.{◌≡◌, ◌≤◌, ℕ, true, List, [], ◌∷◌, drop, None, Some}
use Rattle.std.specs.Int.{w64, from_be_bytes}
use Rattle.std.proofs.Props.{props}
use Rattle.model_tree.specs.Seats.Seats.{Seats, SeatsApart, has_seat, run_of}

-- the serial in the id of a session
abbrev pub serial_in : List ℕ → ℕ
serial_in id = from_be_bytes w64 (drop 8 id)

-- a session of this id was made in one of the runs, and in the last one by a serial that was given
pub record WasMade (run serial : ℕ) (id : List ℕ) : Type 0 where
  pub first : 1 ≤ run_of id
  pub last : run_of id ≤ run
  pub given : run_of id ≡ run → serial_in id ≤ serial

pub record AreGiven (run serial : ℕ) (seats : Seats) : Type 0 where
  pub apart : SeatsApart seats
  pub made : (id : List ℕ) → has_seat id seats ≡ true → WasMade run serial id

-- That has one proof at most

SeatsApart-prop : (seats : Seats) → IsProp (SeatsApart seats)
SeatsApart-prop [] = Prim.hlevel props
SeatsApart-prop (None ∷ seats) = SeatsApart-prop seats
SeatsApart-prop (Some seat ∷ seats) = Prim.hlevel (props, SeatsApart-prop seats)

pub AreGiven-prop : (run serial : ℕ) (seats : Seats) → IsProp (AreGiven run serial seats)
AreGiven-prop run serial seats = Prim.hlevel (props, SeatsApart-prop)

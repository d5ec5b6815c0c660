-- What is read of the seats.
use Rattle.std.specs.Prelude.{◌≡◌, ◌≤◌, ◌+◌, ◌*◌, ◌⊎◌, ℕ, Bool, true, List, Option, None, Some}
use Rattle.std.specs.List.{AllByRecursion}
use Rattle.disk.specs.Moments.{Image}
use Rattle.layout.specs.Stands.{AreKept}
use Rattle.model_tree.specs.Seats.Seats.{Seat, Seats, no_seats, run_of}
use Rattle.seats.specs.Sizes.{place_sectors}
use Rattle.seats.specs.declared.sizes.SeatSizes.{SeatSizes}

-- sector k of a place, if the seats begin at sector `first`
abbrev pub at_place : SeatSizes → (first : ℕ) → Image → (place k : ℕ) → List ℕ
at_place sizes first image place k = image (first + (place_sectors sizes * place + k))

-- a session with this id was made in one of the runs up to `run`
abbrev pub IsOfRuns : (run : ℕ) → (id : List ℕ) → Type 0
IsOfRuns run id = (1 ≤ run_of id) × (run_of id ≤ run)

-- so was the session of a place, if it has one
abbrev pub IsMade : (run : ℕ) → Option Seat → Type 0
IsMade run None = Unit {0}
IsMade run (Some seat) = IsOfRuns run seat.session

abbrev pub AreMade : (run : ℕ) → Seats → Type 0
AreMade run seats = AllByRecursion (IsMade run) seats

-- seats that a volume may keep that was mounted `run` times: none if it may keep none
pub record MayStand (sizes : SeatSizes) (run : ℕ) (may_keep : Bool) (seats : Seats) : Type 0 where
  pub kept : AreKept sizes run seats
  pub none : (may_keep ≡ true) ⊎ (seats ≡ no_seats)

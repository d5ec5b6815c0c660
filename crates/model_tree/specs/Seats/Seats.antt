-- Seats: what a volume keeps of persistent sessions, so that the reply to the last request of each
-- of their slots survives a crash: RFC 8881, section 2.10.6.5. The volume determines how many there
-- are; CREATE_SESSION says which of them give way.
use Rattle.std.specs.Prelude.{◌≡◌, ◌≤◌, ◌/◌, ◌^◌, ℕ, Bool, true, false, List, [], ◌∷◌, map, take, Option, None, Some, if◌then◌else◌, slice_index_or, slice_set, is_some, bytes_eq}
use Rattle.std.specs.Int.{w64, from_be_bytes}

-- the reply that is held for a slot's request: the request's number, who sent it, and the whole
-- COMPOUND result
pub record HeldReply : Type 0 where
  pub number : ℕ
  pub uid : ℕ
  pub result : List ℕ

-- the id of a session, the owner id and the principal of its client, and what is held for each slot
pub record Seat : Type 0 where
  pub session : List ℕ
  pub owner : List ℕ
  pub principal : ℕ
  pub slots : List (Option HeldReply)

-- seats by their places, of which any may be free
abbrev pub Seats : Type 0
Seats = List (Option Seat)

-- the five places of a volume of layout version 1 or 2 that keeps no session
abbrev pub no_seats : Seats
no_seats = None ∷ None ∷ None ∷ None ∷ None ∷ []

abbrev pub is_seat_of : List ℕ → Seat → Bool
is_seat_of id seat = bytes_eq seat.session id

-- The seat of a session

abbrev pub this_or : List ℕ → Option Seat → Option Seat → Option Seat
this_or id None others = others
this_or id (Some seat) others = if is_seat_of id seat then Some seat else others

abbrev pub seat_of : List ℕ → Seats → Option Seat
seat_of id [] = None
seat_of id (place ∷ seats) = this_or id place (seat_of id seats)

abbrev pub has_seat : List ℕ → Seats → Bool
has_seat id seats = is_some (seat_of id seats)

-- Those that a volume keeps

-- the run in which a session of this id was made
abbrev pub run_of : List ℕ → ℕ
run_of id = from_be_bytes w64 (take 8 id) / 2 ^ 32

-- no two seats are of one session
abbrev pub SeatsApart : Seats → Type 0
SeatsApart [] = Unit {0}
SeatsApart (None ∷ seats) = SeatsApart seats
SeatsApart (Some seat ∷ seats) = (has_seat seat.session seats ≡ false) × SeatsApart seats

-- and each is of a session that was made in one of the runs 1 to `count`
pub record AreOfRuns (count : ℕ) (seats : Seats) : Type 0 where
  pub apart : SeatsApart seats
  pub made : (id : List ℕ) → has_seat id seats ≡ true → (1 ≤ run_of id) × (run_of id ≤ count)

-- What is held for a slot of a session

abbrev pub held_in : ℕ → Option Seat → Option HeldReply
held_in place None = None
held_in place (Some seat) = slice_index_or seat.slots place None

abbrev pub held_at : List ℕ → ℕ → Seats → Option HeldReply
held_at id place seats = held_in place (seat_of id seats)

-- Changes

-- those for which the test holds are freed
abbrev pub freed_if : (Seat → Bool) → Option Seat → Option Seat
freed_if gone None = None
freed_if gone (Some seat) = if gone seat then None else Some seat

abbrev pub freed : (Seat → Bool) → Seats → Seats
freed gone = map (freed_if gone)

abbrev pub has_free : Seats → Bool
has_free [] = false
has_free (None ∷ seats) = true
has_free (Some seat ∷ seats) = has_free seats

-- the first free place is taken
abbrev pub seated : Seat → Seats → Seats
seated seat [] = []
seated seat (None ∷ seats) = Some seat ∷ seats
seated seat (Some other ∷ seats) = Some other ∷ seated seat seats

-- a slot's reply is held from now on, in place of the one before it
abbrev pub with_held : ℕ → HeldReply → Seat → Seat
with_held place held seat = record seat { slots = slice_set seat.slots place (Some held) }

abbrev pub holds_if : List ℕ → ℕ → HeldReply → Option Seat → Option Seat
holds_if id place held None = None
holds_if id place held (Some seat) =
    Some (if is_seat_of id seat then with_held place held seat else seat)

abbrev pub holding : List ℕ → ℕ → HeldReply → Seats → Seats
holding id place held = map (holds_if id place held)

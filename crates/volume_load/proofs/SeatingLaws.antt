-- What the sectors of seats hold, and which seats a volume may keep.
use Rattle.std.proofs.Common.{◌≡◌, ◌≤◌, ◌<◌, ◌+◌, ◌-◌, ◌*◌, ◌/◌, ◌%◌, ◌^◌, ℕ, zero, suc, Bool, true, false, List, [], ◌∷◌, Option, Some, None, if◌then◌else◌, length, get_or, replicate, drop, take, map, is_some, eqb, inl, inr, refl, sym, ap, ap₂, subst, ◌∙◌, arith}
use Rattle.std.specs.Prelude.{IsTrue}
use Rattle.std.proofs.lemmas.Bool.{cases_lt, and_parts, eqb-true, false≢true}
use Rattle.std.proofs.lemmas.List.{get_or-replicate, get_or-map, length-map, length-drop, take_all, drop-map}
use Rattle.std.proofs.Math.Seq.{drop-cons}
use Rattle.disk.specs.Moments.{Image}
use Rattle.model_tree.specs.declared.seats.Seat as seats
use Rattle.model_tree.specs.Seats.SeatViews.{place_view, seat_view}
use Rattle.model_tree.specs.Seats.Seats.{Seat, Seats, SeatsApart, has_seat, is_seat_of, no_seats, seat_of}
use Rattle.model_tree.proofs.Facts.BytesLaws.{bytes_same}
use Rattle.seats.specs.Encoding.{ArePlaces, HoldPlace, IsSeatPlace, is_determined, seat_sector}
use Rattle.directory.proofs.Places.{bytes_eq-true}
use Rattle.sector.specs.Written.{each_at}
use Rattle.layout.specs.Stands.{HoldSeats, IsNumber, five_places, frees_whole, seats_from, size_by, sizes_by}
use Rattle.layout.specs.declared.versions.VersionNumber.{VersionNumber}
use Rattle.layout.specs.declared.versions.VersionNumber.TheVariants as numbers
use Rattle.layout.proofs.FirstLaws.{sized_parts}
use Rattle.seats.specs.Sizes.{all_sectors, place_sectors}
use Rattle.seats.specs.declared.sizes.SeatSizes.{SeatSizes}
use Rattle.seats.proofs.Places.{part_of_place, place_of_part, places_held, within_places}
use Rattle.layout.proofs.SeatLaws.{is_seat, seat_determined, seats_held, within_seats}
use Rattle.volume_load.specs.Seating.{AreMade, IsOfRuns, at_place}

-- The places that the code holds

pub view_at : (places : List (Option seats.Seat)) (i : ℕ) (place : Option seats.Seat) → i < length places → place ≡ get_or places i place → get_or (map place_view places) i None ≡ place_view place
view_at places i place h is = get_or-map place_view places i place None h ∙ ap place_view (sym is)

pub rest_viewed : (places : List (Option seats.Seat)) (n : ℕ) → map place_view (take (length places - n) (drop n places)) ≡ drop n (map place_view places)
rest_viewed places n = ap (map place_view) (take_all (length places - n) (drop n places) (omega (arith, length-drop n places))) ∙ sym (drop-map place_view n places)

pub count_viewed : (places : List (Option seats.Seat)) → length (map place_view places) ≡ length places
count_viewed places = length-map places place_view

-- The sectors of all places hold each place

module _ (number : VersionNumber) (image : Image) where
  abbrev sizes : SeatSizes
  sizes = sizes_by number

  abbrev w : ℕ
  w = place_sectors sizes

  pub hold_one : (seats : Seats) (place : ℕ) → place < sizes.places → HoldSeats number image seats → HoldPlace sizes.slots (frees_whole number) (at_place sizes (seats_from number) image place) (get_or seats place None)
  hold_one seats place few holds k h is =
      let at = part_of_place w place k h in
      let its = place_of_part w place k h in
      let whole = ap₂ (λ (n p : ℕ). is_determined (frees_whole number) n (get_or seats p None)) at its in
      holds (w * place + k) (is_seat number (w * place + k) seats (within_places w sizes.places place k few h) (whole ∙ is)) ∙ ap₂ (λ (n p : ℕ). seat_sector n (get_or seats p None)) at its

  -- and if they hold each, they hold all
  pub holds_all : (seats : Seats) → ((place : ℕ) → place < sizes.places → HoldPlace sizes.slots (frees_whole number) (at_place sizes (seats_from number) image place) (get_or seats place None)) → HoldSeats number image seats
  holds_all seats each n is =
      places_held sizes seats (frees_whole number) (λ m. image (seats_from number + m)) each n (within_seats number n seats is) (seat_determined number n seats is)

  -- so they hold at most one list of seats
  pub one_seats : (a b : Seats) → IsNumber number → ArePlaces (sizes_by number) a → ArePlaces (sizes_by number) b → HoldSeats number image a → HoldSeats number image b → a ≡ b
  one_seats a b is first second holds other = sym (seats_held number a image is first holds) ∙ seats_held number b image is second other

pub place_of : (sizes : SeatSizes) (seats : Seats) (place : ℕ) → place < sizes.places → ArePlaces sizes seats → IsSeatPlace sizes.slots (get_or seats place None)
place_of sizes seats place few are = each_at (IsSeatPlace sizes.slots) seats place None are.each (omega (arith, are.count))

-- they lie within the volume
pub seats_within : (number : VersionNumber) (size nodes : ℕ) → IsNumber number → IsTrue (size_by number size nodes) → seats_from number + all_sectors (sizes_by number) ≤ size
seats_within numbers.One size nodes is sized = let low : 145 ≤ size = omega (arith, (let parts = sized_parts size nodes sized in parts.room)) in low
seats_within numbers.Two size nodes is sized = let low : 145 ≤ size = omega (arith, (let parts = sized_parts size nodes sized in parts.room)) in low
seats_within (numbers.Three s) size nodes is sized =
    let both = and_parts (eqb s.geometry.sectors size) (eqb s.geometry.nodes nodes) sized in
    let all : all_sectors (sizes_by (numbers.Three s)) ≡ s.geometry.seats * (1 + 4 * s.geometry.slots) = refl in
    omega (arith, eqb-true s.geometry.sectors size both.0, is.fits.room, all)

-- and their sectors have numbers of four bytes
pub seats_fit : (number : VersionNumber) → IsNumber number → seats_from number + all_sectors (sizes_by number) < 2 ^ 32
seats_fit numbers.One is = let low : 145 < 2 ^ 32 = omega arith in low
seats_fit numbers.Two is = let low : 145 < 2 ^ 32 = omega arith in low
seats_fit (numbers.Three s) is =
    let all : all_sectors (sizes_by (numbers.Three s)) ≡ s.geometry.seats * (1 + 4 * s.geometry.slots) = refl in
    omega (arith, is.fits.room, is.fits.sectors, all)

-- Seats of distinct sessions

pub apart_drop : (i : ℕ) (seats : Seats) → SeatsApart seats → SeatsApart (drop i seats)
apart_drop zero seats apart = apart
apart_drop (suc i) [] apart = tt
apart_drop (suc i) (None ∷ seats) apart = apart_drop i seats apart
apart_drop (suc i) (Some seat ∷ seats) apart = apart_drop i seats apart.1

rest-at : (seats : Seats) (i : ℕ) (place : Option Seat) → i < length seats → get_or seats i None ≡ place → drop i seats ≡ place ∷ drop (i + 1) seats
rest-at seats i place h is = drop-cons seats i None h ∙ ap₂ (λ (one : Option Seat) (k : ℕ). one ∷ drop k seats) is (let e : suc i ≡ i + 1 = omega arith in e)

pub apart_here : (seats : Seats) (i : ℕ) (seat : Seat) → i < length seats → get_or seats i None ≡ Some seat → SeatsApart seats → has_seat seat.session (drop (i + 1) seats) ≡ false
apart_here seats i seat h is apart = let here : SeatsApart (Some seat ∷ drop (i + 1) seats) = subst SeatsApart (rest-at seats i (Some seat) h is) (apart_drop i seats apart) in here.0

pub apart_free : (seats : Seats) (i : ℕ) → i < length seats → get_or seats i None ≡ None → SeatsApart (drop (i + 1) seats) → SeatsApart (drop i seats)
apart_free seats i h is rest = subst SeatsApart (sym (rest-at seats i None h is)) rest

pub apart_more : (seats : Seats) (i : ℕ) (seat : Seat) → i < length seats → get_or seats i None ≡ Some seat → has_seat seat.session (drop (i + 1) seats) ≡ false → SeatsApart (drop (i + 1) seats) → SeatsApart (drop i seats)
apart_more seats i seat h is other rest = subst SeatsApart (sym (rest-at seats i (Some seat) h is)) (other, rest)

-- The seat of a session, from a place on

pub seated_here : (id : List ℕ) (seats : Seats) (i : ℕ) (seat : Seat) → i < length seats → get_or seats i None ≡ Some seat → is_seat_of id seat ≡ true → has_seat id (drop i seats) ≡ true
seated_here id seats i seat h is same =
    ap (has_seat id) (rest-at seats i (Some seat) h is)
    ∙ ap (λ (b : Bool). is_some (if b then Some seat else seat_of id (drop (i + 1) seats))) same

pub seated_free : (id : List ℕ) (seats : Seats) (i : ℕ) → i < length seats → get_or seats i None ≡ None → has_seat id (drop i seats) ≡ has_seat id (drop (i + 1) seats)
seated_free id seats i h is = ap (has_seat id) (rest-at seats i None h is)

pub seated_other : (id : List ℕ) (seats : Seats) (i : ℕ) (seat : Seat) → i < length seats → get_or seats i None ≡ Some seat → is_seat_of id seat ≡ false → has_seat id (drop i seats) ≡ has_seat id (drop (i + 1) seats)
seated_other id seats i seat h is other =
    ap (has_seat id) (rest-at seats i (Some seat) h is)
    ∙ ap (λ (b : Bool). is_some (if b then Some seat else seat_of id (drop (i + 1) seats))) other

-- Sessions that were made in one of the runs up to a last one

either_way : (id : List ℕ) (seat : Seat) (seats : Seats) (b : Bool) → is_seat_of id seat ≡ b → has_seat id seats ≡ true → has_seat id (Some seat ∷ seats) ≡ true
either_way id seat seats true is has = ap (λ (b : Bool). is_some (if b then Some seat else seat_of id seats)) is
either_way id seat seats false is has = ap (λ (b : Bool). is_some (if b then Some seat else seat_of id seats)) is ∙ has

pub each_made : (run : ℕ) (seats : Seats) → ((id : List ℕ) → has_seat id seats ≡ true → IsOfRuns run id) → AreMade run seats
each_made run [] made = tt
each_made run (None ∷ seats) made = (tt, each_made run seats made)
each_made run (Some seat ∷ seats) made = (
  made seat.session (ap (λ (b : Bool). is_some (if b then Some seat else seat_of seat.session seats)) (bytes_same seat.session seat.session refl)),
  each_made run seats (λ id has. made id (either_way id seat seats (is_seat_of id seat) refl has)),
)

made_by : (run : ℕ) (id : List ℕ) (seat : Seat) (seats : Seats) (b : Bool) → is_seat_of id seat ≡ b → IsOfRuns run seat.session → (has_seat id seats ≡ true → IsOfRuns run id) → has_seat id (Some seat ∷ seats) ≡ true → IsOfRuns run id
made_by run id seat seats true is here rest has = subst (IsOfRuns run) (bytes_eq-true seat.session id is) here
made_by run id seat seats false is here rest has = rest (sym (ap (λ (b : Bool). is_some (if b then Some seat else seat_of id seats)) is) ∙ has)

pub made_each : (run : ℕ) (seats : Seats) → AreMade run seats → (id : List ℕ) → has_seat id seats ≡ true → IsOfRuns run id
made_each run [] each id has = absurd (false≢true has)
made_each run (None ∷ seats) each id has = made_each run seats each.1 id has
made_each run (Some seat ∷ seats) each id has = made_by run id seat seats (is_seat_of id seat) refl each.0 (made_each run seats each.1 id) has

-- Free places

pub all_free : (seats : Seats) → ((k : ℕ) → k < length seats → get_or seats k None ≡ None) → seats ≡ replicate (length seats) None
all_free [] none = refl
all_free (place ∷ seats) none =
    ap₂ (λ (one : Option Seat) (others : Seats). one ∷ others) (none 0 (omega arith)) (all_free seats (λ k h. none (suc k) (omega arith)))

-- a seat is in none of them
pub not_free : (seats : Seats) (k : ℕ) (seat : Seat) → k < length seats → get_or seats k None ≡ Some seat → seats ≡ replicate (length seats) None → ⊥
not_free seats k seat within there free =
    let none : get_or seats k None ≡ None = ap (λ (l : Seats). get_or l k None) free ∙ get_or-replicate (length seats) k None None within in
    let no : None ≡ Some seat = sym none ∙ there in
    cc

pub some_there : (places : List (Option seats.Seat)) (i : ℕ) (place : Option seats.Seat) → i < length places → place ≡ get_or places i place → is_some place ≡ true
    → map place_view places ≡ replicate (length (map place_view places)) None → ⊥
some_there places i None low is some free = false≢true some
some_there places i (Some seat) low is some free =
    not_free (map place_view places) i (seat_view seat) (omega (arith, low, count_viewed places)) (view_at places i (Some seat) low is) free

-- the places up to this one are free
pub none_yet : (places : List (Option seats.Seat)) (i : ℕ) (place : Option seats.Seat) → i < length places → place ≡ get_or places i place → is_some place ≡ false
    → ((k : ℕ) → k < i → get_or (map place_view places) k None ≡ None) → (k : ℕ) → k < i + 1 → get_or (map place_view places) k None ≡ None
none_yet places i (Some seat) low is none before k below = absurd (false≢true (sym none))
none_yet places i None low is none before k below = elim (cases_lt k i) [
  | inl earlier ↦ before k earlier
  | inr last ↦ (let here : k ≡ i = omega (arith, below, last) in ap (λ (n : ℕ). get_or (map place_view places) n None) here ∙ view_at places i None low is)
]

-- with five places they are those of a volume that keeps none
pub five_free : (its : SeatSizes) (seats : Seats) → its ≡ five_places → ArePlaces its seats → seats ≡ replicate (length seats) None → seats ≡ no_seats
five_free its seats five are free =
    free ∙ ap (λ (n : ℕ). replicate n None) (are.count ∙ ap (λ (of : SeatSizes). of.places) five)

pub none_free : (seats : Seats) → seats ≡ no_seats → seats ≡ replicate (length seats) None
none_free seats is = is ∙ ap (λ (n : ℕ). replicate n None) (sym (ap (λ (l : Seats). length l) is))

-- The seats that a volume keeps, and the sectors that hold them.
use Rattle.std.proofs.Common.{◌≡◌, ◌≤◌, ◌<◌, ◌+◌, ◌-◌, ◌/◌, ◌%◌, ◌==◌, ◌&&◌, ◌||◌, ℕ, zero, suc, Bool, true, false, List, Option, None, Some, get_or, replicate, leb, ltb, eqb, if◌then◌else◌, ne_eqb, refl, sym, ap, ◌∙◌, subst, arith}
use Rattle.std.specs.Prelude.{IsTrue}
use Rattle.std.proofs.lemmas.Bool.{and_parts, eqb-true, le-leb, le-ltb, lt-ltb, ltb-true}
use mathlib.Core.Bool.{or-true}
use Rattle.disk.specs.Moments.{Image}
use Rattle.disk.specs.Calls as calls
use Rattle.disk.specs.Calls.{zero_sector}
use Rattle.model_tree.specs.Seats.Seats.{Seats, SeatsApart, has_seat, no_seats}
use Rattle.seats.specs.Encoding as encoded
use Rattle.seats.specs.Encoding.{ArePlaces, is_determined_in, seat_sector, seats_sector}
use Rattle.seats.specs.Sizes.{AreSizes, all_sectors, place_sectors}
use Rattle.seats.specs.declared.sizes.SeatSizes.{SeatSizes}
use Rattle.seats.proofs.Places.{free_place, free_places}
use Rattle.seats.proofs.ReadBack.{seats-back}
use Rattle.geometry.specs.Places.{Fits, seats_start}
use Rattle.geometry.specs.declared.geometry.Geometry.{Geometry}
use Rattle.layout.specs.Large.{is_of_seats, large_sizes}
use Rattle.layout.specs.Stands.{AreKept, HasRegion, HoldSeats, IsMark, IsNumber, MayHaveSeats, five_places, free_seats, frees_whole, is_seat_sector, is_spare_in, mark_held, seats_at, seats_from, size_by, sizes_by, spare_by, spare_in, version_by}
use Rattle.layout.proofs.FirstLaws.{is_before, region_at_start}
use Rattle.layout.proofs.LargeParts.{region_at_end}
use Rattle.layout.specs.declared.versions.VersionNumber.{VersionNumber}
use Rattle.layout.specs.declared.versions.VersionNumber.TheVariants as numbers

-- Free places

pub free_sector : (k : ℕ) → seat_sector k None ≡ zero_sector
unfolding encoded.seat_sector calls.zero_sector
free_sector k = refl

free_at : (i : ℕ) → get_or no_seats i None ≡ None
free_at zero = refl
free_at (suc zero) = refl
free_at (suc (suc zero)) = refl
free_at (suc (suc (suc zero))) = refl
free_at (suc (suc (suc (suc zero)))) = refl
free_at (suc (suc (suc (suc (suc i))))) = refl

pub seats_free : (n : ℕ) → seats_sector five_places n no_seats ≡ zero_sector
seats_free n = ap (seat_sector (n % 9)) (free_at (n / 9)) ∙ free_sector (n % 9)

pub large_seats_free : (sizes : SeatSizes) (n : ℕ) → seats_sector sizes n (replicate sizes.places None) ≡ zero_sector
large_seats_free sizes n = ap (seat_sector (n % place_sectors sizes)) (free_place sizes.places (n / place_sectors sizes)) ∙ free_sector (n % place_sectors sizes)

-- How many places there are

pub sizes_are : (number : VersionNumber) → IsNumber number → AreSizes (sizes_by number)
sizes_are numbers.One is = record { some_places = omega arith; few_places = omega arith; some_slots = omega arith; few_slots = omega arith }
sizes_are numbers.Two is = record { some_places = omega arith; few_places = omega arith; some_slots = omega arith; few_slots = omega arith }
sizes_are (numbers.Three s) is = record {
  some_places = is.fits.limits.min_seats;
  few_places = is.fits.limits.max_seats;
  some_slots = is.fits.limits.min_slots;
  few_slots = is.fits.limits.max_slots;
}

-- The spare sectors

pub spare_seats : (seats : Seats) (mark : Option ℕ) (n : ℕ) → (n ≡ 147 → ⊥) → spare_by seats mark n ≡ seats_sector five_places (n - 100) seats
spare_seats seats mark n other = rw (ne_eqb n 147 other) refl

pub spare_other : (mark : Option ℕ) (n : ℕ) → (n ≡ 147 → ⊥) → spare_by no_seats mark n ≡ zero_sector
spare_other mark n other = spare_seats no_seats mark n other ∙ seats_free (n - 100)

either_free : (b : Bool) (sector : List ℕ) → sector ≡ zero_sector → (if b then mark_held None else sector) ≡ zero_sector
either_free true sector free = refl
either_free false sector free = free

pub spare_none : (n : ℕ) → spare_by no_seats None n ≡ zero_sector
spare_none n = either_free (n == 147) (seats_sector five_places (n - 100) no_seats) (seats_free (n - 100))

-- sector 147

pub mark_is_spare : (number : VersionNumber) (seats : Seats) → IsTrue (is_spare_in number seats 147)
mark_is_spare numbers.One seats = refl
mark_is_spare numbers.Two seats = refl
mark_is_spare (numbers.Three s) seats = refl

pub mark_spare : (number : VersionNumber) (nodes : ℕ) (mark : Option ℕ) (seats : Seats) → IsMark number nodes mark → spare_in number mark seats 147 ≡ mark_held mark
mark_spare numbers.One nodes mark seats is = refl
mark_spare numbers.Two nodes mark seats is = refl
mark_spare (numbers.Three s) nodes None seats is = refl
mark_spare (numbers.Three s) nodes (Some moved) seats is = absurd is

-- sectors of seats

module _ (number : VersionNumber) (n : ℕ) (seats : Seats) where
  abbrev sizes : SeatSizes
  sizes = sizes_by number

  abbrev is_in : Bool
  is_in = is_determined_in sizes (frees_whole number) n seats

  pub within_seats : IsTrue (is_seat_sector number n seats) → n < all_sectors (sizes_by number)
  within_seats is = ltb-true n (all_sectors sizes) (and_parts (ltb n (all_sectors sizes)) is_in is).0

  pub seat_determined : IsTrue (is_seat_sector number n seats) → IsTrue (is_determined_in (sizes_by number) (frees_whole number) n seats)
  seat_determined is = (and_parts (ltb n (all_sectors sizes)) is_in is).1

  pub is_seat : n < all_sectors (sizes_by number) → IsTrue (is_determined_in (sizes_by number) (frees_whole number) n seats) → IsTrue (is_seat_sector number n seats)
  is_seat low is = rw (lt-ltb n (all_sectors sizes) low, is) refl

-- in version 3 they are after the data region
module _ (g : Geometry) where
  abbrev all : ℕ
  all = all_sectors (large_sizes g)

  pub of_large_seats : (seats : Seats) (n : ℕ) → n < all_sectors (large_sizes g) → IsTrue (is_determined_in (large_sizes g) false n seats) → is_of_seats g seats (seats_start g + n) ≡ true
  of_large_seats seats n low is = rw (
    le-leb (seats_start g) (seats_start g + n) (omega arith),
    lt-ltb (seats_start g + n) (seats_start g + all) (omega (arith, low)),
    (let e : seats_start g + n - seats_start g ≡ n = omega arith in e),
    is,
  ) refl

  pub behind_nodes : Fits g → 148 ≤ seats_start g
  behind_nodes fits = omega (arith, fits.room)

pub seat_is_spare : (number : VersionNumber) (n : ℕ) (seats : Seats) → IsTrue (is_seat_sector number n seats) → IsTrue (is_spare_in number seats (seats_from number + n))
seat_is_spare numbers.One n seats is = is_before (100 + n) (omega arith) (let low : n < 45 = within_seats numbers.One n seats is in omega arith)
seat_is_spare numbers.Two n seats is = is_before (100 + n) (omega arith) (let low : n < 45 = within_seats numbers.Two n seats is in omega arith)
seat_is_spare (numbers.Three s) n seats is =
    rw (of_large_seats s.geometry seats n (within_seats (numbers.Three s) n seats is) (seat_determined (numbers.Three s) n seats is))
    (or-true (leb 98 (seats_start s.geometry + n) && ltb (seats_start s.geometry + n) 148))

pub seat_spare : (number : VersionNumber) (mark : Option ℕ) (n : ℕ) (seats : Seats) → IsNumber number → MayHaveSeats number mark seats → n < all_sectors (sizes_by number)
    → spare_in number mark seats (seats_from number + n) ≡ seats_sector (sizes_by number) n seats
seat_spare numbers.One mark n seats is may low =
    let few : n < 45 = low in
    ap (λ (s : Seats). spare_by s mark (100 + n)) (sym may) ∙ (spare_seats seats mark (100 + n) (λ e. omega (arith, e, few)) ∙ ap (λ (k : ℕ). seats_sector five_places k seats) (omega arith))
seat_spare numbers.Two mark n seats is may low =
    let few : n < 45 = low in
    spare_seats seats mark (100 + n) (λ e. omega (arith, e, few)) ∙ ap (λ (k : ℕ). seats_sector five_places k seats) (omega arith)
seat_spare (numbers.Three s) mark n seats is may low =
    let first = seats_start s.geometry in
    rw (le-ltb (first + n) 148 (omega (arith, behind_nodes s.geometry is.fits)), (let e : first + n - first ≡ n = omega arith in e)) refl

-- so the sectors of a volume hold its seats, and encode them
pub holds_seats : (number : VersionNumber) (mark : Option ℕ) (seats : Seats) (image : Image) → IsNumber number → MayHaveSeats number mark seats
    → ((n : ℕ) → IsTrue (is_spare_in number seats n) → image n ≡ spare_in number mark seats n) → HoldSeats number image seats
holds_seats number mark seats image is may spare n within =
    spare (seats_from number + n) (seat_is_spare number n seats within) ∙ seat_spare number mark n seats is may (within_seats number n seats within)

pub seats_held : (number : VersionNumber) (seats : Seats) (image : Image) → IsNumber number → ArePlaces (sizes_by number) seats → HoldSeats number image seats → seats_at number image ≡ seats
seats_held number seats image is_number places holds = seats-back (sizes_by number) (frees_whole number) seats (λ n. image (seats_from number + n)) (sizes_are number is_number) places
    (λ n low is. holds n (is_seat number n seats low is))

-- the parts of a volume
pub version_region : (number : VersionNumber) (mark : Option ℕ) (seats : Seats) (size nodes : ℕ) → IsNumber number → IsTrue (size_by number size nodes) → HasRegion (version_by number mark seats) size nodes
version_region numbers.One mark seats size nodes is sized = region_at_start (version_by numbers.One mark seats) size nodes sized refl refl (λ n. refl)
version_region numbers.Two mark seats size nodes is sized = region_at_start (version_by numbers.Two mark seats) size nodes sized refl refl (λ n. refl)
version_region (numbers.Three s) mark seats size nodes is sized =
    let both = and_parts (eqb s.geometry.sectors size) (eqb s.geometry.nodes nodes) sized in
    subst (λ (n : ℕ). HasRegion (version_by (numbers.Three s) mark seats) n nodes) (eqb-true s.geometry.sectors size both.0)
    (subst (λ (n : ℕ). HasRegion (version_by (numbers.Three s) mark seats) s.geometry.sectors n) (eqb-true s.geometry.nodes nodes both.1)
    (region_at_end s mark seats is))

-- What a volume may keep

none_seated : (id : List ℕ) → has_seat id no_seats ≡ true → ⊥
none_seated id has = cc

pub no_seats_kept : (run : ℕ) → AreKept five_places run no_seats
no_seats_kept run = record {
  places = record { count = refl; each = (tt, (tt, (tt, (tt, (tt, tt))))) };
  of_runs = record { apart = tt; made = λ id has. absurd (none_seated id has) };
}

free_apart : (count : ℕ) → SeatsApart (replicate count None)
free_apart zero = tt
free_apart (suc count) = free_apart count

none_free : (count : ℕ) (id : List ℕ) → has_seat id (replicate count None) ≡ false
none_free zero id = refl
none_free (suc count) id = none_free count id

pub free_seats_kept : (number : VersionNumber) (run : ℕ) → AreKept (sizes_by number) run (free_seats number)
free_seats_kept number run =
    let sizes = sizes_by number in
    record {
      places = free_places sizes;
      of_runs = record { apart = free_apart sizes.places; made = λ id has. absurd (let none = none_free sizes.places id in cc) };
    }

pub kept_later : (sizes : SeatSizes) (run later : ℕ) (seats : Seats) → run ≤ later → AreKept sizes run seats → AreKept sizes later seats
kept_later sizes run later seats rises kept = record {
  places = kept.places;
  of_runs = record {
    apart = kept.of_runs.apart;
    made = λ id has. (let made = kept.of_runs.made id has in (made.0, omega (arith, made.1, rises)));
  };
}

-- Places of `w` sectors each, one after the other: sector k of a place is sector w * place + k of all.
use Rattle.std.proofs.Common.{◌≡◌, ◌≤◌, ◌<◌, ◌+◌, ◌*◌, ◌/◌, ◌%◌, ℕ, zero, suc, Bool, List, Option, None, get_or, replicate, refl, sym, ap, ap₂, ◌∙◌, arith}
use Rattle.std.proofs.Math.Nat.{div-add-mod, div-lt_iff_lt-mul, mod-eq_of_lt, mod-lt, mul-add-mod_self_left, mul-le-mul, mul-le-mul_left, mul-suc, mul_comm}
use Rattle.std.specs.List.{AllByRecursion}
use Rattle.std.proofs.lemmas.List.{length-replicate}
use Rattle.std.proofs.lemmas.Nat.{div-mul-add, mul-add-lt}
use Rattle.model_tree.specs.Seats.Seats.{Seat, Seats}
use Rattle.seats.specs.Encoding.{ArePlaces, HoldPlace, HoldPlaces, IsSeatPlace, is_determined, is_determined_in, seat_sector, seats_sector}
use Rattle.seats.specs.Sizes.{AreSizes, all_sectors, place_sectors}
use Rattle.seats.specs.declared.sizes.SeatSizes.{SeatSizes}

-- Numbers

pub part_of_place : (w place k : ℕ) → k < w → (w * place + k) % w ≡ k
part_of_place w place k few = mul-add-mod_self_left w place k ∙ mod-eq_of_lt few

pub place_of_part : (w place k : ℕ) → k < w → (w * place + k) / w ≡ place
place_of_part w place k few =
    ap (λ (n : ℕ). (n + k) / w) (mul_comm w place) ∙ div-mul-add place w k few

pub within_places : (w places place k : ℕ) → place < places → k < w → w * place + k < places * w
within_places w places place k low few =
    let within : place * w + k < w * places = mul-add-lt place w k places low few in
    omega (arith, within, mul_comm w place, mul_comm w places)

pub apart_again : (w n : ℕ) → n ≡ w * (n / w) + n % w
apart_again w n = sym (div-add-mod n w)

pub part_within : (w n : ℕ) → 0 < w → n % w < w
part_within w n some = mod-lt n some

pub place_within : (w places n : ℕ) → 0 < w → n < places * w → n / w < places
place_within w places n some low = (div-lt_iff_lt-mul {k = w} {x = n} {y = places} some).1 low

pub next_place : (w place : ℕ) → w * suc place ≡ w * place + w
next_place w place = mul-suc w place

-- a later place begins behind this one's end
pub places_apart : (w place later : ℕ) → place < later → w * place + w ≤ w * later
places_apart w place later low =
    let more : w * suc place ≤ w * later = mul-le-mul_left w (omega arith) in
    omega (arith, more, next_place w place)

pub few_sectors : (sizes : SeatSizes) → AreSizes sizes → all_sectors sizes ≤ 2112
few_sectors sizes are =
    let most : all_sectors sizes ≤ 64 * 33 = mul-le-mul are.few_places (let q : place_sectors sizes ≤ 33 = omega (arith, are.few_slots) in q) in
    most

-- Free places

pub free_place : (n i : ℕ) → (let free : Seats = replicate n None in get_or free i None ≡ None)
free_place zero i = refl
free_place (suc n) zero = refl
free_place (suc n) (suc i) = free_place n i

each_free : (room n : ℕ) → (let free : Seats = replicate n None in AllByRecursion (IsSeatPlace room) free)
each_free room zero = tt
each_free room (suc n) = (tt, each_free room n)

pub free_places : (sizes : SeatSizes) → ArePlaces sizes (replicate sizes.places None)
free_places sizes = record { count = length-replicate {A = Option Seat} sizes.places None; each = each_free sizes.slots sizes.places }

-- Sectors of seats

module _ (sizes : SeatSizes) (seats : Seats) where
  pub sector_of_place : (place k : ℕ) → k < place_sectors sizes
      → seats_sector sizes (place_sectors sizes * place + k) seats ≡ seat_sector k (get_or seats place None)
  sector_of_place place k few =
      ap₂ (λ (i j : ℕ). seat_sector i (get_or seats j None))
      (part_of_place (place_sectors sizes) place k few) (place_of_part (place_sectors sizes) place k few)

  pub determined_of_place : (whole : Bool) (place k : ℕ) → k < place_sectors sizes
      → is_determined_in sizes whole (place_sectors sizes * place + k) seats ≡ is_determined whole k (get_or seats place None)
  determined_of_place whole place k few =
      ap₂ (λ (i j : ℕ). is_determined whole i (get_or seats j None))
      (part_of_place (place_sectors sizes) place k few) (place_of_part (place_sectors sizes) place k few)

  -- what the sectors of all places hold, place by place
  pub place_held : (whole : Bool) (sectors : ℕ → List ℕ) → HoldPlaces sizes whole sectors seats
      → (place : ℕ) → place < sizes.places → HoldPlace sizes.slots whole (λ k. sectors (place_sectors sizes * place + k)) (get_or seats place None)
  place_held whole sectors held place low k few is =
      held (place_sectors sizes * place + k) (within_places (place_sectors sizes) sizes.places place k low few)
      (determined_of_place whole place k few ∙ is)
      ∙ sector_of_place place k few

  pub places_held : (whole : Bool) (sectors : ℕ → List ℕ)
      → ((place : ℕ) → place < sizes.places → HoldPlace sizes.slots whole (λ k. sectors (place_sectors sizes * place + k)) (get_or seats place None))
      → HoldPlaces sizes whole sectors seats
  places_held whole sectors each n low is =
      let w : ℕ = place_sectors sizes in
      ap sectors (apart_again w n)
      ∙ each (n / w) (place_within w sizes.places n (omega arith) low) (n % w) (part_within w n (omega arith)) is

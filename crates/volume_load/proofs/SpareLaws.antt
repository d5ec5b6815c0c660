-- What the spare sectors hold: the mark, the seats, and zeros.
use Rattle.std.specs.Prelude.{IsTrue}
use Rattle.std.proofs.Common.{◌≡◌, ◌≤◌, ◌<◌, ◌+◌, ◌-◌, ◌/◌, ◌%◌, ◌&&◌, ℕ, true, false, Option, Some, None, length, get_or, refl, sym, ap, ◌∙◌, arith, inl, inr, leb, ltb}
use Rattle.std.proofs.lemmas.Bool.{and_parts, cases_eq, cases_lt, leb-true, le-leb, le-ltb, lt-ltb, ltb-true, or_cases}
use Rattle.std.proofs.lemmas.List.{get_or_past}
use Rattle.disk.specs.Moments.{Image}
use Rattle.disk.specs.Calls.{zero_sector}
use Rattle.layout.specs.Large.{is_of_seats}
use Rattle.layout.specs.Stands.{HoldSeats, IsMark, IsNumber, MayHaveSeats, five_places, is_spare_in, mark_held, seats_from, sizes_by, spare_by, spare_in}
use Rattle.layout.specs.declared.versions.VersionNumber.{VersionNumber}
use Rattle.layout.specs.declared.versions.VersionNumber.TheVariants as numbers
use Rattle.layout.proofs.FirstLaws.{before_nodes, is_before}
use Rattle.layout.proofs.SeatLaws.{behind_nodes, is_seat, mark_is_spare, mark_spare, spare_other, spare_seats}
use Rattle.model_tree.specs.Seats.Seats as model
use Rattle.model_tree.specs.Seats.Seats.{Seats}
use Rattle.seats.specs.Encoding.{ArePlaces, is_determined, is_determined_in, seat_sector, seats_sector}
use Rattle.seats.specs.Sizes.{all_sectors}
use Rattle.seats.specs.declared.sizes.SeatSizes.{SeatSizes}
use Rattle.volume_load.specs.Sectors.{AreSpare, zeros_from}

free_sector : (k : ℕ) → seat_sector k None ≡ zero_sector
unfolding seat_sector zero_sector
free_sector k = refl

-- five places have 45 sectors
behind_seats : (seats : Seats) (n : ℕ) → length seats ≡ 5 → 45 ≤ n → seats_sector five_places n seats ≡ zero_sector
behind_seats seats n five far = ap (seat_sector (n % 9)) (get_or_past seats (n / 9) None (omega (arith, five))) ∙ free_sector (n % 9)

in-prefix : (mark : Option ℕ) (seats : Seats) (n : ℕ) → length seats ≡ 5 → 145 ≤ n → n < 147 → spare_by seats mark n ≡ zero_sector
in-prefix mark seats n five far low = spare_seats seats mark n (λ e. absurd (omega arith)) ∙ behind_seats seats (n - 100) five (omega arith)

-- the sectors up to the mark in version 3
first_large : (n : ℕ) → 98 ≤ n → n < 148 → (leb 98 n && ltb n 148) ≡ true
first_large n low high = rw (le-leb 98 n low, lt-ltb n 148 high) refl

-- What is spare in a volume is found

pub mark_there : (number : VersionNumber) (nodes : ℕ) (mark : Option ℕ) (seats : Seats) (image : Image) → IsMark number nodes mark → ((n : ℕ) → IsTrue (is_spare_in number seats n) → image n ≡ spare_in number mark seats n) → image 147 ≡ mark_held mark
mark_there number nodes mark seats image marked is_so = is_so 147 (mark_is_spare number seats) ∙ mark_spare number nodes mark seats marked

pub zeros_there : (number : VersionNumber) (mark : Option ℕ) (seats : Seats) (image : Image) → MayHaveSeats number mark seats → ArePlaces (sizes_by number) seats → ((n : ℕ) → IsTrue (is_spare_in number seats n) → image n ≡ spare_in number mark seats n)
    → AreSpare (zeros_from number) image
zeros_there numbers.One mark seats image may are is_so n low high = is_so n (is_before n (omega arith) (omega arith)) ∙ spare_other mark n (λ e. omega arith)
zeros_there numbers.Two mark seats image may are is_so n low high = is_so n (is_before n (omega arith) (omega arith)) ∙ in-prefix mark seats n are.count low high
zeros_there (numbers.Three s) mark seats image may are is_so n low high =
    is_so n (rw (first_large n low (omega arith)) refl) ∙ (rw (lt-ltb n 148 (omega arith)) refl)

-- What is found is spare

whole_determined : (k : ℕ) (place : Option model.Seat) → is_determined true k place ≡ true
whole_determined k None = refl
whole_determined k (Some seat) = refl

-- in version 1 or 2
spare_at_start : (mark : Option ℕ) (seats : Seats) (image : Image) → length seats ≡ 5 → image 147 ≡ mark_held mark → ((n : ℕ) → n < 45 → image (100 + n) ≡ seats_sector five_places n seats) → AreSpare 145 image → (n : ℕ) → 100 ≤ n → n < 148 → image n ≡ spare_by seats mark n
spare_at_start mark seats image five there holds zeros n low high = elim (cases_eq n 147) [
  | inl at ↦ ap image at ∙ there ∙ ap (spare_by seats mark) (sym at)
  | inr off ↦ elim (cases_lt n 145) [
    | inl below ↦
        let e : n ≡ 100 + (n - 100) = omega arith in
        ap image e ∙ holds (n - 100) (omega arith) ∙ sym (spare_seats seats mark n off)
    | inr far ↦ let last : n < 147 = omega arith in zeros n far last ∙ sym (in-prefix mark seats n five far last)
  ]
]

-- in version 3, for a sector up to the mark, and for one of the seats
zero_at_start : (image : Image) → image 147 ≡ zero_sector → AreSpare 98 image → (n : ℕ) → 98 ≤ n → n < 148 → image n ≡ zero_sector
zero_at_start image there zeros n low high = elim (cases_eq n 147) [
  | inl at ↦ ap image at ∙ there
  | inr off ↦ zeros n low (omega arith)
]

record SeatParts (sizes : SeatSizes) (first n : ℕ) (seats : Seats) : Type 0 where
  low : first ≤ n
  high : n < first + all_sectors sizes
  determined : is_determined_in sizes false (n - first) seats ≡ true

seat_parts : (sizes : SeatSizes) (first n : ℕ) (seats : Seats) → (leb first n && ltb n (first + all_sectors sizes) && is_determined_in sizes false (n - first) seats) ≡ true → SeatParts sizes first n seats
seat_parts sizes first n seats of =
    let behind = first + all_sectors sizes in
    let both = and_parts (leb first n && ltb n behind) (is_determined_in sizes false (n - first) seats) of in
    let ends = and_parts (leb first n) (ltb n behind) both.0 in
    record { low = leb-true first n ends.0; high = ltb-true n behind ends.1; determined = both.1 }

pub spare_there : (number : VersionNumber) (nodes : ℕ) (mark : Option ℕ) (seats : Seats) (image : Image) → IsNumber number → IsMark number nodes mark → MayHaveSeats number mark seats → ArePlaces (sizes_by number) seats → image 147 ≡ mark_held mark → HoldSeats number image seats → AreSpare (zeros_from number) image
    → (n : ℕ) → IsTrue (is_spare_in number seats n) → image n ≡ spare_in number mark seats n
spare_there numbers.One nodes mark seats image is marked may are there holds zeros n spare =
    let low = before_nodes n spare in
    spare_at_start mark seats image are.count there (λ k few. holds k (is_seat numbers.One k seats few (whole_determined (k % 9) (get_or seats (k / 9) None)))) zeros n low.0 low.1
    ∙ ap (λ (kept : Seats). spare_by kept mark n) may
spare_there numbers.Two nodes mark seats image is marked may are there holds zeros n spare =
    let low = before_nodes n spare in
    spare_at_start mark seats image are.count there (λ k few. holds k (is_seat numbers.Two k seats few (whole_determined (k % 9) (get_or seats (k / 9) None)))) zeros n low.0 low.1
spare_there (numbers.Three s) nodes (Some moved) seats image is marked may are there holds zeros n spare = absurd marked
spare_there (numbers.Three s) nodes None seats image is marked may are there holds zeros n spare =
    let first = seats_from (numbers.Three s) in
    elim (or_cases (leb 98 n && ltb n 148) (is_of_seats s.geometry seats n) spare) [
      | inl before ↦
          let ends = and_parts (leb 98 n) (ltb n 148) before in
          let high = ltb-true n 148 ends.1 in
          zero_at_start image there zeros n (leb-true 98 n ends.0) high ∙ (rw (lt-ltb n 148 high) refl)
      | inr of ↦
          let parts = seat_parts (sizes_by (numbers.Three s)) first n seats of in
          let e : n ≡ first + (n - first) = omega (arith, parts.low) in
          let far : 148 ≤ n = omega (arith, parts.low, behind_nodes s.geometry is.fits) in
          ap image e ∙ (holds (n - first) (is_seat (numbers.Three s) (n - first) seats (omega (arith, parts.high, parts.low)) parts.determined) ∙ (rw (le-ltb n 148 far) refl))
    ]

-- What one edit writes at its place.
use Rattle.std.proofs.Common.{◌≡◌, ◌≤◌, ◌<◌, ◌+◌, ◌-◌, ◌*◌, ◌/◌, ◌%◌, ◌^◌, ◌⊎◌, ℕ, Bool, true, false, if◌then◌else◌, List, [], Option, Some, None, length, inl, inr, refl, sym, ap, ◌∙◌, arith, ⊎_elim}
use Rattle.std.specs.Prelude.{IsTrue, nat_lt}
use Rattle.std.proofs.lemmas.Bool.{cases_eq, cases_lt, eqb-true, ltb-true, lt-ltb}
use Rattle.disk.specs.declared.update.Update.{Update}
use Rattle.disk.specs.Moments.{Image, applied}
use Rattle.geometry.specs.Places.{Fits, log_start, seats_sectors, seats_start}
use Rattle.geometry.specs.declared.geometry.Geometry.{Geometry}
use Rattle.journal.specs.Layout.{max_updates, targets}
use Rattle.journal.specs.declared.layout.LogArea.{LogArea}
use Rattle.volume.specs.SeatTransactions.{most_updates}
use Rattle.journal.proofs.Images.{Out, Fit, applied_out}
use Rattle.layout.specs.Versions.{IsNumber, frees_whole, log_by, seats_from, size_by, sizes_by}
use Rattle.layout.specs.declared.versions.VersionNumber.{VersionNumber}
use Rattle.layout.specs.declared.versions.VersionNumber.TheVariants as numbers
use Rattle.layout.proofs.FirstLaws.{sized_parts}
use Rattle.layout.specs.Large.{large_sizes}
use Rattle.model_tree.specs.Seats.SeatEdits.{SeatEdit, Stays, Frees, Takes, Holds, CanEdit, edited_seat}
use Rattle.model_tree.specs.Seats.Seats.{HeldReply, Seat, with_held}
use Rattle.seats.specs.Encoding.{IsSeatPlace, is_determined, part_of, seat_sector, slot_text}
use Rattle.seats.specs.Sizes.{all_sectors}
use Rattle.seats.proofs.Edits.{held_sector, kept_sector}
use Rattle.seats.proofs.Places.{places_apart}
use Rattle.std.proofs.Math.Nat.{mul_comm}
use Rattle.volume.specs.SeatUpdates.{row, edit_updates, freed_sectors, place_start, sectors_by, slot_updates, slots_by}
use Rattle.volume.proofs.SeatRows.{row_out, row_fit, row_there, length-row}

-- Where the seats are

-- a log of 288 sectors or more is behind the seats of version 3
large_seats : (g : Geometry) → Fits g → (100 ≤ seats_start g) × (seats_start g + all_sectors (large_sizes g) ≤ log_start g) × (seats_start g + all_sectors (large_sizes g) < 2 ^ 32)
large_seats g fits =
    let all : all_sectors (large_sizes g) ≡ seats_sectors g = refl in (
      omega (arith, fits.room),
      omega (arith, fits.room, all),
      omega (arith, fits.room, fits.sectors, fits.limits.min_log, all),
    )

pub seats_from_100 : (version : VersionNumber) → IsNumber version → 100 ≤ seats_from version
seats_from_100 numbers.One number = omega arith
seats_from_100 numbers.Two number = omega arith
seats_from_100 (numbers.Three s) number = (large_seats s.geometry number.fits).0

pub seats_room : (version : VersionNumber) → IsNumber version → seats_from version + all_sectors (sizes_by version) < 2 ^ 32
seats_room numbers.One number = let low : 145 < 2 ^ 32 = omega arith in low
seats_room numbers.Two number = let low : 145 < 2 ^ 32 = omega arith in low
seats_room (numbers.Three s) number = (large_seats s.geometry number.fits).2

pub seats_below : (version : VersionNumber) (size nodes : ℕ) → IsNumber version → IsTrue (size_by version size nodes) → seats_from version + all_sectors (sizes_by version) ≤ (log_by version size).end
seats_below numbers.One size nodes number sized = let low : 145 ≤ size = (let parts = sized_parts size nodes sized in omega (arith, parts.room)) in low
seats_below numbers.Two size nodes number sized = let low : 145 ≤ size = (let parts = sized_parts size nodes sized in omega (arith, parts.room)) in low
seats_below (numbers.Three s) size nodes number sized = (large_seats s.geometry number.fits).1

-- and the log has room for a transaction of theirs
most_few : (version : VersionNumber) (size : ℕ) → IsNumber version → most_updates version ≤ max_updates (log_by version size)
most_few numbers.One size number = let few : 45 ≤ 48 = omega arith in few
most_few numbers.Two size number = let few : 45 ≤ 48 = omega arith in few
most_few (numbers.Three s) size number =
    let limits = number.fits.limits in
    let few : 1 + 4 * s.geometry.slots + s.geometry.seats ≤ s.geometry.log = omega (arith, limits.max_slots, limits.max_seats, limits.min_log) in
    few

pub few_enough : (version : VersionNumber) (area : LogArea) (size count : ℕ) → IsNumber version → area ≡ log_by version size → count ≤ most_updates version → count ≤ max_updates area
few_enough version area size count number placed few =
    let most = most_few version size number in
    let same : max_updates area ≡ max_updates (log_by version size) = ap max_updates placed in
    omega (arith, most, same, few)

-- a place ends within them
pub place_room : (version : VersionNumber) (place : ℕ) → IsNumber version → (let sizes = sizes_by version in place < sizes.places) → place_start version place + sectors_by version < 2 ^ 32
place_room version place number few =
    let sizes = sizes_by version in
    let last = places_apart (sectors_by version) place sizes.places few in
    let all : all_sectors sizes ≡ sectors_by version * sizes.places = mul_comm sizes.places (sectors_by version) in
    omega (arith, seats_room version number, last, all)

-- Slots

abbrev pub held_row : VersionNumber → (place slot : ℕ) → HeldReply → List Update
held_row version place slot held = row (place_start version place + 1 + 4 * slot) 4 (λ part. part_of part (slot_text (Some held)))

-- a slot that a place has room for, or nothing
by_slot : (P : List Update → Type 0) (version : VersionNumber) (place slot : ℕ) (held : HeldReply) → (slot < slots_by version → P (held_row version place slot held)) → P [] → P (slot_updates version place slot held)
by_slot P version place slot held some none = either (nat_lt slot (slots_by version)) refl
  where
    either : (b : Bool) → nat_lt slot (slots_by version) ≡ b → P (if b then held_row version place slot held else [])
    either true is = some (ltb-true slot (slots_by version) is)
    either false is = none

pub slot_row : (version : VersionNumber) (place slot : ℕ) (held : HeldReply) → slot < slots_by version → slot_updates version place slot held ≡ held_row version place slot held
slot_row version place slot held few = ap (λ (b : Bool). if b then held_row version place slot held else []) (lt-ltb slot (slots_by version) few)

-- the sectors of a place have room for those of a slot
pub wide : (version : VersionNumber) → sectors_by version ≡ 1 + 4 * slots_by version
wide version = refl

-- Free places

pub freed_few : (version : VersionNumber) → freed_sectors version ≤ sectors_by version
freed_few version = either (frees_whole version)
  where
    either : (whole : Bool) → (if whole then sectors_by version else 1) ≤ sectors_by version
    either true = omega arith
    either false = omega (arith, wide version)

-- freeing a place writes the sectors that are determined
freed_all : (w : ℕ) (whole : Bool) (k : ℕ) → k < w → IsTrue (is_determined whole k None) → k < (if whole then w else 1)
freed_all w true k small is = small
freed_all w false k small is = (let first = eqb-true k 0 is in omega (arith, first))

-- Which sectors

module _ (version : VersionNumber) (place : ℕ) where
  abbrev start : ℕ
  start = place_start version place

  abbrev w : ℕ
  w = sectors_by version

  pub edit_out : (edit : SeatEdit) (n : ℕ) → (n < place_start version place) ⊎ (place_start version place + sectors_by version ≤ n) → Out (targets (edit_updates version place edit)) n
  edit_out Stays n far = tt
  edit_out Frees n far = row_out start (freed_sectors version) (λ k. seat_sector k None) n
      (⊎_elim (λ (low : n < start). inl low) (λ (high : start + w ≤ n). inr (omega (arith, freed_few version, high))) far)
  edit_out (Takes seat) n far = row_out start w (λ k. seat_sector k (Some seat)) n far
  edit_out (Holds slot held) n far =
      by_slot (λ (us : List Update). Out (targets us) n) version place slot held
      (λ few. row_out (start + 1 + 4 * slot) 4 (λ part. part_of part (slot_text (Some held))) n
      (⊎_elim (λ (low : n < start). inl (omega arith)) (λ (high : start + w ≤ n). inr (omega (arith, wide version, few, high))) far))
      tt

  pub edit_fit : (size : ℕ) (edit : SeatEdit) → 98 ≤ seats_from version → place_start version place + sectors_by version ≤ size → Fit size (targets (edit_updates version place edit))
  edit_fit size Stays above below = tt
  edit_fit size Frees above below = row_fit size start (freed_sectors version) (λ k. seat_sector k None) (omega arith) (omega (arith, freed_few version, below))
  edit_fit size (Takes seat) above below = row_fit size start w (λ k. seat_sector k (Some seat)) (omega arith) below
  edit_fit size (Holds slot held) above below =
      by_slot (λ (us : List Update). Fit size (targets us)) version place slot held
      (λ few. row_fit size (start + 1 + 4 * slot) 4 (λ part. part_of part (slot_text (Some held))) (omega arith) (omega (arith, wide version, few, below)))
      tt

  -- at most those of the place, and one for a place that is freed in version 3
  pub edit_short : (edit : SeatEdit) → length (edit_updates version place edit) ≤ sectors_by version
  edit_short Stays = omega arith
  edit_short Frees = omega (arith, length-row start (freed_sectors version) (λ k. seat_sector k None), freed_few version)
  edit_short (Takes seat) = omega (arith, length-row start w (λ k. seat_sector k (Some seat)))
  edit_short (Holds slot held) =
      by_slot (λ (us : List Update). length us ≤ w) version place slot held
      (λ few. omega (arith, wide version, few, length-row (start + 1 + 4 * slot) 4 (λ part. part_of part (slot_text (Some held)))))
      (omega arith)

-- What they hold then

-- the sectors of a held reply's row are those of its slot
this_slot : (slot k : ℕ) → 1 ≤ k → (k - 1) / 4 ≡ slot → k ≡ 1 + 4 * slot + (k - 1) % 4
this_slot slot k some this = omega arith

other_slot : (slot k : ℕ) → 1 ≤ k → ((k - 1) / 4 ≡ slot → ⊥) → (k < 1 + 4 * slot) ⊎ (5 + 4 * slot ≤ k)
other_slot slot k some other = ⊎_elim
    (λ (low : (k - 1) / 4 < slot). inl (omega arith))
    (λ (high : slot ≤ (k - 1) / 4). let past : slot < (k - 1) / 4 = above ((k - 1) / 4) slot other high in inr (omega arith))
    (cases_lt ((k - 1) / 4) slot)
  where
    above : (q s : ℕ) → (q ≡ s → ⊥) → s ≤ q → s < q
    above q s ne le = omega arith

module _ (version : VersionNumber) (place slot : ℕ) (held : HeldReply) (seat : Seat) (image : Image) (k : ℕ) (has : slot < length seat.slots)
    (there : image (place_start version place + k) ≡ seat_sector k (Some seat)) where
  abbrev at : ℕ
  at = place_start version place

  -- a sector outside the row
  beside : (k < 1 + 4 * slot) ⊎ (5 + 4 * slot ≤ k) → (1 ≤ k → (k - 1) / 4 ≡ slot → ⊥)
      → applied (held_row version place slot held) image (at + k) ≡ seat_sector k (Some (with_held slot held seat))
  beside far other =
      applied_out (held_row version place slot held) image (at + k)
      (row_out (at + 1 + 4 * slot) 4 (λ part. part_of part (slot_text (Some held))) (at + k)
      (⊎_elim (λ (low : k < 1 + 4 * slot). inl (omega arith)) (λ (high : 5 + 4 * slot ≤ k). inr (omega arith)) far))
      ∙ there ∙ sym (kept_sector slot held (Some seat) k has other)

  -- one of it
  within : 1 ≤ k → (k - 1) / 4 ≡ slot
      → applied (held_row version place slot held) image (at + k) ≡ seat_sector k (Some (with_held slot held seat))
  within some this =
      let here : at + k ≡ at + 1 + 4 * slot + (k - 1) % 4 = omega (arith, this_slot slot k some this) in
      ap (applied (held_row version place slot held) image) here
      ∙ row_there (at + 1 + 4 * slot) 4 (λ part. part_of part (slot_text (Some held))) ((k - 1) % 4) image (omega arith)
      ∙ sym (held_sector slot held (Some seat) k has some this)

  held_edit : applied (held_row version place slot held) image (at + k) ≡ seat_sector k (Some (with_held slot held seat))
  held_edit = ⊎_elim
      (λ (none : k < 1). beside (inl (omega arith)) (λ some this. omega arith))
      (λ (some : 1 ≤ k). ⊎_elim
      (λ (this : (k - 1) / 4 ≡ slot). within some this)
      (λ (other : (k - 1) / 4 ≡ slot → ⊥). beside (other_slot slot k some other) (λ _ this. other this))
      (cases_eq ((k - 1) / 4) slot))
      (cases_lt k 1)

-- a sector of this place holds what it has to, if it is determined
abbrev pub HoldsAt : VersionNumber → (place k : ℕ) → Option Seat → Image → Type 0
HoldsAt version place k seat image = IsTrue (is_determined (frees_whole version) k seat) → image (place_start version place + k) ≡ seat_sector k seat

-- so does each of them after the edit
pub edit_there : (version : VersionNumber) (place : ℕ) (edit : SeatEdit) (old : Option Seat) (k : ℕ) (image : Image) → IsSeatPlace (slots_by version) old → CanEdit (slots_by version) edit old → k < sectors_by version
    → HoldsAt version place k old image → HoldsAt version place k (edited_seat edit old) (applied (edit_updates version place edit) image)
edit_there version place Stays old k image is can small there = there
edit_there version place Frees old k image is can small there = λ determined.
    row_there (place_start version place) (freed_sectors version) (λ i. seat_sector i None) k image (freed_all (sectors_by version) (frees_whole version) k small determined)
edit_there version place (Takes seat) old k image is can small there = λ determined.
    row_there (place_start version place) (sectors_by version) (λ i. seat_sector i (Some seat)) k image small
edit_there version place (Holds slot held) None k image is can small there = absurd can
edit_there version place (Holds slot held) (Some seat) k image is can small there = λ determined.
    ap (λ (us : List Update). applied us image (place_start version place + k)) (slot_row version place slot held (few slot (length seat.slots) can is.few))
    ∙ held_edit version place slot held seat image k can (there refl)
  where
    few : (s n : ℕ) → s < n → n ≤ slots_by version → s < slots_by version
    few s n a b = omega arith

-- Bits of bytes, and the places that they encode.
use Rattle.std.proofs.Common.{◌≡◌, ◌<◌, ◌≤◌, ◌+◌, ◌-◌, ◌*◌, ◌/◌, ◌%◌, ◌^◌, ℕ, zero, suc, Bool, true, false, not, cond, List, length, get_or, set, take, drop, ltb, refl, sym, ap, ◌∙◌, arith, zero-add, inl, inr, replicate, Some, All}
use Rattle.std.proofs.lemmas.List.{get_or_past, get_or-replicate, get_or-take, get_or-drop, length-replicate, ext_get_or}
use Rattle.std.proofs.lemmas.List.FromFn.{length-map-range_with_len, get_or-map-range_with_len, sum_by-map-range_with_len_more}
use Rattle.std.proofs.lemmas.Nat.Bits.{bit_at-lt, bit_at-zero}
use Rattle.std.proofs.lemmas.List.Elements.{All-from_get_or}
use Rattle.std.proofs.lemmas.Option.{get_or_from_slice_get}
use Rattle.std.specs.Prelude.{slice_get}
use Rattle.std.proofs.lemmas.Bool.{cases_lt, lt-ltb, le-ltb}
use Rattle.freemap.specs.Places.{bit_from, bit_of, bit_in, is_one, mark_of, places_in, ShowsPlaces, Show}
use Rattle.freemap.specs.Kept.{free_places, IsClearFrom, IsSetBelow}

-- a number below 2 is the bit of the place that it is read as
pub bit_from-is_one : (bit : ℕ) → bit < 2 → bit_from (is_one bit) ≡ bit
bit_from-is_one zero h = refl
bit_from-is_one (suc n) h = omega arith

pub bit_of-lt : (bytes : List ℕ) (i : ℕ) → bit_of bytes i < 2
bit_of-lt bytes i = bit_at-lt (get_or bytes (i / 8) 0) (7 - i % 8)

pub length-places_in : (bytes : List ℕ) (count : ℕ) → length (places_in bytes count) ≡ count
unfolding places_in
length-places_in bytes count = length-map-range_with_len (λ i. is_one (bit_of bytes i)) 0 count

pub places_in-at : (bytes : List ℕ) (count i : ℕ) (d : Bool) → i < count → get_or (places_in bytes count) i d ≡ is_one (bit_of bytes i)
unfolding places_in
places_in-at bytes count i d h = get_or-map-range_with_len (λ i. is_one (bit_of bytes i)) 0 count i i d h (zero-add i)

-- if no bit past the places is set, the bits are the marks
pub mark-bit : (bytes : List ℕ) (count : ℕ) → IsClearFrom bytes count → (i : ℕ) → bit_of bytes i ≡ mark_of (places_in bytes count) i
mark-bit bytes count past i = elim (cases_lt i count) [
  | inl lt ↦ sym (bit_from-is_one (bit_of bytes i) (bit_of-lt bytes i)) ∙ ap bit_from (sym (places_in-at bytes count i false lt))
  | inr le ↦
      let outside : length (places_in bytes count) ≤ i = omega (arith, length-places_in bytes count) in
      past i le ∙ sym (ap bit_from (get_or_past (places_in bytes count) i false outside))
]

-- a part of the bytes encodes the places from its first one on
pub bit_of-part : (bytes part : List ℕ) (first i : ℕ) → ((k : ℕ) → k < 4096 → get_or part k 0 ≡ get_or bytes (first + k) 0) → i < 32768 → bit_of part i ≡ bit_of bytes (8 * first + i)
bit_of-part bytes part first i same h =
    let row : (8 * first + i) / 8 ≡ first + i / 8 = omega arith in
    let column : (8 * first + i) % 8 ≡ i % 8 = omega arith in
    rw (row, column) (ap (λ (byte : ℕ). byte / 2 ^ (7 - i % 8) % 2) (same (i / 8) (omega arith)))

-- bits of the two sectors

pub low_bit : (low high : List ℕ) (i : ℕ) → i < 32768 → bit_of low i ≡ bit_in low high i
low_bit low high i h = let test : ltb i 32768 ≡ true = lt-ltb i 32768 h in rw test refl

pub high_bit : (low high : List ℕ) (i : ℕ) → bit_of high i ≡ bit_in low high (32768 + i)
high_bit low high i =
    let test : ltb (32768 + i) 32768 ≡ false = le-ltb (32768 + i) 32768 (omega arith) in
    let place : 32768 + i - 32768 ≡ i = omega arith in
    rw (test, place) refl

pub bit_in-shown : (low high : List ℕ) (count : ℕ) (places : List Bool) → Show low high count places → (i : ℕ) → i < 65536 → bit_in low high i ≡ mark_of places i
bit_in-shown low high count places shown i h =
    elim (cases_lt i 32768) [
      | inl lt ↦ sym (low_bit low high i lt) ∙ shown.low_shows.bits i lt ∙ ap (mark_of places) (zero-add i)
      | inr le ↦
          let place : i ≡ 32768 + (i - 32768) = omega arith in
          let within : i - 32768 < 32768 = omega arith in
          rw place (sym (high_bit low high (i - 32768)) ∙ shown.high_shows.bits (i - 32768) within)
    ]

-- a sector that is a part of the bytes encodes the places of that part
pub Shows-part : (bytes part : List ℕ) (count first : ℕ) → IsClearFrom bytes count → length part ≡ 4096 → ((k : ℕ) → k < 4096 → get_or part k 0 ≡ get_or bytes (first + k) 0) → ShowsPlaces part (places_in bytes count) (8 * first)
Shows-part bytes part count first past len same = record {
  len = len;
  bits = λ i h. bit_of-part bytes part first i same h ∙ mark-bit bytes count past (8 * first + i);
}

-- counting places one more at a time

pub free_places-none : (bytes : List ℕ) → 0 ≡ free_places (places_in bytes 0)
unfolding places_in
free_places-none bytes = refl

-- a place as it counts among the free ones
abbrev pub free_from : Bool → ℕ
free_from used = cond (not used) 1 0

free_places-more : (bytes : List ℕ) (n : ℕ) → free_places (places_in bytes (n + 1)) ≡ free_places (places_in bytes n) + free_from (is_one (bit_of bytes n))
unfolding places_in
free_places-more bytes n = sum_by-map-range_with_len_more free_from (λ i. is_one (bit_of bytes i)) 0 n n (zero-add n)

pub read_from : (used : Bool) → used ≡ is_one (bit_from used)
read_from true = refl
read_from false = refl

module _ (bytes : List ℕ) (n free : ℕ) (used : Bool) (read : bit_from used ≡ bit_of bytes n) (counted : free ≡ free_places (places_in bytes n)) where
  place_is : is_one (bit_of bytes n) ≡ used
  place_is = sym (read_from used ∙ ap is_one read)

  pub count-free : used ≡ false → free + 1 ≡ free_places (places_in bytes (n + 1))
  count-free is =
      let added : free_from (is_one (bit_of bytes n)) ≡ 1 = ap free_from (place_is ∙ is) in
      omega (arith, free_places-more bytes n, counted, added)

  pub count-used : used ≡ true → free ≡ free_places (places_in bytes (n + 1))
  count-used is =
      let added : free_from (is_one (bit_of bytes n)) ≡ 0 = ap free_from (place_is ∙ is) in
      omega (arith, free_places-more bytes n, counted, added)

-- what a place says about its bit

one_of : (bit : ℕ) → bit < 2 → is_one bit ≡ true → bit ≡ 1
one_of zero h e = absurd cc
one_of (suc n) h e = omega arith

none_of : (bit : ℕ) → is_one bit ≡ false → bit ≡ 0
none_of zero e = omega arith
none_of (suc n) e = absurd cc

pub place_used : (bytes : List ℕ) (count place : ℕ) → get_or (places_in bytes count) place false ≡ true → (place < count) × (bit_of bytes place ≡ 1)
place_used bytes count place used = elim (cases_lt place count) [
  | inl lt ↦ (lt, one_of (bit_of bytes place) (bit_of-lt bytes place) (sym (places_in-at bytes count place false lt) ∙ used))
  | inr le ↦
      let none : get_or (places_in bytes count) place false ≡ false = get_or_past (places_in bytes count) place false (omega (arith, length-places_in bytes count)) in
      absurd cc
]

pub place_free : (bytes : List ℕ) (count place : ℕ) → slice_get (places_in bytes count) place ≡ Some false → (place < count) × (bit_of bytes place ≡ 0)
place_free bytes count place is =
    let free : get_or (places_in bytes count) place true ≡ false = get_or_from_slice_get (places_in bytes count) place false true is in
    elim (cases_lt place count) [
      | inl lt ↦ (lt, none_of (bit_of bytes place) (sym (places_in-at bytes count place true lt) ∙ free))
      | inr le ↦
          let none : get_or (places_in bytes count) place true ≡ true = get_or_past (places_in bytes count) place true (omega (arith, length-places_in bytes count)) in
          absurd cc
    ]

-- bytes that are zero

zeros-at : (n k : ℕ) → get_or (replicate {A = ℕ} n 0) k 0 ≡ 0
zeros-at n k = elim (cases_lt k n) [
  | inl lt ↦ get_or-replicate n k 0 0 lt
  | inr le ↦ get_or_past (replicate n 0) k 0 (omega (arith, length-replicate {A = ℕ} n 0))
]

pub zeros-clear : (bytes : List ℕ) (n i : ℕ) → bytes ≡ replicate n 0 → bit_of bytes i ≡ 0
zeros-clear bytes n i is = rw (is, zeros-at n (i / 8)) (bit_at-zero (7 - i % 8))

pub places_in-zeros : (bytes : List ℕ) (n count : ℕ) → bytes ≡ replicate n 0 → places_in bytes count ≡ replicate count false
places_in-zeros bytes n count is =
    ext_get_or false (places_in bytes count) (replicate count false) (length-places_in bytes count ∙ sym (length-replicate count false)) (λ i h.
    let inside : i < count = omega (arith, length-places_in bytes count) in
    places_in-at bytes count i false inside ∙ ap is_one (zeros-clear bytes n i is) ∙ sym (get_or-replicate count i false false inside))

-- if each bit is set, each place is used
pub all_used : (bytes : List ℕ) (count : ℕ) → IsSetBelow bytes count → All (λ used. used ≡ true) (places_in bytes count)
all_used bytes count set = All-from_get_or (λ used. used ≡ true) (places_in bytes count) false (λ i h.
    let inside : i < count = omega (arith, length-places_in bytes count) in
    places_in-at bytes count i false inside ∙ ap is_one (set i inside))

-- a part of the bytes that is copied

pub part-there : (bytes : List ℕ) (first end k : ℕ) → k < end - first → get_or (take (end - first) (drop first bytes)) k 0 ≡ get_or bytes (first + k) 0
part-there bytes first end k h = get_or-take (end - first) (drop first bytes) k 0 h ∙ get_or-drop first bytes k 0

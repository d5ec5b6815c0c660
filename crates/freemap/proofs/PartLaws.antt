-- What two sets have in common in a bitmap sector.
use Rattle.std.proofs.Common.{◌≡◌, ◌<◌, ◌≤◌, ◌+◌, ◌-◌, ◌*◌, ◌/◌, ◌%◌, ◌^◌, ℕ, Bool, List, length, get_or, map, take, drop, sym, ap, ◌∙◌, arith, zero-add}
use Rattle.std.specs.List.{range_with_len}
use Rattle.std.proofs.lemmas.List.FromFn.{length-map-range_with_len, get_or-map-range_with_len}
use Rattle.std.proofs.lemmas.List.{length-drop, length-take}
use Rattle.freemap.specs.Places.{bit_of, mark_of, places_in, ShowsPlaces, HaveSamePart}
use Rattle.freemap.specs.Kept.{IsBitmap, HaveSameBits, parts}
use Rattle.freemap.proofs.Bits.{Shows-part, part-there, length-places_in}

-- if one sector encodes a set, and another one with the same bits another set, each that encodes
-- the one encodes the other
also_shown : (low high sector : List ℕ) (a b : List Bool) (first : ℕ) → HaveSameBits low high → ShowsPlaces low a first → ShowsPlaces high b first → ShowsPlaces sector a first → ShowsPlaces sector b first
also_shown low high sector a b first same one other shown = record { len = shown.len; bits = λ i h. shown.bits i h ∙ sym (one.bits i h) ∙ same i h ∙ other.bits i h }

abbrev pub part_of : List ℕ → (start end : ℕ) → List ℕ
part_of bytes start end = take (end - start) (drop start bytes)

module _ (bytes : List ℕ) (count lowest : ℕ) (kept : IsBitmap bytes count lowest) (start end : ℕ) (whole : end ≡ start + 4096) (within : end ≤ length bytes) where
  pub part-len : length (part_of bytes start end) ≡ 4096
  part-len = omega (arith, length-take (end - start) (drop start bytes), length-drop start bytes)

  pub part-shown : ShowsPlaces (part_of bytes start end) (places_in bytes count) (8 * start)
  part-shown = Shows-part bytes (part_of bytes start end) count start kept.past part-len (λ k h. part-there bytes start end k (omega arith))

-- a part of the places that are encoded lies within the bytes
pub part-within : (bytes : List ℕ) (count lowest part : ℕ) (places : List Bool) → IsBitmap bytes count lowest → places_in bytes count ≡ places → part < parts (length places) → 4096 * part + 4096 ≤ length bytes
part-within bytes count lowest part places kept shown h =
    let count_is : length places ≡ count = sym (ap length shown) ∙ length-places_in bytes count in
    let within : part < parts count = rw count_is at h in
    omega (arith, within, kept.len)

-- the first bytes of a list, zeros past its end: a sector with its bits
sector_of : List ℕ → List ℕ
sector_of bytes = map (λ k. get_or bytes k 0) (range_with_len 0 4096)

sector_len : (bytes : List ℕ) → length (sector_of bytes) ≡ 4096
unfolding sector_of
sector_len bytes = length-map-range_with_len (λ k. get_or bytes k 0) 0 4096

sector_bits : (bytes : List ℕ) (i : ℕ) → i < 32768 → bit_of (sector_of bytes) i ≡ bit_of bytes i
unfolding sector_of
sector_bits bytes i h = ap (λ (byte : ℕ). byte / 2 ^ (7 - i % 8) % 2) (get_or-map-range_with_len (λ k. get_or bytes k 0) 0 4096 (i / 8) (i / 8) 0 (omega arith) (zero-add (i / 8)))

-- for a list of bytes of any length: if its bits are those of the one set, they are those of the
-- other
pub also_marked : (bytes : List ℕ) (a b : List Bool) (first : ℕ) → HaveSamePart a b first → ((i : ℕ) → i < 32768 → bit_of bytes i ≡ mark_of b (first + i))
    → (i : ℕ) → i < 32768 → bit_of bytes i ≡ mark_of a (first + i)
also_marked bytes a b first alike marked i h =
    let both = alike (sector_of bytes) in
    let shown = both.1 (record { len = sector_len bytes; bits = λ k l. sector_bits bytes k l ∙ marked k l }) in
    sym (sector_bits bytes i h) ∙ shown.bits i h

module _ (low high : List ℕ) (a b : List Bool) (first : ℕ) (one : ShowsPlaces low a first) (other : ShowsPlaces high b first) where
  -- sectors with the same bits encode the same
  pub same_shown : HaveSameBits low high → HaveSamePart a b first
  same_shown same sector = (also_shown low high sector a b first same one other, also_shown high low sector b a first (λ i h. sym (same i h)) other one)

  -- and those that encode the same have the same bits
  pub shown_same : HaveSamePart a b first → HaveSameBits low high
  shown_same alike i h = let both = alike low in let too = both.0 one in too.bits i h ∙ sym (other.bits i h)

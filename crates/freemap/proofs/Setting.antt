-- Bits that are set and cleared, and bytes and words that are full.
use Rattle.std.proofs.Common.{◌≡◌, ◌≢◌, ◌<◌, ◌+◌, ◌-◌, ◌*◌, ◌/◌, ◌%◌, ◌^◌, ℕ, zero, suc, List, length, get_or, set, sym, ap, ap₂, ◌∙◌, arith, inl, inr}
use Rattle.std.specs.Int.{w8, bit_at}
use Rattle.std.specs.Prelude.{bit_and, bit_or}
use Rattle.std.proofs.lemmas.List.{get_or-set_same, get_or-set_other}
use Rattle.std.proofs.lemmas.Nat.Bits.{bit_at_set_same, bit_at_set_other, bit_at_clear_same, bit_at_clear_other, bit_at_ones}
use Rattle.std.proofs.lemmas.Bool.{cases_lt, cases_eq}
use Rattle.byteorder.specs.Endian.{big_number}
use Rattle.freemap.specs.Places.{bit_of}
use Rattle.freemap.specs.Kept.{BitBecomes, IsSetBelow}

module _ (bytes : List ℕ) (place byte bit : ℕ) (within : place / 8 < length bytes) (here : bit_at byte (7 - place % 8) ≡ bit) (others : (k : ℕ) → k < 8 → k ≢ 7 - place % 8 → bit_at byte k ≡ bit_at (get_or bytes (place / 8) 0) k) where
  other : (i : ℕ) → i ≢ place → bit_of (set bytes (place / 8) byte) i ≡ bit_of bytes i
  other i apart = elim (cases_eq (i / 8) (place / 8)) [
    | inl row ↦
        let column : 7 - i % 8 ≢ 7 - place % 8 = omega arith in
        let small : 7 - i % 8 < 8 = omega arith in
        rw (row, get_or-set_same bytes (place / 8) byte 0 within) (others (7 - i % 8) small column)
    | inr row ↦ ap (λ (b : ℕ). bit_at b (7 - i % 8)) (get_or-set_other bytes (place / 8) (i / 8) byte 0 row)
  ]

  becomes : BitBecomes bytes (set bytes (place / 8) byte) place bit
  becomes = record { here = rw (get_or-set_same bytes (place / 8) byte 0 within) here; others = other }

pub set-becomes : (bytes : List ℕ) (place : ℕ) → place / 8 < length bytes
    → BitBecomes bytes (set bytes (place / 8) (bit_or (get_or bytes (place / 8) 0) (1 * 2 ^ (7 - place % 8) % 256))) place 1
set-becomes bytes place within =
    let old = get_or bytes (place / 8) 0 in
    let column : 7 - place % 8 < 8 = omega arith in
    becomes bytes place (bit_or old (1 * 2 ^ (7 - place % 8) % 256)) 1 within (bit_at_set_same w8 old (7 - place % 8) column) (λ k h apart. bit_at_set_other w8 old (7 - place % 8) column k apart)

pub clear-becomes : (bytes : List ℕ) (place : ℕ) → place / 8 < length bytes
    → BitBecomes bytes (set bytes (place / 8) (bit_and (get_or bytes (place / 8) 0) (255 - 1 * 2 ^ (7 - place % 8) % 256))) place 0
clear-becomes bytes place within =
    let old = get_or bytes (place / 8) 0 in
    let column : 7 - place % 8 < 8 = omega arith in
    becomes bytes place (bit_and old (255 - 1 * 2 ^ (7 - place % 8) % 256)) 0 within (bit_at_clear_same w8 old (7 - place % 8) column) (λ k h apart. bit_at_clear_other w8 old (7 - place % 8) column k h apart)

-- a full byte has each bit set
full_byte : (bytes : List ℕ) (i : ℕ) → get_or bytes (i / 8) 0 ≡ 255 → bit_of bytes i ≡ 1
full_byte bytes i full = rw full (bit_at_ones 8 (7 - i % 8) (omega arith))

pub byte_more : (bytes : List ℕ) (byte : ℕ) → IsSetBelow bytes (8 * byte) → get_or bytes byte 0 ≡ 255 → IsSetBelow bytes (8 * (byte + 1))
byte_more bytes byte below full i h = elim (cases_lt i (8 * byte)) [
  | inl lt ↦ below i lt
  | inr le ↦ let row : i / 8 ≡ byte = omega arith in full_byte bytes i (rw row full)
]

module _ (bytes word_bytes : List ℕ) (word : ℕ) (there : (k : ℕ) → k < 8 → get_or word_bytes k 0 ≡ get_or bytes (8 * word + k) 0) where
  pub word_more : IsSetBelow bytes (64 * word) → IsSetBelow word_bytes 64 → IsSetBelow bytes (64 * (word + 1))
  word_more below full i h = elim (cases_lt i (64 * word)) [
    | inl lt ↦ below i lt
    | inr le ↦
        let row : i / 8 ≡ 8 * word + (i - 64 * word) / 8 = omega arith in
        let column : i % 8 ≡ (i - 64 * word) % 8 = omega arith in
        let same : get_or bytes (i / 8) 0 ≡ get_or word_bytes ((i - 64 * word) / 8) 0 = ap (λ k. get_or bytes k 0) row ∙ sym (there ((i - 64 * word) / 8) (omega arith)) in
        ap₂ (λ (b c : ℕ). b / 2 ^ (7 - c) % 2) same column ∙ full (i - 64 * word) (omega arith)
  ]

-- a word that is all ones has full bytes
full_bytes : (bytes : List ℕ) → ((i : ℕ) → get_or bytes i 0 < 256) → big_number 8 bytes ≡ 18446744073709551615 → (k : ℕ) → k < 8 → get_or bytes k 0 ≡ 255
full_bytes bytes fit full zero h = omega (arith, fit 0, fit 1, fit 2, fit 3, fit 4, fit 5, fit 6, fit 7)
full_bytes bytes fit full (suc zero) h = omega (arith, fit 0, fit 1, fit 2, fit 3, fit 4, fit 5, fit 6, fit 7)
full_bytes bytes fit full (suc (suc zero)) h = omega (arith, fit 0, fit 1, fit 2, fit 3, fit 4, fit 5, fit 6, fit 7)
full_bytes bytes fit full (suc (suc (suc zero))) h = omega (arith, fit 0, fit 1, fit 2, fit 3, fit 4, fit 5, fit 6, fit 7)
full_bytes bytes fit full (suc (suc (suc (suc zero)))) h = omega (arith, fit 0, fit 1, fit 2, fit 3, fit 4, fit 5, fit 6, fit 7)
full_bytes bytes fit full (suc (suc (suc (suc (suc zero))))) h = omega (arith, fit 0, fit 1, fit 2, fit 3, fit 4, fit 5, fit 6, fit 7)
full_bytes bytes fit full (suc (suc (suc (suc (suc (suc zero)))))) h = omega (arith, fit 0, fit 1, fit 2, fit 3, fit 4, fit 5, fit 6, fit 7)
full_bytes bytes fit full (suc (suc (suc (suc (suc (suc (suc zero))))))) h = omega (arith, fit 0, fit 1, fit 2, fit 3, fit 4, fit 5, fit 6, fit 7)
full_bytes bytes fit full (suc (suc (suc (suc (suc (suc (suc (suc k)))))))) h = absurd (omega arith)

pub full_word : (bytes : List ℕ) → ((i : ℕ) → get_or bytes i 0 < 256) → big_number 8 bytes ≡ 18446744073709551615 → IsSetBelow bytes 64
full_word bytes fit full i h = full_byte bytes i (full_bytes bytes fit full (i / 8) (omega arith))

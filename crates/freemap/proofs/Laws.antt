-- Two sectors encode one set, and a set has one encoding.
use Rattle.std.proofs.Common.{◌≡◌, ◌<◌, ◌+◌, ◌-◌, ◌*◌, ◌/◌, ◌%◌, ◌^◌, ℕ, zero, suc, Bool, true, false, List, length, get_or, refl, sym, ap, ◌∙◌, arith}
use Rattle.std.proofs.Math.Nat.{pow-suc, div-one}
use Rattle.std.proofs.lemmas.Nat.{shr-shr}
use Rattle.std.proofs.lemmas.List.{ext_get_or}
use Rattle.freemap.specs.Places.{bit_from, bit_of, IsBytes, OneSet, OneEncoding}
use Rattle.freemap.specs.Kept.{HaveSameBits}
use Rattle.freemap.proofs.Bits.{bit_in-shown}

same_place : (x y : Bool) → bit_from x ≡ bit_from y → x ≡ y
same_place true true e = refl
same_place true false e = absurd cc
same_place false true e = absurd cc
same_place false false e = refl

pub one_set : OneSet
one_set low high count a b fits shown other =
    ext_get_or false a b (shown.count_is ∙ sym other.count_is) (λ i h.
    let within : i < 65536 = omega (arith, shown.count_is) in
    same_place (get_or a i false) (get_or b i false) (sym (bit_in-shown low high count a shown i within) ∙ bit_in-shown low high count b other i within))

-- numbers with the same bits are one
same_bits : (n x y : ℕ) → x < 2 ^ n → y < 2 ^ n → ((i : ℕ) → i < n → x / 2 ^ i % 2 ≡ y / 2 ^ i % 2) → x ≡ y
same_bits zero x y small other same = omega arith
same_bits (suc n) x y small other same =
    let power : 2 ^ suc n ≡ 2 ^ n * 2 = pow-suc 2 n in
    let low : x % 2 ≡ y % 2 = ap (λ (k : ℕ). k % 2) (sym (div-one x)) ∙ same 0 (omega arith) ∙ ap (λ (k : ℕ). k % 2) (div-one y) in
    let high : x / 2 ≡ y / 2 = same_bits n (x / 2) (y / 2) (omega arith) (omega arith) (λ i h. ap (λ (k : ℕ). k % 2) (shr-shr x 1 i) ∙ same (1 + i) (omega arith) ∙ ap (λ (k : ℕ). k % 2) (sym (shr-shr y 1 i))) in
    omega arith

-- sectors with the same bits are one
pub same_bytes : (a b : List ℕ) → length a ≡ 4096 → length b ≡ 4096 → IsBytes a → IsBytes b → HaveSameBits a b → a ≡ b
same_bytes a b len other_len fits other same =
    ext_get_or 0 a b (len ∙ sym other_len) (λ k h. same_bits 8 (get_or a k 0) (get_or b k 0) (fits k) (other k) (λ i small.
    let within : 8 * k + (7 - i) < 32768 = omega arith in
    let row : (8 * k + (7 - i)) / 8 ≡ k = omega arith in
    let column : 7 - (8 * k + (7 - i)) % 8 ≡ i = omega arith in
    let both : bit_of a (8 * k + (7 - i)) ≡ bit_of b (8 * k + (7 - i)) = same (8 * k + (7 - i)) within in
    rw (row, column) at both))

pub one_encoding : OneEncoding
one_encoding places first a b fits other shown again =
    same_bytes a b shown.len again.len fits other (λ i h. shown.bits i h ∙ sym (again.bits i h))

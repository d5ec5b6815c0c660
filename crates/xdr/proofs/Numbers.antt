-- A number that is read is the number that was written, and what was written is read back.
use Rattle.std.proofs.Common.{◌≡◌, ℕ, ◌^◌, ◌<◌, ◌≤◌, false, ltb, List, ◌++◌, length, take, drop, Ok, refl, sym, ap, arith}
use Rattle.std.specs.Int.{Width, w32, w64, byte_len, from_be_bytes, to_be_bytes}
use Rattle.std.proofs.lemmas.Bool.{ltb-false, le-ltb}
use Rattle.std.proofs.lemmas.List.{take_at, drop_at, take-append-drop, length-append, length-take}
use Rattle.std.proofs.lemmas.Nat.{be_bytes_4, be_bytes_8, from_be_bytes-to_be_bytes_4, from_be_bytes-to_be_bytes_8}
use Rattle.xdr.specs.declared.refusal.Refusal.TheVariants.{Short}
use Rattle.xdr.specs.Grammar.{number, number_at, unsigned_int, unsigned_hyper}
use Rattle.xdr.specs.Laws.{IsBytes, Exact}
use Rattle.xdr.proofs.Steps.{guard_ok, ok_is, IsBytes-take}

pub record IsWide (w : Width) (limit : ℕ) : Type 0 where
  pub len : (n : ℕ) → length (to_be_bytes w n) ≡ byte_len w
  pub back : (bytes : List ℕ) → length bytes ≡ byte_len w → IsBytes bytes → to_be_bytes w (from_be_bytes w bytes) ≡ bytes
  pub again : (n : ℕ) → n < limit → from_be_bytes w (to_be_bytes w n) ≡ n
  pub below : (bytes : List ℕ) → IsBytes bytes → from_be_bytes w bytes < limit

pub wide32 : IsWide w32 (2 ^ 32)
wide32 = record {
  len = λ n. refl;
  back = λ bytes len fits. be_bytes_4 bytes _ len fits refl;
  again = λ n lt. from_be_bytes-to_be_bytes_4 n lt;
  below = λ bytes fits. omega (arith, fits 0, fits 1, fits 2, fits 3);
}

pub wide64 : IsWide w64 (2 ^ 64)
wide64 = record {
  len = λ n. refl;
  back = λ bytes len fits. be_bytes_8 bytes _ len fits refl;
  again = λ n lt. from_be_bytes-to_be_bytes_8 n lt;
  below = λ bytes fits. omega (arith, fits 0, fits 1, fits 2, fits 3, fits 4, fits 5, fits 6, fits 7);
}

pub number_takes : (w : Width) (limit : ℕ) (wide : IsWide w limit) (bytes : List ℕ) (n : ℕ) (rest : List ℕ) → IsBytes bytes → number_at w bytes ≡ Ok (n, rest) → (n < limit) × (bytes ≡ number w n ++ rest)
unfolding number number_at
number_takes w limit wide bytes n rest fits e =
    let whole : ℕ × List ℕ = (from_be_bytes w (take (byte_len w) bytes), drop (byte_len w) bytes) in
    let g = guard_ok (ltb (length bytes) (byte_len w)) Short (Ok whole) (n, rest) e in
    let long : byte_len w ≤ length bytes = ltb-false _ _ g.0 in
    let same : whole ≡ (n, rest) = ok_is whole (n, rest) g.1 in
    let n-is : from_be_bytes w (take (byte_len w) bytes) ≡ n = ap (λ (p : ℕ × List ℕ). p.0) same in
    let rest-is : drop (byte_len w) bytes ≡ rest = ap (λ (p : ℕ × List ℕ). p.1) same in
    let prefix : to_be_bytes w n ≡ take (byte_len w) bytes = rw (← n-is) (wide.back (take (byte_len w) bytes) (omega (arith, length-take (byte_len w) bytes)) (IsBytes-take (byte_len w) bytes fits)) in
    (rw (← n-is) (wide.below (take (byte_len w) bytes) (IsBytes-take (byte_len w) bytes fits)), rw (prefix, ← rest-is) (sym (take-append-drop (byte_len w) bytes)))

pub number_again : (w : Width) (limit : ℕ) (wide : IsWide w limit) (n : ℕ) (rest : List ℕ) → n < limit → number_at w (number w n ++ rest) ≡ Ok (n, rest)
unfolding number number_at
number_again w limit wide n rest lt =
    let len = wide.len n in
    let long : ltb (length (to_be_bytes w n ++ rest)) (byte_len w) ≡ false = le-ltb _ _ (omega (arith, length-append (to_be_bytes w n) rest)) in
    rw (long, take_at (to_be_bytes w n) rest (byte_len w) len, drop_at (to_be_bytes w n) rest (byte_len w) len, wide.again n lt) refl

pub int_takes : (bytes : List ℕ) (n : ℕ) (rest : List ℕ) → IsBytes bytes → number_at w32 bytes ≡ Ok (n, rest) → (n < 2 ^ 32) × (bytes ≡ number w32 n ++ rest)
int_takes bytes n rest fits e = number_takes w32 (2 ^ 32) wide32 bytes n rest fits e

pub int_again : (n : ℕ) (rest : List ℕ) → n < 2 ^ 32 → number_at w32 (number w32 n ++ rest) ≡ Ok (n, rest)
int_again n rest lt = number_again w32 (2 ^ 32) wide32 n rest lt

pub int_exact : Exact unsigned_int
int_exact = record { takes = int_takes; again = int_again }

pub hyper_exact : Exact unsigned_hyper
hyper_exact = record {
  takes = λ bytes n rest fits e. number_takes w64 (2 ^ 64) wide64 bytes n rest fits e;
  again = λ n rest lt. number_again w64 (2 ^ 64) wide64 n rest lt;
}

pub length-number_32 : (n : ℕ) → length (number w32 n) ≡ 4
unfolding number
length-number_32 n = refl

pub length-number_64 : (n : ℕ) → length (number w64 n) ≡ 8
unfolding number
length-number_64 n = refl

-- What the readers of numbers and of opaque data find.
use Rattle.std.proofs.Common.{◌≡◌, ℕ, ◌+◌, ◌-◌, ◌<◌, ◌≤◌, true, false, ltb, List, length, take, drop, Ok, Err, refl, sym, ap, ◌∙◌, arith}
use Rattle.std.specs.Int.{w32, w64, from_be_bytes}
use Rattle.std.proofs.lemmas.Bool.{lt-ltb, le-ltb}
use Rattle.std.proofs.lemmas.List.{length-drop, drop-drop}
use Rattle.byteorder.specs.Endian.{big_number}
use Rattle.xdr.specs.declared.refusal.Refusal.TheVariants.{Short, Value}
use Rattle.xdr.specs.Grammar.{number_at}
use Rattle.xdr.specs.Forms.{padding, are_zeros, padded_at}
use Rattle.xdr.proofs.Opaques.{padded_takes}

pub short_int : (bytes : List ℕ) → length bytes < 4 → number_at w32 bytes ≡ Err Short
unfolding number_at
short_int bytes lt = rw (lt-ltb (length bytes) 4 lt) refl

pub short_hyper : (bytes : List ℕ) → length bytes < 8 → number_at w64 bytes ≡ Err Short
unfolding number_at
short_hyper bytes lt = rw (lt-ltb (length bytes) 8 lt) refl

pub found_int : (bytes rest : List ℕ) (n : ℕ) → 4 ≤ length bytes → n ≡ big_number 4 (take 4 bytes) → rest ≡ drop 4 bytes → number_at w32 bytes ≡ Ok (n, rest)
unfolding number_at
found_int bytes rest n le is_n is_rest =
    let value : from_be_bytes w32 (take 4 bytes) ≡ n = sym (is_n ∙ (let e : big_number 4 (take 4 bytes) ≡ from_be_bytes w32 (take 4 bytes) = omega arith in e)) in
    rw (le-ltb (length bytes) 4 le, value, ← is_rest) refl

pub found_hyper : (bytes rest : List ℕ) (n : ℕ) → 8 ≤ length bytes → n ≡ big_number 8 (take 8 bytes) → rest ≡ drop 8 bytes → number_at w64 bytes ≡ Ok (n, rest)
unfolding number_at
found_hyper bytes rest n le is_n is_rest =
    let value : from_be_bytes w64 (take 8 bytes) ≡ n = sym (is_n ∙ (let e : big_number 8 (take 8 bytes) ≡ from_be_bytes w64 (take 8 bytes) = omega arith in e)) in
    rw (le-ltb (length bytes) 8 le, value, ← is_rest) refl

pub short_bytes : (n : ℕ) (bytes : List ℕ) → length bytes < n → padded_at n bytes ≡ Err Short
unfolding padded_at
short_bytes n bytes lt = rw (lt-ltb (length bytes) (n + padding n) (omega arith)) refl

pub short_pad : (n pad : ℕ) (bytes behind : List ℕ) → n ≤ length bytes → behind ≡ drop n bytes → pad ≡ padding n → length behind < pad → padded_at n bytes ≡ Err Short
unfolding padded_at
short_pad n pad bytes behind le is_behind is_pad lt =
    let len : length behind ≡ length bytes - n = ap length is_behind ∙ length-drop n bytes in
    rw (lt-ltb (length bytes) (n + padding n) (omega arith)) refl

long_enough : (n pad : ℕ) (bytes behind : List ℕ) → n ≤ length bytes → behind ≡ drop n bytes → pad ≡ padding n → pad ≤ length behind → ltb (length bytes) (n + padding n) ≡ false
long_enough n pad bytes behind le is_behind is_pad long =
    let len : length behind ≡ length bytes - n = ap length is_behind ∙ length-drop n bytes in
    le-ltb (length bytes) (n + padding n) (omega arith)

pub other_pad : (n pad : ℕ) (bytes behind zeros : List ℕ) → n ≤ length bytes → behind ≡ drop n bytes → pad ≡ padding n → pad ≤ length behind → zeros ≡ take pad behind
    → are_zeros zeros ≡ false → padded_at n bytes ≡ Err Value
unfolding padded_at
other_pad n pad bytes behind zeros le is_behind is_pad long is_zeros other =
    let same : take (padding n) (drop n bytes) ≡ zeros = ap (λ (k : ℕ). take k (drop n bytes)) (sym is_pad) ∙ ap (take pad) (sym is_behind) ∙ sym is_zeros in
    rw (long_enough n pad bytes behind le is_behind is_pad long, same, other) refl

pub found_padded : (n pad : ℕ) (bytes text behind zeros rest : List ℕ) → n ≤ length bytes → text ≡ take n bytes → behind ≡ drop n bytes → pad ≡ padding n → pad ≤ length behind → zeros ≡ take pad behind → rest ≡ drop pad behind
    → are_zeros zeros ≡ true → padded_at n bytes ≡ Ok (text, rest)
unfolding padded_at
found_padded n pad bytes text behind zeros rest le is_text is_behind is_pad long is_zeros is_rest pass =
    let same : take (padding n) (drop n bytes) ≡ zeros = ap (λ (k : ℕ). take k (drop n bytes)) (sym is_pad) ∙ ap (take pad) (sym is_behind) ∙ sym is_zeros in
    let after : drop (n + padding n) bytes ≡ rest = sym (drop-drop (padding n) n bytes) ∙ ap (λ (k : ℕ). drop k (drop n bytes)) (sym is_pad) ∙ ap (drop pad) (sym is_behind) ∙ sym is_rest in
    rw (long_enough n pad bytes behind le is_behind is_pad long, same, pass, ← is_text, after) refl

pub padded_len : (n : ℕ) (bytes text rest : List ℕ) → padded_at n bytes ≡ Ok (text, rest) → length text ≡ n
padded_len n bytes text rest e = (padded_takes n bytes text rest e).0

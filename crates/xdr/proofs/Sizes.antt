-- How long encodings are.
use Rattle.std.proofs.Common.{◌≡◌, ℕ, ◌+◌, ◌*◌, List, [], ◌∷◌, length, replicate, refl, ap, ◌∙◌, arith}
use Rattle.std.specs.Int.{w32}
use Rattle.std.specs.List.{flat_map}
use Rattle.std.proofs.lemmas.List.{length-append, length-replicate}
use Rattle.xdr.specs.Grammar.{number}
use Rattle.xdr.specs.Forms.{padding, padded, counted, elements}
use Rattle.xdr.proofs.Numbers.{length-number_32}

pub padded_length : (s : List ℕ) → length (padded s) ≡ length s + padding (length s)
unfolding padded
padded_length s = length-append s (replicate (padding (length s)) 0) ∙ ap (λ (k : ℕ). length s + k) (length-replicate (padding (length s)) 0)

pub counted_length : (s : List ℕ) → length (counted s) ≡ 4 + length s + padding (length s)
unfolding counted
counted_length s = omega (arith, length-append (number w32 (length s)) (padded s), length-number_32 (length s), padded_length s)

numbers_length : (ws : List ℕ) → length (flat_map (λ n. number w32 n) ws) ≡ 4 * length ws
numbers_length [] = refl
numbers_length (n ∷ ws) =
    omega (arith, length-append (number w32 n) (flat_map (λ m. number w32 m) ws), length-number_32 n, numbers_length ws)

pub elements_length : (ws : List ℕ) → length (elements (λ n. number w32 n) ws) ≡ 4 + 4 * length ws
unfolding elements
elements_length ws =
    omega (arith, length-append (number w32 (length ws)) (flat_map (λ n. number w32 n) ws), length-number_32 (length ws), numbers_length ws)

-- A reply's words.
use Rattle.std.proofs.Common.{◌≡◌, ℕ, List, [], ◌∷◌, ◌++◌, refl, ap}
use Rattle.std.specs.List.{flat_map}
use Rattle.std.specs.Int.{w32}
use Rattle.xdr.specs.Grammar.{number}
use Rattle.model.specs.Wire.Rpc.{words}

pub each_word : (numbers : List ℕ) → flat_map (λ n. number w32 n) numbers ≡ words numbers
each_word [] = refl
each_word (n ∷ numbers) = ap (λ (rest : List ℕ). number w32 n ++ rest) (each_word numbers)

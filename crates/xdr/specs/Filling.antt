-- What a loop over numbers has read.
use Rattle.std.specs.Prelude.{◌≡◌, ℕ, List, Result, Ok, Err}
use Rattle.std.specs.Int.{w32}
use Rattle.xdr.specs.declared.refusal.Refusal.{Refusal}
use Rattle.xdr.specs.Grammar.{number_at}
use Rattle.xdr.specs.Forms.{each_at}

-- `words` are the n numbers read from `old`, and `result` is what is left; or it is the error of
-- reading them
abbrev pub Fills : List ℕ → ℕ → List ℕ → Result (List ℕ) Refusal → Type 0
Fills old n words (Ok rest) = each_at (λ bytes. number_at w32 bytes) n old ≡ Ok (words, rest)
Fills old n words (Err e) = each_at (λ bytes. number_at w32 bytes) n old ≡ Err e

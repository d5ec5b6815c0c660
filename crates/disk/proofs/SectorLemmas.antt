-- Sectors of bytes.
use Rattle.std.proofs.Common.{◌≡◌, ◌<◌, ℕ, List, length, get_or, subst}
use Rattle.std.proofs.lemmas.List.{get_or_default}
use Rattle.disk.specs.Moments.{IsSector}

pub sector_is : (content : List ℕ) → length content ≡ 4096 → ((i : ℕ) → get_or content i 0 < 256) → IsSector content
sector_is content whole fits = record {
  whole = whole;
  bytes = λ i d within. let P : ℕ → Type 0 = λ byte. byte < 256 in subst P (get_or_default content i 0 d within) (fits i);
}

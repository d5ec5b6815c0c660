-- Lists of bytes.
use Rattle.std.proofs.Common.{◌≡◌, ◌<◌, ◌&&◌, ℕ, suc, Bool, true, List, [], ◌∷◌, length, refl, ap₂, arith}
use Rattle.std.proofs.lemmas.Bool.{lt-ltb}
use Rattle.std.specs.Prelude.{slice_index}
use Rattle.model.specs.Operations.Files.{are_bytes}

pub bytes_by : (bytes : List ℕ) → ((i : ℕ) → slice_index bytes i < 256) → are_bytes bytes ≡ true
bytes_by [] each = refl
bytes_by (byte ∷ bytes) each =
    ap₂ (λ (a b : Bool). a && b) (lt-ltb byte 256 (each 0)) (bytes_by bytes (λ i. each (suc i)))

pub none_bytes : (bytes : List ℕ) → length bytes ≡ 0 → are_bytes bytes ≡ true
none_bytes [] none = refl
none_bytes (byte ∷ bytes) none = absurd (omega (arith, none))

-- Numbers in a row.
use Rattle.std.specs.Prelude.{◌≢◌, ◌<◌, ◌+◌, ℕ, List, length, slice_index_or}

-- each differs from the next one
abbrev pub AreDifferent : List ℕ → Type 0
AreDifferent numbers = (i : ℕ) → i + 1 < length numbers
    → slice_index_or numbers i 0 ≢ slice_index_or numbers (i + 1) 0

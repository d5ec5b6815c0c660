-- Bytes padded with zeros.
use Rattle.std.specs.Prelude.{◌-◌, ◌++◌, ℕ, List, length, replicate, take}

-- `count` bytes: these, as far as they go, then zeros
abbrev pub padded : (count : ℕ) → List ℕ → List ℕ
padded count bytes = take count bytes ++ replicate (count - length bytes) 0

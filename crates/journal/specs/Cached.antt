-- The sectors whose content is kept in memory, each with its number.
use Rattle.std.specs.Prelude.{◌≡◌, ◌≤◌, ◌<◌, ℕ, List}
use Rattle.std.specs.List.{Contains}
use Rattle.disk.specs.Moments.{Image}
use Rattle.journal.specs.Layout.{first_target}

-- each entry of the one is one of the other
abbrev pub AreAmong : List (ℕ × List ℕ) → List (ℕ × List ℕ) → Type 0
AreAmong new old = (entry : ℕ × List ℕ) → Contains new entry → Contains old entry

-- each entry is a sector that a transaction may write, with what the image has there
pub record AreCopies (end : ℕ) (image : Image) (entries : List (ℕ × List ℕ)) : Type 0 where
  pub each : (n : ℕ) (content : List ℕ) → Contains entries (n, content)
      → (first_target ≤ n) × (n < end) × (content ≡ image n)

-- Where a test turns from false to true.
use Rattle.std.specs.Prelude.{◌≡◌, ◌<◌, ◌≤◌, ◌-◌, ℕ, Bool, true, false, List, length, slice_index_or}

-- each entry after one that passes passes
abbrev pub IsMonotone : {X : Type 0} → (X → Bool) → List X → Type 0
IsMonotone {X} test entries =
    (i j : ℕ) (d : X) → i < j → j < length entries → test (slice_index_or entries i d) ≡ true
    → test (slice_index_or entries j d) ≡ true

-- the entry before a place fails, and the one at it passes
pub record IsTurn {X : Type 0} (test : X → Bool) (entries : List X) (place : ℕ) : Type 0 where
  pub within : place ≤ length entries
  pub before : (d : X) → 0 < place → test (slice_index_or entries (place - 1) d) ≡ false
  pub here : (d : X) → place < length entries → test (slice_index_or entries place d) ≡ true

-- the last of the entries
abbrev pub last_or : {X : Type 0} → List X → X → X
last_or entries d = slice_index_or entries (length entries - 1) d

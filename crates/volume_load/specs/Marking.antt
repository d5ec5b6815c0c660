-- Marks of sectors as nodes name them. The first place of the set is sector `first`.
use Rattle.std.specs.Prelude.{◌≡◌, ◌≤◌, ◌+◌, ◌&&◌, ℕ, Bool, List, length, nat_le, nat_lt}
use Rattle.layout.specs.Marks.{once_if, mark_by}

-- how often a sector may be named in all: once if it lies in the data region, which has `count`
-- sectors
abbrev pub max_marks : (first count : ℕ) → (n : ℕ) → ℕ
max_marks first count n = once_if (nat_le first n && nat_lt n (first + count))

-- sectors can be marked this often in addition to those that are marked
abbrev pub CanMark : (first : ℕ) → List Bool → (often : ℕ → ℕ) → Type 0
CanMark first places often =
    (n : ℕ) → mark_by first places n + often n ≤ max_marks first (length places) n

-- they have been, and nothing else has
pub record AreMarked (first : ℕ) (old new : List Bool) (often : ℕ → ℕ) : Type 0 where
  pub len : length new ≡ length old
  pub marks : (n : ℕ) → mark_by first new n ≡ mark_by first old n + often n

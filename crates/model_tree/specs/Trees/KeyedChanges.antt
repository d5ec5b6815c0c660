-- Two changes of a map, one after the other.
use Rattle.std.specs.Prelude.{ℕ, None, ◌≡◌, ◌≢◌, ◌<◌}
use Rattle.model_tree.specs.Trees.Keyed.{Keyed, at, with, without, IsAbove}

-- of two changes at one key only the second remains; changes at two keys commute; and what was put
-- at a key that had no value is removed again
pub record ChangesMeet (A : Type 0) : Type 0 where
  pub with-with_same : (entries : Keyed A) (key : ℕ) (value other : A)
      → with (with entries key value) key other ≡ with entries key other
  pub with-with_other : (entries : Keyed A) (key other : ℕ) (value more : A) → key ≢ other
      → with (with entries key value) other more ≡ with (with entries other more) key value
  pub without-with_other : (entries : Keyed A) (key other : ℕ) (value : A) → IsAbove 0 entries
      → 0 < key → key ≢ other
      → without (with entries key value) other ≡ with (without entries other) key value
  pub without-with_fresh : (entries : Keyed A) (key : ℕ) (value : A) → IsAbove 0 entries → 0 < key
      → at key entries ≡ None
      → without (with entries key value) key ≡ entries

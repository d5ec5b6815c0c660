-- The record of the least stamp above a cookie.
use Rattle.std.specs.Prelude.{ℕ, List, Option, Some, None, ◌≡◌, ◌<◌}
use Rattle.model_tree.specs.Trees.Keyed.{at}
use Rattle.directory.specs.Records.{Record}

-- it is above the cookie, the first of its stamp, and none is between
abbrev pub IsLeast : (cookie : ℕ) → List Record → Option Record → Type 0
IsLeast cookie records None = (key : ℕ) → cookie < key → at key records ≡ None
IsLeast cookie records (Some least) =
    (cookie < least.0) × (at least.0 records ≡ Some least.1)
    × ((key : ℕ) → cookie < key → key < least.0 → at key records ≡ None)

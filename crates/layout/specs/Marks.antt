-- Which sectors of the data region nodes name, and which ones are marked as used.
use Rattle.std.specs.Prelude.{◌+◌, ◌-◌, ◌==◌, ℕ, Bool, List, [], ◌∷◌, Option, Some, None, nat_lt, if◌then◌else◌}
use Rattle.disk.specs.Moments.{Image}
use Rattle.freemap.specs.Places.{mark_of, bit_in}
use Rattle.layout.specs.CachedNodes.{CachedNode}

abbrev pub once_if : Bool → ℕ
once_if is = if is then 1 else 0

-- how often a list, and a list of blocks, has sector n

abbrev pub times : (n : ℕ) → List ℕ → ℕ
times n [] = 0
times n (sector ∷ sectors) = once_if (n == sector) + times n sectors

abbrev pub times_set : (n : ℕ) → List (Option ℕ) → ℕ
times_set n [] = 0
times_set n (None ∷ blocks) = times_set n blocks
times_set n (Some sector ∷ blocks) = once_if (n == sector) + times_set n blocks

-- how often a node, and how often all of them, name it: as a run sector, or as a block
unfoldable pub namings_of : (n : ℕ) → Option CachedNode → ℕ
namings_of n None = 0
namings_of n (Some cached) = times n cached.fields.run_sectors + times_set n cached.blocks

abbrev pub named : (n : ℕ) → List (Option CachedNode) → ℕ
named n [] = 0
named n (cached ∷ cached_nodes) = namings_of n cached + named n cached_nodes

-- The mark of a sector: 0 before the data region; from there on, the bit of its place in the two
-- bitmap sectors or, for a set of places in memory, whether its place is used

unfoldable pub mark_in : (nodes : ℕ) → Image → (n : ℕ) → ℕ
mark_in nodes image n =
    if nat_lt n (148 + nodes) then 0 else bit_in (image 98) (image 99) (n - (148 + nodes))

-- the first place is sector `first`
unfoldable pub mark_by : (first : ℕ) → List Bool → (n : ℕ) → ℕ
mark_by first places n = if nat_lt n first then 0 else mark_of places (n - first)

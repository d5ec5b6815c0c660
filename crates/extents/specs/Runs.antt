-- The blocks of a node: a list with one place for each block, which holds the block's sector, or
-- nothing if the block is a hole. On disk the blocks that are set are stored as runs: consecutive
-- blocks in consecutive sectors.
use Rattle.std.specs.Prelude.{◌≡◌, ◌<◌, ◌≤◌, ◌+◌, ◌-◌, ◌^◌, ◌&&◌, ◌++◌, ℕ, Bool, List, [], ◌∷◌, Option, Some, None, nat_lt, nat_le, if◌then◌else◌, length, replicate, slice_index_or}
use Rattle.extents.specs.declared.run.Run.{Run}

-- the list with holes at its end, so that it has at least `len` places
abbrev pub with_holes : List (Option ℕ) → ℕ → List (Option ℕ)
with_holes blocks len = blocks ++ replicate (len - length blocks) None

-- whether a block is one of a run's
abbrev pub is_in : Run → ℕ → Bool
is_in run block = nat_le run.block block && nat_lt block (run.block + run.length)

-- the sector in which runs put a block
abbrev pub sector_by : List Run → ℕ → Option ℕ
sector_by [] block = None
sector_by (run ∷ runs) block =
    if is_in run block then Some (run.sector + (block - run.block)) else sector_by runs block

-- the runs rise from block `from` on, none is empty, none begins before the end of the one before
-- it, none passes the last of `count` blocks, and none passes the last number of a sector
abbrev pub AreRising : (from count : ℕ) → List Run → Type 0
AreRising from count [] = Unit {0}
AreRising from count (run ∷ runs) =
    (from ≤ run.block) × (0 < run.length) × (run.block + run.length ≤ count)
    × (run.sector + run.length ≤ 2 ^ 32)
    × AreRising (run.block + run.length) count runs

-- these are runs of these blocks
pub record AreRunsOf (runs : List Run) (blocks : List (Option ℕ)) : Type 0 where
  pub rising : AreRising 0 (length blocks) runs
  pub same : (block : ℕ) → slice_index_or blocks block None ≡ sector_by runs block

-- two runs that could be one: the second begins after the last block of the first, and in the
-- sector after its last one
abbrev pub CanJoin : Run → Run → Type 0
CanJoin run next = (next.block ≡ run.block + run.length) × (next.sector ≡ run.sector + run.length)

-- no two neighbours could be one
abbrev pub RunsApart : List Run → Type 0
RunsApart [] = Unit {0}
RunsApart (run ∷ []) = Unit {0}
RunsApart (run ∷ next ∷ runs) = (¬ CanJoin run next) × RunsApart (next ∷ runs)

-- from block `start` on, `count` blocks are in consecutive sectors
pub record IsRunAt (blocks : List (Option ℕ)) (start first count : ℕ) : Type 0 where
  pub some : 0 < count
  pub within : start + count ≤ length blocks
  pub fits : first + count ≤ 2 ^ 32
  pub each : (k : ℕ) → k < count → slice_index_or blocks (start + k) None ≡ Some (first + k)

-- the blocks that a run has, if they had none
abbrev pub IsLaidBehind : List (Option ℕ) → Run → List (Option ℕ) → Type 0
IsLaidBehind old run new =
    (block : ℕ) → slice_index_or new block None
    ≡ (if nat_lt block (length old)
    then slice_index_or old block None
    else sector_by (run ∷ []) block)

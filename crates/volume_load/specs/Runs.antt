-- What is found in run sectors.
use Rattle.std.specs.Prelude.{◌≡◌, ◌<◌, ℕ, List, length, slice_index_or}
use Rattle.std.specs.List.{AllByRecursion}
use Rattle.disk.specs.Moments.{Image}
use Rattle.extents.specs.declared.run.Run.{Run}
use Rattle.extents.specs.Sector.{run_sector, IsRun}
use Rattle.layout.specs.Laid.{AreRunSectors}

-- `count` runs in one sector
pub record FindsPart (word : Type 0) (content : List ℕ) (count : ℕ) (runs : List Run)
    : Type 0 where
  pub each : AllByRecursion IsRun runs
  pub count_is : length runs ≡ count
  pub encoded : word → content ≡ run_sector runs

-- `count` runs in all of them
pub record FindsRuns (word : Type 0) (image : Image) (sectors : List ℕ) (count : ℕ)
    (runs : List Run) : Type 0 where
  pub each : AllByRecursion IsRun runs
  pub count_is : length runs ≡ count
  pub encoded : word → AreRunSectors image sectors runs

-- each of these sectors can be read
abbrev pub SectorsWithin : (size : ℕ) → List ℕ → Type 0
SectorsWithin size sectors = (i : ℕ) → i < length sectors → slice_index_or sectors i 0 < size

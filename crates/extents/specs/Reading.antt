-- What a run sector says, whatever its bytes. It does not say how many of its runs are used: the
-- node does.
use Rattle.std.specs.Prelude.{◌≡◌, ℕ, List, length, drop}
use Rattle.std.specs.List.{AllByRecursion}
use Rattle.std.specs.Int.{w16, w32, from_be_bytes}
use Rattle.sector.specs.Records.{records_at_prefix}
use Rattle.extents.specs.declared.run.Run.{Run}
use Rattle.extents.specs.Sector.{run_sector, IsRun}

-- the run of these bytes
abbrev pub run_in : List ℕ → Run
run_in bytes = record {
  block = from_be_bytes w16 bytes;
  length = from_be_bytes w16 (drop 2 bytes);
  sector = from_be_bytes w32 (drop 4 bytes);
}

-- the first runs of a run sector
unfoldable pub runs_in : (count : ℕ) → List ℕ → List Run
runs_in count sector = records_at_prefix run_in 8 count (drop 96 sector)

abbrev pub RunsReadBack : Type 0
RunsReadBack =
    (runs : List Run) → AllByRecursion IsRun runs → runs_in (length runs) (run_sector runs) ≡ runs

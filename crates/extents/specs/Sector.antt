-- A run sector: `RUNS`, 92 zero bytes, and up to 500 runs of 8 bytes, of which those that are not
-- used are zero.
use Rattle.std.specs.Prelude.{◌<◌, ◌≤◌, ◌-◌, ◌*◌, ◌^◌, ◌++◌, ℕ, List, length, replicate, codes}
use Rattle.std.specs.List.{flat_map, AllByRecursion}
use Rattle.std.specs.Int.{w16, w32, to_be_bytes}
use Rattle.extents.specs.declared.run.Run.{Run}

abbrev pub run_bytes : Run → List ℕ
run_bytes run =
    to_be_bytes w16 run.block ++ to_be_bytes w16 run.length ++ to_be_bytes w32 run.sector

abbrev pub header : List ℕ
header = codes "RUNS" ++ replicate 92 0

abbrev pub run_sector : List Run → List ℕ
run_sector runs = header ++ flat_map run_bytes runs ++ replicate (4000 - 8 * length runs) 0

-- a run that can be encoded: its numbers fit, and it is not empty
pub record IsRun (run : Run) : Type 0 where
  pub block : run.block < 2 ^ 16
  pub length : run.length < 2 ^ 16
  pub sector : run.sector < 2 ^ 32
  pub some : 0 < run.length

-- runs that fill one sector or a part of it
pub record FillSector (runs : List Run) : Type 0 where
  pub some : 0 < length runs
  pub few : length runs ≤ 500
  pub each : AllByRecursion IsRun runs

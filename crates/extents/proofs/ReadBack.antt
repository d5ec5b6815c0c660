-- What is read from a run sector is what was encoded there.
use Rattle.std.proofs.Common.{◌≡◌, ◌-◌, ◌*◌, ◌++◌, ℕ, List, length, replicate, refl}
use Rattle.std.proofs.lemmas.Nat.{from_be_bytes-to_be_bytes_2, from_be_bytes-to_be_bytes_4}
use Rattle.sector.specs.Records.{AreWide, records-back}
use Rattle.extents.specs.declared.run.Run.{Run}
use Rattle.extents.specs.Sector.{run_bytes, IsRun}
use Rattle.extents.specs.Reading.{run_in, runs_in, RunsReadBack}

runs_wide : AreWide run_bytes 8
runs_wide run = refl

same_run : (block length sector : ℕ) (run : Run) → block ≡ run.block → length ≡ run.length → sector ≡ run.sector → (let made : Run = record { block = block; length = length; sector = sector } in made ≡ run)
same_run block length sector run a b c = rw (a, b, c) refl

run-back : (run : Run) (rest : List ℕ) → IsRun run → run_in (run_bytes run ++ rest) ≡ run
run-back run rest is = same_run _ _ _ run (from_be_bytes-to_be_bytes_2 run.block is.block) (from_be_bytes-to_be_bytes_2 run.length is.length) (from_be_bytes-to_be_bytes_4 run.sector is.sector)

pub runs-back : RunsReadBack
unfolding runs_in
runs-back runs all = records-back run_bytes 8 runs_wide run_in IsRun run-back runs (replicate (4000 - 8 * length runs) 0) all

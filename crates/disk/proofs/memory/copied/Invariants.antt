use Rattle.std.proofs.Common.{◌≡◌, take, All}
use Rattle.disk.specs.Moments.{IsSector}
use Rattle.disk.proofs.memory.copied.Given as goal

abbrev pub invariant-loop-row : goal.invariant-loop-row
invariant-loop-row l = record { rows : l.copy.items ≡ take l.row-index l.rows; sectors : All IsSector l.copy.items }

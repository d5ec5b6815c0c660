use Rattle.std.proofs.Common.{◌≡◌, vec_len, replicate}
use Rattle.disk.specs.Calls.{zero_sector}
use Rattle.disk.proofs.memory.zeros.Given as goal

abbrev pub invariant-loop : goal.invariant-loop
invariant-loop l = record { rows : l.rows.items ≡ replicate l.counter zero_sector; len : vec_len l.rows ≡ l.counter }

use Rattle.std.proofs.Common.{◌≤◌, ◌*◌, ◌-◌}
use Rattle.freemap.specs.Kept.{IsSetBelow}
use Rattle.freemap.proofs.sectors.skip_bytes.Given as goal

abbrev pub invariant-loop-byte : goal.invariant-loop-byte
invariant-loop-byte l = record { within : l.byte ≤ l.bytes; below : IsSetBelow l.bits (8 * l.byte) }

abbrev pub decreases-loop-byte : goal.decreases-loop-byte
decreases-loop-byte l = l.bytes - l.byte

use Rattle.std.proofs.Common.{◌≡◌, ◌≤◌, length, take}
use Rattle.std.specs.Io.KnownBytes.{Consumes}
use Rattle.client.proofs.stream.fill.Given as goal

abbrev pub invariant-loop : goal.invariant-loop
invariant-loop g l = (length l.buf ≡ length l.fn.buf) × (l.at ≤ length l.buf) × Consumes (g.R.Read.remaining l.fn.reader) (g.R.Read.remaining l.reader) (take l.at l.buf)

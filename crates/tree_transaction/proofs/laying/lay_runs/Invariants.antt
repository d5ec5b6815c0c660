use Rattle.std.proofs.Common.{◌≤◌, ◌+◌, length}
use Rattle.disk.specs.Moments.{Image, applied}
use Rattle.tree_transaction.specs.Laying.{LaysPrefix}
use Rattle.tree_transaction.proofs.laying.lay_runs.Given as goal

abbrev pub invariant-loop-i : goal.invariant-loop-i
invariant-loop-i l = record {
  lays : (image : Image) → LaysPrefix (applied l.fn.updates image) (applied l.updates image) l.numbers l.runs l.i;
  count : length l.updates ≤ length l.fn.updates + l.i;
}

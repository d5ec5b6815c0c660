use Rattle.std.proofs.Common.{◌≡◌, ◌++◌, take, vec_capacity}
use Rattle.journal.proofs.gate.name_all.Given as goal

abbrev pub invariant-loop-target : goal.invariant-loop-target
invariant-loop-target l = record {
  items : l.named.items ≡ l.fn.named.items ++ take l.target-index l.to;
  capacity : vec_capacity l.named ≡ vec_capacity l.fn.named;
}

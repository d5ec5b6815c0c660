use Rattle.std.proofs.Common.{◌≡◌, take, false}
use Rattle.journal.specs.Behind.{meets}
use Rattle.journal.proofs.gate.meets.Given as goal

abbrev pub invariant-loop-target : goal.invariant-loop-target
invariant-loop-target l = meets l.named (take l.target-index l.to) ≡ false

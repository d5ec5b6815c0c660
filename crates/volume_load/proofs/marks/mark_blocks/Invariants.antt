use Rattle.std.proofs.Common.{take}
use Rattle.layout.specs.Marks.{times_set}
use Rattle.volume_load.specs.Marking.{AreMarked}
use Rattle.volume_load.proofs.marks.mark_blocks.Given as goal

abbrev pub invariant-loop-block : goal.invariant-loop-block
invariant-loop-block l = AreMarked l.first l.fn.places l.places (λ n. times_set n (take l.block l.blocks))

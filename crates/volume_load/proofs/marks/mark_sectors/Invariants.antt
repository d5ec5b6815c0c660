use Rattle.std.proofs.Common.{take}
use Rattle.layout.specs.Marks.{times}
use Rattle.volume_load.specs.Marking.{AreMarked}
use Rattle.volume_load.proofs.marks.mark_sectors.Given as goal

abbrev pub invariant-loop-sector : goal.invariant-loop-sector
invariant-loop-sector l = AreMarked l.first l.fn.places l.places (λ n. times n (take l.sector-index l.sectors))

use Rattle.std.proofs.Common.{take}
use Rattle.extent_tree.specs.Held.{entries_by}
use Rattle.extent_tree.specs.Setting.{AreKept}
use Rattle.extent_tree.proofs.cutting.forget.Given as goal

abbrev pub invariant-loop-sector : goal.invariant-loop-sector
invariant-loop-sector l = AreKept (entries_by (λ rc. rc.value.items) l.initial.nodes) (entries_by (λ rc. rc.value.items) l.nodes) (take l.sector-index l.freed)

use Rattle.std.proofs.Common.{◌≡◌, ◌-◌}
use Rattle.disk.specs.Moments.{Image}
use Rattle.layout.specs.CachedNodes.{tree_of}
use Rattle.model_tree.specs.Trees.Ancestors.{is_below}
use Rattle.volume.proofs.BelowLaws.{is_met}
use Rattle.volume.proofs.ancestors.is_below.Given as goal

abbrev pub invariant-loop-step : goal.invariant-loop-step
invariant-loop-step l = (image : Image) → is_met (l._step-end - l._step) (tree_of image l.table) l.upper l.node ≡ is_below (tree_of image l.table) l.upper l.number

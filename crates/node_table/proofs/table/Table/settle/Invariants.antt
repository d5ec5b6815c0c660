use Rattle.std.proofs.Common.{length}
use Rattle.node_table.specs.Overlays.{overlaid}
use Rattle.node_table.proofs.OverlayLaws.{IsSettling}
use Rattle.node_table.proofs.table.Table.settle.Given as goal

abbrev pub invariant-loop-place : goal.invariant-loop-place
invariant-loop-place l = IsSettling l.self (overlaid l.fn.self l.fn.changes) l.list.items

abbrev pub decreases-loop-place : goal.decreases-loop-place
decreases-loop-place l = length l.list.items

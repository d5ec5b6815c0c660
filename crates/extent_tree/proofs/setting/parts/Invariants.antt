use Rattle.extent_tree.proofs.Parts.{ArePartsTo}
use Rattle.extent_tree.proofs.setting.parts.Given as goal

abbrev pub invariant-loop-i : goal.invariant-loop-i
invariant-loop-i l = ArePartsTo l.depth l.entry l.i l.made.items

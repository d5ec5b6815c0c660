use Rattle.std.proofs.Common.{◌≡◌, drop, map}
use Rattle.model_tree.specs.Trees.Keyed.{at}
use Rattle.opens.specs.Views.{entry_of}
use Rattle.opens.proofs.opens.Opens.at.Given as goal

abbrev pub invariant-loop-entry : goal.invariant-loop-entry
invariant-loop-entry l = at l.serial (map entry_of l.self.list.items) ≡ at l.serial (map entry_of (drop l.entry-index l.self.list.items))

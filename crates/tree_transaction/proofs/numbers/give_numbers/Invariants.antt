use Rattle.std.proofs.Common.{◌≡◌, ◌≤◌, length}
use Rattle.tree_transaction.specs.Laying.{Follow}
use Rattle.tree_transaction.proofs.numbers.give_numbers.Given as goal

abbrev pub invariant-loop-numbers : goal.invariant-loop-numbers
invariant-loop-numbers l = record {
  marks : Follow l.first l.fn.places l.places l.fn.numbers.items l.numbers.items;
  least : l.wanted ≤ length l.fn.numbers.items → l.wanted ≤ length l.numbers.items;
  len : length l.places ≡ length l.fn.places;
}

abbrev pub decreases-loop-numbers : goal.decreases-loop-numbers
decreases-loop-numbers l = length l.numbers.items

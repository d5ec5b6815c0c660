use Rattle.std.proofs.Common.{◌≡◌, ◌≤◌, ◌+◌, ◌-◌, length}
use Rattle.freemap.specs.Kept.{free_places}
use Rattle.tree_transaction.specs.Laying.{Follow}
use Rattle.tree_transaction.proofs.numbers.take_numbers.Given as goal

abbrev pub invariant-loop-places : goal.invariant-loop-places
invariant-loop-places l = record {
  marks : Follow l.first l.fn.places l.places l.fn.numbers.items l.numbers.items;
  most : length l.fn.numbers.items ≤ l.wanted → length l.numbers.items ≤ l.wanted;
  len : length l.places ≡ length l.fn.places;
  free : free_places l.places + length l.numbers.items ≡ free_places l.fn.places + length l.fn.numbers.items;
}

abbrev pub decreases-loop-places : goal.decreases-loop-places
decreases-loop-places l = l.wanted - length l.numbers.items

use Rattle.std.proofs.Common.{ℕ, subst, sym}
use Rattle.std.proofs.lemmas.List.Sorted.{IsNonDecreasingBy-from_sort}
use Rattle.volume_load.specs.Numbers.{AreDifferent}
use Rattle.volume_load.proofs.NumberLaws.{apart_sorted, sorted_apart}
use Rattle.volume_load.proofs.numbers.are_apart.Goals as goal

pub returns : goal.returns
returns c =
    let sorted = c.sort.new.self.items in
    let moved = c.sort.ensures.permutation in
    let up = IsNonDecreasingBy-from_sort (λ (x : ℕ). x) sorted c.in_ok-sort.ensures.sorted in (
      λ is. apart_sorted c.args.numbers.items sorted moved up (subst AreDifferent c.deref.ensures.value (c.are_different.ensures.0 is)),
      λ apart. c.are_different.ensures.1 (subst AreDifferent (sym c.deref.ensures.value) (sorted_apart c.args.numbers.items sorted moved apart)),
    )

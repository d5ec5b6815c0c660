use Rattle.std.proofs.Common.{ℕ, List, subst, sym}
use Rattle.std.proofs.lemmas.List.Sorted.{IsNonDecreasingBy-from_sort}
use Rattle.std.specs.List.Sorted.{IsPermutation}
use Rattle.tree_check.specs.Stamps.{AreDifferent}
use Rattle.tree_check.proofs.StampLaws.{apart_sorted, sorted_apart}
use Rattle.tree_check.proofs.stamps.are_stamps_apart.Goals as goal

pub returns : goal.returns
returns c =
    let sorted = c.sort.new.self.items in
    let moved = subst (λ (stamps : List ℕ). IsPermutation stamps sorted) c.in_ok-stamps.ensures c.sort.ensures.permutation in
    let up = IsNonDecreasingBy-from_sort (λ (x : ℕ). x) sorted c.in_ok-sort.ensures.sorted in (
      λ is. apart_sorted c.args.table.now sorted moved up (subst AreDifferent c.deref.ensures.value (c.are_different.ensures.0 is)),
      λ apart. c.are_different.ensures.1 (subst AreDifferent (sym c.deref.ensures.value) (sorted_apart c.args.table.now sorted moved apart)),
    )

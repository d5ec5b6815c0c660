use Rattle.std.proofs.Common.{◌≡◌, ◌<◌, ℕ, List, map, sym, ap, subst, ◌∙◌, arith, rules}
use Rattle.std.specs.List.{All}
use Rattle.std.proofs.lemmas.List.MinMax.{ranks_by}
use Rattle.std.specs.Ordering.{is_lt}
use Rattle.std.proofs.lemmas.Result.{IfOk-weaker}
use Rattle.chunks.specs.declared.list.TheConstants.{MAX_LEN}
use Rattle.directory.specs.declared.order.PlacedEntry.{PlacedEntry}
use Rattle.directory.specs.Order.{compare_placed, placed_in, IsOrder}
use Rattle.directory.proofs.Rising.{placed_total}
use Rattle.directory.proofs.Sorting.{answers_as, sorts_before, sorted_order, sorted_low}
use Rattle.directory.proofs.order.order_of.Goals as goal

pub places_of-requires-clause-low : goal.places_of-requires-clause-low
places_of-requires-clause-low c =
    let by = c.args.by in
    let all = c.in_ok-all.all.items in
    let sorted = c.sort_unstable_by.new.self.items in
    let up = c.sort_unstable_by.ensures.sorted (sorts_before by) (ranks_by (placed_total by) placed_in)
    (answers_as _ _ _ (λ a r f' h.
    let is : r ≡ compare_placed by (placed_in a.0.now) (placed_in a.1.0.now) = search rules in
    (ap is_lt is, search rules))) in
    subst (λ xs. All (λ (one : PlacedEntry). one.place < MAX_LEN) xs) (sym c.deref.ensures.value)
    (λ k d within. omega (arith, sorted_low by c.args.records.now all sorted c.in_ok-all.ensures c.sort_unstable_by.ensures.permutation up k d within, c.requires))

pub returns : goal.returns
returns c =
    let by = c.args.by in
    let all = c.in_ok-all.all.items in
    let sorted = c.sort_unstable_by.new.self.items in
    let up = c.sort_unstable_by.ensures.sorted (sorts_before by) (ranks_by (placed_total by) placed_in)
    (answers_as _ _ _ (λ a r f' h.
    let is : r ≡ compare_placed by (placed_in a.0.now) (placed_in a.1.0.now) = search rules in
    (ap is_lt is, search rules))) in
    IfOk-weaker c.places_of.result (λ (places : List ℕ). places ≡ map (λ (one : PlacedEntry). one.place) c.deref.result.now)
    (λ (order : List ℕ). IsOrder by order c.args.records.now)
    (λ places is.
    subst (λ order. IsOrder by order c.args.records.now) (sym (is ∙ ap (map (λ (one : PlacedEntry). one.place)) c.deref.ensures.value))
    (sorted_order by c.args.records.now all sorted c.in_ok-all.ensures c.sort_unstable_by.ensures.permutation up))
    c.places_of.ensures

use Rattle.std.proofs.Common.{ℕ, rules}
use Rattle.std.proofs.lemmas.List.Sorted.{IsNonDecreasingBy-from_sort, answers_always}
use Rattle.node_table.proofs.index.sort.Goals as goal

pub returns-clause-sorted : goal.returns-clause-sorted
returns-clause-sorted c = IsNonDecreasingBy-from_sort (λ (entry : ℕ × ℕ). entry.0) _ (c.sort_unstable_by_key.ensures.sorted (λ (entry : ℕ × ℕ). entry.0) (answers_always _ _ _ (λ f a r g h. search rules)))

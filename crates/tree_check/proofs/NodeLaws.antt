-- Nodes that are allowed, name by name and place by place.
use Rattle.std.proofs.Common.{◌≡◌, ◌<◌, ◌≤◌, ◌+◌, ◌++◌, ℕ, zero, suc, List, [], ◌∷◌, Option, Some, None, length, get_or, take, sym, ap, subst, ◌∙◌, arith}
use Rattle.std.proofs.Common.{inl, inr}
use Rattle.std.proofs.lemmas.Bool.{cases_lt}
use Rattle.std.proofs.lemmas.List.{get_or_past, take_more}
use Rattle.std.specs.List.{AllByRecursion}
use Rattle.sector.specs.Written.{each_push}
use Rattle.directory.specs.Records.{Record}
use Rattle.layout.specs.CachedNodes.{CachedNode}

pub each_entry : (P : Record → Type 0) (names : List Record) (i : ℕ) (one : Record) → ((d : Record) → get_or names i d ≡ one) → i < length names
    → AllByRecursion P names → P one
each_entry P [] i one is h all = absurd (omega arith)
each_entry P (x ∷ names) zero one is h all = subst P (is x) all.0
each_entry P (x ∷ names) (suc i) one is h all = each_entry P names i one is (omega arith) all.1

pub each_more : (P : Record → Type 0) (names : List Record) (i : ℕ) (one : Record) → ((d : Record) → get_or names i d ≡ one) → i < length names
    → AllByRecursion P (take i names) → P one → AllByRecursion P (take (i + 1) names)
each_more P names i one is h all its =
    subst (AllByRecursion P) (sym (take_more names i one h ∙ ap (λ r. take i names ++ r ∷ []) (is one))) (each_push P (take i names) one all its)

-- what holds for all cached nodes below a place that is past the last one holds for all
pub each_place : (P : CachedNode → Type 0) (cached_nodes : List (Option CachedNode)) (end : ℕ)
    → length cached_nodes ≤ end
    → ((place : ℕ) (cached : CachedNode) → place < end → get_or cached_nodes place None ≡ Some cached → P cached)
    → (place : ℕ) (cached : CachedNode) → get_or cached_nodes place None ≡ Some cached → P cached
each_place P cached_nodes end past each place cached there = elim (cases_lt place end) [
  | inl before ↦ each place cached before there
  | inr behind ↦ absurd (none_some cached (sym (get_or_past cached_nodes place None (omega arith)) ∙ there))
]
  where
    none_some : (cached : CachedNode) → (let none : Option CachedNode = None in none ≡ Some cached) → ⊥
    none_some cached e = cc

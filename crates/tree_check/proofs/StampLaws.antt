-- Sorted stamps are distinct exactly if no two neighbours are the same.
use Rattle.std.proofs.Common.{◌≡◌, ◌<◌, ◌+◌, ◌++◌, ℕ, zero, suc, List, [], ◌∷◌, Option, None, length, map, take, get_or, refl, sym, ap, ◌∙◌, arith, eqb, eq-eqb}
use Rattle.std.proofs.lemmas.List.{append_assoc, append-nil, map-append, take_more}
use Rattle.std.specs.List.Sorted.{IsPermutation, IsNonDecreasing}
use Rattle.directory.specs.Records.{Record}
use Rattle.layout.specs.CachedNodes.{CachedNode}
use Rattle.layout.specs.Marks.{once_if, times}
use Rattle.layout.proofs.NumberLaws.{times-moved, rising, once-each, once-here, times-append}
use Rattle.tree_check.specs.Stamps.{stamps_of, stamped_by, entry_stamps, AreDifferent}
use Rattle.tree_check.specs.Stamps.{AreStampsApart}
use Rattle.tree_check.proofs.Sums.{times-split, take-one}

pub apart_sorted : (cached_nodes : List (Option CachedNode)) (sorted : List ℕ) → IsPermutation (entry_stamps cached_nodes) sorted → IsNonDecreasing sorted → AreDifferent sorted → AreStampsApart cached_nodes
apart_sorted cached_nodes sorted moved up differ stamp =
    omega (arith, times-moved stamp (entry_stamps cached_nodes) sorted moved, once-each stamp sorted (rising sorted up differ))

pub sorted_apart : (cached_nodes : List (Option CachedNode)) (sorted : List ℕ) → IsPermutation (entry_stamps cached_nodes) sorted → AreStampsApart cached_nodes → AreDifferent sorted
sorted_apart cached_nodes sorted moved apart i h same =
    let n = get_or sorted (i + 1) 0 in
    let second = times-split n sorted (i + 1) 0 h in
    let e : i + 1 ≡ suc i = omega arith in
    let prefix : take (i + 1) sorted ≡ take i sorted ++ get_or sorted i 0 ∷ [] = ap (λ k. take k sorted) e ∙ take-one sorted i 0 (omega arith) in
    let first : times n (take (i + 1) sorted) ≡ times n (take i sorted) + (once_if (eqb n (get_or sorted i 0)) + 0) = ap (times n) prefix ∙ times-append n (take i sorted) (get_or sorted i 0 ∷ []) in
    let one : once_if (eqb n (get_or sorted i 0)) ≡ 1 = rw (eq-eqb n (get_or sorted i 0) (sym same)) refl in
    omega (arith, second, first, one, once-here n, apart n, times-moved n (entry_stamps cached_nodes) sorted moved)

-- The stamps of the first places

pub stamps-take : (cached_nodes : List (Option CachedNode)) (p : ℕ) → p < length cached_nodes → entry_stamps (take (suc p) cached_nodes) ≡ entry_stamps (take p cached_nodes) ++ stamped_by (get_or cached_nodes p None)
stamps-take [] p h = absurd (omega arith)
stamps-take (cached ∷ cached_nodes) zero h = append-nil (stamped_by cached)
stamps-take (cached ∷ cached_nodes) (suc p) h =
    ap (λ rest. stamped_by cached ++ rest) (stamps-take cached_nodes p (omega arith)) ∙ sym (append_assoc (stamped_by cached) (entry_stamps (take p cached_nodes)) (stamped_by (get_or cached_nodes p None)))

-- those of the first names
pub stamps-more : (names : List Record) (i : ℕ) (one : Record) → ((d : Record) → get_or names i d ≡ one) → i < length names
    → stamps_of (take (i + 1) names) ≡ stamps_of (take i names) ++ one.0 ∷ []
stamps-more names i one is h =
    ap stamps_of (take_more names i one h ∙ ap (λ r. take i names ++ r ∷ []) (is one))
    ∙ map-append (λ (r : Record). r.0) (take i names) (one ∷ [])

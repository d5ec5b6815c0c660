-- What one transaction of a migration writes, sector by sector.
use Rattle.std.proofs.Common.{◌≡◌, ◌≤◌, ◌<◌, ◌+◌, ◌-◌, ◌*◌, ◌⊎◌, ◌++◌, ℕ, zero, suc, List, [], ◌∷◌, Option, Some, None, length, map, min, get_or, inl, inr, refl, sym, ap, ◌∙◌, subst, arith, ⊎_elim}
use Rattle.std.specs.List.{flat_map, range_with_len}
use Rattle.std.proofs.lemmas.Bool.{cases_eq}
use Rattle.std.proofs.lemmas.List.{append-nil, append_assoc, length-append}
use Rattle.disk.specs.declared.update.Update.{Update}
use Rattle.disk.specs.Moments.{Image, put, applied}
use Rattle.journal.specs.Layout.{targets}
use Rattle.journal.proofs.Images.{Out, Fit, Out-join, put_same, put_other, applied_out}
use Rattle.journal.proofs.Lists.{applied_at, applied-push, targets-push, targets_of-Fit}
use Rattle.layout.specs.CachedNodes.{CachedNode, node_sector}
use Rattle.layout.specs.Stands.{mark_sector}
use Rattle.migration.specs.Commits.{AreTransactions, FitsJournal}
use Rattle.migration.specs.Plans.{moved_node, mark_update, step, step_at}

-- the nodes of `count` places
abbrev pub nodes_of : List (Option CachedNode) → (from count : ℕ) → List Update
nodes_of cached_nodes from count = flat_map (λ place. moved_node place (get_or cached_nodes place None)) (range_with_len from count)

applied-append : (a b : List Update) (image : Image) → applied (a ++ b) image ≡ applied b (applied a image)
applied-append [] b image = refl
applied-append (u ∷ a) b image = applied-append a b (put image u)

targets-append : (a b : List Update) → targets (a ++ b) ≡ targets a ++ targets b
targets-append [] b = refl
targets-append (u ∷ a) b = ap (λ (ts : List ℕ). u.target ∷ ts) (targets-append a b)

-- Which sectors

node_out : (place : ℕ) (cached : Option CachedNode) (n : ℕ) → (node_sector place ≡ n → ⊥) → Out (targets (moved_node place cached)) n
node_out place None n other = tt
node_out place (Some cached) n other = (other, tt)

node_short : (place : ℕ) (cached : Option CachedNode) → length (moved_node place cached) ≤ 1
node_short place None = omega arith
node_short place (Some cached) = omega arith

nodes_out : (cached_nodes : List (Option CachedNode)) (from count n : ℕ) → (n < node_sector from) ⊎ (node_sector (from + count) ≤ n) → Out (targets (nodes_of cached_nodes from count)) n
nodes_out cached_nodes from zero n far = tt
nodes_out cached_nodes from (suc count) n far =
    let node = moved_node from (get_or cached_nodes from None) in
    subst (λ (ts : List ℕ). Out ts n) (sym (targets-append node (nodes_of cached_nodes (from + 1) count)))
    (Out-join (targets node) (targets (nodes_of cached_nodes (from + 1) count)) n
    (node_out from (get_or cached_nodes from None) n (λ same. ⊎_elim (λ (low : n < node_sector from). omega arith) (λ (high : node_sector (from + suc count) ≤ n). omega arith) far))
    (nodes_out cached_nodes (from + 1) count n
    (⊎_elim (λ (low : n < node_sector from). inl (omega arith)) (λ (high : node_sector (from + suc count) ≤ n). inr (omega arith)) far)))

nodes_short : (cached_nodes : List (Option CachedNode)) (from count : ℕ) → length (nodes_of cached_nodes from count) ≤ count
nodes_short cached_nodes from zero = omega arith
nodes_short cached_nodes from (suc count) =
    let node = moved_node from (get_or cached_nodes from None) in
    omega (
      arith,
      length-append node (nodes_of cached_nodes (from + 1) count),
      node_short from (get_or cached_nodes from None),
      nodes_short cached_nodes (from + 1) count,
    )

node_fit : (size place : ℕ) (cached : Option CachedNode) (rest : List Update) → node_sector place < size → Out (targets rest) (node_sector place) → Fit size (targets rest)
    → Fit size (targets (moved_node place cached ++ rest))
node_fit size place None rest below out fit = fit
node_fit size place (Some cached) rest below out fit = (omega arith, below, out, fit)

nodes_fit : (size : ℕ) (cached_nodes : List (Option CachedNode)) (from count : ℕ) → node_sector (from + count) ≤ size → Fit size (targets (nodes_of cached_nodes from count))
nodes_fit size cached_nodes from zero below = tt
nodes_fit size cached_nodes from (suc count) below =
    node_fit size from (get_or cached_nodes from None) (nodes_of cached_nodes (from + 1) count) (omega arith)
    (nodes_out cached_nodes (from + 1) count (node_sector from) (inl (omega arith))) (nodes_fit size cached_nodes (from + 1) count (omega arith))

Fit-push : (size : ℕ) (ts : List ℕ) (x : ℕ) → 98 ≤ x → x < size → Fit size ts → Out ts x → Fit size (ts ++ x ∷ [])
Fit-push size [] x low high fit out = (low, high, tt, tt)
Fit-push size (t ∷ ts) x low high fit out =
    (fit.0, fit.1, Out-join ts (x ∷ []) t fit.2 ((λ same. out.0 (sym same)), tt), Fit-push size ts x low high fit.3 out.1)

pub step_takes : (end : ℕ) (cached_nodes : List (Option CachedNode)) (from count : ℕ) → count ≤ 47 → 148 ≤ end → node_sector (from + count) ≤ end
    → FitsJournal end (step cached_nodes from count)
step_takes end cached_nodes from count few large below =
    let nodes = nodes_of cached_nodes from count in
    record {
      few = omega (arith, few, length-append nodes (mark_update (from + count) ∷ []), nodes_short cached_nodes from count);
      fit = targets_of-Fit end (targets (step cached_nodes from count))
          (subst (Fit end) (sym (targets-push nodes (mark_update (from + count))))
          (Fit-push end (targets nodes) 147 (omega arith) (omega arith) (nodes_fit end cached_nodes from count below) (nodes_out cached_nodes from count 147 (inl (omega arith)))));
    }

-- all transactions from one on
pub steps_take : (end : ℕ) (cached_nodes : List (Option CachedNode)) (moved k i : ℕ) → node_sector (length cached_nodes) ≤ end → moved + 47 * (i + k) < length cached_nodes + 47
    → AreTransactions end (map (step_at cached_nodes moved) (range_with_len i k))
steps_take end cached_nodes moved zero i below within = tt
steps_take end cached_nodes moved (suc k) i below within = (
  step_takes end cached_nodes (moved + 47 * i) (min 47 (length cached_nodes - (moved + 47 * i))) (omega arith) (omega arith) (omega arith),
  steps_take end cached_nodes moved k (i + 1) below (omega arith),
)

-- What they hold then

module _ (cached_nodes : List (Option CachedNode)) (from count : ℕ) (image : Image) where
  marked : applied (step cached_nodes from count) image ≡ put (applied (nodes_of cached_nodes from count) image) (mark_update (from + count))
  marked = applied-push (nodes_of cached_nodes from count) (mark_update (from + count)) image

  pub mark_written : applied (step cached_nodes from count) image 147 ≡ mark_sector (from + count)
  mark_written = ap (λ (i : Image). i 147) marked ∙ put_same (applied (nodes_of cached_nodes from count) image) (mark_update (from + count)) 147 refl

  unmarked : (n : ℕ) → (147 ≡ n → ⊥) → applied (step cached_nodes from count) image n ≡ applied (nodes_of cached_nodes from count) image n
  unmarked n other = ap (λ (i : Image). i n) marked ∙ put_other (applied (nodes_of cached_nodes from count) image) (mark_update (from + count)) n other

  pub far_stays : (n : ℕ) → (147 ≡ n → ⊥) → (n < node_sector from) ⊎ (node_sector (from + count) ≤ n) → applied (step cached_nodes from count) image n ≡ image n
  far_stays n other far = unmarked n other ∙ applied_out (nodes_of cached_nodes from count) image n (nodes_out cached_nodes from count n far)

node_at : (cached_nodes : List (Option CachedNode)) (from count place : ℕ) (image : Image) → from ≤ place → place < from + count
    → applied (nodes_of cached_nodes from count) image (node_sector place) ≡ applied (moved_node place (get_or cached_nodes place None)) image (node_sector place)
node_at cached_nodes from zero place image low high = absurd (omega arith)
node_at cached_nodes from (suc count) place image low high =
    let first = moved_node from (get_or cached_nodes from None) in
    let rest = nodes_of cached_nodes (from + 1) count in
    ap (λ (i : Image). i (node_sector place)) (applied-append first rest image)
    ∙ ⊎_elim
    (λ (same : place ≡ from).
    applied_out rest (applied first image) (node_sector place) (nodes_out cached_nodes (from + 1) count (node_sector place) (inl (omega arith)))
    ∙ ap (λ (p : ℕ). applied (moved_node p (get_or cached_nodes p None)) image (node_sector place)) (sym same))
    (λ (other : place ≡ from → ⊥).
    let behind : from + 1 ≤ place = omega (arith, ne_less place from other low) in
    node_at cached_nodes (from + 1) count place (applied first image) behind (omega arith)
    ∙ applied_at (moved_node place (get_or cached_nodes place None)) (applied first image) image (node_sector place)
    (applied_out first image (node_sector place) (node_out from (get_or cached_nodes from None) (node_sector place) (λ e. omega arith))))
    (cases_eq place from)
  where
    ne_less : (a b : ℕ) → (a ≡ b → ⊥) → b ≤ a → b < a
    ne_less a b other le = omega arith

pub node_written : (cached_nodes : List (Option CachedNode)) (from count place : ℕ) (image : Image) → from ≤ place → place < from + count
    → applied (step cached_nodes from count) image (node_sector place) ≡ applied (moved_node place (get_or cached_nodes place None)) image (node_sector place)
node_written cached_nodes from count place image low high =
    unmarked cached_nodes from count image (node_sector place) (λ e. omega arith) ∙ node_at cached_nodes from count place image low high

-- one more place
pub nodes_more : (cached_nodes : List (Option CachedNode)) (from count : ℕ) → nodes_of cached_nodes from (suc count) ≡ nodes_of cached_nodes from count ++ moved_node (from + count) (get_or cached_nodes (from + count) None)
nodes_more cached_nodes from zero =
    append-nil (moved_node from (get_or cached_nodes from None))
    ∙ ap (λ (p : ℕ). moved_node p (get_or cached_nodes p None)) (let q : from ≡ from + 0 = omega arith in q)
nodes_more cached_nodes from (suc count) =
    let node = moved_node from (get_or cached_nodes from None) in
    let rest = nodes_of cached_nodes (from + 1) count in
    ap (λ (us : List Update). node ++ us)
    (nodes_more cached_nodes (from + 1) count
    ∙ ap (λ (p : ℕ). rest ++ moved_node p (get_or cached_nodes p None)) (let q : from + 1 + count ≡ from + suc count = omega arith in q))
    ∙ sym (append_assoc node rest (moved_node (from + suc count) (get_or cached_nodes (from + suc count) None)))

-- Sectors that are written one after the other.
use Rattle.std.proofs.Common.{◌≡◌, ◌≤◌, ◌<◌, ◌+◌, ◌⊎◌, ◌++◌, ℕ, zero, suc, List, [], ◌∷◌, length, map, inl, inr, refl, sym, ap, ◌∙◌, arith, ⊎_elim}
use Rattle.std.specs.List.{range_with_len}
use Rattle.std.proofs.lemmas.Bool.{cases_eq}
use Rattle.std.proofs.lemmas.List.{append-nil, append_assoc}
use Rattle.std.proofs.lemmas.List.FromFn.{length-map-range_with_len, map-range_with_len_more}
use Rattle.disk.specs.declared.update.Update.{Update}
use Rattle.disk.specs.Moments.{Image, put, applied}
use Rattle.journal.specs.Layout.{targets}
use Rattle.journal.proofs.Images.{Out, Fit, put_same, applied_out}
use Rattle.volume.specs.SeatUpdates.{row}

module _ (first : ℕ) (content : ℕ → List ℕ) where
  abbrev update : ℕ → Update
  update k = record { target = first + k; content = content k }

  abbrev part : (from count : ℕ) → List Update
  part from count = map update (range_with_len from count)

  part_out : (from count n : ℕ) → (n < first + from) ⊎ (first + from + count ≤ n) → Out (targets (part from count)) n
  part_out from zero n far = tt
  part_out from (suc count) n far = (
    (λ same. ⊎_elim (λ (low : n < first + from). omega arith) (λ (high : first + from + suc count ≤ n). omega arith) far),
    part_out (from + 1) count n (⊎_elim (λ (low : n < first + from). inl (omega arith)) (λ (high : first + from + suc count ≤ n). inr (omega arith)) far),
  )

  part_fit : (size from count : ℕ) → 98 ≤ first → first + from + count ≤ size → Fit size (targets (part from count))
  part_fit size from zero low below = tt
  part_fit size from (suc count) low below = (
    omega arith,
    omega arith,
    part_out (from + 1) count (first + from) (inl (omega arith)),
    part_fit size (from + 1) count low (omega arith),
  )

  part_there : (from count k : ℕ) (image : Image) → from ≤ k → k < from + count → applied (part from count) image (first + k) ≡ content k
  part_there from zero k image low high = absurd (omega arith)
  part_there from (suc count) k image low high = ⊎_elim
      (λ (same : k ≡ from).
      applied_out (part (from + 1) count) (put image (update from)) (first + k) (part_out (from + 1) count (first + k) (inl (omega arith)))
      ∙ put_same image (update from) (first + k) (let q : first + from ≡ first + k = omega arith in q) ∙ ap content (sym same))
      (λ (other : k ≡ from → ⊥). part_there (from + 1) count k (put image (update from)) (less k from other low) (omega arith))
      (cases_eq k from)
    where
      less : (a b : ℕ) → (a ≡ b → ⊥) → b ≤ a → b + 1 ≤ a
      less a b other le = omega arith

pub row_out : (first count : ℕ) (content : ℕ → List ℕ) (n : ℕ) → (n < first) ⊎ (first + count ≤ n) → Out (targets (row first count content)) n
unfolding row
row_out first count content n far =
    part_out first content 0 count n (⊎_elim (λ (low : n < first). inl (omega arith)) (λ (high : first + count ≤ n). inr (omega arith)) far)

pub row_fit : (size first count : ℕ) (content : ℕ → List ℕ) → 98 ≤ first → first + count ≤ size → Fit size (targets (row first count content))
unfolding row
row_fit size first count content low below = part_fit first content size 0 count low (omega arith)

pub row_there : (first count : ℕ) (content : ℕ → List ℕ) (k : ℕ) (image : Image) → k < count → applied (row first count content) image (first + k) ≡ content k
unfolding row
row_there first count content k image high = part_there first content 0 count k image (omega arith) (omega arith)

pub length-row : (first count : ℕ) (content : ℕ → List ℕ) → length (row first count content) ≡ count
unfolding row
length-row first count content = length-map-range_with_len (update first content) 0 count

-- the row of no sectors, and one sector more
pub row_none : (first : ℕ) (content : ℕ → List ℕ) → row first 0 content ≡ []
unfolding row
row_none first content = refl

pub row_more : (first count : ℕ) (content : ℕ → List ℕ) (target : ℕ) (bytes : List ℕ) → target ≡ first + count → bytes ≡ content count
    → row first (count + 1) content ≡ row first count content ++ (record { target = target; content = bytes }) ∷ []
unfolding row
row_more first count content target bytes there is =
    rw (there, is) (map-range_with_len_more (update first content) 0 count count (omega arith))

-- a row that is appended to other updates, sector by sector
pub pushed_none : (old : List Update) (first : ℕ) (content : ℕ → List ℕ) → old ≡ old ++ row first 0 content
pushed_none old first content = sym (ap (λ (us : List Update). old ++ us) (row_none first content) ∙ append-nil old)

pub pushed_more : (old now next : List Update) (first count : ℕ) (content : ℕ → List ℕ) (target : ℕ) (bytes : List ℕ) → now ≡ old ++ row first count content
    → next ≡ now ++ (record { target = target; content = bytes }) ∷ [] → target ≡ first + count → bytes ≡ content count → next ≡ old ++ row first (count + 1) content
pushed_more old now next first count content target bytes before push there is =
    let one : Update = record { target = target; content = bytes } in
    push ∙ ap (λ (us : List Update). us ++ one ∷ []) before ∙ append_assoc old (row first count content) (one ∷ [])
    ∙ ap (λ (us : List Update). old ++ us) (sym (row_more first count content target bytes there is))

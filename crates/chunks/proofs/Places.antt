-- Chunks end to end: where a place is.
use Rattle.std.proofs.Common.{◌≡◌, ◌<◌, ◌≤◌, ◌+◌, ◌-◌, ◌∙◌, ℕ, zero, suc, List, [], ◌∷◌, length, get_or, take, Some, None, slice_get, inl, inr, refl, sym, ap, subst, arith, length-append}
use Rattle.std.proofs.lemmas.Bool.{cases_eq}
use Rattle.std.proofs.lemmas.List.{append-nil, get_or_default, take_all}
use Rattle.std.proofs.lemmas.List.Concat.{get_or-flat_map}
use Rattle.std.proofs.lemmas.Option.{slice_get_within, slice_get-get_or, get_or_from_slice_get}
use Rattle.std.specs.List.{flat_map, AllByRecursion}
use Rattle.chunks.specs.Chunks.{IsChunk, ends_from, AreChunks, start_of, IsFound}

pub each_at : {R : Type 0} (P : R → Type 0) (cs : List R) (k : ℕ) (e : R) → AllByRecursion P cs → k < length cs → P (get_or cs k e)
each_at P [] k e all within = absurd (omega arith)
each_at P (c ∷ cs) zero e all within = all.0
each_at P (c ∷ cs) (suc k) e all within = each_at P cs k e all.1 (omega arith)

module _ {R X : Type 0} (f : R → List X) where
  pub start_more : (cs : List R) (k : ℕ) (e : R) → k < length cs → start_of f cs (suc k) ≡ start_of f cs k + length (f (get_or cs k e))
  start_more [] k e within = absurd (omega arith)
  start_more (c ∷ cs) zero e within = omega (arith, ap (λ (l : List X). length l) (append-nil (f c)))
  start_more (c ∷ cs) (suc k) e within =
      omega (arith, start_more cs k e (omega arith), length-append (f c) (flat_map f (take (suc k) cs)), length-append (f c) (flat_map f (take k cs)))

  pub start_all : (cs : List R) (k : ℕ) → length cs ≤ k → start_of f cs k ≡ length (flat_map f cs)
  start_all cs k past = ap (λ (l : List R). length (flat_map f l)) (take_all k cs past)

  pub start_within : (cs : List R) (k : ℕ) → start_of f cs k ≤ length (flat_map f cs)
  start_within [] zero = omega arith
  start_within [] (suc k) = omega arith
  start_within (c ∷ cs) zero = omega arith
  start_within (c ∷ cs) (suc k) =
      omega (arith, start_within cs k, length-append (f c) (flat_map f (take k cs)), length-append (f c) (flat_map f cs))

  pub length-ends : (cs : List R) (from : ℕ) → length (ends_from f from cs) ≡ length cs
  length-ends [] from = refl
  length-ends (c ∷ cs) from = omega (arith, length-ends cs (from + length (f c)))

  pub end_at : (cs : List R) (from k d : ℕ) → k < length cs → get_or (ends_from f from cs) k d ≡ from + start_of f cs (suc k)
  end_at [] from k d within = absurd (omega arith)
  end_at (c ∷ cs) from zero d within = omega (arith, ap (λ (l : List X). length l) (append-nil (f c)))
  end_at (c ∷ cs) from (suc k) d within =
      omega (arith, end_at cs (from + length (f c)) k d (omega arith), length-append (f c) (flat_map f (take (suc k) cs)))

  module _ (cs : List R) (ends : List ℕ) (kept : AreChunks f cs ends) where
    pub as_many : length ends ≡ length cs
    as_many = ap (λ (l : List ℕ). length l) kept.ending ∙ length-ends cs 0

    pub end_is : (k d : ℕ) → k < length cs → get_or ends k d ≡ start_of f cs (suc k)
    end_is k d within =
        let found : get_or (ends_from f 0 cs) k d ≡ 0 + start_of f cs (suc k) = end_at cs 0 k d within in
        let same : get_or ends k d ≡ get_or (ends_from f 0 cs) k d = ap (λ (l : List ℕ). get_or l k d) kept.ending in
        omega (arith, found, same)

    pub end_more : (k d : ℕ) (e : R) → k < length cs → get_or ends k d ≡ start_of f cs k + length (f (get_or cs k e))
    end_more k d e within = end_is k d within ∙ start_more cs k e within

    pub end_small : (k d : ℕ) → k < length ends → get_or ends k d ≤ 4294967295
    end_small k d within = omega (arith, end_is k d (omega (arith, as_many)), start_within cs (suc k), kept.few)

    pub end_some : (k d : ℕ) → k < length ends → 0 < get_or ends k d
    end_some k d within =
        let in_chunks : k < length cs = omega (arith, as_many) in
        let e : R = first cs in_chunks in
        omega (arith, end_more k d e in_chunks, (each_at (λ (c : R). IsChunk (f c)) cs k e kept.each in_chunks).some)
      where
        first : (l : List R) → k < length l → R
        first [] low = absurd (omega arith)
        first (c ∷ l) low = c

    -- the chunk that binary search finds

    pub starts_below : (k place : ℕ) → k ≤ length cs → (0 < k → get_or ends (k - 1) 0 ≤ place) → start_of f cs k ≤ place
    starts_below zero place within before = omega arith
    starts_below (suc k) place within before =
        let at : suc k - 1 ≡ k = omega arith in
        let low : get_or ends k 0 ≤ place = subst (λ i. get_or ends i 0 ≤ place) at (before (omega arith)) in
        omega (arith, low, end_is k 0 (omega arith))

    -- the chunk and the place in it
    pub chunk_there : (k place : ℕ) → k ≤ length cs → (0 < k → get_or ends (k - 1) 0 ≤ place) → place < length (flat_map f cs) → k < length cs
    chunk_there k place within before low = elim (cases_eq k (length cs)) [
      | inl all ↦ absurd (omega (arith, low, starts_below k place within before, start_all cs k (omega (arith, all))))
      | inr off ↦ omega (arith, off)
    ]

    module _ (k place len : ℕ) (e : R) (is : e ≡ get_or cs k e) (len_is : len ≡ length (f e)) (within : k ≤ length ends)
        (before : 0 < k → get_or ends (k - 1) 0 ≤ place) (here : k < length ends → place < get_or ends k 0) (low : place < length (flat_map f cs)) where
      its_end : get_or ends k 0 ≡ start_of f cs k + len
      its_end =
          let same : length (f e) ≡ length (f (get_or cs k e)) = ap (λ (c : R). length (f c)) is in
          omega (arith, end_more k 0 e (chunk_there k place (omega (arith, within, as_many)) before low), same, len_is)

      pub end_low : get_or ends k 0 ≤ place + len
      end_low = omega (arith, its_end, starts_below k place (omega (arith, within, as_many)) before)

      pub is_found : IsFound f cs place k (place + len - get_or ends k 0)
      is_found =
          let there : k < length cs = chunk_there k place (omega (arith, within, as_many)) before low in
          let next : place < get_or ends k 0 = here (omega (arith, there, as_many)) in
          record {
            chunk_in = there;
            at_in = λ d. omega (arith, end_more k 0 d there, its_end, starts_below k place (omega (arith, there)) before, next);
            same = omega (arith, its_end, starts_below k place (omega (arith, there)) before);
          }

    pub read : (k place at : ℕ) (e : R) (d : X) → k < length cs → place ≡ start_of f cs k + at → at < length (f (get_or cs k e))
        → get_or (flat_map f cs) place d ≡ get_or (f (get_or cs k e)) at d
    read k place at e d within is low = ap (λ i. get_or (flat_map f cs) i d) is ∙ get_or-flat_map f cs k at e d within low

    pub chunk_len : (k : ℕ) (e d : R) → e ≡ get_or cs k e → k < length cs → length (f e) ≡ length (f (get_or cs k d))
    chunk_len k e d is within = ap (λ (c : R). length (f c)) (is ∙ get_or_default cs k e d within)

    pub good_chunk : (k : ℕ) (e : R) → e ≡ get_or cs k e → k < length cs → IsChunk (f e)
    good_chunk k e is within = subst (λ (c : R). IsChunk (f c)) (sym is) (each_at (λ (c : R). IsChunk (f c)) cs k e kept.each within)

    -- where the last chunk ends

    pub last_end : (end : ℕ) → slice_get ends (length ends - 1) ≡ Some end → end ≡ length (flat_map f cs)
    last_end end is =
        let some : length ends - 1 < length ends = slice_get_within ends (length ends - 1) end is in
        let last : get_or ends (length ends - 1) 0 ≡ end = get_or_from_slice_get ends (length ends - 1) end 0 is in
        omega (arith, last, end_is (length ends - 1) 0 (omega (arith, some, as_many)), start_all cs (suc (length ends - 1)) (omega (arith, some, as_many)))

    pub no_end : slice_get ends (length ends - 1) ≡ None → 0 ≡ length (flat_map f cs)
    no_end is = elim (cases_eq (length ends) 0) [
      | inl none ↦ start_all cs 0 (omega (arith, none, as_many))
      | inr some ↦
          let last : slice_get ends (length ends - 1) ≡ Some (get_or ends (length ends - 1) 0) = slice_get-get_or ends (length ends - 1) 0 (omega (arith, some)) in
          absurd (cc (is, last))
    ]

    -- the entry that is found

    module _ (place k at : ℕ) (found : IsFound f cs place k at) where
      pub found_within : (e : R) → place < length (flat_map f cs)
      found_within e = omega (arith, found.same, found.at_in e, start_more cs k e found.chunk_in, start_within cs (suc k))

      pub found_entry : (e : R) (x : X) → e ≡ get_or cs k e → x ≡ get_or (f e) at x → Some x ≡ slice_get (flat_map f cs) place
      found_entry e x is entry_is =
          let in_chunk : get_or (flat_map f cs) place x ≡ get_or (f (get_or cs k e)) at x = read k place at e x found.chunk_in found.same (found.at_in e) in
          let its : get_or (f e) at x ≡ get_or (f (get_or cs k e)) at x = ap (λ (c : R). get_or (f c) at x) is in
          ap Some (entry_is ∙ (its ∙ sym in_chunk)) ∙ sym (slice_get-get_or (flat_map f cs) place x (found_within e))

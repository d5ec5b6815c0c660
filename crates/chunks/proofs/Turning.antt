-- Where a test turns in chunks, and in the list that they are.
use Rattle.std.proofs.Common.{◌≡◌, ◌<◌, ◌≤◌, ◌+◌, ◌-◌, ◌∙◌, ℕ, zero, suc, Bool, true, false, true≢false, List, [], ◌∷◌, length, get_or, inl, inr, refl, sym, ap, subst, arith}
use Rattle.std.proofs.lemmas.Bool.{cases_eq}
use Rattle.std.proofs.lemmas.List.Sums.{position_or_len_is}
use Rattle.std.proofs.lemmas.List.Concat.{get_or-flat_map}
use Rattle.std.specs.List.{flat_map, position_or_len, All}
use Rattle.chunks.specs.Chunks.{IsChunk, AreChunks, start_of}
use Rattle.chunks.specs.Search.{IsMonotone, IsTurn, last_or}
use Rattle.chunks.proofs.Places.{each_at, start_more, start_all, start_within, end_more, chunk_len}

module _ {X : Type 0} (test : X → Bool) where
  fails_below : (xs : List X) (place : ℕ) → IsMonotone test xs → IsTurn test xs place → (d : X) (k : ℕ) → k < place → test (get_or xs k d) ≡ false
  fails_below xs place monotone turn d k low = which (test (get_or xs k d)) refl
    where
      last : test (get_or xs (place - 1) d) ≡ false
      last = turn.before d (omega arith)

      which : (b : Bool) → test (get_or xs k d) ≡ b → test (get_or xs k d) ≡ false
      which false is = is
      which true is = elim (cases_eq k (place - 1)) [
        | inl same ↦ ap (λ i. test (get_or xs i d)) same ∙ last
        | inr off ↦ absurd (true≢false (sym (monotone k (place - 1) d (omega (arith, off)) (omega (arith, turn.within)) is) ∙ last))
      ]

  pub turn_is : (xs : List X) (place : ℕ) → IsMonotone test xs → IsTurn test xs place → place ≡ position_or_len test xs
  turn_is [] place monotone turn = omega (arith, turn.within)
  turn_is (x ∷ xs) place monotone turn =
      sym (position_or_len_is test (x ∷ xs) place x turn.within (fails_below (x ∷ xs) place monotone turn x) (turn.here x))

module _ {R X : Type 0} (f : R → List X) (cs : List R) (ends : List ℕ) (kept : AreChunks f cs ends) where
  -- what holds of each entry holds of each in a chunk

  pub all_in : (P : X → Type 0) (now : List X) → flat_map f cs ≡ now → All P now → All (λ c. All P (f c)) cs
  all_in P now same all k e within at d low =
      let found : get_or now (start_of f cs k + at) d ≡ get_or (f (get_or cs k e)) at d =
      ap (λ (l : List X). get_or l (start_of f cs k + at) d) (sym same) ∙ get_or-flat_map f cs k at e d within low in
      subst P found
      (all (start_of f cs k + at) d
      (omega (arith, ap (λ (l : List X). length l) same, start_more f cs k e within, start_within f cs (suc k), low)))

  pub all_of : (P : X → Type 0) (now : List X) → flat_map f cs ≡ now → All P now → (k : ℕ) (e : R) → e ≡ get_or cs k e → k < length cs → All P (f e)
  all_of P now same all k e is within = subst (λ (c : R). All P (f c)) (sym is) (all_in P now same all k e within)

  pub all_some : All (λ c. 0 < length (f c)) cs
  all_some k e within = (each_at (λ (c : R). IsChunk (f c)) cs k e kept.each within).some

  module _ (test : X → Bool) (k : ℕ) (turn : (d : X) → IsTurn (λ c. test (last_or (f c) d)) cs k) where
    turn_before : (j : ℕ) → j ≡ k → (e : R) (d : X) → 0 < j → test (get_or (flat_map f cs) (start_of f cs k - 1) d) ≡ false
    turn_before zero is e d some = absurd (omega arith)
    turn_before (suc j) is e d some =
        let here : j < length cs = omega (arith, (turn d).within, is) in
        let many : 0 < length (f (get_or cs j e)) = all_some j e here in
        let before : k - 1 ≡ j = omega (arith, is) in
        let next : start_of f cs k ≡ start_of f cs (suc j) = ap (start_of f cs) (sym is) in
        let at : start_of f cs k - 1 ≡ start_of f cs j + (length (f (get_or cs j e)) - 1) = omega (arith, next, start_more f cs j e here, many) in
        ap (λ i. test (get_or (flat_map f cs) i d)) at
        ∙ (ap test (get_or-flat_map f cs j (length (f (get_or cs j e)) - 1) e d here (omega (arith, many)))
        ∙ (ap (λ i. test (last_or (f (get_or cs i e)) d)) (sym before) ∙ (turn d).before e (omega (arith, is))))

    turn_past : length cs ≤ k → IsTurn test (flat_map f cs) (length (flat_map f cs))
    turn_past past = record {
      within = omega arith;
      before = λ d some. found cs refl d some;
      here = λ d low. absurd (omega (arith, low));
    }
      where
        found : (l : List R) → l ≡ cs → (d : X) → 0 < length (flat_map f cs) → test (get_or (flat_map f cs) (length (flat_map f cs) - 1) d) ≡ false
        found [] is d some = absurd (omega (arith, some, ap (λ (m : List R). length (flat_map f m)) is))
        found (e ∷ l) is d some =
            let many : 0 < k = omega (arith, past, ap (λ (m : List R). length m) is) in
            ap (λ n. test (get_or (flat_map f cs) (n - 1) d)) (sym (start_all f cs k past)) ∙ turn_before k refl e d many

    pub past_position : length cs ≤ k → (now : List X) → flat_map f cs ≡ now → IsMonotone test now → length now ≡ position_or_len test now
    past_position past now same monotone =
        turn_is test now (length now) monotone (subst (λ (l : List X). IsTurn test l (length l)) same (turn_past past))

    module _ (at : ℕ) (e : R) (here : k < length cs) (inner : IsTurn test (f (get_or cs k e)) at) where
      some : 0 < length (f (get_or cs k e))
      some = all_some k e here

      not_past : (d : X) → at < length (f (get_or cs k e))
      not_past d = elim (cases_eq at (length (f (get_or cs k e)))) [
        | inl same ↦
            absurd (true≢false (sym ((turn d).here e here)
            ∙ (ap (λ i. test (get_or (f (get_or cs k e)) (i - 1) d)) (sym same) ∙ inner.before d (omega (arith, same, some)))))
        | inr off ↦ omega (arith, off, inner.within)
      ]

      before_at : (a : ℕ) → a ≡ at → (d : X) → 0 < start_of f cs k + at → test (get_or (flat_map f cs) (start_of f cs k + at - 1) d) ≡ false
      before_at zero is d many =
          let same : start_of f cs k + at - 1 ≡ start_of f cs k - 1 = omega (arith, is) in
          ap (λ i. test (get_or (flat_map f cs) i d)) same ∙ turn_before k refl e d (late k refl)
        where
          late : (j : ℕ) → j ≡ k → 0 < j
          late zero is_first = absurd (omega (arith, many, is, ap (start_of f cs) is_first))
          late (suc j) is_later = omega arith
      before_at (suc a) is d many =
          let same : start_of f cs k + at - 1 ≡ start_of f cs k + a = omega (arith, is) in
          let inner_same : at - 1 ≡ a = omega (arith, is) in
          ap (λ i. test (get_or (flat_map f cs) i d)) same
          ∙ (ap test (get_or-flat_map f cs k a e d here (omega (arith, is, inner.within)))
          ∙ (ap (λ i. test (get_or (f (get_or cs k e)) i d)) (sym inner_same) ∙ inner.before d (omega (arith, is))))

      turn_in : IsTurn test (flat_map f cs) (start_of f cs k + at)
      turn_in = record {
        within = omega (arith, inner.within, start_more f cs k e here, start_within f cs (suc k));
        before = before_at at refl;
        here = λ d low. ap test (get_or-flat_map f cs k at e d here (not_past d)) ∙ inner.here d (not_past d);
      }

    pub found_position : (at end len : ℕ) (e : R) → e ≡ get_or cs k e → k < length cs → IsTurn test (f e) at → end ≡ get_or ends k end → len ≡ length (f e)
        → (now : List X) → flat_map f cs ≡ now → IsMonotone test now → end - len + at ≡ position_or_len test now
    found_position at end len e is here inner end_is len_is now same monotone =
        let place : end - len + at ≡ start_of f cs k + at =
        omega (arith, end_is, len_is, end_more f cs ends kept k end e here, chunk_len f cs ends kept k e e is here) in
        let turned : IsTurn test (flat_map f cs) (start_of f cs k + at) = turn_in at e here (subst (λ (c : R). IsTurn test (f c) at) is inner) in
        place ∙ turn_is test now (start_of f cs k + at) monotone (subst (λ (l : List X). IsTurn test l (start_of f cs k + at)) same turned)

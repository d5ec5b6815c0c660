-- The laws of maps by rising key.
use Rattle.std.proofs.Common.{ℕ, [], ◌∷◌, ◌≡◌, ◌≢◌, ◌+◌, ◌<◌, ◌≤◌, inl, inr, refl, sym, ap, ap₂, ◌∙◌, arith, eqb, eq-eqb, ne_eqb, lt-ltb, le-ltb}
use Rattle.std.specs.Prelude.{Some, None}
use Rattle.std.proofs.lemmas.Bool.{cases_order, cases_eq, cases_lt}
use Rattle.model_tree.specs.Trees.Keyed.{Keyed, at, here_or, with, without, IsAbove, total, worth_at, ReadsBack, KeepsOrder}

module _ {A : Type 0} where
  -- below its least key a map has nothing
  pub at-below : (entries : Keyed A) (least key : ℕ) → IsAbove least entries → key ≤ least → at key entries ≡ None
  at-below [] least key above low = refl
  at-below (entry ∷ rest) least key above low =
      let apart : key ≢ entry.0 = omega arith in
      rw (ne_eqb key entry.0 apart) (at-below rest entry.0 key above.1 (omega arith))

  pub at-first : (key other : ℕ) (value : A) (rest : Keyed A) → other ≡ key → at other ((key, value) ∷ rest) ≡ Some value
  at-first key other value rest same = rw (eq-eqb other key same)

  pub at-rest : (key other : ℕ) (value : A) (rest : Keyed A) → other ≢ key → at other ((key, value) ∷ rest) ≡ at other rest
  at-rest key other value rest apart = rw (ne_eqb other key apart)

  -- a lower least key serves as well
  pub IsAbove-lower : (entries : Keyed A) (least lower : ℕ) → IsAbove least entries → lower ≤ least → IsAbove lower entries
  IsAbove-lower [] least lower above low = tt
  IsAbove-lower (entry ∷ rest) least lower above low = (omega arith, above.1)

  -- Two maps that hold the same at each key

  same_value : (x y : A) → Some x ≡ Some y → x ≡ y
  same_value x y same = cc

  same_rest : (key : ℕ) (x y : A) (a b : Keyed A) → IsAbove key a → IsAbove key b
      → ((other : ℕ) → at other ((key, x) ∷ a) ≡ at other ((key, y) ∷ b)) → (other : ℕ) → at other a ≡ at other b
  same_rest key x y a b above_a above_b same other = elim (cases_eq other key) [
    | inl here ↦ at-below a key other above_a (omega arith) ∙ sym (at-below b key other above_b (omega arith))
    | inr apart ↦ sym (at-rest key other x a apart) ∙ (same other ∙ at-rest key other y b apart)
  ]

  pub some≢none : (x : A) → Some x ≡ None → ⊥
  some≢none x same = cc

  -- a first key that is lower than the other map's is missed there
  lower_first : (key least : ℕ) (x : A) (a b : Keyed A) → IsAbove least b → key ≤ least
      → ((other : ℕ) → at other ((key, x) ∷ a) ≡ at other b) → ⊥
  lower_first key least x a b above low same =
      some≢none x (sym (at-first key key x a refl) ∙ (same key ∙ at-below b least key above low))

  pub only_map : (key : ℕ) (a b : Keyed A) → IsAbove key a → IsAbove key b → ((other : ℕ) → at other a ≡ at other b) → a ≡ b
  only_map key [] [] above_a above_b same = refl
  only_map key [] (y ∷ b) above_a above_b same =
      absurd (lower_first y.0 y.0 y.1 b [] tt (omega arith) (λ other. sym (same other)))
  only_map key (x ∷ a) [] above_a above_b same = absurd (lower_first x.0 x.0 x.1 a [] tt (omega arith) same)
  only_map key (x ∷ a) (y ∷ b) above_a above_b same = elim (cases_order x.0 y.0) [
    | inl one ↦
        let here : (x.0, y.1) ≡ y = ap (λ k. (k, y.1)) one in
        let lined : (other : ℕ) → at other ((x.0, x.1) ∷ a) ≡ at other ((x.0, y.1) ∷ b)
        = λ other. same other ∙ sym (ap (λ e. at other (e ∷ b)) here) in
        let above_b' : IsAbove x.0 b = rw one above_b.1 in
        let value : x.1 ≡ y.1 = same_value x.1 y.1
        (sym (at-first x.0 x.0 x.1 a refl) ∙ (lined x.0 ∙ at-first x.0 x.0 y.1 b refl)) in
        let rest : a ≡ b = only_map x.0 a b above_a.1 above_b' (same_rest x.0 x.1 y.1 a b above_a.1 above_b' lined) in
        ap₂ (λ e r. e ∷ r) (ap (λ v. (x.0, v)) value ∙ here) rest
    | inr apart ↦ elim apart [
      | inl low ↦ absurd (lower_first x.0 x.0 x.1 a (y ∷ b) (low, above_b.1) (omega arith) same)
      | inr high ↦ absurd (lower_first y.0 y.0 y.1 b (x ∷ a) (high, above_a.1) (omega arith) (λ other. sym (same other)))
    ]
  ]

  -- What `with` makes of a map, by the position of the key

  with-here : (entry : ℕ × A) (rest : Keyed A) (key : ℕ) (value : A) → key ≡ entry.0
      → with (entry ∷ rest) key value ≡ (key, value) ∷ rest
  with-here entry rest key value same = rw (eq-eqb key entry.0 same)

  with-before : (entry : ℕ × A) (rest : Keyed A) (key : ℕ) (value : A) → key < entry.0
      → with (entry ∷ rest) key value ≡ (key, value) ∷ entry ∷ rest
  with-before entry rest key value low =
      let apart : key ≢ entry.0 = omega arith in rw (ne_eqb key entry.0 apart, lt-ltb key entry.0 low)

  with-behind : (entry : ℕ × A) (rest : Keyed A) (key : ℕ) (value : A) → entry.0 < key
      → with (entry ∷ rest) key value ≡ entry ∷ with rest key value
  with-behind entry rest key value high =
      let apart : key ≢ entry.0 = omega arith in
      let low : entry.0 ≤ key = omega arith in rw (ne_eqb key entry.0 apart, le-ltb key entry.0 low)

  pub at-with_same : (entries : Keyed A) (key : ℕ) (value : A) → at key (with entries key value) ≡ Some value
  at-with_same [] key value = at-first key key value [] refl
  at-with_same (entry ∷ rest) key value = elim (cases_order key entry.0) [
    | inl one ↦ rw (with-here entry rest key value one) (at-first key key value rest refl)
    | inr apart ↦ elim apart [
      | inl low ↦ rw (with-before entry rest key value low) (at-first key key value (entry ∷ rest) refl)
      | inr high ↦ rw (with-behind entry rest key value high)
          (at-rest entry.0 key entry.1 (with rest key value) (omega arith) ∙ at-with_same rest key value)
    ]
  ]

  -- the same map, except for its first value or for what follows its first entry
  at-first_other : (entry : ℕ × A) (rest : Keyed A) (key other : ℕ) (value : A) → key ≡ entry.0 → other ≢ key
      → at other ((key, value) ∷ rest) ≡ at other (entry ∷ rest)
  at-first_other entry rest key other value one apart =
      at-rest key other value rest apart ∙ sym (at-rest entry.0 other entry.1 rest (λ same. apart (same ∙ sym one)))

  at-rest_other : (entry : ℕ × A) (a b : Keyed A) (other : ℕ) → at other a ≡ at other b
      → at other (entry ∷ a) ≡ at other (entry ∷ b)
  at-rest_other entry a b other same = ap (λ o. here_or (eqb other entry.0) entry.1 o) same

  pub at-with_other : (entries : Keyed A) (key other : ℕ) (value : A) → other ≢ key
      → at other (with entries key value) ≡ at other entries
  at-with_other [] key other value apart = at-rest key other value [] apart
  at-with_other (entry ∷ rest) key other value apart = elim (cases_order key entry.0) [
    | inl one ↦ rw (with-here entry rest key value one) (at-first_other entry rest key other value one apart)
    | inr off ↦ elim off [
      | inl low ↦ rw (with-before entry rest key value low) (at-rest key other value (entry ∷ rest) apart)
      | inr high ↦ rw (with-behind entry rest key value high)
          (at-rest_other entry (with rest key value) rest other (at-with_other rest key other value apart))
    ]
  ]

  -- Two changes of a map, one after the other: of two at one key only the second remains, and those
  -- at two keys commute

  pub with-with_same : (entries : Keyed A) (key : ℕ) (value other : A) → with (with entries key value) key other ≡ with entries key other
  with-with_same [] key value other = with-here (key, value) [] key other refl
  with-with_same (entry ∷ rest) key value other = elim (cases_order key entry.0) [
    | inl one ↦ ap (λ l. with l key other) (with-here entry rest key value one)
        ∙ (with-here (key, value) rest key other refl ∙ sym (with-here entry rest key other one))
    | inr apart ↦ elim apart [
      | inl low ↦ ap (λ l. with l key other) (with-before entry rest key value low)
          ∙ (with-here (key, value) (entry ∷ rest) key other refl ∙ sym (with-before entry rest key other low))
      | inr high ↦ ap (λ l. with l key other) (with-behind entry rest key value high)
          ∙ (with-behind entry (with rest key value) key other high
          ∙ (ap (λ l. entry ∷ l) (with-with_same rest key value other) ∙ sym (with-behind entry rest key other high)))
    ]
  ]

  key_before : (entry : ℕ × A) (rest : Keyed A) (key other : ℕ) (value more : A) → key < other → key < entry.0
      → with (with (entry ∷ rest) other more) key value ≡ (key, value) ∷ with (entry ∷ rest) other more
  key_before entry rest key other value more below low = elim (cases_order other entry.0) [
    | inl one ↦
        let is = with-here entry rest other more one in
        ap (λ l. with l key value) is ∙ (with-before (other, more) rest key value below ∙ ap (λ l. (key, value) ∷ l) (sym is))
    | inr apart ↦ elim apart [
      | inl first ↦
          let is = with-before entry rest other more first in
          ap (λ l. with l key value) is
          ∙ (with-before (other, more) (entry ∷ rest) key value below ∙ ap (λ l. (key, value) ∷ l) (sym is))
      | inr behind ↦
          let is = with-behind entry rest other more behind in
          ap (λ l. with l key value) is
          ∙ (with-before entry (with rest other more) key value low ∙ ap (λ l. (key, value) ∷ l) (sym is))
    ]
  ]

  with-with_above : (entries : Keyed A) (key other : ℕ) (value more : A) → key < other
      → with (with entries key value) other more ≡ with (with entries other more) key value
  with-with_above [] key other value more below =
      with-behind (key, value) [] other more below ∙ sym (with-before (other, more) [] key value below)
  with-with_above (entry ∷ rest) key other value more below = elim (cases_order key entry.0) [
    | inl one ↦
        let high : entry.0 < other = omega arith in
        ap (λ l. with l other more) (with-here entry rest key value one)
        ∙ (with-behind (key, value) rest other more below
        ∙ (sym (with-here entry (with rest other more) key value one)
        ∙ ap (λ l. with l key value) (sym (with-behind entry rest other more high))))
    | inr apart ↦ elim apart [
      | inl low ↦ ap (λ l. with l other more) (with-before entry rest key value low)
          ∙ (with-behind (key, value) (entry ∷ rest) other more below
          ∙ sym (key_before entry rest key other value more below low))
      | inr high ↦
          let further : entry.0 < other = omega arith in
          ap (λ l. with l other more) (with-behind entry rest key value high)
          ∙ (with-behind entry (with rest key value) other more further
          ∙ (ap (λ l. entry ∷ l) (with-with_above rest key other value more below)
          ∙ (sym (with-behind entry (with rest other more) key value high)
          ∙ ap (λ l. with l key value) (sym (with-behind entry rest other more further)))))
    ]
  ]

  pub with-with_other : (entries : Keyed A) (key other : ℕ) (value more : A) → key ≢ other
      → with (with entries key value) other more ≡ with (with entries other more) key value
  with-with_other entries key other value more apart = elim (cases_order key other) [
    | inl same ↦ absurd (apart same)
    | inr off ↦ elim off [
      | inl below ↦ with-with_above entries key other value more below
      | inr above ↦ sym (with-with_above entries other key more value above)
    ]
  ]

  -- What `without` makes of a map

  without-here : (entry : ℕ × A) (rest : Keyed A) (key : ℕ) → key ≡ entry.0 → without (entry ∷ rest) key ≡ without rest key
  without-here entry rest key same = rw (eq-eqb key entry.0 same)

  without-elsewhere : (entry : ℕ × A) (rest : Keyed A) (key : ℕ) → key ≢ entry.0
      → without (entry ∷ rest) key ≡ entry ∷ without rest key
  without-elsewhere entry rest key apart = rw (ne_eqb key entry.0 apart)

  pub at-without_same : (entries : Keyed A) (key : ℕ) → at key (without entries key) ≡ None
  at-without_same [] key = refl
  at-without_same (entry ∷ rest) key = elim (cases_eq key entry.0) [
    | inl one ↦ rw (without-here entry rest key one) (at-without_same rest key)
    | inr apart ↦ rw (without-elsewhere entry rest key apart)
        (at-rest entry.0 key entry.1 (without rest key) apart ∙ at-without_same rest key)
  ]

  pub at-without_other : (entries : Keyed A) (key other : ℕ) → other ≢ key → at other (without entries key) ≡ at other entries
  at-without_other [] key other apart = refl
  at-without_other (entry ∷ rest) key other apart = elim (cases_eq key entry.0) [
    | inl one ↦ rw (without-here entry rest key one)
        (at-without_other rest key other apart ∙ sym (at-rest entry.0 other entry.1 rest (λ same. apart (same ∙ sym one))))
    | inr off ↦ rw (without-elsewhere entry rest key off)
        (at-rest_other entry (without rest key) rest other (at-without_other rest key other apart))
  ]

  -- Order and sums

  pub IsAbove-with : (entries : Keyed A) (key least : ℕ) (value : A) → IsAbove least entries → least < key
      → IsAbove least (with entries key value)
  IsAbove-with [] key least value above high = (high, tt)
  IsAbove-with (entry ∷ rest) key least value above high = elim (cases_order key entry.0) [
    | inl one ↦ rw (with-here entry rest key value one) (high, rw one above.1)
    | inr apart ↦ elim apart [
      | inl low ↦ rw (with-before entry rest key value low) (high, (low, above.1))
      | inr behind ↦ rw (with-behind entry rest key value behind)
          (above.0, IsAbove-with rest key entry.0 value above.1 behind)
    ]
  ]

  pub IsAbove-without : (entries : Keyed A) (key least : ℕ) → IsAbove least entries → IsAbove least (without entries key)
  IsAbove-without [] key least above = tt
  IsAbove-without (entry ∷ rest) key least above = elim (cases_eq key entry.0) [
    | inl one ↦ rw (without-here entry rest key one)
        (IsAbove-lower (without rest key) entry.0 least (IsAbove-without rest key entry.0 above.1) (omega arith))
    | inr apart ↦ rw (without-elsewhere entry rest key apart) (above.0, IsAbove-without rest key entry.0 above.1)
  ]

  pub total-with : (worth : A → ℕ) (entries : Keyed A) (key least : ℕ) (value : A) → IsAbove least entries
      → total worth (with entries key value) + worth_at worth (at key entries) ≡ total worth entries + worth value
  total-with worth [] key least value above = omega arith
  total-with worth (entry ∷ rest) key least value above = elim (cases_order key entry.0) [
    | inl one ↦ rw (with-here entry rest key value one, at-first entry.0 key entry.1 rest one) (omega arith)
    | inr apart ↦ elim apart [
      | inl low ↦ rw (
        with-before entry rest key value low,
        at-below (entry ∷ rest) key key (low, above.1) (omega arith),
      ) (omega arith)
      | inr behind ↦ rw (with-behind entry rest key value behind, at-rest entry.0 key entry.1 rest (omega arith))
          (omega (arith, total-with worth rest key entry.0 value above.1))
    ]
  ]

  -- a map without a key that it lacks
  without-below : (entries : Keyed A) (least key : ℕ) → IsAbove least entries → key ≤ least → without entries key ≡ entries
  without-below [] least key above low = refl
  without-below (entry ∷ rest) least key above low =
      let apart : key ≢ entry.0 = omega arith in
      rw (without-elsewhere entry rest key apart)
      (ap (λ r. entry ∷ r) (without-below rest entry.0 key above.1 (omega arith)))

  pub total-without : (worth : A → ℕ) (entries : Keyed A) (key least : ℕ) → IsAbove least entries
      → total worth (without entries key) + worth_at worth (at key entries) ≡ total worth entries
  total-without worth [] key least above = refl
  total-without worth (entry ∷ rest) key least above = elim (cases_eq key entry.0) [
    | inl one ↦ rw (
      without-here entry rest key one,
      at-first entry.0 key entry.1 rest one,
      without-below rest entry.0 key above.1 (omega arith),
    ) (omega arith)
    | inr apart ↦ rw (without-elsewhere entry rest key apart, at-rest entry.0 key entry.1 rest apart)
        (omega (arith, total-without worth rest key entry.0 above.1))
  ]

-- Every key of a map is above its lower bound
module _ {A : Type 0} where
  pub at-above : (entries : Keyed A) (least key : ℕ) (value : A) → IsAbove least entries → at key entries ≡ Some value → least < key
  at-above entries least key value above is = elim (cases_lt least key) [
    | inl low ↦ low
    | inr high ↦ absurd (some≢none value (sym is ∙ at-below entries least key above high))
  ]

  -- a sum to which no value in the map adds
  pub total-none : (worth : A → ℕ) (entries : Keyed A) (least : ℕ) → IsAbove least entries
      → ((key : ℕ) (value : A) → at key entries ≡ Some value → worth value ≡ 0) → total worth entries ≡ 0
  total-none worth [] least above none = refl
  total-none worth (entry ∷ rest) least above none =
      let here : worth entry.1 ≡ 0 = none entry.0 entry.1 (at-first entry.0 entry.0 entry.1 rest refl) in
      let others : total worth rest ≡ 0 = total-none worth rest entry.0 above.1 (λ key value is.
      none key value (at-rest entry.0 key entry.1 rest
      (let high : entry.0 < key = at-above rest entry.0 key value above.1 is in omega arith) ∙ is)) in
      omega arith

pub reads_back : (A : Type 0) → ReadsBack A
reads_back A = record {
  at-with_same = at-with_same;
  at-with_other = at-with_other;
  at-without_same = at-without_same;
  at-without_other = at-without_other;
}

pub keeps_order : (A : Type 0) → KeepsOrder A
keeps_order A = record {
  IsAbove-with = IsAbove-with;
  IsAbove-without = IsAbove-without;
  total-with = total-with;
  total-without = total-without;
}

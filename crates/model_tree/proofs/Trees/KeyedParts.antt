-- Maps of which some entries are kept, and how many entries there are.
use Rattle.std.proofs.Common.{ℕ, Bool, true, false, [], ◌∷◌, ◌≡◌, ◌+◌, ◌<◌, ◌≤◌, inl, inr, refl, sym, ap, ◌∙◌, subst, arith, cond, length, filter, find}
use Rattle.std.specs.Prelude.{Some}
use Rattle.std.proofs.lemmas.Bool.{cases_eq}
use Rattle.model_tree.specs.Trees.Keyed.{Keyed, at, with, without, IsAbove, total, worth_at}
use Rattle.model_tree.proofs.Trees.KeyedLaws.{at-first, at-rest, at-above, IsAbove-lower, total-with, total-without, some≢none}

-- Maps of which some entries are kept

module _ {A : Type 0} (keeps : ℕ × A → Bool) where
  kept_above : (b : Bool) (entry : ℕ × A) (rest : Keyed A) (least : ℕ) → least < entry.0 → IsAbove entry.0 rest → IsAbove least (cond b (entry ∷ rest) rest)
  kept_above true entry rest least low above = (low, above)
  kept_above false entry rest least low above = IsAbove-lower rest entry.0 least above (omega arith)

  pub IsAbove-filter : (entries : Keyed A) (least : ℕ) → IsAbove least entries → IsAbove least (filter keeps entries)
  IsAbove-filter [] least above = tt
  IsAbove-filter (entry ∷ rest) least above =
      kept_above (keeps entry) entry (filter keeps rest) least above.0 (IsAbove-filter rest entry.0 above.1)

  kept_few : (b : Bool) (entry : ℕ × A) (rest : Keyed A) (most : ℕ) → length rest ≤ most → length (cond b (entry ∷ rest) rest) ≤ most + 1
  kept_few true entry rest most few = omega (arith, few)
  kept_few false entry rest most few = omega (arith, few)

  pub length-filter : (entries : Keyed A) → length (filter keeps entries) ≤ length entries
  length-filter [] = omega arith
  length-filter (entry ∷ rest) =
      let here = kept_few (keeps entry) entry (filter keeps rest) (length rest) (length-filter rest) in omega (arith, here)

  -- what is in it was in the map, and passes the test
  pub at-filter : (entries : Keyed A) (least key : ℕ) (value : A) → IsAbove least entries → at key (filter keeps entries) ≡ Some value
      → (at key entries ≡ Some value) × (keeps (key, value) ≡ true)
  at-filter [] least key value above has = absurd (some≢none value (sym has))
  at-filter (entry ∷ rest) least key value above has =
      by_test (λ there. others (at-filter rest entry.0 key value above.1 there)) (keeps entry) refl has
    where
      others : (at key rest ≡ Some value) × (keeps (key, value) ≡ true) → (at key (entry ∷ rest) ≡ Some value) × (keeps (key, value) ≡ true)
      others behind =
          let high : entry.0 < key = at-above rest entry.0 key value above.1 behind.0 in
          (at-rest entry.0 key entry.1 rest (omega arith) ∙ behind.0, behind.1)

      same_value : (x y : A) → Some x ≡ Some y → x ≡ y
      same_value x y same = cc

      by_test : (at key (filter keeps rest) ≡ Some value → (at key (entry ∷ rest) ≡ Some value) × (keeps (key, value) ≡ true))
          → (b : Bool) → keeps entry ≡ b → at key (cond b (entry ∷ filter keeps rest) (filter keeps rest)) ≡ Some value
          → (at key (entry ∷ rest) ≡ Some value) × (keeps (key, value) ≡ true)
      by_test behind false test there = behind there
      by_test behind true test there = elim (cases_eq key entry.0) [
        | inl one ↦
            let value_is : entry.1 ≡ value = same_value entry.1 value (sym (at-first entry.0 key entry.1 (filter keeps rest) one) ∙ there) in
            (at-first entry.0 key entry.1 rest one ∙ ap (λ v. Some v) value_is, subst (λ (e : ℕ × A). keeps e ≡ true) (same_entry key value one value_is) test)
        | inr apart ↦ behind (sym (at-rest entry.0 key entry.1 (filter keeps rest) apart) ∙ there)
      ]
        where
          same_entry : (key : ℕ) (value : A) → key ≡ entry.0 → entry.1 ≡ value → entry ≡ (key, value)
          same_entry key value one value_is = ap (λ k. (k, entry.1)) (sym one) ∙ ap (λ v. (key, v)) value_is

-- How many entries there are

pub total-ones : {A : Type 0} (entries : Keyed A) → total (λ value. 1) entries ≡ length entries
total-ones [] = refl
total-ones (entry ∷ rest) = let others = total-ones rest in omega (arith, others)

pub length-with_new : {A : Type 0} (entries : Keyed A) (key : ℕ) (value : A) → IsAbove 0 entries → length (with entries key value) ≤ length entries + 1
length-with_new entries key value above =
    let sum = total-with (λ value. 1) entries key 0 value above in
    let before = total-ones entries in
    let after = total-ones (with entries key value) in
    omega (arith, sum, before, after)

pub length-with_same : {A : Type 0} (entries : Keyed A) (key : ℕ) (old value : A) → IsAbove 0 entries → at key entries ≡ Some old
    → length (with entries key value) ≡ length entries
length-with_same entries key old value above there =
    let sum : total (λ v. 1) (with entries key value) + 1 ≡ total (λ v. 1) entries + 1
    = ap (λ o. total (λ v. 1) (with entries key value) + worth_at (λ v. 1) o) (sym there) ∙ total-with (λ v. 1) entries key 0 value above in
    let before = total-ones entries in
    let after = total-ones (with entries key value) in
    omega (arith, sum, before, after)

pub length-without : {A : Type 0} (entries : Keyed A) (key : ℕ) → IsAbove 0 entries → length (without entries key) ≤ length entries
length-without entries key above =
    let sum = total-without (λ v. 1) entries key 0 above in
    let before = total-ones entries in
    let after = total-ones (without entries key) in
    omega (arith, sum, before, after)

-- the entry that is found is in the map, and passes the test
pub find-at : {A : Type 0} (test : ℕ × A → Bool) (entries : Keyed A) (least : ℕ) (found : ℕ × A) → IsAbove least entries → find test entries ≡ Some found
    → (at found.0 entries ≡ Some found.1) × (test found ≡ true)
find-at test [] least found above is = absurd (some≢none found (sym is))
find-at {A} test (entry ∷ rest) least found above is = by_test (find-at test rest entry.0 found above.1) (test entry) refl is
  where
    same_entry : (x y : ℕ × A) → Some x ≡ Some y → x ≡ y
    same_entry x y same = cc

    by_test : (find test rest ≡ Some found → (at found.0 rest ≡ Some found.1) × (test found ≡ true))
        → (b : Bool) → test entry ≡ b → cond b (Some entry) (find test rest) ≡ Some found → (at found.0 (entry ∷ rest) ≡ Some found.1) × (test found ≡ true)
    by_test again true passes there =
        subst (λ (e : ℕ × A). (at e.0 (entry ∷ rest) ≡ Some e.1) × (test e ≡ true)) (same_entry entry found there)
        (at-first entry.0 entry.0 entry.1 rest refl, passes)
    by_test again false passes there =
        let behind = again there in
        let high : entry.0 < found.0 = at-above rest entry.0 found.0 found.1 above.1 behind.0 in
        (at-rest entry.0 found.0 entry.1 rest (omega arith) ∙ behind.0, behind.1)

-- What holds of each element of a list: of fewer, of those that a function makes of them, and of
-- the one that a test finds.
use Rattle.std.proofs.Common.{◌≡◌, ◌<◌, ◌≤◌, Bool, true, false, cond, List, [], ◌∷◌, ◌++◌, map, filter, length, find, Some, refl, sym, ◌∙◌, subst, arith}
use Rattle.std.specs.List.{AllByRecursion, list_all}
use Rattle.std.proofs.lemmas.Bool.{true≢false, and_parts}

pub all-mono : {A : Type 0} (P Q : A → Type 0) (xs : List A) → ((x : A) → P x → Q x) → AllByRecursion P xs → AllByRecursion Q xs
all-mono P Q [] step all = tt
all-mono P Q (x ∷ xs) step all = (step x all.0, all-mono P Q xs step all.1)

pub all-fewer : {A : Type 0} (P : A → Type 0) (test : A → Bool) (xs : List A) → AllByRecursion P xs → AllByRecursion P (filter test xs)
all-fewer P test [] all = tt
all-fewer {A} P test (x ∷ xs) all = by_test (test x) (all-fewer P test xs all.1)
  where
    by_test : (b : Bool) → AllByRecursion P (filter test xs) → AllByRecursion P (cond b (x ∷ filter test xs) (filter test xs))
    by_test true rest = (all.0, rest)
    by_test false rest = rest

pub all-mapped : {A : Type 0} (P Q : A → Type 0) (f : A → A) (xs : List A) → ((x : A) → P x → Q (f x)) → AllByRecursion P xs → AllByRecursion Q (map f xs)
all-mapped P Q f [] step all = tt
all-mapped P Q f (x ∷ xs) step all = (step x all.0, all-mapped P Q f xs step all.1)

pub all-more : {A : Type 0} (P : A → Type 0) (xs : List A) (x : A) → AllByRecursion P xs → P x → AllByRecursion P (xs ++ x ∷ [])
all-more P [] x all here = (here, tt)
all-more P (y ∷ xs) x all here = (all.0, all-more P xs x all.1 here)

pub all-both : {A : Type 0} (P Q : A → Type 0) (xs : List A) → AllByRecursion P xs → AllByRecursion Q xs → AllByRecursion (λ (x : A). P x × Q x) xs
all-both P Q [] first second = tt
all-both P Q (x ∷ xs) first second = ((first.0, second.0), all-both P Q xs first.1 second.1)

none_pass : {A : Type 0} (test : A → Bool) (xs : List A) → length (filter test xs) < 1 → AllByRecursion (λ (y : A). test y ≡ true → ⊥) xs
none_pass test [] none = tt
none_pass {A} test (y ∷ xs) none = by_test (none_pass test xs) (test y) refl none
  where
    by_test : (length (filter test xs) < 1 → AllByRecursion (λ (z : A). test z ≡ true → ⊥) xs) → (b : Bool) → test y ≡ b
        → length (cond b (y ∷ filter test xs) (filter test xs)) < 1 → (test y ≡ true → ⊥) × AllByRecursion (λ (z : A). test z ≡ true → ⊥) xs
    by_test rest true is none = absurd (omega (arith, none))
    by_test rest false is none = (λ passes. true≢false (sym passes ∙ is), rest none)

-- if at most one passes a test, it is the one that is found
pub only_found : {A : Type 0} (test : A → Bool) (xs : List A) (x : A) → length (filter test xs) ≤ 1 → find test xs ≡ Some x
    → AllByRecursion (λ (y : A). test y ≡ true → y ≡ x) xs
only_found test [] x few found = tt
only_found {A} test (y ∷ xs) x few found = by_test (only_found test xs x) (test y) refl few found
  where
    by_test : (length (filter test xs) ≤ 1 → find test xs ≡ Some x → AllByRecursion (λ (z : A). test z ≡ true → z ≡ x) xs) → (b : Bool) → test y ≡ b
        → length (cond b (y ∷ filter test xs) (filter test xs)) ≤ 1 → cond b (Some y) (find test xs) ≡ Some x
        → (test y ≡ true → y ≡ x) × AllByRecursion (λ (z : A). test z ≡ true → z ≡ x) xs
    by_test rest true is few found =
        let here : y ≡ x = cc in
        (λ _. here, all-mono (λ (z : A). test z ≡ true → ⊥) (λ (z : A). test z ≡ true → z ≡ x) xs (λ z never passes. absurd (never passes)) (none_pass test xs (omega (arith, few))))
    by_test rest false is few found = (λ passes. absurd (true≢false (sym passes ∙ is)), rest few found)

pub all-found : {A : Type 0} (P : A → Type 0) (test : A → Bool) (xs : List A) (x : A) → AllByRecursion P xs → find test xs ≡ Some x → P x
all-found P test [] x all found = absurd (cc)
all-found {A} P test (y ∷ xs) x all found = by_test (λ later. all-found P test xs x all.1 later) (test y) found
  where
    by_test : (find test xs ≡ Some x → P x) → (b : Bool) → cond b (Some y) (find test xs) ≡ Some x → P x
    by_test rest true here = let same : y ≡ x = cc in subst P same all.0
    by_test rest false later = rest later

pub all_true : {A : Type 0} (p : A → Bool) (xs : List A) → list_all p xs ≡ true → AllByRecursion (λ (x : A). p x ≡ true) xs
all_true p [] all = tt
all_true p (x ∷ xs) all = let parts = and_parts (p x) (list_all p xs) all in (parts.0, all_true p xs parts.1)

-- That keys rise, and stay up to a last one.
use Rattle.std.proofs.Common.{◌≡◌, ℕ, ◌<◌, ◌≤◌, Bool, List, [], ◌∷◌, ◌++◌, filter, get_or, sym, subst, arith}
use Rattle.std.specs.List.{All}
use Rattle.std.proofs.lemmas.List.Elements.{All-filter, All-push, All-weaker}
use Rattle.std.proofs.lemmas.List.Kept.{AllPairs-filter}
use Rattle.std.proofs.lemmas.List.Quantifiers.{all_pairs_push}
use Rattle.session.proofs.Lists.{Rises}

pub all_filtered : {A : Type 0} (P : A → Type 0) (p : A → Bool) (xs ys : List A) → ys ≡ filter p xs → All P xs → All P ys
all_filtered P p xs ys e all = subst (All P) (sym e) (All-filter p P xs all)

pub all_pushed : {A : Type 0} (P : A → Type 0) (xs ys : List A) (y : A) → ys ≡ xs ++ y ∷ [] → All P xs → P y → All P ys
all_pushed P xs ys y e all here = subst (All P) (sym e) (All-push P xs y all here)

abbrev pub UpTo : {A : Type 0} → (A → ℕ) → ℕ → List A → Type 0
UpTo key last xs = All (λ x. key x ≤ last) xs

pub rises_filtered : {A : Type 0} (key : A → ℕ) (p : A → Bool) (xs ys : List A) → ys ≡ filter p xs → Rises key xs → Rises key ys
rises_filtered key p xs ys e rises = subst (Rises key) (sym e) (AllPairs-filter (λ a b. key a < key b) p xs rises)

pub up_to_filtered : {A : Type 0} (key : A → ℕ) (last : ℕ) (p : A → Bool) (xs ys : List A) → ys ≡ filter p xs → UpTo key last xs → UpTo key last ys
up_to_filtered key last p xs ys e made = subst (UpTo key last) (sym e) (All-filter p (λ x. key x ≤ last) xs made)

pub rises_pushed : {A : Type 0} (key : A → ℕ) (last : ℕ) (xs ys : List A) (y : A) → ys ≡ xs ++ y ∷ [] → Rises key xs → UpTo key last xs → last < key y → Rises key ys
rises_pushed key last xs ys y e rises made above =
    subst (Rises key) (sym e) (all_pairs_push (λ a b. key a < key b) xs y rises (λ k d h. let below : key (get_or xs k d) ≤ last = made k d h in omega arith))

pub up_to_pushed : {A : Type 0} (key : A → ℕ) (last last' : ℕ) (xs ys : List A) (y : A) → ys ≡ xs ++ y ∷ [] → UpTo key last xs → last ≤ last' → key y ≤ last' → UpTo key last' ys
up_to_pushed key last last' xs ys y e made later within =
    subst (UpTo key last') (sym e)
    (All-push (λ x. key x ≤ last') xs y (All-weaker (λ x. key x ≤ last) (λ x. key x ≤ last') (λ x below. omega arith) xs made) within)

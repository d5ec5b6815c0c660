-- Tests, filters and changes of a list that is seen through a view.
use Rattle.std.proofs.Common.{◌≡◌, ℕ, ◌+◌, ◌<◌, ◌≤◌, inl, inr, zero, suc, Bool, true, false, cond, not, ◌&&◌, ◌||◌, List, [], ◌∷◌, ◌++◌, map, filter, length, get_or, set, None, Some, refl, sym, ap, ◌∙◌, subst, arith, nat_lt, find, Result, Ok, Err}
use Rattle.std.specs.Result.{is_ok, is_err}
use Rattle.std.specs.List.{list_any, prefix_len, position, position_or_len, All, AllPairs}
use Rattle.std.proofs.lemmas.List.{length-map, length-set, map_push, map-set, get_or-map, get_or-set_same, get_or-set_other, ext_get_or}
use Rattle.std.proofs.lemmas.List.Quantifiers.{position-Some}
use Rattle.std.proofs.lemmas.List.Sums.{fails_before_first}
use Rattle.std.proofs.lemmas.Bool.{cases_eq, cases_lt, ltb-false, false_from_ne_true}
use Rattle.model.specs.Sessions.Session.{changed_where}
use Rattle.model_tree.proofs.Facts.BooleanLaws.{and_false, and_true, or_same}
use Rattle.model.proofs.Operations.NodeAttributeLaws.{filter-map}

-- Tests and filters

pub list_any-map : {A B : Type 0} (p : B → Bool) (f : A → B) (xs : List A) → list_any p (map f xs) ≡ list_any (λ x. p (f x)) xs
list_any-map p f [] = refl
list_any-map p f (x ∷ xs) = ap (λ b. p (f x) || b) (list_any-map p f xs)

filter_twice_cons : {A : Type 0} (p : A → Bool) (b : Bool) (x : A) (ys zs : List A) → filter p ys ≡ zs → filter p (cond b (x ∷ ys) ys) ≡ cond (p x && b) (x ∷ zs) zs
filter_twice_cons p true x ys zs e =
    ap (λ rest. cond (p x) (x ∷ rest) rest) e ∙ ap (λ c. cond c (x ∷ zs) zs) (sym (and_true (p x)))
filter_twice_cons p false x ys zs e = e ∙ ap (λ c. cond c (x ∷ zs) zs) (sym (and_false (p x)))

pub filter_twice : {A : Type 0} (p q : A → Bool) (xs : List A) → filter p (filter q xs) ≡ filter (λ x. p x && q x) xs
filter_twice p q [] = refl
filter_twice p q (x ∷ xs) = filter_twice_cons p (q x) x (filter q xs) (filter (λ y. p y && q y) xs) (filter_twice p q xs)

any_filtered_cons : {A B : Type 0} (g : B → Bool) (f : A → B) (b : Bool) (x : A) (xs : List A) (rest : Bool) → list_any g (map f xs) ≡ rest
    → list_any g (map f (cond b (x ∷ xs) xs)) ≡ (b && g (f x) || rest)
any_filtered_cons g f true x xs rest e = ap (λ r. g (f x) || r) e
any_filtered_cons g f false x xs rest e = e

-- whether something that the filter keeps passes the test
pub any_filtered : {A B : Type 0} (g : B → Bool) (f : A → B) (p : A → Bool) (xs : List A) → list_any g (map f (filter p xs)) ≡ list_any (λ x. p x && g (f x)) xs
any_filtered g f p [] = refl
any_filtered g f p (x ∷ xs) = any_filtered_cons g f (p x) x (filter p xs) (list_any (λ y. p y && g (f y)) xs) (any_filtered g f p xs)

any_left_cons : {A : Type 0} (g : A → Bool) (b : Bool) (x : A) (xs : List A) (rest : Bool) → list_any g xs ≡ rest → list_any g (cond b (x ∷ xs) xs) ≡ (b && g x || rest)
any_left_cons g true x xs rest e = ap (λ r. g x || r) e
any_left_cons g false x xs rest e = e

pub any_left : {A : Type 0} (g p : A → Bool) (xs : List A) → list_any g (filter p xs) ≡ list_any (λ x. p x && g x) xs
any_left g p [] = refl
any_left g p (x ∷ xs) = any_left_cons g (p x) x (filter p xs) (list_any (λ y. p y && g y) xs) (any_left g p xs)

-- Positions

prefix_len-map : {A B : Type 0} (p : B → Bool) (f : A → B) (xs : List A) → prefix_len p (map f xs) ≡ prefix_len (λ x. p (f x)) xs
prefix_len-map p f [] = refl
prefix_len-map p f (x ∷ xs) = ap (λ n. cond (p (f x)) (1 + n) 0) (prefix_len-map p f xs)

pub position-map : {A B : Type 0} (p : B → Bool) (f : A → B) (xs : List A) → position p (map f xs) ≡ position (λ x. p (f x)) xs
position-map p f xs =
    ap (λ n. cond (nat_lt n (length (map f xs))) (Some n) None) (prefix_len-map (λ y. not (p y)) f xs)
    ∙ ap (λ n. cond (nat_lt (position_or_len (λ x. p (f x)) xs) n) (Some (position_or_len (λ x. p (f x)) xs)) None) (length-map xs f)

-- If no position is found

past_from : (n m : ℕ) (b : Bool) → nat_lt n m ≡ b → cond b (Some n) None ≡ None → b ≡ false
past_from n m true e h = cc
past_from n m false e h = refl

-- nothing passes
pub position-None : {A : Type 0} (p : A → Bool) (xs : List A) → position p xs ≡ None → (k : ℕ) (d : A) → k < length xs → p (get_or xs k d) ≡ false
position-None p xs e k d h =
    let past : length xs ≤ position_or_len p xs = ltb-false (position_or_len p xs) (length xs) (past_from _ _ (nat_lt (position_or_len p xs) (length xs)) refl e) in
    fails_before_first p xs k d (omega arith)

-- One element changes

abbrev pub Rises : {A : Type 0} → (A → ℕ) → List A → Type 0
Rises key xs = AllPairs (λ earlier later. key earlier < key later) xs

pub same_place : {A : Type 0} (key : A → ℕ) (xs : List A) → Rises key xs → (j k : ℕ) (d : A) → j < length xs → k < length xs → key (get_or xs j d) ≡ key (get_or xs k d) → (j ≡ k → ⊥) → ⊥
same_place key xs rises j k d within within' e other =
    elim (cases_lt j k) [
      | inl before ↦ let h : key (get_or xs j d) < key (get_or xs k d) = rises j k d before within' in omega arith
      | inr behind ↦ let h : key (get_or xs k d) < key (get_or xs j d) = rises k j d (omega (arith, other)) within in omega arith
    ]

-- two elements that pass have one key
abbrev pub OneKey : {A B : Type 0} → (A → B) → (A → ℕ) → (B → Bool) → List A → Type 0
OneKey {A} f key test xs = (j k : ℕ) (d : A) → j < length xs → k < length xs → test (f (get_or xs j d)) ≡ true → test (f (get_or xs k d)) ≡ true → key (get_or xs j d) ≡ key (get_or xs k d)

changed_value : {B : Type 0} (test : B → Bool) (change : B → B) (z : B) (b : Bool) → test z ≡ b → b ≡ false → cond b (change z) z ≡ z
changed_value test change z true e fails = cc
changed_value test change z false e fails = refl

-- the only element that passes is changed
pub changed_one : {A B : Type 0} (f : A → B) (key : A → ℕ) (test : B → Bool) (change : B → B) (xs : List A) (i : ℕ) (d y : A)
    → Rises key xs → OneKey f key test xs → i < length xs → test (f (get_or xs i d)) ≡ true → f y ≡ change (f (get_or xs i d))
    → map f (set xs i y) ≡ changed_where test change (map f xs)
changed_one {A} {B} f key test change xs i d y rises one within here made =
    ext_get_or (f d) (map f (set xs i y)) (changed_where test change (map f xs))
    (length-map (set xs i y) f ∙ length-set xs i y ∙ sym (length-map xs f) ∙ sym (length-map (map f xs) (λ z. cond (test z) (change z) z)))
    (λ k h.
    let inside : k < length (set xs i y) = rw (← length-map (set xs i y) f) h in
    let inside' : k < length xs = rw length-set at inside in
    let left : get_or (map f (set xs i y)) k (f d) ≡ f (get_or (set xs i y) k d) = get_or-map f (set xs i y) k d (f d) inside in
    let right : get_or (changed_where test change (map f xs)) k (f d) ≡ cond (test (f (get_or xs k d))) (change (f (get_or xs k d))) (f (get_or xs k d)) =
    get_or-map (λ z. cond (test z) (change z) z) (map f xs) k (f d) (f d) (rw length-map inside')
    ∙ ap (λ z. cond (test z) (change z) z) (get_or-map f xs k d (f d) inside') in
    left ∙ elim (cases_eq k i) [
      | inl same ↦ ap (λ n. f (get_or (set xs i y) n d)) same ∙ ap f (get_or-set_same xs i y d within) ∙ made
          ∙ sym (ap (λ b. cond b (change (f (get_or xs i d))) (f (get_or xs i d))) here)
          ∙ sym (ap (λ n. cond (test (f (get_or xs n d))) (change (f (get_or xs n d))) (f (get_or xs n d))) same)
      | inr other ↦ ap f (get_or-set_other xs i k y d other)
          ∙ sym (changed_value test change (f (get_or xs k d)) (test (f (get_or xs k d))) refl
          (false_from_ne_true (test (f (get_or xs k d))) (λ t. same_place key xs rises k i d inside' within (one k i d inside' within t here) other)))
    ] ∙ sym right)

pub mapped_set : {A B : Type 0} (f : A → B) (g : B → B) (xs : List A) (i : ℕ) (x y : A) (d : B) → i < length xs → x ≡ get_or xs i x → f y ≡ g (f x)
    → map f (set xs i y) ≡ set (map f xs) i (g (get_or (map f xs) i d))
mapped_set f g xs i x y d within read made =
    map-set f xs i y ∙ ap (λ z. set (map f xs) i z) (made ∙ ap (λ z. g z) (ap f read ∙ sym (get_or-map f xs i x d within)))

changed_none_cons : {B : Type 0} (change : B → B) (z : B) (rest rest' : List B) (b : Bool) → b ≡ false → rest ≡ rest' → cond b (change z) z ∷ rest ≡ z ∷ rest'
changed_none_cons change z rest rest' true fails e = cc
changed_none_cons change z rest rest' false fails e = ap (λ l. z ∷ l) e

-- if none passes, nothing changes
pub changed_none : {A B : Type 0} (f : A → B) (test : B → Bool) (change : B → B) (xs : List A) → ((k : ℕ) (d : A) → k < length xs → test (f (get_or xs k d)) ≡ false)
    → changed_where test change (map f xs) ≡ map f xs
changed_none f test change [] fails = refl
changed_none f test change (x ∷ xs) fails =
    changed_none_cons change (f x) (changed_where test change (map f xs)) (map f xs) (test (f x)) (fails 0 x (omega arith))
    (changed_none f test change xs (λ k d h. fails (suc k) d (omega arith)))

-- by the position that was found
pub changed_at : {A B : Type 0} (f : A → B) (key : A → ℕ) (test : B → Bool) (change : B → B) (xs : List A) (i : ℕ) (x y : A)
    → Rises key xs → OneKey f key test xs → position (λ z. test (f z)) xs ≡ Some i → x ≡ get_or xs i x → f y ≡ change (f x)
    → map f (set xs i y) ≡ changed_where test change (map f xs)
changed_at f key test change xs i x y rises one e read made =
    let at = position-Some (λ z. test (f z)) xs i x e in
    changed_one f key test change xs i x y rises one at.0 at.1 (made ∙ ap (λ z. change (f z)) read)

pub untouched : {A B : Type 0} (f : A → B) (test : B → Bool) (change : B → B) (xs : List A) → position (λ z. test (f z)) xs ≡ None → changed_where test change (map f xs) ≡ map f xs
untouched f test change xs e = changed_none f test change xs (position-None (λ z. test (f z)) xs e)

-- what a filter keeps, seen
pub kept_view : {A B : Type 0} (p : B → Bool) (f : A → B) (xs ys : List A) → ys ≡ filter (λ x. p (f x)) xs → map f ys ≡ filter p (map f xs)
kept_view p f xs ys e = ap (map f) e ∙ sym (filter-map p f xs)

-- Tests that agree at each element

agree_cons : {A : Type 0} (a b : Bool) (x : A) (ys zs : List A) → a ≡ b → ys ≡ zs → cond a (x ∷ ys) ys ≡ cond b (x ∷ zs) zs
agree_cons a b x ys zs e h = cc

pub filter_agree_at : {A : Type 0} (p q : A → Bool) (xs : List A) → ((k : ℕ) (d : A) → k < length xs → p (get_or xs k d) ≡ q (get_or xs k d)) → filter p xs ≡ filter q xs
filter_agree_at p q [] same = refl
filter_agree_at p q (x ∷ xs) same =
    agree_cons (p x) (q x) x (filter p xs) (filter q xs) (same 0 x (omega arith)) (filter_agree_at p q xs (λ k d h. same (suc k) d (omega arith)))

false_or : (a b c : Bool) → a ≡ false → b ≡ c → (a || b) ≡ c
false_or true b c e h = cc
false_or false b c e h = h

none_pass : {A : Type 0} (q : A → Bool) (xs : List A) → ((k : ℕ) (d : A) → k < length xs → q (get_or xs k d) ≡ false) → list_any q xs ≡ false
none_pass q [] fails = refl
none_pass q (x ∷ xs) fails = false_or (q x) (list_any q xs) false (fails 0 x (omega arith)) (none_pass q xs (λ k d h. fails (suc k) d (omega arith)))

-- if no other element passes
pub any_one : {A : Type 0} (q : A → Bool) (xs : List A) (i : ℕ) (d : A) → i < length xs → ((k : ℕ) (e : A) → k < length xs → (k ≡ i → ⊥) → q (get_or xs k e) ≡ false) → list_any q xs ≡ q (get_or xs i d)
any_one q [] i d within others = absurd (omega arith)
any_one q (x ∷ xs) zero d within others = or_same (q x) (list_any q xs) (none_pass q xs (λ k e h. others (suc k) e (omega arith) (λ same. omega arith)))
any_one q (x ∷ xs) (suc i) d within others =
    false_or (q x) (list_any q xs) (q (get_or xs i d)) (others 0 x (omega arith) (λ same. omega arith))
    (any_one q xs i d (omega arith) (λ k e h other. others (suc k) e (omega arith) (λ same. other (omega arith))))

-- the element pushed
pub pushed : {A R E : Type 0} (r : Result R E) (xs ys : List A) (y : A) → ys ≡ cond (is_ok r) (xs ++ y ∷ []) xs → is_err r ≡ false → ys ≡ xs ++ y ∷ []
pushed (Ok x) xs ys y e ok = e
pushed (Err x) xs ys y e ok = cc

pub pushed_view : {A B : Type 0} (f : A → B) (xs ys : List A) (y : A) → ys ≡ xs ++ y ∷ [] → map f ys ≡ map f xs ++ f y ∷ []
pushed_view f xs ys y e = ap (map f) e ∙ map_push f xs y

-- what all have, the one that is found has
pub find_all : {A B : Type 0} (f : A → B) (test : B → Bool) (P : B → Type 0) (xs : List A) → All (λ x. P (f x)) xs → (y : B) → find test (map f xs) ≡ Some y → P y
find_all f test P [] all y e = absurd (cc)
find_all {A} {B} f test P (x ∷ xs) all y e = by_test (test (f x)) e (find_all f test P xs (λ k d h. all (suc k) d (omega arith)) y)
  where
    by_test : (b : Bool) → cond b (Some (f x)) (find test (map f xs)) ≡ Some y → (find test (map f xs) ≡ Some y → P y) → P y
    by_test true here later = let same : f x ≡ y = cc in subst P same (all 0 x (omega arith))
    by_test false here later = later here

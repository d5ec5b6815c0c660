-- The list: what it gives a sector, and which sectors it has.
use Rattle.std.proofs.Common.{◌≡◌, ◌≢◌, ◌≤◌, ◌<◌, ◌+◌, ◌==◌, ◌||◌, ℕ, suc, zero, Bool, true, false, List, [], ◌∷◌, ◌++◌, length, take, drop, set, get_or, refl, sym, ap, ◌∙◌, subst, ⊎_elim, arith, if◌then◌else◌, eq-eqb, ne_eqb, AllPairs}
use Rattle.std.proofs.lemmas.Bool.{cases_eq}
use Rattle.std.proofs.lemmas.List.Folds.{list_any_at}
use Rattle.std.proofs.lemmas.List.{take_more, length-append, append-nil, append_assoc}
use Rattle.disk.specs.declared.update.Update.{Update}
use Rattle.disk.specs.Moments.{Image, put, applied}
use Rattle.journal.specs.Layout.{AreTargets, targets}
use Rattle.journal.specs.Transactions.{has, gathered, IsLastPlace}
use Rattle.journal.proofs.Images.{Out, Fit, put_same, put_other, applied_out, length-targets}

-- what is read at an index past a list's end
abbrev pub no_update : Update
no_update = record { target = 0; content = [] }

pub applied-push : (us : List Update) (u : Update) (image : Image) → applied (us ++ u ∷ []) image ≡ put (applied us image) u
applied-push [] u image = refl
applied-push (v ∷ us) u image = applied-push us u (put image v)

applied-more : (us : List Update) (i : ℕ) (image : Image) → i < length us → applied (take (i + 1) us) image ≡ put (applied (take i us) image) (get_or us i no_update)
applied-more us i image l =
    ap (λ (xs : List Update). applied xs image) (take_more us i no_update l) ∙ applied-push (take i us) (get_or us i no_update) image

pub newer_same : (us : List Update) (i n : ℕ) (image : Image) → i < length us → (get_or us i no_update).target ≡ n
    → applied (take (i + 1) us) image n ≡ (get_or us i no_update).content
newer_same us i n image l e =
    ap (λ (f : Image). f n) (applied-more us i image l) ∙ put_same (applied (take i us) image) (get_or us i no_update) n e

pub newer_other : (us : List Update) (i n : ℕ) (image : Image) → i < length us → ((get_or us i no_update).target ≡ n → ⊥)
    → applied (take (i + 1) us) image n ≡ applied (take i us) image n
newer_other us i n image l e =
    ap (λ (f : Image). f n) (applied-more us i image l) ∙ put_other (applied (take i us) image) (get_or us i no_update) n e

or_if : (a b : Bool) → (a || b) ≡ (if a then true else b)
or_if true b = refl
or_if false b = refl

has_cons : (t n : ℕ) (ts : List ℕ) → has (t ∷ ts) n ≡ (if t == n then true else has ts n)
has_cons t n ts = or_if (t == n) (has ts n)

pub not_has-out : (ts : List ℕ) (n : ℕ) → has ts n ≡ false → Out ts n
not_has-out [] n e = tt
not_has-out (t ∷ ts) n e = ⊎_elim
    (λ (q : t ≡ n). absurd (let w : true ≡ false = sym (ap (λ (b : Bool). if b then true else has ts n) (eq-eqb t n q)) ∙ (sym (has_cons t n ts) ∙ e) in cc))
    (λ (q : t ≡ n → ⊥). (q, not_has-out ts n (sym (ap (λ (b : Bool). if b then true else has ts n) (ne_eqb t n q)) ∙ (sym (has_cons t n ts) ∙ e))))
    (cases_eq t n)

pub out-not_has : (ts : List ℕ) (n : ℕ) → Out ts n → has ts n ≡ false
out-not_has [] n o = refl
out-not_has (t ∷ ts) n o = has_cons t n ts ∙ ap (λ (b : Bool). if b then true else has ts n) (ne_eqb t n o.0) ∙ out-not_has ts n o.1

-- what the updates give a sector depends only on what the image has there
pub applied_at : (us : List Update) (a b : Image) (n : ℕ) → a n ≡ b n → applied us a n ≡ applied us b n
applied_at [] a b n e = e
applied_at (u ∷ us) a b n e = applied_at us (put a u) (put b u) n (⊎_elim
    (λ (q : u.target ≡ n). put_same a u n q ∙ sym (put_same b u n q))
    (λ (q : u.target ≡ n → ⊥). put_other a u n q ∙ e ∙ sym (put_other b u n q))
    (cases_eq u.target n))

behind : (u : Update) (us : List Update) (i n : ℕ) → Out (drop (suc i + 1) (targets (u ∷ us))) n → Out (drop (i + 1) (targets us)) n
behind u us i n o =
    let P : ℕ → Type 0 = λ k. Out (drop k (targets (u ∷ us))) n in
    subst P (let q : suc i + 1 ≡ suc (i + 1) = omega arith in q) o

-- the last update of a sector gives its content
pub applied_last : (us : List Update) (i n : ℕ) (image : Image) → i < length us → (get_or us i no_update).target ≡ n
    → Out (drop (i + 1) (targets us)) n → applied us image n ≡ (get_or us i no_update).content
applied_last [] i n image l e o = absurd (omega arith)
applied_last (u ∷ us) zero n image l e o = applied_out us (put image u) n o ∙ put_same image u n e
applied_last (u ∷ us) (suc i) n image l e o = applied_last us i n (put image u) (omega arith) e (behind u us i n o)

-- another content in the place of the last one
pub applied_set : (us : List Update) (i : ℕ) (v : Update) (image : Image) (n : ℕ) → i < length us → (get_or us i no_update).target ≡ v.target
    → Out (drop (i + 1) (targets us)) v.target → applied (set us i v) image n ≡ put (applied us image) v n
applied_set [] i v image n l e o = absurd (omega arith)
applied_set (u ∷ us) zero v image n l e o = ⊎_elim
    (λ (q : v.target ≡ n).
    let P : ℕ → Type 0 = λ m. Out (targets us) m in
    applied_out us (put image v) n (subst P q o) ∙ put_same image v n q ∙ sym (put_same (applied us (put image u)) v n q))
    (λ (q : v.target ≡ n → ⊥).
    applied_at us (put image v) (put image u) n (put_other image v n q ∙ sym (put_other image u n (λ r. q (sym e ∙ r))))
    ∙ sym (put_other (applied us (put image u)) v n q))
    (cases_eq v.target n)
applied_set (u ∷ us) (suc i) v image n l e o = applied_set us i v (put image u) n (omega arith) e (behind u us i v.target o)

pub targets_set : (us : List Update) (i : ℕ) (v : Update) → i < length us → (get_or us i no_update).target ≡ v.target → targets (set us i v) ≡ targets us
targets_set [] i v l e = absurd (omega arith)
targets_set (u ∷ us) zero v l e = ap (λ (t : ℕ). t ∷ targets us) (sym e)
targets_set (u ∷ us) (suc i) v l e = ap (λ (ts : List ℕ). u.target ∷ ts) (targets_set us i v (omega arith) e)

pub targets-push : (us : List Update) (u : Update) → targets (us ++ u ∷ []) ≡ targets us ++ u.target ∷ []
targets-push [] u = refl
targets-push (v ∷ us) u = ap (λ ts. v.target ∷ ts) (targets-push us u)

pub targets-append : (us vs : List Update) → targets (us ++ vs) ≡ targets us ++ targets vs
targets-append [] vs = refl
targets-append (u ∷ us) vs = ap (λ (ts : List ℕ). u.target ∷ ts) (targets-append us vs)

pub get_or-targets : (us : List Update) (i : ℕ) → get_or (targets us) i 0 ≡ (get_or us i no_update).target
get_or-targets [] i = refl
get_or-targets (u ∷ us) zero = refl
get_or-targets (u ∷ us) (suc i) = get_or-targets us i

-- which sectors are gathered
pub gathered-append : (seen a b : List ℕ) → gathered seen (a ++ b) ≡ gathered (gathered seen a) b
gathered-append seen [] b = refl
gathered-append seen (x ∷ a) b = gathered-append (if has seen x then seen else seen ++ x ∷ []) a b

step_grows : (seen : List ℕ) (x : ℕ) (b : Bool) → length seen ≤ length (if b then seen else seen ++ x ∷ [])
step_grows seen x true = omega arith
step_grows seen x false = omega (arith, length-append seen (x ∷ []))

step_short : (seen : List ℕ) (x : ℕ) (b : Bool) → length (if b then seen else seen ++ x ∷ []) ≤ suc (length seen)
step_short seen x true = omega arith
step_short seen x false = omega (arith, length-append seen (x ∷ []))

pub gathered_grows : (seen ts : List ℕ) → length seen ≤ length (gathered seen ts)
gathered_grows seen [] = omega arith
gathered_grows seen (t ∷ ts) =
    let next : List ℕ = if has seen t then seen else seen ++ t ∷ [] in
    omega (arith, step_grows seen t (has seen t), gathered_grows next ts)

pub gathered_short : (seen ts : List ℕ) → length (gathered seen ts) ≤ length seen + length ts
gathered_short seen [] = omega arith
gathered_short seen (t ∷ ts) =
    let next : List ℕ = if has seen t then seen else seen ++ t ∷ [] in
    omega (arith, step_short seen t (has seen t), gathered_short next ts)

pub gathered_old : (seen : List ℕ) (t : ℕ) → has seen t ≡ true → gathered seen (t ∷ []) ≡ seen
gathered_old seen t e = ap (λ (b : Bool). if b then seen else seen ++ t ∷ []) e

pub gathered_new : (seen : List ℕ) (t : ℕ) → has seen t ≡ false → gathered seen (t ∷ []) ≡ seen ++ t ∷ []
gathered_new seen t e = ap (λ (b : Bool). if b then seen else seen ++ t ∷ []) e

-- how many are not seen yet
abbrev pub fresh_count : List ℕ → List ℕ → ℕ
fresh_count seen [] = 0
fresh_count seen (t ∷ ts) = (if has seen t then 0 else 1) + fresh_count seen ts

Out-push : (ts : List ℕ) (x n : ℕ) → Out ts n → (x ≡ n → ⊥) → Out (ts ++ x ∷ []) n
Out-push [] x n o ne = (ne, tt)
Out-push (t ∷ ts) x n o ne = (o.0, Out-push ts x n o.1 ne)

pub has-push : (ts : List ℕ) (x n : ℕ) → (x ≡ n → ⊥) → has (ts ++ x ∷ []) n ≡ has ts n
has-push [] x n ne = has_cons x n [] ∙ ap (λ (b : Bool). if b then true else false) (ne_eqb x n ne)
has-push (t ∷ ts) x n ne =
    has_cons t n (ts ++ x ∷ []) ∙ ap (λ (h : Bool). if t == n then true else h) (has-push ts x n ne) ∙ sym (has_cons t n ts)

fresh-push : (seen : List ℕ) (x : ℕ) (ts : List ℕ) → Out ts x → fresh_count (seen ++ x ∷ []) ts ≡ fresh_count seen ts
fresh-push seen x [] o = refl
fresh-push seen x (t ∷ ts) o =
    ap (λ (b : Bool). (if b then 0 else 1) + fresh_count (seen ++ x ∷ []) ts) (has-push seen x t (λ e. o.0 (sym e)))
    ∙ ap (λ (k : ℕ). (if has seen t then 0 else 1) + k) (fresh-push seen x ts o.1)

-- all different, by recursion
abbrev pub Apart : List ℕ → Type 0
Apart [] = Unit {0}
Apart (t ∷ ts) = Out ts t × Apart ts

pub Out-each : (t : ℕ) (ts : List ℕ) → ((j : ℕ) → j < length ts → t ≢ get_or ts j 0) → Out ts t
Out-each t [] f = tt
Out-each t (s ∷ ts) f = ((λ e. f 0 (omega arith) (sym e)), Out-each t ts (λ j l. f (suc j) (omega arith)))

pub Apart-of : (ts : List ℕ) → AllPairs (λ a b. a ≢ b) ts → Apart ts
Apart-of [] a = tt
Apart-of (t ∷ ts) a = (Out-each t ts (λ j l. a 0 (suc j) 0 (omega arith) (omega arith)), Apart-of ts (λ i j d l h. a (suc i) (suc j) d (omega arith) (omega arith)))

length-step : (seen : List ℕ) (t : ℕ) (ts : List ℕ) (b : Bool) → has seen t ≡ b
    → length (gathered seen ts) ≡ length seen + fresh_count seen ts
    → length (gathered (seen ++ t ∷ []) ts) ≡ length seen + (1 + fresh_count seen ts)
    → length (gathered seen (t ∷ ts)) ≡ length seen + fresh_count seen (t ∷ ts)
length-step seen t ts true e old new =
    let count : Bool → ℕ = λ c. length seen + ((if c then 0 else 1) + fresh_count seen ts) in
    ap (λ (c : Bool). length (gathered (if c then seen else seen ++ t ∷ []) ts)) e ∙ old
    ∙ (let q : length seen + fresh_count seen ts ≡ count true = omega arith in q) ∙ ap count (sym e)
length-step seen t ts false e old new =
    let count : Bool → ℕ = λ c. length seen + ((if c then 0 else 1) + fresh_count seen ts) in
    ap (λ (c : Bool). length (gathered (if c then seen else seen ++ t ∷ []) ts)) e ∙ new ∙ ap count (sym e)

pub length-gathered : (seen ts : List ℕ) → Apart ts → length (gathered seen ts) ≡ length seen + fresh_count seen ts
length-gathered seen [] a = omega arith
length-gathered seen (t ∷ ts) a =
    length-step seen t ts (has seen t) refl (length-gathered seen ts a.1)
    (omega (arith, length-gathered (seen ++ t ∷ []) ts a.1, length-append seen (t ∷ []), fresh-push seen t ts a.0))

pub fresh-append : (seen a b : List ℕ) → fresh_count seen (a ++ b) ≡ fresh_count seen a + fresh_count seen b
fresh-append seen [] b = omega arith
fresh-append seen (x ∷ a) b = omega (arith, fresh-append seen a b)

pub fresh_old : (seen : List ℕ) (x : ℕ) → has seen x ≡ true → fresh_count seen (x ∷ []) ≡ 0
fresh_old seen x e = let count : Bool → ℕ = λ c. (if c then 0 else 1) + 0 in ap count e

pub fresh_new : (seen : List ℕ) (x : ℕ) → has seen x ≡ false → fresh_count seen (x ∷ []) ≡ 1
fresh_new seen x e = let count : Bool → ℕ = λ c. (if c then 0 else 1) + 0 in ap count e

one_at_most : (b : Bool) → (let count : Bool → ℕ = λ c. if c then 0 else 1 in count b ≤ 1)
one_at_most true = omega arith
one_at_most false = omega arith

pub fresh_few : (seen ts : List ℕ) → fresh_count seen ts ≤ length ts
fresh_few seen [] = omega arith
fresh_few seen (t ∷ ts) = omega (arith, fresh_few seen ts, one_at_most (has seen t))

-- what is gathered of targets are targets
pub Fit-push : (size : ℕ) (ts : List ℕ) (x : ℕ) → Fit size ts → (98 ≤ x) → (x < size) → Out ts x → Fit size (ts ++ x ∷ [])
Fit-push size [] x fit far near o = (far, near, tt, tt)
Fit-push size (t ∷ ts) x fit far near o = (fit.0, fit.1, Out-push ts x t fit.2 (λ e. o.0 (sym e)), Fit-push size ts x fit.3 far near o.1)

Fit-step : (size : ℕ) (seen : List ℕ) (t : ℕ) (ts : List ℕ) (b : Bool) → has seen t ≡ b
    → Fit size (gathered seen ts) → (Out seen t → Fit size (gathered (seen ++ t ∷ []) ts)) → Fit size (gathered seen (t ∷ ts))
Fit-step size seen t ts true e old new =
    let P : Bool → Type 0 = λ c. Fit size (gathered (if c then seen else seen ++ t ∷ []) ts) in subst P (sym e) old
Fit-step size seen t ts false e old new =
    let P : Bool → Type 0 = λ c. Fit size (gathered (if c then seen else seen ++ t ∷ []) ts) in subst P (sym e) (new (not_has-out seen t e))

pub Fit-gathered : (size : ℕ) (seen ts : List ℕ) → Fit size seen → Fit size ts → Fit size (gathered seen ts)
Fit-gathered size seen [] s f = s
Fit-gathered size seen (t ∷ ts) s f =
    Fit-step size seen t ts (has seen t) refl (Fit-gathered size seen ts s f.3)
    (λ out. Fit-gathered size (seen ++ t ∷ []) ts (Fit-push size seen t s f.0 f.1 out) f.3)

Out-at : (ts : List ℕ) (n j d : ℕ) → Out ts n → j < length ts → n ≢ get_or ts j d
Out-at [] n j d o l = absurd (omega arith)
Out-at (t ∷ ts) n zero d o l = λ e. o.0 (sym e)
Out-at (t ∷ ts) n (suc j) d o l = Out-at ts n j d o.1 (omega arith)

Fit-far : (size : ℕ) (ts : List ℕ) → Fit size ts → (k d : ℕ) → k < length ts → 98 ≤ get_or ts k d
Fit-far size [] f k d l = absurd (omega arith)
Fit-far size (t ∷ ts) f zero d l = f.0
Fit-far size (t ∷ ts) f (suc k) d l = Fit-far size ts f.3 k d (omega arith)

Fit-near : (size : ℕ) (ts : List ℕ) → Fit size ts → (k d : ℕ) → k < length ts → get_or ts k d < size
Fit-near size [] f k d l = absurd (omega arith)
Fit-near size (t ∷ ts) f zero d l = f.1
Fit-near size (t ∷ ts) f (suc k) d l = Fit-near size ts f.3 k d (omega arith)

Fit-apart : (size : ℕ) (ts : List ℕ) → Fit size ts → (i j d : ℕ) → i < j → j < length ts → get_or ts i d ≢ get_or ts j d
Fit-apart size [] f i j d l h = absurd (omega arith)
Fit-apart size (t ∷ ts) f zero zero d l h = absurd (omega arith)
Fit-apart size (t ∷ ts) f zero (suc j) d l h = Out-at ts t j d f.2 (omega arith)
Fit-apart size (t ∷ ts) f (suc i) zero d l h = absurd (omega arith)
Fit-apart size (t ∷ ts) f (suc i) (suc j) d l h = Fit-apart size ts f.3 i j d (omega arith) (omega arith)

pub targets_of-Fit : (size : ℕ) (to : List ℕ) → Fit size to → AreTargets size to
targets_of-Fit size to fit = record { from_first = Fit-far size to fit; on_device = Fit-near size to fit; apart = Fit-apart size to fit }

-- the last update of a sector, by the sectors that are named
pub record IsLastUpdate (us : List Update) (n place : ℕ) : Type 0 where
  pub there : place < length us
  pub is : (get_or us place no_update).target ≡ n
  pub last : Out (drop (place + 1) (targets us)) n

pub last_update : (us : List Update) (named : List ℕ) (n place : ℕ) → named ≡ targets us → IsLastPlace named n place → IsLastUpdate us n place
last_update us named n place q last =
    let P : List ℕ → Type 0 = λ ts. IsLastPlace ts n place in
    let found : IsLastPlace (targets us) n place = subst P q last in
    record {
      there = omega (arith, found.there, length-targets us);
      is = sym (get_or-targets us place) ∙ found.is;
      last = not_has-out (drop (place + 1) (targets us)) n found.last;
    }

pub not_named : (us : List Update) (named : List ℕ) (n : ℕ) → named ≡ targets us → has named n ≡ false → has (targets us) n ≡ false
not_named us named n q none = ap (λ (ts : List ℕ). has ts n) (sym q) ∙ none

pub has-update : (us : List Update) (n place : ℕ) → IsLastUpdate us n place → has (targets us) n ≡ true
has-update us n place last =
    list_any_at (λ other. other == n) (targets us) place 0 (omega (arith, last.there, length-targets us))
    (eq-eqb (get_or (targets us) place 0) n (get_or-targets us place ∙ last.is))

-- one more update is counted, if its sector is not named yet
pub fresh_more : (named : List ℕ) (us : List Update) (i : ℕ) → i < length us
    → fresh_count named (targets (take (i + 1) us)) ≡ fresh_count named (targets (take i us)) + fresh_count named ((get_or us i no_update).target ∷ [])
fresh_more named us i l =
    ap (λ (xs : List Update). fresh_count named (targets xs)) (take_more us i no_update l)
    ∙ ap (λ (ts : List ℕ). fresh_count named ts) (targets-push (take i us) (get_or us i no_update))
    ∙ fresh-append named (targets (take i us)) ((get_or us i no_update).target ∷ [])

pub fresh_more_new : (named : List ℕ) (us : List Update) (i fresh : ℕ) → i < length us → fresh ≡ fresh_count named (targets (take i us))
    → has named (get_or us i no_update).target ≡ false → fresh + 1 ≡ fresh_count named (targets (take (i + 1) us))
fresh_more_new named us i fresh l e none = omega (arith, fresh_more named us i l, e, fresh_new named (get_or us i no_update).target none)

pub fresh_more_old : (named : List ℕ) (us : List Update) (i fresh : ℕ) → i < length us → fresh ≡ fresh_count named (targets (take i us))
    → has named (get_or us i no_update).target ≡ true → fresh ≡ fresh_count named (targets (take (i + 1) us))
fresh_more_old named us i fresh l e some = omega (arith, fresh_more named us i l, e, fresh_old named (get_or us i no_update).target some)

pub fresh_all : (named : List ℕ) (us : List Update) (i fresh : ℕ) → length us ≤ i → Apart (targets us) → fresh ≡ fresh_count named (targets (take i us))
    → length (gathered named (targets us)) ≡ length named + fresh
fresh_all named us i fresh l apart e =
    let all : take i us ≡ us = take_past i us l in
    omega (arith, length-gathered named (targets us) apart, e, ap (λ (xs : List Update). fresh_count named (targets xs)) all)
  where
    take_past : (k : ℕ) (xs : List Update) → length xs ≤ k → take k xs ≡ xs
    take_past zero [] m = refl
    take_past zero (x ∷ xs) m = absurd (omega arith)
    take_past (suc k) [] m = refl
    take_past (suc k) (x ∷ xs) m = ap (λ ys. x ∷ ys) (take_past k xs (omega arith))

-- the sectors of different updates are gathered as they are
abbrev pub Away : List ℕ → List ℕ → Type 0
Away seen [] = Unit {0}
Away seen (t ∷ ts) = Out seen t × Away seen ts

Away-push : (seen ts : List ℕ) (x : ℕ) → Away seen ts → Out ts x → Away (seen ++ x ∷ []) ts
Away-push seen [] x a o = tt
Away-push seen (t ∷ ts) x a o = (Out-push seen x t a.0 (λ e. o.0 (sym e)), Away-push seen ts x a.1 o.1)

Away-none : (ts : List ℕ) → Away [] ts
Away-none [] = tt
Away-none (t ∷ ts) = (tt, Away-none ts)

gathered_away : (seen ts : List ℕ) → Apart ts → Away seen ts → gathered seen ts ≡ seen ++ ts
gathered_away seen [] a w = sym (append-nil seen)
gathered_away seen (t ∷ ts) a w =
    ap (λ (b : Bool). gathered (if b then seen else seen ++ t ∷ []) ts) (out-not_has seen t w.0)
    ∙ gathered_away (seen ++ t ∷ []) ts a.1 (Away-push seen ts t w.1 a.0)
    ∙ append_assoc seen (t ∷ []) ts

pub gathered_apart : (ts : List ℕ) → Apart ts → gathered [] ts ≡ ts
gathered_apart ts a = gathered_away [] ts a (Away-none ts)

pub Apart-Fit : (size : ℕ) (ts : List ℕ) → Fit size ts → Apart ts
Apart-Fit size [] f = tt
Apart-Fit size (t ∷ ts) f = (f.2, Apart-Fit size ts f.3)

-- A gate sector has one list of targets: its words give them back.
use Rattle.std.proofs.Common.{◌≡◌, ◌≤◌, ◌<◌, ◌+◌, ◌-◌, ◌*◌, ◌^◌, ◌==◌, ℕ, suc, zero, Bool, true, false, List, [], ◌∷◌, ◌++◌, length, take, drop, map, get_or, replicate, refl, sym, ap, ◌∙◌, subst, arith, eqb, eq-eqb, ne_eqb, ◌&&◌, ◌||◌, AllPairs, ◌≢◌}
use lib.Pointwise.{pointwise}
use Rattle.std.specs.List.{range_with_len, list_any}
use Rattle.std.proofs.lemmas.Bool.{eqb-false, or_parts}
use Rattle.std.proofs.lemmas.List.{drop-drop, take_more}
use Rattle.byteorder.specs.Endian.{big_bytes, big_number}
use Rattle.byteorder.specs.Numbers.{big_number-reads_back}
use Rattle.disk.specs.Calls.{zero_sector}
use Rattle.journal.specs.declared.layout.LogArea.{LogArea}
use Rattle.journal.specs.Layout.{AreNamed, AreTargets, IsArea, NamesTargets, gate, gate_words, words, words_in}
use Rattle.journal.proofs.Images.{Named-join, Out, are_named, named_of}
use Rattle.journal.proofs.Lists.{Fit-push, targets_of-Fit}
use Rattle.journal.proofs.Stages.{Fit-of, fit_once}

Out-any : (ts : List ℕ) (n : ℕ) → list_any (λ t. t == n) ts ≡ false → Out ts n
Out-any [] n e = tt
Out-any (t ∷ ts) n e =
    let q = or_parts (t == n) (list_any (λ t. t == n) ts) e in
    (eqb-false t n q.0, Out-any ts n q.1)

-- one more target of a transaction, and of a gate
pub AreTargets-more : (size : ℕ) (to : List ℕ) (i t : ℕ) → i < length to → get_or to i 0 ≡ t → AreTargets size (take i to) → 98 ≤ t → t < size
    → list_any (λ s. s == t) (take i to) ≡ false → AreTargets size (take (i + 1) to)
AreTargets-more size to i t l at a from below none =
    let more : take (i + 1) to ≡ take i to ++ t ∷ [] = take_more to i 0 l ∙ ap (λ (s : ℕ). take i to ++ s ∷ []) at in
    let P : List ℕ → Type 0 = λ xs. AreTargets size xs in
    subst P (sym more) (targets_of-Fit size (take i to ++ t ∷ []) (Fit-push size (take i to) t (Fit-of size (take i to) a) from below (Out-any (take i to) t none)))

pub AreNamed-more : (area : LogArea) (to : List ℕ) (i t : ℕ) → i < length to → get_or to i 0 ≡ t → AreNamed area (take i to) → 98 ≤ t → t < area.end
    → (area.once ≡ true → list_any (λ s. s == t) (take i to) ≡ false) → AreNamed area (take (i + 1) to)
AreNamed-more area to i t l at a from below none =
    let more : take (i + 1) to ≡ take i to ++ t ∷ [] = take_more to i 0 l ∙ ap (λ (s : ℕ). take i to ++ s ∷ []) at in
    let P : List ℕ → Type 0 = λ xs. AreNamed area xs in
    subst P (sym more) (are_named area (take i to ++ t ∷ []) (Named-join area.end (take i to) (t ∷ []) (named_of area (take i to) a) (from, below, tt)) (λ once.
    (targets_of-Fit area.end (take i to ++ t ∷ []) (Fit-push area.end (take i to) t (fit_once area (take i to) a once) from below (Out-any (take i to) t (none once)))).apart))

-- one that is named again is not different
pub named_twice : (to : List ℕ) (i : ℕ) → AllPairs (λ a b. a ≢ b) to → i < length to → list_any (λ s. s == get_or to i 0) (take i to) ≡ true → ⊥
named_twice [] i apart l e = absurd (omega arith)
named_twice (t ∷ ts) zero apart l e = let never : false ≡ true = e in cc
named_twice (t ∷ ts) (suc i) apart l e =
    let other : (t == get_or ts i 0) ≡ false = ne_eqb t (get_or ts i 0) (apart 0 (suc i) 0 (omega arith) l) in
    named_twice ts i (λ j k d m n. apart (suc j) (suc k) d (omega arith) (omega arith)) (omega arith)
    (ap (λ (b : Bool). b || list_any (λ s. s == get_or ts i 0) (take i ts)) (sym other) ∙ e)

range_push : (a n : ℕ) → range_with_len a (suc n) ≡ range_with_len a n ++ (a + n) ∷ []
range_push a zero = ap (λ (x : ℕ). x ∷ []) (omega arith)
range_push a (suc n) = ap (λ xs. a ∷ xs) (range_push (a + 1) n ∙ ap (λ (x : ℕ). range_with_len (a + 1) n ++ x ∷ []) (omega arith))

map_push : (f : ℕ → ℕ) (xs : List ℕ) (x : ℕ) → map f (xs ++ x ∷ []) ≡ map f xs ++ f x ∷ []
map_push f [] x = refl
map_push f (y ∷ xs) x = ap (λ ys. f y ∷ ys) (map_push f xs x)

-- one more word
pub words_more : (f : ℕ → ℕ) (i : ℕ) → map f (range_with_len 0 (i + 1)) ≡ map f (range_with_len 0 i) ++ f i ∷ []
words_more f i =
    ap (λ (n : ℕ). map f (range_with_len 0 n)) (let q : i + 1 ≡ suc i = omega arith in q) ∙ ap (λ (xs : List ℕ). map f xs) (range_push 0 i)
    ∙ map_push f (range_with_len 0 i) (0 + i) ∙ ap (λ (x : ℕ). map f (range_with_len 0 i) ++ f x ∷ []) (let q : 0 + i ≡ i = omega arith in q)

map_range : (f : ℕ → ℕ) (to : List ℕ) (a : ℕ) → ((i : ℕ) → i < length to → f (a + i) ≡ get_or to i 0) → map f (range_with_len a (length to)) ≡ to
map_range f [] a e = refl
map_range f (t ∷ ts) a e =
    ap (λ (x : ℕ). x ∷ map f (range_with_len (a + 1) (length ts))) (ap f (let q : a ≡ a + 0 = omega arith in q) ∙ e 0 (omega arith))
    ∙ ap (λ (xs : List ℕ). t ∷ xs) (map_range f ts (a + 1) (λ i l. ap f (let q : a + 1 + i ≡ a + suc i = omega arith in q) ∙ e (suc i) (omega arith)))

drop_words : (to rest : List ℕ) (i : ℕ) → i < length to → drop (4 * i) (words to ++ rest) ≡ big_bytes 4 (get_or to i 0) ++ (words (drop (suc i) to) ++ rest)
drop_words [] rest i l = absurd (omega arith)
drop_words (t ∷ ts) rest zero l = refl
drop_words (t ∷ ts) rest (suc i) l =
    ap (λ (n : ℕ). drop n (words (t ∷ ts) ++ rest)) (let q : 4 * suc i ≡ 4 + 4 * i = omega arith in q)
    ∙ sym (drop-drop (4 * i) 4 (words (t ∷ ts) ++ rest))
    ∙ drop_words ts rest i (omega arith)

word_at : (to rest : List ℕ) (i : ℕ) → i < length to → get_or to i 0 < 2 ^ 32 → big_number 4 (drop (4 * i) (words to ++ rest)) ≡ get_or to i 0
word_at to rest i l fits =
    ap (λ (xs : List ℕ). big_number 4 xs) (drop_words to rest i l)
    ∙ big_number-reads_back 4 (get_or to i 0) (words (drop (suc i) to) ++ rest) fits

-- the number of targets that a gate sector's words encode
pub count_in : (to : List ℕ) → length to ≤ 1022 → big_number 4 (drop 4 (gate to)) ≡ length to
unfolding gate zero_sector
count_in [] few = refl
count_in (t ∷ ts) few =
    word_at (gate_words (t ∷ ts)) (replicate (4096 - 4 * length (gate_words (t ∷ ts))) 0) 1 (omega arith) (omega arith)

target_in : (to : List ℕ) (i : ℕ) → i < length to → get_or to i 0 < 2 ^ 32 → big_number 4 (drop (4 * suc (suc i)) (gate to)) ≡ get_or to i 0
unfolding gate
target_in [] i l fits = absurd (omega arith)
target_in (t ∷ ts) i l fits =
    word_at (gate_words (t ∷ ts)) (replicate (4096 - 4 * length (gate_words (t ∷ ts))) 0) (suc (suc i)) (omega arith) fits

-- a gate sector's words give back its targets
pub words_in_gate : (to : List ℕ) → length to ≤ 1022 → ((k : ℕ) → k < length to → get_or to k 0 < 2 ^ 32) → words_in (gate to) ≡ to
words_in_gate to few fits =
    let f : ℕ → ℕ = λ i. big_number 4 (drop (8 + 4 * i) (gate to)) in
    ap (λ (n : ℕ). map f (range_with_len 0 n)) (count_in to few) ∙ map_range f to 0 (λ i l.
    ap (λ (n : ℕ). big_number 4 (drop n (gate to))) (let q : 8 + 4 * (0 + i) ≡ 4 * suc (suc i) = omega arith in q) ∙ target_in to i l (fits i l))

-- below the device's end, which is below 2^32
pub words_fit : (area : LogArea) (to : List ℕ) → area.end < 2 ^ 32 → AreNamed area to → (k : ℕ) → k < length to → get_or to k 0 < 2 ^ 32
words_fit area to small fit k l = omega (arith, fit.on_device k 0 l)

-- a gate sector names one list of targets
pub names_one : (area : LogArea) → IsArea area → (sector to : List ℕ) → area.end < 2 ^ 32 → NamesTargets area sector to → words_in sector ≡ to
names_one area is sector to small names =
    ap (λ (xs : List ℕ). words_in xs) names.gate_is ∙ words_in_gate to (omega (arith, names.few, is.few)) (words_fit area to small names.fit)

pointwise_all : (xs : List ℕ) → pointwise eqb xs xs ≡ true
pointwise_all [] = refl
pointwise_all (x ∷ xs) = ap (λ (b : Bool). b && pointwise eqb xs xs) (eq-eqb x x refl) ∙ pointwise_all xs

pub pointwise_same : (xs ys : List ℕ) → xs ≡ ys → pointwise eqb xs ys ≡ true
pointwise_same xs ys e = let P : List ℕ → Type 0 = λ zs. pointwise eqb xs zs ≡ true in subst P e (pointwise_all xs)

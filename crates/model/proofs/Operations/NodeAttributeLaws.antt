-- The bitmap that is returned names the attributes whose values come with it.
use Rattle.std.proofs.Common.{◌≡◌, ◌⊎◌, inl, inr, ℕ, zero, suc, ◌+◌, ◌*◌, ◌/◌, ◌%◌, ◌<◌, ◌≤◌, Bool, true, false, ◌&&◌, ◌||◌, ◌==◌, cond, min, nat_eq, get_or, List, [], ◌∷◌, ◌++◌, map, filter, refl, sym, ap, ◌∙◌, arith, bit_and, eqb-true, eq-eqb, ne_eqb}
use Rattle.std.specs.List.{list_any, range_with_len, AllByRecursion}
use Rattle.std.specs.Int.{bit_at}
use Rattle.std.proofs.lemmas.Bool.{cases_lt}
use Rattle.std.proofs.lemmas.List.{append-nil}
use Rattle.std.proofs.lemmas.List.Elements.{filter-append}
use Rattle.std.proofs.lemmas.List.Folds.{list_any-append}
use Rattle.std.proofs.lemmas.Nat.Bits.{bit_at_and, bit_at-lt, bit_at-zero}
use Rattle.std.specs.Int.Bits.{and_zero_l}
use Rattle.model.specs.Attributes.Attribute.{attributes_of_word, attributes_from, attributes_of, is_among, trimmed, word_before}
use Rattle.model.specs.Attributes.AttributeValue.{attribute_of}
use Rattle.model.specs.Attributes.NodeAttributes.{supported_bitmap, node_values, common, node_attributes, AnswersAsked}
use Rattle.model_tree.proofs.Facts.BooleanLaws.{and_false, and_true, or_same}

-- Lists

filter-both : {A : Type 0} (p q : A → Bool) (xs : List A) → filter (λ x. p x && q x) xs ≡ filter p (filter q xs)
filter-both p q [] = refl
filter-both {A = A} p q (x ∷ xs) = by_tests (filter-both p q xs) (p x) (q x) refl
  where
    by_tests : filter (λ y. p y && q y) xs ≡ filter p (filter q xs) → (a b : Bool) → p x ≡ a
        → cond (a && b) (x ∷ filter (λ y. p y && q y) xs) (filter (λ y. p y && q y) xs) ≡ filter p (cond b (x ∷ filter q xs) (filter q xs))
    by_tests later true true is = ap (λ l. x ∷ l) later ∙ sym (ap (λ b. cond b (x ∷ filter p (filter q xs)) (filter p (filter q xs))) is)
    by_tests later true false is = later
    by_tests later false true is = later ∙ sym (ap (λ b. cond b (x ∷ filter p (filter q xs)) (filter p (filter q xs))) is)
    by_tests later false false is = later

filter-like : {A : Type 0} (p q : A → Bool) (xs : List A) → AllByRecursion (λ x. p x ≡ q x) xs → filter p xs ≡ filter q xs
filter-like p q [] same = refl
filter-like p q (x ∷ xs) same = ap (λ l. cond (p x) (x ∷ l) l) (filter-like p q xs same.1) ∙ ap (λ b. cond b (x ∷ filter q xs) (filter q xs)) same.0

pub filter-map : {A B : Type 0} (p : B → Bool) (f : A → B) (xs : List A) → filter p (map f xs) ≡ map f (filter (λ x. p (f x)) xs)
filter-map p f [] = refl
filter-map {A = A} p f (x ∷ xs) = by_test (filter-map p f xs) (p (f x))
  where
    by_test : filter p (map f xs) ≡ map f (filter (λ y. p (f y)) xs) → (b : Bool)
        → cond b (f x ∷ filter p (map f xs)) (filter p (map f xs)) ≡ map f (cond b (x ∷ filter (λ y. p (f y)) xs) (filter (λ y. p (f y)) xs))
    by_test later true = ap (λ l. f x ∷ l) later
    by_test later false = later

each : {A : Type 0} (P : A → Type 0) → ((x : A) → P x) → (xs : List A) → AllByRecursion P xs
each P holds [] = tt
each P holds (x ∷ xs) = (holds x, each P holds xs)

all-filter : {A : Type 0} (P : A → Type 0) (q : A → Bool) (xs : List A) → AllByRecursion P xs → AllByRecursion P (filter q xs)
all-filter P q [] all = tt
all-filter P q (x ∷ xs) all = by_test (q x) all.0 (all-filter P q xs all.1)
  where
    by_test : (b : Bool) → P x → AllByRecursion P (filter q xs) → AllByRecursion P (cond b (x ∷ filter q xs) (filter q xs))
    by_test true here later = (here, later)
    by_test false here later = later

-- what a word has

abbrev has : (word bit : ℕ) → Bool
has word bit = bit_at word bit == 1

abbrev bits : List ℕ
bits = range_with_len 0 32

range_below : (a n most : ℕ) → a + n ≤ most → AllByRecursion (λ b. b < most) (range_with_len a n)
range_below a zero most within = tt
range_below a (suc n) most within = (omega arith, range_below (a + 1) n most (omega arith))

any_none : (p : ℕ → Bool) (xs : List ℕ) → AllByRecursion (λ x. p x ≡ false) xs → list_any p xs ≡ false
any_none p [] all = refl
any_none p (x ∷ xs) all = ap (λ b. b || list_any p xs) all.0 ∙ any_none p xs all.1

all_mono : (P Q : ℕ → Type 0) (xs : List ℕ) → ((x : ℕ) → P x → Q x) → AllByRecursion P xs → AllByRecursion Q xs
all_mono P Q [] step all = tt
all_mono P Q (x ∷ xs) step all = (step x all.0, all_mono P Q xs step all.1)

any_chosen : (p q : ℕ → Bool) (f : ℕ → ℕ) (xs : List ℕ) → list_any p (map f (filter q xs)) ≡ list_any (λ x. q x && p (f x)) xs
any_chosen p q f [] = refl
any_chosen p q f (x ∷ xs) = by_test (any_chosen p q f xs) (q x)
  where
    by_test : list_any p (map f (filter q xs)) ≡ list_any (λ y. q y && p (f y)) xs → (b : Bool)
        → list_any p (map f (cond b (x ∷ filter q xs) (filter q xs))) ≡ ((b && p (f x)) || list_any (λ y. q y && p (f y)) xs)
    by_test later true = ap (λ b. p (f x) || b) later
    by_test later false = later

range_from : (a n least : ℕ) → least ≤ a → AllByRecursion (λ x. least ≤ x) (range_with_len a n)
range_from a zero least within = tt
range_from a (suc n) least within = (within, range_from (a + 1) n least (omega (arith, within)))

-- a number of a range that passes, when it is `g` further on
any_in : (g a n b : ℕ) (q : ℕ → Bool) → a ≤ b → b < a + n → list_any (λ x. q x && nat_eq (g + b) (g + x)) (range_with_len a n) ≡ q b
any_in g a zero b q low high = absurd (omega arith)
any_in g a (suc n) b q low high = by_place (cases_lt a b) (λ above. any_in g (a + 1) n b q (omega (arith, above)) (omega arith))
  where
    others : a ≡ b → AllByRecursion (λ x. (q x && nat_eq (g + b) (g + x)) ≡ false) (range_with_len (a + 1) n)
    others is = all_mono (λ x. a + 1 ≤ x) (λ x. (q x && nat_eq (g + b) (g + x)) ≡ false) (range_with_len (a + 1) n)
        (λ x above. ap (λ t. q x && t) (ne_eqb (g + b) (g + x) (λ same. omega (arith, above, same, is))) ∙ and_false (q x))
        (range_from (a + 1) n (a + 1) (omega arith))

    by_place : (a < b) ⊎ (b ≤ a) → (a < b → list_any (λ x. q x && nat_eq (g + b) (g + x)) (range_with_len (a + 1) n) ≡ q b)
        → ((q a && nat_eq (g + b) (g + a)) || list_any (λ x. q x && nat_eq (g + b) (g + x)) (range_with_len (a + 1) n)) ≡ q b
    by_place (inl above) rest =
        let differs : nat_eq (g + b) (g + a) ≡ false = ne_eqb (g + b) (g + a) (λ same. omega (arith, above, same)) in
        ap (λ t. (q a && t) || list_any (λ x. q x && nat_eq (g + b) (g + x)) (range_with_len (a + 1) n)) differs
        ∙ (ap (λ t. t || list_any (λ x. q x && nat_eq (g + b) (g + x)) (range_with_len (a + 1) n)) (and_false (q a)) ∙ rest above)
    by_place (inr below) rest =
        let is : a ≡ b = omega (arith, below, low) in
        let same : nat_eq (g + b) (g + a) ≡ true = eq-eqb (g + b) (g + a) (omega (arith, is)) in
        let none = any_none (λ x. q x && nat_eq (g + b) (g + x)) (range_with_len (a + 1) n) (others is) in
        ap (λ t. (q a && t) || list_any (λ x. q x && nat_eq (g + b) (g + x)) (range_with_len (a + 1) n)) same
        ∙ (ap (λ t. t || list_any (λ x. q x && nat_eq (g + b) (g + x)) (range_with_len (a + 1) n)) (and_true (q a))
        ∙ (or_same (q a) _ none ∙ ap q is))

in_word : (g word b : ℕ) → b < 32 → is_among (attributes_of_word g word) (g + b) ≡ has word b
in_word g word b low = any_chosen (nat_eq (g + b)) (has word) (λ bit. g + bit) bits ∙ any_in g 0 32 b (has word) (omega arith) (omega (arith, low))

no_word : (g word n : ℕ) → (n < g) ⊎ (g + 32 ≤ n) → is_among (attributes_of_word g word) n ≡ false
no_word g word n out =
    any_chosen (nat_eq n) (has word) (λ bit. g + bit) bits
    ∙ any_none (λ x. has word x && nat_eq n (g + x)) bits
    (all_mono (λ x. x < 32) (λ x. (has word x && nat_eq n (g + x)) ≡ false) bits
    (λ x low. ap (λ t. has word x && t) (ne_eqb n (g + x) (λ same. differs x low same out)) ∙ and_false (has word x))
    (range_below 0 32 32 (omega arith)))
  where
    differs : (x : ℕ) → x < 32 → n ≡ g + x → (n < g) ⊎ (g + 32 ≤ n) → ⊥
    differs x low same (inl before) = omega (arith, low, same, before)
    differs x low same (inr behind) = omega (arith, low, same, behind)

-- a bitmap, whose missing words are 0

nth : List ℕ → ℕ → ℕ
nth [] k = 0
nth (word ∷ words) zero = word
nth (word ∷ words) (suc k) = nth words k

no_later : (g : ℕ) (words : List ℕ) (n : ℕ) → n < g → is_among (attributes_from g words) n ≡ false
no_later g [] n before = refl
no_later g (word ∷ words) n before =
    list_any-append (nat_eq n) (attributes_of_word g word) (attributes_from (g + 32) words)
    ∙ (ap (λ b. b || is_among (attributes_from (g + 32) words) n) (no_word g word n (inl before))
    ∙ no_later (g + 32) words n (omega (arith, before)))

among_from : (g : ℕ) (words : List ℕ) (k b : ℕ) → b < 32 → is_among (attributes_from g words) (g + 32 * k + b) ≡ has (nth words k) b
unfolding nth
among_from g [] k b low = sym (ap (λ x. x == 1) (bit_at-zero b))
among_from g (word ∷ words) zero b low =
    let place : g + 32 * 0 + b ≡ g + b = omega arith in
    ap (is_among (attributes_from g (word ∷ words))) place
    ∙ (list_any-append (nat_eq (g + b)) (attributes_of_word g word) (attributes_from (g + 32) words)
    ∙ (or_same _ _ (no_later (g + 32) words (g + b) (omega (arith, low))) ∙ in_word g word b low))
among_from g (word ∷ words) (suc k) b low =
    let n = g + 32 * suc k + b in
    let place : n ≡ (g + 32) + 32 * k + b = omega arith in
    list_any-append (nat_eq n) (attributes_of_word g word) (attributes_from (g + 32) words)
    ∙ (ap (λ t. t || is_among (attributes_from (g + 32) words) n) (no_word g word n (inr (omega arith)))
    ∙ (ap (is_among (attributes_from (g + 32) words)) place ∙ among_from (g + 32) words k b low))

nth-get : (words : List ℕ) (k : ℕ) → nth words k ≡ get_or words k 0
unfolding nth
nth-get [] k = refl
nth-get (word ∷ words) zero = refl
nth-get (word ∷ words) (suc k) = nth-get words k

-- an attribute is asked for exactly if its bit is set
pub asked_bit : (words : List ℕ) (n : ℕ) → is_among (attributes_of words) n ≡ (bit_at (get_or words (n / 32) 0) (n % 32) == 1)
unfolding attributes_of
asked_bit words n =
    let place : n ≡ 0 + 32 * (n / 32) + n % 32 = omega arith in
    ap (is_among (attributes_from 0 words)) place
    ∙ (among_from 0 words (n / 32) (n % 32) (omega arith) ∙ ap (λ word. has word (n % 32)) (nth-get words (n / 32)))

-- the bits in common

small_both : (x y : ℕ) → x < 2 → y < 2 → (min x y == 1) ≡ ((x == 1) && (y == 1))
small_both zero zero a b = refl
small_both zero (suc zero) a b = refl
small_both (suc zero) zero a b = refl
small_both (suc zero) (suc zero) a b = refl
small_both (suc (suc x)) y a b = absurd (omega arith)
small_both zero (suc (suc y)) a b = absurd (omega arith)
small_both (suc zero) (suc (suc y)) a b = absurd (omega arith)

has_both : (word other b : ℕ) → has (bit_and word other) b ≡ (has word b && has other b)
has_both word other b = ap (λ x. x == 1) (bit_at_and word other b) ∙ small_both (bit_at word b) (bit_at other b) (bit_at-lt word b) (bit_at-lt other b)

module _ (asked : List ℕ) where
  word_asked : (g word other : ℕ) → ((b : ℕ) → b < 32 → is_among asked (g + b) ≡ has word b)
      → attributes_of_word g (bit_and word other) ≡ filter (is_among asked) (attributes_of_word g other)
  word_asked g word other is =
      ap (map (λ bit. g + bit))
      (filter-like (has (bit_and word other)) (λ b. has word b && has other b) bits (each _ (has_both word other) bits)
      ∙ (filter-both (has word) (has other) bits
      ∙ filter-like (has word) (λ b. is_among asked (g + b)) (filter (has other) bits)
      (all-filter (λ b. has word b ≡ is_among asked (g + b)) (has other) bits
      (all_mono (λ b. b < 32) (λ b. has word b ≡ is_among asked (g + b)) bits (λ b low. sym (is b low)) (range_below 0 32 32 (omega arith))))))
      ∙ sym (filter-map (is_among asked) (λ bit. g + bit) (filter (has other) bits))

  words_asked : (g : ℕ) (words others : List ℕ) → ((k b : ℕ) → b < 32 → is_among asked (g + 32 * k + b) ≡ has (nth words k) b)
      → attributes_from g (common words others) ≡ filter (is_among asked) (attributes_from g others)
  unfolding nth
  words_asked g [] [] is = refl
  words_asked g (word ∷ words) [] is = refl
  words_asked g [] (other ∷ others) is =
      let first = word_asked g 0 other (λ b low. ap (is_among asked) (at_first b) ∙ is 0 b low) in
      let none : attributes_of_word g (bit_and 0 other) ≡ [] = ap (attributes_of_word g) (and_zero_l other) in
      let rest = words_asked (g + 32) [] others (λ k b low. ap (is_among asked) (further k b) ∙ is (suc k) b low) in
      sym (filter-append (is_among asked) (attributes_of_word g other) (attributes_from (g + 32) others)
      ∙ (ap (λ l. l ++ filter (is_among asked) (attributes_from (g + 32) others)) (sym first ∙ none) ∙ sym rest))
    where
      at_first : (b : ℕ) → g + b ≡ g + 32 * 0 + b
      at_first b = omega arith

      further : (k b : ℕ) → (g + 32) + 32 * k + b ≡ g + 32 * suc k + b
      further k b = omega arith
  words_asked g (word ∷ words) (other ∷ others) is =
      let first = word_asked g word other (λ b low. ap (is_among asked) (at_first b) ∙ is 0 b low) in
      let rest = words_asked (g + 32) words others (λ k b low. ap (is_among asked) (further k b) ∙ is (suc k) b low) in
      ap (λ l. l ++ attributes_from (g + 32) (common words others)) first
      ∙ (ap (λ l. filter (is_among asked) (attributes_of_word g other) ++ l) rest
      ∙ sym (filter-append (is_among asked) (attributes_of_word g other) (attributes_from (g + 32) others)))
    where
      at_first : (b : ℕ) → g + b ≡ g + 32 * 0 + b
      at_first b = omega arith

      further : (k b : ℕ) → (g + 32) + 32 * k + b ≡ g + 32 * suc k + b
      further k b = omega arith

-- zero words at the end name nothing

without_zeros : (g : ℕ) (words : List ℕ) → attributes_from g (trimmed words) ≡ attributes_from g words
without_zeros g [] = refl
without_zeros g (word ∷ words) = before (trimmed words) ∙ ap (λ l. attributes_of_word g word ++ l) (without_zeros (g + 32) words)
  where
    alone : (b : Bool) → (word == 0) ≡ b → attributes_from g (cond b [] (word ∷ [])) ≡ attributes_of_word g word ++ []
    alone true is = sym (append-nil (attributes_of_word g word) ∙ ap (attributes_of_word g) (eqb-true word 0 is))
    alone false is = refl

    before : (rest : List ℕ) → attributes_from g (word_before word rest) ≡ attributes_of_word g word ++ attributes_from (g + 32) rest
    before [] = alone (word == 0) refl
    before (next ∷ rest) = refl

pub answers_asked : AnswersAsked
unfolding node_attributes attributes_of nth
answers_asked limits bitmap number node =
    let asked = attributes_from 0 bitmap in
    without_zeros 0 (common bitmap supported_bitmap)
    ∙ (words_asked asked 0 bitmap supported_bitmap (λ k b low. among_from 0 bitmap k b low)
    ∙ filter-map (is_among asked) attribute_of (node_values limits number node))

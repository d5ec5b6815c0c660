-- What the entries from a place on decide about the rights that those before it left undecided.
use Rattle.std.proofs.Common.{◌≡◌, ◌≢◌, ◌∙◌, sym, ap, refl, ⊎_elim, ℕ, zero, suc, ◌+◌, ◌-◌, ◌*◌, ◌^◌, ◌<◌, ◌≤◌, ◌==◌, Bool, true, false, cond, ◌&&◌, ◌||◌, not, List, [], ◌∷◌, filter, map, min, Option, Some, arith, bit_and}
use Rattle.std.specs.List.{list_all, range_with_len}
use Rattle.std.specs.Int.{bit_at}
use Rattle.std.proofs.lemmas.Bool.{false≢true, cases_Bool, cases_eq, false_from_ne_true, and_parts, eq-eqb, ne_eqb}
use Rattle.std.proofs.lemmas.List.Folds.{list_all-map}
use Rattle.std.proofs.lemmas.Nat.{and_le_l}
use Rattle.std.proofs.lemmas.Nat.Bits.{and_pow, bit_at_and, bit_at-lt, bit_at_not, bit_at-zero, same_from_bits_below}
use Rattle.std.proofs.Math.Pow.{pow_pos}
use Rattle.std.proofs.Math.Dec.{lit<}
use mathlib.Core.Bool.{beq}
use Rattle.std.specs.Int.{w32}
use Rattle.model_tree.specs.Rights.Acl.{meets, bits_without, bits_of, counts, first_of, allows, is_allow, is_owners_right, granted, matches, read_acl, write_acl, write_attributes}
use Rattle.model_tree.specs.declared.acl.Ace.{Ace}
use Rattle.model_tree.specs.declared.acl.Cred.{Cred}
use Rattle.model_tree.specs.declared.acl.Who.{Who}

-- ---- single bits

meets_one : (a k : ℕ) → bit_at a k ≡ 1 → meets a (2 ^ k) ≡ true
meets_one a k e =
    let some : 0 < 2 ^ k = pow_pos k in
    let here : bit_and a (2 ^ k) ≡ 1 * 2 ^ k = and_pow a k ∙ ap (λ b. b * 2 ^ k) e in
    rw (ne_eqb (bit_and a (2 ^ k)) 0 (λ z. omega arith))

meets_zero : (a k : ℕ) → bit_at a k ≡ 0 → meets a (2 ^ k) ≡ false
meets_zero a k e =
    let here : bit_and a (2 ^ k) ≡ 0 * 2 ^ k = and_pow a k ∙ ap (λ b. b * 2 ^ k) e in
    let none : bit_and a (2 ^ k) ≡ 0 = omega arith in
    rw (eq-eqb (bit_and a (2 ^ k)) 0 none)

meets_at : (a k n : ℕ) → bit_at a k ≡ n → n < 2 → meets a (2 ^ k) ≡ (n == 1)
meets_at a k zero e h = meets_zero a k e
meets_at a k (suc zero) e h = meets_one a k e
meets_at a k (suc (suc n)) e h = absurd (omega arith)

-- a test of a bit is its value
pub meets-pow : (a k : ℕ) → meets a (2 ^ k) ≡ (bit_at a k == 1)
meets-pow a k = meets_at a k (bit_at a k) refl (bit_at-lt a k)

-- a bit that is left when another is removed
left_bit : (a b : ℕ) → a < 2 → b < 2 → (min a (1 - b) == 1) ≡ ((a == 1) && not (b == 1))
left_bit zero zero h l = refl
left_bit zero (suc zero) h l = refl
left_bit zero (suc (suc b)) h l = absurd (omega arith)
left_bit (suc zero) zero h l = refl
left_bit (suc zero) (suc zero) h l = refl
left_bit (suc zero) (suc (suc b)) h l = absurd (omega arith)
left_bit (suc (suc a)) b h l = absurd (omega arith)

meets-without : (a b k : ℕ) → b < 2 ^ 32 → k < 32 → meets (bits_without a b) (2 ^ k) ≡ (meets a (2 ^ k) && not (meets b (2 ^ k)))
meets-without a b k fits within =
    let left : bit_at (bits_without a b) k ≡ min (bit_at a k) (1 - bit_at b k) =
    bit_at_and a (2 ^ 32 - 1 - b) k ∙ ap (min (bit_at a k)) (bit_at_not w32 b k fits within) in
    simp (meets-pow a k, meets-pow b k, meets-pow (bits_without a b) k, left) (left_bit (bit_at a k) (bit_at b k) (bit_at-lt a k) (bit_at-lt b k))

common_bit : (a b : ℕ) → a < 2 → b < 2 → ((a == 1) && (b == 1)) ≡ false → min a b ≡ 0
common_bit zero b h l e = omega arith
common_bit (suc zero) zero h l e = refl
common_bit (suc zero) (suc zero) h l e = absurd (false≢true (sym e))
common_bit (suc zero) (suc (suc b)) h l e = absurd (omega arith)
common_bit (suc (suc a)) b h l e = absurd (omega arith)

-- words that share no bit have the conjunction 0
and_from_bits : (a b : ℕ) → a < 2 ^ 32 → ((k : ℕ) → k < 32 → (meets a (2 ^ k) && meets b (2 ^ k)) ≡ false) → bit_and a b ≡ 0
and_from_bits a b fits apart =
    let small = and_le_l a b in
    same_from_bits_below 32 (bit_and a b) 0 (omega arith) (omega arith)
    (λ k h.
    bit_at_and a b k
    ∙ common_bit (bit_at a k) (bit_at b k) (bit_at-lt a k) (bit_at-lt b k) (rw (← meets-pow a k, ← meets-pow b k) (apart k h))
    ∙ sym (bit_at-zero k))

-- ---- all single bits

abbrev powers : List ℕ
powers = map (λ k. 2 ^ k) (range_with_len 0 32)

filtered_step : {X : Type 0} (p q : X → Bool) (x : X) (xs : List X) (b : Bool) → q x ≡ b → list_all p (filter q xs) ≡ list_all (λ y. not (q y) || p y) xs → list_all p (cond b (x ∷ filter q xs) (filter q xs)) ≡ ((not b || p x) && list_all (λ y. not (q y) || p y) xs)
filtered_step p q x xs true e h = rw h
filtered_step p q x xs false e h = h

list_all-filter : {X : Type 0} (p q : X → Bool) (xs : List X) → list_all p (filter q xs) ≡ list_all (λ y. not (q y) || p y) xs
list_all-filter p q [] = refl
list_all-filter p q (x ∷ xs) = filtered_step p q x xs (q x) refl (list_all-filter p q xs)

list_all-range : (p q : ℕ → Bool) (n a : ℕ) → ((k : ℕ) → k < a + n → p k ≡ q k) → list_all p (range_with_len a n) ≡ list_all q (range_with_len a n)
list_all-range p q zero a h = refl
list_all-range p q (suc n) a h = rw (h a (omega arith), list_all-range p q n (a + 1) (λ k l. h k (omega arith)))

at_range : (p : ℕ → Bool) (n a k : ℕ) → list_all p (range_with_len a n) ≡ true → a ≤ k → k < a + n → p k ≡ true
at_range p zero a k e h l = absurd (omega arith)
at_range p (suc n) a k e h l =
    let parts = and_parts (p a) (list_all p (range_with_len (a + 1) n)) e in
    ⊎_elim (λ (here : k ≡ a). rw here parts.0) (λ (later : k ≡ a → ⊥). at_range p n (a + 1) k parts.1 (omega arith) (omega arith)) (cases_eq k a)

-- two tests that agree at each bit agree at all of them
same_on_bits : (p q : ℕ → Bool) → ((k : ℕ) → k < 32 → p (2 ^ k) ≡ q (2 ^ k)) → list_all p powers ≡ list_all q powers
same_on_bits p q h =
    list_all-map p (λ k. 2 ^ k) (range_with_len 0 32) ∙ list_all-range (λ k. p (2 ^ k)) (λ k. q (2 ^ k)) 32 0 h ∙ sym (list_all-map q (λ k. 2 ^ k) (range_with_len 0 32))

at_bit : (p : ℕ → Bool) (k : ℕ) → list_all p powers ≡ true → k < 32 → p (2 ^ k) ≡ true
at_bit p k e h = at_range (λ j. p (2 ^ j)) 32 0 k (sym (list_all-map p (λ j. 2 ^ j) (range_with_len 0 32)) ∙ e) (omega arith) (omega arith)

-- ---- a list, entry by entry

-- whether the entries allow all the rights of a word
abbrev pub allow_all : (Who → Bool) → List Ace → ℕ → Bool
allow_all is_matching acl word = list_all (λ right. allows (first_of is_matching acl right)) (bits_of word)

-- the same, as a test of each bit
abbrev allows_bit : (Who → Bool) → List Ace → ℕ → ℕ → Bool
allows_bit is_matching acl word right = not (meets word right) || allows (first_of is_matching acl right)

by_bits : (is_matching : Who → Bool) (acl : List Ace) (word : ℕ) → allow_all is_matching acl word ≡ list_all (allows_bit is_matching acl word) powers
by_bits is_matching acl word = list_all-filter (λ right. allows (first_of is_matching acl right)) (meets word) powers

same_by_bits : (is_matching : Who → Bool) (acl rest : List Ace) (word left : ℕ) → ((k : ℕ) → k < 32 → allows_bit is_matching acl word (2 ^ k) ≡ allows_bit is_matching rest left (2 ^ k)) → allow_all is_matching acl word ≡ allow_all is_matching rest left
same_by_bits is_matching acl rest word left h =
    by_bits is_matching acl word ∙ same_on_bits (allows_bit is_matching acl word) (allows_bit is_matching rest left) h ∙ sym (by_bits is_matching rest left)

-- the entry that decides: the first one, if it concerns the caller and names the right
first_of-cons : (is_matching : Who → Bool) (ace : Ace) (rest : List Ace) (right : ℕ) → first_of is_matching (ace ∷ rest) right ≡ cond (counts ace && is_matching ace.who && meets ace.mask.0 right) (Some ace) (first_of is_matching rest right)
unfolding first_of
first_of-cons is_matching ace rest right = refl

first_of-concerned : (is_matching : Who → Bool) (ace : Ace) (rest : List Ace) (right : ℕ) → (counts ace && is_matching ace.who) ≡ true → first_of is_matching (ace ∷ rest) right ≡ cond (meets ace.mask.0 right) (Some ace) (first_of is_matching rest right)
first_of-concerned is_matching ace rest right e = first_of-cons is_matching ace rest right ∙ rw e

first_of-skipped : (is_matching : Who → Bool) (ace : Ace) (rest : List Ace) (right : ℕ) → (counts ace && is_matching ace.who) ≡ false → first_of is_matching (ace ∷ rest) right ≡ first_of is_matching rest right
first_of-skipped is_matching ace rest right e = first_of-cons is_matching ace rest right ∙ rw e

-- an entry that does not concern the caller
pub allow_all-skipped : (is_matching : Who → Bool) (ace : Ace) (rest : List Ace) (word : ℕ) → (counts ace && is_matching ace.who) ≡ false → allow_all is_matching (ace ∷ rest) word ≡ allow_all is_matching rest word
allow_all-skipped is_matching ace rest word e =
    same_by_bits is_matching (ace ∷ rest) rest word word (λ k h. ap (λ o. not (meets word (2 ^ k)) || allows o) (first_of-skipped is_matching ace rest (2 ^ k) e))

allow_step : (asked named : Bool) (ace : Ace) (later : Option Ace) → is_allow ace.kind ≡ true → (not asked || allows (cond named (Some ace) later)) ≡ (not (asked && not named) || allows later)
allow_step false named ace later e = refl
allow_step true true ace later e = e
allow_step true false ace later e = refl

-- an ALLOW entry settles the rights that it names
pub allow_all-allowed : (is_matching : Who → Bool) (ace : Ace) (rest : List Ace) (word : ℕ) → (counts ace && is_matching ace.who) ≡ true → is_allow ace.kind ≡ true → ace.mask.0 < 2 ^ 32 → allow_all is_matching (ace ∷ rest) word ≡ allow_all is_matching rest (bits_without word ace.mask.0)
allow_all-allowed is_matching ace rest word e allowed fits =
    same_by_bits is_matching (ace ∷ rest) rest word (bits_without word ace.mask.0)
    (λ k h.
    ap (λ o. not (meets word (2 ^ k)) || allows o) (first_of-concerned is_matching ace rest (2 ^ k) e)
    ∙ allow_step (meets word (2 ^ k)) (meets ace.mask.0 (2 ^ k)) ace (first_of is_matching rest (2 ^ k)) allowed
    ∙ ap (λ left. not left || allows (first_of is_matching rest (2 ^ k))) (sym (meets-without word ace.mask.0 k fits h)))

deny_step : (asked named : Bool) (ace : Ace) (later : Option Ace) → (asked && named) ≡ false → (not asked || allows (cond named (Some ace) later)) ≡ (not asked || allows later)
deny_step false named ace later e = refl
deny_step true true ace later e = absurd (false≢true (sym e))
deny_step true false ace later e = refl

no_common_bit : (a b : ℕ) → a < 2 → b < 2 → min a b ≡ 0 → ((a == 1) && (b == 1)) ≡ false
no_common_bit zero b h l e = refl
no_common_bit (suc zero) zero h l e = refl
no_common_bit (suc zero) (suc zero) h l e = absurd (omega arith)
no_common_bit (suc zero) (suc (suc b)) h l e = absurd (omega arith)
no_common_bit (suc (suc a)) b h l e = absurd (omega arith)

apart_at : (a b k : ℕ) → bit_and a b ≡ 0 → (meets a (2 ^ k) && meets b (2 ^ k)) ≡ false
apart_at a b k e =
    let none : min (bit_at a k) (bit_at b k) ≡ 0 = sym (bit_at_and a b k) ∙ ap (λ c. bit_at c k) e ∙ bit_at-zero k in
    simp (meets-pow a k, meets-pow b k) (no_common_bit (bit_at a k) (bit_at b k) (bit_at-lt a k) (bit_at-lt b k) none)

-- a DENY entry that names none of the rights
pub allow_all-passed : (is_matching : Who → Bool) (ace : Ace) (rest : List Ace) (word : ℕ) → (counts ace && is_matching ace.who) ≡ true → bit_and word ace.mask.0 ≡ 0 → allow_all is_matching (ace ∷ rest) word ≡ allow_all is_matching rest word
allow_all-passed is_matching ace rest word e apart =
    same_by_bits is_matching (ace ∷ rest) rest word word
    (λ k h.
    ap (λ o. not (meets word (2 ^ k)) || allows o) (first_of-concerned is_matching ace rest (2 ^ k) e)
    ∙ deny_step (meets word (2 ^ k)) (meets ace.mask.0 (2 ^ k)) ace (first_of is_matching rest (2 ^ k)) (apart_at word ace.mask.0 k apart))

denied_step : (asked named : Bool) (ace : Ace) (later : Option Ace) → is_allow ace.kind ≡ false → (not asked || allows (cond named (Some ace) later)) ≡ true → (asked && named) ≡ false
denied_step false named ace later denied e = refl
denied_step true true ace later denied e = absurd (false≢true (sym denied ∙ e))
denied_step true false ace later denied e = refl

-- a DENY entry that names one of them
pub allow_all-denied : (is_matching : Who → Bool) (ace : Ace) (rest : List Ace) (word : ℕ) → (counts ace && is_matching ace.who) ≡ true → is_allow ace.kind ≡ false → word < 2 ^ 32 → bit_and word ace.mask.0 ≢ 0 → allow_all is_matching (ace ∷ rest) word ≡ false
allow_all-denied is_matching ace rest word e denied fits meet =
    false_from_ne_true (allow_all is_matching (ace ∷ rest) word)
    (λ all.
    let each = sym (by_bits is_matching (ace ∷ rest) word) ∙ all in
    meet
    (and_from_bits word ace.mask.0 fits
    (λ k h.
    denied_step (meets word (2 ^ k)) (meets ace.mask.0 (2 ^ k)) ace (first_of is_matching rest (2 ^ k)) denied
    (sym (ap (λ o. not (meets word (2 ^ k)) || allows o) (first_of-concerned is_matching ace rest (2 ^ k) e)) ∙ at_bit (allows_bit is_matching (ace ∷ rest) word) k each h))))

unasked : (asked : Bool) → (not asked || false) ≡ true → asked ≡ false
unasked true e = sym e
unasked false e = refl

bit_from_test : (n : ℕ) → n < 2 → (n == 1) ≡ false → n ≡ 0
bit_from_test zero h e = refl
bit_from_test (suc zero) h e = absurd (false≢true (sym e))
bit_from_test (suc (suc n)) h e = absurd (omega arith)

same_test : (a b : Bool) → beq a b ≡ true → a ≡ b
same_test true true e = refl
same_test true false e = absurd (false≢true e)
same_test false true e = absurd (false≢true e)
same_test false false e = refl

-- if no entry is left, only the empty set of rights is allowed
pub allow_all-nil : (is_matching : Who → Bool) (word : ℕ) → word < 2 ^ 32 → allow_all is_matching [] word ≡ (word == 0)
unfolding first_of
allow_all-nil is_matching word fits =
    ⊎_elim
    (λ (all : allow_all is_matching [] word ≡ true).
    let each = sym (by_bits is_matching [] word) ∙ all in
    let none : word ≡ 0 =
    same_from_bits_below 32 word 0 fits (omega arith)
    (λ k h. bit_from_test (bit_at word k) (bit_at-lt word k) (sym (meets-pow word k) ∙ unasked (meets word (2 ^ k)) (at_bit (allows_bit is_matching [] word) k each h)) ∙ sym (bit_at-zero k)) in
    all ∙ sym (eq-eqb word 0 none))
    (λ (some : allow_all is_matching [] word ≡ false).
    some ∙ sym (ne_eqb word 0 (λ (none : word ≡ 0). false≢true (sym some ∙ ap (allow_all is_matching []) none))))
    (cases_Bool (allow_all is_matching [] word))

-- ---- the owner's rights

below_32 : (p : ℕ → Bool) → list_all p (range_with_len 0 32) ≡ true → (k : ℕ) → k < 32 → p k ≡ true
below_32 p e k h = at_range p 32 0 k e (omega arith) (omega arith)

-- the same test as one word
abbrev pub owners_mask : ℕ
owners_mask = read_acl + write_acl + write_attributes

owners_right : (k : ℕ) → k < 32 → is_owners_right (2 ^ k) ≡ meets owners_mask (2 ^ k)
owners_right k h = same_test (is_owners_right (2 ^ k)) (meets owners_mask (2 ^ k)) (below_32 (λ j. beq (is_owners_right (2 ^ j)) (meets owners_mask (2 ^ j))) refl k h)

owner_step : (asked own allowed : Bool) → (not asked || (allowed || own)) ≡ (not (asked && not own) || allowed)
owner_step false own allowed = refl
owner_step true true true = refl
owner_step true true false = refl
owner_step true false true = refl
owner_step true false false = refl

other_step : (asked allowed : Bool) → (not asked || (allowed || false)) ≡ (not asked || allowed)
other_step false allowed = refl
other_step true true = refl
other_step true false = refl

module _ (acl : List Ace) (owner group : ℕ) (cred : Cred) (mask : ℕ) where
  abbrev names : Who → Bool
  names name = matches name owner group cred

  -- `grants`, for each right of the mask
  abbrev grants_bit : ℕ → Bool
  grants_bit right = not (meets mask right) || (allows (first_of names acl right) || ((cred.uid == owner) && is_owners_right right))

  owner_bits : (cred.uid == owner) ≡ true → (k : ℕ) → k < 32 → grants_bit (2 ^ k) ≡ allows_bit names acl (bits_without mask owners_mask) (2 ^ k)
  owner_bits e k h =
      rw (e, owners_right k h, meets-without mask owners_mask k (lit< tt) h) (owner_step (meets mask (2 ^ k)) (meets owners_mask (2 ^ k)) (allows (first_of names acl (2 ^ k))))

  pub granted-owner : (cred.uid == owner) ≡ true → granted acl owner group cred mask ≡ allow_all names acl (bits_without mask owners_mask)
  unfolding granted
  granted-owner e =
      list_all-filter (λ right. allows (first_of names acl right) || ((cred.uid == owner) && is_owners_right right)) (meets mask) powers
      ∙ same_on_bits grants_bit (allows_bit names acl (bits_without mask owners_mask)) (owner_bits e)
      ∙ sym (by_bits names acl (bits_without mask owners_mask))

  other_bits : (cred.uid == owner) ≡ false → (k : ℕ) → k < 32 → grants_bit (2 ^ k) ≡ allows_bit names acl mask (2 ^ k)
  other_bits e k h = rw e (other_step (meets mask (2 ^ k)) (allows (first_of names acl (2 ^ k))))

  pub granted-other : (cred.uid == owner) ≡ false → granted acl owner group cred mask ≡ allow_all names acl mask
  unfolding granted
  granted-other e =
      list_all-filter (λ right. allows (first_of names acl right) || ((cred.uid == owner) && is_owners_right right)) (meets mask) powers
      ∙ same_on_bits grants_bit (allows_bit names acl mask) (other_bits e)
      ∙ sym (by_bits names acl mask)

-- Booleans: what the library lacks.
use Rattle.std.proofs.Common.{◌≡◌, Bool, true, false, not, ◌&&◌, ◌||◌, if◌then◌else◌, ◌≤◌, refl, ap, ◌∙◌, arith}
use Rattle.std.proofs.lemmas.Bool.{both_ways, false≢true, not-false, or_parts}
use Rattle.model_tree.specs.Trees.WellFormed.{one_if}

pub and_false : (b : Bool) → (b && false) ≡ false
and_false true = refl
and_false false = refl

pub and_true : (b : Bool) → (b && true) ≡ b
and_true true = refl
and_true false = refl

pub or_false : (b : Bool) → (b || false) ≡ b
or_false true = refl
or_false false = refl

pub or_same : (a b : Bool) → b ≡ false → (a || b) ≡ a
or_same a b is = ap (λ x. a || x) is ∙ or_false a

pub second_of_neither : (a b : Bool) → (a || b) ≡ false → b ≡ false
second_of_neither a b neither = (or_parts a b neither).1

pub second_false : (a b : Bool) → (a && b) ≡ false → a ≡ true → b ≡ false
second_false true b not_both first = not_both
second_false false b not_both first = absurd (false≢true first)

pub second_held : (a b : Bool) → (a && not b) ≡ false → a ≡ true → b ≡ true
second_held a b fails first = not-false b (second_false a (not b) fails first)

-- the one test of a refusal
pub alone : (b : Bool) → ((b || false) && true) ≡ b
alone true = refl
alone false = refl

pub if_true : {A : Type 0} (b : Bool) (x y : A) → b ≡ true → (if b then x else y) ≡ x
if_true b x y is = rw is refl

pub if_false : {A : Type 0} (b : Bool) (x y : A) → b ≡ false → (if b then x else y) ≡ y
if_false b x y is = rw is refl

pub never_both : {A : Type 0} (b : Bool) → b ≡ false → b ≡ true → A
never_both b off on = absurd (both_ways b off on)

pub one_at_most : (b : Bool) → one_if b ≤ 1
one_at_most true = omega arith
one_at_most false = omega arith

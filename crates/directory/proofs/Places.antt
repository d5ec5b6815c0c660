-- The place of a name in a list of records.
use Rattle.std.proofs.Common.{◌≡◌, ◌≢◌, ◌<◌, ◌≤◌, ◌+◌, ℕ, zero, suc, Bool, true, false, eqb, cond, List, [], ◌∷◌, ◌++◌, length, get_or, set, bytes_eq, refl, sym, ap, ◌∙◌, arith, add-one}
use Rattle.std.specs.Prelude.{slice_get}
use Rattle.std.proofs.lemmas.Bool.{eqb-true, eq-eqb, and_parts}
use Rattle.model_tree.specs.Trees.Tree.{entry_of, found_or}
use Rattle.directory.specs.Records.{Record, is_named, place_of, with_record}

-- ---- one step

named_step : (b : Bool) (p n : ℕ) → (p ≤ n) → cond b 0 (p + 1) ≤ suc n
named_step true p n h = omega arith
named_step false p n h = omega arith

pub place_of-le : (name : List ℕ) (xs : List Record) → place_of name xs ≤ length xs
place_of-le name [] = omega arith
place_of-le name (x ∷ xs) = named_step (is_named name x) (place_of name xs) (length xs) (place_of-le name xs)

found_step : (b : Bool) (x : Record) (xs : List Record) (p : ℕ) → found_or b x (slice_get xs p) ≡ slice_get (x ∷ xs) (cond b 0 (p + 1))
found_step true x xs p = refl
found_step false x xs p = ap (slice_get (x ∷ xs)) (sym (add-one p))

-- the entry of a name is at its place
pub entry_of-place : (name : List ℕ) (xs : List Record) → entry_of name xs ≡ slice_get xs (place_of name xs)
entry_of-place name [] = refl
entry_of-place name (x ∷ xs) = ap (found_or (is_named name x) x) (entry_of-place name xs) ∙ found_step (is_named name x) x xs (place_of name xs)

-- ---- what is at the place, and before it

-- equal bytes are one list
pub bytes_eq-true : (a b : List ℕ) → bytes_eq a b ≡ true → a ≡ b
bytes_eq-true [] [] e = refl
bytes_eq-true [] (y ∷ b) e = absurd cc
bytes_eq-true (x ∷ a) [] e = absurd cc
bytes_eq-true (x ∷ a) (y ∷ b) e =
    let both = and_parts (eqb x y) (bytes_eq a b) e in
    ap (λ (n : ℕ). n ∷ a) (eqb-true x y both.0) ∙ ap (λ (bs : List ℕ). y ∷ bs) (bytes_eq-true a b both.1)

named_there_step : (name : List ℕ) (b : Bool) (x : Record) (xs : List Record) (p : ℕ) (d : Record) → is_named name x ≡ b → cond b 0 (p + 1) < suc (length xs) → (p < length xs → (get_or xs p d).1.name ≡ name)
    → (get_or (x ∷ xs) (cond b 0 (p + 1)) d).1.name ≡ name
named_there_step name true x xs p d e h ih = sym (bytes_eq-true name x.1.name e)
named_there_step name false x xs p d e h ih = ap (λ (i : ℕ). (get_or (x ∷ xs) i d).1.name) (add-one p) ∙ ih (omega arith)

pub named_there : (name : List ℕ) (xs : List Record) (d : Record) → place_of name xs < length xs → (get_or xs (place_of name xs) d).1.name ≡ name
named_there name [] d h = absurd (omega arith)
named_there name (x ∷ xs) d h = named_there_step name (is_named name x) x xs (place_of name xs) d refl h (named_there name xs d)

-- ---- with a record

with_step : (b : Bool) (x new : Record) (xs w : List Record) (p : ℕ) → cond b 0 (p + 1) < suc (length xs) → (p < length xs → w ≡ set xs p new) → cond b (new ∷ xs) (x ∷ w) ≡ set (x ∷ xs) (cond b 0 (p + 1)) new
with_step true x new xs w p h ih = refl
with_step false x new xs w p h ih = ap (λ (ys : List Record). x ∷ ys) (ih (omega arith)) ∙ ap (λ (i : ℕ). set (x ∷ xs) i new) (sym (add-one p))

pub with_record-set : (xs : List Record) (new : Record) → place_of new.1.name xs < length xs → with_record xs new ≡ set xs (place_of new.1.name xs) new
with_record-set [] new h = absurd (omega arith)
with_record-set (x ∷ xs) new h = with_step (is_named new.1.name x) x new xs (with_record xs new) (place_of new.1.name xs) h (with_record-set xs new)

push_step : (b : Bool) (x new : Record) (xs w : List Record) (p : ℕ) → suc (length xs) ≤ cond b 0 (p + 1) → (length xs ≤ p → w ≡ xs ++ new ∷ []) → cond b (new ∷ xs) (x ∷ w) ≡ x ∷ (xs ++ new ∷ [])
push_step true x new xs w p h ih = absurd (omega arith)
push_step false x new xs w p h ih = ap (λ (ys : List Record). x ∷ ys) (ih (omega arith))

pub with_record-push : (xs : List Record) (new : Record) → length xs ≤ place_of new.1.name xs → with_record xs new ≡ xs ++ new ∷ []
with_record-push [] new h = refl
with_record-push (x ∷ xs) new h = push_step (is_named new.1.name x) x new xs (with_record xs new) (place_of new.1.name xs) h (with_record-push xs new)

-- ---- a name that is nowhere

pub bytes_eq-same : (a : List ℕ) → bytes_eq a a ≡ true
bytes_eq-same [] = refl
bytes_eq-same (x ∷ a) = let prefix : eqb x x ≡ true = eq-eqb x x refl in rw (prefix, bytes_eq-same a) refl

absent_step : (name : List ℕ) (b : Bool) (x : Record) (xs : List Record) (p : ℕ) (i : ℕ) (d : Record) → is_named name x ≡ b → suc (length xs) ≤ cond b 0 (p + 1) → i < suc (length xs)
    → (length xs ≤ p → (k : ℕ) → k < length xs → (get_or xs k d).1.name ≢ name) → (get_or (x ∷ xs) i d).1.name ≢ name
absent_step name true x xs p i d e h lt ih = absurd (omega arith)
absent_step name false x xs p zero d e h lt ih = λ same. let hit : is_named name x ≡ true = ap (bytes_eq name) same ∙ bytes_eq-same name in absurd cc
absent_step name false x xs p (suc i) d e h lt ih = ih (omega arith) i (omega arith)

pub absent : (name : List ℕ) (xs : List Record) → length xs ≤ place_of name xs → (i : ℕ) (d : Record) → i < length xs → (get_or xs i d).1.name ≢ name
absent name [] h i d lt = absurd (omega arith)
absent name (x ∷ xs) h i d lt = absent_step name (is_named name x) x xs (place_of name xs) i d refl h lt (λ le k. absent name xs le k d)

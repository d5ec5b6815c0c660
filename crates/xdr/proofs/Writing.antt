-- Writes one after the other.
use Rattle.std.proofs.Common.{◌≡◌, ℕ, ◌+◌, ◌<◌, List, [], ◌++◌, length, get_or, drop, ◌∷◌, Result, Ok, Err, refl, sym, ap, subst, ◌∙◌, take, replicate, append_assoc, arith}
use Rattle.std.specs.Prelude.{OnOk, OnErr}
use Rattle.std.specs.Result.{IsErrAnd}
use Rattle.std.specs.List.{flat_map}
use Rattle.std.proofs.lemmas.List.{append-nil, length-append, take_at, take-replicate, take_more, drop_more, take-append-drop}
use Rattle.std.proofs.lemmas.Grind.{flat_map-append}
use Rattle.xdr.specs.declared.refusal.Refusal.{Refusal}
use Rattle.xdr.specs.Forms.{padding, padded}
use Rattle.xdr.specs.Clauses.{BeginsWith, Written, Wrote}

pub begins_same : (list prefix : List ℕ) → list ≡ prefix → BeginsWith list prefix
begins_same list prefix e = record { more = []; parts = e ∙ sym (append-nil prefix) }

pub begins_on : (list prefix middle text : List ℕ) → middle ≡ prefix ++ text → BeginsWith list middle → BeginsWith list prefix
begins_on list prefix middle text e b =
    record { more = text ++ b.more; parts = b.parts ∙ ap (λ (x : List ℕ). x ++ b.more) e ∙ append_assoc prefix text b.more }

-- one write, and then another
pub wrote_on : {a b c : Written} {r : Result (Unit {0}) Refusal} {t u : List ℕ} → Wrote a b (Ok tt) t → Wrote b c r u → Wrote a c r (t ++ u)
wrote_on {a = a} {b = b} {c = c} {r = Ok x} {t = t} {u = u} v w = record {
  ok = w.ok ∙ ap (λ (z : List ℕ). z ++ u) v.ok ∙ append_assoc a.bytes t u;
  full = tt;
  memory = tt;
  keeps = omega (arith, v.keeps, w.keeps);
  stands = begins_on c.bytes a.bytes b.bytes t v.ok w.stands;
}
wrote_on {a = a} {b = b} {c = c} {r = Err e} {t = t} {u = u} v w = record {
  ok = tt;
  full = omega (arith, w.full, v.keeps, ap length v.ok, length-append a.bytes t, length-append t u);
  memory = w.memory;
  keeps = omega (arith, v.keeps, w.keeps);
  stands = begins_on c.bytes a.bytes b.bytes t v.ok w.stands;
}

-- a write that failed, before others
pub wrote_exit : {a b : Written} {r : Result (Unit {0}) Refusal} {e : Refusal} {t : List ℕ} (u : List ℕ) → IsErrAnd r (λ y. y ≡ e) → Wrote a b (Err e) t → Wrote a b r (t ++ u)
wrote_exit {r = Ok x} u is w = absurd is
wrote_exit {a = a} {r = Err y} {t = t} u is w = record {
  ok = tt;
  full = omega (arith, w.full, length-append t u);
  memory = is ∙ w.memory;
  keeps = w.keeps;
  stands = w.stands;
}

-- a write that failed, the last
pub wrote_end : {a b : Written} {r : Result (Unit {0}) Refusal} {e : Refusal} {t : List ℕ} → IsErrAnd r (λ y. y ≡ e) → Wrote a b (Err e) t → Wrote a b r t
wrote_end {r = Ok x} is w = absurd is
wrote_end {r = Err y} is w = record { ok = tt; full = w.full; memory = is ∙ w.memory; keeps = w.keeps; stands = w.stands }

-- a write that failed, and whose bytes were dropped
take_prefix : (prefix more : List ℕ) → take (length prefix) (prefix ++ more) ≡ prefix
take_prefix prefix more = take_at prefix more (length prefix) refl

pub failed_write : {a b c : Written} {r s : Result (Unit {0}) Refusal} {t : List ℕ} (mark : ℕ) → Wrote a b r t → mark ≡ length a.bytes → s ≡ r → OnOk s (c.bytes ≡ b.bytes)
    → OnErr s (c.bytes ≡ take mark b.bytes) → c.capacity ≡ b.capacity → Wrote a c s t
failed_write {a = a} {b = b} {c = c} {r = Ok x} {s = Ok y} {t = t} mark w is_mark same ok err cap =
    record { ok = ok ∙ w.ok; full = tt; memory = tt; keeps = omega (arith, w.keeps); stands = record { more = w.stands.more; parts = ok ∙ w.stands.parts } }
failed_write {a = a} {b = b} {c = c} {r = Err d} {s = Err e} {t = t} mark w is_mark same ok err cap =
    let back : c.bytes ≡ a.bytes = err ∙ ap (take mark) w.stands.parts ∙ ap (λ (k : ℕ). take k (a.bytes ++ w.stands.more)) is_mark ∙ take_prefix a.bytes w.stands.more in
    let is_d : e ≡ d = cc in
    record { ok = tt; full = w.full; memory = is_d ∙ w.memory; keeps = omega (arith, w.keeps); stands = begins_same c.bytes a.bytes back }
failed_write {r = Ok x} {s = Err e} mark w is_mark same ok err cap = absurd cc
failed_write {r = Err d} {s = Ok y} mark w is_mark same ok err cap = absurd cc

pub unchanged : {a b : Written} (c : Written) {r : Result (Unit {0}) Refusal} (s : Result (Unit {0}) Refusal) {t : List ℕ} (mark : ℕ) → Wrote a b r t → mark ≡ length a.bytes
    → OnErr s (c.bytes ≡ take mark b.bytes) → OnErr s (c.bytes ≡ a.bytes)
unchanged c (Ok y) mark w is_mark err = tt
unchanged {a = a} c (Err e) mark w is_mark err = err ∙ ap (take mark) w.stands.parts ∙ ap (λ (k : ℕ). take k (a.bytes ++ w.stands.more)) is_mark ∙ take_prefix a.bytes w.stands.more

-- bytes, and then the zeros after them
pub wrote_padded : {a b c : Written} {r : Result (Unit {0}) Refusal} {s z : List ℕ} (pad : ℕ) → Wrote a b (Ok tt) s → Wrote b c r z → z ≡ take pad (replicate 3 0) → pad ≡ padding (length s) → pad < 4
    → Wrote a c r (padded s)
unfolding padded
wrote_padded {a = a} {b = b} {c = c} {r = r} {s = s} {z = z} pad v w is_z is_pad small =
    let zeros : z ≡ replicate (padding (length s)) 0 = is_z ∙ take-replicate pad 3 0 (omega arith) ∙ ap (λ (k : ℕ). replicate k 0) is_pad in
    subst (λ (x : List ℕ). Wrote a c r (s ++ x)) zeros (wrote_on v w)

-- nothing was written
pub wrote_nothing : (a b : Written) (t : List ℕ) → b ≡ a → t ≡ [] → Wrote a b (Ok tt) t
wrote_nothing a b t same none =
    let here : b.bytes ≡ a.bytes = ap (λ (w : Written). w.bytes) same in
    let cap : b.capacity ≡ a.capacity = ap (λ (w : Written). w.capacity) same in
    record {
      ok = here ∙ sym (append-nil a.bytes) ∙ ap (λ (x : List ℕ). a.bytes ++ x) (sym none);
      full = tt;
      memory = tt;
      keeps = omega arith;
      stands = begins_same b.bytes a.bytes here;
    }

-- one more element in a loop, and an element whose write failed

pub wrote_more : {A : Type 0} {a b c : Written} (encoding : A → List ℕ) (xs : List A) (i : ℕ) (x : A) → i < length xs → x ≡ get_or xs i x
    → Wrote a b (Ok tt) (flat_map encoding (take i xs)) → Wrote b c (Ok tt) (encoding x) → Wrote a c (Ok tt) (flat_map encoding (take (i + 1) xs))
wrote_more {A = A} {a = a} {b = b} {c = c} encoding xs i x lt is v w =
    let more : take (i + 1) xs ≡ take i xs ++ x ∷ [] = take_more xs i x lt ∙ ap (λ (y : A). take i xs ++ y ∷ []) (sym is) in
    let text : flat_map encoding (take (i + 1) xs) ≡ flat_map encoding (take i xs) ++ encoding x =
    ap (flat_map encoding) more ∙ flat_map-append encoding (take i xs) (x ∷ []) ∙ ap (λ (t : List ℕ). flat_map encoding (take i xs) ++ t) (append-nil (encoding x)) in
    subst (λ (t : List ℕ). Wrote a c (Ok tt) t) (sym text) (wrote_on v w)

pub wrote_stop : {A : Type 0} {a b c : Written} {r : Result (Unit {0}) Refusal} {e : Refusal} (encoding : A → List ℕ) (xs : List A) (i : ℕ) (x : A) → i < length xs → x ≡ get_or xs i x
    → Wrote a b (Ok tt) (flat_map encoding (take i xs)) → IsErrAnd r (λ y. y ≡ e) → Wrote b c (Err e) (encoding x) → Wrote a c r (flat_map encoding xs)
wrote_stop {A = A} {a = a} {b = b} {c = c} {r = r} encoding xs i x lt is v err w =
    let rest : drop i xs ≡ x ∷ drop (i + 1) xs = drop_more xs i x lt ∙ ap (λ (y : A). y ∷ drop (i + 1) xs) (sym is) in
    let whole : xs ≡ take i xs ++ (x ∷ drop (i + 1) xs) = sym (take-append-drop i xs) ∙ ap (λ (ys : List A). take i xs ++ ys) rest in
    let text : flat_map encoding xs ≡ flat_map encoding (take i xs) ++ (encoding x ++ flat_map encoding (drop (i + 1) xs)) =
    ap (flat_map encoding) whole ∙ flat_map-append encoding (take i xs) (x ∷ drop (i + 1) xs) in
    subst (λ (t : List ℕ). Wrote a c r t) (sym text) (wrote_on v (wrote_exit (flat_map encoding (drop (i + 1) xs)) err w))

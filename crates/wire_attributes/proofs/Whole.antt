-- Bytes that are exactly the values of attributes, and bytes that are none.
use Rattle.std.proofs.Common.{◌≡◌, ◌≢◌, ℕ, List, [], length, Result, Ok, Err, refl, sym, ap, ◌∙◌, eq-eqb, ne_eqb}
use Rattle.std.specs.Prelude.{Some, None}
use Rattle.xdr.specs.declared.refusal.Refusal.{Refusal}
use Rattle.model.specs.Attributes.AttributeValue.{Value, values, values_at, whole, whole_values}
use Rattle.model.proofs.Wire.AttributeExact.{again}

pub no_values : (attributes bytes : List ℕ) (e : Refusal) → values_at attributes bytes ≡ Err e → (vs : List Value) → (values attributes).Fits vs → bytes ≢ (values attributes).encoding vs
no_values attributes bytes e refused vs fits = λ is.
    let read = sym (again attributes vs bytes fits is) ∙ refused in
    absurd (cc (read))

rest_of : Result (List Value × List ℕ) Refusal → List ℕ
rest_of (Ok x) = x.1
rest_of (Err e) = []

pub too_many_bytes : (attributes bytes : List ℕ) (got : List Value) (rest : List ℕ) → values_at attributes bytes ≡ Ok (got, rest) → length rest ≢ 0
    → (vs : List Value) → (values attributes).Fits vs → bytes ≢ (values attributes).encoding vs
unfolding rest_of
too_many_bytes attributes bytes got rest read some vs fits = λ is.
    some (ap (λ (r : Result (List Value × List ℕ) Refusal). length (rest_of r)) (sym read ∙ again attributes vs bytes fits is))

-- what the definition reads of them

pub read_whole : (attributes bytes : List ℕ) (vs : List Value) (rest : List ℕ) → values_at attributes bytes ≡ Ok (vs, rest) → length rest ≡ 0
    → whole_values attributes bytes ≡ Some vs
read_whole attributes bytes vs rest read none = ap whole read ∙ rw (eq-eqb (length rest) 0 none) refl

pub no_whole : (attributes bytes : List ℕ) (e : Refusal) → values_at attributes bytes ≡ Err e → whole_values attributes bytes ≡ None
no_whole attributes bytes e refused = ap whole refused

pub not_whole : (attributes bytes : List ℕ) (vs : List Value) (rest : List ℕ) → values_at attributes bytes ≡ Ok (vs, rest) → length rest ≢ 0
    → whole_values attributes bytes ≡ None
not_whole attributes bytes vs rest read some = ap whole read ∙ rw (ne_eqb (length rest) 0 some) refl

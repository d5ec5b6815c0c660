-- The further forms of RFC 4506: enumerations, booleans, opaque data and arrays.
use Rattle.std.specs.Prelude.{◌≡◌, ℕ, zero, suc, ◌+◌, ◌-◌, ◌%◌, ◌≤◌, Bool, true, false, IsTrue, List, [], ◌∷◌, ◌++◌, length, take, drop, replicate, Option, Some, None, Result, Ok, Err, nat_lt, ◌==◌, if◌then◌else◌}
use Rattle.std.specs.List.{flat_map, list_all, AllByRecursion}
use Rattle.std.specs.Int.{w32}
use Rattle.xdr.specs.declared.refusal.Refusal.{Refusal}
use Rattle.xdr.specs.declared.refusal.Refusal.TheVariants.{Short, Value, Long}
use Rattle.xdr.specs.Grammar.{Grammar, ◌>>=◌, number, number_at, unsigned_int}

-- Values of a grammar that pass a test

abbrev pub passing : {V : Type 0} → (V → Bool) → V × List ℕ → Result (V × List ℕ) Refusal
passing test x = if test x.0 then Ok x else Err Value

abbrev pub only : {V : Type 0} → (V → Bool) → Grammar V → Grammar V
only test g = record {
  Fits = λ v. g.Fits v × IsTrue (test v);
  encoding = λ v. g.encoding v;
  read = λ bytes. g.read bytes >>= passing test;
}

-- an enumeration whose values are the numbers below n (section 4.3)
abbrev pub below : ℕ → Grammar ℕ
below n = only (λ k. nat_lt k n) unsigned_int

-- a value that is always the same, and carries no information
abbrev pub always : ℕ → Grammar ℕ → Grammar (Unit {0})
always k g = record {
  Fits = λ _. Unit {0};
  encoding = λ _. g.encoding k;
  read = λ bytes. g.read bytes >>= λ x. if x.0 == k then Ok (tt, x.1) else Err Value;
}

-- Booleans: 0 or 1 (section 4.4)

abbrev pub code_of : Bool → ℕ
code_of false = 0
code_of true = 1

abbrev pub truth_at : ℕ × List ℕ → Result (Bool × List ℕ) Refusal
truth_at x = if x.0 == 0 then Ok (false, x.1) else (if x.0 == 1 then Ok (true, x.1) else Err Value)

abbrev pub boolean : Grammar Bool
boolean = record {
  Fits = λ _. Unit {0};
  encoding = λ b. number w32 (code_of b);
  read = λ bytes. number_at w32 bytes >>= truth_at;
}

-- Opaque data: the bytes, and zero bytes up to a multiple of 4 (sections 3, 4.9, 4.10 and 4.11)

-- how many zero bytes follow n bytes
abbrev pub padding : ℕ → ℕ
padding n = (4 - n % 4) % 4

unfoldable pub padded : List ℕ → List ℕ
padded bytes = bytes ++ replicate (padding (length bytes)) 0

abbrev pub are_zeros : List ℕ → Bool
are_zeros bytes = list_all (λ b. b == 0) bytes

unfoldable pub padded_at : ℕ → List ℕ → Result (List ℕ × List ℕ) Refusal
padded_at n bytes =
    if nat_lt (length bytes) (n + padding n) then Err Short
    else (if are_zeros (take (padding n) (drop n bytes))
    then Ok (take n bytes, drop (n + padding n) bytes)
    else Err Value)

-- n bytes
abbrev pub fixed_opaque : ℕ → Grammar (List ℕ)
fixed_opaque n = record {
  Fits = λ s. length s ≡ n;
  encoding = λ s. padded s;
  read = λ bytes. padded_at n bytes;
}

-- their number, at most the limit, and the bytes
unfoldable pub counted : List ℕ → List ℕ
counted bytes = number w32 (length bytes) ++ padded bytes

unfoldable pub counted_at : ℕ → List ℕ → Result (List ℕ × List ℕ) Refusal
counted_at limit bytes =
    number_at w32 bytes >>= λ n. if nat_lt limit n.0 then Err Long else padded_at n.0 n.1

-- opaque data and strings: at most `limit` bytes
abbrev pub opaque : ℕ → Grammar (List ℕ)
opaque limit = record {
  Fits = λ s. length s ≤ limit;
  encoding = λ s. counted s;
  read = λ bytes. counted_at limit bytes;
}

-- Arrays: the number of elements, and the elements (section 4.13)

unfoldable pub each_at : {V : Type 0} → (List ℕ → Result (V × List ℕ) Refusal) → ℕ → List ℕ
    → Result (List V × List ℕ) Refusal
each_at read zero bytes = Ok ([], bytes)
each_at read (suc n) bytes = read bytes >>= λ x. each_at read n x.1 >>= λ xs. Ok (x.0 ∷ xs.0, xs.1)

unfoldable pub elements : {V : Type 0} → (V → List ℕ) → List V → List ℕ
elements encoding vs = number w32 (length vs) ++ flat_map encoding vs

unfoldable pub elements_at : {V : Type 0} → ℕ → (List ℕ → Result (V × List ℕ) Refusal) → List ℕ
    → Result (List V × List ℕ) Refusal
elements_at limit read bytes =
    number_at w32 bytes >>= λ n. if nat_lt limit n.0 then Err Long else each_at read n.0 n.1

-- at most `limit` elements
abbrev pub array : {V : Type 0} → ℕ → Grammar V → Grammar (List V)
array limit g = record {
  Fits = λ vs. (length vs ≤ limit) × AllByRecursion g.Fits vs;
  encoding = λ vs. elements g.encoding vs;
  read = λ bytes. elements_at limit g.read bytes;
}

-- an array of at most one element
abbrev pub one_at_most : {V : Type 0} → (List ℕ → Result (V × List ℕ) Refusal) → ℕ × List ℕ
    → Result (Option V × List ℕ) Refusal
one_at_most read n =
    if n.0 == 0
    then Ok (None, n.1)
    else (if n.0 == 1 then read n.1 >>= (λ x. Ok (Some x.0, x.1)) else Err Long)

abbrev pub optional_text : {V : Type 0} → Grammar V → Option V → List ℕ
optional_text g None = number w32 0
optional_text g (Some v) = number w32 1 ++ g.encoding v

abbrev pub OptionalFits : {V : Type 0} → Grammar V → Option V → Type 0
OptionalFits g None = Unit {0}
OptionalFits g (Some v) = g.Fits v

abbrev pub optional : {V : Type 0} → Grammar V → Grammar (Option V)
optional g = record {
  Fits = λ o. OptionalFits g o;
  encoding = λ o. optional_text g o;
  read = λ bytes. number_at w32 bytes >>= one_at_most g.read;
}

-- A chain (section 4.19): true before each element, and false after the last one

unfoldable pub links : {V : Type 0} → (V → List ℕ) → List V → List ℕ
links encoding [] = number w32 0
links encoding (v ∷ vs) = number w32 1 ++ (encoding v ++ links encoding vs)

-- at most `fuel` elements
unfoldable pub links_at : {V : Type 0} → (List ℕ → Result (V × List ℕ) Refusal) → ℕ → List ℕ
    → Result (List V × List ℕ) Refusal
links_at read zero bytes = Err Short
links_at read (suc fuel) bytes =
    number_at w32 bytes >>= truth_at >>= λ more.
    if more.0
    then (read more.1 >>= λ x. links_at read fuel x.1 >>= λ xs. Ok (x.0 ∷ xs.0, xs.1))
    else Ok ([], more.1)

-- no chain has more elements than bytes
abbrev pub chain : {V : Type 0} → Grammar V → Grammar (List V)
chain g = record {
  Fits = λ vs. AllByRecursion g.Fits vs;
  encoding = λ vs. links g.encoding vs;
  read = λ bytes. links_at g.read (length bytes) bytes;
}

-- Bitmaps of NFS (RFC 8881, section 3.3.7: `bitmap4`): at most 8 words

abbrev pub bitmap : Grammar (List ℕ)
bitmap = array 8 unsigned_int

-- the last word, if there is one, is not zero
abbrev pub is_trimmed : List ℕ → Bool
is_trimmed [] = true
is_trimmed (zero ∷ []) = false
is_trimmed (suc n ∷ []) = true
is_trimmed (n ∷ m ∷ words) = is_trimmed (m ∷ words)

abbrev pub trimmed_bitmap : Grammar (List ℕ)
trimmed_bitmap = only is_trimmed bitmap

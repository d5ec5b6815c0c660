-- Discriminated unions (RFC 4506, section 4.15): a number, and the form that the number chooses.
use Rattle.std.specs.Prelude.{ℕ, ◌<◌, ◌^◌, List, ◌++◌, Result, Ok, Err, nat_lt, ◌==◌, if◌then◌else◌}
use Rattle.std.specs.Int.{w32}
use Rattle.xdr.specs.declared.refusal.Refusal.{Refusal}
use Rattle.xdr.specs.declared.refusal.Refusal.TheVariants.{Value}
use Rattle.xdr.specs.Grammar.{Grammar, ◌>>=◌, number, number_at}

-- what a value of a union is encoded as: its number, whether it has an encoding, and the bytes
-- after the number
pub record Encoded : Type 1 where
  pub number : ℕ
  pub Fits : Type 0
  pub text : List ℕ

abbrev pub arm : {V : Type 0} → ℕ → Grammar V → V → Encoded
arm n g v = record { number = n; Fits = g.Fits v; text = g.encoding v }

-- Reading by the number: each case in turn

abbrev pub Choice : Type 0 → Type 0
Choice W = ℕ → List ℕ → Result (W × List ℕ) Refusal

abbrev pub made : {V W : Type 0} → (V → W) → Grammar V → List ℕ → Result (W × List ℕ) Refusal
made make g bytes = g.read bytes >>= λ x. Ok (make x.0, x.1)

-- number n chooses the form g
abbrev pub on : {V W : Type 0} → ℕ → Grammar V → (V → W) → Choice W → Choice W
on n g make otherwise m bytes = if m == n then made make g bytes else otherwise m bytes

abbrev pub no_other : {W : Type 0} → Choice W
no_other m bytes = Err Value

-- any other number is a value by itself, and the bytes after it are not read
abbrev pub any_other : {W : Type 0} → (ℕ → W) → Choice W
any_other make m bytes = Ok (make m, bytes)

-- the same for the other numbers below a limit
abbrev pub other_below : {W : Type 0} → ℕ → (ℕ → W) → Choice W
other_below limit make m bytes = if nat_lt m limit then Ok (make m, bytes) else Err Value

abbrev pub union : {W : Type 0} → (W → Encoded) → Choice W → Grammar W
union encode choice = record {
  Fits = λ w. ((encode w).number < 2 ^ 32) × (encode w).Fits;
  encoding = λ w. number w32 (encode w).number ++ (encode w).text;
  read = λ bytes. number_at w32 bytes >>= λ n. choice n.0 n.1;
}

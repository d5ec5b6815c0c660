-- A grammar of XDR (RFC 4506): which values have an encoding, its bytes, and how bytes are read
-- from the left. `Laws` says what makes a grammar exact; each of the forms here and in `Forms` and
-- `Union` keeps grammars exact.
use Rattle.std.specs.Prelude.{ℕ, ◌<◌, ◌^◌, List, [], ◌++◌, length, take, drop, Result, Ok, Err, nat_lt, if◌then◌else◌}
use Rattle.std.specs.Int.{Width, w32, w64, byte_len, to_be_bytes, from_be_bytes}
use Rattle.xdr.specs.declared.refusal.Refusal.{Refusal}
use Rattle.xdr.specs.declared.refusal.Refusal.TheVariants.{Short}

pub record Grammar (V : Type 0) : Type 1 where
  -- which values have an encoding
  pub Fits : V → Type 0
  pub encoding : V → List ℕ
  -- the value at the front, and the bytes after it
  pub read : List ℕ → Result (V × List ℕ) Refusal

infixl 10 ◌>>=◌
abbrev pub ◌>>=◌ : {A B : Type 0} → Result A Refusal → (A → Result B Refusal) → Result B Refusal
(Ok x) >>= f = f x
(Err e) >>= f = Err e

-- Numbers: the highest byte first (sections 4.1, 4.2 and 4.5)

unfoldable pub number : Width → ℕ → List ℕ
number w n = to_be_bytes w n

unfoldable pub number_at : Width → List ℕ → Result (ℕ × List ℕ) Refusal
number_at w bytes =
    if nat_lt (length bytes) (byte_len w) then Err Short
    else Ok (from_be_bytes w (take (byte_len w) bytes), drop (byte_len w) bytes)

abbrev pub unsigned_int : Grammar ℕ
unsigned_int = record {
  Fits = λ n. n < 2 ^ 32;
  encoding = λ n. number w32 n;
  read = λ bytes. number_at w32 bytes;
}

abbrev pub unsigned_hyper : Grammar ℕ
unsigned_hyper = record {
  Fits = λ n. n < 2 ^ 64;
  encoding = λ n. number w64 n;
  read = λ bytes. number_at w64 bytes;
}

-- Structures: their fields one after the other (section 4.14)

infixr 20 ◌&◌
abbrev pub ◌&◌ : {A B : Type 0} → Grammar A → Grammar B → Grammar (A × B)
a & b = record {
  Fits = λ p. a.Fits p.0 × b.Fits p.1;
  encoding = λ p. a.encoding p.0 ++ b.encoding p.1;
  read = λ bytes. a.read bytes >>= λ x. b.read x.1 >>= λ y. Ok ((x.0, y.0), y.1);
}

-- nothing at all (section 4.16)
abbrev pub void : Grammar (Unit {0})
void = record { Fits = λ _. Unit {0}; encoding = λ _. []; read = λ bytes. Ok (tt, bytes) }

-- a structure with names for its fields: `make` puts them together, and `parts` takes them apart
abbrev pub of : {V W : Type 0} → (V → W) → (W → V) → Grammar V → Grammar W
of make parts g = record {
  Fits = λ w. g.Fits (parts w);
  encoding = λ w. g.encoding (parts w);
  read = λ bytes. g.read bytes >>= λ x. Ok (make x.0, x.1);
}

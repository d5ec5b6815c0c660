-- What makes a grammar exact, and what follows from it.
use Rattle.std.specs.Prelude.{◌≡◌, ℕ, ◌<◌, List, ◌++◌, slice_index, Ok}
use Rattle.xdr.specs.Grammar.{Grammar}

-- a list of bytes
abbrev pub IsBytes : List ℕ → Type 0
IsBytes bytes = (i : ℕ) → slice_index bytes i < 256

-- what is read from bytes fits, and the bytes that were read are its encoding
abbrev pub EncodesBack : {V : Type 0} → Grammar V → Type 0
EncodesBack {V = V} g =
    (bytes : List ℕ) (v : V) (rest : List ℕ) → IsBytes bytes → g.read bytes ≡ Ok (v, rest)
    → g.Fits v × (bytes ≡ g.encoding v ++ rest)

-- what fits is read back from its encoding, whatever follows
abbrev pub ReadsAgain : {V : Type 0} → Grammar V → Type 0
ReadsAgain {V = V} g =
    (v : V) (rest : List ℕ) → g.Fits v → g.read (g.encoding v ++ rest) ≡ Ok (v, rest)

pub record Exact {V : Type 0} (g : Grammar V) : Type 0 where
  pub takes : EncodesBack g
  pub again : ReadsAgain g

-- Each value has one encoding, each encoding is of one value, and no encoding is a prefix of
-- another.
abbrev pub OneEncoding : {V : Type 0} → Grammar V → Type 0
OneEncoding {V = V} g =
    (v w : V) (x y : List ℕ) → g.Fits v → g.Fits w → g.encoding v ++ x ≡ g.encoding w ++ y
    → (v ≡ w) × (x ≡ y)

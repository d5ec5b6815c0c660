-- What readers and writers guarantee, in terms of a grammar.
use Rattle.std.specs.Prelude.{◌≡◌, ℕ, ◌+◌, ◌<◌, ◌≤◌, ◌⊎◌, List, ◌++◌, length, Result, Ok, Err, OnOk, OnErr, IfErr}
use Rattle.xdr.specs.declared.refusal.Refusal.{Refusal}
use Rattle.xdr.specs.declared.refusal.Refusal.TheVariants.{Memory}
use Rattle.xdr.specs.Grammar.{Grammar}

-- A reader that allocates no memory returns, seen through `view`, what `read` returns. If it fails,
-- it is unchanged.
abbrev pub Scans : {X V : Type 0} → (X → V) → (List ℕ → Result (V × List ℕ) Refusal) → List ℕ
    → List ℕ → Result X Refusal → Type 0
Scans view read old new (Ok x) = read old ≡ Ok (view x, new)
Scans view read old new (Err e) = (read old ≡ Err e) × (new ≡ old)

-- a reader that may run out of memory
abbrev pub ReadsBy : {X V : Type 0} → (X → V) → (List ℕ → Result (V × List ℕ) Refusal) → List ℕ
    → List ℕ → Result X Refusal → Type 0
ReadsBy view read old new (Ok x) = read old ≡ Ok (view x, new)
ReadsBy view read old new (Err e) = ((e ≡ Memory) ⊎ (read old ≡ Err e)) × (new ≡ old)

-- no prefix of the bytes is an encoding
abbrev pub NoPrefix : {V : Type 0} → Grammar V → List ℕ → Type 0
NoPrefix {V = V} g bytes = (v : V) (rest : List ℕ) → g.Fits v → bytes ≡ g.encoding v ++ rest → ⊥

-- The reader consumed exactly the encoding of what it returned; apart from lack of memory, it fails
-- only if no prefix of the bytes is an encoding.
abbrev pub Accepts : {X V : Type 0} → (X → V) → Grammar V → List ℕ → List ℕ → Result X Refusal
    → Type 0
Accepts view g old new (Ok x) = g.Fits (view x) × (old ≡ g.encoding (view x) ++ new)
Accepts view g old new (Err e) = ((e ≡ Memory) ⊎ NoPrefix g old) × (new ≡ old)

-- the list has this prefix
pub record BeginsWith (list prefix : List ℕ) : Type 0 where
  pub more : List ℕ
  pub parts : list ≡ prefix ++ more

-- what a writer holds, and for how many bytes it has memory
pub record Written : Type 0 where
  pub bytes : List ℕ
  pub capacity : ℕ

-- The text follows what was written before, unless there was no memory for it; then what was
-- written before remains, perhaps with more bytes after it.
pub record Wrote (old new : Written) (result : Result (Unit {0}) Refusal) (text : List ℕ) : Type
    0 where
  pub ok : OnOk result (new.bytes ≡ old.bytes ++ text)
  pub full : OnErr result (old.capacity < length old.bytes + length text)
  pub memory : IfErr result (λ e. e ≡ Memory)
  pub keeps : old.capacity ≤ new.capacity
  pub stands : BeginsWith new.bytes old.bytes

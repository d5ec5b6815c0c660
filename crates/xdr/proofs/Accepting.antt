-- A reader that returns what an exact grammar reads consumes exactly its encodings.
use Rattle.std.proofs.Common.{◌≡◌, ℕ, List, Result, Ok, Err, sym, ap, ◌∙◌, inl, inr}
use Rattle.xdr.specs.declared.refusal.Refusal.{Refusal}
use Rattle.xdr.specs.Grammar.{Grammar}
use Rattle.xdr.specs.Laws.{IsBytes, Exact}
use Rattle.xdr.specs.Clauses.{ReadsBy, Accepts, NoPrefix}

no_prefix : {V : Type 0} (g : Grammar V) → Exact g → (bytes : List ℕ) (e : Refusal) → g.read bytes ≡ Err e → NoPrefix g bytes
no_prefix g exact bytes e refused v rest fits is =
    let read = sym (exact.again v rest fits) ∙ ap g.read (sym is) ∙ refused in
    absurd (cc (read))

pub accepts : {X V : Type 0} (view : X → V) (g : Grammar V) → Exact g → (old new : List ℕ) (result : Result X Refusal) → IsBytes old → ReadsBy view g.read old new result → Accepts view g old new result
accepts view g exact old new (Ok x) bytes reads = exact.takes old (view x) new bytes reads
accepts view g exact old new (Err e) bytes reads =
    (elim (reads.0) [ inl memory ↦ inl memory | inr refused ↦ inr (no_prefix g exact old e refused) ], reads.1)

-- Grammars that test what they read, and booleans.
use Rattle.std.proofs.Common.{◌≡◌, ℕ, ◌+◌, ◌^◌, ◌<◌, Bool, true, false, cond, eqb, List, ◌++◌, Ok, Err, refl, ap, subst, ◌∙◌, inl, inr, arith}
use Rattle.std.specs.Int.{w32}
use Rattle.std.proofs.lemmas.Bool.{eqb-true, eq-eqb}
use Rattle.xdr.specs.declared.refusal.Refusal.TheVariants.{Value}
use Rattle.xdr.specs.Grammar.{Grammar, ◌>>=◌, number, number_at, unsigned_int}
use Rattle.xdr.specs.Forms.{only, passing, below, always, code_of, truth_at, boolean}
use Rattle.xdr.specs.Laws.{IsBytes, Exact}
use Rattle.xdr.proofs.Steps.{bind_ok, pass_ok, chosen, ok_is}
use Rattle.xdr.proofs.Numbers.{int_takes, int_again, int_exact}

pub only_exact : {V : Type 0} (test : V → Bool) (g : Grammar V) → Exact g → Exact (only test g)
only_exact {V = V} test g exact = record {
  takes = λ bytes v rest fits e.
      let p = bind_ok (g.read bytes) (passing test) (v, rest) e in
      let q = pass_ok (test p.0.0) Value (Ok p.0) (v, rest) p.2 in
      let t = exact.takes bytes p.0.0 p.0.1 fits p.1 in
      let P : V × List ℕ → Type 0 = λ r. (g.Fits r.0 × (test r.0 ≡ true)) × (bytes ≡ g.encoding r.0 ++ r.1) in
      subst P (ok_is p.0 (v, rest) q.1) ((t.0, q.0), t.1);
  again = λ v rest fits. rw (exact.again v rest fits.0, fits.1) refl;
}

pub below_exact : (n : ℕ) → Exact (below n)
below_exact n = only_exact (λ k. Rattle.std.proofs.Common.ltb k n) unsigned_int int_exact

pub always_exact : (k : ℕ) (g : Grammar ℕ) → g.Fits k → Exact g → Exact (always k g)
always_exact k g k_fits exact = record {
  takes = λ bytes v rest fits e.
      let p = bind_ok (g.read bytes) (λ x. cond (eqb x.0 k) (Ok (tt, x.1)) (Err Value)) (v, rest) e in
      let q = pass_ok (eqb p.0.0 k) Value (Ok (tt, p.0.1)) (v, rest) p.2 in
      let t = exact.takes bytes p.0.0 p.0.1 fits p.1 in
      let whole : Unit {0} × List ℕ = (tt, p.0.1) in
      let same : p.0.1 ≡ rest = ap (λ (x : Unit {0} × List ℕ). x.1) (ok_is whole (v, rest) q.1) in
      let is_k : p.0.0 ≡ k = eqb-true p.0.0 k q.0 in
      (tt, t.1 ∙ ap (λ (n : ℕ). g.encoding n ++ p.0.1) is_k ∙ ap (λ (x : List ℕ). g.encoding k ++ x) same);
  again = λ v rest fits. rw (exact.again k rest k_fits, eq-eqb k k refl) refl;
}

-- which boolean a number encodes
pub truth_ok : (x : ℕ × List ℕ) (y : Bool × List ℕ) → truth_at x ≡ Ok y → (x.0 ≡ code_of y.0) × (x.1 ≡ y.1)
truth_ok x y e =
    let no : Bool × List ℕ = (false, x.1) in
    let yes : Bool × List ℕ = (true, x.1) in
    elim (chosen (eqb x.0 0) (Ok no) (cond (eqb x.0 1) (Ok yes) (Err Value)) (Ok y) e) [
      | inl h ↦
          let same : no ≡ y = ok_is no y h.1 in
          (eqb-true x.0 0 h.0 ∙ ap (λ (p : Bool × List ℕ). code_of p.0) same, ap (λ (p : Bool × List ℕ). p.1) same)
      | inr h ↦
          let q = pass_ok (eqb x.0 1) Value (Ok yes) y h.1 in
          let same : yes ≡ y = ok_is yes y q.1 in
          (eqb-true x.0 1 q.0 ∙ ap (λ (p : Bool × List ℕ). code_of p.0) same, ap (λ (p : Bool × List ℕ). p.1) same)
    ]

pub boolean_takes : (bytes : List ℕ) (b : Bool) (rest : List ℕ) → IsBytes bytes → (number_at w32 bytes >>= truth_at) ≡ Ok (b, rest) → bytes ≡ number w32 (code_of b) ++ rest
boolean_takes bytes b rest fits e =
    let p = bind_ok (number_at w32 bytes) truth_at (b, rest) e in
    let t = int_takes bytes p.0.0 p.0.1 fits p.1 in
    let u = truth_ok p.0 (b, rest) p.2 in
    t.1 ∙ ap (λ (n : ℕ). number w32 n ++ p.0.1) u.0 ∙ ap (λ (x : List ℕ). number w32 (code_of b) ++ x) u.1

code_fits : (b : Bool) → code_of b < 2 ^ 32
code_fits true = omega arith
code_fits false = omega arith

truth_of_code : (b : Bool) (rest : List ℕ) → truth_at (code_of b, rest) ≡ Ok (b, rest)
truth_of_code true rest = refl
truth_of_code false rest = refl

pub boolean_again : (b : Bool) (rest : List ℕ) → (number_at w32 (number w32 (code_of b) ++ rest) >>= truth_at) ≡ Ok (b, rest)
boolean_again b rest = rw (int_again (code_of b) rest (code_fits b)) (truth_of_code b rest)

pub boolean_exact : Exact boolean
boolean_exact = record { takes = λ bytes b rest fits e. (tt, boolean_takes bytes b rest fits e); again = λ b rest fits. boolean_again b rest }

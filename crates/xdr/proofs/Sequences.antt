-- A sequence of exact grammars is exact, and so is a structure with named fields over one.
use Rattle.std.proofs.Common.{◌≡◌, ℕ, List, ◌++◌, Ok, refl, sym, ap, subst, ◌∙◌, append_assoc}
use Rattle.xdr.specs.Grammar.{Grammar, ◌>>=◌, ◌&◌, void, of}
use Rattle.xdr.specs.Laws.{IsBytes, Exact, OneEncoding}
use Rattle.xdr.proofs.Steps.{bind_ok, ok_is, IsBytes-behind}

pub void_exact : Exact void
void_exact = record {
  takes = λ bytes v rest fits e.
      let same : bytes ≡ rest = ap (λ (p : Unit {0} × List ℕ). p.1) (ok_is (tt, bytes) (v, rest) e) in
      (tt, same);
  again = λ v rest fits. refl;
}

then_takes : {A B : Type 0} (a : Grammar A) (b : Grammar B) → Exact a → Exact b → (bytes : List ℕ) (v : A × B) (rest : List ℕ) → IsBytes bytes
    → (a & b).read bytes ≡ Ok (v, rest) → (a & b).Fits v × (bytes ≡ (a & b).encoding v ++ rest)
then_takes {A = A} {B = B} a b ea eb bytes v rest fits e =
    let p = bind_ok (a.read bytes) (λ x. b.read x.1 >>= λ y. Ok ((x.0, y.0), y.1)) (v, rest) e in
    let q = bind_ok (b.read p.0.1) (λ y. Ok ((p.0.0, y.0), y.1)) (v, rest) p.2 in
    let t = ea.takes bytes p.0.0 p.0.1 fits p.1 in
    let u = eb.takes p.0.1 q.0.0 q.0.1 (IsBytes-behind bytes (a.encoding p.0.0) p.0.1 fits t.1) q.1 in
    let got : (A × B) × List ℕ = ((p.0.0, q.0.0), q.0.1) in
    let parts : bytes ≡ (a.encoding p.0.0 ++ b.encoding q.0.0) ++ q.0.1 = t.1 ∙ ap (λ (x : List ℕ). a.encoding p.0.0 ++ x) u.1 ∙ sym (append_assoc (a.encoding p.0.0) (b.encoding q.0.0) q.0.1) in
    subst (λ (r : (A × B) × List ℕ). (a.Fits r.0.0 × b.Fits r.0.1) × (bytes ≡ (a.encoding r.0.0 ++ b.encoding r.0.1) ++ r.1)) (ok_is got (v, rest) q.2) ((t.0, u.0), parts)

then_again : {A B : Type 0} (a : Grammar A) (b : Grammar B) → Exact a → Exact b → (v : A × B) (rest : List ℕ) → (a & b).Fits v → (a & b).read ((a & b).encoding v ++ rest) ≡ Ok (v, rest)
then_again a b ea eb v rest fits =
    rw (append_assoc (a.encoding v.0) (b.encoding v.1) rest, ea.again v.0 (b.encoding v.1 ++ rest) fits.0, eb.again v.1 rest fits.1) refl

pub then_exact : {A B : Type 0} {a : Grammar A} {b : Grammar B} → Exact a → Exact b → Exact (a & b)
then_exact {a = a} {b = b} ea eb = record { takes = then_takes a b ea eb; again = then_again a b ea eb }

-- `parts` and `make` are inverses
pub of_exact : {V W : Type 0} (make : V → W) (parts : W → V) (g : Grammar V) → ((v : V) → parts (make v) ≡ v) → ((w : W) → make (parts w) ≡ w) → Exact g → Exact (of make parts g)
of_exact {V = V} {W = W} make parts g there back exact = record {
  takes = λ bytes w rest fits e.
      let p = bind_ok (g.read bytes) (λ x. Ok (make x.0, x.1)) (w, rest) e in
      let t = exact.takes bytes p.0.0 p.0.1 fits p.1 in
      let whole : W × List ℕ = (make p.0.0, p.0.1) in
      let same : whole ≡ (w, rest) = ok_is whole (w, rest) p.2 in
      let made : (g.Fits (parts (make p.0.0))) × (bytes ≡ g.encoding (parts (make p.0.0)) ++ p.0.1) = rw (there p.0.0) t in
      subst (λ (r : W × List ℕ). g.Fits (parts r.0) × (bytes ≡ g.encoding (parts r.0) ++ r.1)) same made;
  again = λ w rest fits. rw (exact.again (parts w) rest fits, back w) refl;
}

-- one value, one encoding
pub one_encoding : {V : Type 0} (g : Grammar V) → Exact g → OneEncoding g
one_encoding {V = V} g exact v w x y fv fw e =
    let both : V × List ℕ = (v, x) in
    let same : both ≡ (w, y) = ok_is both (w, y) (sym (exact.again v x fv) ∙ ap g.read e ∙ exact.again w y fw) in
    (ap (λ (p : V × List ℕ). p.0) same, ap (λ (p : V × List ℕ). p.1) same)

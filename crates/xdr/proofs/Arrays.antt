-- Arrays, optional values and chains of what an exact grammar reads.
use Rattle.std.proofs.Common.{◌≡◌, ℕ, zero, suc, ◌^◌, ◌<◌, ◌≤◌, Bool, true, false, cond, eqb, ltb, List, [], ◌∷◌, ◌++◌, length, Option, Some, None, Result, Ok, Err, refl, sym, ap, subst, ◌∙◌, inl, inr, append_assoc, arith}
use Rattle.std.specs.Int.{w32}
use Rattle.std.specs.List.{flat_map, AllByRecursion}
use Rattle.std.proofs.lemmas.Bool.{ltb-false, le-ltb, eqb-true}
use Rattle.std.proofs.lemmas.List.{length-append}
use Rattle.std.proofs.lemmas.List.Concat.{flat_map-cons}
use Rattle.xdr.specs.declared.refusal.Refusal.{Refusal}
use Rattle.xdr.specs.declared.refusal.Refusal.TheVariants.{Long}
use Rattle.xdr.specs.Grammar.{Grammar, ◌>>=◌, number, number_at, unsigned_int}
use Rattle.xdr.specs.Forms.{each_at, elements, elements_at, array, one_at_most, optional, optional_text, OptionalFits, truth_at, links, links_at, chain, bitmap, trimmed_bitmap, is_trimmed}
use Rattle.xdr.specs.Laws.{IsBytes, Exact}
use Rattle.xdr.proofs.Steps.{bind_ok, guard_ok, pass_ok, chosen, ok_is, IsBytes-behind}
use Rattle.xdr.proofs.Numbers.{int_takes, int_again, int_exact, length-number_32}
use Rattle.xdr.proofs.Passing.{only_exact, boolean_takes, boolean_again}

-- what reading a list of elements consumes
pub record TakesEach {V : Type 0} (g : Grammar V) (bytes : List ℕ) (vs : List V) (text rest : List ℕ) : Type 0 where
  pub fits : AllByRecursion g.Fits vs
  pub parts : bytes ≡ text ++ rest

pub each_takes : {V : Type 0} (g : Grammar V) → Exact g → (n : ℕ) (bytes : List ℕ) (vs : List V) (rest : List ℕ) → IsBytes bytes → each_at g.read n bytes ≡ Ok (vs, rest)
    → (length vs ≡ n) × TakesEach g bytes vs (flat_map g.encoding vs) rest
unfolding each_at
each_takes {V = V} g exact zero bytes vs rest fits e =
    let none : List V × List ℕ = ([], bytes) in
    let P : List V × List ℕ → Type 0 = λ x. (length x.0 ≡ 0) × TakesEach g bytes x.0 (flat_map g.encoding x.0) x.1 in
    subst P (ok_is none (vs, rest) e) (refl, record { fits = tt; parts = refl })
each_takes {V = V} g exact (suc n) bytes vs rest fits e =
    let p = bind_ok (g.read bytes) (λ x. each_at g.read n x.1 >>= λ xs. Ok (x.0 ∷ xs.0, xs.1)) (vs, rest) e in
    let q = bind_ok (each_at g.read n p.0.1) (λ xs. Ok (p.0.0 ∷ xs.0, xs.1)) (vs, rest) p.2 in
    let t = exact.takes bytes p.0.0 p.0.1 fits p.1 in
    let u = each_takes g exact n p.0.1 q.0.0 q.0.1 (IsBytes-behind bytes (g.encoding p.0.0) p.0.1 fits t.1) q.1 in
    let got : List V × List ℕ = (p.0.0 ∷ q.0.0, q.0.1) in
    let text : flat_map g.encoding (p.0.0 ∷ q.0.0) ≡ g.encoding p.0.0 ++ flat_map g.encoding q.0.0 = flat_map-cons g.encoding p.0.0 q.0.0 in
    let parts : bytes ≡ flat_map g.encoding (p.0.0 ∷ q.0.0) ++ q.0.1 =
    t.1 ∙ ap (λ (x : List ℕ). g.encoding p.0.0 ++ x) u.1.parts ∙ sym (append_assoc (g.encoding p.0.0) (flat_map g.encoding q.0.0) q.0.1) ∙ ap (λ (x : List ℕ). x ++ q.0.1) (sym text) in
    let P : List V × List ℕ → Type 0 = λ x. (length x.0 ≡ suc n) × TakesEach g bytes x.0 (flat_map g.encoding x.0) x.1 in
    subst P (ok_is got (vs, rest) q.2) (ap suc u.0, record { fits = (t.0, u.1.fits); parts = parts })

pub each_again : {V : Type 0} (g : Grammar V) → Exact g → (vs : List V) (rest : List ℕ) → AllByRecursion g.Fits vs → each_at g.read (length vs) (flat_map g.encoding vs ++ rest) ≡ Ok (vs, rest)
unfolding each_at
each_again g exact [] rest fits = refl
each_again g exact (v ∷ vs) rest fits =
    rw (flat_map-cons g.encoding v vs, append_assoc (g.encoding v) (flat_map g.encoding vs) rest, exact.again v (flat_map g.encoding vs ++ rest) fits.0, each_again g exact vs rest fits.1) refl

array_takes : {V : Type 0} (limit : ℕ) (g : Grammar V) → Exact g → (bytes : List ℕ) (vs : List V) (rest : List ℕ) → IsBytes bytes → elements_at limit g.read bytes ≡ Ok (vs, rest)
    → ((length vs ≤ limit) × AllByRecursion g.Fits vs) × (bytes ≡ elements g.encoding vs ++ rest)
unfolding elements elements_at
array_takes limit g exact bytes vs rest fits e =
    let p = bind_ok (number_at w32 bytes) (λ n. cond (ltb limit n.0) (Err Long) (each_at g.read n.0 n.1)) (vs, rest) e in
    let h = guard_ok (ltb limit p.0.0) Long (each_at g.read p.0.0 p.0.1) (vs, rest) p.2 in
    let t = int_takes bytes p.0.0 p.0.1 fits p.1 in
    let u = each_takes g exact p.0.0 p.0.1 vs rest (IsBytes-behind bytes (number w32 p.0.0) p.0.1 fits t.1) h.1 in
    let within : p.0.0 ≤ limit = ltb-false _ _ h.0 in
    let len = u.0 in
    let parts : bytes ≡ (number w32 (length vs) ++ flat_map g.encoding vs) ++ rest =
    t.1 ∙ ap (λ (x : List ℕ). number w32 p.0.0 ++ x) u.1.parts ∙ ap (λ (k : ℕ). number w32 k ++ (flat_map g.encoding vs ++ rest)) (sym len) ∙ sym (append_assoc (number w32 (length vs)) (flat_map g.encoding vs) rest) in
    ((omega arith, u.1.fits), parts)

array_again : {V : Type 0} (limit : ℕ) (g : Grammar V) → limit < 2 ^ 32 → Exact g → (vs : List V) (rest : List ℕ) → (length vs ≤ limit) × AllByRecursion g.Fits vs
    → elements_at limit g.read (elements g.encoding vs ++ rest) ≡ Ok (vs, rest)
unfolding elements elements_at
array_again limit g small exact vs rest fits =
    let len = fits.0 in
    let within : ltb limit (length vs) ≡ false = le-ltb _ _ len in
    rw (append_assoc (number w32 (length vs)) (flat_map g.encoding vs) rest, int_again (length vs) (flat_map g.encoding vs ++ rest) (omega arith), within) (each_again g exact vs rest fits.1)

pub array_exact : {V : Type 0} (limit : ℕ) (g : Grammar V) → limit < 2 ^ 32 → Exact g → Exact (array limit g)
array_exact limit g small exact = record {
  takes = λ bytes vs rest fits e. array_takes limit g exact bytes vs rest fits e;
  again = λ vs rest fits. array_again limit g small exact vs rest fits;
}

pub bitmap_exact : Exact bitmap
bitmap_exact = array_exact 8 unsigned_int (omega arith) int_exact

pub trimmed_exact : Exact trimmed_bitmap
trimmed_exact = only_exact is_trimmed bitmap bitmap_exact

-- ---- at most one

one_takes : {V : Type 0} (g : Grammar V) → Exact g → (n : ℕ × List ℕ) (o : Option V) (rest : List ℕ) → IsBytes n.1 → one_at_most g.read n ≡ Ok (o, rest)
    → OptionalFits g o × (number w32 n.0 ++ n.1 ≡ optional_text g o ++ rest)
one_takes {V = V} g exact n o rest fits e =
    let none : Option V × List ℕ = (None, n.1) in
    let P : Option V × List ℕ → Type 0 = λ x. OptionalFits g x.0 × (number w32 n.0 ++ n.1 ≡ optional_text g x.0 ++ x.1) in
    elim (chosen (eqb n.0 0) (Ok none) (cond (eqb n.0 1) (g.read n.1 >>= (λ x. Ok (Some x.0, x.1))) (Err Long)) (Ok (o, rest)) e) [
      | inl h ↦ subst P (ok_is none (o, rest) h.1) (tt, ap (λ (k : ℕ). number w32 k ++ n.1) (eqb-true n.0 0 h.0))
      | inr h ↦
          let q = pass_ok (eqb n.0 1) Long (g.read n.1 >>= (λ x. Ok (Some x.0, x.1))) (o, rest) h.1 in
          let p = bind_ok (g.read n.1) (λ x. Ok (Some x.0, x.1)) (o, rest) q.1 in
          let t = exact.takes n.1 p.0.0 p.0.1 fits p.1 in
          let one : Option V × List ℕ = (Some p.0.0, p.0.1) in
          let parts : number w32 n.0 ++ n.1 ≡ (number w32 1 ++ g.encoding p.0.0) ++ p.0.1 =
          ap (λ (k : ℕ). number w32 k ++ n.1) (eqb-true n.0 1 q.0) ∙ ap (λ (x : List ℕ). number w32 1 ++ x) t.1 ∙ sym (append_assoc (number w32 1) (g.encoding p.0.0) p.0.1) in
          subst P (ok_is one (o, rest) p.2) (t.0, parts)
    ]

optional_takes : {V : Type 0} (g : Grammar V) → Exact g → (bytes : List ℕ) (o : Option V) (rest : List ℕ) → IsBytes bytes → (number_at w32 bytes >>= one_at_most g.read) ≡ Ok (o, rest)
    → OptionalFits g o × (bytes ≡ optional_text g o ++ rest)
optional_takes g exact bytes o rest fits e =
    let p = bind_ok (number_at w32 bytes) (one_at_most g.read) (o, rest) e in
    let t = int_takes bytes p.0.0 p.0.1 fits p.1 in
    let u = one_takes g exact p.0 o rest (IsBytes-behind bytes (number w32 p.0.0) p.0.1 fits t.1) p.2 in
    (u.0, t.1 ∙ u.1)

optional_again : {V : Type 0} (g : Grammar V) → Exact g → (o : Option V) (rest : List ℕ) → OptionalFits g o → (number_at w32 (optional_text g o ++ rest) >>= one_at_most g.read) ≡ Ok (o, rest)
optional_again g exact None rest fits = rw (int_again 0 rest (omega arith)) refl
optional_again g exact (Some v) rest fits =
    rw (append_assoc (number w32 1) (g.encoding v) rest, int_again 1 (g.encoding v ++ rest) (omega arith), exact.again v rest fits) refl

pub optional_exact : {V : Type 0} (g : Grammar V) → Exact g → Exact (optional g)
optional_exact g exact = record {
  takes = λ bytes o rest fits e. optional_takes g exact bytes o rest fits e;
  again = λ o rest fits. optional_again g exact o rest fits;
}

-- ---- chains

links_takes : {V : Type 0} (g : Grammar V) → Exact g → (fuel : ℕ) (bytes : List ℕ) (vs : List V) (rest : List ℕ) → IsBytes bytes → links_at g.read fuel bytes ≡ Ok (vs, rest)
    → TakesEach g bytes vs (links g.encoding vs) rest
unfolding links_at links
links_takes {V = V} g exact zero bytes vs rest fits e = absurd cc
links_takes {V = V} g exact (suc fuel) bytes vs rest fits e =
    let step : Bool × List ℕ → Result (List V × List ℕ) Refusal = λ more. cond more.0 (g.read more.1 >>= λ x. links_at g.read fuel x.1 >>= λ xs. Ok (x.0 ∷ xs.0, xs.1)) (Ok ([], more.1)) in
    let p = bind_ok (number_at w32 bytes >>= truth_at) step (vs, rest) e in
    let b = boolean_takes bytes p.0.0 p.0.1 fits p.1 in
    let tail_fits : IsBytes p.0.1 = IsBytes-behind bytes (number w32 (Rattle.xdr.specs.Forms.code_of p.0.0)) p.0.1 fits b in
    let none : List V × List ℕ = ([], p.0.1) in
    let P : List V × List ℕ → Type 0 = λ x. TakesEach g bytes x.0 (links g.encoding x.0) x.1 in
    elim (chosen p.0.0 (g.read p.0.1 >>= λ x. links_at g.read fuel x.1 >>= λ xs. Ok (x.0 ∷ xs.0, xs.1)) (Ok none) (Ok (vs, rest)) p.2) [
      | inl h ↦
          let q = bind_ok (g.read p.0.1) (λ x. links_at g.read fuel x.1 >>= λ xs. Ok (x.0 ∷ xs.0, xs.1)) (vs, rest) h.1 in
          let r = bind_ok (links_at g.read fuel q.0.1) (λ xs. Ok (q.0.0 ∷ xs.0, xs.1)) (vs, rest) q.2 in
          let t = exact.takes p.0.1 q.0.0 q.0.1 tail_fits q.1 in
          let u = links_takes g exact fuel q.0.1 r.0.0 r.0.1 (IsBytes-behind p.0.1 (g.encoding q.0.0) q.0.1 tail_fits t.1) r.1 in
          let got : List V × List ℕ = (q.0.0 ∷ r.0.0, r.0.1) in
          let inner : p.0.1 ≡ (g.encoding q.0.0 ++ links g.encoding r.0.0) ++ r.0.1 = t.1 ∙ ap (λ (x : List ℕ). g.encoding q.0.0 ++ x) u.parts ∙ sym (append_assoc (g.encoding q.0.0) (links g.encoding r.0.0) r.0.1) in
          let parts : bytes ≡ (number w32 1 ++ (g.encoding q.0.0 ++ links g.encoding r.0.0)) ++ r.0.1 =
          b ∙ ap (λ (c : Bool). number w32 (Rattle.xdr.specs.Forms.code_of c) ++ p.0.1) h.0 ∙ ap (λ (x : List ℕ). number w32 1 ++ x) inner ∙ sym (append_assoc (number w32 1) (g.encoding q.0.0 ++ links g.encoding r.0.0) r.0.1) in
          subst P (ok_is got (vs, rest) r.2) (record { fits = (t.0, u.fits); parts = parts })
      | inr h ↦
          subst P (ok_is none (vs, rest) h.1) (record { fits = tt; parts = b ∙ ap (λ (c : Bool). number w32 (Rattle.xdr.specs.Forms.code_of c) ++ p.0.1) h.0 })
    ]

links_again : {V : Type 0} (g : Grammar V) → Exact g → (fuel : ℕ) (vs : List V) (rest : List ℕ) → length vs < fuel → AllByRecursion g.Fits vs → links_at g.read fuel (links g.encoding vs ++ rest) ≡ Ok (vs, rest)
unfolding links_at links
links_again g exact zero vs rest lt fits = absurd (omega arith)
links_again g exact (suc fuel) [] rest lt fits = rw (boolean_again false rest) refl
links_again g exact (suc fuel) (v ∷ vs) rest lt fits =
    let inner = g.encoding v ++ links g.encoding vs in
    rw (append_assoc (number w32 1) inner rest, boolean_again true (inner ++ rest), append_assoc (g.encoding v) (links g.encoding vs) rest, exact.again v (links g.encoding vs ++ rest) fits.0, links_again g exact fuel vs rest (omega arith) fits.1) refl

-- a chain has more bytes than elements
links_long : {V : Type 0} (encoding : V → List ℕ) (vs : List V) → length vs < length (links encoding vs)
unfolding links
links_long encoding [] = omega (arith, length-number_32 0)
links_long encoding (v ∷ vs) =
    omega (arith, links_long encoding vs, length-number_32 1, length-append (number w32 1) (encoding v ++ links encoding vs), length-append (encoding v) (links encoding vs))

pub chain_exact : {V : Type 0} (g : Grammar V) → Exact g → Exact (chain g)
chain_exact g exact = record {
  takes = λ bytes vs rest fits e. let t = links_takes g exact (length bytes) bytes vs rest fits e in (t.fits, t.parts);
  again = λ vs rest fits.
      links_again g exact (length (links g.encoding vs ++ rest)) vs rest (omega (arith, links_long g.encoding vs, length-append (links g.encoding vs) rest)) fits;
}

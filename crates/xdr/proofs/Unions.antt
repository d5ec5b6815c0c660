-- A union of exact forms is exact.
use Rattle.std.proofs.Common.{◌≡◌, ◌≢◌, ℕ, ◌^◌, ◌<◌, eqb, ltb, List, [], ◌++◌, Ok, refl, sym, ap, subst, ◌∙◌, inl, inr, append_assoc}
use Rattle.std.specs.Int.{w32}
use Rattle.std.proofs.lemmas.Bool.{eqb-true, eqb-false, ltb-true}
use Rattle.xdr.specs.declared.refusal.Refusal.TheVariants.{Value}
use Rattle.xdr.specs.Grammar.{Grammar, number, number_at}
use Rattle.xdr.specs.Union.{Encoded, arm, Choice, made, on, no_other, any_other, other_below, union}
use Rattle.xdr.specs.Laws.{IsBytes, Exact}
use Rattle.xdr.proofs.Steps.{bind_ok, pass_ok, chosen, ok_is, IsBytes-behind}
use Rattle.xdr.proofs.Numbers.{int_takes, int_again}

-- the value read for number n has this number, and the bytes that were read are its encoding
pub record TakesOne {W : Type 0} (encode : W → Encoded) (n : ℕ) (bytes : List ℕ) (w : W) (rest : List ℕ) : Type 0 where
  pub is_number : n ≡ (encode w).number
  pub fits : (encode w).Fits
  pub parts : bytes ≡ (encode w).text ++ rest

-- the same for each number that P holds of: the earlier cases have taken the others
abbrev pub TakesBy : {W : Type 0} → (W → Encoded) → (ℕ → Type 0) → Choice W → Type 0
TakesBy {W = W} encode P choice =
    (n : ℕ) (bytes : List ℕ) (w : W) (rest : List ℕ) → P n → IsBytes bytes → choice n bytes ≡ Ok (w, rest) → TakesOne encode n bytes w rest

-- a value is read back from its encoding, by its number
abbrev pub AgainBy : {W : Type 0} → (W → Encoded) → Choice W → Type 0
AgainBy {W = W} encode choice = (w : W) (rest : List ℕ) → (encode w).number < 2 ^ 32 → (encode w).Fits → choice (encode w).number ((encode w).text ++ rest) ≡ Ok (w, rest)

pub on_takes : {V W : Type 0} (encode : W → Encoded) (P : ℕ → Type 0) (n : ℕ) (g : Grammar V) (make : V → W) (otherwise : Choice W) → Exact g
    → ((v : V) → g.Fits v → encode (make v) ≡ arm n g v) → TakesBy encode (λ m. P m × (m ≢ n)) otherwise → TakesBy encode P (on n g make otherwise)
on_takes {V = V} {W = W} encode P n g make otherwise exact tells_so others m bytes w rest p fits e =
    elim (chosen (eqb m n) (made make g bytes) (otherwise m bytes) (Ok (w, rest)) e) [
      | inl h ↦
          let q = bind_ok (g.read bytes) (λ x. Ok (make x.0, x.1)) (w, rest) h.1 in
          let t = exact.takes bytes q.0.0 q.0.1 fits q.1 in
          let got : W × List ℕ = (make q.0.0, q.0.1) in
          let Q : Encoded → Type 0 = λ x. (m ≡ x.number) × x.Fits × (bytes ≡ x.text ++ q.0.1) in
          let same : (m ≡ n) × g.Fits q.0.0 × (bytes ≡ g.encoding q.0.0 ++ q.0.1) = (eqb-true m n h.0, t.0, t.1) in
          let here : (m ≡ (encode (make q.0.0)).number) × (encode (make q.0.0)).Fits × (bytes ≡ (encode (make q.0.0)).text ++ q.0.1) = subst Q (sym (tells_so q.0.0 t.0)) same in
          let whole : TakesOne encode m bytes (make q.0.0) q.0.1 = record { is_number = here.0; fits = here.1; parts = here.2 } in
          let R : W × List ℕ → Type 0 = λ x. TakesOne encode m bytes x.0 x.1 in
          subst R (ok_is got (w, rest) q.2) whole
      | inr h ↦ others m bytes w rest (p, eqb-false m n h.0) fits h.1
    ]

pub no_other_takes : {W : Type 0} (encode : W → Encoded) (P : ℕ → Type 0) → TakesBy encode P no_other
no_other_takes encode P n bytes w rest p fits e = absurd cc

pub any_other_takes : {W : Type 0} (encode : W → Encoded) (P : ℕ → Type 0) (make : ℕ → W)
    → ((n : ℕ) → P n → (n ≡ (encode (make n)).number) × (encode (make n)).Fits × ((encode (make n)).text ≡ [])) → TakesBy encode P (any_other make)
any_other_takes {W = W} encode P make tells_so n bytes w rest p fits e =
    let got : W × List ℕ = (make n, bytes) in
    let t = tells_so n p in
    let R : W × List ℕ → Type 0 = λ x. TakesOne encode n bytes x.0 x.1 in
    subst R (ok_is got (w, rest) e) (record { is_number = t.0; fits = t.1; parts = ap (λ (x : List ℕ). x ++ bytes) (sym t.2) })

pub other_below_takes : {W : Type 0} (encode : W → Encoded) (P : ℕ → Type 0) (limit : ℕ) (make : ℕ → W)
    → ((n : ℕ) → P n → n < limit → (n ≡ (encode (make n)).number) × (encode (make n)).Fits × ((encode (make n)).text ≡ [])) → TakesBy encode P (other_below limit make)
other_below_takes {W = W} encode P limit make tells_so n bytes w rest p fits e =
    let q = pass_ok (ltb n limit) Value (Ok (make n, bytes)) (w, rest) e in
    any_other_takes encode (λ m. P m × (m < limit)) make (λ m r. tells_so m r.0 r.1) n bytes w rest (p, ltb-true n limit q.0) fits q.1

union_takes : {W : Type 0} (encode : W → Encoded) (choice : Choice W) → TakesBy encode (λ n. n < 2 ^ 32) choice → (bytes : List ℕ) (w : W) (rest : List ℕ) → IsBytes bytes
    → (union encode choice).read bytes ≡ Ok (w, rest) → (((encode w).number < 2 ^ 32) × (encode w).Fits) × (bytes ≡ (number w32 (encode w).number ++ (encode w).text) ++ rest)
union_takes encode choice takes bytes w rest fits e =
    let p = bind_ok (number_at w32 bytes) (λ n. choice n.0 n.1) (w, rest) e in
    let t = int_takes bytes p.0.0 p.0.1 fits p.1 in
    let u = takes p.0.0 p.0.1 w rest t.0 (IsBytes-behind bytes (number w32 p.0.0) p.0.1 fits t.1) p.2 in
    let small : (encode w).number < 2 ^ 32 = subst (λ (k : ℕ). k < 2 ^ 32) u.is_number t.0 in
    let parts : bytes ≡ (number w32 (encode w).number ++ (encode w).text) ++ rest =
    t.1 ∙ ap (λ (k : ℕ). number w32 k ++ p.0.1) u.is_number ∙ ap (λ (x : List ℕ). number w32 (encode w).number ++ x) u.parts ∙ sym (append_assoc (number w32 (encode w).number) (encode w).text rest) in
    ((small, u.fits), parts)

pub union_exact : {W : Type 0} (encode : W → Encoded) (choice : Choice W) → TakesBy encode (λ n. n < 2 ^ 32) choice → AgainBy encode choice → Exact (union encode choice)
union_exact encode choice takes again = record {
  takes = λ bytes w rest fits e. union_takes encode choice takes bytes w rest fits e;
  again = λ w rest fits. rw (append_assoc (number w32 (encode w).number) (encode w).text rest, int_again (encode w).number ((encode w).text ++ rest) fits.0) (again w rest fits.0 fits.1);
}

-- one case, read back
pub made_again : {V W : Type 0} (g : Grammar V) (make : V → W) → Exact g → (v : V) (rest : List ℕ) → g.Fits v → made make g (g.encoding v ++ rest) ≡ Ok (make v, rest)
made_again g make exact v rest fits = rw (exact.again v rest fits) refl

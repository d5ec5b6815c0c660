-- Opaque data: what is read is padded with zeros, and what was padded is read back.
use Rattle.std.proofs.Common.{◌≡◌, ℕ, zero, suc, ◌+◌, ◌^◌, ◌<◌, ◌≤◌, true, false, cond, eqb, ltb, List, [], ◌∷◌, ◌++◌, length, take, drop, replicate, Ok, Err, refl, sym, ap, subst, ◌∙◌, append_assoc, arith}
use Rattle.std.specs.Int.{w32}
use Rattle.std.proofs.lemmas.Bool.{ltb-false, le-ltb, eqb-true, and_parts}
use Rattle.std.proofs.lemmas.List.{take_at, drop_at, drop-drop, take-append-drop, length-append, length-drop, length-replicate, length-take-le}
use Rattle.xdr.specs.declared.refusal.Refusal.TheVariants.{Short, Value, Long}
use Rattle.xdr.specs.Grammar.{number, number_at}
use Rattle.xdr.specs.Forms.{padding, padded, are_zeros, padded_at, fixed_opaque, counted, counted_at, opaque}
use Rattle.xdr.specs.Laws.{IsBytes, Exact}
use Rattle.xdr.proofs.Steps.{bind_ok, guard_ok, pass_ok, ok_is}
use Rattle.xdr.proofs.Numbers.{int_takes, int_again}

pub zeros_are : (xs : List ℕ) → are_zeros xs ≡ true → xs ≡ replicate (length xs) 0
zeros_are [] e = refl
zeros_are (x ∷ xs) e =
    let p = and_parts (eqb x 0) (are_zeros xs) e in
    let first : x ≡ 0 = eqb-true x 0 p.0 in
    let others : xs ≡ replicate (length xs) 0 = zeros_are xs p.1 in
    ap (λ (y : ℕ). y ∷ xs) first ∙ ap (λ (ys : List ℕ). 0 ∷ ys) others

pub zeros_pass : (n : ℕ) → are_zeros (replicate n 0) ≡ true
zeros_pass zero = refl
zeros_pass (suc n) = zeros_pass n

pub padded_takes : (n : ℕ) (bytes s rest : List ℕ) → padded_at n bytes ≡ Ok (s, rest) → (length s ≡ n) × (bytes ≡ padded s ++ rest)
unfolding padded padded_at
padded_takes n bytes s rest e =
    let p = padding n in
    let whole : List ℕ × List ℕ = (take n bytes, drop (n + p) bytes) in
    let g = guard_ok (ltb (length bytes) (n + p)) Short (cond (are_zeros (take p (drop n bytes))) (Ok whole) (Err Value)) (s, rest) e in
    let h = pass_ok (are_zeros (take p (drop n bytes))) Value (Ok whole) (s, rest) g.1 in
    let long : n + p ≤ length bytes = ltb-false _ _ g.0 in
    let len : length (take n bytes) ≡ n = length-take-le n bytes (omega arith) in
    let pad_len : length (take p (drop n bytes)) ≡ p = length-take-le p (drop n bytes) (omega (arith, length-drop n bytes)) in
    let pad : take p (drop n bytes) ≡ replicate p 0 = zeros_are (take p (drop n bytes)) h.0 ∙ ap (λ (k : ℕ). replicate k 0) pad_len in
    let tail : drop n bytes ≡ replicate p 0 ++ drop (n + p) bytes = sym (take-append-drop p (drop n bytes)) ∙ ap (λ (x : List ℕ). x ++ drop p (drop n bytes)) pad ∙ ap (λ (x : List ℕ). replicate p 0 ++ x) (drop-drop p n bytes) in
    let parts : bytes ≡ (take n bytes ++ replicate (padding (length (take n bytes))) 0) ++ drop (n + p) bytes =
    sym (take-append-drop n bytes) ∙ ap (λ (x : List ℕ). take n bytes ++ x) tail ∙ sym (append_assoc (take n bytes) (replicate p 0) (drop (n + p) bytes))
    ∙ ap (λ (k : ℕ). (take n bytes ++ replicate (padding k) 0) ++ drop (n + p) bytes) (sym len) in
    let P : List ℕ × List ℕ → Type 0 = λ x. (length x.0 ≡ n) × (bytes ≡ (x.0 ++ replicate (padding (length x.0)) 0) ++ x.1) in
    subst P (ok_is whole (s, rest) h.1) (len, parts)

pub padded_again : (s rest : List ℕ) → padded_at (length s) (padded s ++ rest) ≡ Ok (s, rest)
unfolding padded padded_at
padded_again s rest =
    let n = length s in
    let p = padding n in
    let zeros : List ℕ = replicate p 0 in
    let zeros_len : length zeros ≡ p = length-replicate p 0 in
    let whole_len : length (s ++ zeros) ≡ n + p = length-append s zeros ∙ ap (λ (k : ℕ). n + k) zeros_len in
    let long : ltb (length ((s ++ zeros) ++ rest)) (n + p) ≡ false = le-ltb _ _ (omega (arith, length-append (s ++ zeros) rest, whole_len)) in
    let apart : (s ++ zeros) ++ rest ≡ s ++ (zeros ++ rest) = append_assoc s zeros rest in
    let prefix : take n ((s ++ zeros) ++ rest) ≡ s = ap (take n) apart ∙ take_at s (zeros ++ rest) n refl in
    let tail : drop n ((s ++ zeros) ++ rest) ≡ zeros ++ rest = ap (drop n) apart ∙ drop_at s (zeros ++ rest) n refl in
    let pad : take p (drop n ((s ++ zeros) ++ rest)) ≡ zeros = ap (take p) tail ∙ take_at zeros rest p zeros_len in
    let behind : drop (n + p) ((s ++ zeros) ++ rest) ≡ rest = drop_at (s ++ zeros) rest (n + p) whole_len in
    rw (long, pad, zeros_pass p, prefix, behind) refl

pub fixed_exact : (n : ℕ) → Exact (fixed_opaque n)
fixed_exact n = record {
  takes = λ bytes s rest fits e. padded_takes n bytes s rest e;
  again = λ s rest fits.
      let P : ℕ → Type 0 = λ k. padded_at k (padded s ++ rest) ≡ Ok (s, rest) in
      subst P fits (padded_again s rest);
}

pub counted_takes : (limit : ℕ) (bytes s rest : List ℕ) → IsBytes bytes → counted_at limit bytes ≡ Ok (s, rest) → (length s ≤ limit) × (bytes ≡ counted s ++ rest)
unfolding counted counted_at
counted_takes limit bytes s rest fits e =
    let p = bind_ok (number_at w32 bytes) (λ n. cond (ltb limit n.0) (Err Long) (padded_at n.0 n.1)) (s, rest) e in
    let g = guard_ok (ltb limit p.0.0) Long (padded_at p.0.0 p.0.1) (s, rest) p.2 in
    let t = int_takes bytes p.0.0 p.0.1 fits p.1 in
    let u = padded_takes p.0.0 p.0.1 s rest g.1 in
    let within : p.0.0 ≤ limit = ltb-false _ _ g.0 in
    let len = u.0 in
    let parts : bytes ≡ (number w32 (length s) ++ padded s) ++ rest =
    t.1 ∙ ap (λ (x : List ℕ). number w32 p.0.0 ++ x) u.1 ∙ ap (λ (k : ℕ). number w32 k ++ (padded s ++ rest)) (sym len) ∙ sym (append_assoc (number w32 (length s)) (padded s) rest) in
    (omega arith, parts)

pub counted_again : (limit : ℕ) (s rest : List ℕ) → limit < 2 ^ 32 → length s ≤ limit → counted_at limit (counted s ++ rest) ≡ Ok (s, rest)
unfolding counted counted_at
counted_again limit s rest small fits =
    let within : ltb limit (length s) ≡ false = le-ltb _ _ fits in
    rw (append_assoc (number w32 (length s)) (padded s) rest, int_again (length s) (padded s ++ rest) (omega arith), within) (padded_again s rest)

pub opaque_exact : (limit : ℕ) → limit < 2 ^ 32 → Exact (opaque limit)
opaque_exact limit small = record {
  takes = λ bytes s rest fits e. counted_takes limit bytes s rest fits e;
  again = λ s rest fits. counted_again limit s rest small fits;
}

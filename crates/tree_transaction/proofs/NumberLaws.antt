-- Sectors that are allocated and freed, and their marks.
use Rattle.std.proofs.Common.{◌≡◌, ◌≤◌, ◌<◌, ◌+◌, ◌-◌, ◌++◌, ℕ, zero, suc, Bool, true, false, List, [], ◌∷◌, Some, length, get_or, refl, sym, ap, arith, subst, eqb, slice_get, slice_index_or, slice_set}
use Rattle.freemap.specs.Places.{bit_from}
use Rattle.layout.specs.Marks.{times, once_if}
use Rattle.layout.specs.Marks.{mark_by}
use Rattle.layout.proofs.MarkProofs.{each_mark, mark-back}
use Rattle.layout.proofs.NumberLaws.{once-here, times-at}
use Rattle.tree_transaction.specs.Laying.{Follow, AreMarked, AreOnce}

pub times-push : (n s : ℕ) (numbers : List ℕ) → times n (numbers ++ s ∷ []) ≡ times n numbers + once_if (eqb n s)
times-push n s [] = omega arith
times-push n s (x ∷ numbers) = let rest = times-push n s numbers in omega arith

pub follow-take : (first : ℕ) (was now : List Bool) (named numbers : List ℕ) (place : ℕ) → Follow first was now named numbers → slice_get now place ≡ Some false
    → Follow first was (slice_set now place true) named (numbers ++ (first + place) ∷ [])
follow-take first was now named numbers place follow free n =
    let each = each_mark first now place in omega (arith, each.taken free n, times-push n (first + place) numbers, follow n)

bit-true : (b : Bool) → 0 < bit_from b → b ≡ true
bit-true true h = refl
bit-true false h = absurd (omega arith)

pub mark-used : (first : ℕ) (places : List Bool) (n : ℕ) → 0 < mark_by first places n → slice_index_or places (n - first) false ≡ true
mark-used first places n h =
    let each = each_mark first places 0 in let behind : first ≤ n = each.behind n h in
    bit-true (get_or places (n - first) false) (omega (arith, mark-back first places n behind))

pub record Gives (first : ℕ) (was now : List Bool) (named rest : List ℕ) (s : ℕ) : Type 0 where
  pub behind : first ≤ s
  pub used : slice_index_or now (s - first) false ≡ true
  pub follow : Follow first was (slice_set now (s - first) false) named rest

pub follow-give : (first : ℕ) (was now : List Bool) (named numbers rest : List ℕ) (s : ℕ) → Follow first was now named numbers → AreMarked first was named → numbers ≡ rest ++ s ∷ [] → Gives first was now named rest s
follow-give first was now named numbers rest s follow marked is =
    let last = times-push s s rest in
    let all : times s numbers ≡ times s (rest ++ s ∷ []) = ap (times s) is in
    let some : 0 < mark_by first now s = omega (arith, once-here s, follow s, marked s) in
    let each = each_mark first now (s - first) in
    let behind : first ≤ s = each.behind s some in
    let used = mark-used first now s some in
    let at_s : first + (s - first) ≡ s = omega arith in
    record {
      behind = behind;
      used = used;
      follow = λ n. let given : mark_by first (slice_set now (s - first) false) n + once_if (eqb n s) ≡ mark_by first now n = subst (λ (t : ℕ). mark_by first (slice_set now (s - first) false) n + once_if (eqb n t) ≡ mark_by first now n) at_s (each.given used n) in
          let here : times n numbers ≡ times n (rest ++ s ∷ []) = ap (times n) is in omega (arith, given, times-push n s rest, follow n, here);
    }

times-two : (numbers : List ℕ) (i j : ℕ) → i < j → j < length numbers → get_or numbers i 0 ≡ get_or numbers j 0 → 2 ≤ times (get_or numbers j 0) numbers
times-two [] i j lt h e = absurd (omega arith)
times-two (x ∷ numbers) i zero lt h e = absurd (omega arith)
times-two (x ∷ numbers) zero (suc j) lt h e =
    let more : 0 < times x numbers = subst (λ (t : ℕ). 0 < times t numbers) (sym e) (times-at numbers j 0 (omega arith)) in
    let two : 2 ≤ times x (x ∷ numbers) = omega (arith, once-here x) in
    subst (λ (t : ℕ). 2 ≤ times t (x ∷ numbers)) e two
times-two (x ∷ numbers) (suc i) (suc j) lt h e = let rest = times-two numbers i j (omega arith) (omega arith) e in omega arith

pub are_once : (numbers : List ℕ) → ((n : ℕ) → times n numbers ≤ 1) → AreOnce numbers
are_once numbers once i j lt h e = let two = times-two numbers i j lt h e in omega (arith, once (get_or numbers j 0))

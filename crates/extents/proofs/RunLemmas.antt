-- Runs in order, and the blocks that they have.
use Rattle.std.proofs.Common.{◌≡◌, ◌<◌, ◌≤◌, ◌+◌, ◌-◌, ◌^◌, ◌&&◌, ℕ, Bool, true, false, cond, leb, ltb, List, [], ◌∷◌, ◌++◌, Option, Some, None, refl, ap, ◌∙◌, arith}
use Rattle.std.proofs.lemmas.Bool.{lt-ltb, le-ltb, le-leb, lt-leb}
use Rattle.extents.specs.declared.run.Run.{Run}
use Rattle.extents.specs.Runs.{is_in, sector_by, AreRising}

and-false : (b : Bool) → (b && false) ≡ false
and-false true = refl
and-false false = refl

pub is_in-yes : (run : Run) (k : ℕ) → run.block ≤ k → k < run.block + run.length → is_in run k ≡ true
is_in-yes run k low high =
    let prefix : leb run.block k ≡ true = le-leb run.block k low in
    let back : ltb k (run.block + run.length) ≡ true = lt-ltb k (run.block + run.length) high in
    rw (prefix, back) refl

pub is_in-before : (run : Run) (k : ℕ) → k < run.block → is_in run k ≡ false
is_in-before run k low =
    let prefix : leb run.block k ≡ false = lt-leb run.block k low in
    rw prefix refl

pub is_in-behind : (run : Run) (k : ℕ) → run.block + run.length ≤ k → is_in run k ≡ false
is_in-behind run k high =
    let back : ltb k (run.block + run.length) ≡ false = le-ltb k (run.block + run.length) high in
    rw back (and-false (leb run.block k))

-- just one run

pub one-yes : (run : Run) (k : ℕ) → run.block ≤ k → k < run.block + run.length → sector_by (run ∷ []) k ≡ Some (run.sector + (k - run.block))
one-yes run k low high = rw (is_in-yes run k low high) refl

pub one-before : (run : Run) (k : ℕ) → k < run.block → sector_by (run ∷ []) k ≡ None
one-before run k low = rw (is_in-before run k low) refl

pub one-behind : (run : Run) (k : ℕ) → run.block + run.length ≤ k → sector_by (run ∷ []) k ≡ None
one-behind run k high = rw (is_in-behind run k high) refl

-- runs end to end

abbrev pub or_else : Option ℕ → Option ℕ → Option ℕ
or_else (Some x) other = Some x
or_else None other = other

or_else-cond : (b : Bool) (x : ℕ) (y z : Option ℕ) → cond b (Some x) (or_else y z) ≡ or_else (cond b (Some x) y) z
or_else-cond true x y z = refl
or_else-cond false x y z = refl

or_else-None : (x : Option ℕ) → or_else x None ≡ x
or_else-None (Some x) = refl
or_else-None None = refl

sector_by-append : (xs ys : List Run) (k : ℕ) → sector_by (xs ++ ys) k ≡ or_else (sector_by xs k) (sector_by ys k)
sector_by-append [] ys k = refl
sector_by-append (x ∷ xs) ys k =
    ap (λ (o : Option ℕ). cond (is_in x k) (Some (x.sector + (k - x.block))) o) (sector_by-append xs ys k)
    ∙ or_else-cond (is_in x k) (x.sector + (k - x.block)) (sector_by xs k) (sector_by ys k)

-- a run that does not have the block changes nothing
pub sector_by-push_other : (runs : List Run) (run : Run) (k : ℕ) → sector_by (run ∷ []) k ≡ None → sector_by (runs ++ run ∷ []) k ≡ sector_by runs k
sector_by-push_other runs run k none = sector_by-append runs (run ∷ []) k ∙ ap (or_else (sector_by runs k)) none ∙ or_else-None (sector_by runs k)

-- if the runs so far do not have the block, the new one decides
pub sector_by-push_new : (runs : List Run) (run : Run) (k : ℕ) → sector_by runs k ≡ None → sector_by (runs ++ run ∷ []) k ≡ sector_by (run ∷ []) k
sector_by-push_new runs run k none = sector_by-append runs (run ∷ []) k ∙ ap (λ (o : Option ℕ). or_else o (sector_by (run ∷ []) k)) none

-- order

pub AreRising-widen : (from count more : ℕ) (runs : List Run) → count ≤ more → AreRising from count runs → AreRising from more runs
AreRising-widen from count more [] le h = tt
AreRising-widen from count more (run ∷ runs) le h = (h.0, h.1, omega (arith, h.2), h.3, AreRising-widen (run.block + run.length) count more runs le h.4)

pub AreRising-push : (from count more : ℕ) (runs : List Run) (run : Run) → AreRising from count runs → from ≤ count → count ≤ run.block → 0 < run.length → run.block + run.length ≤ more
    → run.sector + run.length ≤ 2 ^ 32 → AreRising from more (runs ++ run ∷ [])
AreRising-push from count more [] run h le behind some within fits = (omega arith, some, within, fits, tt)
AreRising-push from count more (r ∷ runs) run h le behind some within fits =
    (h.0, h.1, omega (arith, h.2), h.3, AreRising-push (r.block + r.length) count more runs run h.4 h.2 behind some within fits)

-- runs have no block after the last one's
pub sector_by-behind : (from count : ℕ) (runs : List Run) (k : ℕ) → AreRising from count runs → count ≤ k → sector_by runs k ≡ None
sector_by-behind from count [] k h le = refl
sector_by-behind from count (run ∷ runs) k h le =
    rw (is_in-behind run k (omega (arith, h.2))) (sector_by-behind (run.block + run.length) count runs k h.4 le)

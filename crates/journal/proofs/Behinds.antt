-- What goes behind a gate.
use Rattle.std.proofs.Common.{◌≡◌, ◌≤◌, ◌<◌, ◌+◌, ◌&&◌, ◌||◌, ℕ, suc, zero, Bool, true, false, not, leb, List, [], ◌∷◌, ◌++◌, length, take, get_or, refl, sym, ap, ◌∙◌, arith, if◌then◌else◌}
use Rattle.std.proofs.lemmas.Bool.{leb-true}
use Rattle.std.proofs.lemmas.List.{append_assoc, length-append, take_more}
use Rattle.std.proofs.lemmas.List.Folds.{list_any_at, list_any_more}
use Rattle.journal.specs.declared.layout.LogArea.{LogArea}
use Rattle.journal.specs.Layout.{AreNamed}
use Rattle.journal.specs.Behind.{FitsGate, meets, goes_behind, way_for}
use Rattle.journal.specs.Transactions.{has}
use Rattle.journal.proofs.Images.{Out, Fit, Named-join, Out-join, are_named, named_of}
use Rattle.journal.proofs.Lists.{Away, not_has-out, targets_of-Fit}
use Rattle.journal.proofs.Stages.{fit_once, prefix_named}

neither : (a b : Bool) → (a || b) ≡ false → (a ≡ false) × (b ≡ false)
neither true b e = absurd (let w : true ≡ false = e in cc)
neither false b e = (refl, e)

both : (once a b : Bool) → ((not once || not a) && b) ≡ true → (once ≡ true → a ≡ false) × (b ≡ true)
both false a b e = ((λ q. absurd (let w : false ≡ true = q in cc)), e)
both true true b e = absurd (let w : false ≡ true = e in cc)
both true false b e = ((λ q. refl), e)

away_of : (named to : List ℕ) → meets named to ≡ false → Away named to
away_of named [] e = tt
away_of named (t ∷ to) e = let each = neither (has named t) (meets named to) e in (not_has-out named t each.0, away_of named to each.1)

Away-first : (s : ℕ) (a b : List ℕ) → Away (s ∷ a) b → Out b s
Away-first s a [] w = tt
Away-first s a (t ∷ b) w = ((λ e. w.0.0 (sym e)), Away-first s a b w.1)

Away-rest : (s : ℕ) (a b : List ℕ) → Away (s ∷ a) b → Away a b
Away-rest s a [] w = tt
Away-rest s a (t ∷ b) w = (w.0.1, Away-rest s a b w.1)

Fit-join : (size : ℕ) (a b : List ℕ) → Fit size a → Fit size b → Away a b → Fit size (a ++ b)
Fit-join size [] b f g w = g
Fit-join size (t ∷ a) b f g w = (f.0, f.1, Out-join a b t f.2 (Away-first t a b w), Fit-join size a b f.3 g (Away-rest t a b w))

behind_fits : (area : LogArea) (named to : List ℕ) → FitsGate area named → AreNamed area to → goes_behind area named to ≡ true → FitsGate area (named ++ to)
behind_fits area named to fits fit e =
    let each = both area.once (meets named to) (leb (length named + length to) area.sectors) e in
    record {
      few = omega (arith, length-append named to, leb-true (length named + length to) area.sectors each.1);
      fit = are_named area (named ++ to) (Named-join area.end named to (named_of area named fits.fit) (named_of area to fit)) (λ once.
          (targets_of-Fit area.end (named ++ to) (Fit-join area.end named to (fit_once area named fits.fit once) (fit_once area to fit once) (away_of named to (each.0 once)))).apart);
    }

fits_for : (area : LogArea) (named to : List ℕ) (b : Bool) → goes_behind area named to ≡ b → FitsGate area named → length to ≤ area.sectors → AreNamed area to
    → FitsGate area ((if b then named else []) ++ to)
fits_for area named to true e fits few fit = behind_fits area named to fits fit e
fits_for area named to false e fits few fit = record { few = few; fit = fit }

-- once there is a way for them, the gate can name them too
pub way_fits : (area : LogArea) (named to : List ℕ) → FitsGate area named → length to ≤ area.sectors → AreNamed area to → FitsGate area (way_for area named to ++ to)
way_fits area named to fits few fit = fits_for area named to (goes_behind area named to) refl fits few fit

pub prefix_fits : (area : LogArea) (named to : List ℕ) → FitsGate area (named ++ to) → FitsGate area named
prefix_fits area named to fits = record {
  few = omega (arith, length-append named to, fits.few);
  fit = prefix_named area named to fits.fit;
}

-- looking for a target that is named, one after the other
pub meets_one : (named to : List ℕ) (i : ℕ) → i < length to → has named (get_or to i 0) ≡ true → meets named to ≡ true
meets_one named to i l e = list_any_at (λ target. has named target) to i 0 l e

either_false : (a b : Bool) → a ≡ false → b ≡ false → (a || b) ≡ false
either_false true b e q = e
either_false false b e q = q

pub meets_more : (named to : List ℕ) (i : ℕ) → i < length to → meets named (take i to) ≡ false → has named (get_or to i 0) ≡ false
    → meets named (take (i + 1) to) ≡ false
meets_more named to i l e q =
    list_any_more (λ target. has named target) to i 0 l ∙ either_false (meets named (take i to)) (has named (get_or to i 0)) e q

take_whole : (xs : List ℕ) (i : ℕ) → length xs ≤ i → take i xs ≡ xs
take_whole [] zero l = refl
take_whole [] (suc i) l = refl
take_whole (x ∷ xs) zero l = absurd (omega arith)
take_whole (x ∷ xs) (suc i) l = ap (λ ys. x ∷ ys) (take_whole xs i (omega arith))

pub meets_all : (named to : List ℕ) (i : ℕ) → length to ≤ i → meets named (take i to) ≡ false → meets named to ≡ false
meets_all named to i l e = ap (λ (ts : List ℕ). meets named ts) (sym (take_whole to i l)) ∙ e

pub stays_before : (area : LogArea) (named to : List ℕ) → area.once ≡ true → meets named to ≡ true → goes_behind area named to ≡ false
stays_before area named to once e =
    ap (λ (b : Bool). (not area.once || not b) && leb (length named + length to) area.sectors) e
    ∙ ap (λ (b : Bool). (not b || false) && leb (length named + length to) area.sectors) once

any_way : (once b c : Bool) → (once ≡ true → b ≡ false) → ((not once || not b) && c) ≡ c
any_way false b c e = refl
any_way true b c e = ap (λ (d : Bool). not d && c) (e refl)

pub goes_by_count : (area : LogArea) (named to : List ℕ) → (area.once ≡ true → meets named to ≡ false)
    → goes_behind area named to ≡ leb (length named + length to) area.sectors
goes_by_count area named to e = any_way area.once (meets named to) (leb (length named + length to) area.sectors) e

-- naming them one after the other
pub named_more : (was to now next : List ℕ) (i : ℕ) → i < length to → now ≡ was ++ take i to → next ≡ now ++ get_or to i 0 ∷ [] → next ≡ was ++ take (i + 1) to
named_more was to now next i l e q =
    q ∙ ap (λ (ts : List ℕ). ts ++ get_or to i 0 ∷ []) e ∙ append_assoc was (take i to) (get_or to i 0 ∷ [])
    ∙ ap (λ (ts : List ℕ). was ++ ts) (sym (take_more to i 0 l))

pub named_whole : (was to now : List ℕ) (i : ℕ) → length to ≤ i → now ≡ was ++ take i to → now ≡ was ++ to
named_whole was to now i l e = e ∙ ap (λ (ts : List ℕ). was ++ ts) (take_whole to i l)

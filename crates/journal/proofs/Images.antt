-- Images while writes are under way: which sectors they leave unchanged, and what they leave in the
-- others.
use Rattle.std.proofs.Common.{All, AllPairs, true, ◌≢◌, ◌≡◌, ◌≤◌, ◌<◌, ◌⊎◌, ◌+◌, ◌==◌, ℕ, suc, zero, List, [], ◌∷◌, ◌++◌, length, get_or, refl, sym, ap, ◌∙◌, subst, inl, inr, ⊎_elim, arith, eq-eqb, ne_eqb, if◌then◌else◌}
use Rattle.std.proofs.lemmas.Bool.{cases_eq, cases_lt}
use Rattle.disk.specs.declared.update.Update.{Update}
use Rattle.disk.specs.Moments.{Image, put, applied, Among}
use Rattle.journal.specs.declared.layout.LogArea.{LogArea}
use Rattle.journal.specs.Layout.{AreNamed, AreTargets, IsArea, home, home_from, targets, placed, copies}

-- n is none of the targets
abbrev pub Out : List ℕ → ℕ → Type 0
Out [] n = Unit {0}
Out (t ∷ ts) n = (t ≡ n → ⊥) × Out ts n

-- AreTargets, by recursion
abbrev pub Fit : ℕ → List ℕ → Type 0
Fit size [] = Unit {0}
Fit size (t ∷ ts) = (98 ≤ t) × (t < size) × Out ts t × Fit size ts

-- AreNamed, by recursion
abbrev pub Named : ℕ → List ℕ → Type 0
Named size [] = Unit {0}
Named size (t ∷ ts) = (98 ≤ t) × (t < size) × Named size ts

named_each : (end : ℕ) (to : List ℕ) → All (λ t. 98 ≤ t) to → All (λ t. t < end) to → Named end to
named_each end [] from below = tt
named_each end (t ∷ ts) from below = (
  from 0 0 (omega arith),
  below 0 0 (omega arith),
  named_each end ts (λ k d l. from (suc k) d (omega arith)) (λ k d l. below (suc k) d (omega arith)),
)

pub named_of : (area : LogArea) (to : List ℕ) → AreNamed area to → Named area.end to
named_of area to a = named_each area.end to a.from_first a.on_device

Named-far : (size : ℕ) (ts : List ℕ) → Named size ts → (k d : ℕ) → k < length ts → 98 ≤ get_or ts k d
Named-far size [] f k d l = absurd (omega arith)
Named-far size (t ∷ ts) f zero d l = f.0
Named-far size (t ∷ ts) f (suc k) d l = Named-far size ts f.2 k d (omega arith)

Named-near : (size : ℕ) (ts : List ℕ) → Named size ts → (k d : ℕ) → k < length ts → get_or ts k d < size
Named-near size [] f k d l = absurd (omega arith)
Named-near size (t ∷ ts) f zero d l = f.1
Named-near size (t ∷ ts) f (suc k) d l = Named-near size ts f.2 k d (omega arith)

pub are_named : (area : LogArea) (to : List ℕ) → Named area.end to → (area.once ≡ true → AllPairs (λ a b. a ≢ b) to) → AreNamed area to
are_named area to named apart = record { from_first = Named-far area.end to named; on_device = Named-near area.end to named; apart = apart }

pub of_targets : (area : LogArea) (to : List ℕ) → AreTargets area.end to → AreNamed area to
of_targets area to a = record { from_first = a.from_first; on_device = a.on_device; apart = λ once. a.apart }

pub Named-prefix : (size : ℕ) (a b : List ℕ) → Named size (a ++ b) → Named size a
Named-prefix size [] b f = tt
Named-prefix size (t ∷ a) b f = (f.0, f.1, Named-prefix size a b f.2)

pub Named-join : (size : ℕ) (a b : List ℕ) → Named size a → Named size b → Named size (a ++ b)
Named-join size [] b f g = g
Named-join size (t ∷ a) b f g = (f.0, f.1, Named-join size a b f.2 g)

-- an image that is between F and F with the updates
abbrev pub Between : Image → List Update → Image → Type 0
Between F us image = (n : ℕ) → (image n ≡ F n) ⊎ Among us n (image n)

-- the updates' contents are in consecutive sectors from a place on
abbrev pub HoldsFrom : Image → ℕ → List Update → Type 0
HoldsFrom G place [] = Unit {0}
HoldsFrom G place (u ∷ us) = (G place ≡ u.content) × HoldsFrom G (place + 1) us

pub if_same : (n t : ℕ) (a b : List ℕ) → n ≡ t → (if n == t then a else b) ≡ a
if_same n t a b e = rw (eq-eqb n t e)

pub if_other : (n t : ℕ) (a b : List ℕ) → (n ≡ t → ⊥) → (if n == t then a else b) ≡ b
if_other n t a b e = rw (ne_eqb n t e)

pub put_same : (image : Image) (u : Update) (n : ℕ) → u.target ≡ n → put image u n ≡ u.content
put_same image u n e = if_same n u.target u.content (image n) (sym e)

pub put_other : (image : Image) (u : Update) (n : ℕ) → (u.target ≡ n → ⊥) → put image u n ≡ image n
put_other image u n e = if_other n u.target u.content (image n) (λ q. e (sym q))

pub home_same : (found t : ℕ) (ts : List ℕ) (place n : ℕ) → n ≡ t → home_from found (t ∷ ts) place n ≡ home_from place ts (place + 1) n
home_same found t ts place n e = rw (eq-eqb n t e)

pub home_other : (found t : ℕ) (ts : List ℕ) (place n : ℕ) → (n ≡ t → ⊥) → home_from found (t ∷ ts) place n ≡ home_from found ts (place + 1) n
home_other found t ts place n e = rw (ne_eqb n t e)

-- a sector is at the place where it was found, or in the payload
pub home_from_cases : (found : ℕ) (to : List ℕ) (place n : ℕ)
    → (Out to n × (home_from found to place n ≡ found)) ⊎ ((place ≤ home_from found to place n) × (home_from found to place n < place + length to))
home_from_cases found [] place n = inl (tt, refl)
home_from_cases found (t ∷ ts) place n = ⊎_elim
    (λ (e : n ≡ t).
    let h = home_same found t ts place n e in ⊎_elim
    (λ (w : Out ts n × (home_from place ts (place + 1) n ≡ place)). inr (omega (arith, h, w.1), omega (arith, h, w.1)))
    (λ (w : (place + 1 ≤ home_from place ts (place + 1) n) × (home_from place ts (place + 1) n < place + 1 + length ts)).
    inr (omega (arith, h, w.0, w.1), omega (arith, h, w.0, w.1)))
    (home_from_cases place ts (place + 1) n))
    (λ (e : n ≡ t → ⊥).
    let h = home_other found t ts place n e in ⊎_elim
    (λ (w : Out ts n × (home_from found ts (place + 1) n ≡ found)). inl (((λ q. e (sym q)), w.0), h ∙ w.1))
    (λ (w : (place + 1 ≤ home_from found ts (place + 1) n) × (home_from found ts (place + 1) n < place + 1 + length ts)).
    inr (omega (arith, h, w.0, w.1), omega (arith, h, w.0, w.1)))
    (home_from_cases found ts (place + 1) n))
    (cases_eq n t)

-- a sector is at home, or in the payload
pub home_cases : (to : List ℕ) (place n : ℕ)
    → (Out to n × (home to place n ≡ n)) ⊎ ((place ≤ home to place n) × (home to place n < place + length to))
home_cases to place n = home_from_cases n to place n

home_from_out : (found : ℕ) (to : List ℕ) (place n : ℕ) → Out to n → home_from found to place n ≡ found
home_from_out found [] place n o = refl
home_from_out found (t ∷ ts) place n o = home_other found t ts place n (λ e. o.0 (sym e)) ∙ home_from_out found ts (place + 1) n o.1

pub home_of_out : (to : List ℕ) (place n : ℕ) → Out to n → home to place n ≡ n
home_of_out to place n o = home_from_out n to place n o

pub Out-join : (a b : List ℕ) (n : ℕ) → Out a n → Out b n → Out (a ++ b) n
Out-join [] b n o p = p
Out-join (t ∷ a) b n o p = (o.0, Out-join a b n o.1 p)

Out-prefix : (a b : List ℕ) (n : ℕ) → Out (a ++ b) n → Out a n
Out-prefix [] b n o = tt
Out-prefix (t ∷ a) b n o = (o.0, Out-prefix a b n o.1)

pub Fit-prefix : (size : ℕ) (a b : List ℕ) → Fit size (a ++ b) → Fit size a
Fit-prefix size [] b f = tt
Fit-prefix size (t ∷ a) b f = (f.0, f.1, Out-prefix a b t f.2, Fit-prefix size a b f.3)

-- the place of a sector behind a gate that names more targets after these
pub home_behind : (found : ℕ) (to ts : List ℕ) (place n : ℕ)
    → home_from found (to ++ ts) place n ≡ home_from (home_from found to place n) ts (place + length to) n
home_behind found [] ts place n = ap (λ (p : ℕ). home_from found ts p n) (let q : place ≡ place + 0 = omega arith in q)
home_behind found (t ∷ to) ts place n =
    home_behind (if n == t then place else found) to ts (place + 1) n
    ∙ ap (λ (p : ℕ). home_from (home_from (if n == t then place else found) to (place + 1) n) ts p n)
    (let q : place + 1 + length to ≡ place + length (t ∷ to) = omega arith in q)

pub low_out : (size : ℕ) (to : List ℕ) (n : ℕ) → Fit size to → n < 98 → Out to n
low_out size [] n f l = tt
low_out size (t ∷ ts) n f l = ((λ e. omega (arith, f.0)), low_out size ts n f.3 l)

pub low_named : (size : ℕ) (to : List ℕ) (n : ℕ) → Named size to → n < 98 → Out to n
low_named size [] n f l = tt
low_named size (t ∷ ts) n f l = ((λ e. omega (arith, f.0)), low_named size ts n f.2 l)

high_named : (end : ℕ) (to : List ℕ) (n : ℕ) → Named end to → end ≤ n → Out to n
high_named end [] n f l = tt
high_named end (t ∷ ts) n f l = ((λ e. omega (arith, f.1, e)), high_named end ts n f.2 l)

-- a log is in front of what transactions write, or behind it
pub sides : (area : LogArea) → IsArea area → (area.first + area.sectors ≤ 98) ⊎ (area.end ≤ area.first)
sides area is = ⊎_elim
    (λ (prefix : area.first < area.end). inl (is.beside prefix))
    (λ (behind : area.end ≤ area.first). inr behind)
    (cases_lt area.first area.end)

-- no sector of the log is a target
pub log_out : (area : LogArea) → IsArea area → (to : List ℕ) (n : ℕ) → Named area.end to → area.first ≤ n → n < area.first + area.sectors → Out to n
log_out area is to n f from below = ⊎_elim
    (λ (prefix : area.first + area.sectors ≤ 98). low_named area.end to n f (omega (arith, prefix)))
    (λ (behind : area.end ≤ area.first). high_named area.end to n f (omega (arith, behind)))
    (sides area is)

-- the place of a sector while the commit record is set is no target
pub home_out : (area : LogArea) → IsArea area → (to : List ℕ) (n : ℕ) → Named area.end to → length to ≤ area.sectors → Out to (home to area.first n)
home_out area is to n f few = ⊎_elim
    (λ (w : Out to n × (home to area.first n ≡ n)). let P : ℕ → Type 0 = λ m. Out to m in subst P (sym w.1) w.0)
    (λ (w : (area.first ≤ home to area.first n) × (home to area.first n < area.first + length to)). log_out area is to (home to area.first n) f w.0 (omega (arith, w.1)))
    (home_cases to area.first n)

pub among_out : (us : List Update) (n : ℕ) (content : List ℕ) → Among us n content → Out (targets us) n → ⊥
among_out [] n content a o = a
among_out (u ∷ us) n content a o =
    ⊎_elim (λ (w : (u.target ≡ n) × (u.content ≡ content)). o.0 w.0) (λ (w : Among us n content). among_out us n content w o.1) a

-- a sector that is no target is unchanged
pub applied_out : (us : List Update) (image : Image) (n : ℕ) → Out (targets us) n → applied us image n ≡ image n
applied_out [] image n o = refl
applied_out (u ∷ us) image n o = applied_out us (put image u) n o.1 ∙ put_other image u n o.0

pub between_out : (F : Image) (us : List Update) (image : Image) (n : ℕ) → Between F us image → Out (targets us) n → image n ≡ F n
between_out F us image n b o =
    ⊎_elim (λ (e : image n ≡ F n). e) (λ (a : Among us n (image n)). absurd (among_out us n (image n) a o)) (b n)

-- through the gate an image reads as with the updates whose contents are in its payload: if several
-- are of one sector, the last counts
pub applied_home : (us : List Update) (F G : Image) (found place n : ℕ) → HoldsFrom G place us → G found ≡ F n
    → G (home_from found (targets us) place n) ≡ applied us F n
applied_home [] F G found place n holds e = e
applied_home (u ∷ us) F G found place n holds e = ⊎_elim
    (λ (q : n ≡ u.target).
    ap G (home_same found u.target (targets us) place n q)
    ∙ applied_home us (put F u) G place (place + 1) n holds.1 (holds.0 ∙ sym (put_same F u n (sym q))))
    (λ (q : n ≡ u.target → ⊥).
    ap G (home_other found u.target (targets us) place n q)
    ∙ applied_home us (put F u) G found (place + 1) n holds.1 (e ∙ sym (put_other F u n (λ r. q (sym r)))))
    (cases_eq n u.target)

pub placed_out_below : (us : List Update) (place n : ℕ) → n < place → Out (targets (placed place us)) n
placed_out_below [] place n l = tt
placed_out_below (u ∷ us) place n l = ((λ e. omega arith), placed_out_below us (place + 1) n (omega arith))

pub placed_out_above : (us : List Update) (place n : ℕ) → place + length us ≤ n → Out (targets (placed place us)) n
placed_out_above [] place n l = tt
placed_out_above (u ∷ us) place n l = ((λ e. omega arith), placed_out_above us (place + 1) n (omega arith))

pub applied_placed : (us : List Update) (F : Image) (place : ℕ) → HoldsFrom (applied (placed place us) F) place us
applied_placed [] F place = tt
applied_placed (u ∷ us) F place =
    let first : Update = record { target = place; content = u.content } in (
      applied_out (placed (place + 1) us) (put F first) place (placed_out_below us (place + 1) place (omega arith))
          ∙ put_same F first place refl,
      applied_placed us (put F first) (place + 1),
    )

pub targets_copies : (F : Image) (place : ℕ) (to : List ℕ) → targets (copies F place to) ≡ to
targets_copies F place [] = refl
targets_copies F place (t ∷ ts) = ap (λ xs. t ∷ xs) (targets_copies F (place + 1) ts)

pub holds_copies : (F : Image) (place : ℕ) (to : List ℕ) → HoldsFrom F place (copies F place to)
holds_copies F place [] = tt
holds_copies F place (t ∷ ts) = (refl, holds_copies F (place + 1) ts)

pub length-targets : (us : List Update) → length (targets us) ≡ length us
length-targets [] = refl
length-targets (u ∷ us) = ap suc (length-targets us)

pub copies-append : (F : Image) (place : ℕ) (a b : List ℕ) → copies F place (a ++ b) ≡ copies F place a ++ copies F (place + length a) b
copies-append F place [] b = ap (λ (p : ℕ). copies F p b) (let q : place ≡ place + 0 = omega arith in q)
copies-append F place (t ∷ a) b =
    let u : Update = record { target = t; content = F place } in
    ap (λ (us : List Update). u ∷ us) (copies-append F (place + 1) a b
    ∙ ap (λ (p : ℕ). copies F (place + 1) a ++ copies F p b) (let q : place + 1 + length a ≡ place + length (t ∷ a) = omega arith in q))

pub copies_same : (F G : Image) (place : ℕ) (to : List ℕ) → ((n : ℕ) → place ≤ n → n < place + length to → G n ≡ F n)
    → copies G place to ≡ copies F place to
copies_same F G place [] same = refl
copies_same F G place (t ∷ ts) same =
    let u : Update = record { target = t; content = F place } in
    ap (λ (content : List ℕ). let v : Update = record { target = t; content = content } in v ∷ copies G (place + 1) ts) (same place (omega arith) (omega arith))
    ∙ ap (λ (us : List Update). u ∷ us) (copies_same F G (place + 1) ts (λ n l m. same n (omega arith) (omega arith)))

-- copies of the places that hold the contents are the updates
pub copies_held : (F : Image) (place : ℕ) (us : List Update) → HoldsFrom F place us → copies F place (targets us) ≡ us
copies_held F place [] holds = refl
copies_held F place (u ∷ us) holds =
    ap (λ (content : List ℕ). let v : Update = record { target = u.target; content = content } in v ∷ copies F (place + 1) (targets us)) holds.0
    ∙ ap (λ (vs : List Update). u ∷ vs) (copies_held F (place + 1) us holds.1)

-- Images within the phases of a flush, and what they settle to.
use Rattle.std.proofs.Common.{◌≡◌, ◌≤◌, ◌<◌, ◌⊎◌, ◌+◌, ℕ, true, suc, List, [], ◌∷◌, ◌++◌, length, refl, sym, ap, ◌∙◌, inl, inr, ⊎_elim, arith, subst}
use Rattle.std.proofs.lemmas.List.{length-append}
use Rattle.disk.specs.declared.update.Update.{Update}
use Rattle.disk.specs.Moments.{Image, applied}
use Rattle.journal.specs.declared.layout.LogArea.{LogArea}
use Rattle.journal.specs.Layout.{AreNamed, AreTargets, IsArea, home, home_from, through, gate, targets, placed, copies}
use Rattle.journal.specs.Settled.{IsOfCaller, AreSame, Settles}
use Rattle.journal.proofs.Images.{Out, Fit, Fit-prefix, sides, Named-prefix, named_of, are_named, Between, home_cases, home_behind, home_out, low_named, applied_out, between_out, applied_home, placed_out_below, placed_out_above, applied_placed, copies-append, copies_same, copies_held, targets_copies, holds_copies, length-targets}
use Rattle.journal.proofs.Lists.{Out-each, targets_of-Fit}

AreTargets-rest : (size t : ℕ) (ts : List ℕ) → AreTargets size (t ∷ ts) → AreTargets size ts
AreTargets-rest size t ts a = record {
  from_first = λ k d l. a.from_first (suc k) d (omega arith);
  on_device = λ k d l. a.on_device (suc k) d (omega arith);
  apart = λ i j d l h. a.apart (suc i) (suc j) d (omega arith) (omega arith);
}

pub Fit-of : (size : ℕ) (to : List ℕ) → AreTargets size to → Fit size to
Fit-of size [] a = tt
Fit-of size (t ∷ ts) a = (
  a.from_first 0 0 (omega arith),
  a.on_device 0 0 (omega arith),
  Out-each t ts (λ j l. a.apart 0 (suc j) 0 (omega arith) (omega arith)),
  Fit-of size ts (AreTargets-rest size t ts a),
)

-- if each target is named once
pub fit_once : (area : LogArea) (to : List ℕ) → AreNamed area to → area.once ≡ true → Fit area.end to
fit_once area to a once = Fit-of area.end to (record { from_first = a.from_first; on_device = a.on_device; apart = a.apart once })

pub prefix_named : (area : LogArea) (a b : List ℕ) → AreNamed area (a ++ b) → AreNamed area a
prefix_named area a b n = are_named area a (Named-prefix area.end a b (named_of area (a ++ b) n))
    (λ once. (targets_of-Fit area.end a (Fit-prefix area.end a b (fit_once area (a ++ b) n once))).apart)

pub no_targets : (area : LogArea) → AreNamed area []
no_targets area = record {
  from_first = λ k d l. absurd (omega arith);
  on_device = λ k d l. absurd (omega arith);
  apart = λ once i j d l h. absurd (omega arith);
}

pub kept_not_1 : (end n : ℕ) → IsOfCaller end n → n ≡ 1 → ⊥
kept_not_1 end n k e = ⊎_elim (λ (z : n ≡ 0). omega arith) (λ (z : 98 ≤ n). omega arith) k.0

home_not_1 : (area : LogArea) → IsArea area → (n : ℕ) (to : List ℕ) → IsOfCaller area.end n → home to area.first n ≡ 1 → ⊥
home_not_1 area is n to k e = ⊎_elim
    (λ (w : Out to n × (home to area.first n ≡ n)). kept_not_1 area.end n k (sym w.1 ∙ e))
    (λ (w : (area.first ≤ home to area.first n) × (home to area.first n < area.first + length to)). omega (arith, w.0, e, is.behind))
    (home_cases to area.first n)

-- a kept sector is not in the payload
kept_out_of_payload : (area : LogArea) → IsArea area → (n : ℕ) (us : List Update) (behind : ℕ) → behind + length us ≤ area.sectors → IsOfCaller area.end n
    → Out (targets (placed (area.first + behind) us)) n
kept_out_of_payload area is n us behind few k = ⊎_elim
    (λ (l : n ≡ 0). placed_out_below us (area.first + behind) n (omega (arith, l, is.behind)))
    (λ (l : 98 ≤ n). ⊎_elim
    (λ (prefix : area.first + area.sectors ≤ 98). placed_out_above us (area.first + behind) n (omega (arith, prefix, few, l)))
    (λ (back : area.end ≤ area.first). placed_out_below us (area.first + behind) n (omega (arith, back, k.1)))
    (sides area is))
    k.0

-- the place of a sector while the commit record is set is not behind what it names
home_out_of_payload : (area : LogArea) → IsArea area → (n : ℕ) (to : List ℕ) (us : List Update) → length to + length us ≤ area.sectors → IsOfCaller area.end n
    → Out (targets (placed (area.first + length to) us)) (home to area.first n)
home_out_of_payload area is n to us few k = ⊎_elim
    (λ (w : Out to n × (home to area.first n ≡ n)).
    let P : ℕ → Type 0 = λ m. Out (targets (placed (area.first + length to) us)) m in
    subst P (sym w.1) (kept_out_of_payload area is n us (length to) few k))
    (λ (w : (area.first ≤ home to area.first n) × (home to area.first n < area.first + length to)). placed_out_below us (area.first + length to) (home to area.first n) w.1)
    (home_cases to area.first n)

-- only the sector of one update differs
pub between_one : (F : Image) (u : Update) (image : Image) → Between F (u ∷ []) image
    → ((image u.target ≡ F u.target) ⊎ (image u.target ≡ u.content)) × ((n : ℕ) → (u.target ≡ n → ⊥) → image n ≡ F n)
between_one F u image b = (
  ⊎_elim
      (λ (e : image u.target ≡ F u.target). inl e)
      (λ (a : ((u.target ≡ u.target) × (u.content ≡ image u.target)) ⊎ ⊥). ⊎_elim
      (λ (q : (u.target ≡ u.target) × (u.content ≡ image u.target)). inr (sym q.1)) (λ (q : ⊥). absurd q) a)
      (b u.target),
  λ n ne. between_out F (u ∷ []) image n b (ne, tt),
)

-- the gate of a sector-1 update
abbrev pub gate_update : List ℕ → Update
gate_update to = record { target = 1; content = gate to }

-- What a payload behind the gate's targets leaves, and then more targets in the gate.
module _ (area : LogArea) (is : IsArea area) (to : List ℕ) (us : List Update) (F : Image) (few : length to + length us ≤ area.sectors) (fit : AreNamed area (to ++ targets us))
    (open_for : F 1 ≡ gate to) where
  paid : Image
  paid = applied (placed (area.first + length to) us) F

  named : AreNamed area to
  named = prefix_named area to (targets us) fit

  paid_1 : applied (placed (area.first + length to) us) F 1 ≡ F 1
  paid_1 = applied_out (placed (area.first + length to) us) F 1 (placed_out_below us (area.first + length to) 1 (omega (arith, is.behind)))

  -- within the payload phase nothing has happened yet
  pub payload_stage : (image : Image) → Between F (placed (area.first + length to) us) image → Settles area image (through area to F)
  payload_stage image b = record {
    to = to;
    few = omega arith;
    fit = named;
    gate_is = between_out F (placed (area.first + length to) us) image 1 b (placed_out_below us (area.first + length to) 1 (omega (arith, is.behind))) ∙ open_for;
    same = λ n k. sym (between_out F (placed (area.first + length to) us) image (home to area.first n) b (home_out_of_payload area is n to us few k));
  }

  -- read through the gate of all targets, an image with the payload is as with the updates
  pub through_payload : (image : Image) → ((n : ℕ) → (1 ≡ n → ⊥) → image n ≡ applied (placed (area.first + length to) us) F n)
      → AreSame area.end (applied us (through area to F)) (through area (to ++ targets us) image)
  through_payload image rest n k =
      let behind : home (to ++ targets us) area.first n ≡ home_from (home to area.first n) (targets us) (area.first + length to) n = home_behind n to (targets us) area.first n in
      sym (applied_home us (through area to F) (applied (placed (area.first + length to) us) F) (home to area.first n) (area.first + length to) n (applied_placed us F (area.first + length to))
      (applied_out (placed (area.first + length to) us) F (home to area.first n) (home_out_of_payload area is n to us few k)))
      ∙ ap (applied (placed (area.first + length to) us) F) (sym behind)
      ∙ sym (rest (home (to ++ targets us) area.first n) (λ e. home_not_1 area is n (to ++ targets us) k (sym e)))

  -- behind what it had, the payload has the updates' contents
  pub payload_behind : (image : Image) → ((n : ℕ) → (1 ≡ n → ⊥) → image n ≡ applied (placed (area.first + length to) us) F n)
      → copies image area.first (to ++ targets us) ≡ copies F area.first to ++ us
  payload_behind image rest =
      copies-append image area.first to (targets us)
      ∙ ap (λ (vs : List Update). vs ++ copies image (area.first + length to) (targets us))
      (copies_same F image area.first to (λ n l m. rest n (λ e. omega (arith, e, l, is.behind))
      ∙ applied_out (placed (area.first + length to) us) F n (placed_out_below us (area.first + length to) n m)))
      ∙ ap (λ (vs : List Update). copies F area.first to ++ vs)
      (copies_same (applied (placed (area.first + length to) us) F) image (area.first + length to) (targets us) (λ n l m. rest n (λ e. omega (arith, e, l, is.behind)))
      ∙ copies_held (applied (placed (area.first + length to) us) F) (area.first + length to) us (applied_placed us F (area.first + length to)))

  -- within the gate's phase an image is as before, or with the whole transaction
  pub gate_stage : (image : Image) → Between (applied (placed (area.first + length to) us) F) (gate_update (to ++ targets us) ∷ []) image
      → Settles area image (through area to F) ⊎ Settles area image (applied us (through area to F))
  gate_stage image b =
      let one = between_one (applied (placed (area.first + length to) us) F) (gate_update (to ++ targets us)) image b in
      ⊎_elim
      (λ (e : image 1 ≡ applied (placed (area.first + length to) us) F 1). inl (record {
        to = to;
        few = omega arith;
        fit = named;
        gate_is = e ∙ paid_1 ∙ open_for;
        same = λ n k. sym (one.1 (home to area.first n) (λ q. home_not_1 area is n to k (sym q))
            ∙ applied_out (placed (area.first + length to) us) F (home to area.first n) (home_out_of_payload area is n to us few k));
      }))
      (λ (e : image 1 ≡ gate (to ++ targets us)). inr (record {
        to = to ++ targets us;
        few = omega (arith, length-append to (targets us), length-targets us);
        fit = fit;
        gate_is = e;
        same = through_payload image one.1;
      }))
      one.0

module _ (area : LogArea) (is : IsArea area) (to : List ℕ) (F : Image) (few : length to ≤ area.sectors) (fit : AreNamed area to) (open_for : F 1 ≡ gate to) where
  copies_out : (n : ℕ) → Out to n → Out (targets (copies F area.first to)) n
  copies_out n o = let P : List ℕ → Type 0 = λ ts. Out ts n in subst P (sym (targets_copies F area.first to)) o

  -- if the commit record is set and all is fixed
  pub gated_stage : (image : Image) → ((n : ℕ) → image n ≡ F n) → Settles area image (through area to F)
  gated_stage image e = record {
    to = to;
    few = few;
    fit = fit;
    gate_is = e 1 ∙ open_for;
    same = λ n k. sym (e (home to area.first n));
  }

  -- within the homes' phase
  pub homes_stage : (image : Image) → Between F (copies F area.first to) image → Settles area image (through area to F)
  homes_stage image b = record {
    to = to;
    few = few;
    fit = fit;
    gate_is = between_out F (copies F area.first to) image 1 b (copies_out 1 (low_named area.end to 1 (named_of area to fit) (omega arith))) ∙ open_for;
    same = λ n k. sym (between_out F (copies F area.first to) image (home to area.first n) b (copies_out (home to area.first n) (home_out area is to n (named_of area to fit) few)));
  }

  -- with the homes written, the image reads the same without its gate
  pub homes_done : (n : ℕ) → applied (copies F area.first to) F n ≡ through area to F n
  homes_done n =
      let ts = targets_copies F area.first to in
      sym (applied_home (copies F area.first to) F F n area.first n (holds_copies F area.first to) refl) ∙ ap (λ (xs : List ℕ). F (home xs area.first n)) ts

  -- within the closing's phase
  pub closing_stage : (image : Image) → Between (applied (copies F area.first to) F) (gate_update [] ∷ []) image → Settles area image (through area to F)
  closing_stage image b =
      let one = between_one (applied (copies F area.first to) F) (gate_update []) image b in
      let same_1 : applied (copies F area.first to) F 1 ≡ F 1 =
      applied_out (copies F area.first to) F 1 (copies_out 1 (low_named area.end to 1 (named_of area to fit) (omega arith))) in
      ⊎_elim
      (λ (e : image 1 ≡ applied (copies F area.first to) F 1). record {
        to = to;
        few = few;
        fit = fit;
        gate_is = e ∙ same_1 ∙ open_for;
        same = λ n k. sym (one.1 (home to area.first n) (λ q. home_not_1 area is n to k (sym q))
            ∙ applied_out (copies F area.first to) F (home to area.first n) (copies_out (home to area.first n) (home_out area is to n (named_of area to fit) few)));
      })
      (λ (e : image 1 ≡ gate []). record {
        to = [];
        few = omega arith;
        fit = no_targets area;
        gate_is = e;
        same = λ n k. sym (one.1 n (λ q. kept_not_1 area.end n k (sym q)) ∙ homes_done n);
      })
      one.0

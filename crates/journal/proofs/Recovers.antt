-- Recovery: an image settles to one image, and a mount keeps what it settles to.
use Rattle.std.proofs.Common.{◌≡◌, ◌+◌, ◌≤◌, ◌<◌, ◌^◌, ℕ, Bool, true, false, eqb, eq-eqb, List, [], ◌∷◌, length, refl, sym, ap, ◌∙◌, subst, inl, inr, arith, Result, Ok, Err}
use Rattle.disk.specs.declared.update.Update.{Update}
use Rattle.disk.specs.Moments.{Image, History, AddsOnly, IsSector, seen, synced, moment}
use Rattle.disk.specs.Cause.{IsCounted}
use Rattle.disk.proofs.MomentLemmas.{AddsOnly-same, AddsOnly-weaken, AddsOnly-join}
use Rattle.journal.specs.declared.fault.JournalFault.{JournalFault}
use Rattle.journal.specs.declared.fault.JournalFault.TheVariants as faults
use Rattle.journal.specs.declared.layout.LogArea.{LogArea}
use Rattle.journal.specs.Layout.{AreNamed, IsArea, NamesTargets, gate, through}
use Rattle.journal.specs.Log.{Log}
use Rattle.journal.specs.MountAnswers.{HasRecovered}
use Rattle.journal.specs.Settled.{AreSame, Settles, SettlesAs}
use Rattle.journal.specs.Phase.{IsGated}
use Rattle.journal.specs.Commit.{IsCopiedHome, KeepsShown, rewritten}
use Rattle.journal.specs.Recover.{FaultsCounted, IsClosed, Recovers, recovery_cost}
use Rattle.journal.proofs.GateWords.{names_one}
use Rattle.journal.proofs.Rewrites.{seen_again}
use Rattle.journal.proofs.Stages.{gated_stage, no_targets}
use Rattle.journal.proofs.Moments.{AddsOnly-synced}
use Rattle.journal.proofs.Prefixes.{settled_of, settles_same}

-- an image settles to one image
pub settles_once : (area : LogArea) → IsArea area → (image a b : Image) → area.end < 2 ^ 32 → Settles area image a → Settles area image b → AreSame area.end a b
settles_once area is image a b small s t n k =
    let named_s : NamesTargets area (image 1) s.to = record { few = s.few; fit = s.fit; gate_is = s.gate_is } in
    let named_t : NamesTargets area (image 1) t.to = record { few = t.few; fit = t.fit; gate_is = t.gate_is } in
    let same : s.to ≡ t.to = sym (names_one area is (image 1) s.to small named_s) ∙ names_one area is (image 1) t.to small named_t in
    s.same n k ∙ ap (λ (to : List ℕ). through area to image n) same ∙ sym (t.same n k)

pub synced_moments : (P : Image → Type 0) (h h1 h2 : History) → h2 ≡ h1 → h1 ≡ synced h → AddsOnly P h h2
synced_moments P h h1 h2 q e = let Q : History → Type 0 = λ k. AddsOnly P h k in subst Q (sym (q ∙ e)) (AddsOnly-synced P h)

-- copying home keeps what the image settled to
pub recover_moments : (area : LogArea) → IsArea area → (h h2 h3 : History) (to : List ℕ) → h2 ≡ synced h → area.end < 2 ^ 32 → length to ≤ area.sectors → AreNamed area to → IsGated to h2
    → KeepsShown area to h2 h3 → AddsOnly (SettlesAs area (seen h.now)) h h3
recover_moments area is h h2 h3 to e small few fit gated w =
    let P : Image → Type 0 = λ image. SettlesAs area (seen h.now) image in
    let first : AddsOnly P h h2 = synced_moments P h h2 h2 refl e in
    let same : seen h2.now ≡ seen h.now = ap (λ (k : History). seen k.now) e in
    AddsOnly-join P h h2 h3 first
    (AddsOnly-weaken (λ image. Settles area image (through area to (seen h2.now))) P h2 h3
    (λ image s settled t.
    let Q : Image → Type 0 = λ seen_image. Settles area seen_image settled in
    settles_same area image (through area to (seen h2.now)) settled
    (settles_once area is (seen h2.now) (through area to (seen h2.now)) settled small
    (gated_stage area is to (seen h2.now) few fit gated.gate_is (seen h2.now) (λ n. refl)) (subst Q (sym same) t)) s) w)

-- from the sync on
pub recover_since : (area : LogArea) → IsArea area → (h h2 h3 : History) (to : List ℕ) → h2 ≡ synced h → area.end < 2 ^ 32 → length to ≤ area.sectors → AreNamed area to → IsGated to h2
    → KeepsShown area to h2 h3 → AddsOnly (SettlesAs area (seen h.now)) (synced h) h3
recover_since area is h h2 h3 to e small few fit gated w =
    let P : Image → Type 0 = λ image. SettlesAs area (seen h.now) image in
    let same : seen h2.now ≡ seen h.now = ap (λ (k : History). seen k.now) e in
    subst (λ (k : History). AddsOnly P k h3) e
    (AddsOnly-weaken (λ image. Settles area image (through area to (seen h2.now))) P h2 h3
    (λ image s settled t.
    let Q : Image → Type 0 = λ seen_image. Settles area seen_image settled in
    settles_same area image (through area to (seen h2.now)) settled
    (settles_once area is (seen h2.now) (through area to (seen h2.now)) settled small
    (gated_stage area is to (seen h2.now) few fit gated.gate_is (seen h2.now) (λ n. refl)) (subst Q (sym same) t)) s) w)

pub gated_after : (h h1 h2 : History) (to : List ℕ) → h2 ≡ h1 → h1 ≡ synced h → seen h1.now 1 ≡ gate to → IsGated to h2
gated_after h h1 h2 to q e names = record {
  rests = ap (λ (k : History). k.now.unsynced) (q ∙ e);
  gate_is = ap (λ (k : History). seen k.now 1) q ∙ names;
}

-- a cleared commit record names no targets
pub closed_none : (area : LogArea) → IsArea area → (sector to : List ℕ) → area.end < 2 ^ 32 → NamesTargets area sector to → sector ≡ gate [] → to ≡ []
closed_none area is sector to small names e =
    let none : NamesTargets area sector [] = record { few = omega arith; fit = no_targets area; gate_is = e } in
    sym (names_one area is sector to small names) ∙ names_one area is sector [] small none

pub damaged_counted : {T : Type 0} (before after : ℕ) → after ≡ before → FaultsCounted {T = T} before after (Err faults.Damaged)
damaged_counted before after l = record {
  later = omega arith;
  counted = λ e. absurd (let q : faults.Damaged ≡ faults.Fault = cc in cc);
  none = λ n. l;
  only = inr refl;
}

pub unmoved : (P : Image → Type 0) (h h1 : History) → h1 ≡ h → AddsOnly P h h1
unmoved P h h1 e = let Q : History → Type 0 = λ k. AddsOnly P h k in subst Q (sym e) (AddsOnly-same P h)

pub fault_counted : {T : Type 0} (before mid after : ℕ) → mid ≡ before → IsCounted mid after → FaultsCounted {T = T} before after (Err faults.Fault)
fault_counted before mid after e counted =
    let P : ℕ → Type 0 = λ n. IsCounted n after in
    record {
      later = elim counted [ inl grew ↦ omega arith | inr full ↦ omega arith ];
      counted = λ _. subst P e counted;
      none = λ n. absurd (n refl);
      only = inl refl;
    }

-- what counted after what counted none
pub counted_after : {T : Type 0} (before mid after : ℕ) (r : Result T JournalFault) → mid ≡ before → FaultsCounted mid after r → FaultsCounted before after r
counted_after before mid after r e w = let P : ℕ → Type 0 = λ n. FaultsCounted n after r in subst P e w

pub none_counted : {T : Type 0} (before after : ℕ) (x : T) → after ≡ before → FaultsCounted before after (Ok x)
none_counted before after x e = record { later = omega arith; counted = λ q. absurd (cc); none = λ n. e; only = tt }

pub no_elements : (xs : List ℕ) → length xs ≡ 0 → xs ≡ []
no_elements [] e = refl
no_elements (x ∷ xs) e = absurd (omega arith)

pub not_empty : (is_empty : Bool) (n : ℕ) → is_empty ≡ eqb n 0 → is_empty ≡ false → n ≡ 0 → ⊥
not_empty is_empty n is filled zero = let w : true ≡ false = sym (eq-eqb n 0 zero) ∙ sym is ∙ filled in cc

-- a cleared commit record leaves nothing to copy
pub recovers_closed : (area : LogArea) (h h2 : History) (to : List ℕ) → h2 ≡ synced h → length to ≡ 0 → IsGated to h2 → Recovers area h h2
recovers_closed area h h2 to e none gated =
    let P : List ℕ → Type 0 = λ ts. IsGated ts h2 in
    let Q : History → Type 0 = λ k. AddsOnly (SettlesAs area (seen h.now)) k h2 in
    let closed = subst P (no_elements to none) gated in
    record {
      gated = closed;
      settles = record {
        to = [];
        few = omega arith;
        fit = no_targets area;
        gate_is = sym (ap (λ (k : History). seen k.now 1) e) ∙ closed.gate_is;
        same = λ n kept. ap (λ (k : History). seen k.now n) e;
      };
      since_sync = subst Q e (AddsOnly-same (SettlesAs area (seen h.now)) h2);
      cost = omega (arith, ap moment e);
    }

recovery_cost_is : (to : List ℕ) → (to ≡ [] → ⊥) → recovery_cost to ≡ length to + 6
recovery_cost_is [] some = absurd (some refl)
recovery_cost_is (t ∷ to) some = refl

pub recovers_copied : (area : LogArea) → IsArea area → (h h2 h3 h4 : History) (to : List ℕ) → (to ≡ [] → ⊥) → h2 ≡ synced h → area.end < 2 ^ 32 → length to ≤ area.sectors → AreNamed area to → IsGated to h2
    → h3 ≡ rewritten to h2 → KeepsShown area to h2 h4 → IsCopiedHome area to h3 h4 → Recovers area h h4
recovers_copied area is h h2 h3 h4 to some e small few fit gated again shown copied = record {
  gated = copied.gated;
  settles = record {
    to = to;
    few = few;
    fit = fit;
    gate_is = sym (ap (λ (k : History). seen k.now 1) e) ∙ gated.gate_is;
    same = λ n kept. sym (copied.same n kept) ∙ (ap (λ (F : Image). through area to F n) (seen_again area to h2 h3 again gated.gate_is) ∙ ap (λ (k : History). through area to (seen k.now) n) e);
  };
  since_sync = recover_since area is h h2 h4 to e small few fit gated shown;
  cost = omega (arith, copied.cost, ap moment again, ap moment e, recovery_cost_is to some);
}

-- the journal that a recovery makes
pub has_recovered : (area now : LogArea) → IsArea area → (size : ℕ) (h h1 : History) (to : List ℕ) (list : List (List Update)) → now ≡ area → to ≡ []
    → AddsOnly (SettlesAs area (seen h.now)) h h1 → Recovers area h h1 → (IsClosed h → h1 ≡ synced h) → ((n : ℕ) → n < size → IsSector (seen h1.now n))
    → (let log : Log = record { base = through now to (seen h1.now); list = list; is_down = false; area = now; size = size; history = h1 } in HasRecovered area h log)
has_recovered area now is_area size h h1 to list at none moments is closed sectors =
    subst (λ (a : LogArea). let log : Log = record { base = through a to (seen h1.now); list = list; is_down = false; area = a; size = size; history = h1 } in HasRecovered area h log) (sym at)
    (subst (λ (ts : List ℕ). let log : Log = record { base = through area ts (seen h1.now); list = list; is_down = false; area = area; size = size; history = h1 } in HasRecovered area h log) (sym none) (record {
      base = is.settles;
      sectors = sectors;
      settled = settled_of area is_area [] h1 (omega arith) (no_targets area) is.gated;
      moments = moments;
      since_sync = is.since_sync;
      closed = closed;
      cost = is.cost;
    }))

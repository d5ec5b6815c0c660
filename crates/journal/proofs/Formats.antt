-- A format, phase by phase.
use Rattle.std.proofs.Common.{◌≡◌, ◌≤◌, ◌<◌, ◌⊎◌, ◌+◌, ◌-◌, ◌==◌, ℕ, suc, zero, List, [], ◌∷◌, length, map, get_or, refl, sym, ap, ◌∙◌, subst, inl, inr, ⊎_elim, arith, if◌then◌else◌}
use Rattle.std.specs.List.{range_with_len}
use Rattle.std.proofs.lemmas.Bool.{cases_eq}
use Rattle.std.proofs.lemmas.List.FromFn.{get_or-map-range_with_len, length-map-range_with_len}
use Rattle.disk.specs.declared.update.Update.{Update}
use Rattle.disk.specs.Moments.{Image, History, AddsOnly, Left, LeftSince, SectorMayHold, Among, seen, put, applied}
use Rattle.disk.specs.Calls.{zero_sector}
use Rattle.disk.proofs.MomentLemmas.{AddsOnly-weaken, AddsOnly-join}
use Rattle.journal.specs.declared.layout.LogArea.{LogArea}
use Rattle.journal.specs.Layout.{AreTargets, gate, targets}
use Rattle.journal.specs.Settled.{Settles}
use Rattle.journal.specs.Phase.{LeftWith, AddsUpdates, IsFixedAs}
use Rattle.journal.specs.Format.{formatted, fresh, fresh_at}
use Rattle.journal.proofs.Images.{Out, put_same, put_other, low_out, applied_out, between_out, if_same, if_other}
use Rattle.journal.proofs.Stages.{Fit-of, no_targets, between_one}
use Rattle.journal.proofs.Moments.{between_of}
use Rattle.journal.proofs.Commits.{seen_fixed, between_after}
use Rattle.journal.proofs.Lists.{applied_at}

pub length-fresh : (size : ℕ) (updates : List Update) → length (fresh size updates) ≡ size - 1
length-fresh size updates = length-map-range_with_len (fresh_at updates) 1 (size - 1)

pub get_or-fresh : (size : ℕ) (updates : List Update) (n : ℕ) (d : Update) → 1 ≤ n → n < size → get_or (fresh size updates) (n - 1) d ≡ fresh_at updates n
get_or-fresh size updates n d l h = get_or-map-range_with_len (fresh_at updates) 1 (size - 1) (n - 1) n d (omega arith) (omega arith)

range_out : (f : ℕ → Update) (a k n : ℕ) → ((m : ℕ) → (f m).target ≡ m) → n < a → Out (targets (map f (range_with_len a k))) n
range_out f a zero n t l = tt
range_out f a (suc k) n t l = ((λ e. omega (arith, e, t a)), range_out f (a + 1) k n t (omega arith))

pub range_applied : (f : ℕ → Update) (a k n : ℕ) (F : Image) → ((m : ℕ) → (f m).target ≡ m) → a ≤ n → n < a + k → applied (map f (range_with_len a k)) F n ≡ (f n).content
range_applied f a zero n F t l h = absurd (omega arith)
range_applied f a (suc k) n F t l h = ⊎_elim
    (λ (e : a ≡ n). applied_out (map f (range_with_len (a + 1) k)) (put F (f a)) n (range_out f (a + 1) k n t (omega arith))
    ∙ put_same F (f a) n (t a ∙ e) ∙ ap (λ (m : ℕ). (f m).content) e)
    (λ (e : a ≡ n → ⊥). range_applied f (a + 1) k n (put F (f a)) t
    (⊎_elim (λ (q : a ≡ n). absurd (e q)) (λ (q : a ≡ n → ⊥). omega arith) (cases_eq a n)) (omega arith))
    (cases_eq a n)

-- an image as a format leaves it
settles_formatted : (area : LogArea) (size : ℕ) (sector0 : List ℕ) (updates : List Update) (image : Image) → 2 ≤ size → area.end ≤ size → AreTargets area.end (targets updates) → image 0 ≡ sector0
    → ((n : ℕ) → 1 ≤ n → n < size → image n ≡ applied updates (λ _. zero_sector) n) → Settles area image (formatted sector0 updates)
unfolding gate
settles_formatted area size sector0 updates image large within fit e rest =
    let base : Image = λ n. if n == 0 then sector0 else zero_sector in
    record {
      to = [];
      few = omega arith;
      fit = no_targets area;
      gate_is = rest 1 (omega arith) (omega arith) ∙ applied_out updates (λ _. zero_sector) 1 (low_out area.end (targets updates) 1 (Fit-of area.end (targets updates) fit) (omega arith));
      same = λ n k. ⊎_elim
          (λ (q : n ≡ 0). applied_out updates base n (low_out area.end (targets updates) n (Fit-of area.end (targets updates) fit) (omega arith))
          ∙ if_same n 0 sector0 zero_sector q ∙ sym e ∙ ap image (sym q))
          (λ (q : n ≡ 0 → ⊥). applied_at updates base (λ _. zero_sector) n (if_other n 0 sector0 zero_sector q)
          ∙ sym (rest n (⊎_elim (λ (z : n ≡ 0). absurd (q z)) (λ (z : 98 ≤ n). omega arith) k.0) (omega (arith, k.1, within))))
          (cases_eq n 0);
    }

abbrev pub zero_update : Update
zero_update = record { target = 0; content = zero_sector }

-- sector 0 is none of those that `fresh` writes
pub fresh_out : (size : ℕ) (updates : List Update) → Out (targets (fresh size updates)) 0
fresh_out size updates = range_out (fresh_at updates) 1 (size - 1) 0 (λ m. refl) (omega arith)

-- with sector 0 they are the whole format
pub fresh_made : (area : LogArea) (size : ℕ) (sector0 : List ℕ) (updates : List Update) → 2 ≤ size → area.end ≤ size → AreTargets area.end (targets updates)
    → (base image : Image) → image 0 ≡ sector0 → ((n : ℕ) → (n ≡ 0 → ⊥) → image n ≡ applied (fresh size updates) base n) → Settles area image (formatted sector0 updates)
fresh_made area size sector0 updates large within fit base image e rest =
    settles_formatted area size sector0 updates image large within fit e
    (λ n l u. rest n (λ z. omega arith) ∙ range_applied (fresh_at updates) 1 (size - 1) n base (λ m. refl) l (omega arith))

-- A format in general: zeros for sector 0, all of these updates, and sector 0 last. If images with
-- all of them have Q, a crash leaves a sector 0 of zeros or an image with Q.
module _ (all : List Update) (Q : Image → Type 0) (sector0 : List ℕ) (h : History) (out : Out (targets all) 0)
    (made : (base image : Image) → image 0 ≡ sector0 → ((n : ℕ) → (n ≡ 0 → ⊥) → image n ≡ applied all base n) → Q image) where
  abbrev Passed : Image → Type 0
  Passed image = (image 0 ≡ zero_sector) ⊎ Q image

  pub erased_moments : (h1 : History) → AddsUpdates (zero_update ∷ []) h h1 → AddsOnly (λ image. (image 0 ≡ zero_sector) ⊎ Q image) h h1
  erased_moments h1 w = record {
    later = w.later;
    added = λ t image l left. ⊎_elim
        (λ (q : LeftSince h t image). inl q)
        (λ (q : LeftWith (zero_update ∷ []) h.now image). ⊎_elim
        (λ (m : SectorMayHold h.now 0 (image 0)). inl (inl (λ n. ⊎_elim
        (λ (r : SectorMayHold h.now n (image n)). r)
        (λ (r : ((0 ≡ n) × (zero_sector ≡ image n)) ⊎ ⊥). ⊎_elim
        (λ (s : (0 ≡ n) × (zero_sector ≡ image n)). let P : ℕ → Type 0 = λ k. SectorMayHold h.now k (image k) in subst P s.0 m)
        (λ (s : ⊥). absurd s) r)
        (q n))))
        (λ (m : ((0 ≡ 0) × (zero_sector ≡ image 0)) ⊎ ⊥). ⊎_elim
        (λ (s : (0 ≡ 0) × (zero_sector ≡ image 0)). inr (inl (sym s.1))) (λ (s : ⊥). absurd s) m)
        (q 0))
        (w.added t image l left);
  }

  fresh_moments : (h1 h2 : History) → IsFixedAs (zero_update ∷ []) h h1 → AddsUpdates all h1 h2 → AddsOnly Passed h1 h2
  fresh_moments h1 h2 f w =
      AddsOnly-weaken (LeftWith all h1.now) Passed h1 h2
      (λ image l. inl (between_out (put (seen h.now) zero_update) all image 0 (between_after (zero_update ∷ []) all h h1 image f l) out
      ∙ put_same (seen h.now) zero_update 0 refl)) w

  fresh_zero : (h1 h2 : History) → IsFixedAs (zero_update ∷ []) h h1 → IsFixedAs all h1 h2 → seen h2.now 0 ≡ zero_sector
  fresh_zero h1 h2 e f =
      ap (λ (image : Image). image 0) (seen_fixed all h1 h2 f)
      ∙ applied_out all (seen h1.now) 0 out
      ∙ ap (λ (image : Image). image 0) (seen_fixed (zero_update ∷ []) h h1 e)
      ∙ put_same (seen h.now) zero_update 0 refl

  last_moments : (h1 h2 h3 : History) → IsFixedAs (zero_update ∷ []) h h1 → IsFixedAs all h1 h2
      → (let u : Update = record { target = 0; content = sector0 } in AddsUpdates (u ∷ []) h2 h3) → AddsOnly Passed h2 h3
  last_moments h1 h2 h3 e f w =
      let u : Update = record { target = 0; content = sector0 } in
      AddsOnly-weaken (LeftWith (u ∷ []) h2.now) Passed h2 h3
      (λ image l.
      let one = between_one (seen h2.now) u image (between_of (u ∷ []) h2.now image f.unsynced l) in
      ⊎_elim
      (λ (q : image 0 ≡ seen h2.now 0). inl (q ∙ fresh_zero h1 h2 e f))
      (λ (q : image 0 ≡ sector0). inr (made (seen h1.now) image q
      (λ n z. one.1 n (λ r. z (sym r)) ∙ ap (λ (k : Image). k n) (seen_fixed all h1 h2 f))))
      one.0) w

  pub format_fresh : (h1 h2 : History) → AddsUpdates (zero_update ∷ []) h h1 → IsFixedAs (zero_update ∷ []) h h1 → AddsUpdates all h1 h2
      → AddsOnly (λ image. (image 0 ≡ zero_sector) ⊎ Q image) h h2
  format_fresh h1 h2 w e v = AddsOnly-join Passed h h1 h2 (erased_moments h1 w) (fresh_moments h1 h2 e v)

  pub format_last : (h1 h2 h3 : History) → AddsUpdates (zero_update ∷ []) h h1 → IsFixedAs (zero_update ∷ []) h h1 → AddsUpdates all h1 h2
      → IsFixedAs all h1 h2
      → (let u : Update = record { target = 0; content = sector0 } in AddsUpdates (u ∷ []) h2 h3) → AddsOnly (λ image. (image 0 ≡ zero_sector) ⊎ Q image) h h3
  format_last h1 h2 h3 w e v f x = AddsOnly-join Passed h h2 h3 (format_fresh h1 h2 w e v) (last_moments h1 h2 h3 e f x)

  pub format_done : (h1 h2 h3 : History) → IsFixedAs all h1 h2
      → (let u : Update = record { target = 0; content = sector0 } in IsFixedAs (u ∷ []) h2 h3) → (image : Image) → Left h3.now image → Q image
  format_done h1 h2 h3 f x image left =
      let u : Update = record { target = 0; content = sector0 } in
      let same : (n : ℕ) → image n ≡ put (seen h2.now) u n = λ n. ⊎_elim
      (λ (q : image n ≡ h3.now.fixed n). q ∙ ap (λ (k : Image). k n) x.fixed)
      (λ (q : Among h3.now.unsynced n (image n)).
      let P : List Update → Type 0 = λ unsynced. Among unsynced n (image n) in absurd (subst P x.unsynced q))
      (left n) in
      made (seen h1.now) image (same 0 ∙ put_same (seen h2.now) u 0 refl)
      (λ n z. same n ∙ put_other (seen h2.now) u n (λ r. z (sym r)) ∙ ap (λ (k : Image). k n) (seen_fixed all h1 h2 f))

-- sector 0's zeros, as they are written
pub erased_at : (bytes : List ℕ) (h h1 : History) → bytes ≡ zero_sector
    → (let u : Update = record { target = 0; content = bytes } in AddsUpdates (u ∷ []) h h1) → AddsUpdates (zero_update ∷ []) h h1
erased_at bytes h h1 e w =
    let P : List ℕ → Type 0 = λ b. let u : Update = record { target = 0; content = b } in AddsUpdates (u ∷ []) h h1 in subst P e w

pub erased_fixed : (bytes : List ℕ) (h h1 : History) → bytes ≡ zero_sector
    → (let u : Update = record { target = 0; content = bytes } in IsFixedAs (u ∷ []) h h1) → IsFixedAs (zero_update ∷ []) h h1
erased_fixed bytes h h1 e w =
    let P : List ℕ → Type 0 = λ b. let u : Update = record { target = 0; content = b } in IsFixedAs (u ∷ []) h h1 in subst P e w

-- the device's size stays
pub fresh_moments_at : (old new : ℕ) (updates : List Update) (h h1 : History) → new ≡ old → AddsUpdates (fresh new updates) h h1 → AddsUpdates (fresh old updates) h h1
fresh_moments_at old new updates h h1 e w = let P : ℕ → Type 0 = λ size. AddsUpdates (fresh size updates) h h1 in subst P e w

pub fresh_fixed_at : (old new : ℕ) (updates : List Update) (h h1 : History) → new ≡ old → IsFixedAs (fresh new updates) h h1 → IsFixedAs (fresh old updates) h h1
fresh_fixed_at old new updates h h1 e w = let P : ℕ → Type 0 = λ size. IsFixedAs (fresh size updates) h h1 in subst P e w

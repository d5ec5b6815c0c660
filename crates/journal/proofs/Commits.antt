-- Recording a transaction behind the gate, and copying it home, phase by phase.
use Rattle.std.proofs.Common.{◌≡◌, ◌≤◌, ◌⊎◌, ℕ, List, [], ◌∷◌, ◌++◌, ◌+◌, length, refl, sym, ap, ◌∙◌, subst, inl, inr, ⊎_elim, arith}
use Rattle.disk.specs.declared.update.Update.{Update}
use Rattle.disk.specs.Moments.{Image, History, seen, applied, put, newest}
use Rattle.disk.proofs.MomentLemmas.{AddsOnly-weaken, AddsOnly-join}
use Rattle.journal.specs.declared.layout.LogArea.{LogArea}
use Rattle.journal.specs.Layout.{AreNamed, IsArea, gate, through, targets, placed, copies}
use Rattle.journal.specs.Settled.{AreSame, Settles}
use Rattle.journal.specs.Phase.{LeftWith, AddsUpdates, IsFixedAs, IsGated}
use Rattle.journal.specs.Behind.{way_cost}
use Rattle.journal.specs.Commit.{AddsEither, IsRecorded, KeepsShown, IsCopiedHome, MakesWay, IsCommitted}
use Rattle.journal.proofs.Images.{Between, put_same, put_other}
use Rattle.journal.proofs.Prefixes.{settles_same, applied_keeps}
use Rattle.journal.proofs.Phases.{length-placed, length-copies}
use Rattle.journal.proofs.Stages.{gate_update, payload_behind, payload_stage, gate_stage, through_payload, homes_stage, homes_done, closing_stage, kept_not_1}
use Rattle.journal.proofs.Moments.{between_of}

-- what a read gives after a phase
pub seen_fixed : (us : List Update) (h h1 : History) → IsFixedAs us h h1 → seen h1.now ≡ applied us (seen h.now)
seen_fixed us h h1 f = ap (λ (unsynced : List Update). newest unsynced h1.now.fixed) f.unsynced ∙ f.fixed

-- what a crash within the next phase leaves
pub between_after : (us next : List Update) (h h1 : History) (image : Image) → IsFixedAs us h h1 → LeftWith next h1.now image
    → Between (applied us (seen h.now)) next image
between_after us next h h1 image f w =
    let P : Image → Type 0 = λ F. Between F next image in
    subst P (seen_fixed us h h1 f) (between_of next h1.now image f.unsynced w)

-- an image that settles to a base, or to it with the updates
abbrev pub Either : LogArea → List Update → Image → Image → Type 0
Either area us base image = Settles area image base ⊎ Settles area image (applied us base)

-- updates are recorded behind what the gate names
module _ (area : LogArea) (is : IsArea area) (to : List ℕ) (us : List Update) (h : History) (few : length to + length us ≤ area.sectors) (fit : AreNamed area (to ++ targets us)) (gated : IsGated to h) where
  pub payload_moments : (h1 : History) → AddsUpdates (placed (area.first + length to) us) h h1 → AddsEither area us (through area to (seen h.now)) h h1
  payload_moments h1 w =
      AddsOnly-weaken (LeftWith (placed (area.first + length to) us) h.now) (Either area us (through area to (seen h.now))) h h1
      (λ image l. inl (payload_stage area is to us (seen h.now) few fit gated.gate_is image (between_of (placed (area.first + length to) us) h.now image gated.rests l))) w

  pub gate_moments : (h1 h2 : History) → AddsUpdates (placed (area.first + length to) us) h h1 → IsFixedAs (placed (area.first + length to) us) h h1
      → AddsUpdates (gate_update (to ++ targets us) ∷ []) h1 h2 → AddsEither area us (through area to (seen h.now)) h h2
  gate_moments h1 h2 w f v =
      AddsOnly-join (Either area us (through area to (seen h.now))) h h1 h2 (payload_moments h1 w)
      (AddsOnly-weaken (LeftWith (gate_update (to ++ targets us) ∷ []) h1.now) (Either area us (through area to (seen h.now))) h1 h2
      (λ image l. gate_stage area is to us (seen h.now) few fit gated.gate_is image
      (between_after (placed (area.first + length to) us) (gate_update (to ++ targets us) ∷ []) h h1 image f l)) v)

  pub recorded : (h1 h2 : History) → IsFixedAs (placed (area.first + length to) us) h h1 → IsFixedAs (gate_update (to ++ targets us) ∷ []) h1 h2
      → IsRecorded area us to (to ++ targets us) h h2
  recorded h1 h2 f q =
      let last : seen h2.now ≡ put (seen h1.now) (gate_update (to ++ targets us)) = seen_fixed (gate_update (to ++ targets us) ∷ []) h1 h2 q in
      record {
        gated = record {
          rests = q.unsynced;
          gate_is = ap (λ (image : Image). image 1) last ∙ put_same (seen h1.now) (gate_update (to ++ targets us)) 1 refl;
        };
        payload = payload_behind area is to us (seen h.now) few fit gated.gate_is (seen h2.now) (λ n ne.
            ap (λ (image : Image). image n) last ∙ put_other (seen h1.now) (gate_update (to ++ targets us)) n ne
            ∙ ap (λ (image : Image). image n) (seen_fixed (placed (area.first + length to) us) h h1 f));
        cost = omega (arith, f.cost, q.cost, length-placed (area.first + length to) us);
        same = through_payload area is to us (seen h.now) few fit gated.gate_is (seen h2.now) (λ n ne.
            ap (λ (image : Image). image n) last ∙ put_other (seen h1.now) (gate_update (to ++ targets us)) n ne
            ∙ ap (λ (image : Image). image n) (seen_fixed (placed (area.first + length to) us) h h1 f));
      }

module _ (area : LogArea) (is : IsArea area) (to : List ℕ) (h : History) (few : length to ≤ area.sectors) (fit : AreNamed area to) (gated : IsGated to h) where
  pub homes_moments : (h1 : History) → AddsUpdates (copies (seen h.now) area.first to) h h1 → KeepsShown area to h h1
  homes_moments h1 w =
      AddsOnly-weaken (LeftWith (copies (seen h.now) area.first to) h.now) (λ image. Settles area image (through area to (seen h.now))) h h1
      (λ image l. homes_stage area is to (seen h.now) few fit gated.gate_is image (between_of (copies (seen h.now) area.first to) h.now image gated.rests l)) w

  pub closing_moments : (h1 h2 : History) → AddsUpdates (copies (seen h.now) area.first to) h h1 → IsFixedAs (copies (seen h.now) area.first to) h h1
      → AddsUpdates (gate_update [] ∷ []) h1 h2 → KeepsShown area to h h2
  closing_moments h1 h2 w f v =
      AddsOnly-join (λ image. Settles area image (through area to (seen h.now))) h h1 h2 (homes_moments h1 w)
      (AddsOnly-weaken (LeftWith (gate_update [] ∷ []) h1.now) (λ image. Settles area image (through area to (seen h.now))) h1 h2
      (λ image l. closing_stage area is to (seen h.now) few fit gated.gate_is image (between_after (copies (seen h.now) area.first to) (gate_update [] ∷ []) h h1 image f l)) v)

  pub copied_home : (h1 h2 : History) → IsFixedAs (copies (seen h.now) area.first to) h h1 → IsFixedAs (gate_update [] ∷ []) h1 h2 → IsCopiedHome area to h h2
  copied_home h1 h2 f q =
      let last : seen h2.now ≡ put (seen h1.now) (gate_update []) = seen_fixed (gate_update [] ∷ []) h1 h2 q in
      record {
        gated = record {
          rests = q.unsynced;
          gate_is = ap (λ (image : Image). image 1) last ∙ put_same (seen h1.now) (gate_update []) 1 refl;
        };
        cost = omega (arith, f.cost, q.cost, length-copies (seen h.now) area.first to);
        same = λ n k. sym (
            ap (λ (image : Image). image n) last ∙ put_other (seen h1.now) (gate_update []) n (λ e. kept_not_1 area.end n k (sym e))
            ∙ ap (λ (image : Image). image n) (seen_fixed (copies (seen h.now) area.first to) h h1 f)
            ∙ homes_done area is to (seen h.now) few fit gated.gate_is n);
      }

-- the gate's phase, if the bytes written are a gate's
pub AddsUpdates-gate : (bytes : List ℕ) (to : List ℕ) (h h1 : History) → bytes ≡ gate to
    → (let u : Update = record { target = 1; content = bytes } in AddsUpdates (u ∷ []) h h1) → AddsUpdates (gate_update to ∷ []) h h1
AddsUpdates-gate bytes to h h1 e w =
    let P : List ℕ → Type 0 = λ b. let u : Update = record { target = 1; content = b } in AddsUpdates (u ∷ []) h h1 in subst P e w

pub IsFixedAs-gate : (bytes : List ℕ) (to : List ℕ) (h h1 : History) → bytes ≡ gate to
    → (let u : Update = record { target = 1; content = bytes } in IsFixedAs (u ∷ []) h h1) → IsFixedAs (gate_update to ∷ []) h h1
IsFixedAs-gate bytes to h h1 e w =
    let P : List ℕ → Type 0 = λ b. let u : Update = record { target = 1; content = b } in IsFixedAs (u ∷ []) h h1 in subst P e w

-- the homes' phase, if the contents are the payload's
pub AddsUpdates-at : (xs ys : List Update) (h h1 : History) → xs ≡ ys → AddsUpdates xs h h1 → AddsUpdates ys h h1
AddsUpdates-at xs ys h h1 e w = let P : List Update → Type 0 = λ us. AddsUpdates us h h1 in subst P e w

pub IsFixedAs-at : (xs ys : List Update) (h h1 : History) → xs ≡ ys → IsFixedAs xs h h1 → IsFixedAs ys h h1
IsFixedAs-at xs ys h h1 e w = let P : List Update → Type 0 = λ us. IsFixedAs us h h1 in subst P e w

-- the payload's phase, if what is named was counted
pub payload_moments_at : (area : LogArea) (behind count : ℕ) (us : List Update) (h h1 : History) → behind ≡ count → AddsUpdates (placed (area.first + behind) us) h h1
    → AddsUpdates (placed (area.first + count) us) h h1
payload_moments_at area behind count us h h1 e w = let P : ℕ → Type 0 = λ n. AddsUpdates (placed (area.first + n) us) h h1 in subst P e w

pub payload_fixed_at : (area : LogArea) (behind count : ℕ) (us : List Update) (h h1 : History) → behind ≡ count → IsFixedAs (placed (area.first + behind) us) h h1
    → IsFixedAs (placed (area.first + count) us) h h1
payload_fixed_at area behind count us h h1 e w = let P : ℕ → Type 0 = λ n. IsFixedAs (placed (area.first + n) us) h h1 in subst P e w

-- what the gate names then
pub IsRecorded-at : (area : LogArea) (us : List Update) (was shown now : List ℕ) (h h1 : History) → now ≡ shown
    → IsRecorded area us was shown h h1 → IsRecorded area us was now h h1
IsRecorded-at area us was shown now h h1 e w = let P : List ℕ → Type 0 = λ ts. IsRecorded area us was ts h h1 in subst P (sym e) w

-- a way is made, and then a transaction is recorded
module _ (area : LogArea) (to : List ℕ) (us : List Update) (was shown : List ℕ) (h h1 : History) (keeps : KeepsShown area was h h1) (way : MakesWay area to was shown h h1) where
  pub base_moments : AddsEither area us (through area was (seen h.now)) h h1
  base_moments = AddsOnly-weaken (λ image. Settles area image (through area was (seen h.now))) (Either area us (through area was (seen h.now))) h h1 (λ image s. inl s) keeps

  pub committed_moments : (h2 : History) → AddsEither area us (through area shown (seen h1.now)) h1 h2 → AddsEither area us (through area was (seen h.now)) h h2
  committed_moments h2 w =
      let back : AreSame area.end (through area shown (seen h1.now)) (through area was (seen h.now)) = λ n k. sym (way.same n k) in
      AddsOnly-join (Either area us (through area was (seen h.now))) h h1 h2 base_moments
      (AddsOnly-weaken (Either area us (through area shown (seen h1.now))) (Either area us (through area was (seen h.now))) h1 h2
      (λ image e. ⊎_elim
      (λ (s : Settles area image (through area shown (seen h1.now))). inl (settles_same area image _ _ back s))
      (λ (s : Settles area image (applied us (through area shown (seen h1.now)))). inr (settles_same area image _ _ (applied_keeps area.end us _ _ back) s))
      e) w)

  pub committed : (h2 : History) (now : List ℕ) (stay : List Update) → to ≡ targets us → copies (seen h1.now) area.first shown ≡ stay
      → IsRecorded area us shown now h1 h2 → IsCommitted area us was now stay h h2
  committed h2 now stay named paid w =
      record {
        gated = w.gated;
        same = λ n k. applied_keeps area.end us _ _ way.same n k ∙ w.same n k;
        payload = w.payload ∙ ap (λ (vs : List Update). vs ++ us) paid;
        cost = omega (arith, w.cost, way.cost, ap (λ (ts : List ℕ). way_cost area was ts) named);
      }

-- what is recorded of a sector is what the base has there
pub recorded_at : (area : LogArea) → IsArea area → (to : List ℕ) (us : List Update) (h : History) (n : ℕ) → length to ≤ area.sectors → AreNamed area to → seen h.now 1 ≡ gate to
    → copies (seen h.now) area.first to ≡ us → applied us (seen h.now) n ≡ through area to (seen h.now) n
recorded_at area is to us h n few fit open_for payload =
    ap (λ (vs : List Update). applied vs (seen h.now) n) (sym payload) ∙ homes_done area is to (seen h.now) few fit open_for n

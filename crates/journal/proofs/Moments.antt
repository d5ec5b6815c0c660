-- Moments: what a phase's writes and its sync add to the images that a crash may leave.
use Rattle.std.proofs.Common.{◌≡◌, ◌≤◌, ◌⊎◌, ◌+◌, ℕ, List, [], ◌∷◌, ◌++◌, length, refl, sym, subst, inl, inr, ⊎_elim, arith}
use Rattle.std.proofs.lemmas.Bool.{cases_eq}
use Rattle.disk.specs.declared.update.Update.{Update}
use Rattle.disk.specs.Moments.{Image, Moment, History, SectorMayHold, Among, Left, LeftWithin, AddsOnly, moment, wrote, synced, seen, newest, applied}
use Rattle.disk.proofs.MomentLemmas.{AddsOnly-same, AddsOnly-weaken, AddsOnly-join}
use Rattle.journal.specs.Phase.{LeftWith}
use Rattle.journal.proofs.Images.{put_same, put_other, Between}

-- writes, the first of the list first
abbrev pub wrote_all : List Update → History → History
wrote_all [] h = h
wrote_all (u ∷ us) h = wrote_all us (wrote u h)

-- one more write
pub AddsOnly-wrote : (u : Update) (h : History) → AddsOnly (LeftWith (u ∷ []) h.now) h (wrote u h)
AddsOnly-wrote u h = record {
  later = omega arith;
  added = λ t image l left. ⊎_elim
      (λ (w : Left (wrote u h).now image). inr (λ n. ⊎_elim
      (λ (e : image n ≡ h.now.fixed n). inl (inl e))
      (λ (a : ((u.target ≡ n) × (u.content ≡ image n)) ⊎ Among h.now.unsynced n (image n)). ⊎_elim
      (λ (q : (u.target ≡ n) × (u.content ≡ image n)). inr (inl q))
      (λ (q : Among h.now.unsynced n (image n)). inl (inr q)) a)
      (w n)))
      (λ (w : ((t ≤ length h.past) × Left h.now image) ⊎ LeftWithin h.past t image). ⊎_elim
      (λ (q : (t ≤ length h.past) × Left h.now image). inl (inl q.1))
      (λ (q : LeftWithin h.past t image). inl (inr q)) w)
      left;
}

-- what a crash may leave with more updates
LeftWith-first : (u : Update) (us : List Update) (m : Moment) (image : Image) → LeftWith (u ∷ []) m image → LeftWith (u ∷ us) m image
LeftWith-first u us m image w n = ⊎_elim
    (λ (q : SectorMayHold m n (image n)). inl q)
    (λ (q : ((u.target ≡ n) × (u.content ≡ image n)) ⊎ ⊥). ⊎_elim
    (λ (e : (u.target ≡ n) × (u.content ≡ image n)). inr (inl e)) (λ (e : ⊥). absurd e) q)
    (w n)

LeftWith-rest : (u : Update) (us : List Update) (h : History) (image : Image) → LeftWith us (wrote u h).now image → LeftWith (u ∷ us) h.now image
LeftWith-rest u us h image w n = ⊎_elim
    (λ (q : SectorMayHold (wrote u h).now n (image n)). ⊎_elim
    (λ (e : image n ≡ h.now.fixed n). inl (inl e))
    (λ (a : ((u.target ≡ n) × (u.content ≡ image n)) ⊎ Among h.now.unsynced n (image n)). ⊎_elim
    (λ (e : (u.target ≡ n) × (u.content ≡ image n)). inr (inl e))
    (λ (e : Among h.now.unsynced n (image n)). inl (inr e)) a) q)
    (λ (q : Among us n (image n)). inr (inr q))
    (w n)

-- writes one after the other
pub AddsOnly-wrote_all : (us : List Update) (h : History) → AddsOnly (LeftWith us h.now) h (wrote_all us h)
AddsOnly-wrote_all [] h = AddsOnly-same (LeftWith [] h.now) h
AddsOnly-wrote_all (u ∷ us) h = AddsOnly-join (LeftWith (u ∷ us) h.now) h (wrote u h) (wrote_all us (wrote u h))
    (AddsOnly-weaken (LeftWith (u ∷ []) h.now) (LeftWith (u ∷ us) h.now) h (wrote u h) (LeftWith-first u us h.now) (AddsOnly-wrote u h))
    (AddsOnly-weaken (LeftWith us (wrote u h).now) (LeftWith (u ∷ us) h.now) (wrote u h) (wrote_all us (wrote u h)) (LeftWith-rest u us h) (AddsOnly-wrote_all us (wrote u h)))

-- what a read gives, a crash may leave
pub seen-may_hold : (us : List Update) (fixed : Image) (n : ℕ) → (newest us fixed n ≡ fixed n) ⊎ Among us n (newest us fixed n)
seen-may_hold [] fixed n = inl refl
seen-may_hold (u ∷ us) fixed n = ⊎_elim
    (λ (e : u.target ≡ n). inr (inl (e, sym (put_same (newest us fixed) u n e))))
    (λ (e : u.target ≡ n → ⊥).
    let q = put_other (newest us fixed) u n e in
    let P : List ℕ → Type 0 = λ content. (content ≡ fixed n) ⊎ Among (u ∷ us) n content in
    subst P (sym q) (⊎_elim
    (λ (w : newest us fixed n ≡ fixed n). inl w)
    (λ (w : Among us n (newest us fixed n)). inr (inr w))
    (seen-may_hold us fixed n)))
    (cases_eq u.target n)

-- a sync adds no image
pub AddsOnly-synced : (P : Image → Type 0) (h : History) → AddsOnly P h (synced h)
AddsOnly-synced P h = record {
  later = omega arith;
  added = λ t image l left. inl (⊎_elim
      (λ (w : Left (synced h).now image). inl (λ n. ⊎_elim
      (λ (e : image n ≡ seen h.now n).
      let Q : List ℕ → Type 0 = λ content. SectorMayHold h.now n content in
      subst Q (sym e) (seen-may_hold h.now.unsynced h.now.fixed n))
      (λ (e : ⊥). absurd e) (w n)))
      (λ (w : ((t ≤ length h.past) × Left h.now image) ⊎ LeftWithin h.past t image). ⊎_elim
      (λ (q : (t ≤ length h.past) × Left h.now image). inl q.1)
      (λ (q : LeftWithin h.past t image). inr q) w)
      left);
}

pub seen-wrote_all : (us : List Update) (h : History) → seen (wrote_all us h).now ≡ applied us (seen h.now)
seen-wrote_all [] h = refl
seen-wrote_all (u ∷ us) h = seen-wrote_all us (wrote u h)

pub moment-wrote_all : (us : List Update) (h : History) → moment (wrote_all us h) ≡ moment h + length us
moment-wrote_all [] h = omega arith
moment-wrote_all (u ∷ us) h = omega (arith, moment-wrote_all us (wrote u h))

pub wrote_all-push : (us : List Update) (u : Update) (h : History) → wrote_all (us ++ u ∷ []) h ≡ wrote u (wrote_all us h)
wrote_all-push [] u h = refl
wrote_all-push (v ∷ us) u h = wrote_all-push us u (wrote v h)

-- if all was fixed before, a phase leaves images between the old one and the new one
pub between_of : (us : List Update) (m : Moment) (image : Image) → m.unsynced ≡ [] → LeftWith us m image → Between (seen m) us image
between_of us m image e w n =
    let P : List Update → Type 0 = λ unsynced. (image n ≡ newest unsynced m.fixed n) ⊎ Among us n (image n) in
    subst P (sym e) (⊎_elim
    (λ (q : SectorMayHold m n (image n)). ⊎_elim
    (λ (r : image n ≡ m.fixed n). inl r)
    (λ (r : Among m.unsynced n (image n)).
    let Q : List Update → Type 0 = λ unsynced. Among unsynced n (image n) in
    absurd (subst Q e r)) q)
    (λ (q : Among us n (image n)). inr q)
    (w n))

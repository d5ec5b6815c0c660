-- Phases: how one ends, and what a failure within it leaves.
use Rattle.std.proofs.Common.{◌≡◌, ◌≤◌, ◌<◌, ◌⊎◌, ◌+◌, ℕ, suc, zero, List, [], ◌∷◌, ◌++◌, length, get_or, take, drop, refl, sym, ap, ◌∙◌, subst, inl, inr, ⊎_elim, arith}
use Rattle.std.proofs.lemmas.List.{take_more, take-append-drop}
use Rattle.disk.specs.declared.update.Update.{Update}
use Rattle.disk.specs.Moments.{Image, History, SectorMayHold, Among, AddsOnly, moment, wrote, synced, seen}
use Rattle.disk.proofs.MomentLemmas.{AddsOnly-weaken, AddsOnly-join}
use Rattle.journal.specs.Layout.{placed, copies}
use Rattle.journal.specs.Phase.{LeftWith, AddsAtMost, AddsUpdates, IsFixedAs}
use Rattle.journal.proofs.Moments.{wrote_all, AddsOnly-wrote_all, AddsOnly-synced, seen-wrote_all, moment-wrote_all, wrote_all-push}

Among-prefix : (a b : List Update) (n : ℕ) (content : List ℕ) → Among a n content → Among (a ++ b) n content
Among-prefix [] b n content w = absurd w
Among-prefix (u ∷ a) b n content w = ⊎_elim
    (λ (q : (u.target ≡ n) × (u.content ≡ content)). inl q)
    (λ (q : Among a n content). inr (Among-prefix a b n content q)) w

-- the first i of a phase's writes
pub prefix_moments : (all : List Update) (i : ℕ) (h h1 : History) → h1 ≡ wrote_all (take i all) h → AddsUpdates all h h1
prefix_moments all i h h1 e =
    let P : History → Type 0 = λ k. AddsOnly (LeftWith all h.now) h k in
    let prefix : List Update = take i all in
    let back : List Update = drop i all in
    let widen : (image : Image) → LeftWith prefix h.now image → LeftWith all h.now image = λ image w n. ⊎_elim
    (λ (q : SectorMayHold h.now n (image n)). inl q)
    (λ (q : Among prefix n (image n)).
    let Q : List Update → Type 0 = λ us. Among us n (image n) in
    inr (subst Q (take-append-drop i all) (Among-prefix prefix back n (image n) q)))
    (w n) in
    subst P (sym e) (AddsOnly-weaken (LeftWith prefix h.now) (LeftWith all h.now) h (wrote_all prefix h) widen (AddsOnly-wrote_all prefix h))

-- one more write
pub wrote_more : (all : List Update) (i : ℕ) (u : Update) (h h1 h2 : History) → i < length all → get_or all i u ≡ u
    → h1 ≡ wrote_all (take i all) h → h2 ≡ wrote u h1 → h2 ≡ wrote_all (take (i + 1) all) h
wrote_more all i u h h1 h2 l at e q =
    let more : take (i + 1) all ≡ take i all ++ u ∷ [] = take_more all i u l ∙ ap (λ v. take i all ++ v ∷ []) at in
    q ∙ ap (wrote u) e ∙ sym (wrote_all-push (take i all) u h) ∙ ap (λ us. wrote_all us h) (sym more)

pub write_failed : (all : List Update) (i : ℕ) (u : Update) (h h1 h2 : History) → i < length all → get_or all i u ≡ u
    → h1 ≡ wrote_all (take i all) h → (h2 ≡ h1) ⊎ (h2 ≡ wrote u h1) → AddsUpdates all h h2
write_failed all i u h h1 h2 l at e q = ⊎_elim
    (λ (s : h2 ≡ h1). prefix_moments all i h h2 (s ∙ e))
    (λ (s : h2 ≡ wrote u h1). prefix_moments all (i + 1) h h2 (wrote_more all i u h h1 h2 l at e s)) q

pub left_alone : (all : List Update) (i : ℕ) (h h1 h2 : History) → h1 ≡ wrote_all (take i all) h → h2 ≡ h1 → AddsUpdates all h h2
left_alone all i h h1 h2 e q = prefix_moments all i h h2 (q ∙ e)

pub take_past : (i : ℕ) (all : List Update) → length all ≤ i → take i all ≡ all
take_past zero [] l = refl
take_past zero (u ∷ all) l = absurd (omega arith)
take_past (suc i) [] l = refl
take_past (suc i) (u ∷ all) l = ap (λ us. u ∷ us) (take_past i all (omega arith))

pub synced_moments : (all : List Update) (i : ℕ) (h h1 h2 : History) → h1 ≡ wrote_all (take i all) h → h2 ≡ synced h1 → AddsUpdates all h h2
synced_moments all i h h1 h2 e q =
    let P : History → Type 0 = λ k. AddsOnly (LeftWith all h.now) h k in
    subst P (sym q) (AddsOnly-join (LeftWith all h.now) h h1 (synced h1) (prefix_moments all i h h1 e) (AddsOnly-synced (LeftWith all h.now) h1))

pub synced_fixes : (all : List Update) (i : ℕ) (h h1 h2 : History) → length all ≤ i → h1 ≡ wrote_all (take i all) h → h2 ≡ synced h1
    → IsFixedAs all h h2
synced_fixes all i h h1 h2 l e q =
    let whole : h1 ≡ wrote_all all h = e ∙ ap (λ us. wrote_all us h) (take_past i all l) in
    record {
      fixed = ap (λ (k : History). k.now.fixed) q ∙ ap (λ (k : History). seen k.now) whole ∙ seen-wrote_all all h;
      unsynced = ap (λ (k : History). k.now.unsynced) q;
      cost = omega (arith, ap (λ (k : History). moment k) q, ap (λ (k : History). moment k) whole, moment-wrote_all all h);
    }

take_few : (i : ℕ) (all : List Update) → length (take i all) ≤ length all
take_few zero all = omega arith
take_few (suc i) [] = omega arith
take_few (suc i) (u ∷ all) = omega (arith, take_few i all)

-- the first i of a phase's writes add at most as many moments as the phase has writes
prefix_brief : (all : List Update) (i : ℕ) (h h1 : History) → h1 ≡ wrote_all (take i all) h → AddsAtMost (length all) h h1
prefix_brief all i h h1 e = omega (arith, ap (λ (k : History). moment k) e, moment-wrote_all (take i all) h, take_few i all)

module _ (all : List Update) (i count : ℕ) (h h1 h2 : History) (many : length all ≡ count) (e : h1 ≡ wrote_all (take i all) h) where
  pub alone_brief : h2 ≡ h1 → AddsAtMost (count + 1) h h2
  alone_brief q = omega (arith, prefix_brief all i h h1 e, ap (λ (k : History). moment k) q, many)

  pub synced_brief : h2 ≡ synced h1 → AddsAtMost (count + 1) h h2
  synced_brief q = omega (arith, prefix_brief all i h h1 e, ap (λ (k : History). moment k) q, many)

  pub failed_brief : (u : Update) → (h2 ≡ h1) ⊎ (h2 ≡ wrote u h1) → AddsAtMost (count + 1) h h2
  failed_brief u q = ⊎_elim
      (λ (s : h2 ≡ h1). alone_brief s)
      (λ (s : h2 ≡ wrote u h1). omega (arith, prefix_brief all i h h1 e, ap (λ (k : History). moment k) s, many)) q

pub length-placed : (place : ℕ) (us : List Update) → length (placed place us) ≡ length us
length-placed place [] = refl
length-placed place (u ∷ us) = ap suc (length-placed (place + 1) us)

pub get_or-placed : (place : ℕ) (us : List Update) (i : ℕ) (d u : Update) → i < length us
    → get_or (placed place us) i d ≡ record { target = place + i; content = (get_or us i u).content }
get_or-placed place [] i d u l = absurd (omega arith)
get_or-placed place (v ∷ us) zero d u l =
    ap (λ (t : ℕ). let r : Update = record { target = t; content = v.content } in r) (omega arith)
get_or-placed place (v ∷ us) (suc i) d u l =
    get_or-placed (place + 1) us i d u (omega arith)
    ∙ ap (λ (t : ℕ). let r : Update = record { target = t; content = (get_or us i u).content } in r) (omega arith)

pub length-copies : (image : Image) (place : ℕ) (to : List ℕ) → length (copies image place to) ≡ length to
length-copies image place [] = refl
length-copies image place (t ∷ ts) = ap suc (length-copies image (place + 1) ts)

pub get_or-copies : (image : Image) (place : ℕ) (to : List ℕ) (i : ℕ) (d : Update) → i < length to
    → get_or (copies image place to) i d ≡ record { target = get_or to i 0; content = image (place + i) }
get_or-copies image place [] i d l = absurd (omega arith)
get_or-copies image place (t ∷ ts) zero d l =
    ap (λ (p : ℕ). let r : Update = record { target = t; content = image p } in r) (omega arith)
get_or-copies image place (t ∷ ts) (suc i) d l =
    get_or-copies image (place + 1) ts i d (omega arith)
    ∙ ap (λ (p : ℕ). let r : Update = record { target = get_or ts i 0; content = image p } in r) (omega arith)

-- what is read at an index past a list's end
abbrev pub no_update : Update
no_update = record { target = 0; content = [] }

-- the payload's write at an index
pub payload_at : (place : ℕ) (us : List Update) (i : ℕ) → i < length us
    → (let u : Update = record { target = place + i; content = (get_or us i no_update).content } in get_or (placed place us) i u ≡ u)
payload_at place us i l =
    let u : Update = record { target = place + i; content = (get_or us i no_update).content } in
    get_or-placed place us i u no_update l

-- one more sector of the payload was read
pub copied_more : (place : ℕ) (image : Image) (to : List ℕ) (i : ℕ) (us next : List Update) (content : List ℕ) → i < length to → us ≡ take i (copies image place to)
    → content ≡ image (place + i) → (let u : Update = record { target = get_or to i 0; content = content } in next ≡ us ++ u ∷ [])
    → next ≡ take (i + 1) (copies image place to)
copied_more place image to i us next content l e read more =
    let u : Update = record { target = get_or to i 0; content = content } in
    let all : List Update = copies image place to in
    let at : get_or all i u ≡ u =
    get_or-copies image place to i u l
    ∙ ap (λ (bytes : List ℕ). let r : Update = record { target = get_or to i 0; content = bytes } in r) (sym read) in
    more ∙ ap (λ (vs : List Update). vs ++ u ∷ []) e
    ∙ sym (take_more all i u (omega (arith, length-copies image place to)) ∙ ap (λ (v : Update). take i all ++ v ∷ []) at)

pub copied_whole : (place : ℕ) (image : Image) (to : List ℕ) (i : ℕ) (us : List Update) → length to ≤ i → us ≡ take i (copies image place to) → copies image place to ≡ us
copied_whole place image to i us l e = sym (e ∙ take_past i (copies image place to) (omega (arith, length-copies image place to)))

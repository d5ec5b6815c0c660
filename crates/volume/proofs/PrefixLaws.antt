-- A journal that holds changes which are not flushed: what a crash may leave within a call.
use Rattle.std.proofs.Common.{◌≡◌, ◌≤◌, ◌<◌, ◌+◌, ◌⊎◌, ℕ, zero, suc, List, [], ◌∷◌, ◌++◌, length, take, refl, sym, ap, ◌∙◌, subst, inl, inr, ⊎_elim, arith}
use Rattle.std.proofs.lemmas.Bool.{cases_lt}
use Rattle.std.proofs.lemmas.List.{take-append-le, length-append}
use Rattle.std.proofs.Math.Seq.{take-length}
use Rattle.std.proofs.Math.Logic.{∥∥₁_map}
use Rattle.std.specs.List.{IsAmong}
use Rattle.std.specs.Prelude.{get_or}
use Rattle.disk.specs.declared.update.Update.{Update}
use Rattle.disk.specs.Moments.{Image, History, AddsOnly, applied}
use Rattle.disk.proofs.MomentLemmas.{AddsOnly-weaken}
use Rattle.journal.specs.Log.{Log, StandsForPrefix, applied_all}
use Rattle.journal.specs.Settled.{Settles}
use Rattle.journal.proofs.Prefixes.{applied_all-push}
use Rattle.layout.specs.Stands.{Kept, StandsNow, log_by}
use Rattle.volume.specs.Prefixes.{StandsUpdated}
use Rattle.volume.specs.VolumeState.{VolumeState, StandsForOne, IsRecent, MayAdd, AddsKept, prefixes_from}
use Rattle.volume.specs.Stands.{IsBase}
use Rattle.volume.proofs.StandLaws.{now_base, placed_on, settles_placed}

pub among_rest : {A : Type 0} (first : A) (rest : List A) (one : A) → IsAmong rest one → IsAmong (first ∷ rest) one
among_rest first rest one among = (suc among.0, (omega (arith, among.1.0), among.1.1))

pub among_more : {A : Type 0} (first : A) (rest : List A) (one : A) → IsAmong (first ∷ rest) one → (one ≡ first) ⊎ IsAmong rest one
among_more {A = A} first rest one among = by_place among.0 among.1.0 among.1.1
  where
    by_place : (place : ℕ) → place < length (first ∷ rest) → one ≡ get_or (first ∷ rest) place one → (one ≡ first) ⊎ IsAmong rest one
    by_place zero less e = inl e
    by_place (suc place) less e = inr (place, (omega (arith, less), e))

-- the base with a prefix of the list applied is among the prefixes
pub prefix_among : (base : Image) (list : List (List Update)) (count : ℕ) → count ≤ length list → IsAmong (prefixes_from base list) (applied_all (take count list) base)
prefix_among base [] zero few = (0, (omega arith, refl))
prefix_among base [] (suc count) few = absurd (omega (arith, few))
prefix_among base (updates ∷ list) zero few = (0, (omega arith, refl))
prefix_among base (updates ∷ list) (suc count) few =
    among_rest base (prefixes_from (applied updates base) list) _ (prefix_among (applied updates base) list count (omega (arith, few)))

-- with one more transaction there is one more prefix
pub prefix_more : (base : Image) (list : List (List Update)) (updates : List Update) (prefix : Image) → IsAmong (prefixes_from base (list ++ updates ∷ [])) prefix
    → IsAmong (prefixes_from base list) prefix ⊎ (prefix ≡ applied updates (applied_all list base))
prefix_more base [] updates prefix among = ⊎_elim
    (λ (first : prefix ≡ base). inl (0, (omega arith, first)))
    (λ (rest : IsAmong (applied updates base ∷ []) prefix). ⊎_elim
    (λ (is : prefix ≡ applied updates base). inr is)
    (λ (never : IsAmong [] prefix). absurd (omega (arith, never.1.0)))
    (among_more (applied updates base) [] prefix rest))
    (among_more base (applied updates base ∷ []) prefix among)
prefix_more base (first ∷ list) updates prefix among = ⊎_elim
    (λ (is : prefix ≡ base). inl (0, (omega arith, is)))
    (λ (rest : IsAmong (prefixes_from (applied first base) (list ++ updates ∷ [])) prefix). ⊎_elim
    (λ (old : IsAmong (prefixes_from (applied first base) list) prefix). inl (among_rest base _ prefix old))
    (λ (new : prefix ≡ applied updates (applied_all list (applied first base))). inr new)
    (prefix_more (applied first base) list updates prefix rest))
    (among_more base (prefixes_from (applied first base) (list ++ updates ∷ [])) prefix among)

module _ (held : VolumeState) (log : Log) (size : held.sectors ≡ log.size) (history : held.history ≡ log.history) (prefixes : held.prefixes ≡ prefixes_from log.base log.list)
    (updates : List Update) where
  module _ (after : Kept) (behind : StandsUpdated held log updates after) (placed : log.area ≡ log_by held.version log.size) where
    -- what the journal settles to is the base
    settled_base : (image settled : Image) (kept : Kept) → Settles log.area image settled → StandsNow held.version held.sectors held.limits.nodes settled held.run kept
        → IsBase held.sectors held.limits.nodes held.run kept image
    settled_base image settled kept settles now = now_base held.version held.sectors held.limits.nodes held.run image settled kept
        (settles_placed held.version log.area held.sectors image settled (placed_on held.version log.area log.area held.sectors log.size refl size placed) settles) now

    one_prefix : (recent : List Kept) → IsRecent held recent → (image : Image) → StandsForPrefix log.area log.base (log.list ++ updates ∷ []) image → StandsForOne held (MayAdd recent after) image
    one_prefix recent is image prefix = elim (cases_lt (length log.list) prefix.count) [
      | inl last ↦
          let many : length (log.list ++ updates ∷ []) ≡ length log.list + 1 = length-append log.list (updates ∷ []) in
          let all : prefix.count ≡ length (log.list ++ updates ∷ []) = omega (arith, last, many, prefix.within) in
          let whole : take prefix.count (log.list ++ updates ∷ []) ≡ log.list ++ updates ∷ [] = ap (λ (n : ℕ). take n (log.list ++ updates ∷ [])) all ∙ take-length (log.list ++ updates ∷ []) in
          let base : applied_all (take prefix.count (log.list ++ updates ∷ [])) log.base ≡ applied updates (applied_all log.list log.base)
          = ap (λ (l : List (List Update)). applied_all l log.base) whole ∙ applied_all-push log.list updates log.base in (
            after,
            inr refl,
            ∥∥₁_map behind (settled_base image (applied updates (applied_all log.list log.base)) after (subst (λ (i : Image). Settles log.area image i) base prefix.settles)),
          )
      | inr earlier ↦
          let same : take prefix.count (log.list ++ updates ∷ []) ≡ take prefix.count log.list = take-append-le prefix.count log.list (updates ∷ []) earlier in
          let covered = is.covers (applied_all (take prefix.count log.list) log.base)
          (subst (λ (l : List Image). IsAmong l (applied_all (take prefix.count log.list) log.base)) (sym prefixes) (prefix_among log.base log.list prefix.count earlier)) in (
            covered.0,
            inl covered.1,
            ∥∥₁_map covered.2 (settled_base image (applied_all (take prefix.count log.list) log.base) covered.0
                (subst (λ (i : Image). Settles log.area image i) (ap (λ (l : List (List Update)). applied_all l log.base) same) prefix.settles)),
          )
    ]

    -- a flush of the whole list and one more: what `durable::keep` adds is what the file system says
    pub keeps_prefixes : (new : History) → AddsOnly (StandsForPrefix log.area log.base (log.list ++ updates ∷ [])) log.history new → AddsKept held after new
    keeps_prefixes new adds recent is =
        subst (λ (h : History). AddsOnly (StandsForOne held (MayAdd recent after)) h new) (sym history)
        (AddsOnly-weaken (StandsForPrefix log.area log.base (log.list ++ updates ∷ [])) (StandsForOne held (MayAdd recent after)) log.history new (one_prefix recent is) adds)

  -- a change that is not flushed: what a crash may leave from now on, and the device is as it was
  pub applied_recent : (after : Kept) → StandsUpdated held log updates after
      → (recent : List Kept) → IsRecent held recent
      → IsRecent (record held { tree = after.tree; seats = after.seats; prefixes = prefixes_from log.base (log.list ++ updates ∷ []) }) (after ∷ recent)
  applied_recent after behind recent is = record {
    leaves = λ image left. (let one = is.leaves image left in (one.0, among_rest after recent one.0 one.1, one.2));
    covers = λ prefix among. elim (prefix_more log.base log.list updates prefix among) [
      | inl old ↦
          let one = is.covers prefix (subst (λ (l : List Image). IsAmong l prefix) (sym prefixes) old) in
          (one.0, among_rest after recent one.0 one.1, one.2)
      | inr new ↦
          (after, (0, (omega arith, refl)), subst (λ (i : Image). ∥ StandsNow held.version held.sectors held.limits.nodes i held.run after ∥₁) (sym new) behind)
    ];
    newest = (0, (omega arith, refl));
  }

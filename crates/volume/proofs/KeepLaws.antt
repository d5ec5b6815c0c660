-- A change, and a flush after it.
use Rattle.std.proofs.Common.{◌≡◌, ◌≤◌, ◌⊎◌, ◌↔◌, ◌+◌, ◌*◌, ℕ, Bool, true, false, List, inl, inr, ⊎_elim, refl, sym, ap, ap₂, ◌∙◌, subst, arith, true≢false}
use Rattle.std.proofs.lemmas.Bool.{cases_lt}
use Rattle.std.specs.List.{IsAmong}
use Rattle.std.specs.Prelude.{Result, Ok, Err, IfErr, IsErrOf}
use Rattle.disk.specs.Cause.{IsCounted}
use Rattle.disk.specs.Moments.{Image, moment}
use Rattle.tree_edits.specs.Outlines.{without_data}
use Rattle.disk.proofs.MomentLemmas.{AddsOnly-join, AddsOnly-same, AddsOnly-weaken}
use Rattle.layout.specs.Stands.{Kept}
use Rattle.layout.proofs.KeptLaws.{same_kept}
use Rattle.volume.specs.Changes.{Given, Ending, Done, Nothing, Broken, IsTree, VolumeChanges, ending_of}
use Rattle.volume.specs.Formed.{ShowsTree}
use Rattle.volume.specs.VolumeState.{VolumeState, IsSameVolume, StandsForOne, MakesAtMost, MayAdd, AddsKept, call_cost, flush_cost, kept_of}
use Rattle.volume.specs.Alike.{ShowsAs}
use Rattle.volume.specs.Stands.{StandsFor}
use Rattle.volume.specs.declared.fault.VolumeFault.{VolumeFault}
use Rattle.volume.specs.declared.fault.VolumeFault.TheVariants as faults

-- a failure that is counted after a while
pub counted_later : (before between after : ℕ) → before ≤ between → IsCounted between after → IsCounted before after
counted_later before between after later counted = elim counted [
  | inl grew ↦ inl (omega (arith, later, grew))
  | inr full ↦ elim (cases_lt before between) [
    | inl less ↦ inl (omega (arith, less, full.0, full.1))
    | inr same ↦ inr (omega (arith, later, same, full.0), omega (arith, later, same, full.1))
  ]
]

-- two parts of a call, of at most as many writes and syncs each
pub few_with_flush : (cost first middle last : ℕ) → middle ≤ first + cost → last ≤ middle + cost → last ≤ first + 2 * cost
few_with_flush cost first middle last few then_few = omega (arith, few, then_few)

module _ (keeps_word : Type 0) (was between now : VolumeState) (after : Kept)
    (first middle last : ℕ)
    (change : VolumeChanges keeps_word (λ kept lasts. (kept ≡ after) × (lasts ≡ false)) was between first middle Done)
    (shown : ShowsTree keeps_word after.tree between.tree)
    (few : keeps_word → MakesAtMost (flush_cost was.version was.sectors) was between) (then_few : keeps_word → MakesAtMost (flush_cost between.version between.sectors) between now) where
  abbrev Flushes : Ending → Type 0
  Flushes ending = VolumeChanges keeps_word (IsTree between between.tree) between now middle last ending

  -- what is kept after the call, and has to last
  abbrev Keeps : Given
  Keeps kept lasts = kept ≡ after

  -- what represents something that may be kept in between represents what may be kept of the volume
  -- before
  one_before : (recent left : List Kept) → ((one : Kept) → IsAmong left one → IsAmong recent one ⊎ (one ≡ after)) → kept_of between ≡ after
      → (image : Image) → StandsForOne between (MayAdd left (kept_of between)) image → StandsForOne was (MayAdd recent after) image
  one_before recent left no_others same image one =
      let volume = change.same in (
        one.0,
        ⊎_elim
            (λ (among : IsAmong left one.0). no_others one.0 among)
            (λ (newest : one.0 ≡ kept_of between). inr (newest ∙ same))
            one.1,
        subst (λ (sectors : ℕ). StandsFor sectors was.limits.nodes was.run one.0 image) volume.sectors
            (subst (λ (nodes : ℕ). StandsFor between.sectors nodes was.run one.0 image) (ap (λ limits. limits.nodes) volume.limits)
            (subst (λ (run : ℕ). StandsFor between.sectors between.limits.nodes run one.0 image) volume.run one.2)),
      )

  kept_between : keeps_word → kept_of between ≡ after
  kept_between k = same_kept (kept_of between) after (shown.tree_is k) (change.ends.seats k after false (refl, refl))

  moments : (ending : Ending) → Flushes ending → keeps_word → (kept : Kept) (lasts : Bool) → Keeps kept lasts → AddsKept was kept now.history
  moments ending flush k kept lasts is = subst (λ (of : Kept). AddsKept was of now.history) (sym is) (λ recent ready.
      let there = change.ends.leaves k after false (refl, refl) recent ready in
      AddsOnly-join (StandsForOne was (MayAdd recent after)) was.history between.history now.history
      (change.moments k after false (refl, refl) recent ready)
      (AddsOnly-weaken (StandsForOne between (MayAdd there.0 (kept_of between))) (StandsForOne was (MayAdd recent after)) between.history now.history
      (one_before recent there.0 there.1.no_others (kept_between k))
      (flush.moments k (kept_of between) lasts refl there.0 there.1.ready)))

  -- it costs the same in between
  same_cost : flush_cost between.version between.sectors ≡ flush_cost was.version was.sectors
  same_cost = ap₂ flush_cost change.same.version change.same.sectors

  brief : keeps_word → MakesAtMost (call_cost was) was now
  brief k = few_with_flush (flush_cost was.version was.sectors) (moment was.history) (moment between.history) (moment now.history) (few k)
      (subst (λ (cost : ℕ). moment now.history ≤ moment between.history + cost) same_cost (then_few k))

  same_volume : (ending : Ending) → Flushes ending → IsSameVolume was now
  same_volume ending flush = record {
    version = flush.same.version ∙ change.same.version;
    sectors = flush.same.sectors ∙ change.same.sectors;
    limits = flush.same.limits ∙ change.same.limits;
    run = flush.same.run ∙ change.same.run;
  }

  pub keep_done : Flushes Done → VolumeChanges keeps_word Keeps was now first last Done
  keep_done flush = record {
    same = same_volume Done flush;
    later = omega (arith, change.later, flush.later);
    none = λ other. flush.none other ∙ change.none other;
    moments = moments Done flush;
    brief = brief;
    ends = record {
      still_up = flush.ends.still_up;
      seats = λ k after_it lasts is.
          flush.ends.seats k (kept_of between) lasts refl ∙ ap (λ (of : Kept). of.seats) (kept_between k ∙ sym is);
      leaves = λ k after_it lasts is recent ready.
          let there = change.ends.leaves k after false (refl, refl) recent ready in
          let kept = flush.ends.leaves k (kept_of between) lasts refl there.0 there.1.ready in
          let same : kept_of between ≡ after_it = kept_between k ∙ sym is in (
            kept.0,
            record {
              ready = kept.1.ready;
              no_others = λ one among. ⊎_elim
                  (λ (stood : IsAmong there.0 one). ⊎_elim
                  (λ (was_there : IsAmong recent one). inl was_there)
                  (λ (newest : one ≡ after). inr (newest ∙ sym is))
                  (there.1.no_others one stood))
                  (λ (newest : one ≡ kept_of between). inr (newest ∙ same))
                  (kept.1.no_others one among);
              durable = λ durable one among. kept.1.durable durable one among ∙ same;
            },
          );
    };
  }

  -- a flush shows what was shown before it
  shows_between : ShowsAs between.tree now.tree ⊎ ((kept : Kept) (lasts : Bool) → kept ≡ kept_of between → ShowsAs kept.tree now.tree) → ShowsAs between.tree now.tree
  shows_between either = ⊎_elim
      (λ (same : ShowsAs between.tree now.tree). same)
      (λ (each : (kept : Kept) (lasts : Bool) → kept ≡ kept_of between → ShowsAs kept.tree now.tree). each (kept_of between) false refl)
      either

  pub keep_broken : Flushes Broken → VolumeChanges keeps_word Keeps was now first last Broken
  keep_broken flush = record {
    same = same_volume Broken flush;
    later = omega (arith, change.later, flush.later);
    none = λ other. absurd (other refl);
    moments = moments Broken flush;
    brief = brief;
    ends = record {
      down = flush.ends.down;
      cause = counted_later first middle last change.later flush.ends.cause;
      shows = inr (λ kept lasts is. shows_between flush.ends.shows ∙ shown.outline ∙ ap without_data (sym (ap (λ (of : Kept). of.tree) is)));
    };
  }

  -- if the change succeeded, a flush is refused only because of the device
  pub keep_flushed : (result : Result (Unit {0}) VolumeFault) → Flushes (ending_of result) → (IsErrOf result faults.Down ↔ (between.is_down ≡ true))
      → IfErr result (λ fault. (fault ≡ faults.Device) ⊎ (fault ≡ faults.Down)) → VolumeChanges keeps_word Keeps was now first last (ending_of result)
  keep_flushed (Ok done) flush down refuses = keep_done flush
  keep_flushed (Err faults.Device) flush down refuses = keep_broken flush
  keep_flushed (Err faults.Down) flush down refuses = absurd (true≢false (sym (down.0 refl) ∙ change.ends.still_up))
  keep_flushed (Err faults.NoSpace) flush down refuses = absurd (⊎_elim (λ (is : faults.NoSpace ≡ faults.Device). cc) (λ (is : faults.NoSpace ≡ faults.Down). cc) refuses)
  keep_flushed (Err faults.Memory) flush down refuses = absurd (⊎_elim (λ (is : faults.Memory ≡ faults.Device). cc) (λ (is : faults.Memory ≡ faults.Down). cc) refuses)

-- if the change did not succeed, what holds of a change that may be lost also holds of one that is
-- kept
pub unchanged : (keeps_word : Type 0) (was now : VolumeState) (after : Kept) (first last : ℕ) (ending : Ending) → (ending ≡ Done → ⊥)
    → VolumeChanges keeps_word (λ kept lasts. (kept ≡ after) × (lasts ≡ false)) was now first last ending
    → VolumeChanges keeps_word (λ kept lasts. kept ≡ after) was now first last ending
unchanged keeps_word was now after first last Done never change = absurd (never refl)
unchanged keeps_word was now after first last Nothing never change = record {
  same = change.same;
  later = change.later;
  none = change.none;
  moments = λ k kept lasts is. change.moments k kept false (is, refl);
  brief = change.brief;
  ends = change.ends;
}
unchanged keeps_word was now after first last Broken never change = record {
  same = change.same;
  later = change.later;
  none = change.none;
  moments = λ k kept lasts is. change.moments k kept false (is, refl);
  brief = change.brief;
  ends = record {
    down = change.ends.down;
    cause = change.ends.cause;
    shows = ⊎_elim
        (λ (same : ShowsAs was.tree now.tree). inl same)
        (λ (each : (kept : Kept) (lasts : Bool) → (kept ≡ after) × (lasts ≡ false) → ShowsAs kept.tree now.tree). inr (λ kept lasts is. each kept false (is, refl)))
        change.ends.shows;
  };
}

-- which is so if it was refused
pub refused_unchanged : (keeps_word : Type 0) (was now : VolumeState) (after : Kept) (first last : ℕ) (fault : VolumeFault)
    → VolumeChanges keeps_word (λ kept lasts. (kept ≡ after) × (lasts ≡ false)) was now first last (ending_of {T = Unit {0}} (Err fault))
    → VolumeChanges keeps_word (λ kept lasts. kept ≡ after) was now first last (ending_of {T = Unit {0}} (Err fault))
refused_unchanged keeps_word was now after first last faults.NoSpace change = unchanged keeps_word was now after first last Nothing (λ done. cc) change
refused_unchanged keeps_word was now after first last faults.Memory change = unchanged keeps_word was now after first last Nothing (λ done. cc) change
refused_unchanged keeps_word was now after first last faults.Device change = unchanged keeps_word was now after first last Broken (λ done. cc) change
refused_unchanged keeps_word was now after first last faults.Down change = unchanged keeps_word was now after first last Nothing (λ done. cc) change

-- a call that ends before its change leaves all as it was
pub left : (keeps_word : Type 0) (given : Given) (held : VolumeState) (failed : ℕ) → VolumeChanges keeps_word given held held failed failed Nothing
left keeps_word given held failed = record {
  same = record { version = refl; sectors = refl; limits = refl; run = refl };
  later = omega arith;
  none = λ other. refl;
  moments = λ keeps after lasts is recent ready. AddsOnly-same _ held.history;
  brief = λ keeps. omega arith;
  ends = refl;
}

-- A volume that serves, over a flush of its journal.
use Rattle.std.proofs.Common.{◌≡◌, ◌≤◌, ◌<◌, ◌⊎◌, ◌+◌, ◌*◌, ℕ, Bool, true, false, List, [], ◌∷◌, Option, Some, None, zero, suc, take, length, inl, inr, ⊎_elim, refl, sym, ap, ◌∙◌, subst, arith}
use Rattle.std.proofs.Math.Logic.{∥∥₁_map, ∥∥₁_elim, ∥∥₁_prop}
use Rattle.std.specs.List.{IsAmong}
use Rattle.std.specs.Result.{IsErrAnd}
use Rattle.std.specs.Prelude.{IfSome, IfErr, OnOk, Result, Ok, Err, get_or}
use Rattle.std.proofs.lemmas.Bool.{false_from_ne_true}
use Rattle.disk.specs.Cause.{IsCounted}
use Rattle.disk.specs.Moments.{Image, moment}
use Rattle.disk.proofs.MomentLemmas.{AddsOnly-weaken}
use Rattle.tree_edits.proofs.BlankLaws.{each_outline}
use Rattle.journal.specs.Calls.{IsSafe, HasFlushed}
use Rattle.journal.specs.declared.layout.LogArea.{LogArea}
use Rattle.journal.specs.Log.{Log, IsSettled, StandsForPrefix, contents, applied_all, AddsPrefixes, AnswersByDevice}
use Rattle.journal.specs.Settled.{AreSame}
use Rattle.layout.specs.CachedNodes.{CachedNode, tree_of, cached_nodes_in}
use Rattle.layout.specs.MarkLaws.{SeesSame}
use Rattle.layout.specs.Stands.{Kept, StandsNow, Version, log_by, seats_at, version_by}
use Rattle.layout.specs.declared.versions.VersionNumber.{VersionNumber}
use Rattle.layout.proofs.KeptLaws.{same_kept}
use Rattle.layout.proofs.MarkProofs.{kept_alone}
use Rattle.model_tree.specs.declared.limits.Limits.{Limits}
use Rattle.journal.specs.declared.fault.JournalFault.{JournalFault}
use Rattle.journal.specs.declared.fault.JournalFault.TheVariants as faults
use Rattle.volume.specs.Changes.{Given, Done, Nothing, Broken, IsTree, VolumeChanges, ending_of}
use Rattle.volume.specs.Refusals.{fault_of}
use Rattle.volume.specs.VolumeState.{VolumeState, IsSameVolume, Holds, MayAdd, StandsForOne, AddsKept, flush_cost, prefixes_from, kept_of}
use Rattle.volume.specs.Known.{IsServing, kept_in_image}
use Rattle.volume.specs.Views.{volume_state_by}
use Rattle.volume.proofs.PrefixLaws.{prefix_among}
use Rattle.volume.proofs.OneTree.{Seats-set, Tree-set}
use Rattle.volume.proofs.StandLaws.{now_base, now_same, placed_on, same_placed, seats_same, settles_placed}

module _ (version : VersionNumber) (nodes run : ℕ) (cached_nodes : List (Option CachedNode)) (old new : Log) (same : AreSame (log_by version old.size).end (contents old) (contents new)) where
  abbrev now : Version
  now = version_by version None (seats_at version (contents old))

  sees : StandsNow version old.size nodes (contents old) run (kept_in_image version (contents old) cached_nodes)
      → SeesSame now old.size nodes (contents old) (contents new) (cached_nodes_in nodes (contents old))
  sees stands =
      kept_alone now old.size nodes (contents old) (contents new) (cached_nodes_in nodes (contents old)) stands.stands.region stands.stands.laid
      (λ n above below. sym (same n (inr above, below)))

  -- the same tree is seen
  pub tree_stays : IsServing version old nodes run cached_nodes → tree_of (contents new) cached_nodes ≡ tree_of (contents old) cached_nodes
  tree_stays serving = ∥∥₁_elim serving.stands (Tree-set (tree_of (contents new) cached_nodes) (tree_of (contents old) cached_nodes)) (λ stands.
      ap (tree_of (contents new)) serving.read ∙ ((sees stands).same_tree ∙ ap (tree_of (contents old)) (sym serving.read)))

  -- and the same seats
  pub seats_stay : IsServing version old nodes run cached_nodes → seats_at version (contents new) ≡ seats_at version (contents old)
  seats_stay serving = ∥∥₁_elim serving.stands (Seats-set (seats_at version (contents new)) (seats_at version (contents old)))
      (seats_same version old.size nodes (contents old) (contents new) run (kept_in_image version (contents old) cached_nodes) same)

  pub kept_stays : IsServing version old nodes run cached_nodes → kept_in_image version (contents new) cached_nodes ≡ kept_in_image version (contents old) cached_nodes
  kept_stays serving = same_kept (kept_in_image version (contents new) cached_nodes) (kept_in_image version (contents old) cached_nodes) (tree_stays serving) (seats_stay serving)

  pub still_serving : new.size ≡ old.size → IsSettled new → IsServing version old nodes run cached_nodes → ∥ IsServing version new nodes run cached_nodes ∥₁
  still_serving size settled serving = ∥∥₁_map serving.stands (λ stands. record {
    read = serving.read ∙ sym (sees stands).same_cached_nodes;
    stands = ∣ subst (λ (s : ℕ). StandsNow version s nodes (contents new) run (kept_in_image version (contents new) cached_nodes)) (sym size)
        (subst (StandsNow version old.size nodes (contents new) run) (sym (kept_stays serving))
        (now_same version old.size nodes (contents old) (contents new) run (kept_in_image version (contents old) cached_nodes) same stands)) ∣₁;
    settled = settled;
  })

-- a flush keeps the tree
pub flush_keeps : (keeps_word : Type 0) (version : VersionNumber) (nodes run : ℕ) (cached_nodes : List (Option CachedNode)) (old new : Log) → old.area ≡ log_by version old.size → HasFlushed keeps_word old new → (keeps_word → ∥ IsServing version old nodes run cached_nodes ∥₁)
    → keeps_word → tree_of (contents new) cached_nodes ≡ tree_of (contents old) cached_nodes
flush_keeps keeps_word version nodes run cached_nodes old new placed flushed serves k =
    ∥∥₁_elim (serves k) (Tree-set (tree_of (contents new) cached_nodes) (tree_of (contents old) cached_nodes)) (tree_stays version nodes run cached_nodes old new (same_placed version old.area old.size _ _ placed (flushed.contents k)))

pub flush_seats : (keeps_word : Type 0) (version : VersionNumber) (nodes run : ℕ) (cached_nodes : List (Option CachedNode)) (old new : Log) → old.area ≡ log_by version old.size → HasFlushed keeps_word old new → (keeps_word → ∥ IsServing version old nodes run cached_nodes ∥₁)
    → keeps_word → seats_at version (contents new) ≡ seats_at version (contents old)
flush_seats keeps_word version nodes run cached_nodes old new placed flushed serves k =
    ∥∥₁_elim (serves k) (Seats-set (seats_at version (contents new)) (seats_at version (contents old))) (seats_stay version nodes run cached_nodes old new (same_placed version old.area old.size _ _ placed (flushed.contents k)))

-- what a flush adds to what a crash may leave, it may leave already
pub flush_adds : (version : VersionNumber) (limits : Limits) (run : ℕ) (cached_nodes : List (Option CachedNode)) (old new : Log) (after : Kept) → old.area ≡ log_by version old.size → AddsPrefixes old new
    → AddsKept (volume_state_by version limits run cached_nodes old) after new.history
flush_adds version limits run cached_nodes old new after placed adds recent is = AddsOnly-weaken
    (StandsForPrefix old.area old.base old.list) (StandsForOne (volume_state_by version limits run cached_nodes old) (MayAdd recent after)) old.history new.history
    (λ image prefix.
    let covered = is.covers (applied_all (take prefix.count old.list) old.base) (prefix_among old.base old.list prefix.count prefix.within) in (
      covered.0,
      inl covered.1,
      ∥∥₁_map covered.2 (now_base version old.size limits.nodes run image (applied_all (take prefix.count old.list) old.base) covered.0
          (settles_placed version old.area old.size image (applied_all (take prefix.count old.list) old.base) placed prefix.settles)),
    ))
    adds

pub among_one : {A : Type 0} (only other : A) → IsAmong (only ∷ []) other → other ≡ only
among_one only other among = by_place among.0 among.1.0 among.1.1
  where
    by_place : (place : ℕ) → place < length (only ∷ []) → other ≡ get_or (only ∷ []) place other → other ≡ only
    by_place zero less e = e
    by_place (suc place) less e = absurd (omega arith)

-- if nothing is left to flush, each image left represents what the base does, and so does its only
-- front
pub holds_base : (version : VersionNumber) (limits : Limits) (run : ℕ) (cached_nodes : List (Option CachedNode)) (log : Log) → log.list ≡ []
    → ∥ StandsNow version log.size limits.nodes (contents log) run (kept_in_image version (contents log) cached_nodes) ∥₁ → log.area ≡ log_by version log.size → IsSettled log → Holds (volume_state_by version limits run cached_nodes log)
holds_base version limits run cached_nodes log listed stands placed settled =
    let base : contents log ≡ log.base = ap (λ l. applied_all l log.base) listed in
    let kept = kept_in_image version (contents log) cached_nodes in
    let here : ∥ StandsNow version log.size limits.nodes log.base run kept ∥₁ = subst (λ (image : Image). ∥ StandsNow version log.size limits.nodes image run kept ∥₁) base stands in
    let only : prefixes_from log.base log.list ≡ log.base ∷ [] = ap (prefixes_from log.base) listed in
    record {
      leaves = λ image left. (
        kept,
        (0, (omega arith, refl)),
        ∥∥₁_map here (now_base version log.size limits.nodes run image log.base kept (settles_placed version log.area log.size image log.base placed (settled image left))),
      );
      covers = λ prefix among. (
        kept,
        (0, (omega arith, refl)),
        subst (λ (i : Image). ∥ StandsNow version log.size limits.nodes i run kept ∥₁) (sym (among_one log.base prefix (subst (λ (l : List Image). IsAmong l prefix) only among))) here,
      );
      newest = (0, (omega arith, refl));
    }

pub if_some_so : {T : Type 0} (o : Option T) (P Q : T → Type 0) → ((x : T) → P x → Q x) → IfSome o P → IfSome o Q
if_some_so (Some x) P Q so is = so x is
if_some_so None P Q so is = tt

-- a flush of the journal, with the copying home before it
pub flush_costs : (version : VersionNumber) (area : LogArea) (size before after : ℕ) → area ≡ log_by version size → after ≤ before + 2 * (area.sectors + 3) → after ≤ before + flush_cost version size
flush_costs version area size before after placed few = subst (λ (l : LogArea). after ≤ before + 2 * (l.sectors + 3)) placed few

-- takes no more writes and syncs than a call may
pub few_for_call : (cost before after : ℕ) → after ≤ before + cost → after ≤ before + 2 * cost
few_for_call cost before after few = omega (arith, few)

pub call_costs : (version : VersionNumber) (area : LogArea) (size before after : ℕ) → area ≡ log_by version size → after ≤ before + 2 * (area.sectors + 3) → after ≤ before + 2 * flush_cost version size
call_costs version area size before after placed few = few_for_call (flush_cost version size) before after (flush_costs version area size before after placed few)

-- A flush of the journal, as the volume sees it
module _ (keeps_word : Type 0) (version : VersionNumber) (limits : Limits) (run : ℕ) (cached_nodes : List (Option CachedNode)) (old new : Log) (before after : ℕ) where
  abbrev was : VolumeState
  was = volume_state_by version limits run cached_nodes old

  abbrev is : VolumeState
  is = volume_state_by version limits run cached_nodes new

  same_volume : new.size ≡ old.size → IsSameVolume was is
  same_volume size = record { version = refl; sectors = size; limits = refl; run = refl }

  abbrev IsUp : Type 0
  IsUp = keeps_word → ∥ IsServing version old limits.nodes run cached_nodes ∥₁

  module _ (safe : IsSafe keeps_word old new) (placed : old.area ≡ log_by version old.size) (later : before ≤ after) where
    still_placed : new.area ≡ log_by version new.size
    still_placed = placed_on version new.area old.area new.size old.size safe.area safe.size placed

    pub flush_done : after ≡ before → new.is_down ≡ false → HasFlushed keeps_word old new → IsUp → VolumeChanges keeps_word (IsTree was was.tree) was is before after Done
    flush_done told false_from_ne_true flushed serves = record {
      same = same_volume safe.size;
      later = later;
      none = λ other. told;
      moments = λ k kept lasts given. flush_adds version limits run cached_nodes old new kept placed (safe.moments k);
      brief = λ k. call_costs version old.area old.size (moment old.history) (moment new.history) placed (safe.brief k);
      ends = record {
        still_up = false_from_ne_true;
        seats = λ k after lasts given. ap (λ (kept : Kept). kept.seats) (kept k ∙ sym given);
        leaves = λ k after lasts given recent ready. (
          kept_of is ∷ [],
          record {
            ready = holds k;
            no_others = λ one among. inr (among_one (kept_of is) one among ∙ (kept k ∙ sym given));
            durable = λ durable one among. among_one (kept_of is) one among ∙ (kept k ∙ sym given);
          },
        );
      };
    }
      where
        kept : keeps_word → kept_of is ≡ kept_of was
        kept k = same_kept (kept_of is) (kept_of was) (flush_keeps keeps_word version limits.nodes run cached_nodes old new placed flushed serves k)
            (flush_seats keeps_word version limits.nodes run cached_nodes old new placed flushed serves k)

        holds : keeps_word → Holds is
        holds k = holds_base version limits run cached_nodes new flushed.emptied
            (∥∥₁_elim (serves k) ∥∥₁_prop (λ serving.
            ∥∥₁_elim (still_serving version limits.nodes run cached_nodes old new (same_placed version old.area old.size _ _ placed (flushed.contents k)) safe.size (safe.settled k false_from_ne_true) serving) ∥∥₁_prop
            (λ still. still.stands)))
            still_placed (safe.settled k false_from_ne_true)

    pub flush_broken : (given : Given) → new.is_down ≡ true → IsCounted before after → VolumeChanges keeps_word given was is before after Broken
    flush_broken given down counted = record {
      same = same_volume safe.size;
      later = later;
      none = λ other. absurd (other refl);
      moments = λ k kept lasts of. flush_adds version limits run cached_nodes old new kept placed (safe.moments k);
      brief = λ k. call_costs version old.area old.size (moment old.history) (moment new.history) placed (safe.brief k);
      ends = record {
        down = down;
        cause = counted;
        shows = inl (each_outline (contents new) cached_nodes ∙ sym (each_outline (contents old) cached_nodes));
      };
    }

    pub flush_nothing : (given : Given) → after ≡ before → new ≡ old → VolumeChanges keeps_word given was is before after Nothing
    flush_nothing given told same = record {
      same = same_volume safe.size;
      later = later;
      none = λ other. told;
      moments = λ k kept lasts of. flush_adds version limits run cached_nodes old new kept placed (safe.moments k);
      brief = λ k. call_costs version old.area old.size (moment old.history) (moment new.history) placed (safe.brief k);
      ends = ap (volume_state_by version limits run cached_nodes) same;
    }

    -- and it serves on
    pub flush_serves : keeps_word → new.is_down ≡ false → AreSame old.area.end (contents old) (contents new) → IsUp → ∥ IsServing version new limits.nodes run cached_nodes ∥₁
    flush_serves k false_from_ne_true same serves = ∥∥₁_elim (serves k) ∥∥₁_prop (still_serving version limits.nodes run cached_nodes old new (same_placed version old.area old.size _ _ placed same) safe.size (safe.settled k false_from_ne_true))

down_up : (b : Bool) → b ≡ true → b ≡ false → ⊥
down_up b down is_up = cc

-- a call that succeeded found the journal up and left it up
pub found_up : (old new : Log) (before after : ℕ) (done : Unit {0}) → AnswersByDevice old new before after (Ok done) → (old.is_down ≡ false) × (new.is_down ≡ false)
found_up old new before after done answers =
    let found : old.is_down ≡ false = false_from_ne_true old.is_down (λ down. let told = answers.down.1 down in cc) in
    (found, answers.stays_up found (λ fault. cc))

-- a call that leaves it up has succeeded
pub up_answered : (keeps_word : Type 0) (old new : Log) (before after : ℕ) (P : Type 0) (result : Result (Unit {0}) JournalFault) → OnOk result P
    → AnswersByDevice old new before after result → IfErr result (λ fault. (fault ≡ faults.Fault) ⊎ (fault ≡ faults.Down)) → new.is_down ≡ false
    → P × (old.is_down ≡ false)
up_answered keeps_word old new before after P (Ok done) answered answers refuses is_up = (answered, (found_up old new before after done answers).0)
up_answered keeps_word old new before after P (Err fault) answered answers refuses is_up = ⊎_elim
    (λ (broken : fault ≡ faults.Fault). absurd (down_up new.is_down (answers.goes_down (ap Err broken)) is_up))
    (λ (down : fault ≡ faults.Down). absurd (down_up new.is_down (ap (λ (log : Log). log.is_down) (answers.untouched (ap Err down)).0 ∙ answers.down.0 (ap Err down)) is_up))
    refuses

pub flush_refused : (keeps_word : Type 0) (given : Given) (version : VersionNumber) (limits : Limits) (run : ℕ) (cached_nodes : List (Option CachedNode)) (old new : Log) (before after : ℕ) (fault : JournalFault)
    → IsSafe keeps_word old new → old.area ≡ log_by version old.size → AnswersByDevice {T = Unit {0}} old new before after (Err fault) → (fault ≡ faults.Fault) ⊎ (fault ≡ faults.Down)
    → VolumeChanges keeps_word given (volume_state_by version limits run cached_nodes old) (volume_state_by version limits run cached_nodes new) before after (ending_of {T = Unit {0}} (Err (fault_of fault)))
flush_refused keeps_word given version limits run cached_nodes old new before after faults.Fault safe placed answers refuses =
    flush_broken keeps_word version limits run cached_nodes old new before after safe placed answers.later given (answers.goes_down refl) (answers.counted refl)
flush_refused keeps_word given version limits run cached_nodes old new before after faults.Down safe placed answers refuses =
    flush_nothing keeps_word version limits run cached_nodes old new before after safe placed answers.later given (answers.untouched refl).1 (answers.untouched refl).0
flush_refused keeps_word given version limits run cached_nodes old new before after faults.Memory safe placed answers refuses = absurd (⊎_elim (λ (is : faults.Memory ≡ faults.Fault). cc) (λ (is : faults.Memory ≡ faults.Down). cc) refuses)
flush_refused keeps_word given version limits run cached_nodes old new before after faults.Damaged safe placed answers refuses = absurd (⊎_elim (λ (is : faults.Damaged ≡ faults.Fault). cc) (λ (is : faults.Damaged ≡ faults.Down). cc) refuses)
flush_refused keeps_word given version limits run cached_nodes old new before after faults.TooMany safe placed answers refuses = absurd (⊎_elim (λ (is : faults.TooMany ≡ faults.Fault). cc) (λ (is : faults.TooMany ≡ faults.Down). cc) refuses)

-- what a `?` passes on
pub is_err_of : {T E : Type 0} (result : Result T E) (reason : E) → IsErrAnd result (λ told. told ≡ reason) → result ≡ Err reason
is_err_of (Ok done) reason is = absurd is
is_err_of (Err told) reason is = ap Err is

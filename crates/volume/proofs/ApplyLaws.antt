-- A volume that serves, over a transaction that goes into its journal.
use Rattle.std.proofs.Common.{◌≡◌, ◌≤◌, ◌⊎◌, ℕ, Bool, true, false, suc, List, [], ◌∷◌, Option, length, take, inl, inr, ⊎_elim, refl, sym, ap, ◌∙◌, subst, arith, true≢false}
use Rattle.std.proofs.Math.Logic.{∥∥₁_map, ∥∥₁_elim, ∥∥₁_prop}
use Rattle.std.specs.List.{IsAmong}
use Rattle.std.specs.Prelude.{Err, IsErrOf}
use Rattle.disk.specs.Cause.{IsCounted}
use Rattle.disk.specs.declared.update.Update.{Update}
use Rattle.disk.specs.Moments.{Image, applied, moment}
use Rattle.tree_edits.proofs.BlankLaws.{each_outline}
use Rattle.journal.specs.Calls.{IsSafe, HasApplied, list_with}
use Rattle.journal.specs.Log.{Log, IsSettled, Moved, contents, applied_all, AnswersByDevice}
use Rattle.journal.specs.Settled.{AreSame}
use Rattle.journal.specs.declared.fault.JournalFault.{JournalFault}
use Rattle.journal.specs.declared.fault.JournalFault.TheVariants as faults
use Rattle.journal.proofs.Prefixes.{applied_all-push}
use Rattle.journal.proofs.Joins.{prefix_moved, moved_contents}
use Rattle.layout.specs.CachedNodes.{CachedNode, tree_of, cached_nodes_in}
use Rattle.layout.specs.Stands.{Kept, StandsNow, log_by, seats_at}
use Rattle.layout.specs.declared.versions.VersionNumber.{VersionNumber}
use Rattle.layout.proofs.KeptLaws.{now_told, same_kept}
use Rattle.model_tree.specs.declared.limits.Limits.{Limits}
use Rattle.model_tree.specs.Trees.Tree.{Tree}
use Rattle.volume.specs.Changes.{Given, Done, Broken, VolumeChanges, ending_of}
use Rattle.volume.specs.VolumeState.{VolumeState, IsRecent, AddsKept, MakesAtMost, call_cost, prefixes_from, kept_of}
use Rattle.volume.specs.Known.{IsServing}
use Rattle.volume.specs.Refusals.{fault_of}
use Rattle.volume.specs.Views.{volume_state_by}
use Rattle.volume.proofs.PrefixLaws.{among_more, applied_recent, prefix_among}
use Rattle.volume.proofs.ServeLaws.{call_costs, flush_adds, seats_stay, still_serving, tree_stays}
use Rattle.volume.proofs.OneTree.{Seats-set, Tree-set}
use Rattle.volume.proofs.StandLaws.{now_base, now_same, placed_on, same_placed, settles_placed}

-- each of the prefixes is one of the list's
prefix_is : (base : Image) (list : List (List Update)) (prefix : Image) → IsAmong (prefixes_from base list) prefix
    → (count : ℕ) × (count ≤ length list) × (prefix ≡ applied_all (take count list) base)
prefix_is base [] prefix among = ⊎_elim
    (λ (is : prefix ≡ base). (0, omega arith, is))
    (λ (none : IsAmong [] prefix). absurd (omega (arith, none.1.0)))
    (among_more base [] prefix among)
prefix_is base (updates ∷ list) prefix among = ⊎_elim
    (λ (is : prefix ≡ base). (0, omega arith, is))
    (λ (rest : IsAmong (prefixes_from (applied updates base) list) prefix).
    let it = prefix_is (applied updates base) list prefix rest in (suc it.0, omega (arith, it.1), it.2))
    (among_more base (prefixes_from (applied updates base) list) prefix among)

-- a call moved the list's first transactions into the base: each prefix is one from before
module _ (version : VersionNumber) (limits : Limits) (run : ℕ) (cached_nodes : List (Option CachedNode)) (old new : Log) (placed : old.area ≡ log_by version old.size) (area : new.area ≡ old.area) (size : new.size ≡ old.size) (moved : Moved old.list old new)
    (settled : IsSettled new) (serving : ∥ IsServing version old limits.nodes run cached_nodes ∥₁) where
  same : AreSame (log_by version old.size).end (contents old) (contents new)
  same = same_placed version old.area old.size (contents old) (contents new) placed (moved_contents old.list old new moved)

  pub moved_serves : ∥ IsServing version new limits.nodes run cached_nodes ∥₁
  moved_serves = ∥∥₁_elim serving ∥∥₁_prop (still_serving version limits.nodes run cached_nodes old new same size settled)

  pub moved_tree : tree_of (contents new) cached_nodes ≡ tree_of (contents old) cached_nodes
  moved_tree = ∥∥₁_elim serving (Tree-set (tree_of (contents new) cached_nodes) (tree_of (contents old) cached_nodes)) (tree_stays version limits.nodes run cached_nodes old new same)

  pub moved_seats : seats_at version (contents new) ≡ seats_at version (contents old)
  moved_seats = ∥∥₁_elim serving (Seats-set (seats_at version (contents new)) (seats_at version (contents old))) (seats_stay version limits.nodes run cached_nodes old new same)

  pub moved_kept : kept_of (volume_state_by version limits run cached_nodes new) ≡ kept_of (volume_state_by version limits run cached_nodes old)
  moved_kept = same_kept (kept_of (volume_state_by version limits run cached_nodes new)) (kept_of (volume_state_by version limits run cached_nodes old)) moved_tree moved_seats

  covered : (recent : List Kept) → IsRecent (volume_state_by version limits run cached_nodes old) recent → (count : ℕ) → count ≤ length new.list
      → (kept : Kept) × IsAmong recent kept × ∥ StandsNow version new.size limits.nodes (applied_all (take count new.list) new.base) run kept ∥₁
  covered recent is count few =
      let before = prefix_moved old.list old new moved count few in
      let one = is.covers (applied_all (take before.0 old.list) old.base) (prefix_among old.base old.list before.0 before.1) in (
        one.0,
        one.1,
        ∥∥₁_map one.2 (λ stands. subst (λ (s : ℕ). StandsNow version s limits.nodes (applied_all (take count new.list) new.base) run one.0) (sym size)
            (now_same version old.size limits.nodes (applied_all (take before.0 old.list) old.base) (applied_all (take count new.list) new.base) run one.0
            (same_placed version old.area old.size _ _ placed before.2) stands)),
      )

  pub moved_recent : (recent : List Kept) → IsRecent (volume_state_by version limits run cached_nodes old) recent → IsRecent (volume_state_by version limits run cached_nodes new) recent
  moved_recent recent is = record {
    leaves = λ image left.
        let one = covered recent is 0 (omega arith) in (
          one.0,
          one.1,
          ∥∥₁_map one.2 (now_base version new.size limits.nodes run image new.base one.0
              (settles_placed version new.area new.size image new.base (placed_on version new.area old.area new.size old.size area size placed) (settled image left))),
        );
    covers = λ prefix among.
        let there = prefix_is new.base new.list prefix among in
        let one = covered recent is there.0 there.1 in (
          one.0,
          one.1,
          subst (λ (i : Image). ∥ StandsNow version new.size limits.nodes i run one.0 ∥₁) (sym there.2) one.2,
        );
    newest = subst (IsAmong recent) (sym moved_kept) is.newest;
  }

-- with one more transaction after the list
abbrev pub listed_with : Log → List Update → Log
listed_with log updates = record log { list = list_with log updates }

-- what the sectors hold after a transaction in the journal: these cached nodes, a tree and seats
pub record StandsWith (version : VersionNumber) (nodes run : ℕ) (old : Log) (updates : List Update) (is : List (Option CachedNode)) (after : Kept) : Type 0 where
  pub read : is ≡ cached_nodes_in nodes (applied updates (contents old))
  pub tree : tree_of (applied updates (contents old)) is ≡ after.tree
  pub stands : ∥ StandsNow version old.size nodes (applied updates (contents old)) run after ∥₁

-- the same seats with another tree
abbrev pub seated : VersionNumber → Log → Tree → Kept
seated version log tree = record { tree = tree; seats = seats_at version (contents log) }

-- What serves after a transaction, which may change the cached nodes or the seats
module _ (version : VersionNumber) (limits : Limits) (run : ℕ) (cached_nodes is : List (Option CachedNode)) (old : Log) (updates : List Update) (after : Kept)
    (behind : StandsWith version limits.nodes run old updates is after) (serving : ∥ IsServing version old limits.nodes run cached_nodes ∥₁) where
  abbrev then_log : Log
  then_log = listed_with old updates

  abbrev then_held : VolumeState
  then_held = volume_state_by version limits run is then_log

  then_contents : contents then_log ≡ applied updates (contents old)
  then_contents = applied_all-push old.list updates old.base

  then_tree : tree_of (contents then_log) is ≡ after.tree
  then_tree = ap (λ (image : Image). tree_of image is) then_contents ∙ behind.tree

  then_seats : seats_at version (contents then_log) ≡ after.seats
  then_seats = ∥∥₁_elim behind.stands (Seats-set (seats_at version (contents then_log)) after.seats) (λ stands.
      ap (seats_at version) then_contents ∙ now_told version old.size limits.nodes (applied updates (contents old)) run after stands)

  pub then_kept : kept_of then_held ≡ after
  then_kept = same_kept (kept_of then_held) after then_tree then_seats

  pub then_serves : ∥ IsServing version then_log limits.nodes run is ∥₁
  then_serves = ∥∥₁_map serving (λ served. record {
    read = behind.read ∙ ap (cached_nodes_in limits.nodes) (sym then_contents);
    stands = subst (λ (kept : Kept). ∥ StandsNow version old.size limits.nodes (contents then_log) run kept ∥₁) (sym then_kept)
        (subst (λ (image : Image). ∥ StandsNow version old.size limits.nodes image run after ∥₁) (sym then_contents) behind.stands);
    settled = served.settled;
  })

  pub then_recent : (recent : List Kept) → IsRecent (volume_state_by version limits run cached_nodes old) recent → IsRecent then_held (after ∷ recent)
  then_recent recent ready =
      subst (λ (kept : Kept). IsRecent (record (volume_state_by version limits run cached_nodes old) { tree = kept.tree; seats = kept.seats; prefixes = prefixes_from old.base (list_with old updates) }) (after ∷ recent))
      (sym then_kept)
      (applied_recent (volume_state_by version limits run cached_nodes old) old refl refl refl updates after behind.stands recent ready)

-- The journal takes a transaction
module _ (keeps_word : Type 0) (version : VersionNumber) (limits : Limits) (run : ℕ) (cached_nodes is : List (Option CachedNode)) (old new : Log) (updates : List Update) (after : Kept) (failed_before failed_after : ℕ)
    (safe : IsSafe keeps_word old new) (placed : old.area ≡ log_by version old.size) (later : failed_before ≤ failed_after) where
  abbrev was : VolumeState
  was = volume_state_by version limits run cached_nodes old

  abbrev now : VolumeState
  now = volume_state_by version limits run is new

  -- what is kept after it, which may be lost
  abbrev given : Given
  given kept lasts = (kept ≡ after) × (lasts ≡ false)

  moments : keeps_word → (kept : Kept) (lasts : Bool) → given kept lasts → AddsKept was kept new.history
  moments k kept lasts is_given = flush_adds version limits run cached_nodes old new kept placed (safe.moments k)

  brief : keeps_word → MakesAtMost (call_cost was) was now
  brief k = call_costs version old.area old.size (moment old.history) (moment new.history) placed (safe.brief k)

  module _ (up : new.is_down ≡ false) (has : HasApplied keeps_word updates old new) (serves : keeps_word → ∥ IsServing version old limits.nodes run cached_nodes ∥₁)
      (behind : keeps_word → StandsWith version limits.nodes run old updates is after) where
    abbrev between : Log
    between = listed_with old updates

    -- the first of all went into the base, whichever are said to be listed
    goes : keeps_word → Moved between.list between new
    goes k = let moved = has.moved k in record { count = moved.count; within = moved.within; base = moved.base; list = moved.list }

    middle : keeps_word → ∥ IsServing version between limits.nodes run is ∥₁
    middle k = then_serves version limits run cached_nodes is old updates after (behind k) (serves k)

    pub applied_serves : keeps_word → ∥ IsServing version new limits.nodes run is ∥₁
    applied_serves k = moved_serves version limits run is between new placed safe.area safe.size (goes k) (safe.settled k up) (middle k)

    pub applied_kept : keeps_word → kept_of now ≡ after
    applied_kept k = moved_kept version limits run is between new placed safe.area safe.size (goes k) (safe.settled k up) (middle k)
        ∙ then_kept version limits run cached_nodes is old updates after (behind k) (serves k)

    pub applied_tree : keeps_word → now.tree ≡ after.tree
    applied_tree k = ap (λ (of : Kept). of.tree) (applied_kept k)

    pub apply_done : failed_after ≡ failed_before → VolumeChanges keeps_word given was now failed_before failed_after Done
    apply_done told = record {
      same = record { version = refl; sectors = safe.size; limits = refl; run = refl };
      later = later;
      none = λ other. told;
      moments = moments;
      brief = brief;
      ends = record {
        still_up = up;
        seats = λ k kept lasts is_given. ap (λ (of : Kept). of.seats) (applied_kept k ∙ sym is_given.0);
        leaves = λ k kept lasts is_given recent ready. (
          after ∷ recent,
          record {
            ready = moved_recent version limits run is between new placed safe.area safe.size (goes k) (safe.settled k up) (middle k) (after ∷ recent)
                (then_recent version limits run cached_nodes is old updates after (behind k) (serves k) recent ready);
            no_others = λ one among. ⊎_elim
                (λ (first : one ≡ after). inr (first ∙ sym is_given.0))
                (λ (rest : IsAmong recent one). inl rest)
                (among_more after recent one among);
            durable = λ durable. absurd (true≢false (sym durable ∙ is_given.1));
          },
        );
      };
    }

  pub apply_broken : new.is_down ≡ true → IsCounted failed_before failed_after → VolumeChanges keeps_word given was (volume_state_by version limits run cached_nodes new) failed_before failed_after Broken
  apply_broken down counted = record {
    same = record { version = refl; sectors = safe.size; limits = refl; run = refl };
    later = later;
    none = λ other. absurd (other refl);
    moments = moments;
    brief = brief;
    ends = record {
      down = down;
      cause = counted;
      shows = inl (each_outline (contents new) cached_nodes ∙ sym (each_outline (contents old) cached_nodes));
    };
  }

-- A journal that refuses it and is up is as it was
pub refused_up : (old new : Log) (before after : ℕ) (fault : JournalFault) → AnswersByDevice {T = Unit {0}} old new before after (Err fault)
    → (IsErrOf {T = Unit {0}} (Err fault) faults.TooMany → new ≡ old) → (fault ≡ faults.TooMany) ⊎ ((fault ≡ faults.Fault) ⊎ (fault ≡ faults.Down)) → new.is_down ≡ false → new ≡ old
refused_up old new before after fault answers unchanged refuses up = ⊎_elim
    (λ (many : fault ≡ faults.TooMany). unchanged (ap Err many))
    (λ (rest : (fault ≡ faults.Fault) ⊎ (fault ≡ faults.Down)). ⊎_elim
    (λ (broken : fault ≡ faults.Fault). absurd (true≢false (sym (answers.goes_down (ap Err broken)) ∙ up)))
    (λ (down : fault ≡ faults.Down). (answers.untouched (ap Err down)).0)
    rest)
    refuses

-- The journal refuses it
pub apply_refused : (keeps_word : Type 0) (version : VersionNumber) (limits : Limits) (run : ℕ) (cached_nodes : List (Option CachedNode)) (old new : Log) (after : Kept) (failed_before failed_after : ℕ) (fault : JournalFault)
    → IsSafe keeps_word old new → old.area ≡ log_by version old.size → old.is_down ≡ false → (fault ≡ faults.TooMany → ⊥) → AnswersByDevice {T = Unit {0}} old new failed_before failed_after (Err fault)
    → (fault ≡ faults.TooMany) ⊎ ((fault ≡ faults.Fault) ⊎ (fault ≡ faults.Down))
    → VolumeChanges keeps_word (λ kept lasts. (kept ≡ after) × (lasts ≡ false)) (volume_state_by version limits run cached_nodes old) (volume_state_by version limits run cached_nodes new) failed_before failed_after
    (ending_of {T = Unit {0}} (Err (fault_of fault)))
apply_refused keeps_word version limits run cached_nodes old new after failed_before failed_after faults.Fault safe placed up few answers refuses =
    apply_broken keeps_word version limits run cached_nodes cached_nodes old new [] after failed_before failed_after safe placed answers.later (answers.goes_down refl) (answers.counted refl)
apply_refused keeps_word version limits run cached_nodes old new after failed_before failed_after faults.Down safe placed up few answers refuses =
    absurd (true≢false (sym (answers.down.0 refl) ∙ up))
apply_refused keeps_word version limits run cached_nodes old new after failed_before failed_after faults.TooMany safe placed up few answers refuses = absurd (few refl)
apply_refused keeps_word version limits run cached_nodes old new after failed_before failed_after faults.Memory safe placed up few answers refuses = absurd (⊎_elim
    (λ (is : faults.Memory ≡ faults.TooMany). cc)
    (λ (rest : (faults.Memory ≡ faults.Fault) ⊎ (faults.Memory ≡ faults.Down)). ⊎_elim (λ (is : faults.Memory ≡ faults.Fault). cc) (λ (is : faults.Memory ≡ faults.Down). cc) rest) refuses)
apply_refused keeps_word version limits run cached_nodes old new after failed_before failed_after faults.Damaged safe placed up few answers refuses = absurd (⊎_elim
    (λ (is : faults.Damaged ≡ faults.TooMany). cc)
    (λ (rest : (faults.Damaged ≡ faults.Fault) ⊎ (faults.Damaged ≡ faults.Down)). ⊎_elim (λ (is : faults.Damaged ≡ faults.Fault). cc) (λ (is : faults.Damaged ≡ faults.Down). cc) rest) refuses)

-- A volume that serves, over a checkpoint of its journal: the base has the same sectors, and what waits still waits.
use Rattle.std.proofs.Common.{◌≡◌, ◌≤◌, ℕ, false, List, [], ◌∷◌, Option, inl, ⊎_elim, refl, sym, ap, ◌∙◌, subst, arith, true≢false}
use Rattle.std.proofs.Math.Logic.{∥∥₁_map, ∥∥₁_elim}
use Rattle.std.specs.List.{IsAmong}
use Rattle.disk.specs.declared.update.Update.{Update}
use Rattle.disk.specs.Moments.{Image, applied, moment}
use Rattle.journal.specs.Calls.{IsSafe, HasCheckpointed}
use Rattle.journal.specs.Log.{Log}
use Rattle.journal.specs.Settled.{AreSame}
use Rattle.journal.proofs.Prefixes.{applied_keeps}
use Rattle.layout.specs.CachedNodes.{CachedNode}
use Rattle.layout.specs.Stands.{Kept, StandsNow, log_by}
use Rattle.layout.specs.declared.versions.VersionNumber.{VersionNumber}
use Rattle.layout.proofs.KeptLaws.{same_kept}
use Rattle.model_tree.specs.declared.limits.Limits.{Limits}
use Rattle.volume.specs.Changes.{Done, Stays, VolumeChanges}
use Rattle.volume.specs.VolumeState.{VolumeState, KeepsRecent, prefixes_from, kept_of}
use Rattle.volume.specs.Known.{IsServing}
use Rattle.volume.specs.Views.{volume_state_by}
use Rattle.volume.proofs.PrefixLaws.{among_more, among_rest, prefix_among}
use Rattle.volume.proofs.OneTree.{Seats-set, Tree-set}
use Rattle.volume.proofs.ServeLaws.{among_one, call_costs, flush_adds, seats_stay, tree_stays}
use Rattle.volume.proofs.StandLaws.{now_base, now_same, placed_on, same_placed, settles_placed}

-- each of the moved base's prefixes has the sectors of one of the old base's
prefix_same : (end : ℕ) (base moved : Image) (list : List (List Update)) (prefix : Image) → AreSame end base moved → IsAmong (prefixes_from moved list) prefix
    → (other : Image) × IsAmong (prefixes_from base list) other × AreSame end other prefix
prefix_same end base moved [] prefix same among =
    (base, (0, (omega arith, refl)), λ n kept. same n kept ∙ ap (λ (image : Image). image n) (sym (among_one moved prefix among)))
prefix_same end base moved (updates ∷ list) prefix same among = ⊎_elim
    (λ (first : prefix ≡ moved). (base, (0, (omega arith, refl)), λ n kept. same n kept ∙ ap (λ (image : Image). image n) (sym first)))
    (λ (rest : IsAmong (prefixes_from (applied updates moved) list) prefix).
    let there = prefix_same end (applied updates base) (applied updates moved) list prefix (applied_keeps end updates base moved same) rest in
    (there.0, among_rest base (prefixes_from (applied updates base) list) there.0 there.1, there.2))
    (among_more moved (prefixes_from (applied updates moved) list) prefix among)

module _ (keeps_word : Type 0) (version : VersionNumber) (limits : Limits) (run : ℕ) (cached_nodes : List (Option CachedNode)) (shown : List ℕ) (old new : Log)
    (safe : IsSafe keeps_word old new) (placed : old.area ≡ log_by version old.size) (listed : new.list ≡ old.list) (up : new.is_down ≡ false) (done : HasCheckpointed keeps_word shown old new)
    (serves : keeps_word → ∥ IsServing version old limits.nodes run cached_nodes ∥₁) where
  abbrev was : VolumeState
  was = volume_state_by version limits run cached_nodes old

  abbrev is : VolumeState
  is = volume_state_by version limits run cached_nodes new

  pub checkpoint_keeps : keeps_word → is.tree ≡ was.tree
  checkpoint_keeps k = ∥∥₁_elim (serves k) (Tree-set is.tree was.tree) (tree_stays version limits.nodes run cached_nodes old new (same_placed version old.area old.size _ _ placed (done.contents k)))

  pub checkpoint_seats : keeps_word → is.seats ≡ was.seats
  checkpoint_seats k = ∥∥₁_elim (serves k) (Seats-set is.seats was.seats) (seats_stay version limits.nodes run cached_nodes old new (same_placed version old.area old.size _ _ placed (done.contents k)))

  -- if the old base holds a tree, so does the new one
  stands_on : (a b : Image) (kept : Kept) → AreSame (log_by version old.size).end a b → StandsNow version old.size limits.nodes a run kept → StandsNow version new.size limits.nodes b run kept
  stands_on a b kept same stands =
      subst (λ (size : ℕ). StandsNow version size limits.nodes b run kept) (sym safe.size) (now_same version old.size limits.nodes a b run kept same stands)

  checkpoint_kept : keeps_word → kept_of is ≡ kept_of was
  checkpoint_kept k = same_kept (kept_of is) (kept_of was) (checkpoint_keeps k) (checkpoint_seats k)

  pub checkpoint_recent : keeps_word → KeepsRecent was is
  checkpoint_recent k recent ready =
      let first = ready.covers old.base (prefix_among old.base old.list 0 (omega arith)) in
      record {
        leaves = λ image left. (
          first.0,
          first.1,
          ∥∥₁_map first.2 (λ stands. now_base version new.size limits.nodes run image new.base first.0
              (settles_placed version new.area new.size image new.base (placed_on version new.area old.area new.size old.size safe.area safe.size placed) (safe.settled k up image left))
              (stands_on old.base new.base first.0 (same_placed version old.area old.size _ _ placed (done.base k)) stands)),
        );
        covers = λ prefix among.
            let there = prefix_same (log_by version old.size).end old.base new.base old.list prefix (same_placed version old.area old.size _ _ placed (done.base k))
            (subst (λ (list : List (List Update)). IsAmong (prefixes_from new.base list) prefix) listed among) in
            let covered = ready.covers there.0 there.1 in (
              covered.0,
              covered.1,
              ∥∥₁_map covered.2 (λ stands. stands_on there.0 prefix covered.0 there.2 stands),
            );
        newest = subst (λ (kept : Kept). IsAmong recent kept) (sym (checkpoint_kept k)) ready.newest;
      }

  pub checkpoint_done : (before after : ℕ) → before ≤ after → after ≡ before → VolumeChanges keeps_word (Stays was) was is before after Done
  checkpoint_done before after later told = record {
    same = record { version = refl; sectors = safe.size; limits = refl; run = refl };
    later = later;
    none = λ other. told;
    moments = λ k kept lasts given. flush_adds version limits run cached_nodes old new kept placed (safe.moments k);
    brief = λ k. call_costs version old.area old.size (moment old.history) (moment new.history) placed (safe.brief k);
    ends = record {
      still_up = up;
      seats = λ k kept lasts given. checkpoint_seats k ∙ sym (ap (λ (of : Kept). of.seats) given.0);
      leaves = λ k kept lasts given recent ready. (
        recent,
        record {
          ready = checkpoint_recent k recent ready;
          no_others = λ one among. inl among;
          durable = λ durable. absurd (true≢false (sym durable ∙ given.1));
        },
      );
    };
  }

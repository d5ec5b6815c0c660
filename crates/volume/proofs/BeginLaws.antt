-- A run that begins: the nodes that were read are served under the next count.
use Rattle.std.proofs.Common.{◌≡◌, ◌≤◌, ◌+◌, ◌⊎◌, ⊎_elim, ℕ, Bool, List, Option, None, inl, inr, sym, ap, ◌∙◌, subst, arith}
use Rattle.std.proofs.Math.Logic.{∥∥₁_map, ∥∥₁_elim}
use Rattle.std.specs.Prelude.{IsTrue}
use Rattle.disk.specs.declared.update.Update.{Update}
use Rattle.disk.specs.Moments.{Image, History, AddsOnly, moment}
use Rattle.disk.proofs.MomentLemmas.{AddsOnly-same}
use Rattle.journal.specs.Log.{Log, applied_all, contents}
use Rattle.layout.specs.CachedNodes.{CachedNode, tree_of, cached_nodes_in}
use Rattle.layout.specs.Stands.{IsMark, IsNumber, Kept, StandsNow, mark_held, seats_at, served, size_by, version_by}
use Rattle.layout.specs.declared.versions.VersionNumber.{VersionNumber}
use Rattle.layout.proofs.FirstLaws.{few_nodes}
use Rattle.layout.proofs.KeptLaws.{now_told, same_kept, stands_by}
use Rattle.layout.proofs.MarkOnce.{one_mark}
use Rattle.layout.proofs.SeatLaws.{version_region}
use Rattle.model_tree.specs.Seats.Seats.{Seats, no_seats}
use Rattle.model_tree.specs.declared.limits.Limits.{Limits}
use Rattle.volume.specs.VolumeState.{Holds, LeavesCurrent}
use Rattle.volume.specs.Known.{IsServing, kept_in_image}
use Rattle.volume.specs.Loads.{IsLoaded, read_as}
use Rattle.volume.specs.Mounts.{StandsOn, StandsForEither, AddsRaised, BeginsBriefly, IsNotBegun, begin_cost}
use Rattle.volume.specs.Starts.{HasStarted}
use Rattle.volume.specs.Views.{volume_state_by}
use Rattle.volume.specs.declared.fault.MountFault.{MountFault}
use Rattle.volume.specs.declared.fault.MountFault.TheVariants as mounts
use Rattle.volume.specs.declared.mount.Superblock.{Superblock}
use Rattle.volume.proofs.OneTree.{Seats-set, Tree-set}
use Rattle.volume.proofs.ServeLaws.{holds_base}
use Rattle.volume.proofs.StandLaws.{settles_placed}

module _ (keeps_word : Type 0) (found : Superblock) (old mid new : Log) (mark : Option ℕ) (cached_nodes : List (Option CachedNode)) (seats : Seats) (places : List Bool)
    (loaded : IsLoaded keeps_word found old mark cached_nodes seats places) (started : HasStarted keeps_word found cached_nodes seats mid new)
    (only : mid ≡ record old { is_down = mid.is_down }) (size : old.size ≡ found.sectors) (number : IsNumber found.version) (new_size : new.size ≡ mid.size) where
  abbrev version : VersionNumber
  version = served found.version

  base : mid.base ≡ old.base
  base = ap (λ (log : Log). log.base) only

  now_size : found.sectors ≡ new.size
  now_size = sym (new_size ∙ (ap (λ (log : Log). log.size) only ∙ size))

  emptied : contents new ≡ new.base
  emptied = ap (λ (l : List (List Update)). applied_all l new.base) started.rests.listed

  pub same_tree : keeps_word → tree_of (contents new) cached_nodes ≡ tree_of old.base cached_nodes
  same_tree k = ∥∥₁_elim (started.serves k) (Tree-set (tree_of (contents new) cached_nodes) (tree_of old.base cached_nodes)) (λ serves.
      ap (λ (image : Image). tree_of image cached_nodes) emptied
      ∙ (ap (tree_of new.base) serves.read ∙ (sym serves.stands.stands.tree_is ∙ ap (λ (image : Image). tree_of image cached_nodes) base)))

  -- the seats that were read are those of the sectors
  pub same_seats : keeps_word → seats_at version (contents new) ≡ seats
  same_seats k = ∥∥₁_elim (started.serves k) (Seats-set (seats_at version (contents new)) seats) (λ serves.
      ap (seats_at version) emptied ∙ now_told version found.sectors found.nodes new.base (found.run + 1) (read_as mid.base cached_nodes seats) serves.stands)

  pub kept_read : keeps_word → kept_in_image version (contents new) cached_nodes ≡ read_as old.base cached_nodes seats
  kept_read k = same_kept (kept_in_image version (contents new) cached_nodes) (read_as old.base cached_nodes seats) (same_tree k) (same_seats k)

  stands_base : keeps_word → ∥ StandsNow version new.size found.nodes new.base (found.run + 1) (kept_in_image version (contents new) cached_nodes) ∥₁
  stands_base k = ∥∥₁_map (started.serves k) (λ serves.
      subst (λ (s : ℕ). StandsNow version s found.nodes new.base (found.run + 1) (kept_in_image version (contents new) cached_nodes)) now_size
      (subst (StandsNow version found.sectors found.nodes new.base (found.run + 1))
      (ap (λ (image : Image). read_as image cached_nodes seats) base ∙ sym (kept_read k)) serves.stands))

  stands_there : keeps_word → ∥ StandsNow version new.size found.nodes (contents new) (found.run + 1) (kept_in_image version (contents new) cached_nodes) ∥₁
  stands_there k = subst (λ (image : Image). ∥ StandsNow version new.size found.nodes image (found.run + 1) (kept_in_image version (contents new) cached_nodes) ∥₁) (sym emptied) (stands_base k)

  pub begun_serving : keeps_word → ∥ IsServing version new found.nodes (found.run + 1) cached_nodes ∥₁
  begun_serving k = ∥∥₁_map (started.serves k) (λ serves. record {
    read = serves.read ∙ ap (cached_nodes_in found.nodes) (sym emptied);
    stands = stands_there k;
    settled = started.settled k;
  })

  pub begun_stood : keeps_word → ∥ StandsOn found old.base (read_as old.base cached_nodes seats) ∥₁
  begun_stood k = ∥∥₁_map (loaded.stood k) (λ stands.
      stands_by found.version mark found.sectors found.nodes old.base found.run (read_as old.base cached_nodes seats) number loaded.marked stands.may stands.keeps stands.stands)

  module _ (limits : Limits) (nodes : limits.nodes ≡ found.nodes) where
    pub begun_holds : keeps_word → Holds (volume_state_by version limits (found.run + 1) cached_nodes new)
    begun_holds k = holds_base version limits (found.run + 1) cached_nodes new started.rests.listed
        (subst (λ (n : ℕ). ∥ StandsNow version new.size n (contents new) (found.run + 1) (kept_in_image version (contents new) cached_nodes) ∥₁) (sym nodes) (stands_there k))
        started.rests.placed (started.settled k)

    pub begun_current : keeps_word
        → LeavesCurrent (volume_state_by version limits (found.run + 1) cached_nodes new)
    begun_current k image left = ∥∥₁_map (stands_base k) (λ stands. (
      new.base,
      settles_placed version new.area new.size image new.base started.rests.placed (started.settled k image left),
      subst (λ (n : ℕ). StandsNow version new.size n new.base (found.run + 1) (kept_in_image version (contents new) cached_nodes)) (sym nodes) stands,
    ))

pub raised_from : (found : Superblock) (old mid : Log) (new : History) → mid ≡ record old { is_down = mid.is_down }
    → AddsRaised found mid.base mid.history new → AddsRaised found old.base old.history new
raised_from found old mid new only adds =
    subst (λ (image : Image). AddsRaised found image old.history new) (ap (λ (log : Log). log.base) only)
    (subst (λ (history : History). AddsRaised found mid.base history new) (ap (λ (log : Log). log.history) only) adds)

-- if the base has no mark, none was read, so the run begins with few writes
pub begun_brief : (found : Superblock) (base : Image) (mark : Option ℕ) (old mid new : History) → IsNumber found.version → IsTrue (size_by found.version found.sectors found.nodes)
    → IsMark found.version found.nodes mark → base 147 ≡ mark_held mark → mid ≡ old → (found.version ≡ served found.version → mark ≡ None → moment new ≤ moment mid + 4) → BeginsBriefly found base old new
begun_brief found base mark old mid new number size is marked same few (stays, unmarked) =
    let region = version_region found.version None no_seats found.sectors found.nodes number size in
    let least = few stays (one_mark found.version found.nodes mark None (few_nodes (version_by found.version None no_seats) found.sectors found.nodes region) is tt (sym marked ∙ unmarked)) in
    omega (arith, least, ap moment same)

-- and no more than a run that begins
pub begun_bounded : (found : Superblock) (old mid new : History) → mid ≡ old → moment new ≤ moment mid + begin_cost found → moment new ≤ moment old + begin_cost found
begun_bounded found old mid new same few = omega (arith, few, ap moment same)

-- if nothing was done, little was
pub stays_brief : (found : Superblock) (base : Image) (old new : History) → new ≡ old → BeginsBriefly found base old new
stays_brief found base old new same needs = omega (arith, ap moment same)

-- if the nodes were not read, nothing was written
pub not_loaded : (found : Superblock) (old mid : Log) (new : History) (fault : MountFault) → mid ≡ record old { is_down = mid.is_down } → new ≡ mid.history
    → (fault ≡ mounts.Damaged → (kept : Kept) → StandsOn found old.base kept → ⊥)
    → (fault ≡ mounts.Device) ⊎ ((fault ≡ mounts.Damaged) ⊎ (fault ≡ mounts.Memory)) → IsNotBegun found old.base old.history new fault
not_loaded found old mid new fault only is damaged reasons =
    let same : new ≡ old.history = is ∙ ap (λ (log : Log). log.history) only in
    record {
      moments = λ kept stands. subst (AddsOnly (StandsForEither found kept) old.history) (sym same) (AddsOnly-same (StandsForEither found kept) old.history);
      brief = stays_brief found old.base old.history new same;
      bounded = omega (arith, ap moment same);
      no_tree = damaged;
      untouched = λ other. same;
      only = reasons;
    }

not_damaged : (fault : MountFault) → (fault ≡ mounts.Device) ⊎ (fault ≡ mounts.Memory) → fault ≡ mounts.Damaged → ⊥
not_damaged fault reasons damaged = ⊎_elim
    (λ (device : fault ≡ mounts.Device). let both : mounts.Damaged ≡ mounts.Device = sym damaged ∙ device in let never : ⊥ = cc in never)
    (λ (memory : fault ≡ mounts.Memory). let both : mounts.Damaged ≡ mounts.Memory = sym damaged ∙ memory in let never : ⊥ = cc in never)
    reasons

-- if the run did not begin, the device failed in it, or there was no memory for it
pub not_started : (found : Superblock) (old mid after : Log) (new : History) (fault : MountFault) → mid ≡ record old { is_down = mid.is_down } → new ≡ after.history
    → AddsRaised found mid.base mid.history after.history → (fault ≡ mounts.Device) ⊎ (fault ≡ mounts.Memory)
    → (fault ≡ mounts.Memory → after ≡ mid) → BeginsBriefly found old.base old.history after.history
    → moment after.history ≤ moment old.history + begin_cost found → IsNotBegun found old.base old.history new fault
not_started found old mid after new fault only is adds reasons memory brief bounded = record {
  moments = subst (AddsRaised found old.base old.history) (sym is) (raised_from found old mid after.history only adds);
  brief = subst (BeginsBriefly found old.base old.history) (sym is) brief;
  bounded = omega (arith, bounded, ap moment is);
  no_tree = λ damaged. absurd (not_damaged fault reasons damaged);
  untouched = λ other. ⊎_elim
      (λ (device : fault ≡ mounts.Device). absurd (other device))
      (λ (refused : fault ≡ mounts.Memory). is ∙ (ap (λ (log : Log). log.history) (memory refused) ∙ ap (λ (log : Log). log.history) only))
      reasons;
  only = ⊎_elim (λ (device : fault ≡ mounts.Device). inl device) (λ (refused : fault ≡ mounts.Memory). inr (inr refused)) reasons;
}

-- The result of a mount, by what its parts find.
use Rattle.std.proofs.Common.{◌≡◌, ◌≤◌, ◌+◌, ◌*◌, ◌⊎◌, ◌∙◌, ℕ, List, [], ◌∷◌, length, inl, inr, ⊎_elim, refl, sym, ap, subst, arith}
use Rattle.disk.specs.Cause.{IsCounted}
use Rattle.disk.specs.Moments.{Image, History, AddsOnly, moment, seen, synced}
use Rattle.journal.specs.declared.fault.JournalFault.{JournalFault}
use Rattle.journal.specs.declared.fault.JournalFault.TheVariants as journals
use Rattle.journal.specs.Recover.{LeavesOnlySynced, recovery_cost}
use Rattle.journal.specs.Settled.{Settles, SettlesAs}
use Rattle.layout.specs.Stands.{Kept, served}
use Rattle.layout.specs.declared.versions.VersionNumber.{VersionNumber}
use Rattle.volume.specs.declared.fault.MountFault.{MountFault}
use Rattle.volume.specs.declared.fault.MountFault.TheVariants as mounts
use Rattle.volume.specs.declared.mount.Superblock.{Superblock}
use Rattle.volume.specs.declared.volume.Unmounted.{Unmounted}
use Rattle.volume.specs.declared.superblock.Verdict.TheVariants as verdicts
use Rattle.volume.specs.VolumeState.{VolumeState, flush_cost, kept_of}
use Rattle.volume.specs.MountAnswers.{first_log, first_verdict, HasMounted, MountIsBounded, MountsBriefly, NeedsNoMigration, OnlyReplays, HasReason, IsMountRefused, ComesBack}
use Rattle.volume.specs.Mounts.{AddsRaised, BeginsBriefly, HasBegun, HasSize, IsNotBegun, NeedsNoMove, begin_cost, moving_transactions}
use Rattle.volume.specs.Refusals.{gate_fault}
use Rattle.volume.specs.Remounts.{AddsMount}
use Rattle.volume.specs.Stands.{IsBase}
use Rattle.volume.specs.Superblock.{nodes_in, superblock, version_in}
use Rattle.disk.proofs.MomentLemmas.{AddsOnly-same}
use Rattle.volume.proofs.FirstLaws.{word_nodes}
use Rattle.volume.proofs.KeepLaws.{counted_later}
use Rattle.volume.proofs.FoundLaws.{Leaves, count_full, found_few, found_moments, found_stands, found_version, is_volume_there, not_damaged, seen_settles, seen_stands, settled_moments}

untouched_replays : (sectors : ℕ) (old new : History) → new ≡ old → OnlyReplays sectors old new
untouched_replays sectors old new same = record {
  moments = subst (λ (h : History). AddsOnly (SettlesAs (first_log sectors old) (seen old.now)) old h) (sym same) (AddsOnly-same (SettlesAs (first_log sectors old) (seen old.now)) old);
  formless = λ none. inl same;
}

untouched_mount : (sectors : ℕ) (old new : History) → new ≡ old → AddsMount sectors old new
untouched_mount sectors old new same nodes run kept base = subst (AddsOnly _ old) (sym same) (AddsOnly-same _ old)

-- a recovery of what a commit record may name
recovery_few : (sectors : ℕ) (to : List ℕ) → length to ≤ sectors → recovery_cost to ≤ sectors + 6
recovery_few sectors [] few = omega (arith, few)
recovery_few sectors (sector ∷ to) few = omega (arith, few)

-- at most what the recovery of a full log costs
abbrev RecoversFew : (sectors : ℕ) → (old new : History) → Type 0
RecoversFew sectors old new = moment new ≤ moment old + ((first_log sectors old).sectors + 6)

pub recovered_few : (sectors : ℕ) (old new : History) (base : Image) (settles : Settles (first_log sectors old) (seen old.now) base) → moment new ≡ moment old + recovery_cost settles.to
    → RecoversFew sectors old new
recovered_few sectors old new base settles cost = let most = recovery_few (first_log sectors old).sectors settles.to settles.few in omega (arith, cost, most)

untouched_few : (sectors : ℕ) (old new : History) → new ≡ old → RecoversFew sectors old new
untouched_few sectors old new same = omega (arith, ap moment same)

-- what costs no more than a recovery does not cost more than a mount
pub recovered_brief : (sectors : ℕ) (old new : History) → RecoversFew sectors old new → MountsBriefly sectors old new
recovered_brief sectors old new few needs = omega (arith, few)

within_mount : (least log moving now : ℕ) → now ≤ least + (log + 6) → now ≤ least + (log + 10 + moving)
within_mount least log moving now few = omega (arith, few)

-- the cost of moving the nodes
abbrev moving_cost : VersionNumber → (sectors nodes : ℕ) → ℕ
moving_cost version sectors nodes = flush_cost version sectors * (moving_transactions version nodes + 1)

whole_mount : (least between log moving begun now : ℕ) → moving ≡ begun → now ≤ between + (4 + begun) → between ≤ least + (log + 6) → now ≤ least + (log + 10 + moving)
whole_mount least between log moving begun now same begins few = omega (arith, same, begins, few)

-- nor more than any mount
pub recovered_bounded : (sectors : ℕ) (old new : History) → RecoversFew sectors old new → MountIsBounded sectors old new
recovered_bounded sectors old new few =
    within_mount (moment old) (first_log sectors old).sectors (moving_cost (version_in (seen old.now 0)) sectors (nodes_in (seen old.now 0))) (moment new) few

-- nothing was asked of the device
pub refused_untouched : (sectors : ℕ) (old new : History) (fault : MountFault) → new ≡ old → HasReason sectors old new fault → IsMountRefused sectors old new fault
refused_untouched sectors old new fault same reason = record {
  moments = untouched_mount sectors old new same;
  brief = recovered_brief sectors old new (untouched_few sectors old new same);
  bounded = recovered_bounded sectors old new (untouched_few sectors old new same);
  writes = λ other. untouched_replays sectors old new same;
  reason = reason;
}

-- refused because of the first sector
module _ (sectors : ℕ) (old new : History) (same : new ≡ old) where
  pub first_reason : (fault : MountFault) → (fault ≡ mounts.NotVolume → first_verdict sectors old ≡ verdicts.NotVolume) → (fault ≡ mounts.Worn → first_verdict sectors old ≡ verdicts.Worn)
      → (fault ≡ mounts.Damaged → first_verdict sectors old ≡ verdicts.Damaged) → HasReason sectors old new fault
  first_reason mounts.NotVolume none worn damaged = record {
    first = none refl;
    no_tree = λ nodes run kept base. is_volume_there sectors nodes run kept (seen old.now) base (none refl);
    untouched = same;
  }
  first_reason mounts.Worn none worn damaged = record {
    first = worn refl;
    full = λ nodes run kept base. count_full sectors nodes run kept (seen old.now) base (worn refl);
    untouched = same;
  }
  first_reason mounts.Damaged none worn damaged = record {
    first = inl (damaged refl, same);
    no_tree = λ nodes run kept base. not_damaged sectors nodes run kept (seen old.now) base (damaged refl);
  }
  first_reason mounts.Memory none worn damaged = tt
  first_reason mounts.Device none worn damaged = tt

-- the device that comes back is that which was passed on, of the same size and with no fewer
-- failures
pub back_since : {D : Type 0} (size failed : D → ℕ) (was failures sectors between : ℕ) (unmounted : Unmounted D) → sectors ≡ was → between ≡ failures
    → ComesBack size failed sectors between unmounted → ComesBack size failed was failures unmounted
back_since size failed was failures sectors between unmounted same stays back = record {
  same_size = back.same_size ∙ same;
  later = omega (arith, stays, back.later);
  cause = λ is. counted_later failures between (failed unmounted.device) (omega (arith, stays)) (back.cause is);
  none = λ other. back.none other ∙ stays;
}

-- refused at the commit record
pub gate_counted : (before after : ℕ) (fault : JournalFault) → (fault ≡ journals.Fault) ⊎ ((fault ≡ journals.Damaged) ⊎ (fault ≡ journals.Memory))
    → (fault ≡ journals.Fault → IsCounted before after) → gate_fault fault ≡ mounts.Device → IsCounted before after
gate_counted before after fault reasons counted is = ⊎_elim counted
    (⊎_elim
    (λ (damaged : fault ≡ journals.Damaged). let other : mounts.Damaged ≡ mounts.Device = sym (ap gate_fault damaged) ∙ is in let never : ⊥ = cc in absurd never)
    (λ (memory : fault ≡ journals.Memory). let other : mounts.Memory ≡ mounts.Device = sym (ap gate_fault memory) ∙ is in let never : ⊥ = cc in absurd never))
    reasons

module _ (sectors : ℕ) (old new : History) (sound : first_verdict sectors old ≡ verdicts.Sound) (replays : AddsOnly (SettlesAs (first_log sectors old) (seen old.now)) old new)
    (few : RecoversFew sectors old new) where
  settled_mount : AddsMount sectors old new
  settled_mount nodes run kept base = settled_moments sectors nodes run kept (seen old.now) base old new replays

  failed : IsMountRefused sectors old new mounts.Device
  failed = record {
    moments = settled_mount;
    brief = recovered_brief sectors old new few;
    bounded = recovered_bounded sectors old new few;
    writes = λ other. absurd (other refl);
    reason = tt;
  }

  pub gate_refused : (fault : JournalFault) → (fault ≡ journals.Damaged → LeavesOnlySynced (first_log sectors old) old new) → (fault ≡ journals.Memory → new ≡ old)
      → IsMountRefused sectors old new (gate_fault fault)
  gate_refused journals.Memory damaged memory = refused_untouched sectors old new mounts.Memory (memory refl) tt
  gate_refused journals.Damaged damaged memory = record {
    moments = settled_mount;
    brief = recovered_brief sectors old new few;
    bounded = recovered_bounded sectors old new few;
    writes = λ other. record { moments = replays; formless = λ none. inr (damaged refl).only_synced };
    reason = record { first = inr sound; no_tree = λ nodes run kept base. (damaged refl).formless base.base (seen_settles sectors nodes run kept (seen old.now) base) };
  }
  gate_refused journals.Fault damaged memory = failed
  gate_refused journals.TooMany damaged memory = failed
  gate_refused journals.Down damaged memory = failed

-- on the base that the journal found
module _ (sectors : ℕ) (old mid : History) (found : Superblock) (base : Image) (is : HasSize sectors found) (sound : first_verdict sectors old ≡ verdicts.Sound)
    (first : seen old.now 0 ≡ superblock found.version found.sectors found.nodes found.run) (settles : Settles (first_log sectors old) (seen old.now) base)
    (replays : AddsOnly (SettlesAs (first_log sectors old) (seen old.now)) old mid) (few : RecoversFew sectors old mid) where
  version_is : version_in (seen old.now 0) ≡ found.version
  version_is = found_version sectors (seen old.now 0) found is first

  nodes_are : nodes_in (seen old.now 0) ≡ found.nodes
  nodes_are = ap nodes_in first ∙ word_nodes found.version found.sectors found.nodes found.run (found_few sectors found is)

  needs_no_move : NeedsNoMigration sectors old → NeedsNoMove found base
  needs_no_move needs = (subst (λ (v : VersionNumber). v ≡ served v) version_is needs.version, needs.unmarked base settles)

  mounts_briefly : (new : History) → BeginsBriefly found base mid new → MountsBriefly sectors old new
  mounts_briefly new begins needs = let least = begins (needs_no_move needs) in omega (arith, least, few)

  -- the version and the number of nodes that were found are those of the first sector
  same_cost : moving_cost (version_in (seen old.now 0)) sectors (nodes_in (seen old.now 0)) ≡ moving_cost found.version found.sectors found.nodes
  same_cost = ap (λ (v : VersionNumber). moving_cost v sectors (nodes_in (seen old.now 0))) version_is
      ∙ (ap (λ (n : ℕ). moving_cost found.version sectors n) nodes_are ∙ ap (λ (s : ℕ). moving_cost found.version s found.nodes) (sym is.size))

  mount_bounded : (new : History) → moment new ≤ moment mid + begin_cost found → MountIsBounded sectors old new
  mount_bounded new begins =
      whole_mount (moment old) (moment mid) (first_log sectors old).sectors _ _ (moment new) same_cost begins few

  on_base : (start new : History) → AddsOnly (SettlesAs (first_log sectors old) (seen old.now)) start mid → AddsRaised found base mid new
      → (nodes run : ℕ) (kept : Kept) (stood : IsBase sectors nodes run kept (seen old.now)) → AddsOnly (Leaves sectors nodes run kept (seen old.now) stood) start new
  on_base start new before after nodes run kept stood = found_moments sectors nodes run kept (seen old.now) stood base settles found is first start mid new before (after kept)

  pub begun_found : (held : VolumeState) → AddsOnly (SettlesAs (first_log sectors old) (seen old.now)) (synced old) mid → HasBegun found base mid held → HasMounted sectors old held
  begun_found held since begun = record {
    first = sound;
    found = record {
      run = found.run;
      raised = begun.run;
      stood = seen_stands sectors (seen old.now) base found is first settles held.limits.nodes (kept_of held) begun.nodes begun.stood;
    };
    moments = on_base old held.history replays begun.moments;
    since_sync = on_base (synced old) held.history since begun.moments;
    steps = omega (arith, since.later, begun.steps);
    brief = mounts_briefly held.history begun.brief;
    bounded = mount_bounded held.history begun.bounded;
    current = begun.current;
    holds = begun.holds;
  }

  pub begin_refused : (new : History) (fault : MountFault) → IsNotBegun found base mid new fault → IsMountRefused sectors old new fault
  begin_refused new fault refused = record {
    moments = on_base old new replays refused.moments;
    brief = mounts_briefly new refused.brief;
    bounded = mount_bounded new refused.bounded;
    writes = λ other. record {
      moments = subst (λ (h : History). AddsOnly (SettlesAs (first_log sectors old) (seen old.now)) old h) (sym (refused.untouched other)) replays;
      formless = λ none. absurd (none base settles);
    };
    reason = ⊎_elim
        (λ (device : fault ≡ mounts.Device). subst (HasReason sectors old new) (sym device) tt)
        (λ (rest : (fault ≡ mounts.Damaged) ⊎ (fault ≡ mounts.Memory)). ⊎_elim
        (λ (damaged : fault ≡ mounts.Damaged). subst (HasReason sectors old new) (sym damaged) (record {
          first = inr sound;
          no_tree = λ nodes run kept stood. refused.no_tree damaged kept (found_stands sectors nodes run kept (seen old.now) stood base settles found is first);
        }))
        (λ (memory : fault ≡ mounts.Memory). subst (HasReason sectors old new) (sym memory) tt)
        rest)
        refused.only;
  }

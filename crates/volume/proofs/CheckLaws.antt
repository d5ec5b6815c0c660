-- The result of a check, by what its parts find.
use Rattle.std.proofs.Common.{◌≡◌, ◌≢◌, ◌<◌, ◌≤◌, ◌⊎◌, ℕ, Bool, List, None, Option, Err, ⊎_elim, ap, refl, sym, ◌∙◌, subst}
use Rattle.std.proofs.Math.Logic.{∥∥₁_map}
use Rattle.disk.specs.Cause.{IsCounted}
use Rattle.disk.specs.Moments.{Image, History, seen}
use Rattle.journal.specs.Log.{Log}
use Rattle.journal.specs.Settled.{Settles}
use Rattle.journal.specs.Viewed.{HasNoForm, HasViewed}
use Rattle.journal.specs.declared.fault.JournalFault.{JournalFault}
use Rattle.journal.specs.declared.fault.JournalFault.TheVariants as journals
use Rattle.journal.specs.declared.layout.LogArea.{LogArea}
use Rattle.journal.proofs.First.{first_kept}
use Rattle.layout.specs.CachedNodes.{CachedNode}
use Rattle.layout.specs.Stands.{Kept, log_by, number_of_version, version_by}
use Rattle.layout.specs.declared.versions.VersionNumber.{VersionNumber}
use Rattle.model_tree.specs.Seats.Seats.{Seats, no_seats}
use Rattle.layout.proofs.KeptLaws.{stands_by}
use Rattle.layout.proofs.SeatLaws.{version_region}
use Rattle.volume.specs.Checks.{IsSeen, HasChecked, FailsCheck, Checks}
use Rattle.volume.specs.Loads.{AreLoaded, HoldsVolume, read_as}
use Rattle.volume.specs.MountAnswers.{first_log, first_verdict}
use Rattle.volume.specs.Mounts.{HasSize, StandsOn}
use Rattle.volume.specs.Refusals.{gate_fault}
use Rattle.volume.specs.Stands.{StandsFor}
use Rattle.volume.specs.Superblock.{FindsVersion, mount_verdict, superblock, version_in, word}
use Rattle.volume.specs.declared.checking.Checked.{Checked}
use Rattle.volume.specs.declared.fault.MountFault.{MountFault}
use Rattle.volume.specs.declared.fault.MountFault.TheVariants as mounts
use Rattle.volume.specs.declared.mount.Superblock.{Superblock}
use Rattle.volume.specs.declared.superblock.Verdict.TheVariants as verdicts
use Rattle.volume.proofs.FirstLaws.{not_volume_on_few, volume_there}
use Rattle.volume.proofs.FoundLaws.{found_log, found_stands, found_version, is_volume_there, encoded, seen_settles, seen_stands}
use Rattle.volume.proofs.StandLaws.{some_sectors}

-- what a check that is refused says by its fault
pub check_refused : {D : Type 0} (keeps_word : Type 0) (size failed : D → ℕ) (history : D → History) (old new : D) (fault : MountFault)
    → (keeps_word → FailsCheck (size old) (history old) fault) → (fault ≡ mounts.Worn → ⊥) → (fault ≡ mounts.Device → IsCounted (failed old) (failed new))
    → ((fault ≡ mounts.Device → ⊥) → failed new ≡ failed old) → history new ≡ history old → failed old ≤ failed new → size new ≡ size old → Checks keeps_word size failed history old new (Err fault)
check_refused keeps_word size failed history old new fault err never_worn cause none untouched later same_size = record {
  ok = λ k. tt;
  err = err;
  never_worn = λ is. never_worn (cc);
  cause = λ is. cause (cc);
  none = λ other. none (λ is. other (ap (λ x. Err x) is));
  untouched = untouched;
  later = later;
  same_size = same_size;
}

-- the first sector was not read
pub first_seen : (sectors : ℕ) (sector : List ℕ) (fault : MountFault) → (fault ≡ mounts.NotVolume → sectors < 256)
    → (fault ≡ mounts.NotVolume) ⊎ (fault ≡ mounts.Device) → IsSeen sectors sector (Err fault)
first_seen sectors sector fault few only = ⊎_elim
    (λ (none : fault ≡ mounts.NotVolume). subst (λ (f : MountFault). IsSeen sectors sector (Err f)) (sym none) (not_volume_on_few sectors sector (few none)))
    (λ (failed : fault ≡ mounts.Device). subst (λ (f : MountFault). IsSeen sectors sector (Err f)) (sym failed) tt)
    only

-- it was read, and is that of a volume

pub seen_volume : (at size : ℕ) (first sector : List ℕ) (version : VersionNumber) → at ≡ size → first ≡ sector → FindsVersion at first version → mount_verdict size sector ≢ verdicts.NotVolume
seen_volume at size first sector version sizes same found =
    subst (λ (s : List ℕ). mount_verdict size s ≢ verdicts.NotVolume) same (subst (λ (n : ℕ). mount_verdict n first ≢ verdicts.NotVolume) sizes (volume_there at first found.volume))

-- but not what its numbers encode
pub seen_damaged : (at size nodes run : ℕ) (first sector encoding : List ℕ) (version : VersionNumber) → at ≡ size → first ≡ sector → FindsVersion at first version → nodes ≡ word 16 first → run ≡ word 20 first
    → encoding ≡ superblock version at nodes run → (first ≡ encoding → ⊥) → IsSeen size sector (Err mounts.Damaged)
seen_damaged at size nodes run first sector encoding version sizes same found nodes_is run_is encodes other = (
  seen_volume at size first sector version sizes same found,
  λ is. other (same ∙ (is ∙ (ap (λ (s : List ℕ). superblock (version_in s) size (word 16 s) (word 20 s)) (sym same)
      ∙ (ap (λ (v : VersionNumber). superblock v size (word 16 first) (word 20 first)) found.version ∙ (ap (λ (n : ℕ). superblock version n (word 16 first) (word 20 first)) (sym sizes)
      ∙ (ap (λ (n : ℕ). superblock version at n (word 20 first)) (sym nodes_is) ∙ (ap (λ (r : ℕ). superblock version at nodes r) (sym run_is) ∙ sym encodes))))))),
)

-- refused because of the first sector
pub look_fails : (sectors : ℕ) (old : History) (fault : MountFault) → IsSeen sectors (seen old.now 0) (Err fault) → FailsCheck sectors old fault
look_fails sectors old mounts.NotVolume is = (is, λ nodes run kept base. is_volume_there sectors nodes run kept (seen old.now) base is)
look_fails sectors old mounts.Damaged is = (is.0, λ nodes run kept base. is.1 (encoded sectors nodes run kept (seen old.now) base))
look_fails sectors old mounts.Worn is = absurd is
look_fails sectors old mounts.Memory is = absurd is
look_fails sectors old mounts.Device is = tt

-- what is viewed of a device that was only read

pub viewed_there : (log area : LogArea) (old read : History) (view : Log) → area ≡ log → read ≡ old → HasViewed area read view → HasViewed log old view
viewed_there log area old read view places same viewed = subst (λ (l : LogArea). HasViewed l old view) places (subst (λ (h : History). HasViewed area h view) same viewed)

pub no_form_there : (log area : LogArea) (old read : History) → area ≡ log → read ≡ old → HasNoForm area read → HasNoForm log old
no_form_there log area old read places same none = subst (λ (l : LogArea). HasNoForm l old) places (subst (λ (h : History). HasNoForm area h) same none)

-- With the first sector of a volume
module _ (sectors : ℕ) (old : History) (found : Superblock) (is : HasSize sectors found) (first : seen old.now 0 ≡ superblock found.version found.sectors found.nodes found.run) where
  -- its log is where the first sector has it
  log_is : log_by found.version found.sectors ≡ first_log sectors old
  log_is = found_log sectors (seen old.now 0) found is first

  -- refused at the commit record
  pub gate_fails : (fault : JournalFault) → first_verdict sectors old ≢ verdicts.NotVolume
      → (fault ≡ journals.Damaged → HasNoForm (log_by found.version found.sectors) old) → FailsCheck sectors old (gate_fault fault)
  gate_fails journals.Memory volume damaged = tt
  gate_fails journals.Damaged volume damaged = (
    volume,
    λ nodes run kept base. damaged refl base.base
        (subst (λ (l : LogArea). Settles l (seen old.now) base.base) (sym log_is) (seen_settles sectors nodes run kept (seen old.now) base)),
  )
  gate_fails journals.Fault volume damaged = tt
  gate_fails journals.TooMany volume damaged = tt
  gate_fails journals.Down volume damaged = tt

  -- what is viewed of a volume
  pub view_holds : (log : Log) → HasViewed (log_by found.version found.sectors) old log → HoldsVolume found log.size log.base
  view_holds log viewed = record {
    first = (let some = some_sectors (version_by found.version None no_seats) found.sectors found.nodes (version_region found.version None no_seats found.sectors found.nodes is.number is.sized) in
        first_kept (log_by found.version found.sectors) (seen old.now) log.base some viewed.base ∙ first);
    sectors = λ n within. viewed.sectors n within;
  }

  module _ (base : Image) (volume : first_verdict sectors old ≢ verdicts.NotVolume) (settles : Settles (log_by found.version found.sectors) (seen old.now) base) where
    seen_settled : Settles (first_log sectors old) (seen old.now) base
    seen_settled = subst (λ (l : LogArea). Settles l (seen old.now) base) log_is settles

    -- refused because of its nodes
    pub nodes_fail : (fault : MountFault) → (fault ≡ mounts.Damaged → (kept : Kept) → StandsOn found base kept → ⊥)
        → (fault ≡ mounts.Device) ⊎ ((fault ≡ mounts.Damaged) ⊎ (fault ≡ mounts.Memory)) → FailsCheck sectors old fault
    nodes_fail fault none only = ⊎_elim
        (λ (device : fault ≡ mounts.Device). subst (FailsCheck sectors old) (sym device) tt)
        (λ (rest : (fault ≡ mounts.Damaged) ⊎ (fault ≡ mounts.Memory)). ⊎_elim
        (λ (damaged : fault ≡ mounts.Damaged). subst (FailsCheck sectors old) (sym damaged) (
          volume,
          λ nodes run kept stands. none damaged kept (found_stands sectors nodes run kept (seen old.now) stands base seen_settled found is first),
        ))
        (λ (memory : fault ≡ mounts.Memory). subst (FailsCheck sectors old) (sym memory) tt)
        rest)
        only

    -- the volume holds the tree of its nodes
    pub has_checked : (keeps_word : Type 0) → keeps_word → (mark : Option ℕ) (cached_nodes : List (Option CachedNode)) (seats : Seats) (places : List Bool) → AreLoaded keeps_word found base mark cached_nodes seats places
        → (checked : Checked) → checked.version ≡ number_of_version found.version → checked.sectors ≡ found.sectors → checked.nodes ≡ found.nodes → checked.count ≡ found.run → HasChecked sectors old checked
    has_checked keeps_word k mark cached_nodes seats places loaded checked same_version same_sectors same_nodes same_run = record {
      first = volume;
      sectors_are = same_sectors ∙ is.size;
      version = same_version ∙ ap number_of_version (sym (found_version sectors (seen old.now 0) found is first));
      kept = read_as base cached_nodes seats;
      stands = subst (λ (r : ℕ). StandsFor sectors checked.nodes r (read_as base cached_nodes seats) (seen old.now)) (sym same_run)
          (seen_stands sectors (seen old.now) base found is first seen_settled checked.nodes (read_as base cached_nodes seats) same_nodes
          (∥∥₁_map (loaded.stood k) (λ stands. stands_by found.version mark found.sectors found.nodes base found.run (read_as base cached_nodes seats) is.number loaded.marked stands.may stands.keeps stands.stands)));
    }

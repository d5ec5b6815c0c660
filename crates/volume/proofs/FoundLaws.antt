-- What a mount finds is the tree that the device held.
use Rattle.std.proofs.Common.{ℕ, List, Bool, true, false, None, ◌≡◌, ◌+◌, ◌<◌, ◌⊎◌, ◌^◌, inl, refl, sym, ap, ◌∙◌, subst, arith, not, cond, true≢false, eqb}
use Rattle.std.proofs.Math.Logic.{∥∥₁_map}
use Rattle.std.proofs.lemmas.Bool.{eqb-true}
use Rattle.std.specs.Prelude.{Result, Ok, Err, IfOk, IfErr, bytes_eq}
use Rattle.std.specs.Cmp.Lexicographic.{bytes_decides}
use Rattle.disk.specs.Moments.{Image, History, AddsOnly, seen}
use Rattle.disk.proofs.MomentLemmas.{AddsOnly-weaken, AddsOnly-join}
use Rattle.journal.specs.Settled.{AreSame, Settles, SettlesAs}
use Rattle.journal.specs.declared.fault.JournalFault.{JournalFault}
use Rattle.journal.specs.declared.fault.JournalFault.TheVariants as journals
use Rattle.journal.specs.declared.layout.LogArea.{LogArea}
use Rattle.journal.proofs.First.{first_kept}
use Rattle.journal.proofs.Recovers.{settles_once}
use Rattle.layout.specs.Stands.{Kept, TreeStands, Version, end_of, log_by, number_of_version, served, served_number, version_by}
use Rattle.layout.specs.declared.versions.VersionNumber.{VersionNumber}
use Rattle.layout.specs.declared.versions.VersionNumber.TheVariants as numbers
use Rattle.layout.proofs.FirstLaws.{few_nodes}
use Rattle.layout.proofs.KeptLaws.{VersionParts}
use Rattle.layout.proofs.OneKept.{in_its, its}
use Rattle.layout.proofs.SeatLaws.{version_region}
use Rattle.model_tree.specs.Seats.Seats.{no_seats}
use Rattle.volume.specs.declared.fault.MountFault.TheVariants as mounts
use Rattle.volume.specs.declared.mount.Superblock.{Superblock}
use Rattle.volume.specs.declared.superblock.Verdict.TheVariants.{NotVolume, Worn, Damaged, Sound}
use Rattle.volume.specs.MountAnswers.{first_log}
use Rattle.volume.specs.Mounts.{HasSize, IsVolumeOf}
use Rattle.volume.specs.Refusals.{gate_fault}
use Rattle.volume.specs.Stands.{VolumeStands, IsBase, StandsFor, StandsForIn}
use Rattle.volume.specs.Superblock.{is_volume, log_in, superblock, mount_verdict, version_in, word, last_run}
use Rattle.volume.proofs.FirstLaws.{has_sizes, word_nodes, word_run, version_back, volume_first}
use Rattle.volume.proofs.StandLaws.{is_area, some_sectors, stands_same, told_log}

-- Results

-- several facts of one result, one of them if the word is kept
pub if_ok_all : {T E : Type 0} (r : Result T E) (keeps_word : Type 0) (P Q R S : T → Type 0) → ((x : T) → P x → Q x → (keeps_word → R x) → S x)
    → IfOk r P → IfOk r Q → (keeps_word → IfOk r R) → IfOk r S
if_ok_all (Ok x) keeps_word P Q R S so first second kept = so x first second kept
if_ok_all (Err e) keeps_word P Q R S so first second kept = tt

pub if_err_all : {T E : Type 0} (r : Result T E) (keeps_word : Type 0) (P Q S : E → Type 0) → ((x : E) → P x → (keeps_word → Q x) → S x)
    → IfErr r P → (keeps_word → IfErr r Q) → IfErr r S
if_err_all (Ok x) keeps_word P Q S so first kept = tt
if_err_all (Err e) keeps_word P Q S so first kept = so e first kept

-- The first sector

served_is : (version : VersionNumber) → number_of_version (served version) ≡ served_number (number_of_version version)
served_is numbers.One = refl
served_is numbers.Two = refl
served_is (numbers.Three s) = refl

-- what a mount finds: it has the version of the first sector, and its log
pub has_size : (sectors : ℕ) (found : Superblock) → IsVolumeOf sectors found → HasSize sectors found
has_size sectors found is = record { size = is.size; number = is.number; sized = is.sized; counted = omega (arith, is.counted) }

pub found_few : (sectors : ℕ) (found : Superblock) → HasSize sectors found → found.nodes < 2 ^ 32
found_few sectors found is =
    few_nodes (version_by found.version None no_seats) found.sectors found.nodes (version_region found.version None no_seats found.sectors found.nodes is.number is.sized)

pub found_version : (sectors : ℕ) (sector : List ℕ) (found : Superblock) → HasSize sectors found → sector ≡ superblock found.version found.sectors found.nodes found.run → version_in sector ≡ found.version
found_version sectors sector found is first =
    ap version_in first ∙ version_back found.version found.sectors found.nodes found.run (has_sizes found.version found.sectors found.nodes is.number is.sized)

pub found_log : (sectors : ℕ) (sector : List ℕ) (found : Superblock) → HasSize sectors found → sector ≡ superblock found.version found.sectors found.nodes found.run
    → log_by found.version found.sectors ≡ log_in sectors sector
found_log sectors sector found is first = ap (log_by found.version) is.size ∙ ap (λ (v : VersionNumber). log_by v sectors) (sym (found_version sectors sector found is first))

-- what holds of the log that was found, holds of the first sector's
pub as_found : (sectors : ℕ) (old mid : History) (found : Superblock) (area : LogArea) (P : LogArea → History → Type 0) → HasSize sectors found
    → seen old.now 0 ≡ superblock found.version found.sectors found.nodes found.run → area ≡ log_by found.version found.sectors → mid ≡ old → P area mid → P (first_log sectors old) old
as_found sectors old mid found area P is first placed same holds =
    subst (λ (log : LogArea). P log old) (placed ∙ found_log sectors (seen old.now 0) found is first) (subst (P area) same holds)

module _ (size nodes run : ℕ) (kept : Kept) (seen : Image) (base : IsBase size nodes run kept seen) where
  small_nodes : nodes < 2 ^ 32
  small_nodes = few_nodes base.stands.version size nodes base.stands.stands.region

  pub small : size < 2 ^ 32
  small = base.stands.stands.region.numbers

  abbrev parts : VersionParts nodes base.stands.version kept.seats
  parts = its size nodes base.base run kept base.stands

  abbrev version : VersionNumber
  version = parts.number

  there : TreeStands (version_by version parts.mark kept.seats) size nodes base.base run kept.tree
  there = in_its size nodes base.base run kept base.stands

  number_is : base.stands.version.number ≡ number_of_version version
  number_is = ap (λ (of : Version). of.number) parts.same

  log_is : base.stands.version.log size ≡ log_by version size
  log_is = ap (λ (of : Version). of.log size) parts.same

  first_is : seen 0 ≡ superblock version size nodes run
  first_is = sym (first_kept (base.stands.version.log size) seen base.base (some_sectors base.stands.version size nodes base.stands.stands.region) base.settles) ∙ there.first

  pub nodes_is : word 16 (seen 0) ≡ nodes
  nodes_is = ap (word 16) first_is ∙ word_nodes version size nodes run small_nodes

  pub run_is : word 20 (seen 0) ≡ run
  run_is = ap (word 20) first_is ∙ word_run version size nodes run base.stands.stands.counted

  version_is : version_in (seen 0) ≡ version
  version_is = ap version_in first_is ∙ version_back version size nodes run (has_sizes version size nodes parts.is_number there.sized)

  -- the log is where the first sector says
  log_seen : base.stands.version.log size ≡ log_in size (seen 0)
  log_seen = log_is ∙ ap (λ (v : VersionNumber). log_by v size) (sym version_is)

  pub seen_settles : Settles (log_in size (seen 0)) seen base.base
  seen_settles = subst (λ (log : LogArea). Settles log seen base.base) log_seen base.settles

  pub encoded : seen 0 ≡ superblock (version_in (seen 0)) size (word 16 (seen 0)) (word 20 (seen 0))
  encoded = first_is ∙ (ap (λ (n : ℕ). superblock version size n run) (sym nodes_is) ∙ (ap (λ (r : ℕ). superblock version size (word 16 (seen 0)) r) (sym run_is)
      ∙ ap (λ (v : VersionNumber). superblock v size (word 16 (seen 0)) (word 20 (seen 0))) (sym version_is)))

  never_damaged : (volume worn same : Bool) → same ≡ true → cond (not volume) NotVolume (cond worn Worn (cond same Sound Damaged)) ≡ Damaged → ⊥
  never_damaged true false true is h = cc
  never_damaged true false false is h = true≢false (sym is)
  never_damaged true true same is h = cc
  never_damaged false worn same is h = cc

  -- if there is a tree, the first sector is not damaged
  pub not_damaged : mount_verdict size (seen 0) ≡ Damaged → ⊥
  unfolding mount_verdict
  not_damaged is = never_damaged (is_volume size (seen 0)) (eqb (word 20 (seen 0)) last_run) (bytes_eq (seen 0) (superblock (version_in (seen 0)) size (word 16 (seen 0)) (word 20 (seen 0))))
      ((bytes_decides (seen 0) (superblock (version_in (seen 0)) size (word 16 (seen 0)) (word 20 (seen 0)))).1 encoded) is

  never_none : (volume worn same : Bool) → volume ≡ true → cond (not volume) NotVolume (cond worn Worn (cond same Sound Damaged)) ≡ NotVolume → ⊥
  never_none true true same is h = cc
  never_none true false true is h = cc
  never_none true false false is h = cc
  never_none false worn same is h = true≢false (sym is)

  -- and is that of a volume
  pub is_volume_there : mount_verdict size (seen 0) ≡ NotVolume → ⊥
  unfolding mount_verdict
  is_volume_there is = never_none (is_volume size (seen 0)) (eqb (word 20 (seen 0)) last_run) (bytes_eq (seen 0) (superblock (version_in (seen 0)) size (word 16 (seen 0)) (word 20 (seen 0))))
      (ap (is_volume size) first_is ∙ volume_first version size nodes run small small_nodes parts.is_number there.sized) is

  worn_alone : (volume worn same : Bool) → cond (not volume) NotVolume (cond worn Worn (cond same Sound Damaged)) ≡ Worn → worn ≡ true
  worn_alone true true same h = refl
  worn_alone true false true h = absurd (cc)
  worn_alone true false false h = absurd (cc)
  worn_alone false worn same h = absurd (cc)

  -- it is worn only if the count is full
  pub count_full : mount_verdict size (seen 0) ≡ Worn → run + 1 ≡ 2 ^ 32
  unfolding mount_verdict
  count_full is =
      let worn = worn_alone (is_volume size (seen 0)) (eqb (word 20 (seen 0)) last_run)
      (bytes_eq (seen 0) (superblock (version_in (seen 0)) size (word 16 (seen 0)) (word 20 (seen 0)))) is in
      let full : run ≡ last_run = sym run_is ∙ eqb-true (word 20 (seen 0)) last_run worn in
      omega (arith, full)

  -- what may be left of it: in its version and under its count, or in the version in which it is served
  -- and under the next count
  abbrev pub Either : (number next sectors nodes run : ℕ) → Image → Type 0
  Either number next sectors nodes run image = StandsForIn number sectors nodes run kept image ⊎ StandsForIn next sectors nodes (run + 1) kept image

  abbrev pub Leaves : Image → Type 0
  Leaves image = Either base.stands.version.number (served_number base.stands.version.number) size nodes run image

  abbrev settles_alike : (image : Image) → SettlesAs (log_in size (seen 0)) seen image → IsBase size nodes run kept image
  settles_alike image same = record {
    base = base.base;
    stands = base.stands;
    settles = subst (λ (log : LogArea). Settles log image base.base) (sym log_seen) (same base.base seen_settles);
  }

  -- a crash within the journal's mount leaves it
  pub settled_moments : (old new : History) → AddsOnly (SettlesAs (log_in size (seen 0)) seen) old new → AddsOnly Leaves old new
  settled_moments old new moments = AddsOnly-weaken (SettlesAs (log_in size (seen 0)) seen) Leaves old new (λ image same. inl ∣ (settles_alike image same, refl) ∣₁) moments

  module _ (at : Image) (settles : Settles (log_in size (seen 0)) seen at) (found : Superblock) (is : HasSize size found)
      (first : seen 0 ≡ superblock found.version found.sectors found.nodes found.run) where
    same_nodes : found.nodes ≡ nodes
    same_nodes = sym (word_nodes found.version found.sectors found.nodes found.run (found_few size found is)) ∙ (ap (word 16) (sym first) ∙ nodes_is)

    same_run : found.run ≡ run
    same_run = sym (word_run found.version found.sectors found.nodes found.run is.counted) ∙ (ap (word 20) (sym first) ∙ run_is)

    same_version : found.version ≡ version
    same_version = sym (found_version size (seen 0) found is first) ∙ version_is

    same_base : AreSame (end_of base.stands.version size) base.base at
    same_base =
        let log = log_by version size in
        let is_seen : log_in size (seen 0) ≡ log = ap (λ (v : VersionNumber). log_by v size) version_is in
        let few : log.end < 2 ^ 32 = omega (arith, there.region.within, small) in
        subst (λ (l : LogArea). AreSame l.end base.base at) (sym log_is)
        (settles_once log (is_area version size parts.is_number) seen base.base at few
        (subst (λ (l : LogArea). Settles l seen base.base) log_is base.settles) (subst (λ (l : LogArea). Settles l seen at) is_seen settles))

    -- the base that the journal found holds it
    pub found_stands : VolumeStands found.sectors found.nodes at found.run kept
    found_stands = subst (λ (s : ℕ). VolumeStands s found.nodes at found.run kept) (sym is.size)
        (subst (λ (n : ℕ). VolumeStands size n at found.run kept) (sym same_nodes)
        (subst (λ (r : ℕ). VolumeStands size nodes at r kept) (sym same_run)
        (stands_same size nodes base.base at run kept base.stands same_base)))

    same_number : number_of_version found.version ≡ base.stands.version.number
    same_number = ap number_of_version same_version ∙ sym number_is

    same_next : number_of_version (served found.version) ≡ served_number base.stands.version.number
    same_next = served_is found.version ∙ ap served_number same_number

    pub found_moments : (old mid new : History) → AddsOnly (SettlesAs (log_in size (seen 0)) seen) old mid
        → (VolumeStands found.sectors found.nodes at found.run kept
        → AddsOnly (Either (number_of_version found.version) (number_of_version (served found.version)) found.sectors found.nodes found.run) mid new)
        → AddsOnly Leaves old new
    found_moments old mid new before after = AddsOnly-join Leaves old mid new
        (settled_moments old mid before)
        (subst (λ (v : ℕ). AddsOnly (Either v (served_number base.stands.version.number) size nodes run) mid new) same_number
        (subst (λ (v : ℕ). AddsOnly (Either (number_of_version found.version) v size nodes run) mid new) same_next
        (subst (λ (s : ℕ). AddsOnly (Either (number_of_version found.version) (number_of_version (served found.version)) s nodes run) mid new) is.size
        (subst (λ (n : ℕ). AddsOnly (Either (number_of_version found.version) (number_of_version (served found.version)) found.sectors n run) mid new) same_nodes
        (subst (λ (r : ℕ). AddsOnly (Either (number_of_version found.version) (number_of_version (served found.version)) found.sectors found.nodes r) mid new) same_run
        (after found_stands))))))

-- what the base that was found holds, the image that was seen represented
module _ (sectors : ℕ) (seen at : Image) (found : Superblock) (is : HasSize sectors found) (first : seen 0 ≡ superblock found.version found.sectors found.nodes found.run)
    (settles : Settles (log_in sectors (seen 0)) seen at) where
  found_settles : Settles (log_by found.version found.sectors) seen at
  found_settles = subst (λ (log : LogArea). Settles log seen at) (sym (found_log sectors (seen 0) found is first)) settles

  pub base_first : at 0 ≡ superblock found.version found.sectors found.nodes found.run
  base_first =
      let region = version_region found.version None no_seats found.sectors found.nodes is.number is.sized in
      first_kept (log_by found.version found.sectors) seen at (some_sectors (version_by found.version None no_seats) found.sectors found.nodes region) found_settles ∙ first

  base_found : (kept : Kept) → VolumeStands found.sectors found.nodes at found.run kept → IsBase found.sectors found.nodes found.run kept seen
  base_found kept stands = record {
    base = at;
    stands = stands;
    settles = subst (λ (log : LogArea). Settles log seen at)
        (sym (told_log found.version found.sectors found.nodes found.run kept at stands found.sectors found.nodes found.run is.number is.sized base_first)) found_settles;
  }

  pub seen_stands : (nodes : ℕ) (kept : Kept) → nodes ≡ found.nodes → ∥ VolumeStands found.sectors found.nodes at found.run kept ∥₁ → StandsFor sectors nodes found.run kept seen
  seen_stands nodes kept same stands = subst (λ (s : ℕ). StandsFor s nodes found.run kept seen) is.size
      (subst (λ (n : ℕ). StandsFor found.sectors n found.run kept seen) (sym same) (∥∥₁_map stands (base_found kept)))

pub only_damaged : (fault : JournalFault) → gate_fault fault ≡ mounts.Damaged → fault ≡ journals.Damaged
only_damaged journals.Damaged is = refl
only_damaged journals.Fault is = absurd (cc)
only_damaged journals.TooMany is = absurd (cc)
only_damaged journals.Memory is = absurd (cc)
only_damaged journals.Down is = absurd (cc)

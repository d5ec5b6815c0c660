-- A volume that was just formatted.
use Rattle.std.proofs.Common.{ℕ, None, [], ◌∷◌, ◌≡◌, ◌≢◌, ◌<◌, ◌≤◌, ◌+◌, ◌-◌, ◌⊎◌, ◌∙◌, inl, inr, length, refl, sym, subst, arith, false, if◌then◌else◌, List, Bool, ap, eqb}
use Rattle.std.proofs.Math.Logic.{∥∥₁_map}
use Rattle.std.proofs.lemmas.Bool.{ne_eqb}
use Rattle.std.specs.Prelude.{IsTrue, Result, Ok, Err, OnOk, is_err}
use Rattle.std.specs.declared.ops.Range.{Range}
use Rattle.disk.specs.Calls.{zero_sector}
use Rattle.disk.specs.Moments.{Image, History, moment}
use Rattle.disk.specs.declared.update.Update.{Update}
use Rattle.disk.proofs.MomentLemmas.{AddsOnly-weaken}
use Rattle.geometry.specs.Encoding as geometry
use Rattle.geometry.specs.Encoding.{IsSuperblock}
use Rattle.geometry.specs.Places.{Fits, data_end, data_sectors, data_start, log_area, log_start}
use Rattle.geometry.specs.declared.geometry.Geometry.{Geometry}
use Rattle.geometry.specs.declared.superblock.Superblock.{Superblock}
use Rattle.journal.specs.Format.{AddsFormats, AddsFormatsOutside, IsFormatted, IsFormattedOutside, LeavesFormattedOutside, SettlesOutside, formatted, fresh_outside}
use Rattle.journal.specs.Layout.{AreTargets, log_at_start, targets}
use Rattle.journal.specs.Settled.{Settles}
use Rattle.journal.specs.declared.layout.LogArea.{LogArea}
use Rattle.journal.proofs.Images.{put_other, put_same}
use Rattle.journal.proofs.Lists.{targets_of-Fit}
use Rattle.journal.proofs.Outside.{few_outside, logged_at, passed}
use Rattle.layout.specs.FreshLaws.{IsFresh}
use Rattle.layout.specs.LargeLaws.{IsLargeFresh}
use Rattle.layout.specs.Stands as layout
use Rattle.layout.specs.Stands.{By, IsNumber, MayHaveSeats, bare_in, current_version, free_seats, version_by}
use Rattle.layout.specs.declared.versions.VersionNumber.{VersionNumber}
use Rattle.layout.specs.declared.versions.VersionNumber.TheVariants.{One, Two, Three}
use Rattle.layout.proofs.LargeLaws.{large_fresh}
use Rattle.layout.proofs.SeatLaws.{free_seats_kept, spare_none, version_region}
use Rattle.layout.proofs.FirstLaws.{before_nodes}
use Rattle.layout.specs.Superblock.{is_size}
use Rattle.layout.proofs.Formatted.{fresh_stands}
use Rattle.model_tree.specs.Trees.Fresh.{fresh_tree}
use Rattle.model_tree.specs.Seats.Seats.{no_seats}
use Rattle.volume.specs.Formats as formats
use Rattle.volume.specs.Formats.{AddsFresh, LeavesFresh, root_update}
use Rattle.volume.specs.Stands.{StandsFor}
use Rattle.volume.specs.Superblock.{superblock}
use Rattle.volume.proofs.StandLaws.{sized}

-- all sectors except the first one and the root's are zeros
zeros_at : (first : List ℕ) (n : ℕ) → 0 < n → n ≢ 148 → formatted first (root_update ∷ []) n ≡ zero_sector
zeros_at first n some other =
    put_other (λ m. if eqb m 0 then first else zero_sector) root_update n (λ e. other (sym e))
    ∙ ap (λ (b : Bool). let content : List ℕ = if b then first else zero_sector in content) (ne_eqb n 0 (λ e. omega (arith, e, some)))

-- Of version 2

abbrev new_volume : (sectors nodes : ℕ) → Image
new_volume sectors nodes = formatted (superblock Two sectors nodes 0) (root_update ∷ [])

module _ (sectors nodes : ℕ) (size : IsTrue (is_size sectors nodes)) where
  zeros_there : (n : ℕ) → 0 < n → n ≢ 148 → new_volume sectors nodes n ≡ zero_sector
  zeros_there = zeros_at (superblock Two sectors nodes 0)

  is_fresh : IsFresh (current_version no_seats) sectors nodes (new_volume sectors nodes)
  is_fresh = record {
    sized = size;
    region = version_region Two None no_seats sectors nodes tt size;
    a_node = (let parts = sized sectors nodes size in omega (arith, parts.some));
    an_entry = omega arith;
    first = refl;
    spare = λ n is. (let low = before_nodes n is in zeros_there n (omega (arith, low.0)) (λ e. omega (arith, e, low.1)) ∙ sym (spare_none n));
    node = refl;
    bitmap = λ n above below. zeros_there n (omega arith) (λ e. omega (arith, e));
    others = λ place some within. zeros_there (148 + place) (omega arith) (λ e. omega (arith, e, some));
  }

  stands : layout.TreeStands (current_version no_seats) sectors nodes (new_volume sectors nodes) 0 fresh_tree
  stands = fresh_stands (current_version no_seats) sectors nodes (new_volume sectors nodes) is_fresh

  pub root_fits : AreTargets sectors (targets (root_update ∷ []))
  root_fits = let parts = sized sectors nodes size in targets_of-Fit sectors (148 ∷ []) (omega arith, omega (arith, parts.some, parts.room), tt, tt)

  pub format_moments : (old new : History) → AddsFormats (log_at_start sectors) (superblock Two sectors nodes 0) (root_update ∷ []) old new → AddsFresh Two sectors nodes old new
  format_moments old new moments = AddsOnly-weaken
      (λ image. (image 0 ≡ zero_sector) ⊎ Settles (log_at_start sectors) image (new_volume sectors nodes))
      (λ image. (image 0 ≡ zero_sector) ⊎ formats.IsFresh Two sectors nodes image) old new
      (λ image either. elim either [
        | inl zeros ↦ inl zeros
        | inr settles ↦ inr ∣ (new_volume sectors nodes, settles, stands) ∣₁
      ]) moments

  pub format_stands : (new : History) → IsFormatted (log_at_start sectors) (superblock Two sectors nodes 0) (root_update ∷ []) new → LeavesFresh Two sectors nodes new
  format_stands new is image left = ∣ (new_volume sectors nodes, is image left, stands) ∣₁

-- Of version 3, without its data region

-- what no mount reads
abbrev unread_of : Geometry → Range ℕ
unread_of g = record { start = data_start g; end = data_end g }

pub is_superblock : (s : Superblock) → Fits s.geometry → length s.identity ≡ 16 → IsSuperblock s
is_superblock s fits long = record { fits = fits; identity = long }

module _ (s : Superblock) (is : IsSuperblock s) where
  abbrev g : Geometry
  g = s.geometry

  abbrev first : List ℕ
  first = geometry.superblock s 0

  module _ (base : Image) (has : IsFormattedOutside (unread_of g) first (root_update ∷ []) base) where
    zeros_before : (n : ℕ) → 0 < n → n ≢ 148 → n < data_start g → base n ≡ zero_sector
    zeros_before n some other below = has n (inl below) ∙ zeros_at first n some other

    is_large_fresh : IsLargeFresh s base
    is_large_fresh = record {
      first = has 0 (inl (omega arith));
      root = has 148 (inl (omega (arith, is.fits.limits.min_nodes))) ∙ put_same (λ m. if eqb m 0 then first else zero_sector) root_update 148 refl;
      before = λ n above below. zeros_before n (omega (arith, above)) (λ e. omega (arith, e, below)) (omega (arith, below));
      others = λ n past below. zeros_before n (omega (arith, past)) (λ e. omega (arith, e, past)) below;
      seats = λ n above below. has n (inr above) ∙ zeros_at first n (omega (arith, above, is.fits.room)) (λ e. omega (arith, e, above, is.fits.room));
    }

  settles_fresh : (image : Image) → SettlesOutside (log_area g) (unread_of g) first (root_update ∷ []) image → formats.IsFresh (Three s) g.sectors g.nodes image
  settles_fresh image settles = ∣ (settles.base, settles.settles, large_fresh s settles.base is (is_large_fresh settles.base settles.is_formatted)) ∣₁

  large_moments : (old new : History) → AddsFormatsOutside (log_area g) (unread_of g) first (root_update ∷ []) old new → AddsFresh (Three s) g.sectors g.nodes old new
  large_moments old new moments = AddsOnly-weaken
      (λ image. (image 0 ≡ zero_sector) ⊎ SettlesOutside (log_area g) (unread_of g) first (root_update ∷ []) image)
      (λ image. (image 0 ≡ zero_sector) ⊎ formats.IsFresh (Three s) g.sectors g.nodes image) old new
      (λ image either. elim either [
        | inl zeros ↦ inl zeros
        | inr settles ↦ inr (settles_fresh image settles)
      ]) moments

  module _ (area : LogArea) (unread : Range ℕ) (sector0 : List ℕ) (updates : List Update) (size : ℕ)
      (area_is : area ≡ log_area g) (unread_is : unread ≡ unread_of g) (first_is : sector0 ≡ first) (updates_are : updates ≡ root_update ∷ []) (size_is : g.sectors ≡ size) where
    pub adds_fresh : (old new : History) → AddsFormatsOutside area unread sector0 updates old new → AddsFresh (Three s) size g.nodes old new
    adds_fresh old new adds = subst (λ (n : ℕ). AddsFresh (Three s) n g.nodes old new) size_is
        (large_moments old new (rw (sym area_is, sym unread_is, sym first_is, sym updates_are) adds))

    pub leaves_fresh : (new : History) → LeavesFormattedOutside area unread sector0 updates new → LeavesFresh (Three s) size g.nodes new
    leaves_fresh new leaves =
        let of_first : LeavesFormattedOutside (log_area g) (unread_of g) first (root_update ∷ []) new = rw (sym area_is, sym unread_is, sym first_is, sym updates_are) leaves in
        subst (λ (n : ℕ). LeavesFresh (Three s) n g.nodes new) size_is (λ image left. settles_fresh image (of_first image left))

-- how many sectors are written between the two writes of sector 0: none of the log, which ends the
-- device
few_at : (g : Geometry) (fits : Fits g) (updates : List Update) → length (fresh_outside (log_area g) (unread_of g) g.sectors updates) + 5 ≤ g.sectors - data_sectors g - g.log + 4
few_at g fits updates =
    let same : fresh_outside (log_area g) (unread_of g) g.sectors updates ≡ fresh_outside (log_area g) (unread_of g) (log_start g) updates =
    passed (log_area g) (unread_of g) updates (log_start g) g.sectors (omega (arith, fits.room)) (omega arith) (λ i low high. logged_at (log_area g) (unread_of g) i low (omega (arith, high, fits.room))) in
    let few : length (fresh_outside (log_area g) (unread_of g) (log_start g) updates) + (data_end g - data_start g) ≤ log_start g - 1 =
    few_outside (log_area g) (unread_of g) updates (log_start g) (omega (arith, fits.room)) (omega arith) (omega arith) in
    omega (arith, ap (λ (us : List Update). length us) same, few, fits.room)

module _ (area : LogArea) (unread : Range ℕ) (size : ℕ) (g : Geometry) (fits : Fits g) (size_is : g.sectors ≡ size) (area_is : area ≡ log_area g) (unread_is : unread ≡ unread_of g) (old new : History) where
  pub few_writes : (updates : List Update) → moment new ≡ moment old + (length (fresh_outside area unread size updates) + 5) → moment new ≤ moment old + (g.sectors - data_sectors g - g.log + 4)
  few_writes updates cost =
      let few : length (fresh_outside area unread size updates) + 5 ≤ g.sectors - data_sectors g - g.log + 4 = rw (area_is, unread_is, sym size_is) (few_at g fits updates) in
      omega (arith, cost, few)

  pub always_brief : moment new ≤ moment old + (size - (unread.end - unread.start) + 4) → moment new ≤ moment old + (g.sectors - data_sectors g + 4)
  always_brief brief = omega (arith, brief, size_is, ap (λ (r : Range ℕ). r.end - r.start) unread_is)

pub on_ok : {T E : Type 0} (r : Result T E) (P : Type 0) → is_err r ≡ false → OnOk r P → P
on_ok (Ok x) P fine is = is
on_ok (Err e) P fine is = absurd (cc)

-- It represents the tree of one empty directory

none_kept : (version : VersionNumber) → MayHaveSeats version None (free_seats version)
none_kept One = refl
none_kept Two = tt
none_kept (Three s) = tt

pub fresh_stands_for : (version : VersionNumber) (sectors nodes : ℕ) (image : Image) → IsNumber version → formats.IsFresh version sectors nodes image → StandsFor sectors nodes 0 (bare_in version fresh_tree) image
fresh_stands_for version sectors nodes image number fresh = ∥∥₁_map fresh (λ is. record {
  base = is.0;
  settles = is.1;
  stands = record {
    version = version_by version None (free_seats version);
    is_version = By version None (free_seats version) number tt (none_kept version);
    keeps = free_seats_kept version 0;
    stands = is.2;
  };
})

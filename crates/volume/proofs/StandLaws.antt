-- What a crash leaves of a volume depends only on its base: no sector of the journal's own is
-- looked at.
use Rattle.std.proofs.Common.{ℕ, None, ◌≡◌, ◌≤◌, ◌<◌, inl, inr, refl, rules, arith, ap, subst, sym, ◌∙◌, eqb}
use Rattle.std.specs.Prelude.{IsTrue}
use Rattle.std.proofs.lemmas.Bool.{and_parts, eqb-true}
use Rattle.disk.specs.Moments.{Image}
use Rattle.geometry.specs.Places.{Fits, log_area}
use Rattle.geometry.specs.declared.geometry.Geometry.{Geometry}
use Rattle.journal.specs.Layout.{IsArea, area_end}
use Rattle.journal.specs.Settled.{AreSame, Settles}
use Rattle.journal.specs.declared.layout.LogArea.{LogArea}
use Rattle.layout.specs.CachedNodes.{cached_nodes_in}
use Rattle.layout.specs.Stands as layout
use Rattle.layout.specs.Stands.{By, Kept, StandsNow, AreKept}
use Rattle.layout.specs.Superblock.{is_size, superblock}
use Rattle.layout.specs.Versions.{IsNumber, IsServed, end_of, log_by, number_of_version, rest_by, seats_at, served, size_by, version_by, sizes_by}
use Rattle.layout.specs.declared.versions.VersionNumber.{VersionNumber}
use Rattle.layout.specs.declared.versions.VersionNumber.TheVariants as numbers
use Rattle.layout.proofs.FirstLaws.{Sized, sized_parts}
use Rattle.layout.proofs.KeptLaws.{now_told, VersionParts}
use Rattle.layout.proofs.MarkOnce.{number_told}
use Rattle.layout.proofs.MarkProofs.{kept_alone, stands_alone}
use Rattle.layout.proofs.OneKept.{its}
use Rattle.layout.proofs.SeatLaws.{version_region}
use Rattle.model_tree.specs.Seats.Seats.{no_seats, Seats}
use Rattle.model_tree.specs.Trees.Tree.{Tree}
use Rattle.volume.specs.Stands.{IsBase, VolumeStands}

pub sized : (sectors nodes : ℕ) → IsTrue (is_size sectors nodes) → Sized sectors nodes
sized = sized_parts

pub large : (sectors nodes : ℕ) → IsTrue (is_size sectors nodes) → 256 ≤ sectors
large sectors nodes size = search rules

-- a volume has sectors, and transactions write sector 0 or a later one
pub some_sectors : (version : layout.Version) (sectors nodes : ℕ) → layout.HasRegion version sectors nodes → 0 < end_of version sectors
some_sectors version sectors nodes region = omega (arith, region.behind, region.inside)

-- Versions that are served

pub is_number : (version : VersionNumber) → IsServed version → IsNumber version
is_number numbers.One served = absurd served
is_number numbers.Two served = tt
is_number (numbers.Three s) served = served

pub is_served : (version : VersionNumber) → IsNumber version → IsServed (served version)
is_served numbers.One number = tt
is_served numbers.Two number = tt
is_served (numbers.Three s) number = number

pub same_log : (version : VersionNumber) (size : ℕ) → log_by (served version) size ≡ log_by version size
same_log numbers.One size = refl
same_log numbers.Two size = refl
same_log (numbers.Three s) size = refl

-- The log

pub placed_on : (version : VersionNumber) (area was : LogArea) (size old : ℕ) → area ≡ was → size ≡ old → was ≡ log_by version old → area ≡ log_by version size
placed_on version area was size old same sizes placed = same ∙ (placed ∙ ap (log_by version) (sym sizes))

large_area : (g : Geometry) → Fits g → IsArea (log_area g)
large_area g fits = record {
  behind = omega (arith, fits.room);
  beside = λ before. absurd (omega (arith, before));
  numbers = omega (arith, fits.room, fits.sectors);
  few = fits.limits.max_log;
  room = omega (arith, fits.limits.min_log);
}

pub is_area : (version : VersionNumber) (size : ℕ) → IsNumber version → IsArea (log_by version size)
is_area numbers.One size number = record { behind = omega arith; beside = λ at_start_of. omega arith; numbers = omega arith; few = omega arith; room = omega arith }
is_area numbers.Two size number = record { behind = omega arith; beside = λ at_start_of. omega arith; numbers = omega arith; few = omega arith; room = omega arith }
is_area (numbers.Three s) size number = large_area s.geometry number.fits

-- the sectors that transactions write end within the volume
-- what it keeps, it keeps in the version that its first sector gives
pub keeps_by : (nodes : ℕ) (of : layout.Version) (seats : Seats) (parts : VersionParts nodes of seats) (version : VersionNumber) (run : ℕ) → parts.number ≡ version
    → AreKept of.sizes run seats → AreKept (sizes_by version) run seats
keeps_by nodes of seats parts version run same keeps =
    subst (λ (n : VersionNumber). AreKept (sizes_by n) run seats) same (subst (λ (v : layout.Version). AreKept v.sizes run seats) parts.same keeps)

pub ends_within : (version : VersionNumber) (size nodes : ℕ) → IsNumber version → IsTrue (size_by version size nodes) → (log_by version size).end ≤ size
ends_within version size nodes number sizes = (version_region version None no_seats size nodes number sizes).within

-- and so does the log
pub log_within : (version : VersionNumber) (size nodes : ℕ) → IsNumber version → IsTrue (size_by version size nodes) → area_end (log_by version size) ≤ size
log_within numbers.One size nodes number sizes = let enough = large size nodes sizes in omega (arith, enough)
log_within numbers.Two size nodes number sizes = let enough = large size nodes sizes in omega (arith, enough)
log_within (numbers.Three s) size nodes number sizes =
    let both = and_parts (eqb s.geometry.sectors size) (eqb s.geometry.nodes nodes) sizes in
    omega (arith, eqb-true s.geometry.sectors size both.0, number.fits.room)

pub same_placed : (version : VersionNumber) (area : LogArea) (size : ℕ) (a b : Image) → area ≡ log_by version size → AreSame area.end a b → AreSame (log_by version size).end a b
same_placed version area size a b placed same = subst (λ (l : LogArea). AreSame l.end a b) placed same

pub settles_placed : (version : VersionNumber) (area : LogArea) (size : ℕ) (image base : Image) → area ≡ log_by version size → Settles area image base → Settles (log_by version size) image base
settles_placed version area size image base placed settles = subst (λ (l : LogArea). Settles l image base) placed settles

-- in the version in which it is served, what an image settles to is its base
pub now_base : (version : VersionNumber) (sectors nodes run : ℕ) (image base : Image) (kept : Kept) → Settles (log_by version sectors) image base → StandsNow version sectors nodes base run kept
    → IsBase sectors nodes run kept image
now_base version sectors nodes run image base kept settles now = record {
  base = base;
  stands = record {
    version = version_by version None kept.seats;
    is_version = By version None kept.seats now.is_number tt now.may;
    keeps = now.keeps;
    stands = now.stands;
  };
  settles = settles;
}

-- The volume is the same if the kept sectors are

pub stands_same : (sectors nodes : ℕ) (a b : Image) (run : ℕ) (kept : Kept) (stands : VolumeStands sectors nodes a run kept) → AreSame (end_of stands.version sectors) a b
    → VolumeStands sectors nodes b run kept
stands_same sectors nodes a b run kept stands same =
    let enough = some_sectors stands.version sectors nodes stands.stands.region in
    record {
      version = stands.version;
      is_version = stands.is_version;
      keeps = stands.keeps;
      stands = stands_alone stands.version sectors nodes a b run kept.tree stands.stands (sym (same 0 (inl refl, omega (arith, enough))))
          (λ n above below. sym (same n (inr above, below)));
    }

-- the same holds of one version
pub tree_same : (version : layout.Version) (sectors nodes : ℕ) (a b : Image) (run : ℕ) (tree : Tree) → AreSame (end_of version sectors) a b
    → layout.TreeStands version sectors nodes a run tree → layout.TreeStands version sectors nodes b run tree
tree_same version sectors nodes a b run tree same stands =
    let enough = some_sectors version sectors nodes stands.region in
    stands_alone version sectors nodes a b run tree stands (sym (same 0 (inl refl, omega (arith, enough))))
    (λ n above below. sym (same n (inr above, below)))

-- and of the one that is served, with the seats that its sectors hold
pub now_same : (version : VersionNumber) (sectors nodes : ℕ) (a b : Image) (run : ℕ) (kept : Kept) → AreSame (log_by version sectors).end a b → StandsNow version sectors nodes a run kept
    → StandsNow version sectors nodes b run kept
now_same version sectors nodes a b run kept same now = record {
  is_number = now.is_number;
  may = now.may;
  keeps = now.keeps;
  stands = tree_same (version_by version None kept.seats) sectors nodes a b run kept.tree same now.stands;
}

pub seats_same : (version : VersionNumber) (sectors nodes : ℕ) (a b : Image) (run : ℕ) (kept : Kept) → AreSame (log_by version sectors).end a b → StandsNow version sectors nodes a run kept
    → seats_at version b ≡ seats_at version a
seats_same version sectors nodes a b run kept same now =
    now_told version sectors nodes b run kept (now_same version sectors nodes a b run kept same now) ∙ sym (now_told version sectors nodes a run kept now)

-- and so are the cached nodes
pub cached_nodes_same : (version : layout.Version) (sectors nodes : ℕ) (a b : Image) (run : ℕ) (tree : Tree) → AreSame (end_of version sectors) a b
    → layout.TreeStands version sectors nodes a run tree → cached_nodes_in nodes b ≡ cached_nodes_in nodes a
cached_nodes_same version sectors nodes a b run tree same stands =
    (kept_alone version sectors nodes a b (cached_nodes_in nodes a) stands.region stands.laid
    (λ n above below. sym (same n (inr above, below)))).same_cached_nodes

-- The first sector of what an image represents determines its version, so where its log is
pub told_log : (number : VersionNumber) (sectors nodes run : ℕ) (kept : Kept) (base : Image) (stands : VolumeStands sectors nodes base run kept) (other_sectors other_nodes other_run : ℕ)
    → IsNumber number → IsTrue (size_by number other_sectors other_nodes) → base 0 ≡ superblock (number_of_version number) other_sectors other_nodes other_run (rest_by number)
    → stands.version.log sectors ≡ log_by number sectors
told_log number sectors nodes run kept base stands other_sectors other_nodes other_run is sizes first =
    ap (λ (v : layout.Version). v.log sectors) (its sectors nodes base run kept stands).same
    ∙ ap (λ (n : VersionNumber). log_by n sectors) (number_told number sectors nodes base run kept other_sectors other_nodes other_run is sizes first stands)

-- Version 3: a new volume.
use Rattle.std.proofs.Common.{◌≡◌, ◌≤◌, ◌<◌, ◌+◌, ◌-◌, ◌&&◌, ℕ, true, None, inl, inr, refl, sym, ◌∙◌, arith, leb, ltb, eqb}
use Rattle.std.proofs.lemmas.Bool.{and_parts, eq-eqb, leb-true, lt-ltb, le-ltb, ltb-true, or_cases}
use Rattle.disk.specs.Moments.{Image}
use Rattle.geometry.specs.Encoding.{IsSuperblock}
use Rattle.geometry.specs.Places.{log_start, seats_start}
use Rattle.geometry.specs.declared.geometry.Geometry.{Geometry}
use Rattle.geometry.specs.declared.superblock.Superblock.{Superblock}
use Rattle.model_tree.specs.Seats.Seats.{Seats}
use Rattle.layout.specs.FreshLaws.{IsFresh}
use Rattle.layout.specs.Large.{is_large_spare, is_of_seats, large_sizes, large_spare}
use Rattle.layout.specs.LargeLaws.{IsLargeFresh, LargeFresh, LargeRegion}
use Rattle.layout.specs.Versions.{free_seats, version_by}
use Rattle.layout.specs.declared.versions.VersionNumber.TheVariants.{Three}
use Rattle.layout.proofs.Formatted.{fresh_stands}
use Rattle.layout.proofs.LargeParts.{large_first, of_seats, region_at_end}
use Rattle.layout.proofs.SeatLaws.{large_seats_free}

pub large_region : LargeRegion
large_region s seats is = region_at_end s None seats is

module _ (s : Superblock) (image : Image) (is : IsSuperblock s) (fresh : IsLargeFresh s image) where
  abbrev at : Geometry
  at = s.geometry

  abbrev none : Seats
  none = free_seats (Three s)

  spare_low : (n : ℕ) → 98 ≤ n → n < 148 → image n ≡ large_spare at none n
  spare_low n above below = rw (lt-ltb n 148 below) (fresh.before n above below)

  spare_high : (n : ℕ) → 148 ≤ n → seats_start at ≤ n → n < log_start at → image n ≡ large_spare at none n
  spare_high n past above below = rw (le-ltb n 148 past) (fresh.seats n above below ∙ sym (large_seats_free (large_sizes at) (n - seats_start at)))

  spare_there : (n : ℕ) → is_large_spare at none n ≡ true → image n ≡ large_spare at none n
  spare_there n spare = elim (or_cases (leb 98 n && ltb n 148) (is_of_seats at none n) spare) [
    | inl low ↦ (let ends = and_parts (leb 98 n) (ltb n 148) low in spare_low n (leb-true 98 n ends.0) (ltb-true n 148 ends.1))
    | inr there ↦ (let ends = of_seats at none n is.fits there in spare_high n (omega (arith, ends.0, is.fits.room)) ends.0 ends.1)
  ]

  sized : (eqb at.sectors at.sectors && eqb at.nodes at.nodes) ≡ true
  sized = rw (eq-eqb at.sectors at.sectors refl, eq-eqb at.nodes at.nodes refl) refl

  is_fresh : IsFresh (version_by (Three s) None (free_seats (Three s))) at.sectors at.nodes image
  is_fresh = record {
    sized = sized;
    region = large_region s none is;
    a_node = omega (arith, is.fits.limits.min_nodes);
    an_entry = omega arith;
    first = fresh.first ∙ sym (large_first s 0);
    spare = spare_there;
    node = fresh.root;
    bitmap = λ n above below. fresh.before n above (omega (arith, below));
    others = λ place some within. fresh.others (148 + place) (omega (arith, some)) (omega (arith, within));
  }

pub large_fresh : LargeFresh
large_fresh s image is fresh = fresh_stands (version_by (Three s) None (free_seats (Three s))) s.geometry.sectors s.geometry.nodes image (is_fresh s image is fresh)

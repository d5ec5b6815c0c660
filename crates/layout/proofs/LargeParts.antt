-- Version 3: its first sector and its parts.
use Rattle.std.proofs.Common.{◌≡◌, ◌≤◌, ◌<◌, ◌+◌, ◌-◌, ◌&&◌, ℕ, true, false, Option, None, inl, inr, refl, arith, leb, ltb}
use Rattle.std.proofs.lemmas.Bool.{and_parts, leb-true, ltb-true, or_cases}
use Rattle.geometry.specs.Encoding as geometry
use Rattle.geometry.specs.Encoding.{IsSuperblock}
use Rattle.geometry.specs.Places.{Fits, log_start, seats_sectors, seats_start}
use Rattle.geometry.specs.declared.geometry.Geometry.{Geometry}
use Rattle.geometry.specs.declared.superblock.Superblock.{Superblock}
use Rattle.model_tree.specs.Seats.Seats.{Seats}
use Rattle.seats.specs.Encoding.{is_determined_in}
use Rattle.seats.specs.Sizes.{all_sectors}
use Rattle.layout.specs.Large.{is_of_seats, large_sizes}
use Rattle.layout.specs.LargeLaws.{LargeFirst}
use Rattle.layout.specs.Stands.{HasRegion, IsBeside}
use Rattle.layout.specs.Superblock as layout
use Rattle.layout.specs.Versions.{version_by}
use Rattle.layout.specs.declared.versions.Marking.TheVariants.{InSectors, AsNamed}
use Rattle.layout.specs.declared.versions.VersionNumber.TheVariants.{Three}

pub large_first : LargeFirst
unfolding layout.superblock geometry.superblock
large_first s run = refl

abbrev seats_of : Geometry → ℕ
seats_of g = all_sectors (large_sizes g)

-- a sector of seats lies between the data region and the log
pub of_seats : (g : Geometry) (seats : Seats) (n : ℕ) → Fits g → is_of_seats g seats n ≡ true → (seats_start g ≤ n) × (n < log_start g)
of_seats g seats n fits is =
    let both = and_parts (leb (seats_start g) n && ltb n (seats_start g + seats_of g)) (is_determined_in (large_sizes g) false (n - seats_start g) seats) is in
    let ends = and_parts (leb (seats_start g) n) (ltb n (seats_start g + seats_of g)) both.0 in
    let all : seats_of g ≡ seats_sectors g = refl in
    (leb-true (seats_start g) n ends.0, omega (arith, ltb-true n (seats_start g + seats_of g) ends.1, all, fits.room))

module _ (s : Superblock) (mark : Option ℕ) (seats : Seats) (is : IsSuperblock s) where
  abbrev g : Geometry
  g = s.geometry

  first_part : (n : ℕ) → (leb 98 n && ltb n 148) ≡ true → IsBeside (version_by (Three s) mark seats) g.sectors n
  first_part n low =
      let ends = and_parts (leb 98 n) (ltb n 148) low in
      let above = leb-true 98 n ends.0 in
      let below = ltb-true n 148 ends.1 in
      record {
        from_first = above;
        below = omega (arith, below, is.fits.room);
        apart = λ far. absurd (omega (arith, far, below));
        unmarked = λ in_sectors. absurd (let no : AsNamed ≡ InSectors = in_sectors in cc);
      }

  seats_part : (n : ℕ) → is_of_seats g seats n ≡ true → IsBeside (version_by (Three s) mark seats) g.sectors n
  seats_part n there =
      let ends = of_seats g seats n is.fits there in
      record {
        from_first = omega (arith, ends.0, is.fits.room);
        below = ends.1;
        apart = λ far. ends.0;
        unmarked = λ in_sectors. absurd (let no : AsNamed ≡ InSectors = in_sectors in cc);
      }

  pub region_at_end : HasRegion (version_by (Three s) mark seats) g.sectors g.nodes
  region_at_end = record {
    some = omega (arith, is.fits.limits.min_nodes);
    behind = omega (arith, is.fits.room);
    inside = omega (arith, is.fits.room);
    within = omega (arith, is.fits.room);
    numbers = is.fits.sectors;
    spare = λ n spare. elim (or_cases (leb 98 n && ltb n 148) (is_of_seats g seats n) spare) [
      | inl low ↦ first_part n low
      | inr there ↦ seats_part n there
    ];
  }

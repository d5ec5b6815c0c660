-- What is read from the encoding of a superblock is that superblock.
use Rattle.std.proofs.Common.{◌≡◌, ◌<◌, ◌^◌, ◌∙◌, ℕ, List, true, Some, take, replicate, refl, sym, ap, arith, codes, eqb}
use Rattle.std.specs.Prelude.{◌&&◌, bytes_eq}
use Rattle.std.proofs.lemmas.Bool.{and_parts, eq-eqb}
use Rattle.std.proofs.lemmas.List.{take_at}
use Rattle.std.proofs.lemmas.Nat.{from_be_bytes-to_be_bytes_2, from_be_bytes-to_be_bytes_4, from_be_bytes-to_be_bytes_8}
use Rattle.geometry.specs.Encoding.{IsSuperblock, superblock}
use Rattle.geometry.specs.Places.{Fits, fits}
use Rattle.geometry.specs.Reading.{OneEncoding, SuperblocksReadBack, found_in, geometry_in, identity_in, is_volume, restarts_in, superblock_in, version_in}
use Rattle.geometry.specs.declared.geometry.Geometry.{Geometry}
use Rattle.geometry.specs.declared.superblock.Superblock.{Superblock}
use Rattle.geometry.proofs.PlaceLaws.{fits_is_tested}

same_geometry : (sectors nodes log seats slots names file_bytes : ℕ) (g : Geometry)
    → sectors ≡ g.sectors → nodes ≡ g.nodes → log ≡ g.log → seats ≡ g.seats → slots ≡ g.slots
    → names ≡ g.names → file_bytes ≡ g.file_bytes
    → (let made : Geometry = record {
      sectors = sectors;
      nodes = nodes;
      log = log;
      seats = seats;
      slots = slots;
      names = names;
      file_bytes = file_bytes;
    } in made ≡ g)
same_geometry sectors nodes log seats slots names file_bytes g a b c d e f h =
    rw (a, b, c, d, e, f, h) refl

pub same_superblock : (geometry : Geometry) (identity : List ℕ) (s : Superblock)
    → geometry ≡ s.geometry → identity ≡ s.identity
    → (let made : Superblock = record { geometry = geometry; identity = identity } in made ≡ s)
same_superblock geometry identity s a b = rw (a, b) refl

module _ (s : Superblock) (restarts : ℕ) (is : IsSuperblock s) where
  pub geometry-back : geometry_in (superblock s restarts) ≡ s.geometry
  unfolding superblock geometry_in
  geometry-back =
      let g : Geometry = s.geometry in
      same_geometry _ _ _ _ _ _ _ g
      (from_be_bytes-to_be_bytes_4 g.sectors is.fits.sectors)
      (from_be_bytes-to_be_bytes_4 g.nodes (omega (arith, is.fits.limits.max_nodes)))
      (from_be_bytes-to_be_bytes_4 g.log (omega (arith, is.fits.limits.max_log)))
      (from_be_bytes-to_be_bytes_2 g.seats (omega (arith, is.fits.limits.max_seats)))
      (from_be_bytes-to_be_bytes_2 g.slots (omega (arith, is.fits.limits.max_slots)))
      (from_be_bytes-to_be_bytes_4 g.names (omega (arith, is.fits.limits.max_names)))
      (from_be_bytes-to_be_bytes_8 g.file_bytes (omega (arith, is.fits.limits.max_file_bytes)))

  pub restarts-back : restarts < 2 ^ 32 → restarts_in (superblock s restarts) ≡ restarts
  unfolding superblock
  restarts-back small = from_be_bytes-to_be_bytes_4 restarts small

  identity-back : identity_in (superblock s restarts) ≡ s.identity
  unfolding superblock
  identity-back = take_at s.identity (replicate 4032 0) 16 is.identity

  pub superblock-back : superblock_in (superblock s restarts) ≡ s
  superblock-back = same_superblock (geometry_in (superblock s restarts))
      (identity_in (superblock s restarts)) s
      geometry-back identity-back

  magic-back : take 8 (superblock s restarts) ≡ codes "NFS41VOL"
  unfolding superblock
  magic-back = refl

  version-back : version_in (superblock s restarts) ≡ 3
  unfolding superblock
  version-back = refl

  volume-back : is_volume s.geometry.sectors (superblock s restarts) ≡ true
  unfolding is_volume
  volume-back = rw (
    magic-back,
    version-back,
    geometry-back,
    eq-eqb s.geometry.sectors s.geometry.sectors refl,
    (fits_is_tested s.geometry).1 is.fits,
  ) refl

  pub found-back : found_in s.geometry.sectors (superblock s restarts) ≡ Some s
  found-back = rw (volume-back, superblock-back) refl

-- a sector of a volume gives a geometry that fits
pub volume_fits : (device : ℕ) (sector : List ℕ) → is_volume device sector ≡ true → Fits (geometry_in sector)
unfolding is_volume
volume_fits device sector is =
    let g = geometry_in sector in
    let both = and_parts (bytes_eq (take 8 sector) (codes "NFS41VOL") && eqb (version_in sector) 3 && eqb g.sectors device) (fits g) is in
    (fits_is_tested g).0 both.1

pub reads_back : SuperblocksReadBack
reads_back s restarts is small = record {
  restarts = restarts-back s restarts is small;
  found = found-back s restarts is;
}

pub one_encoding : OneEncoding
one_encoding a b run other is_a is_b same =
    sym (superblock-back a run is_a) ∙ ap superblock_in same ∙ superblock-back b other is_b

-- The parts of a volume lie end to end.
use Rattle.std.proofs.Common.{◌≡◌, ◌<◌, ◌+◌, ◌*◌, ◌^◌, ◌&&◌, ◌==◌, ℕ, true, false, refl, sym, ap, ◌∙◌, arith, leb, ltb, eqb}
use Rattle.std.specs.Prelude.{IsTrue}
use mathlib.Core.Bool.{and-true}
use Rattle.std.proofs.lemmas.Bool.{and_parts, eq-eqb, eqb-true, false_from_ne_true, le-leb, leb-true, lt-ltb, ltb-true}
use Rattle.std.proofs.lemmas.Nat.{row_fits}
use Rattle.geometry.specs.Places.{Fits, FitsIsTested, IsWithinLimits, PartsLieEndToEnd, fits, is_within_limits, sectors_per_seat, seats_sectors}
use Rattle.geometry.specs.declared.geometry.Geometry.{Geometry}

one_more : (k w : ℕ) → (k + 1) * w ≡ k * w + w
one_more k w = grind arith

pub end_to_end : PartsLieEndToEnd
end_to_end g fits =
    let all : seats_sectors g ≡ g.seats * sectors_per_seat g = refl in
    record {
      nodes = refl;
      region = omega (arith, fits.room);
      room = omega (arith, fits.room);
      seats = omega (arith, fits.room);
      next = λ k. let more = one_more k (sectors_per_seat g) in omega (arith, fits.room);
      apart = λ j k below.
          let w : ℕ = sectors_per_seat g in
          let row = row_fits j w k w below (omega arith) in
          omega (arith, fits.room);
      log = omega (arith, fits.room, all);
      all = omega (arith, fits.room);
    }

-- The test of a geometry

module _ (g : Geometry) where
  limits_of_test : IsTrue (is_within_limits g) → IsWithinLimits g
  limits_of_test is =
      let p11 = and_parts (leb 2 g.nodes && leb g.nodes 4194304 && leb 288 g.log && leb g.log 1022 && leb 1 g.seats && leb g.seats 64 && leb 1 g.slots && leb g.slots 8 && leb 1 g.names && leb g.names 1024 && leb 1 g.file_bytes) (leb g.file_bytes (2 ^ 24)) is in
      let p10 = and_parts (leb 2 g.nodes && leb g.nodes 4194304 && leb 288 g.log && leb g.log 1022 && leb 1 g.seats && leb g.seats 64 && leb 1 g.slots && leb g.slots 8 && leb 1 g.names && leb g.names 1024) (leb 1 g.file_bytes) p11.0 in
      let p9 = and_parts (leb 2 g.nodes && leb g.nodes 4194304 && leb 288 g.log && leb g.log 1022 && leb 1 g.seats && leb g.seats 64 && leb 1 g.slots && leb g.slots 8 && leb 1 g.names) (leb g.names 1024) p10.0 in
      let p8 = and_parts (leb 2 g.nodes && leb g.nodes 4194304 && leb 288 g.log && leb g.log 1022 && leb 1 g.seats && leb g.seats 64 && leb 1 g.slots && leb g.slots 8) (leb 1 g.names) p9.0 in
      let p7 = and_parts (leb 2 g.nodes && leb g.nodes 4194304 && leb 288 g.log && leb g.log 1022 && leb 1 g.seats && leb g.seats 64 && leb 1 g.slots) (leb g.slots 8) p8.0 in
      let p6 = and_parts (leb 2 g.nodes && leb g.nodes 4194304 && leb 288 g.log && leb g.log 1022 && leb 1 g.seats && leb g.seats 64) (leb 1 g.slots) p7.0 in
      let p5 = and_parts (leb 2 g.nodes && leb g.nodes 4194304 && leb 288 g.log && leb g.log 1022 && leb 1 g.seats) (leb g.seats 64) p6.0 in
      let p4 = and_parts (leb 2 g.nodes && leb g.nodes 4194304 && leb 288 g.log && leb g.log 1022) (leb 1 g.seats) p5.0 in
      let p3 = and_parts (leb 2 g.nodes && leb g.nodes 4194304 && leb 288 g.log) (leb g.log 1022) p4.0 in
      let p2 = and_parts (leb 2 g.nodes && leb g.nodes 4194304) (leb 288 g.log) p3.0 in
      let p1 = and_parts (leb 2 g.nodes) (leb g.nodes 4194304) p2.0 in
      record {
        min_nodes = leb-true 2 g.nodes p1.0;
        max_nodes = leb-true g.nodes 4194304 p1.1;
        min_log = leb-true 288 g.log p2.1;
        max_log = leb-true g.log 1022 p3.1;
        min_seats = leb-true 1 g.seats p4.1;
        max_seats = leb-true g.seats 64 p5.1;
        min_slots = leb-true 1 g.slots p6.1;
        max_slots = leb-true g.slots 8 p7.1;
        min_names = leb-true 1 g.names p8.1;
        max_names = leb-true g.names 1024 p9.1;
        min_file_bytes = leb-true 1 g.file_bytes p10.1;
        max_file_bytes = leb-true g.file_bytes (2 ^ 24) p11.1;
      }

  test_of_limits : IsWithinLimits g → IsTrue (is_within_limits g)
  test_of_limits is = rw (
    le-leb 2 g.nodes is.min_nodes,
    le-leb g.nodes 4194304 is.max_nodes,
    le-leb 288 g.log is.min_log,
    le-leb g.log 1022 is.max_log,
    le-leb 1 g.seats is.min_seats,
    le-leb g.seats 64 is.max_seats,
    le-leb 1 g.slots is.min_slots,
    le-leb g.slots 8 is.max_slots,
    le-leb 1 g.names is.min_names,
    le-leb g.names 1024 is.max_names,
    le-leb 1 g.file_bytes is.min_file_bytes,
    le-leb g.file_bytes (2 ^ 24) is.max_file_bytes,
  ) refl

pub fits_is_tested : FitsIsTested
unfolding fits
fits_is_tested g = (
  λ is.
      let a = and_parts (is_within_limits g && leb (164 + g.nodes + seats_sectors g + g.log) g.sectors) (ltb g.sectors (2 ^ 32)) is in
      let b = and_parts (is_within_limits g) (leb (164 + g.nodes + seats_sectors g + g.log) g.sectors) a.0 in
      record {
        limits = limits_of_test g b.0;
        room = leb-true (164 + g.nodes + seats_sectors g + g.log) g.sectors b.1;
        sectors = ltb-true g.sectors (2 ^ 32) a.1;
      },
  λ is. rw (
    test_of_limits g is.limits,
    le-leb (164 + g.nodes + seats_sectors g + g.log) g.sectors is.room,
    lt-ltb g.sectors (2 ^ 32) is.sectors,
  ) refl,
)

-- each part of the test

module _ (g : Geometry) where
  pub fits_within : IsWithinLimits g → g.sectors < 2 ^ 32 → leb (164 + g.nodes + seats_sectors g + g.log) g.sectors ≡ fits g
  unfolding fits
  fits_within is small = rw (test_of_limits g is, lt-ltb g.sectors (2 ^ 32) small) (sym (and-true (leb (164 + g.nodes + seats_sectors g + g.log) g.sectors)))

  pub fits_not : (IsWithinLimits g → ⊥) → false ≡ fits g
  unfolding fits
  fits_not not_so = rw (false_from_ne_true (is_within_limits g) (λ is. not_so (limits_of_test g is))) refl

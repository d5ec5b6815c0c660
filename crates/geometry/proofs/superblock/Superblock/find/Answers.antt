use Rattle.std.proofs.Common.{◌≡◌, ◌∙◌, ℕ, length, subst, sym, ap, arith}
use Rattle.geometry.specs.Places.{Fits}
use Rattle.geometry.proofs.ReadBack.{volume_fits}
use Rattle.geometry.proofs.superblock.Superblock.find.Goals as goal

pub returns-clause-encodes : goal.returns-clause-encodes
returns-clause-encodes c = record {
  fits = subst Fits (sym c.geometry_of-geometry.ensures) (volume_fits c.args.device_sectors c.args.sector.now (sym c.is_volume.ensures ∙ c.if-not-is_volume.false));
  identity = (let sixteen : length c.identity_of.result ≡ 16 = omega arith in sixteen);
}

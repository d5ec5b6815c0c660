use Rattle.std.proofs.Common.{◌∙◌, subst, sym}
use Rattle.volume.specs.Superblock.{FindsVersion}
use Rattle.volume.proofs.FirstLaws.{early_parts, finds_early, finds_large, finds_none}
use Rattle.volume.proofs.superblock.version_at.Goals as goal

pub early_version-requires : goal.early_version-requires
early_version-requires c = (early_parts c.args.sectors c.args.sector.now (sym c.is_early.ensures ∙ c.if-is_early.true)).version

pub returns-then-is_early-clause-some : goal.returns-then-is_early-clause-some
returns-then-is_early-clause-some c =
    subst (FindsVersion c.args.sectors c.args.sector.now) (sym c.early_version.ensures) (finds_early c.args.sectors c.args.sector.now (sym c.is_early.ensures ∙ c.if-is_early.true))

pub returns-in_err-superblock-clause-none : goal.returns-in_err-superblock-clause-none
returns-in_err-superblock-clause-none c = rw c.from_residual.ensures
    (finds_none c.args.sectors c.args.sector.now (sym c.is_early.ensures ∙ c.if-is_early.false) (sym c.in_err-superblock.ensures.found))

pub returns-clause-some : goal.returns-clause-some
returns-clause-some c = finds_large c.args.sectors c.args.sector.now c.in_ok-superblock.superblock (sym c.in_ok-superblock.ensures.found) c.in_ok-superblock.ensures.encodes

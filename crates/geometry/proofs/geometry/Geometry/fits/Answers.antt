use Rattle.std.proofs.Common.{◌∙◌, sym, arith}
use Rattle.geometry.proofs.PlaceLaws.{fits_not, fits_within}
use Rattle.geometry.proofs.geometry.Geometry.fits.Goals as goal

pub returns-then-is_within_limits-clause-value : goal.returns-then-is_within_limits-clause-value
returns-then-is_within_limits-clause-value c = rw c.seats_sectors.ensures (fits_within c.args.self.now (c.is_within_limits.ensures.0 c.if-is_within_limits.true) (omega arith))

pub returns-else-is_within_limits-clause-value : goal.returns-else-is_within_limits-clause-value
returns-else-is_within_limits-clause-value c = c.if-is_within_limits.false ∙ fits_not c.args.self.now (λ is. let yes = c.is_within_limits.ensures.1 is in absurd cc)

use Rattle.std.proofs.Common.{◌∙◌}
use Rattle.disk.proofs.LandingLemmas.{number_for-drop}
use Rattle.disk.proofs.landing.number_for_sector.Goals as goal

pub loop-landed-preserved : goal.loop-landed-preserved
loop-landed-preserved c = c.loop-landed.invariant ∙ number_for-drop _ _ _ _ c.loop-landed-test.true c.if-landed-sector.false

use Rattle.std.proofs.Common.{◌∙◌, ap, refl}
use Rattle.disk.specs.Trial.{lists_of}
use Rattle.disk.proofs.TrialLemmas.{every_landing-more}
use Rattle.disk.proofs.trial.combinations.Goals as goal

pub loop-sector-init : goal.loop-sector-init
loop-sector-init c = rw (c.in_ok-push.ensures.items, c.new-landings.ensures.items, c.new.ensures.items) refl

pub loop-sector-preserved : goal.loop-sector-preserved
loop-sector-preserved c = every_landing-more _ _ _ _ _ c.loop-sector-test.true c.in_ok-landings.ensures
    (ap (λ landings. lists_of landings) c.deref.ensures.value ∙ c.loop-sector.invariant)

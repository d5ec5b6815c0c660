use Rattle.disk.proofs.TrialLemmas.{extended-more}
use Rattle.disk.proofs.trial.with_choices.Goals as goal

pub loop-landing-preserved : goal.loop-landing-preserved
loop-landing-preserved c =
    extended-more _ c.args.sector _ c.landing-item.result _ _ _ c.loop-landing-test.true c.landing-item.is c.deref.ensures.value c.loop-landing.invariant c.in_ok-push_choices.ensures

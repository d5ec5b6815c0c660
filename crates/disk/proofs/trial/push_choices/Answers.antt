use Rattle.std.proofs.Common.{add-one}
use Rattle.disk.proofs.TrialLemmas.{choices-more}
use Rattle.disk.proofs.trial.push_choices.Goals as goal

pub loop-earlier-preserved : goal.loop-earlier-preserved
loop-earlier-preserved c = choices-more _ _ c.loop-earlier.earlier _ _ _ _ _ (add-one c.loop-earlier.earlier) c.in_ok-push-2.ensures.items
    c.in_ok-with_choice-2.ensures c.loop-earlier.invariant

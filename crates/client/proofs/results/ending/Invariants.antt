use Rattle.std.proofs.Common.{map, ◌≡◌, drop}
use Rattle.wire.specs.OutcomeView.{outcome_view}
use Rattle.client.specs.Replies.{ending}
use Rattle.client.proofs.results.ending.Given as goal

abbrev pub invariant-loop-i : goal.invariant-loop-i
invariant-loop-i l = ending (drop l.i l.operations) (map outcome_view (drop l.i l.results)) ≡ ending l.operations (map outcome_view l.results)

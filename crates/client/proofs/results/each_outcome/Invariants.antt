use Rattle.std.proofs.Common.{map, ◌≡◌, ◌-◌}
use Rattle.xdr.specs.Forms.{each_at}
use Rattle.xdr.proofs.Loops.{with_prefix}
use Rattle.model.specs.Wire.WireAnswers.{outcome}
use Rattle.wire.specs.OutcomeView.{outcome_view}
use Rattle.client.proofs.results.each_outcome.Given as goal

abbrev pub invariant-loop : goal.invariant-loop
invariant-loop l =
    with_prefix (map outcome_view l.list.items) (each_at outcome.read (l.count - l.counter) l.at)
    ≡ each_at outcome.read l.count l.fn.at

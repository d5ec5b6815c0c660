use Rattle.std.proofs.Common.{map, ◌≡◌, ◌++◌, ◌∷◌, [], inl, inr}
use Rattle.std.proofs.lemmas.Result.{err_from_is_err_and}
use Rattle.std.proofs.lemmas.List.{map_push}
use Rattle.xdr.specs.Forms.{each_at}
use Rattle.xdr.proofs.Loops.{goes_on, ends, is_done}
use Rattle.model.specs.Wire.WireAnswers.{outcome}
use Rattle.wire.specs.OutcomeView.{outcome_view}
use Rattle.client.proofs.results.each_outcome.Goals as goal

pub returns-in_err-one : goal.returns-in_err-one
returns-in_err-one c =
    let p = err_from_is_err_and c.from_residual.result c.from_residual.ensures.1 in
    rw (p.1, p.2)
    (elim (c.in_err-one.ensures.reads.0) [
      | inl memory ↦ inl memory
      | inr refused ↦ inr
          (ends outcome.read (map outcome_view c.loop.list.items) c.args.count c.loop.counter c.loop.at c.in_err-one.field-0.0
          (each_at outcome.read c.args.count c.args.at) c.loop-test.true refused c.loop.invariant)
    ])

pub loop-preserved : goal.loop-preserved
loop-preserved c =
    let one = outcome_view c.in_ok-one.one in
    let e : map outcome_view c.push.new.self.items ≡ map outcome_view c.loop.list.items ++ one ∷ [] =
    rw c.in_ok-push.ensures.items (map_push outcome_view c.loop.list.items c.in_ok-one.one) in
    rw e
    (goes_on outcome.read (map outcome_view c.loop.list.items) c.args.count c.loop.counter c.loop.at one c.read_outcome.new.r
    (each_at outcome.read c.args.count c.args.at) c.loop-test.true c.in_ok-one.ensures.reads c.loop.invariant)

pub returns : goal.returns
returns c =
    is_done outcome.read (map outcome_view c.loop.list.items) c.args.count c.loop.counter c.loop.at
    (each_at outcome.read c.args.count c.args.at) c.loop-test.false c.loop.invariant

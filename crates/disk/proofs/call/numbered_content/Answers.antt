use Rattle.std.proofs.Common.{◌≡◌, ◌+◌, length, take, arith}
use Rattle.disk.specs.Calls.{written_by}
use Rattle.disk.proofs.CallLemmas.{length-written_some, length-written_none, numbered, no_such_number}
use Rattle.disk.proofs.call.numbered_content.Goals as goal
use Rattle.disk.proofs.call.numbered_content.Goals.{in-Some-2, in-None}

pub returns-in-Some : goal.returns-in-Some
returns-in-Some c =
    let is_number : c.args.number ≡ 1 + length (written_by c.args.sector (take c.loop-call.call-index c.args.calls.now)) = omega arith in
    numbered _ _ _ _ _ _ _ c.loop-call-test.true c.in-Some.ensures is_number

pub loop-call-preserved : goal.loop-call-preserved
loop-call-preserved c = elim c.match-content_for.branch [
  | in-Some-2 w ↦ record { some_left = omega arith; counted = omega (arith, length-written_some _ _ _ _ _ c.loop-call-test.true w.in-Some-2.ensures) }
  | in-None w ↦ record { some_left = omega arith; counted = omega (arith, length-written_none _ _ _ _ c.loop-call-test.true w.in-None.ensures) }
]

pub returns : goal.returns
returns c = no_such_number _ _ _ _ _ _ c.loop-call-test.false c.loop-call.invariant.some_left c.loop-call.invariant.counted

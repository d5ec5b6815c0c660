use Rattle.std.proofs.Common.{true≢false, sym, ◌<◌, ◌+◌, arith}
use Rattle.directory.specs.Records.{Record, record_of}
use Rattle.tree_check.proofs.AgeLaws.{not_before}
use Rattle.tree_check.proofs.NodeLaws.{each_more}
use Rattle.tree_check.proofs.ages.are_names_before.Goals as goal

pub returns-then-entry-last : goal.returns-then-entry-last
returns-then-entry-last c = (
  λ never. absurd (true≢false (sym never)),
  λ before. absurd (not_before (c.args.last + 1) c.args.names.now c.loop-place.place (record_of c.entry.result.now) c.entry.ensures (omega (arith, c.loop-place-test.true, c.len-place-end.ensures.count)) (omega (arith, c.if-entry-last.true)) before),
)

pub loop-place-preserved : goal.loop-place-preserved
loop-place-preserved c =
    each_more (λ (entry : Record). entry.0 < c.args.last + 1) c.args.names.now c.loop-place.place (record_of c.entry.result.now) c.entry.ensures
    (omega (arith, c.loop-place-test.true, c.len-place-end.ensures.count)) c.loop-place.invariant (omega (arith, c.if-entry-last.false))

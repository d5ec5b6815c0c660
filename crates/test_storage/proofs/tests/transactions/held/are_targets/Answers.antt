use Rattle.std.proofs.Common.{arith, sym, ◌∙◌, refl}
use Rattle.journal.proofs.GateWords.{AreTargets-more}
use Rattle.test_storage.proofs.tests.transactions.held.are_targets.Goals as goal

pub loop-i-preserved : goal.loop-i-preserved
loop-i-preserved c = AreTargets-more c.args.end c.args.to.now c.loop-i.i _ (omega arith) refl c.loop-i.invariant
    c.if-target-lt-FIRST_TARGET.false c.if-target-end.false (sym c.contains.ensures.value ∙ c.if-contains.false)

use Rattle.std.proofs.Common.{◌∙◌, sym, arith}
use Rattle.journal.proofs.Behinds.{meets_more, meets_one, meets_all}
use Rattle.journal.proofs.gate.meets.Goals as goal

pub returns-then-contains : goal.returns-then-contains
returns-then-contains c = sym (meets_one c.args.named.now c.args.to.now c.loop-target.target-index (omega arith) (sym c.contains.ensures.value ∙ c.if-contains.true))

pub loop-target-preserved : goal.loop-target-preserved
loop-target-preserved c = meets_more c.args.named.now c.args.to.now c.loop-target.target-index (omega arith) c.loop-target.invariant
    (sym c.contains.ensures.value ∙ c.if-contains.false)

pub returns : goal.returns
returns c = sym (meets_all c.args.named.now c.args.to.now c.loop-target.target-index (omega arith) c.loop-target.invariant)

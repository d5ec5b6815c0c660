use Rattle.std.proofs.Common.{◌≡◌, false, true, arith, sym, ◌∙◌, refl}
use Rattle.journal.proofs.GateWords.{AreNamed-more, named_twice}
use Rattle.journal.proofs.gate.are_targets.Goals as goal
use Rattle.journal.proofs.gate.are_targets.Goals.{else-area-via-then-area+else-contains, else-area-via-else-area}

pub loop-i-preserved : goal.loop-i-preserved
loop-i-preserved c = AreNamed-more c.args.area c.args.to.now c.loop-i.i _ (omega arith) refl c.loop-i.invariant
    c.if-target-lt-FIRST_TARGET.false c.if-target-area.false
    (elim c.else-area.branch [
      | else-area-via-then-area+else-contains w ↦ λ once. sym w.contains.ensures.value ∙ w.if-contains.false
      | else-area-via-else-area w ↦ λ once. absurd (let never : true ≡ false = sym once ∙ w.if-area.false in cc)
    ])

pub returns-then-contains : goal.returns-then-contains
returns-then-contains c = (
  (λ yes. absurd (let never : false ≡ true = yes in cc)),
  (λ named. absurd (named_twice c.args.to.now c.loop-i.i (named.apart c.if-area.true) (omega arith) (sym c.contains.ensures.value ∙ c.if-contains.true))),
)

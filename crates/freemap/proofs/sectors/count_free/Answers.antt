use Rattle.std.proofs.Common.{arith, ◌∙◌}
use Rattle.freemap.proofs.Bits.{free_places-none, count-free, count-used}
use Rattle.freemap.proofs.sectors.count_free.Goals as goal
use Rattle.freemap.proofs.sectors.count_free.Goals.{then-not-is_set, else-not-is_set}

pub loop-place-init : goal.loop-place-init
loop-place-init c = (omega arith, free_places-none c.args.bits.now)

pub loop-place-preserved : goal.loop-place-preserved
loop-place-preserved c =
    let far = c.loop-place.invariant in
    elim c.if-not-is_set.branch [
      | then-not-is_set w ↦ (omega (arith, w.free-is, far.0), w.free-is ∙ count-free c.args.bits.now c.loop-place.place c.loop-place.free c.is_set.result c.is_set.ensures far.1 w.if-not-is_set.true)
      | else-not-is_set w ↦ (omega (arith, w.free-is, far.0), w.free-is ∙ count-used c.args.bits.now c.loop-place.place c.loop-place.free c.is_set.result c.is_set.ensures far.1 w.if-not-is_set.false)
    ]

use Rattle.std.proofs.Common.{◌≡◌, ◌+◌, take, get_or, refl, ap, arith, eqb}
use Rattle.std.proofs.lemmas.List.{take_all}
use Rattle.layout.specs.Marks.{once_if, times}
use Rattle.volume_load.proofs.MarkingLaws.{marked_none, marked_more, can_more, times-take}
use Rattle.volume_load.proofs.MarkingLaws.{times-prefix}
use Rattle.volume_load.proofs.marks.mark_sectors.Goals as goal

pub loop-sector-init : goal.loop-sector-init
loop-sector-init c = marked_none c.args.first c.args.places.now (λ n. times n (take 0 c.args.sectors.now)) (λ n. refl)

pub returns-then-not-mark_sector-clause-refused : goal.returns-then-not-mark_sector-clause-refused
returns-then-not-mark_sector-clause-refused c = λ is can.
    let i = c.loop-sector.sector-index in
    let sectors = c.args.sectors.now in
    c.mark_sector.ensures.refused c.if-not-mark_sector.true
    (can_more c.args.first c.args.places.now c.loop-sector.places (λ n. times n (take i sectors)) (λ n. once_if (eqb n (get_or sectors i 0))) (λ n. times n sectors)
    (λ n. omega (arith, times-take n sectors i 0 c.loop-sector-test.true, times-prefix n sectors (i + 1))) c.loop-sector.invariant can)

pub loop-sector-preserved : goal.loop-sector-preserved
loop-sector-preserved c =
    let i = c.loop-sector.sector-index in
    let sectors = c.args.sectors.now in
    marked_more c.args.first c.args.places.now c.loop-sector.places c.mark_sector.new.places (λ n. times n (take i sectors)) (λ n. once_if (eqb n (get_or sectors i 0))) (λ n. times n (take (i + 1) sectors))
    (λ n. omega (arith, times-take n sectors i 0 c.loop-sector-test.true)) c.loop-sector.invariant (c.mark_sector.ensures.marked c.if-not-mark_sector.false)

pub returns-clause-marked : goal.returns-clause-marked
returns-clause-marked c = λ is.
    let sectors = c.args.sectors.now in
    let i = c.loop-sector.sector-index in
    let whole : take i sectors ≡ sectors = take_all i sectors c.loop-sector-test.false in
    marked_more c.args.first c.args.places.now c.loop-sector.places c.loop-sector.places (λ n. times n (take i sectors)) (λ n. 0) (λ n. times n sectors) (λ n. let e = ap (times n) whole in omega arith) c.loop-sector.invariant
    (marked_none c.args.first c.loop-sector.places (λ n. 0) (λ n. refl))

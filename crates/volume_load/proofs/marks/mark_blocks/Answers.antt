use Rattle.std.proofs.Common.{◌≡◌, ◌<◌, ◌+◌, ◌∙◌, ℕ, List, [], ◌∷◌, Option, Some, None, length, take, get_or, refl, sym, ap, arith, subst, eqb}
use Rattle.std.proofs.lemmas.List.{take_all}
use Rattle.freemap.specs.declared.bitmap.Bitmap.{Bitmap}
use Rattle.layout.specs.Marks.{once_if, times_set}
use Rattle.layout.proofs.NumberLaws.{times_set-prefix}
use Rattle.volume_load.specs.Marking.{AreMarked}
use Rattle.volume_load.proofs.MarkingLaws.{marked_none, marked_more, can_more, times_set-take, times_set-one}
use Rattle.volume_load.proofs.marks.mark_blocks.Goals as goal
use Rattle.volume_load.proofs.marks.mark_blocks.Goals.{in-Some+else-not-mark_sector, in_default}

pub loop-block-init : goal.loop-block-init
loop-block-init c = marked_none c.args.first c.args.places.now (λ n. times_set n (take 0 c.args.blocks.now)) (λ n. refl)

pub returns-then-not-mark_sector-clause-refused : goal.returns-then-not-mark_sector-clause-refused
returns-then-not-mark_sector-clause-refused c = λ is can.
    let i = c.loop-block.block in
    let blocks : List (Option ℕ) = c.args.blocks.now in
    let within : i < length blocks = omega (arith, c.loop-block-test.true, c.len-block-end.ensures.count) in
    let one : get_or blocks i None ≡ Some c.in-Some.sector = sym c.at.ensures ∙ c.in-Some.is in
    c.mark_sector.ensures.refused c.if-not-mark_sector.true
    (can_more c.args.first c.args.places.now c.loop-block.places (λ n. times_set n (take i blocks)) (λ n. once_if (eqb n c.in-Some.sector)) (λ n. times_set n blocks)
    (λ n. omega (arith, times_set-take n blocks i within, times_set-one n (get_or blocks i None) c.in-Some.sector one, times_set-prefix n blocks (i + 1))) c.loop-block.invariant can)

pub loop-block-preserved : goal.loop-block-preserved
loop-block-preserved c =
    let i = c.loop-block.block in
    let blocks : List (Option ℕ) = c.args.blocks.now in
    let within : i < length blocks = omega (arith, c.loop-block-test.true, c.len-block-end.ensures.count) in
    elim c.match-at.branch [
      | in-Some+else-not-mark_sector w ↦
          let one : get_or blocks i None ≡ Some w.in-Some.sector = sym c.at.ensures ∙ w.in-Some.is in
          let marked = marked_more c.args.first c.args.places.now c.loop-block.places w.mark_sector.new.places (λ n. times_set n (take i blocks)) (λ n. once_if (eqb n w.in-Some.sector)) (λ n. times_set n (take (i + 1) blocks))
          (λ n. omega (arith, times_set-take n blocks i within, times_set-one n (get_or blocks i None) w.in-Some.sector one)) c.loop-block.invariant (w.mark_sector.ensures.marked w.if-not-mark_sector.false) in
          subst (λ (places : Bitmap). AreMarked c.args.first c.args.places.now places (λ n. times_set n (take (i + 1) blocks))) (sym w.places-is) marked
      | in_default w ↦
          let none : get_or blocks i None ≡ None = sym c.at.ensures ∙ w.in_default.is in
          let marked = marked_more c.args.first c.args.places.now c.loop-block.places c.loop-block.places (λ n. times_set n (take i blocks)) (λ n. 0) (λ n. times_set n (take (i + 1) blocks))
          (λ n. let off = ap (λ (block : Option ℕ). times_set n (block ∷ [])) none in omega (arith, times_set-take n blocks i within)) c.loop-block.invariant
          (marked_none c.args.first c.loop-block.places (λ n. 0) (λ n. refl)) in
          subst (λ (places : Bitmap). AreMarked c.args.first c.args.places.now places (λ n. times_set n (take (i + 1) blocks))) (sym w.places-is) marked
    ]

pub returns-clause-marked : goal.returns-clause-marked
returns-clause-marked c = λ is.
    let blocks : List (Option ℕ) = c.args.blocks.now in
    let i = c.loop-block.block in
    let whole : take i blocks ≡ blocks = take_all i blocks (omega (arith, c.loop-block-test.false, c.len-block-end.ensures.count)) in
    marked_more c.args.first c.args.places.now c.loop-block.places c.loop-block.places (λ n. times_set n (take i blocks)) (λ n. 0) (λ n. times_set n blocks) (λ n. let e = ap (times_set n) whole in omega arith) c.loop-block.invariant
    (marked_none c.args.first c.loop-block.places (λ n. 0) (λ n. refl))

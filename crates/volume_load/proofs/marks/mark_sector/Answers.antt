use Rattle.std.proofs.Common.{◌∙◌, ℕ, false, Some, sym, ap, subst, arith, get_or, Bool, List, eqb}
use Rattle.std.proofs.lemmas.Option.{slice_get-get_or}
use Rattle.layout.specs.Marks.{once_if}
use Rattle.volume_load.specs.Marking.{AreMarked}
use Rattle.volume_load.proofs.MarkingLaws.{cannot_prefix, cannot_behind, cannot_used, marks_one}
use Rattle.volume_load.proofs.marks.mark_sector.Goals as goal
use Rattle.volume_load.proofs.marks.mark_sector.Goals.{then-place-len-via-then-place-len, then-place-len-via-else-place-len+then-is_used}

pub returns-in_default-clause-refused : goal.returns-in_default-clause-refused
returns-in_default-clause-refused c = λ is. cannot_prefix c.args.first c.args.places.now c.args.sector (let no = c.in_default.ensures in omega arith)

pub returns-then-place-len-clause-refused : goal.returns-then-place-len-clause-refused
returns-then-place-len-clause-refused c = λ is. elim c.then-place-len.branch [
  | then-place-len-via-then-place-len w ↦ cannot_behind c.args.first c.args.places.now c.args.sector (omega (arith, c.in-Some.ensures, w.if-place-len.true, c.len.ensures))
  | then-place-len-via-else-place-len+then-is_used w ↦ cannot_used c.args.first c.args.places.now c.args.sector c.in-Some.ensures.0
      (ap (λ (place : ℕ). get_or c.args.places.now place false) (sym c.in-Some.ensures.1) ∙ sym w.if-is_used.ensures)
]

pub mark-requires : goal.mark-requires
mark-requires c =
    slice_get-get_or c.args.places.now c.in-Some.place false (omega (arith, c.if-place-len.false, c.len.ensures)) ∙ ap Some (sym c.is_used.ensures ∙ c.if-is_used.false)

pub returns-clause-marked : goal.returns-clause-marked
returns-clause-marked c = λ is.
    let free = slice_get-get_or c.args.places.now c.in-Some.place false (omega (arith, c.if-place-len.false, c.len.ensures)) ∙ ap Some (sym c.is_used.ensures ∙ c.if-is_used.false) in
    subst (λ (new : List Bool). AreMarked c.args.first c.args.places.now new (λ n. once_if (eqb n c.args.sector))) (sym c.mark.ensures)
    (marks_one c.args.first c.args.places.now c.in-Some.place c.args.sector c.in-Some.ensures.0 c.in-Some.ensures.1 free)

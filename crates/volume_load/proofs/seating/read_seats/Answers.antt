use Rattle.std.proofs.Common.{◌≡◌, ◌∙◌, sym, subst, inl, inr}
use Rattle.std.proofs.lemmas.Bool.{false≢true}
use Rattle.model_tree.specs.Seats.Seats.{AreOfRuns}
use Rattle.model_tree.specs.Seats.SeatViews.{seats_view}
use Rattle.volume_load.proofs.SeatingLaws.{none_free, one_seats}
use Rattle.volume_load.proofs.seating.read_seats.Goals as goal
use Rattle.volume_load.proofs.seating.read_seats.Goals.{then-not-are_of_runs-via-then-not-are_of_runs, then-not-are_of_runs-via-else-not-are_of_runs+then-not-is_free, then-may_keep, else-may_keep}

pub returns-then-not-are_of_runs-clause-damaged : goal.returns-then-not-are_of_runs-clause-damaged
returns-then-not-are_of_runs-clause-damaged g c = λ word is seats may holds.
    let read = c.in_ok-seats.ensures in
    let same : seats ≡ seats_view c.in_ok-seats.seats = one_seats c.args.number (g.S.Sectors.image (g.S.Sectors.kept c.args.sectors.now)) seats (seats_view c.in_ok-seats.seats) c.requires.number may.kept.places read.fits holds (read.found word) in
    elim c.then-not-are_of_runs.branch [
      | then-not-are_of_runs-via-then-not-are_of_runs w ↦ false≢true (sym w.if-not-are_of_runs.true ∙ c.are_of_runs.ensures.1 (subst (AreOfRuns c.args.run) same may.kept.of_runs))
      | then-not-are_of_runs-via-else-not-are_of_runs+then-not-is_free w ↦ elim w.if-may_keep.branch [
        | then-may_keep w' ↦ false≢true (sym w.if-not-is_free.true ∙ w'.value-is ∙ w'.if-may_keep.true)
        | else-may_keep w' ↦ elim may.none [
          | inl keeps ↦ false≢true (sym w'.if-may_keep.false ∙ keeps)
          | inr free ↦ false≢true (sym w.if-not-is_free.true ∙ w'.value-is ∙ w'.is_free.ensures.1 (none_free (seats_view c.in_ok-seats.seats) (sym same ∙ free)))
        ]
      ]
    ]

use Rattle.std.proofs.Common.{◌≡◌, ℕ, List, Option, Err, sym, ap, ◌∙◌}
use Rattle.std.proofs.lemmas.Result.{err_from_is_err_and}
use Rattle.model_tree.specs.Seats.Seats.{Seat}
use Rattle.model_tree.specs.Seats.SeatViews.{place_view}
use Rattle.seats.specs.Encoding.{is_determined, sector_of, seat_sector}
use Rattle.seats.proofs.ReadBack.{err_is, place-back}
use Rattle.seats.proofs.reading.read_seat.Goals as goal

pub returns-then-not-are_sectors_of-clause-not_seat : goal.returns-then-not-are_sectors_of-clause-not_seat
returns-then-not-are_sectors_of-clause-not_seat c = λ is place fits encoded.
    let sectors : ℕ → List ℕ = sector_of c.args.sectors.now in
    let same : place_view c.in_ok-place.place ≡ place = c.in_ok-place.ensures.value ∙ place-back c.args.room c.args.whole place sectors c.requires.few fits encoded in
    let written = c.are_sectors_of.ensures.1 (λ k few is. encoded k few (ap (λ (p : Option Seat). is_determined c.args.whole k p) (sym same) ∙ is) ∙ ap (λ (p : Option Seat). seat_sector k p) (sym same)) in
    absurd cc

pub returns-in_err-place-clause-not_seat : goal.returns-in_err-place-clause-not_seat
returns-in_err-place-clause-not_seat c = λ is place fits encoded.
    let p = err_from_is_err_and c.from_residual.result c.from_residual.ensures.1 in
    let fault = err_is _ _ (rw (p.1, p.2) at is) in
    c.in_err-place.ensures.err (ap (λ x. Err x) fault) c.args.whole place fits encoded

use Rattle.std.proofs.Common.{Some, sym, ap, ◌∙◌, Err}
use Rattle.std.proofs.lemmas.Result.{err_from_is_err_and}
use Rattle.model_tree.specs.Seats.Seats.{Seat}
use Rattle.seats.specs.Encoding.{sector_of}
use Rattle.seats.proofs.Every.{every_seat}
use Rattle.seats.proofs.ReadBack.{place_none, place_some, no_place, err_is}
use Rattle.seats.proofs.reading.place_in.Goals as goal

pub returns-then-sectors-ne83-clause-value : goal.returns-then-sectors-ne83-clause-value
returns-then-sectors-ne83-clause-value c = sym (place_none (sector_of c.args.sectors.now) c.if-sectors-ne83.true)

pub returns-in_err-seat-clause-err : goal.returns-in_err-seat-clause-err
returns-in_err-seat-clause-err c = λ is whole place fits encoded.
    let p = err_from_is_err_and c.from_residual.result c.from_residual.ensures.1 in
    let fault = err_is _ _ (rw (p.1, p.2) at is) in
    no_place c.args.room (sector_of c.args.sectors.now) c.if-sectors-ne83.false (c.in_err-seat.ensures.err (ap (λ x. Err x) fault)) whole place fits encoded

pub returns-clause-value : goal.returns-clause-value
returns-clause-value c =
    ap (λ (s : Seat). Some s) c.in_ok-seat.ensures.value ∙ sym (place_some (sector_of c.args.sectors.now) c.if-sectors-ne83.false)

pub returns-clause-fits : goal.returns-clause-fits
returns-clause-fits c = every_seat c.args.room c.in_ok-seat.seat c.in_ok-seat.ensures.fits

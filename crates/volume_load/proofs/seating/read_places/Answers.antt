use Rattle.std.proofs.Common.{◌<◌, ◌+◌, ◌^◌, ℕ, Bool, None, get_or, map, sym, ap, subst, arith}
use Rattle.std.specs.Prelude.{Err}
use Rattle.layout.specs.Stands.{frees_whole, seats_from, sizes_by}
use Rattle.model_tree.specs.Seats.SeatViews.{place_view}
use Rattle.seats.specs.Encoding.{HoldPlace, IsSeatPlace}
use Rattle.seats.specs.Sizes.{all_sectors}
use Rattle.seats.specs.declared.sizes.SeatSizes.{SeatSizes}
use Rattle.volume_load.specs.declared.fault.ScanFault.{ScanFault}
use Rattle.volume_load.specs.Seating.{at_place}
use Rattle.volume_load.proofs.SeatingLaws.{hold_one, holds_all, place_of, seats_fit}
use Rattle.volume_load.proofs.SectorLaws.{same_fault}
use Rattle.volume_load.proofs.seating.read_places.Goals as goal

pub read_place-requires-clause-fits : goal.read_place-requires-clause-fits
read_place-requires-clause-fits g c =
    subst (λ (sizes : SeatSizes). c.seats_from-first.result + all_sectors sizes < 2 ^ 32) (sym c.seat_sizes-sizes.ensures.value)
    (omega (arith, c.seats_from-first.ensures, seats_fit c.args.number c.requires.number))

pub returns-in_err-seat-clause-damaged : goal.returns-in_err-seat-clause-damaged
returns-in_err-seat-clause-damaged g c = λ word is seats are holds.
    let number = c.args.number in
    let place = c.loop-place.place in
    let image = g.S.Sectors.image (g.S.Sectors.kept c.args.sectors.now) in
    let seat = get_or seats place None in
    let few = subst (λ (sizes : SeatSizes). place < sizes.places) c.seat_sizes-sizes.ensures.value c.loop-place-test.true in
    let fits = subst (λ (sizes : SeatSizes). IsSeatPlace sizes.slots seat) (sym c.seat_sizes-sizes.ensures.value) (place_of (sizes_by number) seats place few are) in
    let held = subst (λ (sizes : SeatSizes). HoldPlace sizes.slots (frees_whole number) (at_place sizes (seats_from number) image place) seat) (sym c.seat_sizes-sizes.ensures.value)
    (hold_one number image seats place few holds) in
    let sizes = c.seat_sizes-sizes.result in
    let slots : ℕ = sizes.slots in
    c.in_err-seat.ensures.damaged word (ap (λ (e : ScanFault). Err e) (same_fault c.from_residual-in_err-seat.result c.in_err-seat.field-0.0 c.from_residual-in_err-seat.ensures.1 is)) seat
    fits
    (subst (λ kept. HoldPlace slots c.frees_whole-whole.result (at_place sizes c.seats_from-first.result (g.S.Sectors.image kept) place) seat) (sym c.loop-place.invariant.kept)
    (subst (λ (first : ℕ). HoldPlace slots c.frees_whole-whole.result (at_place sizes first image place) seat) (sym c.seats_from-first.ensures)
    (subst (λ (whole : Bool). HoldPlace slots whole (at_place sizes (seats_from number) image place) seat) (sym c.frees_whole-whole.ensures) held)))

pub returns-clause-found : goal.returns-clause-found
returns-clause-found g c = λ word.
    let number = c.args.number in
    let image = g.S.Sectors.image (g.S.Sectors.kept c.args.sectors.now) in
    let count = ap (λ (sizes : SeatSizes). sizes.places) c.seat_sizes-sizes.ensures.value in
    holds_all number image (map place_view c.loop-place.places.items)
    (λ place few. c.loop-place.invariant.found word place (omega (arith, few, count, c.loop-place-test.false)))

use Rattle.std.proofs.Common.{◌≡◌, arith, length, sym, ap, ◌∙◌}
use Rattle.std.proofs.lemmas.List.{length-map}
use Rattle.model_tree.specs.Seats.SeatViews.{place_view}
use Rattle.volume.specs.SeatUpdates.{slots_by}
use Rattle.test_fs.proofs.tests.large.start.Goals as goal

pub put_seats-requires : goal.put_seats-requires
put_seats-requires c up =
    let found = c.in-Ok.ensures.seats in
    let seats = c.in-Ok.field-0.seats in
    let slots = ap (λ sizes. sizes.slots) c.seat_sizes.ensures.value ∙ ap slots_by c.version.ensures.version in
    let five : length seats.places.items ≡ 5 = omega (arith, c.len.ensures, c.if-len-ne-PLACES.false, seats.places.ok) in
    c.in_ok-edits.ensures _ _ _ (omega (arith, found.counted)) (omega (arith, c.seat_sizes.ensures.sizes.some_slots, slots))
    (ap length (sym (found.are up)) ∙ length-map seats.places.items place_view ∙ five)

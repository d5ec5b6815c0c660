use Rattle.std.proofs.Common.{◌≡◌, ◌+◌, ◌*◌, ℕ, ap, ◌∙◌, arith}
use Rattle.seats.specs.Sizes.{place_sectors}
use Rattle.volume.specs.SeatUpdates.{place_start, sectors_by}
use Rattle.volume.proofs.SeatPlaces.{place_room}
use Rattle.volume.proofs.seat_places.first_of.Goals as goal

pub overflow_add-result : goal.overflow_add-result
overflow_add-result c =
    let wide = ap (λ (w : ℕ). w * c.args.place) (c.place_sectors.ensures ∙ ap place_sectors c.seat_sizes.ensures.value) in
    let room = place_room c.args.version c.args.place c.requires.number c.requires.place in
    omega (arith, wide, room, c.seats_from.ensures)

pub returns-clause-room : goal.returns-clause-room
returns-clause-room c =
    let wide = ap (λ (w : ℕ). w * c.args.place) (c.place_sectors.ensures ∙ ap place_sectors c.seat_sizes.ensures.value) in
    let room = place_room c.args.version c.args.place c.requires.number c.requires.place in
    omega (arith, wide, room, c.seats_from.ensures)

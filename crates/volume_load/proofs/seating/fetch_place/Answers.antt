use Rattle.std.proofs.Common.{◌≡◌, ◌<◌, ◌+◌, ◌*◌, ℕ, sym, ap, subst, arith}
use Rattle.seats.proofs.Places.{within_places}
use Rattle.seats.specs.Sizes.{all_sectors, place_sectors}
use Rattle.seats.specs.declared.sizes.SeatSizes.{SeatSizes}
use Rattle.volume_load.proofs.seating.fetch_place.Goals as goal

-- sector k of a place is one of all of them
one_of : (sizes : SeatSizes) (count place k : ℕ) → count ≡ place_sectors sizes → place < sizes.places → k < count → count * place + k < all_sectors sizes
one_of sizes count place k same few small =
    let sectors : count * place ≡ place_sectors sizes * place = ap (λ (w : ℕ). w * place) same in
    let within = within_places (place_sectors sizes) sizes.places place k few (omega (arith, same, small)) in
    omega (arith, sectors, within)

pub overflow_add-first : goal.overflow_add-first
overflow_add-first g c =
    let one = one_of c.args.sizes c.place_sectors-count.result c.args.place c.loop-k.k c.place_sectors-count.ensures c.requires.place c.loop-k-test.true in
    omega (arith, c.requires.fits, one)

pub fetch-requires : goal.fetch-requires
fetch-requires g c =
    let one = one_of c.args.sizes c.place_sectors-count.result c.args.place c.loop-k.k c.place_sectors-count.ensures c.requires.place c.loop-k-test.true in
    subst (λ kept. c.args.first + (c.place_sectors-count.result * c.args.place + c.loop-k.k) < g.S.Sectors.size kept) (sym c.loop-k.invariant.kept)
    (omega (arith, c.requires.within, one))

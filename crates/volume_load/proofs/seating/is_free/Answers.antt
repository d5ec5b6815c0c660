use Rattle.std.proofs.Common.{◌≡◌, ◌∙◌, List, Option, None, Some, length, get_or, map, replicate, refl, sym, ap, arith}
use Rattle.model_tree.specs.declared.seats.Seat.{Seat}
use Rattle.model_tree.specs.Seats.SeatViews.{place_view, seats_view}
use Rattle.std.proofs.lemmas.Bool.{false≢true}
use Rattle.volume_load.proofs.SeatingLaws.{all_free, count_viewed, none_yet, some_there}
use Rattle.volume_load.proofs.seating.is_free.Goals as goal

pub returns-then-is_some : goal.returns-then-is_some
returns-then-is_some c = (
  λ is. absurd (false≢true is),
  λ free. absurd (some_there c.args.seats.now.places.items c.loop-place.place-index c.place-item.result (omega (arith, c.loop-place-test.true, c.deref-place-items.ensures.len))
      (c.place-item.is ∙ ap (λ (l : List (Option Seat)). get_or l c.loop-place.place-index c.place-item.result) c.deref-place-items.ensures.value)
      (sym c.is_some.ensures ∙ c.if-is_some.true) free),
)

pub loop-place-preserved : goal.loop-place-preserved
loop-place-preserved c = none_yet c.deref-place-items.result.now c.loop-place.place-index c.place-item.result c.loop-place-test.true c.place-item.is
    (sym c.is_some.ensures ∙ c.if-is_some.false) c.loop-place.invariant

pub returns : goal.returns
returns c =
    let seats = c.args.seats.now in
    let same : c.deref-place-items.result.now ≡ seats.places.items = c.deref-place-items.ensures.value in
    let many : length c.deref-place-items.result.now ≡ length seats.places.items = ap (λ (l : List (Option Seat)). length l) same in (
      λ is. all_free (seats_view seats)
          (λ k h. ap (λ (l : List (Option Seat)). get_or (map place_view l) k None) (sym same) ∙ c.loop-place.invariant k (omega (arith, c.loop-place-test.false, count_viewed seats.places.items, h, many))),
      λ free. refl,
    )

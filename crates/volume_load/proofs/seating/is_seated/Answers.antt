use Rattle.std.proofs.Common.{◌<◌, ◌∙◌, length, map, sym, ap, arith}
use Rattle.model_tree.specs.Seats.SeatViews.{place_view, seat_view}
use Rattle.volume_load.proofs.SeatingLaws.{view_at, count_viewed, seated_here, seated_free}
use Rattle.volume_load.proofs.SeatingLaws.{seated_other}
use Rattle.volume_load.proofs.seating.is_seated.Goals as goal
use Rattle.volume_load.proofs.seating.is_seated.Goals.{in-Some+else-eq, in_default}

pub returns-then-eq : goal.returns-then-eq
returns-then-eq c =
    let places = c.args.places.now in
    let i = c.loop-place.place-index in
    let at = view_at places i c.place-item.result c.loop-place-test.true c.place-item.is ∙ ap place_view c.in-Some.is in
    let h : i < length (map place_view places) = omega (arith, count_viewed places) in
    sym (c.loop-place.invariant ∙ seated_here c.args.id.now (map place_view places) i (seat_view c.in-Some.seat) h at (sym c.eq.ensures ∙ c.if-eq.true))

pub loop-place-preserved : goal.loop-place-preserved
loop-place-preserved c =
    let places = c.args.places.now in
    let i = c.loop-place.place-index in
    let view = view_at places i c.place-item.result c.loop-place-test.true c.place-item.is in
    let h : i < length (map place_view places) = omega (arith, count_viewed places) in
    elim c.match-place.branch [
      | in-Some+else-eq w ↦ c.loop-place.invariant ∙ seated_other c.args.id.now (map place_view places) i (seat_view w.in-Some.seat) h (view ∙ ap place_view w.in-Some.is) (sym w.eq.ensures ∙ w.if-eq.false)
      | in_default w ↦ c.loop-place.invariant ∙ seated_free c.args.id.now (map place_view places) i h (view ∙ ap place_view w.in_default.is)
    ]

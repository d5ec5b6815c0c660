use Rattle.std.proofs.Common.{◌≡◌, ◌<◌, ◌+◌, ◌∙◌, true, false, length, drop, map, sym, ap, arith}
use Rattle.std.proofs.lemmas.Bool.{false≢true}
use Rattle.model_tree.specs.Seats.Seats.{has_seat}
use Rattle.model_tree.specs.Seats.SeatViews.{place_view, seat_view}
use Rattle.volume_load.proofs.SeatingLaws.{view_at, count_viewed, rest_viewed, apart_here, apart_free, apart_more}
use Rattle.volume_load.proofs.seating.are_apart.Goals as goal
use Rattle.volume_load.proofs.seating.are_apart.Goals.{in-Some+else-is_seated, in_default}

pub returns-then-is_seated : goal.returns-then-is_seated
returns-then-is_seated c =
    let places = c.args.places.now in
    let i = c.loop-i.i in
    let at = view_at places i c.index-places-i.result c.loop-i-test.true c.index-places-i.is ∙ ap place_view c.in-Some.is in
    let h : i < length (map place_view places) = omega (arith, count_viewed places) in
    let has : has_seat c.in-Some.seat.session (drop (i + 1) (map place_view places)) ≡ true = ap (has_seat c.in-Some.seat.session) (sym (rest_viewed places (i + 1))) ∙ sym c.is_seated.ensures ∙ c.if-is_seated.true in
    (λ is. absurd (false≢true is), λ apart. absurd (false≢true (sym (apart_here (map place_view places) i (seat_view c.in-Some.seat) h at apart) ∙ has)))

pub loop-i-preserved : goal.loop-i-preserved
loop-i-preserved c = λ rest.
    let places = c.args.places.now in
    let i = c.loop-i.i in
    let view = view_at places i c.index-places-i.result c.loop-i-test.true c.index-places-i.is in
    let h : i < length (map place_view places) = omega (arith, count_viewed places) in
    c.loop-i.invariant (elim c.match-place.branch [
      | in-Some+else-is_seated w ↦
          let none : has_seat w.in-Some.seat.session (drop (i + 1) (map place_view places)) ≡ false = ap (has_seat w.in-Some.seat.session) (sym (rest_viewed places (i + 1))) ∙ sym w.is_seated.ensures ∙ w.if-is_seated.false in
          apart_more (map place_view places) i (seat_view w.in-Some.seat) h (view ∙ ap place_view w.in-Some.is) none rest
      | in_default w ↦ apart_free (map place_view places) i h (view ∙ ap place_view w.in_default.is) rest
    ])

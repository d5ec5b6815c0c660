use Rattle.std.proofs.Common.{List, Option, map, sym, subst}
use Rattle.model_tree.specs.declared.seats.Seat.{Seat}
use Rattle.model_tree.specs.Seats.Seats.{SeatsApart}
use Rattle.model_tree.specs.Seats.SeatViews.{place_view, seats_view}
use Rattle.volume_load.specs.Seating.{AreMade}
use Rattle.volume_load.proofs.SeatingLaws.{each_made, made_each}
use Rattle.volume_load.proofs.seating.are_of_runs.Goals as goal

pub returns-then-are_apart : goal.returns-then-are_apart
returns-then-are_apart c =
    let run = c.args.run in
    let seats = seats_view c.args.seats.now in
    let held = c.deref-then-are_apart.ensures.value in (
      λ made. record {
        apart = subst (λ (l : List (Option Seat)). SeatsApart (map place_view l)) c.deref.ensures.value (c.are_apart.ensures.0 c.if-are_apart.true);
        made = made_each run seats (subst (λ (l : List (Option Seat)). AreMade run (map place_view l)) held (c.are_made.ensures.0 made));
      },
      λ are. c.are_made.ensures.1 (subst (λ (l : List (Option Seat)). AreMade run (map place_view l)) (sym held) (each_made run seats are.made)),
    )

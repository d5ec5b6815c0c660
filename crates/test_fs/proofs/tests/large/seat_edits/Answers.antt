use Rattle.std.proofs.Common.{List, length, map, ap, sym, subst, refl, arith}
use Rattle.std.proofs.lemmas.List.{length-map}
use Rattle.std.specs.Option.{option_map}
use Rattle.model_tree.specs.Seats.SeatViews.{held_view}
use Rattle.model_tree.specs.Seats.SeatEdits.{SeatEdit, AreEdits, edit_view}
use Rattle.test_fs.proofs.SeatLaws.{takes_first}
use Rattle.test_fs.proofs.tests.large.seat_edits.Goals as goal

pub returns : goal.returns
returns c run slots seats mounted some five =
    subst (λ (edits : List SeatEdit). AreEdits run slots edits seats) (ap (map edit_view) (sym c.in_ok-list.ensures.items)) (takes_first run slots _ seats mounted
    (omega (arith, some, length-map c.in_ok-vec.field-0.items (option_map held_view), ap length c.in_ok-vec.ensures.items)) five refl)

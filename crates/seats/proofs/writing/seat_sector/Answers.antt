use Rattle.std.proofs.Common.{Option, ap, sym, ◌∙◌}
use Rattle.model_tree.specs.declared.seats.Seat.{Seat}
use Rattle.model_tree.specs.Seats.SeatViews.{place_view}
use Rattle.seats.specs.Encoding.{seat_sector}
use Rattle.seats.proofs.Parts.{free_sector}
use Rattle.seats.proofs.writing.seat_sector.Goals as goal

pub returns-in-None : goal.returns-in-None
returns-in-None c =
    c.zeros.ensures ∙ sym (free_sector c.args.k)
    ∙ ap (λ (p : Option Seat). seat_sector c.args.k (place_view p)) (sym c.in-None.is)

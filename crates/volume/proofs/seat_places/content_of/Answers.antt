use Rattle.std.proofs.Common.{Option, Bor, ap, sym, ◌∙◌}
use Rattle.std.specs.Option.{option_map}
use Rattle.model_tree.specs.Seats.SeatViews.{seat_view}
use Rattle.model_tree.specs.declared.seats.Seat.{Seat}
use Rattle.seats.specs.Encoding.{seat_sector}
use Rattle.seats.proofs.Parts.{free_sector}
use Rattle.volume.proofs.seat_places.content_of.Goals as goal

pub returns-in-None : goal.returns-in-None
returns-in-None c =
    sym (free_sector c.args.k) ∙ ap (λ (seat : Option (Bor Seat)). seat_sector c.args.k (option_map (λ s. seat_view s.now) seat)) (sym c.in-None.is)

use Rattle.std.proofs.Common.{Option, rules, tests, sym, ◌∙◌}
use Rattle.std.proofs.lemmas.Iterator.{YieldsList-from_slice}
use Rattle.std.proofs.lemmas.Iterator.Search.{position_from_yields_List}
use Rattle.model_tree.specs.declared.seats.Seat.{Seat}
use Rattle.model_tree.specs.Seats.SeatViews.{place_view}
use Rattle.session.specs.Seating.{is_place_of}
use Rattle.session.proofs.Lists.{position-map}
use Rattle.session.proofs.seating.place_of.Goals as goal

pub returns : goal.returns
returns c =
    position_from_yields_List (λ (place : Option Seat). is_place_of c.args.id.now (place_view place)) _ _ c.position.result c.position.ensures.ran (YieldsList-from_slice c.args.seats.now.places.items cc) (λ x b q k. search (rules, tests))
    ∙ sym (position-map (is_place_of c.args.id.now) place_view c.args.seats.now.places.items)

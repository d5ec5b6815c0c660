use Rattle.std.proofs.Common.{Option, rules, tests, sym, ◌∙◌}
use Rattle.std.proofs.lemmas.Iterator.{YieldsList-from_slice}
use Rattle.std.proofs.lemmas.Iterator.Search.{any_from_yields_List}
use Rattle.model_tree.specs.declared.seats.Seat.{Seat}
use Rattle.model_tree.specs.Seats.SeatViews.{seat_view, place_view}
use Rattle.model.specs.Sessions.Session.{is_dead_before}
use Rattle.session.specs.Views.{table_of}
use Rattle.session.proofs.Lists.{list_any-map}
use Rattle.session.proofs.table.Table.has_dead_before.Goals as goal

pub returns : goal.returns
unfolding table_of
returns c =
    let test = is_dead_before (table_of c.args.self.now) (seat_view c.args.seat.now) in
    any_from_yields_List (λ (place : Option Seat). test (place_view place)) _ _ c.any.result c.any.ensures.ran (YieldsList-from_slice c.args.self.now.seats.places.items cc)
    (λ x b q k. search (rules, tests))
    ∙ sym (list_any-map test place_view c.args.self.now.seats.places.items)

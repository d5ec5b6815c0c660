use Rattle.std.proofs.Common.{Option, rules, tests, sym, ◌∙◌}
use Rattle.std.proofs.lemmas.Iterator.{YieldsList-from_slice}
use Rattle.std.proofs.lemmas.Iterator.Search.{position_from_yields_List}
use Rattle.model_tree.specs.declared.seats.Seat.{Seat}
use Rattle.model_tree.specs.Seats.SeatViews.{place_view}
use Rattle.session.specs.Seating.{gives_way_if, is_left_free}
use Rattle.session.specs.Views.{table_of, client_of}
use Rattle.session.proofs.Lists.{position-map}
use Rattle.session.proofs.table.Table.first_left_free.Goals as goal

pub returns : goal.returns
unfolding table_of
returns c =
    let gone = gives_way_if c.args.lacks (client_of c.args.client.now) (table_of c.args.self.now) in
    position_from_yields_List (λ (place : Option Seat). is_left_free gone (place_view place)) _ _ c.position.result c.position.ensures.ran (YieldsList-from_slice c.args.self.now.seats.places.items cc) (λ x b q k. search (rules, tests))
    ∙ sym (position-map (is_left_free gone) place_view c.args.self.now.seats.places.items)

use Rattle.std.proofs.Common.{◌≡◌, ◌++◌, drop, map}
use Rattle.model_tree.specs.Seats.SeatEdits.{edit_view}
use Rattle.model_tree.specs.Seats.SeatViews.{place_view, seats_view}
use Rattle.session.specs.Seating.{gives_way_if, freeing}
use Rattle.session.specs.Views.{table_of, client_of}
use Rattle.session.proofs.table.Table.free_seats.Given as goal

abbrev pub invariant-loop-place : goal.invariant-loop-place
invariant-loop-place l =
    map edit_view l.list.items ++ map (freeing (gives_way_if l.lacks (client_of l.client) (table_of l.self))) (map place_view (drop l.place-index l.self.seats.places.items))
    ≡ map (freeing (gives_way_if l.lacks (client_of l.client) (table_of l.self))) (seats_view l.self.seats)

use Rattle.std.proofs.Common.{map, arith}
use Rattle.std.proofs.lemmas.List.{length-map}
use Rattle.model_tree.specs.Seats.SeatViews.{place_view, seats_view}
use Rattle.session.specs.Seating.{gives_way_if}
use Rattle.session.specs.Views.{table_of, client_of}
use Rattle.session.proofs.Writes.{few_if_freeing, none_if_freeing}
use Rattle.session.proofs.table.Table.free_seats.Goals as goal

pub invariant_of-result : goal.invariant_of-result
unfolding table_of
invariant_of-result c =
    let old = c.args.self.now in
    let gone = gives_way_if c.args.lacks (client_of c.args.client.now) (table_of old) in
    let seats = seats_view old.seats in
    let edits = c.loop-place.list.items in
    let few = few_if_freeing gone seats edits _ c.loop-place.invariant in
    let none = none_if_freeing gone seats edits _ c.loop-place.invariant in
    record { few = omega (arith, few, length-map old.seats.places.items place_view, old.seats.few); one = omega (arith, none) }

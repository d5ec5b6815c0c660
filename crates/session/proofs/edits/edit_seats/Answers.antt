use Rattle.std.proofs.Common.{◌≡◌, ◌<◌, ℕ, map, length, set, get_or, sym, ap, ◌∙◌, arith, None}
use Rattle.std.specs.Iterator.Adapters.{enumerate_source, enumerate_count}
use Rattle.std.specs.Vec.Iter.{into_iter_items, into_iter_len}
use Rattle.std.proofs.lemmas.List.{map_push, length-map}
use Rattle.std.proofs.lemmas.List.FromFn.{length-enumerate_from}
use Rattle.std.proofs.lemmas.Iterator.Adapters.{YieldsList-from_vec}
use Rattle.std.proofs.lemmas.Iterator.Consumers.{YieldsList-from_enumerate, YieldsList-turn, YieldsList-end}
use Rattle.model_tree.specs.Seats.Seats.{Seats}
use Rattle.model_tree.specs.Seats.SeatEdits.{edited_seat, edited_all, edit_view}
use Rattle.model_tree.specs.Seats.SeatViews.{place_view, seats_view}
use Rattle.session.proofs.Editing.{told, told_all, place_told, edited_more, edited_past, length_edited}
use Rattle.session.proofs.Lists.{mapped_set}
use Rattle.session.proofs.edits.edit_seats.Goals as goal

pub loop-place-preserved-then-place-len : goal.loop-place-preserved-then-place-len
loop-place-preserved-then-place-len c =
    let source = ap enumerate_source c.into_iter-place-iterator.ensures.into_iter_gives ∙ c.enumerate-place-items.ensures.source in
    let count = ap enumerate_count c.into_iter-place-iterator.ensures.into_iter_gives ∙ c.enumerate-place-items.ensures.count in
    let items = ap into_iter_items source ∙ c.into_iter.ensures.rest in
    let len = ap into_iter_len source ∙ c.into_iter.ensures.len ∙ c.args.edits.list.ok.0 in
    let all = YieldsList-from_enumerate {s = c.into_iter-place-iterator.result} (YieldsList-from_vec c.args.edits.list.items items len) count in
    let yielded = c.loop-place.yielded in
    let turn = YieldsList-turn all yielded c.loop-place.place-iterator c.loop-place.yielded_by _ c.next.new.self (c.in-Some.place, c.in-Some.edit) c.in-Some.is c.next.ensures.steps in
    let inside : length yielded < length c.args.edits.list.items = omega (arith, turn.0, length-enumerate_from 0 c.args.edits.list.items) in
    let place : c.in-Some.place ≡ length (told yielded) = place_told c.args.edits.list.items (length yielded) (c.in-Some.place, c.in-Some.edit) turn.0 turn.1 inside ∙ sym (length-map yielded (λ p. edit_view p.1)) in
    let edit = edit_view c.in-Some.edit in
    let start = seats_view c.args.seats.now in
    let old = c.loop-place.seats.places.items in
    let long : c.len.result ≡ length start = c.len.ensures ∙ c.loop-place.seats.places.ok.0 ∙ sym (length-map old place_view) ∙ ap length c.loop-place.invariant ∙ length_edited (told yielded) start in
    let within : c.in-Some.place < length old = omega (arith, c.if-place-len.true, c.len.ensures, c.loop-place.seats.places.ok.0) in
    mapped_set place_view (edited_seat edit) old c.in-Some.place c.index_mut.result.now c.edit_place.new.place None within c.index_mut.ensures.value c.edit_place.ensures
    ∙ ap (λ (n : ℕ). set (map place_view old) n (edited_seat edit (get_or (map place_view old) n None))) place
    ∙ ap (λ (seats : Seats). set seats (length (told yielded)) (edited_seat edit (get_or seats (length (told yielded)) None))) c.loop-place.invariant
    ∙ sym (edited_more (told yielded) edit start None (omega (arith, place, long, c.if-place-len.true)))
    ∙ ap (λ edits. edited_all edits start) (sym (map_push (λ p. edit_view p.1) yielded (c.in-Some.place, c.in-Some.edit)))

pub loop-place-preserved-else-place-len : goal.loop-place-preserved-else-place-len
loop-place-preserved-else-place-len c =
    let source = ap enumerate_source c.into_iter-place-iterator.ensures.into_iter_gives ∙ c.enumerate-place-items.ensures.source in
    let count = ap enumerate_count c.into_iter-place-iterator.ensures.into_iter_gives ∙ c.enumerate-place-items.ensures.count in
    let items = ap into_iter_items source ∙ c.into_iter.ensures.rest in
    let len = ap into_iter_len source ∙ c.into_iter.ensures.len ∙ c.args.edits.list.ok.0 in
    let all = YieldsList-from_enumerate {s = c.into_iter-place-iterator.result} (YieldsList-from_vec c.args.edits.list.items items len) count in
    let yielded = c.loop-place.yielded in
    let turn = YieldsList-turn all yielded c.loop-place.place-iterator c.loop-place.yielded_by _ c.next.new.self (c.in-Some.place, c.in-Some.edit) c.in-Some.is c.next.ensures.steps in
    let inside : length yielded < length c.args.edits.list.items = omega (arith, turn.0, length-enumerate_from 0 c.args.edits.list.items) in
    let place : c.in-Some.place ≡ length (told yielded) = place_told c.args.edits.list.items (length yielded) (c.in-Some.place, c.in-Some.edit) turn.0 turn.1 inside ∙ sym (length-map yielded (λ p. edit_view p.1)) in
    let edit = edit_view c.in-Some.edit in
    let start = seats_view c.args.seats.now in
    let old = c.loop-place.seats.places.items in
    let long : c.len.result ≡ length start = c.len.ensures ∙ c.loop-place.seats.places.ok.0 ∙ sym (length-map old place_view) ∙ ap length c.loop-place.invariant ∙ length_edited (told yielded) start in
    c.loop-place.invariant
    ∙ sym (edited_past (told yielded) edit start (omega (arith, place, long, c.if-place-len.false)))
    ∙ ap (λ edits. edited_all edits start) (sym (map_push (λ p. edit_view p.1) yielded (c.in-Some.place, c.in-Some.edit)))

pub loop-place-preserved-else-place-len-2 : goal.loop-place-preserved-else-place-len-2
loop-place-preserved-else-place-len-2 c =
    let source = ap enumerate_source c.into_iter-place-iterator.ensures.into_iter_gives ∙ c.enumerate-place-items.ensures.source in
    let count = ap enumerate_count c.into_iter-place-iterator.ensures.into_iter_gives ∙ c.enumerate-place-items.ensures.count in
    let items = ap into_iter_items source ∙ c.into_iter.ensures.rest in
    let len = ap into_iter_len source ∙ c.into_iter.ensures.len ∙ c.args.edits.list.ok.0 in
    let all = YieldsList-from_enumerate {s = c.into_iter-place-iterator.result} (YieldsList-from_vec c.args.edits.list.items items len) count in
    let yielded = c.loop-place.yielded in
    let turn = YieldsList-turn all yielded c.loop-place.place-iterator c.loop-place.yielded_by _ c.next.new.self (c.in-Some.place, c.in-Some.edit) c.in-Some.is c.next.ensures.steps in
    let inside : length yielded < length c.args.edits.list.items = omega (arith, turn.0, length-enumerate_from 0 c.args.edits.list.items) in
    let place : c.in-Some.place ≡ length (told yielded) = place_told c.args.edits.list.items (length yielded) (c.in-Some.place, c.in-Some.edit) turn.0 turn.1 inside ∙ sym (length-map yielded (λ p. edit_view p.1)) in
    let edit = edit_view c.in-Some.edit in
    let start = seats_view c.args.seats.now in
    let old = c.loop-place.seats.places.items in
    let long : c.len.result ≡ length start = c.len.ensures ∙ c.loop-place.seats.places.ok.0 ∙ sym (length-map old place_view) ∙ ap length c.loop-place.invariant ∙ length_edited (told yielded) start in
    c.loop-place.invariant
    ∙ sym (edited_past (told yielded) edit start (omega (arith, place, long, c.if-place-len.false)))
    ∙ ap (λ edits. edited_all edits start) (sym (map_push (λ p. edit_view p.1) yielded (c.in-Some.place, c.in-Some.edit)))

pub loop-place-preserved : goal.loop-place-preserved
loop-place-preserved c =
    let source = ap enumerate_source c.into_iter-place-iterator.ensures.into_iter_gives ∙ c.enumerate-place-items.ensures.source in
    let count = ap enumerate_count c.into_iter-place-iterator.ensures.into_iter_gives ∙ c.enumerate-place-items.ensures.count in
    let items = ap into_iter_items source ∙ c.into_iter.ensures.rest in
    let len = ap into_iter_len source ∙ c.into_iter.ensures.len ∙ c.args.edits.list.ok.0 in
    let all = YieldsList-from_enumerate {s = c.into_iter-place-iterator.result} (YieldsList-from_vec c.args.edits.list.items items len) count in
    let yielded = c.loop-place.yielded in
    let turn = YieldsList-turn all yielded c.loop-place.place-iterator c.loop-place.yielded_by _ c.next.new.self (c.in-Some.place, c.in-Some.edit) c.in-Some.is c.next.ensures.steps in
    let inside : length yielded < length c.args.edits.list.items = omega (arith, turn.0, length-enumerate_from 0 c.args.edits.list.items) in
    let place : c.in-Some.place ≡ length (told yielded) = place_told c.args.edits.list.items (length yielded) (c.in-Some.place, c.in-Some.edit) turn.0 turn.1 inside ∙ sym (length-map yielded (λ p. edit_view p.1)) in
    let edit = edit_view c.in-Some.edit in
    let start = seats_view c.args.seats.now in
    let old = c.loop-place.seats.places.items in
    let long : c.len.result ≡ length start = c.len.ensures ∙ c.loop-place.seats.places.ok.0 ∙ sym (length-map old place_view) ∙ ap length c.loop-place.invariant ∙ length_edited (told yielded) start in
    c.loop-place.invariant
    ∙ sym (edited_past (told yielded) edit start (omega (arith, place, long, c.if-place-len.false)))
    ∙ ap (λ edits. edited_all edits start) (sym (map_push (λ p. edit_view p.1) yielded (c.in-Some.place, c.in-Some.edit)))

pub returns : goal.returns
returns c =
    let source = ap enumerate_source c.into_iter-place-iterator.ensures.into_iter_gives ∙ c.enumerate-place-items.ensures.source in
    let count = ap enumerate_count c.into_iter-place-iterator.ensures.into_iter_gives ∙ c.enumerate-place-items.ensures.count in
    let items = ap into_iter_items source ∙ c.into_iter.ensures.rest in
    let len = ap into_iter_len source ∙ c.into_iter.ensures.len ∙ c.args.edits.list.ok.0 in
    let all = YieldsList-from_enumerate {s = c.into_iter-place-iterator.result} (YieldsList-from_vec c.args.edits.list.items items len) count in
    let end = YieldsList-end all c.loop-place.yielded c.loop-place.place-iterator c.loop-place.yielded_by _ c.next.new.self c.in-None.is c.next.ensures.steps in
    c.loop-place.invariant ∙ ap (λ edits. edited_all edits (seats_view c.args.seats.now)) (told_all c.loop-place.yielded c.args.edits.list.items end.0)

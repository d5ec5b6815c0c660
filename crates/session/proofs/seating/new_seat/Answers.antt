use Rattle.std.proofs.Common.{Option, None, length, ap, ◌∙◌, arith}
use Rattle.std.specs.Option.{option_map}
use Rattle.std.proofs.lemmas.List.{length-map, length-replicate}
use Rattle.model_tree.specs.Seats.Seats.{HeldReply}
use Rattle.model_tree.specs.Seats.SeatViews.{held_view}
use Rattle.session.proofs.seating.new_seat.Goals as goal

pub invariant_of-result-clause-owned : goal.invariant_of-result-clause-owned
invariant_of-result-clause-owned c =
    let same = ap length (c.in_ok-owner.ensures.items ∙ c.deref.ensures.value) in
    omega (arith, same, c.args.client.now.owned)

pub invariant_of-result-clause-some : goal.invariant_of-result-clause-some
invariant_of-result-clause-some c =
    let slots = c.in_ok-slots.slots.items in
    omega (arith, c.requires.some, length-map slots (option_map held_view), ap length (c.in_ok-slots.ensures), length-replicate {A = Option HeldReply} c.args.slots None)

pub invariant_of-result-clause-few : goal.invariant_of-result-clause-few
invariant_of-result-clause-few c =
    let slots = c.in_ok-slots.slots.items in
    omega (arith, c.requires.few, length-map slots (option_map held_view), ap length (c.in_ok-slots.ensures), length-replicate {A = Option HeldReply} c.args.slots None)

use Rattle.std.proofs.Common.{◌+◌, ◌*◌, ◌++◌, ◌∷◌, [], ℕ, List, Option, map, sym, ap, ◌∙◌, arith, Err}
use Rattle.std.specs.Option.{option_map}
use Rattle.std.proofs.lemmas.List.{map_push}
use Rattle.std.proofs.lemmas.List.FromFn.{map-range_with_len_more}
use Rattle.std.proofs.lemmas.Result.{err_from_is_err_and}
use Rattle.model_tree.specs.Seats.Seats as kept
use Rattle.model_tree.specs.Seats.SeatViews.{held_view}
use Rattle.seats.specs.Encoding.{sector_of, slot_at}
use Rattle.seats.specs.Reading.{slot_in, text_from}
use Rattle.seats.proofs.Sectors.{slot_there, slot_at_is}
use Rattle.seats.proofs.ReadBack.{err_is}
use Rattle.seats.proofs.reading.slots_in.Goals as goal

pub returns-in_err-slot_in-clause-err : goal.returns-in_err-slot_in-clause-err
returns-in_err-slot_in-clause-err c = λ is room seat fit fits encoded.
    let sectors = sector_of c.args.sectors.now in
    let slot = c.loop-slot.slot in
    let p = err_from_is_err_and c.from_residual.result c.from_residual.ensures.1 in
    let fault = err_is _ _ (rw (p.1, p.2) at is) in
    c.in_err-slot_in.ensures.err (ap (λ x. Err x) fault) (slot_at slot seat) (slot_at_is room seat fits sectors encoded slot) (slot_there room seat fits sectors encoded slot (omega (arith, fit)))

pub loop-slot-preserved : goal.loop-slot-preserved
loop-slot-preserved c = record {
  slots =
      let slot_of : ℕ → Option kept.HeldReply = λ slot. slot_in (text_from (sector_of c.args.sectors.now) (1 + 4 * slot)) in
      ap (map (option_map held_view)) c.in_ok-push.ensures.items
      ∙ map_push (option_map held_view) c.loop-slot.slots.items c.in_ok-slot_in.field-0
      ∙ ap (λ (s : Option kept.HeldReply). map (option_map held_view) c.loop-slot.slots.items ++ s ∷ []) c.in_ok-slot_in.ensures.value
      ∙ ap (λ (slots : List (Option kept.HeldReply)). slots ++ slot_of c.loop-slot.slot ∷ []) c.loop-slot.invariant.slots
      ∙ sym (map-range_with_len_more slot_of 0 c.loop-slot.slot c.loop-slot.slot (omega arith));
  len = c.in_ok-push.ensures.len ∙ ap (λ (n : ℕ). n + 1) c.loop-slot.invariant.len;
}

use Rattle.std.proofs.Common.{◌≡◌, ◌+◌, ◌*◌, map, vec_len}
use Rattle.std.specs.Option.{option_map}
use Rattle.std.specs.List.{range_with_len}
use Rattle.model_tree.specs.Seats.SeatViews.{held_view}
use Rattle.seats.specs.Encoding.{sector_of}
use Rattle.seats.specs.Reading.{slot_in, text_from}
use Rattle.seats.proofs.reading.slots_in.Given as goal

abbrev pub invariant-loop-slot : goal.invariant-loop-slot
invariant-loop-slot l = record {
  slots : map (option_map held_view) l.slots.items ≡ map (λ slot. slot_in (text_from (sector_of l.sectors) (1 + 4 * slot))) (range_with_len 0 l.slot);
  len : vec_len l.slots ≡ l.slot;
}

use Rattle.std.proofs.Common.{◌≡◌, map, replicate}
use Rattle.model.specs.Sessions.Session.{no_slot}
use Rattle.session.specs.Slots.{slot_of}
use Rattle.session.proofs.slot.free_slots.Given as goal

abbrev pub invariant-loop-slot : goal.invariant-loop-slot
invariant-loop-slot l = map slot_of l.slots.items ≡ replicate l._slot no_slot

use Rattle.std.proofs.Common.{List, ap, arith}
use Rattle.model.specs.Sessions.Session.{no_slot, Session as Known, Slot as KnownSlot}
use Rattle.session.specs.Slots.{slot_of, kept_slot}
use Rattle.session.specs.Views.{session_of}
use Rattle.session.proofs.Lists.{mapped_set}
use Rattle.session.proofs.session.Session.keep.Goals as goal

pub returns-then-place-len : goal.returns-then-place-len
returns-then-place-len c =
    let session : Known = session_of c.args.self.now in
    ap (λ (slots : List KnownSlot). record session { slots = slots })
    (mapped_set slot_of (kept_slot c.args.reply.items) c.args.self.now.slots.items c.args.slot c.index_mut.result.now c.keep.new.self no_slot
    (omega (arith, c.args.self.now.slots.ok.0)) c.index_mut.ensures.value c.keep.ensures)

use Rattle.std.proofs.Common.{Ok, Err, refl}
use Rattle.peer.specs.declared.peer.Parting.TheVariants as partings
use Rattle.peer.proofs.Carried.{ends_again, ends_peer, err_pace, ok_pace, paused, serves_as}
use Rattle.peer.proofs.peer.Peer.step.Goals as goal

pub returns-in-Err-Peer-clause-ends : goal.returns-in-Err-Peer-clause-ends
returns-in-Err-Peer-clause-ends g c = λ is.
    ends_peer c.args.self.now c.advance.new.self c.end.new.self c.end.result (rw c.in-Err-Peer.field-0-is at c.in-Err-Peer.ensures.does) c.end.ensures.hung c.end.ensures.same

pub returns-in-Err-Peer-clause-over : goal.returns-in-Err-Peer-clause-over
returns-in-Err-Peer-clause-over g c = λ is.
    let over = c.advance.ensures.over is in
    ends_again c.args.self.now c.advance.new.self c.end.new.self c.end.result over.1 over.2 c.end.ensures.hung c.end.ensures.same c.end.ensures.stage

pub returns-in-Ok-clause-stays : goal.returns-in-Ok-clause-stays
returns-in-Ok-clause-stays g c = λ on.
    serves_as c.args.self.now c.advance.new.self (Ok c.in-Ok.pace) _ c.in-Ok.ensures.does (λ pace is awake. ok_pace c.in-Ok.pace pace is) (λ unfed. absurd unfed)

pub returns-in-Err-Memory-clause-stays : goal.returns-in-Err-Memory-clause-stays
returns-in-Err-Memory-clause-stays g c = λ on.
    serves_as c.args.self.now c.advance.new.self (Err partings.Memory) _ (rw c.in-Err-Memory.field-0-is at c.in-Err-Memory.ensures.does) (λ pace is awake. paused pace _ is awake)
    (λ unfed. absurd unfed)

pub returns-in-Err-Device-clause-stays : goal.returns-in-Err-Device-clause-stays
returns-in-Err-Device-clause-stays g c = λ on.
    serves_as c.args.self.now c.advance.new.self (Err partings.Device) _ (rw c.in-Err-Device.field-0-is at c.in-Err-Device.ensures.does) (λ pace is awake. err_pace _ pace _ is)
    (λ unfed. refl)

pub returns-in-Err-Clock-clause-stays : goal.returns-in-Err-Clock-clause-stays
returns-in-Err-Clock-clause-stays g c = λ on.
    serves_as c.args.self.now c.advance.new.self (Err partings.Clock) _ (rw c.in-Err-Clock.field-0-is at c.in-Err-Clock.ensures.does) (λ pace is awake. err_pace _ pace _ is)
    (λ unfed. absurd unfed)

use Rattle.std.proofs.Common.{refl}
use Rattle.std.proofs.lemmas.Result.{err_from_is_err_and}
use Rattle.peer.proofs.Carried.{gives_later, gives_none, gives_then, refuses_reply, stuck_on_write}
use Rattle.peer.proofs.peer.Peer.take_reply.Goals as goal

pub returns-in_err-bytes-clause-does : goal.returns-in_err-bytes-clause-does
returns-in_err-bytes-clause-does g c =
    let told = err_from_is_err_and c.from_residual.result c.from_residual.ensures.1 in
    rw (told.1, told.2)
    (refuses_reply c.args.self.now _ c.in_err-bytes.field-0.0 c.in_err-bytes.ensures.refused refl refl refl (rw c.requires refl)
    (λ is. let never : ⊥ = cc in never))

pub returns-in-Some-clause-does : goal.returns-in-Some-clause-does
returns-in-Some-clause-does g c =
    gives_then c.args.self.now _ c.reply.new.self c.in-Some.bytes c.reply.result (rw c.in-Some.is at c.in_ok-bytes.ensures.ok) refl refl refl
    (rw c.requires refl) c.new.ensures c.reply.ensures.does

pub returns-in-None-clause-does : goal.returns-in-None-clause-does
returns-in-None-clause-does g c =
    gives_none c.args.self.now _ (rw c.in-None.is at c.in_ok-bytes.ensures.ok) refl refl refl (rw c.requires refl)
    (λ is. let never : ⊥ = cc in never)

pub returns-then-waits-clause-does : goal.returns-then-waits-clause-does
returns-then-waits-clause-does g c = gives_later c.args.server.now c.args.self.now

pub returns-in-Some-clause-asleep : goal.returns-in-Some-clause-asleep
returns-in-Some-clause-asleep g c = stuck_on_write c.take_output.new.server c.reply.new.self c.reply.result c.reply.ensures.asleep

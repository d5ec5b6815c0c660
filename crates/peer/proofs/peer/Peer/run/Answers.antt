use Rattle.std.proofs.Common.{refl}
use Rattle.std.proofs.lemmas.Result.{err_from_is_err_and}
use Rattle.peer.specs.declared.peer.Parting.TheVariants as partings
use Rattle.peer.specs.Partings.{parting_of}
use Rattle.peer.proofs.Carried.{no_turn, reply_then, turn_alone, turn_parts}
use Rattle.peer.proofs.Made.{not_called, refused_turn}
use Rattle.peer.proofs.Tallies.{nothing}
use Rattle.peer.proofs.peer.Peer.run.Goals as goal

pub returns-in_default-clause-does : goal.returns-in_default-clause-does
returns-in_default-clause-does g c = no_turn c.args.self.now partings.Clock c.requires (not_called c.args.server.now) tt

pub returns-in_err-turn-clause-does : goal.returns-in_err-turn-clause-does
returns-in_err-turn-clause-does g c =
    let fault = c.in_err-turn.field-0.0 in
    let told = err_from_is_err_and c.from_residual.result c.from_residual.ensures.1 in
    rw (told.1, told.2)
    (no_turn c.args.self.now (parting_of fault) c.requires (refused_turn c.args.self.now.conn fault c.in_err-turn.ensures.refused)
    (turn_parts c.args.server.now c.turn.new.server c.args.self.now nothing fault c.in_err-turn.ensures.refused))

pub returns-in-Idle-clause-does : goal.returns-in-Idle-clause-does
returns-in-Idle-clause-does g c =
    turn_alone c.args.self.now _ _ _ c.in-Ok.ensures c.in_ok-turn.ensures.ok refl refl refl (rw c.requires refl) (λ is. let never : ⊥ = cc in never) c.requires

pub returns-in-Ran-clause-does : goal.returns-in-Ran-clause-does
returns-in-Ran-clause-does g c =
    turn_alone c.args.self.now _ _ _ c.in-Ok.ensures c.in_ok-turn.ensures.ok refl refl refl refl (λ is. let was = c.requires in let never : ⊥ = cc in never) c.requires

pub returns-in-Answered-clause-does : goal.returns-in-Answered-clause-does
returns-in-Answered-clause-does g c =
    reply_then c.args.self.now _ c.take_reply.new.self _ _ c.take_reply.result c.in-Ok.ensures c.in_ok-turn.ensures.ok refl refl refl (rw c.requires refl)
    (λ is. let never : ⊥ = cc in never) c.requires c.take_reply.ensures.does

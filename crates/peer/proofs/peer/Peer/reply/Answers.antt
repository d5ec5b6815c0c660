use Rattle.std.proofs.Common.{Ok, Some, refl, ap, sym, ◌∙◌}
use Rattle.std.proofs.lemmas.Result.{err_from_is_err_and}
use Rattle.std.specs.IoError.{error_kind}
use Rattle.peer.specs.Steps.{unsent}
use Rattle.peer.proofs.Carried.{interrupted, sends_none}
use Rattle.peer.proofs.peer.Peer.reply.Goals as goal

pub returns-in_err-self-in-Err-clause-does : goal.returns-in_err-self-in-Err-clause-does
returns-in_err-self-in-Err-clause-does g c =
    let told = err_from_is_err_and c.from_residual.result c.from_residual.ensures.1 in
    let over = c.in_err-self-in-Err.ensures.err in
    rw (told.1, told.2, over.0)
    (sends_none c.args.self.now _ _ c.in-Err.ensures.err.1 (c.in-Err.ensures.err.0 ∙ sym (ap unsent c.in-Replies.is))
    (λ is. let never : ⊥ = cc in absurd never) (refl, (Some (error_kind c.in-Err.error), over.1, c.in-Err.ensures.told))
    (refl, refl, c.send.ensures.kept.0) (λ is. let never : ⊥ = cc in never))

pub returns-in_ok-self-in-Err-clause-does : goal.returns-in_ok-self-in-Err-clause-does
returns-in_ok-self-in-Err-clause-does g c =
    sends_none c.args.self.now _ _ c.in-Err.ensures.err.1 (c.in-Err.ensures.err.0 ∙ sym (ap unsent c.in-Replies.is))
    (λ is. interrupted (g.S.Stream.write_told c.send.new.stream) (error_kind c.in-Err.error) c.in_ok-self-in-Err.field-0 c.pace_of.result (Ok c.pace_of.result) refl
    c.in_ok-self-in-Err.ensures.ok c.pace_of.ensures c.in-Err.ensures.told is) tt
    (refl, refl, c.send.ensures.kept.0) (λ is. let never : ⊥ = cc in never)

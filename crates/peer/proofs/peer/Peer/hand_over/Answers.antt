use Rattle.std.proofs.Common.{refl}
use Rattle.std.proofs.lemmas.Result.{err_from_is_err_and}
use Rattle.peer.proofs.Carried.{bytes_then, refused_bytes}
use Rattle.peer.proofs.peer.Peer.hand_over.Goals as goal

pub returns-in_err-taken-clause-does : goal.returns-in_err-taken-clause-does
returns-in_err-taken-clause-does g c =
    let told = err_from_is_err_and c.from_residual.result c.from_residual.ensures.1 in
    rw (told.1, told.2)
    (refused_bytes c.args.self.now c.in_err-taken.field-0.0 (rw c.bytes.ensures at c.in_err-taken.ensures.refused))

pub returns-clause-does : goal.returns-clause-does
returns-clause-does g c =
    bytes_then c.args.self.now _ c.run.new.self c.in_ok-taken.taken c.run.result (rw c.bytes.ensures at c.in_ok-taken.ensures.ok)
    c.consume.ensures refl refl (rw c.requires refl) refl c.run.ensures.does

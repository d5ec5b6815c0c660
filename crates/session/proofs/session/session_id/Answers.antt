use Rattle.std.proofs.Common.{refl}
use Rattle.model.specs.Sessions.Session.{session_id}
use Rattle.session.proofs.session.session_id.Goals as goal

pub returns : goal.returns
unfolding session_id
returns c = rw (c.copy_from_slice.ensures.after, c.copy_from_slice-2.ensures.after, c.to_be_bytes.ensures, c.to_be_bytes-2.ensures) refl

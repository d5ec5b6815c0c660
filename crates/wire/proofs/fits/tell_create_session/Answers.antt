use Rattle.std.proofs.Common.{refl, arith}
use Rattle.wire.proofs.Sizes.{create_session_length}
use Rattle.wire.proofs.fits.tell_create_session.Goals as goal

pub returns-clause-bound : goal.returns-clause-bound
returns-clause-bound c =
    let size = create_session_length c.args.answer.now _ _ c.tell_array.ensures refl refl in
    omega (arith, size, c.tell_channel-2.ensures.bound, c.tell_channel.ensures.bound)

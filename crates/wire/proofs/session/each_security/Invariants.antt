use Rattle.std.proofs.Common.{map, ◌≡◌, ◌-◌}
use Rattle.xdr.specs.Forms.{each_at}
use Rattle.xdr.proofs.Loops.{with_prefix}
use Rattle.model.specs.Wire.WireTypes.{callback_security}
use Rattle.wire.specs.SmallViews.{security_view}
use Rattle.wire.proofs.session.each_security.Given as goal

abbrev pub invariant-loop : goal.invariant-loop
invariant-loop l =
    with_prefix (map security_view l.list.items) (each_at callback_security.read (l.count - l.counter) l.at)
    ≡ each_at callback_security.read l.count l.fn.at

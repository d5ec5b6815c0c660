use Rattle.std.proofs.Common.{◌<◌, length, arith}
use Rattle.xdr.proofs.Writing.{wrote_stop}
use Rattle.wire_client.specs.Reading.{security_text}
use Rattle.wire_client.proofs.session.write_each_security.Goals as goal

pub returns-in_err-write_security : goal.returns-in_err-write_security
returns-in_err-write_security c =
    let list = c.args.list.now in
    let i = c.loop-security.security-index in
    let lt : i < length list = omega arith in
    wrote_stop security_text list i c.security-item.result lt c.security-item.is c.loop-security.invariant c.from_residual.ensures.1 c.in_err-write_security.ensures

use Rattle.std.proofs.Common.{Ok, take}
use Rattle.std.specs.List.{flat_map}
use Rattle.xdr.specs.Clauses.{Wrote}
use Rattle.wire_client.specs.Reading.{security_text}
use Rattle.wire_client.proofs.session.write_each_security.Given as goal

abbrev pub invariant-loop-security : goal.invariant-loop-security
invariant-loop-security l = Wrote l.fn.w l.w (Ok tt) (flat_map security_text (take l.security-index l.list))

use Rattle.std.proofs.Common.{map, ◌≡◌, ◌++◌, ◌∷◌, [], inr}
use Rattle.std.proofs.lemmas.Result.{err_from_is_err_and}
use Rattle.std.proofs.lemmas.List.{map_push}
use Rattle.xdr.specs.Forms.{each_at}
use Rattle.xdr.proofs.Loops.{goes_on, ends, is_done}
use Rattle.model.specs.Wire.WireTypes.{callback_security}
use Rattle.wire.specs.SmallViews.{security_view}
use Rattle.wire.proofs.session.each_security.Goals as goal

pub returns-in_err-security : goal.returns-in_err-security
returns-in_err-security c =
    let p = err_from_is_err_and c.from_residual.result c.from_residual.ensures.1 in
    rw (p.1, p.2) (inr
    (ends callback_security.read (map security_view c.loop.list.items) c.args.count c.loop.counter c.loop.at c.in_err-security.field-0.0
    (each_at callback_security.read c.args.count c.args.at) c.loop-test.true c.in_err-security.ensures.0 c.loop.invariant))

pub loop-preserved : goal.loop-preserved
loop-preserved c =
    let one = security_view c.in_ok-security.security in
    let e : map security_view c.push.new.self.items ≡ map security_view c.loop.list.items ++ one ∷ [] =
    rw c.in_ok-push.ensures.items (map_push security_view c.loop.list.items c.in_ok-security.security) in
    rw e
    (goes_on callback_security.read (map security_view c.loop.list.items) c.args.count c.loop.counter c.loop.at one c.read.new.r
    (each_at callback_security.read c.args.count c.args.at) c.loop-test.true c.in_ok-security.ensures c.loop.invariant)

pub returns : goal.returns
returns c =
    is_done callback_security.read (map security_view c.loop.list.items) c.args.count c.loop.counter c.loop.at
    (each_at callback_security.read c.args.count c.args.at) c.loop-test.false c.loop.invariant

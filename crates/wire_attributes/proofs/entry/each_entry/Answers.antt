use Rattle.std.proofs.Common.{map, ◌≡◌, ◌++◌, ◌∷◌, [], inr}
use Rattle.std.proofs.lemmas.Result.{err_from_is_err_and}
use Rattle.std.proofs.lemmas.List.{map_push}
use Rattle.xdr.specs.Forms.{each_at}
use Rattle.xdr.proofs.Loops.{goes_on, ends, is_done}
use Rattle.model.specs.Attributes.AttributeValue.{acl_entry}
use Rattle.wire_attributes.specs.Views.{entry_view}
use Rattle.wire_attributes.proofs.entry.each_entry.Goals as goal

pub returns-in_err-entry : goal.returns-in_err-entry
returns-in_err-entry c =
    let p = err_from_is_err_and c.from_residual.result c.from_residual.ensures.1 in
    rw (p.1, p.2) (inr
    (ends acl_entry.read (map entry_view c.loop.list.items) c.args.count c.loop.counter c.loop.at c.in_err-entry.field-0.0
    (each_at acl_entry.read c.args.count c.args.at) c.loop-test.true c.in_err-entry.ensures.0 c.loop.invariant))

pub loop-preserved : goal.loop-preserved
loop-preserved c =
    let one = entry_view c.in_ok-entry.entry in
    let e : map entry_view c.push.new.self.items ≡ map entry_view c.loop.list.items ++ one ∷ [] =
    rw c.in_ok-push.ensures.items (map_push entry_view c.loop.list.items c.in_ok-entry.entry) in
    rw e
    (goes_on acl_entry.read (map entry_view c.loop.list.items) c.args.count c.loop.counter c.loop.at one c.read.new.r
    (each_at acl_entry.read c.args.count c.args.at) c.loop-test.true c.in_ok-entry.ensures c.loop.invariant)

pub returns : goal.returns
returns c =
    is_done acl_entry.read (map entry_view c.loop.list.items) c.args.count c.loop.counter c.loop.at
    (each_at acl_entry.read c.args.count c.args.at) c.loop-test.false c.loop.invariant

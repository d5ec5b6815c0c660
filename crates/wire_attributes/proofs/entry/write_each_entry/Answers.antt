use Rattle.std.proofs.Common.{◌<◌, length, get_or, [], arith}
use Rattle.std.proofs.lemmas.List.{get_or_default}
use Rattle.xdr.proofs.Writing.{wrote_stop}
use Rattle.wire_attributes.specs.declared.entry.AclEntry.{AclEntry}
use Rattle.wire_attributes.specs.Views.{entry_encoding}
use Rattle.wire_attributes.proofs.entry.write_each_entry.Goals as goal

pub returns-in_err-write : goal.returns-in_err-write
returns-in_err-write c =
    let list = c.args.list.now in
    let i = c.loop-entry.entry-index in
    let lt : i < length list = omega arith in
    let blank : AclEntry = record { kind = 0; flags = 0; mask = 0; who = record { ref_ptr = (0, 0); now = [] } } in
    wrote_stop entry_encoding list i (get_or list i blank) lt (get_or_default list i blank (get_or list i blank) lt)
    c.loop-entry.invariant c.from_residual.ensures.1 c.in_err-write.ensures

use Rattle.std.proofs.Common.{map, ◌≡◌, ◌-◌}
use Rattle.xdr.specs.Forms.{each_at}
use Rattle.xdr.proofs.Loops.{with_prefix}
use Rattle.model.specs.Attributes.AttributeValue.{acl_entry}
use Rattle.wire_attributes.specs.Views.{entry_view}
use Rattle.wire_attributes.proofs.entry.each_entry.Given as goal

abbrev pub invariant-loop : goal.invariant-loop
invariant-loop l =
    with_prefix (map entry_view l.list.items) (each_at acl_entry.read (l.count - l.counter) l.at)
    ≡ each_at acl_entry.read l.count l.fn.at

use Rattle.std.proofs.Common.{◌≡◌, ◌<◌, length, get_or, [], Some, rules}
use Rattle.std.proofs.lemmas.List.{get_or_default}
use Rattle.std.specs.Prelude.{map}
use Rattle.std.specs.List.{flat_map}
use Rattle.model.specs.Attributes.Attribute.{entry_refusals}
use Rattle.model_tree.specs.Refusals.Refusal.{first_refusal}
use Rattle.wire_attributes.specs.declared.entry.AclEntry.{AclEntry}
use Rattle.wire_attributes.specs.Views.{entry_view}
use Rattle.wire_attributes.proofs.EachTest.{refuses_here, passes_here}
use Rattle.wire_attributes.proofs.checks.check_entries.Goals as goal

abbrev blank : AclEntry
blank = record { kind = 0; flags = 0; mask = 0; who = record { ref_ptr = (0, 0); now = [] } }

pub returns-in_err-check_entry : goal.returns-in_err-check_entry
returns-in_err-check_entry c =
    let list = c.args.entries.now in
    let i = c.loop-entry.entry-index in
    let within : i < length list = c.loop-entry-test.true in
    let first : first_refusal (flat_map (entry_refusals c.args.kind) (map entry_view list)) ≡ Some c.in_err-check_entry.field-0.0 =
    refuses_here entry_view (entry_refusals c.args.kind) list i (get_or list i blank) c.in_err-check_entry.field-0.0 within
    (get_or_default list i blank (get_or list i blank) within) c.loop-entry.invariant c.in_err-check_entry.ensures in
    search rules

pub loop-entry-preserved : goal.loop-entry-preserved
loop-entry-preserved c =
    let list = c.args.entries.now in
    let i = c.loop-entry.entry-index in
    passes_here entry_view (entry_refusals c.args.kind) list i (get_or list i blank) c.loop-entry-test.true
    (get_or_default list i blank (get_or list i blank) c.loop-entry-test.true) c.loop-entry.invariant c.in_ok-check_entry.ensures

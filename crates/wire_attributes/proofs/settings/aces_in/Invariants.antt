use Rattle.std.proofs.Common.{◌≡◌, ◌++◌, drop, map}
use Rattle.model.specs.Attributes.AclText.{aces_in}
use Rattle.wire_attributes.specs.Views.{entry_view}
use Rattle.wire_attributes.proofs.settings.aces_in.Given as goal

abbrev pub invariant-loop-entry : goal.invariant-loop-entry
invariant-loop-entry l = aces_in (map entry_view l.entries) ≡ l.acl ++ aces_in (map entry_view (drop l.entry-index l.entries))

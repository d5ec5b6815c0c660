use Rattle.std.proofs.Common.{◌≡◌, rules}
use Rattle.std.specs.Prelude.{None, map}
use Rattle.model.specs.Attributes.Attribute.{attribute_refusals}
use Rattle.model_tree.specs.Refusals.Refusal.{first_refusal}
use Rattle.wire_attributes.specs.Given.{given_of, AreSettings}
use Rattle.wire_attributes.specs.NodeValues.{attribute_number}
use Rattle.wire_attributes.proofs.WithinLaws.{within}
use Rattle.wire_attributes.proofs.checks.check_attributes.Goals as goal

pub returns-clause-within : goal.returns-clause-within
unfolding attribute_refusals
returns-clause-within c =
    let given = given_of c.args.given in
    let settable = map attribute_number c.args.settable.now in
    let passed : first_refusal (attribute_refusals c.args.limits.now c.args.kind settable given) ≡ None = search rules in
    let are : AreSettings c.in_ok-settings_in.field-0 given = search rules in
    within c.args.limits.now c.args.kind settable given c.in_ok-settings_in.field-0 passed are

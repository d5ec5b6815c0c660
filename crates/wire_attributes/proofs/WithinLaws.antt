-- What passes its tests is within the limits.
use Rattle.std.proofs.Common.{ℕ, List, [], ◌∷◌, ◌≡◌, ◌≤◌, Some, None, nat_lt, subst, is_none}
use Rattle.std.proofs.lemmas.Bool.{ltb-false}
use Rattle.std.specs.List.{flat_map}
use Rattle.std.specs.Prelude.{unwrap_or}
use Rattle.model_tree.specs.declared.node.NodeKind.{NodeKind}
use Rattle.model_tree.specs.declared.limits.Limits.{Limits}
use Rattle.model_tree.specs.declared.status.Status.TheVariants as status
use Rattle.model.specs.Attributes.Attribute.{attribute_refusals, attributes_of, first_said, has_one_outside, mode_given, mode_said, supported, value_refusals, values_of}
use Rattle.model.specs.Attributes.AttributeValue.{Value, Mode}
use Rattle.model.specs.Operations.Operation as operation
use Rattle.model_tree.specs.Refusals.Refusal.{first_refusal}
use Rattle.model.proofs.Operations.AttributeLaws.{first_passed, given_lists_fit}
use Rattle.model.proofs.Operations.FileStepLaws.{size_within}
use Rattle.model.proofs.Operations.RefusalLaws.{none_earlier}
use Rattle.wire_attributes.specs.declared.settings.Settings.{Settings}
use Rattle.wire_attributes.specs.Given.{AreSettings, WithinLimits}

-- a mode that passes its test has nine bits
nine_bits : (limits : Limits) (kind : NodeKind) (values : List Value) (mode : ℕ)
    → first_refusal (flat_map (value_refusals limits kind) values) ≡ None → first_said mode_said values ≡ Some mode → mode ≤ 511
nine_bits limits kind [] mode tested same = absurd (cc)
nine_bits limits kind (Mode first ∷ rest) mode tested same =
    let here : first ≡ mode = cc in
    let passed = none_earlier (nat_lt 511 first) status.Inval None (first_passed (value_refusals limits kind) (Mode first) rest tested).0 in
    subst (λ n. n ≤ 511) here (ltb-false 511 first passed.0)
nine_bits limits kind (value ∷ rest) mode tested same =
    nine_bits limits kind rest mode (first_passed (value_refusals limits kind) value rest tested).1 same

mode_within : (limits : Limits) (kind : NodeKind) (settable : List ℕ) (given : operation.Attributes) (mode : ℕ)
    → first_refusal (attribute_refusals limits kind settable given) ≡ None → mode_given given ≡ Some mode → mode ≤ 511
unfolding attribute_refusals
mode_within limits kind settable given mode none said =
    let known = none_earlier (has_one_outside supported (attributes_of given.bitmap)) status.AttrNotSupp _ none in
    let settable_here = none_earlier (has_one_outside settable (attributes_of given.bitmap)) status.Inval _ known.1 in
    let whole = none_earlier (is_none (values_of given)) status.BadXdr _ settable_here.1 in
    nine_bits limits kind (unwrap_or (values_of given) []) mode whole.1 said

-- what is set by attributes that pass their tests is within the limits
pub within : (limits : Limits) (kind : NodeKind) (settable : List ℕ) (given : operation.Attributes) (settings : Settings)
    → first_refusal (attribute_refusals limits kind settable given) ≡ None → AreSettings settings given → WithinLimits limits kind settings
within limits kind settable given settings passed are = record {
  size = λ size is. size_within limits kind settable given size passed (rw (← are.size) is);
  acl = λ room acl is. given_lists_fit limits kind settable given acl room passed (rw (← are.acl) is);
  nine_bits = λ mode is. mode_within limits kind settable given mode passed (rw (← are.mode) is);
}

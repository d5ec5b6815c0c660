-- Attributes that a client gives, as the definitions have them, what they set, and what a test of
-- them says.
use Rattle.std.specs.Prelude.{ℕ, List, length, Some, None, Result, ◌≡◌, ◌≤◌, ◌==◌, MatchResult, IsTrue}
use Rattle.std.specs.Option.{ForSome}
use Rattle.model_tree.specs.declared.limits.Limits.{Limits}
use Rattle.model_tree.specs.declared.node.NodeKind.{NodeKind}
use Rattle.model_tree.specs.declared.status.Status.{Status}
use Rattle.model_tree.specs.Rights.Acl.{is_list_for}
use Rattle.model.specs.Attributes.Attribute.{first_said, size_said, acl_said, mode_said, owner_said, group_said, is_empty, size_given, acl_given, mode_given, owner_given, group_given}
use Rattle.model.specs.Attributes.AttributeValue as value
use Rattle.model.specs.Operations.Operation as operation
use Rattle.model_tree.specs.Refusals.Refusal.{Refusals, first_refusal}
use Rattle.wire_attributes.specs.declared.given.GivenAttributes.{GivenAttributes}
use Rattle.model.specs.declared.not_done.NotDone.{NotDone}
use Rattle.model.specs.declared.not_done.NotDone.TheVariants as refusal
use Rattle.wire_attributes.specs.declared.settings.Settings.{Settings}

abbrev pub given_of : GivenAttributes → operation.Attributes
given_of given = record { bitmap = given.bitmap.now; values = given.values.now }

-- what these values set, of attributes of these numbers
pub record AreSaid (settings : Settings) (attributes : List ℕ) (values : List value.Value) : Type
    0 where
  pub empty : settings.is_empty ≡ (length attributes == 0)
  pub size : settings.size ≡ first_said size_said values
  pub acl : settings.acl ≡ first_said acl_said values
  pub mode : settings.mode ≡ first_said mode_said values
  pub owner : settings.owner ≡ first_said owner_said values
  pub group : settings.group ≡ first_said group_said values

-- what these attributes set
pub record AreSettings (settings : Settings) (given : operation.Attributes) : Type 0 where
  pub empty : settings.is_empty ≡ is_empty given.bitmap
  pub size : settings.size ≡ size_given given
  pub acl : settings.acl ≡ acl_given given
  pub mode : settings.mode ≡ mode_given given
  pub owner : settings.owner ≡ owner_given given
  pub group : settings.group ≡ group_given given

-- what passed its tests is within the limits: a file's size, a list that a node of this kind may
-- have, and nine bits of mode
pub record WithinLimits (limits : Limits) (kind : NodeKind) (settings : Settings) : Type 0 where
  pub size : ForSome settings.size (λ size. size ≤ limits.file_bytes)
  pub acl : limits.aces_set ≤ limits.aces
      → ForSome settings.acl (λ acl. IsTrue (is_list_for limits.aces_set limits.aces kind acl))
  pub nine_bits : ForSome settings.mode (λ mode. mode ≤ 511)

-- a result that is the error of the first of these tests that holds, and of nothing else
abbrev pub IsChecked : {T : Type 0} → Refusals → Result T Status → Type 0
IsChecked refusals result =
    MatchResult result (λ _. first_refusal refusals ≡ None)
    (λ reason. first_refusal refusals ≡ Some reason)

-- the same, except that memory may run out
abbrev pub IsRefusedBy : Refusals → NotDone → Type 0
IsRefusedBy refusals (refusal.Status reason) = first_refusal refusals ≡ Some reason
IsRefusedBy refusals refusal.Memory = Unit {0}

abbrev pub IsCheckedInMemory : {T : Type 0} → Refusals → Result T NotDone → Type 0
IsCheckedInMemory refusals result =
    MatchResult result (λ _. first_refusal refusals ≡ None) (IsRefusedBy refusals)

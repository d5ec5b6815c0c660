-- The tests of SETATTR, one after the other.
use Rattle.std.proofs.Common.{◌≡◌, ◌&&◌, ◌||◌, ℕ, Bool, List, [], ◌∷◌, ◌++◌, not, sym, ap, ap₂, ◌∙◌}
use Rattle.std.specs.Prelude.{Option, None, Result, if◌then◌else◌}
use Rattle.layout.specs.CachedNodes.{CachedNode}
use Rattle.model_tree.specs.declared.acl.Cred.{Cred}
use Rattle.model_tree.specs.declared.limits.Limits.{Limits}
use Rattle.model_tree.specs.declared.node.NodeKind.{NodeKind}
use Rattle.model_tree.specs.declared.node.NodeKind.TheVariants as kind
use Rattle.model_tree.specs.declared.status.Status.{Status}
use Rattle.model_tree.specs.declared.status.Status.TheVariants as status
use Rattle.model_tree.specs.Rights.Acl.{granted, write_acl, write_data, write_owner}
use Rattle.model.specs.Attributes.Attribute.{acl_number, attribute_refusals, attributes_of, is_among, mode_number, owner_group_number, owner_number, settable_at_setattr, size_number}
use Rattle.model_tree.specs.Trees.Keyed.{at, is_key}
use Rattle.model.specs.Operations.Need.{granted_on}
use Rattle.model.specs.Operations.Operation.{Attributes}
use Rattle.model_tree.specs.Refusals.Refusal.{Refusals, first_refusal, refused_or}
use Rattle.model.specs.Operations.SetAttr.{kind_at, sets_size}
use Rattle.model_tree.specs.Trees.Tree.{Tree, Node, is_directory, is_directory_at, is_directory_node}
use Rattle.model.proofs.Operations.RefusalLaws.{first-append, or_else}
use Rattle.fs.specs.Setting.{may_set, setting_tests, sized_refusals}
use Rattle.fs.proofs.CachedNodeViews.{granted_by}
use Rattle.volume.specs.Nodes.{IsNodeOf, ShowsContent}

pub tests_are : (limits : Limits) (tree : Tree) (cred : Cred) (number : ℕ) (verdict : Result (Unit {0}) Status) (given : Attributes)
    → (stale : Bool) (values sized : Option Status) (denied : Bool)
    → not (is_key number tree) ≡ stale
    → first_refusal (attribute_refusals limits (kind_at tree number) settable_at_setattr given) ≡ values
    → first_refusal (sized_refusals (sets_size given) (is_directory_at tree number) verdict) ≡ sized
    → not (may_set (granted_on (at number tree) cred) (attributes_of given.bitmap)) ≡ denied
    → first_refusal (setting_tests limits tree cred number verdict given) ≡ refused_or stale status.Stale (or_else values (or_else sized (refused_or denied status.Access None)))
tests_are limits tree cred number verdict given stale values sized denied stale_is values_are sized_is denied_is =
    let own : Refusals = attribute_refusals limits (kind_at tree number) settable_at_setattr given in
    let size : Refusals = sized_refusals (sets_size given) (is_directory_at tree number) verdict in
    let right : Refusals = (not (may_set (granted_on (at number tree) cred) (attributes_of given.bitmap)), status.Access) ∷ [] in
    ap₂ (λ (b : Bool) (o : Option Status). refused_or b status.Stale o) stale_is
    (first-append own (size ++ right)
    ∙ ap₂ or_else values_are (first-append size right ∙ ap₂ or_else sized_is (ap (λ (b : Bool). refused_or b status.Access None) denied_is)))

-- the kind that the cached node of a node shows
pub kind_is : (tree : Tree) (number : ℕ) (cached : CachedNode) → IsNodeOf tree number cached → cached.fields.kind ≡ kind_at tree number
kind_is tree number cached is = by_kind cached.fields.kind is.content
  where
    there : is_directory_at tree number ≡ is_directory is.node.content
    there = ap is_directory_node is.there

    by_kind : (of : NodeKind) → ShowsContent of cached is.node.content → of ≡ kind_at tree number
    by_kind kind.File file = sym (ap (λ (b : Bool). if b then kind.Directory else kind.File) (there ∙ ap is_directory file.file))
    by_kind kind.Directory names = sym (ap (λ (b : Bool). if b then kind.Directory else kind.File) (there ∙ ap is_directory names))

-- whether one may set attributes, by the cached node
may_by : (numbers : List ℕ) (f g : ℕ → Bool) → ((mask : ℕ) → f mask ≡ g mask) → may_set f numbers ≡ may_set g numbers
may_by numbers f g same =
    let size = not (is_among numbers size_number) in
    let list = not (is_among numbers mode_number || is_among numbers acl_number) in
    let owner = not (is_among numbers owner_number || is_among numbers owner_group_number) in
    ap (λ (b : Bool). (size || b) && ((list || f write_acl) && (owner || f write_owner))) (same write_data)
    ∙ ap (λ (b : Bool). (size || g write_data) && ((list || b) && (owner || f write_owner))) (same write_acl)
    ∙ ap (λ (b : Bool). (size || g write_data) && ((list || g write_acl) && (owner || b))) (same write_owner)

pub may_told : (tree : Tree) (number : ℕ) (cached : CachedNode) → IsNodeOf tree number cached → (cred : Cred) (numbers : List ℕ)
    → may_set (granted_on (at number tree) cred) numbers ≡ may_set (granted cached.fields.acl cached.fields.owner cached.fields.group cred) numbers
may_told tree number cached is cred numbers = may_by numbers (granted_on (at number tree) cred) (granted cached.fields.acl cached.fields.owner cached.fields.group cred)
    (λ mask. ap (λ (o : Option Node). granted_on o cred mask) is.there ∙ sym (granted_by tree number cached is cred mask))

use Rattle.std.proofs.Common.{◌≡◌, ◌∙◌, ℕ, Bool, true, false, List, Some, None, not, sym, ap, ap₂, refl, is_some}
use Rattle.std.specs.Prelude.{Option}
use Rattle.std.proofs.lemmas.Result.{err_from_is_err_and}
use Rattle.layout.specs.CachedNodes.{CachedNode}
use Rattle.model_tree.specs.declared.limits.Limits.{Limits}
use Rattle.model_tree.specs.declared.node.NodeKind.{NodeKind}
use Rattle.model_tree.specs.Rights.Acl.{granted}
use Rattle.model.specs.Attributes.Attribute.{attribute_refusals, attributes_of, settable_at_setattr}
use Rattle.model_tree.specs.Trees.Keyed.{at}
use Rattle.model.specs.Operations.Need.{granted_on}
use Rattle.model_tree.specs.Refusals.Refusal.{first_refusal}
use Rattle.model.specs.Operations.SetAttr.{kind_at, sets_size}
use Rattle.model_tree.specs.Trees.Tree.{Node, is_directory_at}
use Rattle.wire_attributes.specs.Given.{given_of}
use Rattle.fs.specs.Views.{fs_of}
use Rattle.fs.specs.Setting.{may_set, setting_tests, sized_refusals}
use Rattle.fs.proofs.CachedNodeViews.{is_directory_told}
use Rattle.fs.proofs.RefusedLaws.{carried}
use Rattle.fs.proofs.SettingTests.{kind_is, may_told, tests_are}
use Rattle.volume.proofs.ServeLaws.{is_err_of}
use Rattle.model.specs.declared.not_done.NotDone.TheVariants as refusal
use Rattle.fs.proofs.fs.Fs.permit_setting.Goals as goal

pub returns-in_err-settings-clause-node : goal.returns-in_err-settings-clause-node
returns-in_err-settings-clause-node g c = rw (is_err_of c.from_residual.result c.in_err-settings.field-0.0 c.from_residual.ensures.1) (tt)

pub returns-in_err-settings-clause-fit : goal.returns-in_err-settings-clause-fit
returns-in_err-settings-clause-fit g c = rw (is_err_of c.from_residual.result c.in_err-settings.field-0.0 c.from_residual.ensures.1) (tt)

pub returns-in_err-settings-clause-settings : goal.returns-in_err-settings-clause-settings
returns-in_err-settings-clause-settings g c = rw (is_err_of c.from_residual.result c.in_err-settings.field-0.0 c.from_residual.ensures.1) (tt)

pub returns-in_err-settings-clause-within : goal.returns-in_err-settings-clause-within
returns-in_err-settings-clause-within g c = rw (is_err_of c.from_residual.result c.in_err-settings.field-0.0 c.from_residual.ensures.1) (tt)

pub returns-in_err-check_sized-clause-node : goal.returns-in_err-check_sized-clause-node
returns-in_err-check_sized-clause-node g c = rw (is_err_of c.from_residual-in_err-check_sized.result (refusal.Status c.in_err-check_sized.field-0.0) c.from_residual-in_err-check_sized.ensures.1) (tt)

pub returns-in_err-check_sized-clause-fit : goal.returns-in_err-check_sized-clause-fit
returns-in_err-check_sized-clause-fit g c = rw (is_err_of c.from_residual-in_err-check_sized.result (refusal.Status c.in_err-check_sized.field-0.0) c.from_residual-in_err-check_sized.ensures.1) (tt)

pub returns-in_err-check_sized-clause-settings : goal.returns-in_err-check_sized-clause-settings
returns-in_err-check_sized-clause-settings g c = rw (is_err_of c.from_residual-in_err-check_sized.result (refusal.Status c.in_err-check_sized.field-0.0) c.from_residual-in_err-check_sized.ensures.1) (tt)

pub returns-in_err-check_sized-clause-within : goal.returns-in_err-check_sized-clause-within
returns-in_err-check_sized-clause-within g c = rw (is_err_of c.from_residual-in_err-check_sized.result (refusal.Status c.in_err-check_sized.field-0.0) c.from_residual-in_err-check_sized.ensures.1) (tt)

pub returns-in_err-attributes-clause-tests : goal.returns-in_err-attributes-clause-tests
returns-in_err-attributes-clause-tests g c = rw (is_err_of c.from_residual-in_err-attributes.result refusal.Memory c.from_residual-in_err-attributes.ensures.1) (tt)

pub returns-in_err-attributes-clause-node : goal.returns-in_err-attributes-clause-node
returns-in_err-attributes-clause-node g c = rw (is_err_of c.from_residual-in_err-attributes.result refusal.Memory c.from_residual-in_err-attributes.ensures.1) (tt)

pub returns-in_err-attributes-clause-fit : goal.returns-in_err-attributes-clause-fit
returns-in_err-attributes-clause-fit g c = rw (is_err_of c.from_residual-in_err-attributes.result refusal.Memory c.from_residual-in_err-attributes.ensures.1) (tt)

pub returns-in_err-attributes-clause-settings : goal.returns-in_err-attributes-clause-settings
returns-in_err-attributes-clause-settings g c = rw (is_err_of c.from_residual-in_err-attributes.result refusal.Memory c.from_residual-in_err-attributes.ensures.1) (tt)

pub returns-in_err-attributes-clause-within : goal.returns-in_err-attributes-clause-within
returns-in_err-attributes-clause-within g c = rw (is_err_of c.from_residual-in_err-attributes.result refusal.Memory c.from_residual-in_err-attributes.ensures.1) (tt)

pub returns-in_err-settings-clause-tests : goal.returns-in_err-settings-clause-tests
unfolding fs_of
returns-in_err-settings-clause-tests g c =
    let held = (fs_of c.args.self.now).volume in
    let asked = c.args.asked in
    let given = given_of asked.attributes in
    let node = c.in-Some.ensures.some in
    let tests = λ (l : Limits) (of : NodeKind). attribute_refusals l of settable_at_setattr given in
    let p = err_from_is_err_and c.from_residual.result c.from_residual.ensures.1 in
    let kind_same : c.cached.inside.inode.kind ≡ kind_at held.tree asked.number = ap (λ (it : CachedNode). it.fields.kind) c.cached.view_is ∙ kind_is held.tree asked.number c.in-Some.cached.now node in
    rw (p.1, p.2) (carried (tests c.limits.result.now c.cached.inside.inode.kind) (setting_tests held.limits held.tree c.args.cred.now asked.number asked.verdict given)
    (λ reason refused. tests_are held.limits held.tree c.args.cred.now asked.number asked.verdict given false (Some reason) _ _ (ap (λ (o : Option Node). not (is_some o)) node.there)
    (ap₂ (λ (l : Limits) (of : NodeKind). first_refusal (tests l of)) (sym c.limits.ensures.limits) (sym kind_same) ∙ refused) refl refl)
    c.in_err-settings.field-0.0 c.in_err-settings.ensures.tests)

pub returns-in_err-check_sized-clause-tests : goal.returns-in_err-check_sized-clause-tests
unfolding fs_of
returns-in_err-check_sized-clause-tests g c =
    let held = (fs_of c.args.self.now).volume in
    let asked = c.args.asked in
    let given = given_of asked.attributes in
    let node = c.in-Some.ensures.some in
    let p = err_from_is_err_and c.from_residual-in_err-check_sized.result c.from_residual-in_err-check_sized.ensures.1 in
    let kind_same : c.cached.inside.inode.kind ≡ kind_at held.tree asked.number = ap (λ (it : CachedNode). it.fields.kind) c.cached.view_is ∙ kind_is held.tree asked.number c.in-Some.cached.now node in
    let sized : c.is_some.result ≡ sets_size given = c.is_some.ensures ∙ ap (λ (o : Option ℕ). is_some o) c.in_ok-settings.ensures.settings.size in
    let directory : c.is_directory.result ≡ is_directory_at held.tree asked.number =
    is_directory_told held.tree asked.number c.in-Some.cached.now node c.is_directory.result c.is_directory.ensures.0 c.is_directory.ensures.1 in
    rw (p.1, p.2) (tests_are held.limits held.tree c.args.cred.now asked.number asked.verdict given false None (Some c.in_err-check_sized.field-0.0) _ (ap (λ (o : Option Node). not (is_some o)) node.there)
    (ap₂ (λ (l : Limits) (of : NodeKind). first_refusal (attribute_refusals l of settable_at_setattr given)) (sym c.limits.ensures.limits) (sym kind_same) ∙ c.in_ok-settings.ensures.tests)
    (ap₂ (λ (b d : Bool). first_refusal (sized_refusals b d asked.verdict)) (sym sized) (sym directory) ∙ c.in_err-check_sized.ensures) refl)

pub returns-then-not-may_set-clause-tests : goal.returns-then-not-may_set-clause-tests
unfolding fs_of
returns-then-not-may_set-clause-tests g c =
    let held = (fs_of c.args.self.now).volume in
    let asked = c.args.asked in
    let given = given_of asked.attributes in
    let node = c.in-Some.ensures.some in
    let cached_node = c.in-Some.cached.now in
    let kind_same : c.cached.inside.inode.kind ≡ kind_at held.tree asked.number = ap (λ (it : CachedNode). it.fields.kind) c.cached.view_is ∙ kind_is held.tree asked.number cached_node node in
    let sized : c.is_some.result ≡ sets_size given = c.is_some.ensures ∙ ap (λ (o : Option ℕ). is_some o) c.in_ok-settings.ensures.settings.size in
    let directory : c.is_directory.result ≡ is_directory_at held.tree asked.number =
    is_directory_told held.tree asked.number cached_node node c.is_directory.result c.is_directory.ensures.0 c.is_directory.ensures.1 in
    let numbers : c.deref.result.now ≡ attributes_of asked.attributes.bitmap.now = c.deref.ensures.value ∙ c.in_ok-attributes.ensures in
    let may : may_set (granted_on (at asked.number held.tree) c.args.cred.now) (attributes_of asked.attributes.bitmap.now) ≡ c.may_set.result =
    may_told held.tree asked.number cached_node node c.args.cred.now (attributes_of asked.attributes.bitmap.now)
    ∙ ap (λ (l : List ℕ). may_set (granted cached_node.fields.acl cached_node.fields.owner cached_node.fields.group c.args.cred.now) l) (sym numbers) ∙ sym c.may_set.ensures in
    tests_are held.limits held.tree c.args.cred.now asked.number asked.verdict given false None None true (ap (λ (o : Option Node). not (is_some o)) node.there)
    (ap₂ (λ (l : Limits) (of : NodeKind). first_refusal (attribute_refusals l of settable_at_setattr given)) (sym c.limits.ensures.limits) (sym kind_same) ∙ c.in_ok-settings.ensures.tests)
    (ap₂ (λ (b d : Bool). first_refusal (sized_refusals b d asked.verdict)) (sym sized) (sym directory) ∙ c.in_ok-check_sized.ensures)
    (ap not (may ∙ c.if-not-may_set.true))

pub returns-clause-tests : goal.returns-clause-tests
unfolding fs_of
returns-clause-tests g c =
    let held = (fs_of c.args.self.now).volume in
    let asked = c.args.asked in
    let given = given_of asked.attributes in
    let node = c.in-Some.ensures.some in
    let cached_node = c.in-Some.cached.now in
    let kind_same : c.cached.inside.inode.kind ≡ kind_at held.tree asked.number = ap (λ (it : CachedNode). it.fields.kind) c.cached.view_is ∙ kind_is held.tree asked.number cached_node node in
    let sized : c.is_some.result ≡ sets_size given = c.is_some.ensures ∙ ap (λ (o : Option ℕ). is_some o) c.in_ok-settings.ensures.settings.size in
    let directory : c.is_directory.result ≡ is_directory_at held.tree asked.number =
    is_directory_told held.tree asked.number cached_node node c.is_directory.result c.is_directory.ensures.0 c.is_directory.ensures.1 in
    let numbers : c.deref.result.now ≡ attributes_of asked.attributes.bitmap.now = c.deref.ensures.value ∙ c.in_ok-attributes.ensures in
    let may : may_set (granted_on (at asked.number held.tree) c.args.cred.now) (attributes_of asked.attributes.bitmap.now) ≡ c.may_set.result =
    may_told held.tree asked.number cached_node node c.args.cred.now (attributes_of asked.attributes.bitmap.now)
    ∙ ap (λ (l : List ℕ). may_set (granted cached_node.fields.acl cached_node.fields.owner cached_node.fields.group c.args.cred.now) l) (sym numbers) ∙ sym c.may_set.ensures in
    tests_are held.limits held.tree c.args.cred.now asked.number asked.verdict given false None None false (ap (λ (o : Option Node). not (is_some o)) node.there)
    (ap₂ (λ (l : Limits) (of : NodeKind). first_refusal (attribute_refusals l of settable_at_setattr given)) (sym c.limits.ensures.limits) (sym kind_same) ∙ c.in_ok-settings.ensures.tests)
    (ap₂ (λ (b d : Bool). first_refusal (sized_refusals b d asked.verdict)) (sym sized) (sym directory) ∙ c.in_ok-check_sized.ensures)
    (ap not (may ∙ c.if-not-may_set.false))

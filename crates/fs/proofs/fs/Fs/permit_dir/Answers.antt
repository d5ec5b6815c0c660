use Rattle.std.proofs.Common.{◌≡◌, ◌∙◌, true, false, sym, ap, is_some, refl}
use Rattle.std.specs.Prelude.{Option, Some, None, option_map}
use Rattle.std.proofs.lemmas.Result.{err_from_is_err_and}
use Rattle.layout.specs.CachedNodes.{CachedNode}
use Rattle.directory.specs.Records.{record_from}
use Rattle.model_tree.specs.declared.limits.Limits.{Limits}
use Rattle.model_tree.specs.declared.node.NodeKind.TheVariants as kind
use Rattle.model_tree.specs.Rights.Acl.{append_data}
use Rattle.model.specs.Attributes.Attribute.{attribute_refusals, settable_at_creation}
use Rattle.model_tree.specs.Refusals.Name.{name_refusals}
use Rattle.model_tree.specs.Refusals.Refusal.{first_refusal}
use Rattle.model_tree.specs.Trees.Tree.{is_directory, names_of, entry_of}
use Rattle.wire_attributes.specs.Given.{given_of}
use Rattle.fs.specs.OnTree.{new_directory_refusals}
use Rattle.fs.proofs.Creating as creating
use Rattle.fs.specs.Views.{fs_of}
use Rattle.fs.proofs.CachedNodeViews.{granted_by, names_are, entry_is}
use Rattle.fs.proofs.RefusedLaws.{carried}
use Rattle.volume.proofs.ServeLaws.{is_err_of}
use Rattle.model.specs.declared.not_done.NotDone.TheVariants as refusal
use Rattle.fs.proofs.fs.Fs.permit_dir.Goals as goal

pub returns-in_err-check_name-clause-parent : goal.returns-in_err-check_name-clause-parent
returns-in_err-check_name-clause-parent g c = rw (is_err_of c.from_residual.result (refusal.Status c.in_err-check_name.field-0.0) c.from_residual.ensures.1) (tt)

pub returns-in_err-check_name-clause-fit : goal.returns-in_err-check_name-clause-fit
returns-in_err-check_name-clause-fit g c = rw (is_err_of c.from_residual.result (refusal.Status c.in_err-check_name.field-0.0) c.from_residual.ensures.1) (tt)

pub returns-in_err-check_name-clause-settings : goal.returns-in_err-check_name-clause-settings
returns-in_err-check_name-clause-settings g c = rw (is_err_of c.from_residual.result (refusal.Status c.in_err-check_name.field-0.0) c.from_residual.ensures.1) (tt)

pub returns-in_err-check_name-clause-within : goal.returns-in_err-check_name-clause-within
returns-in_err-check_name-clause-within g c = rw (is_err_of c.from_residual.result (refusal.Status c.in_err-check_name.field-0.0) c.from_residual.ensures.1) (tt)

pub returns-in_err-settings-clause-parent : goal.returns-in_err-settings-clause-parent
returns-in_err-settings-clause-parent g c = rw (is_err_of c.from_residual-in_err-settings.result c.in_err-settings.field-0.0 c.from_residual-in_err-settings.ensures.1) (tt)

pub returns-in_err-settings-clause-fit : goal.returns-in_err-settings-clause-fit
returns-in_err-settings-clause-fit g c = rw (is_err_of c.from_residual-in_err-settings.result c.in_err-settings.field-0.0 c.from_residual-in_err-settings.ensures.1) (tt)

pub returns-in_err-settings-clause-settings : goal.returns-in_err-settings-clause-settings
returns-in_err-settings-clause-settings g c = rw (is_err_of c.from_residual-in_err-settings.result c.in_err-settings.field-0.0 c.from_residual-in_err-settings.ensures.1) (tt)

pub returns-in_err-settings-clause-within : goal.returns-in_err-settings-clause-within
returns-in_err-settings-clause-within g c = rw (is_err_of c.from_residual-in_err-settings.result c.in_err-settings.field-0.0 c.from_residual-in_err-settings.ensures.1) (tt)

-- whether something is found does not change with what is seen of it
mapped : {A B : Type 0} (view : A → B) (found : Option A) → is_some (option_map view found) ≡ is_some found
mapped view None = refl
mapped view (Some x) = refl

pub returns-in_err-check_name-clause-tests : goal.returns-in_err-check_name-clause-tests
unfolding fs_of
returns-in_err-check_name-clause-tests g c =
    let held = (fs_of c.args.self.now).volume in
    let node = c.in-Some.ensures.some in
    let directory = c.is_directory.ensures.0 c.if-not-is_directory.false in
    let name = c.args.asked.name.now in
    let p = err_from_is_err_and c.from_residual.result c.from_residual.ensures.1 in
    rw (p.1, p.2) (creating.bad_name held.limits held.tree c.args.cred.now c.args.asked.parent name (given_of c.args.asked.attributes) node.node node.there
    (ap is_directory (names_are held.tree c.args.asked.parent c.in-Some.parent.now node directory)) c.in_err-check_name.field-0.0
    (ap (λ (l : Limits). first_refusal (name_refusals l name)) (sym c.limits-limits.ensures.limits) ∙ c.in_err-check_name.ensures.refused))

pub returns-in_err-settings-clause-tests : goal.returns-in_err-settings-clause-tests
unfolding fs_of
returns-in_err-settings-clause-tests g c =
    let held = (fs_of c.args.self.now).volume in
    let node = c.in-Some.ensures.some in
    let directory = c.is_directory.ensures.0 c.if-not-is_directory.false in
    let name = c.args.asked.name.now in
    let given = given_of c.args.asked.attributes in
    let p = err_from_is_err_and c.from_residual-in_err-settings.result c.from_residual-in_err-settings.ensures.1 in
    let tests = λ (l : Limits). attribute_refusals l kind.Directory settable_at_creation given in
    rw (p.1, p.2) (carried (tests c.limits-limits.result.now) (new_directory_refusals held.limits held.tree c.args.cred.now c.args.asked.parent name given)
    (λ reason refused. creating.bad_attributes held.limits held.tree c.args.cred.now c.args.asked.parent name given node.node node.there
    (ap is_directory (names_are held.tree c.args.asked.parent c.in-Some.parent.now node directory))
    (ap (λ (l : Limits). first_refusal (name_refusals l name)) (sym c.limits-limits.ensures.limits) ∙ c.in_ok-check_name.ensures.allowed)
    reason (ap (λ (l : Limits). first_refusal (tests l)) (sym c.limits-limits.ensures.limits) ∙ refused))
    c.in_err-settings.field-0.0 c.in_err-settings.ensures.tests)

pub returns-then-not-grants-clause-tests : goal.returns-then-not-grants-clause-tests
unfolding fs_of
returns-then-not-grants-clause-tests g c =
    let held = (fs_of c.args.self.now).volume in
    let node = c.in-Some.ensures.some in
    let directory = c.is_directory.ensures.0 c.if-not-is_directory.false in
    let name = c.args.asked.name.now in
    let given = given_of c.args.asked.attributes in
    creating.denied held.limits held.tree c.args.cred.now c.args.asked.parent name given node.node node.there
    (ap is_directory (names_are held.tree c.args.asked.parent c.in-Some.parent.now node directory))
    (ap (λ (l : Limits). first_refusal (name_refusals l name)) (sym c.limits-limits.ensures.limits) ∙ c.in_ok-check_name.ensures.allowed)
    (ap (λ (l : Limits). first_refusal (attribute_refusals l kind.Directory settable_at_creation given)) (sym c.limits-limits.ensures.limits) ∙ c.in_ok-settings.ensures.tests)
    (sym (granted_by held.tree c.args.asked.parent c.in-Some.parent.now node c.args.cred.now append_data) ∙ (sym c.grants.ensures ∙ c.if-not-grants.true))

pub returns-then-is_some-clause-tests : goal.returns-then-is_some-clause-tests
unfolding fs_of
returns-then-is_some-clause-tests g c =
    let held = (fs_of c.args.self.now).volume in
    let node = c.in-Some.ensures.some in
    let cached = c.in-Some.parent.now in
    let directory = c.is_directory.ensures.0 c.if-not-is_directory.false in
    let name = c.args.asked.name.now in
    let given = given_of c.args.asked.attributes in
    let taken : is_some (entry_of name (names_of node.node.content)) ≡ true =
    ap is_some (entry_is held.tree c.args.asked.parent cached node c.in-Some.ensures.fit directory name c.parent.inside.names (ap (λ (it : CachedNode). it.names) c.parent.view_is) _ c.get.ensures.by_stamp)
    ∙ (mapped (λ found. record_from found.0 name found.1) c.get.result ∙ (sym c.is_some.ensures ∙ c.if-is_some.true)) in
    creating.stands_already held.limits held.tree c.args.cred.now c.args.asked.parent name given node.node node.there
    (ap is_directory (names_are held.tree c.args.asked.parent cached node directory))
    (ap (λ (l : Limits). first_refusal (name_refusals l name)) (sym c.limits-limits.ensures.limits) ∙ c.in_ok-check_name.ensures.allowed)
    (ap (λ (l : Limits). first_refusal (attribute_refusals l kind.Directory settable_at_creation given)) (sym c.limits-limits.ensures.limits) ∙ c.in_ok-settings.ensures.tests)
    (sym (granted_by held.tree c.args.asked.parent cached node c.args.cred.now append_data) ∙ (sym c.grants.ensures ∙ c.if-not-grants.false)) taken

pub returns-clause-tests : goal.returns-clause-tests
unfolding fs_of
returns-clause-tests g c =
    let held = (fs_of c.args.self.now).volume in
    let node = c.in-Some.ensures.some in
    let cached = c.in-Some.parent.now in
    let directory = c.is_directory.ensures.0 c.if-not-is_directory.false in
    let name = c.args.asked.name.now in
    let given = given_of c.args.asked.attributes in
    let free : is_some (entry_of name (names_of node.node.content)) ≡ false =
    ap is_some (entry_is held.tree c.args.asked.parent cached node c.in-Some.ensures.fit directory name c.parent.inside.names (ap (λ (it : CachedNode). it.names) c.parent.view_is) _ c.get.ensures.by_stamp)
    ∙ (mapped (λ found. record_from found.0 name found.1) c.get.result ∙ (sym c.is_some.ensures ∙ c.if-is_some.false)) in
    creating.may_be_made held.limits held.tree c.args.cred.now c.args.asked.parent name given node.node node.there
    (ap is_directory (names_are held.tree c.args.asked.parent cached node directory))
    (ap (λ (l : Limits). first_refusal (name_refusals l name)) (sym c.limits-limits.ensures.limits) ∙ c.in_ok-check_name.ensures.allowed)
    (ap (λ (l : Limits). first_refusal (attribute_refusals l kind.Directory settable_at_creation given)) (sym c.limits-limits.ensures.limits) ∙ c.in_ok-settings.ensures.tests)
    (sym (granted_by held.tree c.args.asked.parent cached node c.args.cred.now append_data) ∙ (sym c.grants.ensures ∙ c.if-not-grants.false)) free

use Rattle.std.proofs.Common.{◌∙◌, sym, ap, true≢false}
use Rattle.std.specs.Prelude.{Some, None}
use Rattle.std.proofs.lemmas.Result.{err_from_is_err_and}
use Rattle.layout.specs.CachedNodes.{CachedNode}
use Rattle.directory.specs.Records.{record_from}
use Rattle.model_tree.specs.declared.limits.Limits.{Limits}
use Rattle.model_tree.specs.Rights.Acl.{execute}
use Rattle.model_tree.specs.Refusals.Name.{name_refusals}
use Rattle.model_tree.specs.Refusals.Refusal.{first_refusal}
use Rattle.model_tree.specs.Trees.Tree.{is_directory}
use Rattle.fs.proofs.LookupTests as stages
use Rattle.fs.specs.Views.{fs_of}
use Rattle.fs.proofs.CachedNodeViews.{granted_by, names_are, no_directory, entry_is}
use Rattle.fs.proofs.fs.Fs.entry.Goals as goal

pub returns-in_default : goal.returns-in_default
unfolding fs_of
returns-in_default g c state now is =
    let held = (fs_of c.args.self.now).volume in
    stages.no_node held.limits held.tree c.args.cred.now c.args.directory c.args.name.now state now is c.in_default.ensures.none

pub returns-then-not-is_directory : goal.returns-then-not-is_directory
unfolding fs_of
returns-then-not-is_directory g c state now is =
    let held = (fs_of c.args.self.now).volume in
    let node = c.in-Some.ensures.some in
    stages.no_directory held.limits held.tree c.args.cred.now c.args.directory c.args.name.now state now is node.node node.there
    (no_directory held.tree c.args.directory c.in-Some.cached.now node (λ e. true≢false (sym (c.is_directory.ensures.1 e) ∙ c.if-not-is_directory.true)))

pub returns-in_err-check_name : goal.returns-in_err-check_name
unfolding fs_of
returns-in_err-check_name g c state now is =
    let held = (fs_of c.args.self.now).volume in
    let node = c.in-Some.ensures.some in
    let p = err_from_is_err_and c.from_residual.result c.from_residual.ensures.1 in
    rw (p.1, p.2) (stages.bad_name held.limits held.tree c.args.cred.now c.args.directory c.args.name.now state now is node.node node.there
    (ap is_directory (names_are held.tree c.args.directory c.in-Some.cached.now node (c.is_directory.ensures.0 c.if-not-is_directory.false)))
    c.in_err-check_name.field-0.0
    (ap (λ (l : Limits). first_refusal (name_refusals l c.args.name.now)) (sym c.limits.ensures.limits) ∙ c.in_err-check_name.ensures.refused))

pub returns-then-not-grants : goal.returns-then-not-grants
unfolding fs_of
returns-then-not-grants g c state now is =
    let held = (fs_of c.args.self.now).volume in
    let node = c.in-Some.ensures.some in
    stages.not_granted held.limits held.tree c.args.cred.now c.args.directory c.args.name.now state now is node.node node.there
    (ap is_directory (names_are held.tree c.args.directory c.in-Some.cached.now node (c.is_directory.ensures.0 c.if-not-is_directory.false)))
    (ap (λ (l : Limits). first_refusal (name_refusals l c.args.name.now)) (sym c.limits.ensures.limits) ∙ c.in_ok-check_name.ensures.allowed)
    (sym (granted_by held.tree c.args.directory c.in-Some.cached.now node c.args.cred.now execute) ∙ (sym c.grants.ensures ∙ c.if-not-grants.true))

pub returns-in_default-get : goal.returns-in_default-get
unfolding fs_of
returns-in_default-get g c state now is =
    let held = (fs_of c.args.self.now).volume in
    let node = c.in-Some.ensures.some in
    let cached_node = c.in-Some.cached.now in
    let directory = c.is_directory.ensures.0 c.if-not-is_directory.false in
    stages.no_entry held.limits held.tree c.args.cred.now c.args.directory c.args.name.now state now is node.node node.there
    (ap is_directory (names_are held.tree c.args.directory cached_node node directory))
    (ap (λ (l : Limits). first_refusal (name_refusals l c.args.name.now)) (sym c.limits.ensures.limits) ∙ c.in_ok-check_name.ensures.allowed)
    (sym (granted_by held.tree c.args.directory cached_node node c.args.cred.now execute) ∙ (sym c.grants.ensures ∙ c.if-not-grants.false))
    (entry_is held.tree c.args.directory cached_node node c.in-Some.ensures.fit directory c.args.name.now c.cached.inside.names (ap (λ (it : CachedNode). it.names) c.cached.view_is) None c.in_default-get.ensures.by_stamp)

pub returns : goal.returns
unfolding fs_of
returns g c state now is =
    let held = (fs_of c.args.self.now).volume in
    let node = c.in-Some.ensures.some in
    let cached_node = c.in-Some.cached.now in
    let directory = c.is_directory.ensures.0 c.if-not-is_directory.false in
    let found = record_from c.in-Some-get.field-0-0 c.args.name.now c.in-Some-get.number in
    stages.found held.limits held.tree c.args.cred.now c.args.directory c.args.name.now state now is node.node node.there
    (ap is_directory (names_are held.tree c.args.directory cached_node node directory))
    (ap (λ (l : Limits). first_refusal (name_refusals l c.args.name.now)) (sym c.limits.ensures.limits) ∙ c.in_ok-check_name.ensures.allowed)
    (sym (granted_by held.tree c.args.directory cached_node node c.args.cred.now execute) ∙ (sym c.grants.ensures ∙ c.if-not-grants.false))
    found
    (entry_is held.tree c.args.directory cached_node node c.in-Some.ensures.fit directory c.args.name.now c.cached.inside.names (ap (λ (it : CachedNode). it.names) c.cached.view_is) (Some found) c.in-Some-get.ensures.by_stamp)

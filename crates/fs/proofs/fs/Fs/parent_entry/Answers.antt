use Rattle.std.proofs.Common.{ℕ, ◌∙◌, sym, ap, true≢false}
use Rattle.std.proofs.lemmas.Bool.{eq-eqb, ne_eqb}
use Rattle.model_tree.specs.Rights.Acl.{execute}
use Rattle.model.specs.Operations.Answer.{Answer}
use Rattle.model.specs.Operations.Step.{answered, moved_to}
use Rattle.model_tree.specs.Trees.Tree.{is_directory, root}
use Rattle.fs.specs.Views.{fs_of}
use Rattle.fs.proofs.CachedNodeViews.{granted_by, names_are, no_directory}
use Rattle.fs.proofs.ReadingLaws.{parent_gone, parent_of_file, parent_denied, parent_of_root, parent_found}
use Rattle.fs.proofs.fs.Fs.parent_entry.Goals as goal

pub returns-in_default : goal.returns-in_default
unfolding fs_of
returns-in_default g c state now is =
    let held = (fs_of c.args.self.now).volume in
    parent_gone held.limits held.tree c.args.cred.now c.args.directory state now is c.in_default.ensures.none

pub returns-then-not-is_directory : goal.returns-then-not-is_directory
unfolding fs_of
returns-then-not-is_directory g c state now is =
    let held = (fs_of c.args.self.now).volume in
    let node = c.in-Some.ensures.some in
    parent_of_file held.limits held.tree c.args.cred.now c.args.directory state now is node.node node.there
    (no_directory held.tree c.args.directory c.in-Some.cached.now node (λ e. true≢false (sym (c.is_directory.ensures.1 e) ∙ c.if-not-is_directory.true)))

pub returns-then-not-grants : goal.returns-then-not-grants
unfolding fs_of
returns-then-not-grants g c state now is =
    let held = (fs_of c.args.self.now).volume in
    let node = c.in-Some.ensures.some in
    parent_denied held.limits held.tree c.args.cred.now c.args.directory state now is node.node node.there
    (ap is_directory (names_are held.tree c.args.directory c.in-Some.cached.now node (c.is_directory.ensures.0 c.if-not-is_directory.false)))
    (sym (granted_by held.tree c.args.directory c.in-Some.cached.now node c.args.cred.now execute) ∙ (sym c.grants.ensures ∙ c.if-not-grants.true))

pub returns-then-directory-eq-ROOT : goal.returns-then-directory-eq-ROOT
unfolding fs_of
returns-then-directory-eq-ROOT g c state now is =
    let held = (fs_of c.args.self.now).volume in
    let node = c.in-Some.ensures.some in
    parent_of_root held.limits held.tree c.args.cred.now c.args.directory state now is node.node node.there
    (ap is_directory (names_are held.tree c.args.directory c.in-Some.cached.now node (c.is_directory.ensures.0 c.if-not-is_directory.false)))
    (sym (granted_by held.tree c.args.directory c.in-Some.cached.now node c.args.cred.now execute) ∙ (sym c.grants.ensures ∙ c.if-not-grants.false))
    (eq-eqb c.args.directory root c.if-directory-eq-ROOT.true)

pub returns : goal.returns
unfolding fs_of
returns g c state now is =
    let held = (fs_of c.args.self.now).volume in
    let node = c.in-Some.ensures.some in
    parent_found held.limits held.tree c.args.cred.now c.args.directory state now is node.node node.there
    (ap is_directory (names_are held.tree c.args.directory c.in-Some.cached.now node (c.is_directory.ensures.0 c.if-not-is_directory.false)))
    (sym (granted_by held.tree c.args.directory c.in-Some.cached.now node c.args.cred.now execute) ∙ (sym c.grants.ensures ∙ c.if-not-grants.false))
    (ne_eqb c.args.directory root c.if-directory-eq-ROOT.false)
    ∙ ap (λ (n : ℕ). answered (moved_to state n) Answer.LookupParent) (sym c.parent.ensures)

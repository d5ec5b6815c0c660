use Rattle.std.proofs.Common.{◌∙◌, true, false, is_some, true≢false, sym, ap, subst}
use Rattle.std.proofs.lemmas.Result.{err_from_is_err_and}
use Rattle.model.specs.Operations.Open.{known_refusals}
use Rattle.model_tree.specs.Trees.Tree.{Tree}
use Rattle.fs.specs.Views.{fs_of}
use Rattle.fs.specs.Opening.{file_tests, may_use, type_of}
use Rattle.fs.proofs.OpenTests as tests
use Rattle.fs.proofs.RefusedLaws.{carried}
use Rattle.volume.specs.Nodes.{IsNodeOf}
use Rattle.volume.proofs.ViewLaws.{volume_formed}
use Rattle.volume.proofs.ServeLaws.{is_err_of}
use Rattle.fs.proofs.fs.Fs.permit_known.Goals as goal

-- a name leads to a node

pub unreachable-requires : goal.unreachable-requires
unfolding fs_of
unreachable-requires g c =
    let tree = (fs_of c.args.self.now).volume.tree in
    let there = tests.leads_to_node _ _ tree (volume_formed c.args.self.now.volume) c.args.asked.directory c.args.number c.args.asked.name.now c.requires.leads in
    true≢false (sym there ∙ ap is_some c.in_default.ensures.none)

pub returns-in_err-is_cut-clause-node : goal.returns-in_err-is_cut-clause-node
returns-in_err-is_cut-clause-node g c = rw (is_err_of c.from_residual.result c.in_err-is_cut.field-0.0 c.from_residual.ensures.1) (tt)

pub returns-in_err-is_cut-clause-file : goal.returns-in_err-is_cut-clause-file
returns-in_err-is_cut-clause-file g c = rw (is_err_of c.from_residual.result c.in_err-is_cut.field-0.0 c.from_residual.ensures.1) (tt)

pub returns-in_err-is_cut-clause-fit : goal.returns-in_err-is_cut-clause-fit
returns-in_err-is_cut-clause-fit g c = rw (is_err_of c.from_residual.result c.in_err-is_cut.field-0.0 c.from_residual.ensures.1) (tt)

pub returns-in_err-is_cut-clause-cut : goal.returns-in_err-is_cut-clause-cut
returns-in_err-is_cut-clause-cut g c = rw (is_err_of c.from_residual.result c.in_err-is_cut.field-0.0 c.from_residual.ensures.1) (tt)

pub returns-in_err-is_cut-clause-tests : goal.returns-in_err-is_cut-clause-tests
unfolding fs_of
returns-in_err-is_cut-clause-tests g c state is =
    let held = (fs_of c.args.self.now).volume in
    let asked = c.args.asked in
    let there = subst (λ (t : Tree). IsNodeOf t c.args.number c.in-Some.cached.now) (sym is.tree_is) c.in-Some.ensures.some in
    let p = err_from_is_err_and c.from_residual.result c.from_residual.ensures.1 in
    rw (p.1, p.2) (carried (known_refusals held.limits state c.args.number (type_of asked.how)) (file_tests held.limits state asked.share.access (type_of asked.how) asked.name.now)
    (λ reason bad. tests.bad_known held.limits held.tree c.args.cred.now asked.directory asked.name.now state is asked.share.access (type_of asked.how) c.args.number c.requires.leads reason bad)
    c.in_err-is_cut.field-0.0 (c.in_err-is_cut.ensures.tests state c.args.number is.tree_is there))

pub returns-then-not-may_open-clause-tests : goal.returns-then-not-may_open-clause-tests
unfolding fs_of
returns-then-not-may_open-clause-tests g c state is =
    let held = (fs_of c.args.self.now).volume in
    let asked = c.args.asked in
    let cached_node = c.in-Some.cached.now in
    let there = subst (λ (t : Tree). IsNodeOf t c.args.number cached_node) (sym is.tree_is) c.in-Some.ensures.some in
    tests.by_use held.limits held.tree c.args.cred.now asked.directory asked.name.now state is asked.share.access (type_of asked.how) c.args.number c.requires.leads
    cached_node c.in-Some.ensures.some (c.in_ok-is_cut.ensures.tests state c.args.number is.tree_is there)
    false (ap (may_use cached_node.fields c.args.cred.now asked.share.access) (sym c.in_ok-is_cut.ensures.cut) ∙ (sym c.may_open.ensures ∙ c.if-not-may_open.true))

pub returns-clause-tests : goal.returns-clause-tests
unfolding fs_of
returns-clause-tests g c state is =
    let held = (fs_of c.args.self.now).volume in
    let asked = c.args.asked in
    let cached_node = c.in-Some.cached.now in
    let there = subst (λ (t : Tree). IsNodeOf t c.args.number cached_node) (sym is.tree_is) c.in-Some.ensures.some in
    tests.by_use held.limits held.tree c.args.cred.now asked.directory asked.name.now state is asked.share.access (type_of asked.how) c.args.number c.requires.leads
    cached_node c.in-Some.ensures.some (c.in_ok-is_cut.ensures.tests state c.args.number is.tree_is there)
    true (ap (may_use cached_node.fields c.args.cred.now asked.share.access) (sym c.in_ok-is_cut.ensures.cut) ∙ (sym c.may_open.ensures ∙ c.if-not-may_open.false))

use Rattle.std.proofs.Common.{◌≡◌, false, ap, sym, subst, ◌∙◌, Some, Err}
use Rattle.model.specs.Operations.Context.{Context, has_current}
use Rattle.fs.specs.Views.{fs_of}
use Rattle.fs.specs.Operations.{TestsCurrent}
use Rattle.fs.specs.declared.fault.FsFault.{FsFault}
use Rattle.model_tree.specs.declared.status.Status.{Status}
use Rattle.compound.specs.Views.{in_progress_of}
use Rattle.compound.proofs.Trees.{is_on, is_there, of_request, tests_status, current_bad, current_none}
use Rattle.compound.proofs.reading.Reading.check_current.Goals as goal

pub returns-in-Err-clause-tests : goal.returns-in-Err-clause-tests
returns-in-Err-clause-tests g c = λ state there.
    current_none state (subst (λ (x : Context). has_current x ≡ false) (sym there.context_is) c.in-Err.ensures.err.1)
    ∙ ap (λ (s : Status). Some s) (sym c.in-Err.ensures.err.0)

pub status_of-requires : goal.status_of-requires
status_of-requires g c =
    let fs = fs_of c.args.self.now.fs.now in
    let request = in_progress_of c.args.self.now.running.now in
    tests_status fs (of_request fs request) c.in-Err-check_node.fault c.args.self.now.ready.up
    (c.in-Err-check_node.ensures.step request.context.cred (of_request fs request) (is_on fs request _ _ c.args.self.now.ready.run c.in-Ok.ensures.ok.0 c.in-Ok.ensures.ok.1 (is_there fs request)))

pub returns-in-Err-check_node-clause-tests : goal.returns-in-Err-check_node-clause-tests
returns-in-Err-check_node-clause-tests g c = λ state there.
    let fs = fs_of c.args.self.now.fs.now in
    let request = in_progress_of c.args.self.now.running.now in
    subst (λ (why : FsFault). TestsCurrent fs state (Err why)) c.status_of.ensures
    (c.in-Err-check_node.ensures.step request.context.cred state (is_on fs request _ _ c.args.self.now.ready.run c.in-Ok.ensures.ok.0 c.in-Ok.ensures.ok.1 there))

pub returns-in-Err-check_node-clause-refused : goal.returns-in-Err-check_node-clause-refused
returns-in-Err-check_node-clause-refused g c =
    let fs = fs_of c.args.self.now.fs.now in
    let request = in_progress_of c.args.self.now.running.now in
    let state = of_request fs request in
    current_bad state c.status_of.result
    (subst (λ (why : FsFault). TestsCurrent fs state (Err why)) c.status_of.ensures
    (c.in-Err-check_node.ensures.step request.context.cred state (is_on fs request _ _ c.args.self.now.ready.run c.in-Ok.ensures.ok.0 c.in-Ok.ensures.ok.1 (is_there fs request))))

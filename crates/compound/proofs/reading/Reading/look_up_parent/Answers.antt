use Rattle.std.proofs.Common.{sym, subst, refl, Err}
use Rattle.fs.specs.Views.{fs_of}
use Rattle.fs.specs.Parents.{LooksUpParent}
use Rattle.fs.specs.declared.fault.FsFault.{FsFault}
use Rattle.model.specs.Operations.Answer.{Refused}
use Rattle.model.specs.Operations.Operation.{Argument}
use Rattle.model_tree.specs.declared.status.Status.{Status}
use Rattle.compound.specs.Operates.{GivesIn}
use Rattle.compound.specs.States.{shared}
use Rattle.compound.specs.Views.{in_progress_of}
use Rattle.compound.proofs.Rooms.{gives_refusal}
use Rattle.compound.proofs.Trees.{is_on, is_there, of_request, parent_status, parent_bad, parent_ok, parent_err, wants}
use Rattle.compound.proofs.reading.Reading.look_up_parent.Goals as goal

pub returns-in-Err : goal.returns-in-Err
unfolding in_progress_of
returns-in-Err g c = record {
  answered = c.refuse.ensures.answered;
  gives = λ now table opens.
      let fs = fs_of c.args.self.now.fs.now in
      let request = in_progress_of c.args.self.now.running.now in
      let kind = Argument.LookupParent in
      c.refuse.ensures.gives now (shared fs table opens) (shared fs table opens) kind
      (subst (λ (reason : Status). GivesIn now (shared fs table opens) (shared fs table opens) request request kind (Refused 16 reason)) (sym c.in-Err.ensures.err.0)
      (gives_refusal now (shared fs table opens) (shared fs table opens) request kind 16 _ (wants now fs table opens request kind refl c.in-Err.ensures.err.1)));
}

pub status_of-requires : goal.status_of-requires
unfolding in_progress_of
status_of-requires g c =
    let fs = fs_of c.args.self.now.fs.now in
    let request = in_progress_of c.args.self.now.running.now in
    parent_status fs (of_request fs request) 0 c.in-Err-parent.fault c.args.self.now.ready.up
    (c.in-Err-parent.ensures.step (of_request fs request) 0 (is_on fs request _ _ c.args.self.now.ready.run c.in-Ok.ensures.ok.0 c.in-Ok.ensures.ok.1 (is_there fs request)))

pub refuse-requires-in-Err-parent : goal.refuse-requires-in-Err-parent
unfolding in_progress_of
refuse-requires-in-Err-parent g c =
    let fs = fs_of c.args.self.now.fs.now in
    let request = in_progress_of c.args.self.now.running.now in
    let state = of_request fs request in
    parent_bad fs.volume.limits state 0 c.status_of.result
    (subst (λ (why : FsFault). LooksUpParent fs state 0 (Err why)) c.status_of.ensures
    (c.in-Err-parent.ensures.step state 0 (is_on fs request _ _ c.args.self.now.ready.run c.in-Ok.ensures.ok.0 c.in-Ok.ensures.ok.1 (is_there fs request))))

pub returns-in-Ok-parent : goal.returns-in-Ok-parent
unfolding in_progress_of
returns-in-Ok-parent g c = record {
  answered = c.settle.ensures.answered;
  gives = λ now table opens.
      let fs = fs_of c.args.self.now.fs.now in
      let request = in_progress_of c.args.self.now.running.now in
      c.settle.ensures.gives now (shared fs table opens) Argument.LookupParent refl
      (parent_ok now fs table opens request c.in-Ok-parent.number
      (λ state there. c.in-Ok-parent.ensures.step state now (is_on fs request _ _ c.args.self.now.ready.run c.in-Ok.ensures.ok.0 c.in-Ok.ensures.ok.1 there)));
}

pub returns-in-Err-parent : goal.returns-in-Err-parent
unfolding in_progress_of
returns-in-Err-parent g c = record {
  answered = c.refuse-in-Err-parent.ensures.answered;
  gives = λ now table opens.
      let fs = fs_of c.args.self.now.fs.now in
      let request = in_progress_of c.args.self.now.running.now in
      let kind = Argument.LookupParent in
      c.refuse-in-Err-parent.ensures.gives now (shared fs table opens) (shared fs table opens) kind
      (gives_refusal now (shared fs table opens) (shared fs table opens) request kind 16 c.status_of.result
      (parent_err now fs table opens request c.status_of.result
      (λ state there. subst (λ (why : FsFault). LooksUpParent fs state now (Err why)) c.status_of.ensures
      (c.in-Err-parent.ensures.step state now (is_on fs request _ _ c.args.self.now.ready.run c.in-Ok.ensures.ok.0 c.in-Ok.ensures.ok.1 there)))));
}

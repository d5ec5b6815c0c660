use Rattle.std.proofs.Common.{sym, subst, ap, refl, Err, ◌∙◌}
use Rattle.fs.specs.AccessRights.{TellsAccess}
use Rattle.fs.specs.Views.{fs_of}
use Rattle.fs.specs.declared.fault.FsFault.{FsFault}
use Rattle.model.specs.Operations.Answer.{Answer, Refused, AccessAnswer}
use Rattle.model.specs.Operations.Operation.{Argument}
use Rattle.model.specs.Operations.Step.{answered}
use Rattle.model_tree.specs.declared.status.Status.{Status}
use Rattle.compound.specs.Operates.{GivesIn}
use Rattle.compound.specs.States.{shared}
use Rattle.compound.specs.Views.{in_progress_of}
use Rattle.compound.proofs.Rooms.{gives_refusal}
use Rattle.compound.proofs.Telling.{tells_status, access_bad, access_on_tree, tells_ok, tells_err}
use Rattle.compound.proofs.Trees.{is_on, is_there, of_request, wants}
use Rattle.wire.specs.AnswerViews.{access_view}
use Rattle.compound.proofs.reading.Reading.access.Goals as goal

pub returns-in-Err : goal.returns-in-Err
unfolding in_progress_of
returns-in-Err g c = record {
  answered = c.refuse.ensures.answered;
  gives = λ now table opens.
      let fs = fs_of c.args.self.now.fs.now in
      let request = in_progress_of c.args.self.now.running.now in
      let kind = Argument.Access c.args.asked in
      c.refuse.ensures.gives now (shared fs table opens) (shared fs table opens) kind
      (subst (λ (reason : Status). GivesIn now (shared fs table opens) (shared fs table opens) request request kind (Refused 3 reason)) (sym c.in-Err.ensures.err.0)
      (gives_refusal now (shared fs table opens) (shared fs table opens) request kind 3 _ (wants now fs table opens request kind refl c.in-Err.ensures.err.1)));
}

pub status_of-requires : goal.status_of-requires
unfolding in_progress_of
status_of-requires g c =
    let fs = fs_of c.args.self.now.fs.now in
    let request = in_progress_of c.args.self.now.running.now in
    tells_status fs (of_request fs request) 0 (Argument.Access c.args.asked) c.in-Err-access.fault c.args.self.now.ready.up
    (c.in-Err-access.ensures.step (of_request fs request) 0 (is_on fs request _ _ c.args.self.now.ready.run c.in-Ok.ensures.ok.0 c.in-Ok.ensures.ok.1 (is_there fs request)))

pub refuse-requires-in-Err-access : goal.refuse-requires-in-Err-access
unfolding in_progress_of
refuse-requires-in-Err-access g c =
    let fs = fs_of c.args.self.now.fs.now in
    let request = in_progress_of c.args.self.now.running.now in
    let state = of_request fs request in
    access_bad fs.volume.limits state 0 c.args.asked c.status_of.result
    (subst (λ (why : FsFault). TellsAccess fs state 0 c.args.asked (Err why)) c.status_of.ensures
    (c.in-Err-access.ensures.step state 0 (is_on fs request _ _ c.args.self.now.ready.run c.in-Ok.ensures.ok.0 c.in-Ok.ensures.ok.1 (is_there fs request))))

pub returns-in-Ok-access : goal.returns-in-Ok-access
unfolding in_progress_of
returns-in-Ok-access g c = record {
  answered = c.settle.ensures.answered;
  gives = λ now table opens.
      let fs = fs_of c.args.self.now.fs.now in
      let request = in_progress_of c.args.self.now.running.now in
      let kind = Argument.Access c.args.asked in
      c.settle.ensures.gives now (shared fs table opens) kind refl
      (tells_ok now fs table opens request kind (access_on_tree c.args.asked) (Answer.Access (access_view c.answered.result))
      (λ state there. c.in-Ok-access.ensures.step state now (is_on fs request _ _ c.args.self.now.ready.run c.in-Ok.ensures.ok.0 c.in-Ok.ensures.ok.1 there)
      ∙ ap (λ (told : AccessAnswer). answered state (Answer.Access told)) (sym c.answered.ensures)));
}

pub returns-in-Err-access : goal.returns-in-Err-access
unfolding in_progress_of
returns-in-Err-access g c = record {
  answered = c.refuse-in-Err-access.ensures.answered;
  gives = λ now table opens.
      let fs = fs_of c.args.self.now.fs.now in
      let request = in_progress_of c.args.self.now.running.now in
      let kind = Argument.Access c.args.asked in
      c.refuse-in-Err-access.ensures.gives now (shared fs table opens) (shared fs table opens) kind
      (gives_refusal now (shared fs table opens) (shared fs table opens) request kind 3 c.status_of.result
      (tells_err now fs table opens request kind (access_on_tree c.args.asked) c.status_of.result
      (λ state there. subst (λ (why : FsFault). TellsAccess fs state now c.args.asked (Err why)) c.status_of.ensures
      (c.in-Err-access.ensures.step state now (is_on fs request _ _ c.args.self.now.ready.run c.in-Ok.ensures.ok.0 c.in-Ok.ensures.ok.1 there)))));
}

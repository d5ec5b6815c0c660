use Rattle.std.proofs.Common.{sym, subst, refl, Err}
use Rattle.fs.specs.Views.{fs_of}
use Rattle.fs.specs.Operations.{GetsHandle}
use Rattle.fs.specs.declared.fault.FsFault.{FsFault}
use Rattle.model.specs.Operations.Answer.{Answer, Refused}
use Rattle.model.specs.Operations.Operation.{Argument}
use Rattle.model_tree.specs.declared.status.Status.{Status}
use Rattle.compound.specs.Operates.{GivesIn}
use Rattle.compound.specs.States.{shared}
use Rattle.compound.specs.Views.{in_progress_of}
use Rattle.compound.proofs.Rooms.{gives_refusal}
use Rattle.compound.proofs.Trees.{is_on, is_there, of_request, gets_status, get_bad, got_ok, got_err, wants}
use Rattle.compound.proofs.reading.Reading.get_handle.Goals as goal

pub returns-in-Err : goal.returns-in-Err
returns-in-Err g c = record {
  answered = c.refuse.ensures.answered;
  gives = λ now table opens.
      let fs = fs_of c.args.self.now.fs.now in
      let request = in_progress_of c.args.self.now.running.now in
      let kind = Argument.GetFh in
      c.refuse.ensures.gives now (shared fs table opens) (shared fs table opens) kind
      (subst (λ (reason : Status). GivesIn now (shared fs table opens) (shared fs table opens) request request kind (Refused 10 reason)) (sym c.in-Err.ensures.err.0)
      (gives_refusal now (shared fs table opens) (shared fs table opens) request kind 10 _ (wants now fs table opens request kind refl c.in-Err.ensures.err.1)));
}

pub status_of-requires : goal.status_of-requires
status_of-requires g c =
    let fs = fs_of c.args.self.now.fs.now in
    let request = in_progress_of c.args.self.now.running.now in
    gets_status fs (of_request fs request) 0 c.in-Err-handle.fault c.args.self.now.ready.up
    (c.in-Err-handle.ensures.step request.context.cred (of_request fs request) 0 (is_on fs request _ _ c.args.self.now.ready.run c.in-Ok.ensures.ok.0 c.in-Ok.ensures.ok.1 (is_there fs request)))

pub refuse-requires-in-Err-handle : goal.refuse-requires-in-Err-handle
refuse-requires-in-Err-handle g c =
    let fs = fs_of c.args.self.now.fs.now in
    let request = in_progress_of c.args.self.now.running.now in
    let state = of_request fs request in
    get_bad fs.volume.limits state 0 c.status_of.result
    (subst (λ (why : FsFault). GetsHandle fs state 0 (Err why)) c.status_of.ensures
    (c.in-Err-handle.ensures.step request.context.cred state 0 (is_on fs request _ _ c.args.self.now.ready.run c.in-Ok.ensures.ok.0 c.in-Ok.ensures.ok.1 (is_there fs request))))

pub returns-in_ok-values-in-Ok-handle : goal.returns-in_ok-values-in-Ok-handle
returns-in_ok-values-in-Ok-handle g c = record {
  answered = c.settle_encoded.ensures.answered;
  gives = λ now table opens.
      let fs = fs_of c.args.self.now.fs.now in
      let request = in_progress_of c.args.self.now.running.now in
      c.settle_encoded.ensures.gives now (shared fs table opens) Argument.GetFh (Answer.GetFh c.in-Ok-handle.handle)
      (record { number_is = refl; values_are = sym c.in_ok-values-in-Ok-handle.ensures }) refl
      (got_ok now fs table opens request c.in-Ok-handle.handle
      (λ state there. c.in-Ok-handle.ensures.step request.context.cred state now (is_on fs request _ _ c.args.self.now.ready.run c.in-Ok.ensures.ok.0 c.in-Ok.ensures.ok.1 there)));
}

pub returns-in-Err-handle : goal.returns-in-Err-handle
returns-in-Err-handle g c = record {
  answered = c.refuse-in-Err-handle.ensures.answered;
  gives = λ now table opens.
      let fs = fs_of c.args.self.now.fs.now in
      let request = in_progress_of c.args.self.now.running.now in
      let kind = Argument.GetFh in
      c.refuse-in-Err-handle.ensures.gives now (shared fs table opens) (shared fs table opens) kind
      (gives_refusal now (shared fs table opens) (shared fs table opens) request kind 10 c.status_of.result
      (got_err now fs table opens request c.status_of.result
      (λ state there. subst (λ (why : FsFault). GetsHandle fs state now (Err why)) c.status_of.ensures
      (c.in-Err-handle.ensures.step request.context.cred state now (is_on fs request _ _ c.args.self.now.ready.run c.in-Ok.ensures.ok.0 c.in-Ok.ensures.ok.1 there)))));
}

use Rattle.std.proofs.Common.{ℕ, List, sym, subst, refl, Ok, Err}
use Rattle.fs.specs.Attributes.{GetsAttributes}
use Rattle.fs.specs.Views.{fs_of}
use Rattle.fs.specs.declared.fault.FsFault.{FsFault}
use Rattle.model.specs.Operations.Answer.{Answer, Refused}
use Rattle.model.specs.Operations.Operation.{Argument}
use Rattle.model_tree.specs.declared.status.Status.{Status}
use Rattle.wire_attributes.specs.NodeValues.{answer_view}
use Rattle.compound.specs.Operates.{GivesIn}
use Rattle.compound.specs.States.{shared}
use Rattle.compound.specs.Views.{in_progress_of}
use Rattle.compound.proofs.Rooms.{gives_refusal}
use Rattle.compound.proofs.Telling.{tells_status, attributes_bad, attributes_on_tree, tells_ok, tells_err}
use Rattle.compound.proofs.Trees.{is_on, is_there, of_request, wants}
use Rattle.compound.proofs.reading.Reading.get_attributes.Goals as goal

pub returns-in-Err : goal.returns-in-Err
unfolding in_progress_of
returns-in-Err g c = record {
  answered = c.refuse.ensures.answered;
  gives = λ now table opens.
      let fs = fs_of c.args.self.now.fs.now in
      let request = in_progress_of c.args.self.now.running.now in
      let kind = Argument.GetAttr c.args.asked.now in
      c.refuse.ensures.gives now (shared fs table opens) (shared fs table opens) kind
      (subst (λ (reason : Status). GivesIn now (shared fs table opens) (shared fs table opens) request request kind (Refused 9 reason)) (sym c.in-Err.ensures.err.0)
      (gives_refusal now (shared fs table opens) (shared fs table opens) request kind 9 _ (wants now fs table opens request kind refl c.in-Err.ensures.err.1)));
}

pub status_of-requires : goal.status_of-requires
unfolding in_progress_of
status_of-requires g c =
    let fs = fs_of c.args.self.now.fs.now in
    let request = in_progress_of c.args.self.now.running.now in
    tells_status fs (of_request fs request) 0 (Argument.GetAttr c.args.asked.now) c.in-Err-attributes.fault c.args.self.now.ready.up
    (subst (λ (bitmap : List ℕ). GetsAttributes fs (of_request fs request) 0 bitmap (Err c.in-Err-attributes.fault)) c.as_slice.ensures.numbers
    (c.in-Err-attributes.ensures.step (of_request fs request) 0 (is_on fs request _ _ c.args.self.now.ready.run c.in-Ok.ensures.ok.0 c.in-Ok.ensures.ok.1 (is_there fs request))))

pub refuse-requires-in-Err-attributes : goal.refuse-requires-in-Err-attributes
unfolding in_progress_of
refuse-requires-in-Err-attributes g c =
    let fs = fs_of c.args.self.now.fs.now in
    let request = in_progress_of c.args.self.now.running.now in
    let state = of_request fs request in
    attributes_bad fs.volume.limits state 0 c.args.asked.now c.status_of.result
    (subst (λ (why : FsFault). GetsAttributes fs state 0 c.args.asked.now (Err why)) c.status_of.ensures
    (subst (λ (bitmap : List ℕ). GetsAttributes fs state 0 bitmap (Err c.in-Err-attributes.fault)) c.as_slice.ensures.numbers
    (c.in-Err-attributes.ensures.step state 0 (is_on fs request _ _ c.args.self.now.ready.run c.in-Ok.ensures.ok.0 c.in-Ok.ensures.ok.1 (is_there fs request)))))

pub returns-in_ok-values-in-Ok-attributes : goal.returns-in_ok-values-in-Ok-attributes
unfolding in_progress_of
returns-in_ok-values-in-Ok-attributes g c = record {
  answered = c.settle_encoded.ensures.answered;
  gives = λ now table opens.
      let fs = fs_of c.args.self.now.fs.now in
      let request = in_progress_of c.args.self.now.running.now in
      let kind = Argument.GetAttr c.args.asked.now in
      let answer = Answer.GetAttr (answer_view c.in-Ok-attributes.answer) in
      c.settle_encoded.ensures.gives now (shared fs table opens) kind answer
      (record { number_is = refl; values_are = sym c.in_ok-values-in-Ok-attributes.ensures }) refl
      (tells_ok now fs table opens request kind (attributes_on_tree c.args.asked.now) answer
      (λ state there. subst (λ (bitmap : List ℕ). GetsAttributes fs state now bitmap (Ok c.in-Ok-attributes.answer)) c.as_slice.ensures.numbers
      (c.in-Ok-attributes.ensures.step state now (is_on fs request _ _ c.args.self.now.ready.run c.in-Ok.ensures.ok.0 c.in-Ok.ensures.ok.1 there))));
}

pub returns-in-Err-attributes : goal.returns-in-Err-attributes
unfolding in_progress_of
returns-in-Err-attributes g c = record {
  answered = c.refuse-in-Err-attributes.ensures.answered;
  gives = λ now table opens.
      let fs = fs_of c.args.self.now.fs.now in
      let request = in_progress_of c.args.self.now.running.now in
      let kind = Argument.GetAttr c.args.asked.now in
      c.refuse-in-Err-attributes.ensures.gives now (shared fs table opens) (shared fs table opens) kind
      (gives_refusal now (shared fs table opens) (shared fs table opens) request kind 9 c.status_of.result
      (tells_err now fs table opens request kind (attributes_on_tree c.args.asked.now) c.status_of.result
      (λ state there. subst (λ (why : FsFault). GetsAttributes fs state now c.args.asked.now (Err why)) c.status_of.ensures
      (subst (λ (bitmap : List ℕ). GetsAttributes fs state now bitmap (Err c.in-Err-attributes.fault)) c.as_slice.ensures.numbers
      (c.in-Err-attributes.ensures.step state now (is_on fs request _ _ c.args.self.now.ready.run c.in-Ok.ensures.ok.0 c.in-Ok.ensures.ok.1 there))))));
}

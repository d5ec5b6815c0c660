use Rattle.std.proofs.Common.{sym, subst, refl, Err}
use Rattle.fs.specs.Views.{fs_of}
use Rattle.fs.specs.Operations.{LooksUp}
use Rattle.fs.specs.declared.fault.FsFault.{FsFault}
use Rattle.model.specs.Operations.Answer.{Refused}
use Rattle.model.specs.Operations.Operation.{Argument}
use Rattle.model_tree.specs.declared.status.Status.{Status}
use Rattle.compound.specs.Operates.{GivesIn}
use Rattle.compound.specs.States.{shared}
use Rattle.compound.specs.Views.{in_progress_of}
use Rattle.compound.proofs.Rooms.{gives_refusal}
use Rattle.compound.proofs.Trees.{is_on, is_there, of_request, looks_status, lookup_bad, looked_ok, looked_err, wants}
use Rattle.compound.proofs.reading.Reading.look_up.Goals as goal

pub returns-in-Err : goal.returns-in-Err
unfolding in_progress_of
returns-in-Err g c = record {
  answered = c.refuse.ensures.answered;
  gives = λ now table opens.
      let fs = fs_of c.args.self.now.fs.now in
      let request = in_progress_of c.args.self.now.running.now in
      let kind = Argument.Lookup c.args.name.now in
      c.refuse.ensures.gives now (shared fs table opens) (shared fs table opens) kind
      (subst (λ (reason : Status). GivesIn now (shared fs table opens) (shared fs table opens) request request kind (Refused 15 reason)) (sym c.in-Err.ensures.err.0)
      (gives_refusal now (shared fs table opens) (shared fs table opens) request kind 15 _ (wants now fs table opens request kind refl c.in-Err.ensures.err.1)));
}

pub status_of-requires : goal.status_of-requires
unfolding in_progress_of
status_of-requires g c =
    let fs = fs_of c.args.self.now.fs.now in
    let request = in_progress_of c.args.self.now.running.now in
    looks_status fs (of_request fs request) 0 c.args.name.now c.in-Err-lookup.fault c.args.self.now.ready.up
    (c.in-Err-lookup.ensures.step (of_request fs request) 0 (is_on fs request _ _ c.args.self.now.ready.run c.in-Ok.ensures.ok.0 c.in-Ok.ensures.ok.1 (is_there fs request)))

pub refuse-requires-in-Err-lookup : goal.refuse-requires-in-Err-lookup
unfolding in_progress_of
refuse-requires-in-Err-lookup g c =
    let fs = fs_of c.args.self.now.fs.now in
    let request = in_progress_of c.args.self.now.running.now in
    let state = of_request fs request in
    lookup_bad fs.volume.limits state 0 c.args.name.now c.status_of.result
    (subst (λ (why : FsFault). LooksUp fs state 0 c.args.name.now (Err why)) c.status_of.ensures
    (c.in-Err-lookup.ensures.step state 0 (is_on fs request _ _ c.args.self.now.ready.run c.in-Ok.ensures.ok.0 c.in-Ok.ensures.ok.1 (is_there fs request))))

pub returns-in-Ok-lookup : goal.returns-in-Ok-lookup
unfolding in_progress_of
returns-in-Ok-lookup g c = record {
  answered = c.settle.ensures.answered;
  gives = λ now table opens.
      let fs = fs_of c.args.self.now.fs.now in
      let request = in_progress_of c.args.self.now.running.now in
      c.settle.ensures.gives now (shared fs table opens) (Argument.Lookup c.args.name.now) refl
      (looked_ok now fs table opens request c.args.name.now c.in-Ok-lookup.number
      (λ state there. c.in-Ok-lookup.ensures.step state now (is_on fs request _ _ c.args.self.now.ready.run c.in-Ok.ensures.ok.0 c.in-Ok.ensures.ok.1 there)));
}

pub returns-in-Err-lookup : goal.returns-in-Err-lookup
unfolding in_progress_of
returns-in-Err-lookup g c = record {
  answered = c.refuse-in-Err-lookup.ensures.answered;
  gives = λ now table opens.
      let fs = fs_of c.args.self.now.fs.now in
      let request = in_progress_of c.args.self.now.running.now in
      let kind = Argument.Lookup c.args.name.now in
      c.refuse-in-Err-lookup.ensures.gives now (shared fs table opens) (shared fs table opens) kind
      (gives_refusal now (shared fs table opens) (shared fs table opens) request kind 15 c.status_of.result
      (looked_err now fs table opens request c.args.name.now c.status_of.result
      (λ state there. subst (λ (why : FsFault). LooksUp fs state now c.args.name.now (Err why)) c.status_of.ensures
      (c.in-Err-lookup.ensures.step state now (is_on fs request _ _ c.args.self.now.ready.run c.in-Ok.ensures.ok.0 c.in-Ok.ensures.ok.1 there)))));
}

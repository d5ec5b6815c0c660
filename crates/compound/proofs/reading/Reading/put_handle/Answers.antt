use Rattle.std.proofs.Common.{subst, refl, Err}
use Rattle.fs.specs.Views.{fs_of}
use Rattle.fs.specs.Operations.{PutsHandle}
use Rattle.fs.specs.declared.fault.FsFault.{FsFault}
use Rattle.model.specs.Operations.Operation.{Argument}
use Rattle.compound.specs.States.{shared}
use Rattle.compound.specs.Views.{in_progress_of}
use Rattle.compound.proofs.Rooms.{gives_refusal}
use Rattle.compound.proofs.Trees.{of_request, puts_status, put_bad, put_ok, put_err}
use Rattle.compound.proofs.reading.Reading.put_handle.Goals as goal

pub status_of-requires : goal.status_of-requires
status_of-requires g c =
    let fs = fs_of c.args.self.now.fs.now in
    let state = of_request fs (in_progress_of c.args.self.now.running.now) in
    puts_status fs state 0 c.args.handle.now c.in-Err.fault c.args.self.now.ready.up (c.in-Err.ensures.step state 0 refl)

pub refuse-requires : goal.refuse-requires
refuse-requires g c =
    let fs = fs_of c.args.self.now.fs.now in
    let state = of_request fs (in_progress_of c.args.self.now.running.now) in
    put_bad fs.volume.limits state 0 c.args.handle.now c.status_of.result
    (subst (λ (why : FsFault). PutsHandle fs state 0 c.args.handle.now (Err why)) c.status_of.ensures (c.in-Err.ensures.step state 0 refl))

pub returns-in-Ok : goal.returns-in-Ok
returns-in-Ok g c = record {
  answered = c.settle.ensures.answered;
  gives = λ now table opens.
      let fs = fs_of c.args.self.now.fs.now in
      c.settle.ensures.gives now (shared fs table opens) (Argument.PutFh c.args.handle.now) refl
      (put_ok now fs table opens (in_progress_of c.args.self.now.running.now) c.args.handle.now c.in-Ok.number (λ state there. c.in-Ok.ensures.step state now there.tree_is));
}

pub returns-in-Err : goal.returns-in-Err
returns-in-Err g c = record {
  answered = c.refuse.ensures.answered;
  gives = λ now table opens.
      let fs = fs_of c.args.self.now.fs.now in
      let request = in_progress_of c.args.self.now.running.now in
      let kind = Argument.PutFh c.args.handle.now in
      c.refuse.ensures.gives now (shared fs table opens) (shared fs table opens) kind
      (gives_refusal now (shared fs table opens) (shared fs table opens) request kind 22 c.status_of.result
      (put_err now fs table opens request c.args.handle.now c.status_of.result
      (λ state there. subst (λ (why : FsFault). PutsHandle fs state now c.args.handle.now (Err why)) c.status_of.ensures (c.in-Err.ensures.step state now there.tree_is))));
}

use Rattle.fs.specs.Views.{fs_of}
use Rattle.model.specs.Operations.Operation.{Argument}
use Rattle.model_tree.specs.declared.status.Status.TheVariants as status
use Rattle.compound.specs.States.{shared}
use Rattle.compound.specs.Views.{in_progress_of}
use Rattle.compound.proofs.BesideLaws.{refused_beside}
use Rattle.compound.proofs.OpenLaws.{on_tree, refused_current, refused_opening}
use Rattle.compound.proofs.reading.Reading.refuse_opening.Goals as goal

pub returns-in-Ok : goal.returns-in-Ok
returns-in-Ok g c = λ arguments unserved. record {
  answered = c.refuse.ensures.answered;
  gives = λ now table opens.
      let fs = fs_of c.args.self.now.fs.now in
      let request = in_progress_of c.args.self.now.running.now in
      c.refuse.ensures.gives now (shared fs table opens) (shared fs table opens) (Argument.Open arguments)
      (refused_beside now fs request (Argument.Open arguments) (on_tree now request arguments) table opens status.NotSupp
      (λ state there. refused_opening fs.volume.limits state now arguments.seqid arguments.access arguments.deny arguments.client arguments.owner arguments.opening
      (c.in-Ok.ensures.tests state there.here) unserved));
}

pub returns-in-Err : goal.returns-in-Err
returns-in-Err g c = λ arguments unserved. record {
  answered = c.refuse-in-Err.ensures.answered;
  gives = λ now table opens.
      let fs = fs_of c.args.self.now.fs.now in
      let request = in_progress_of c.args.self.now.running.now in
      c.refuse-in-Err.ensures.gives now (shared fs table opens) (shared fs table opens) (Argument.Open arguments)
      (refused_beside now fs request (Argument.Open arguments) (on_tree now request arguments) table opens c.in-Err.status
      (λ state there. refused_current fs.volume.limits state now arguments c.in-Err.status (c.in-Err.ensures.tests state there.here)));
}

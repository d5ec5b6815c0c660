use Rattle.fs.specs.Views.{fs_of}
use Rattle.model.specs.Operations.Operation.{Argument, OtherType}
use Rattle.model_tree.specs.declared.status.Status.TheVariants as status
use Rattle.compound.specs.States.{shared}
use Rattle.compound.specs.Views.{in_progress_of}
use Rattle.compound.proofs.Rooms.{gives_refusal}
use Rattle.compound.proofs.Trees.{other_ok, other_err}
use Rattle.compound.proofs.reading.Reading.create_other.Goals as goal

pub returns-in-Ok : goal.returns-in-Ok
returns-in-Ok g c = record {
  answered = c.refuse.ensures.answered;
  gives = λ now table opens.
      let fs = fs_of c.args.self.now.fs.now in
      let request = in_progress_of c.args.self.now.running.now in
      let kind = Argument.Create (OtherType c.args.kind) in
      c.refuse.ensures.gives now (shared fs table opens) (shared fs table opens) kind
      (gives_refusal now (shared fs table opens) (shared fs table opens) request kind 6 status.BadType (other_ok now fs table opens request c.args.kind c.in-Ok.ensures.tests));
}

pub returns-in-Err : goal.returns-in-Err
returns-in-Err g c = record {
  answered = c.refuse-in-Err.ensures.answered;
  gives = λ now table opens.
      let fs = fs_of c.args.self.now.fs.now in
      let request = in_progress_of c.args.self.now.running.now in
      let kind = Argument.Create (OtherType c.args.kind) in
      c.refuse-in-Err.ensures.gives now (shared fs table opens) (shared fs table opens) kind
      (gives_refusal now (shared fs table opens) (shared fs table opens) request kind 6 c.in-Err.status
      (other_err now fs table opens request c.args.kind c.in-Err.status c.in-Err.ensures.tests));
}

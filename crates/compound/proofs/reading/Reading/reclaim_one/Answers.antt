use Rattle.std.proofs.Common.{refl, true}
use Rattle.fs.specs.Views.{fs_of}
use Rattle.model.specs.Operations.Operation.{Argument}
use Rattle.compound.specs.States.{shared}
use Rattle.compound.specs.Views.{in_progress_of}
use Rattle.compound.proofs.Rooms.{gives_refusal}
use Rattle.compound.proofs.Trees.{reclaim_ok, reclaim_err}
use Rattle.compound.proofs.reading.Reading.reclaim_one.Goals as goal

pub returns-in-Ok : goal.returns-in-Ok
returns-in-Ok g c = record {
  answered = c.settle.ensures.answered;
  gives = λ now table opens.
      let fs = fs_of c.args.self.now.fs.now in
      c.settle.ensures.gives now (shared fs table opens) (Argument.ReclaimComplete true) refl
      (reclaim_ok now fs table opens (in_progress_of c.args.self.now.running.now) c.in-Ok.ensures.tests);
}

pub returns-in-Err : goal.returns-in-Err
returns-in-Err g c = record {
  answered = c.refuse.ensures.answered;
  gives = λ now table opens.
      let fs = fs_of c.args.self.now.fs.now in
      let request = in_progress_of c.args.self.now.running.now in
      let kind = Argument.ReclaimComplete true in
      c.refuse.ensures.gives now (shared fs table opens) (shared fs table opens) kind
      (gives_refusal now (shared fs table opens) (shared fs table opens) request kind 58 c.in-Err.status
      (reclaim_err now fs table opens request c.in-Err.status c.in-Err.ensures.tests));
}

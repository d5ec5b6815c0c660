use Rattle.std.proofs.Common.{refl}
use Rattle.model.specs.Operations.Operation.{Argument}
use Rattle.compound.specs.States.{shared}
use Rattle.compound.specs.Views.{in_progress_of}
use Rattle.compound.proofs.Trees.{root_runs}
use Rattle.compound.proofs.running.Running.put_root.Goals as goal

pub returns : goal.returns
returns c = λ files. record {
  answered = c.settle.ensures.answered;
  gives = λ now table opens.
      c.settle.ensures.gives now (shared files table opens) Argument.PutRootFh refl (root_runs now files table opens (in_progress_of c.args.self.now));
}

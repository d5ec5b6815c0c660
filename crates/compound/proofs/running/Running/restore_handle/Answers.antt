use Rattle.std.proofs.Common.{sym, subst, refl}
use Rattle.model.specs.Operations.Answer.{Refused}
use Rattle.model.specs.Operations.Operation.{Argument}
use Rattle.model_tree.specs.declared.status.Status.{Status}
use Rattle.compound.specs.Operates.{GivesIn}
use Rattle.compound.specs.States.{shared}
use Rattle.compound.specs.Views.{in_progress_of}
use Rattle.compound.proofs.Rooms.{gives_refusal}
use Rattle.compound.proofs.Trees.{restore_ok, restore_err}
use Rattle.compound.proofs.running.Running.restore_handle.Goals as goal

pub returns-in-Ok : goal.returns-in-Ok
returns-in-Ok c = λ files. record {
  answered = c.settle.ensures.answered;
  gives = λ now table opens.
      c.settle.ensures.gives now (shared files table opens) Argument.RestoreFh refl
      (restore_ok now files table opens (in_progress_of c.args.self.now) c.in-Ok.ensures.ok.0);
}

pub returns-in-Err : goal.returns-in-Err
returns-in-Err c = λ files. record {
  answered = c.refuse.ensures.answered;
  gives = λ now table opens.
      let request = in_progress_of c.args.self.now in
      c.refuse.ensures.gives now (shared files table opens) (shared files table opens) Argument.RestoreFh
      (subst (λ (reason : Status). GivesIn now (shared files table opens) (shared files table opens) request request Argument.RestoreFh (Refused 31 reason)) (sym c.in-Err.ensures.err.0)
      (gives_refusal now (shared files table opens) (shared files table opens) request Argument.RestoreFh 31 _ (restore_err now files table opens request c.in-Err.ensures.err.1)));
}

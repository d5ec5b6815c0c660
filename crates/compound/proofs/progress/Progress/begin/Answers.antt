use Rattle.std.proofs.Common.{refl}
use Rattle.compound.proofs.Resuming.{begins}
use Rattle.compound.proofs.progress.Progress.begin.Goals as goal

pub returns : goal.returns
returns c =
    begins c.args.run _ refl refl c.in_ok-results.ensures.0 refl refl refl refl refl refl refl

use Rattle.std.proofs.Common.{refl, Result, Ok}
use Rattle.fs.specs.Views.{fs_of, fs_failures}
use Rattle.opens.specs.Views.{opens_of}
use Rattle.session.specs.Views.{table_of}
use Rattle.wire.specs.ArgumentViews.{open_view}
use Rattle.compound.specs.States.{shared_of}
use Rattle.compound.specs.Views.{in_progress_of}
use Rattle.compound.specs.declared.executed.Executed.{Executed}
use Rattle.compound.specs.declared.fault.Fault.{Fault}
use Rattle.compound.proofs.OpenNamedLaws.{open_still}
use Rattle.compound.proofs.Outcomes.{opened_if, opened_answered, opened_memory}
use Rattle.compound.proofs.running.Running.open.Goals as goal

-- What is not served is refused

pub returns-in-Exclusive : goal.returns-in-Exclusive
returns-in-Exclusive g c =
    let engine = c.args.engine.now in
    let arguments = open_view c.args.arguments.now in
    let done : Result Executed Fault = Ok c.refuse_opening.result in
    let reads = c.refuse_opening.ensures arguments (rw c.in-Exclusive.is refl) in
    record {
      same = record { fs = refl; table = refl; opens = refl };
      state = record {
        gives = λ keeps. reads.gives engine.moment (table_of engine.table.now) (opens_of engine.opens.now);
        answered = reads.answered;
        table = refl;
        opens = tt;
        volume = open_still g.D.Device.keeps_word (shared_of engine.fs.now engine.table.now engine.opens.now) (fs_failures engine.fs.now) (in_progress_of c.args.self.now) engine.moment
            arguments done c.requires.up (λ one. rw c.in-Exclusive.is refl) (λ reason is. absurd cc);
      };
    }

pub returns-in-OtherClaim : goal.returns-in-OtherClaim
returns-in-OtherClaim g c =
    let engine = c.args.engine.now in
    let arguments = open_view c.args.arguments.now in
    let done : Result Executed Fault = Ok c.refuse_opening-in-OtherClaim.result in
    let reads = c.refuse_opening-in-OtherClaim.ensures arguments (rw (c.in-Opens.is, c.in-OtherClaim.is) refl) in
    record {
      same = record { fs = refl; table = refl; opens = refl };
      state = record {
        gives = λ keeps. reads.gives engine.moment (table_of engine.table.now) (opens_of engine.opens.now);
        answered = reads.answered;
        table = refl;
        opens = tt;
        volume = open_still g.D.Device.keeps_word (shared_of engine.fs.now engine.table.now engine.opens.now) (fs_failures engine.fs.now) (in_progress_of c.args.self.now) engine.moment
            arguments done c.requires.up (λ one. rw (c.in-Opens.is, c.in-OtherClaim.is) refl) (λ reason is. absurd cc);
      };
    }

-- The current file

pub returns-in-ByHandle : goal.returns-in-ByHandle
returns-in-ByHandle g c =
    let engine = c.args.engine.now in
    record {
      same = record { fs = refl; table = refl; opens = refl };
      state = record {
        gives = λ keeps. opened_if engine.moment (table_of engine.table.now) _ _ _ _ c.open_current.result c.open_current.ensures.gives;
        answered = opened_answered _ _ _ _ c.open_current.result c.open_current.ensures.gives;
        table = refl;
        opens = c.open_current.ensures.opens;
        volume = open_still g.D.Device.keeps_word (shared_of engine.fs.now engine.table.now engine.opens.now) (fs_failures engine.fs.now) (in_progress_of c.args.self.now) engine.moment
            (open_view c.args.arguments.now) c.open_current.result c.requires.up (λ one. rw (c.in-Opens.is, c.in-ByHandle.is) refl)
            (opened_memory _ _ _ _ c.open_current.result c.open_current.ensures.gives);
      };
    }

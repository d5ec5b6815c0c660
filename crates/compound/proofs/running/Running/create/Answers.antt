use Rattle.std.proofs.Common.{refl}
use Rattle.fs.specs.Views.{fs_of, fs_failures}
use Rattle.compound.specs.States.{shared, shared_of}
use Rattle.compound.specs.Views.{in_progress_of}
use Rattle.opens.specs.Views.{opens_of}
use Rattle.session.specs.Views.{table_of}
use Rattle.compound.proofs.VolumeLaws.{other_changes}
use Rattle.compound.proofs.running.Running.create.Goals as goal

pub returns-in-NewDirectory : goal.returns-in-NewDirectory
returns-in-NewDirectory g c = rw c.in-NewDirectory.is c.create_directory.ensures

-- only a directory is made
pub returns-in-OtherType : goal.returns-in-OtherType
returns-in-OtherType g c = record {
  same = record { fs = refl; table = refl; opens = refl };
  state = record {
    gives = λ keeps. rw c.in-OtherType.is
        (c.create_other.ensures.gives c.args.engine.now.moment (table_of c.args.engine.now.table.now) (opens_of c.args.engine.now.opens.now));
    answered = c.create_other.ensures.answered;
    table = refl;
    opens = tt;
    volume = rw c.in-OtherType.is
        (other_changes g.D.Device.keeps_word (shared_of c.args.engine.now.fs.now c.args.engine.now.table.now c.args.engine.now.opens.now) (fs_failures c.args.engine.now.fs.now)
        (in_progress_of c.args.self.now) c.args.engine.now.moment _ c.requires.up);
  };
}
